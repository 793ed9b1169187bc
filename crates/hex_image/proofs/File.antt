-- The written text is a HEX file of the image.
use Rattle.std.proofs.Common.{◌≡◌, ℕ, zero, suc, ◌+◌, ◌-◌, ◌*◌, ◌/◌, ◌%◌, ◌<◌, ◌≤◌, Bool, true, false, Option, Some, None, List, [], ◌∷◌, ◌++◌, length, slice_index, refl, sym, ap, ◌∙◌, subst, arith, nat_eq, ⊎_elim, append_assoc, append-nil, length-append, add-zero}
use Rattle.std.specs.Prelude.{if◌then◌else◌}
use Rattle.std.specs.List.{sum}
use Rattle.std.proofs.Math.Seq.{take-append_seam}
use Rattle.std.proofs.lemmas.Bool.{cases_lt, eq-eqb, eqb-true, and_parts}
use Rattle.std.proofs.lemmas.List.Sums.{sum_by-append}
use Rattle.pic_chip.specs.Words.{AreWords}
use Rattle.text_lines.specs.Text.{lines_of, split_lines, without_cr, hex_pairs, bytes_of}
use Rattle.hex_image.specs.HexFile.{fields, fields_in, record_of, Given, from_address, in_front, with_record, given_by, times, byte_at, IsHexFile}
use Rattle.hex_image.specs.HexText.{checksum, record_line, word_bytes, block, block_bytes, is_erased, block_text, blocks_text, hex_text}
use Rattle.text_lines.proofs.Digits.{AreBytes, pairs_back}
use Rattle.text_lines.proofs.Lines.{first_line, plain_pairs}
use Rattle.hex_image.proofs.Bytes.{times-append, byte-append, times_below, times_behind, times_once, byte_below, byte_behind, byte_there, length-word_bytes, low_byte, high_byte}
use Rattle.hex_image.proofs.Written.{first_text, end_text, whole}

bytes-append : (xs ys : List ℕ) → AreBytes xs → AreBytes ys → AreBytes (xs ++ ys)
bytes-append [] ys h k = k
bytes-append (x ∷ xs) ys h k = (h.0, bytes-append xs ys h.1 k)

checksum_small : (bytes : List ℕ) → checksum bytes < 256
checksum_small bytes = omega arith

checked : (bytes : List ℕ) → sum (bytes ++ checksum bytes ∷ []) % 256 ≡ 0
checked bytes =
    let e : sum (bytes ++ checksum bytes ∷ []) ≡ sum bytes + (0 + checksum bytes) = sum_by-append (λ x. x) bytes (checksum bytes ∷ []) in
    let s = sum bytes in
    rw e (omega arith)

-- a data record with its checksum is read as it is
data_fields : (address : ℕ) (bytes : List ℕ) → address < 65536
    → fields ((length bytes ∷ (address / 256) ∷ (address % 256) ∷ 0 ∷ bytes) ++ checksum (length bytes ∷ (address / 256) ∷ (address % 256) ∷ 0 ∷ bytes) ∷ [])
    ≡ Some (record { kind = 0; address = address; bytes = bytes })
data_fields address bytes h =
    let front : List ℕ = length bytes ∷ (address / 256) ∷ (address % 256) ∷ 0 ∷ bytes in
    let s = checksum front in
    let long : nat_eq (length (bytes ++ s ∷ [])) (length bytes + 1) ≡ true = eq-eqb (length (bytes ++ s ∷ [])) (length bytes + 1) (length-append bytes (s ∷ [])) in
    let even : nat_eq (sum (front ++ s ∷ []) % 256) 0 ≡ true = eq-eqb (sum (front ++ s ∷ []) % 256) 0 (checked front) in
    let place : 256 * (address / 256) + address % 256 ≡ address = omega arith in
    rw (long, even, place, take-append_seam bytes (s ∷ [])) refl

data_line : (address : ℕ) (bytes : List ℕ) → address < 65536 → length bytes < 256 → AreBytes bytes
    → record_of 58 (hex_pairs ((length bytes ∷ (address / 256) ∷ (address % 256) ∷ 0 ∷ bytes) ++ checksum (length bytes ∷ (address / 256) ∷ (address % 256) ∷ 0 ∷ bytes) ∷ []))
    ≡ Some (record { kind = 0; address = address; bytes = bytes })
data_line address bytes h l small =
    let front : List ℕ = length bytes ∷ (address / 256) ∷ (address % 256) ∷ 0 ∷ bytes in
    let each : AreBytes (front ++ checksum front ∷ []) = bytes-append front (checksum front ∷ []) (l, (omega arith, (omega arith, (omega arith, small)))) (checksum_small front, tt) in
    ap fields_in (pairs_back (front ++ checksum front ∷ []) each) ∙ data_fields address bytes h

-- the words of a block, by place
block_word : (image : List ℕ) (k j : ℕ) → j < 8 → slice_index (block image k) j ≡ slice_index image (8 * k + j)
block_word image k zero h = ap (slice_index image) (sym (add-zero (8 * k)))
block_word image k (suc zero) h = refl
block_word image k (suc (suc zero)) h = refl
block_word image k (suc (suc (suc zero))) h = refl
block_word image k (suc (suc (suc (suc zero)))) h = refl
block_word image k (suc (suc (suc (suc (suc zero))))) h = refl
block_word image k (suc (suc (suc (suc (suc (suc zero)))))) h = refl
block_word image k (suc (suc (suc (suc (suc (suc (suc zero))))))) h = refl
block_word image k (suc (suc (suc (suc (suc (suc (suc (suc j)))))))) h = absurd (omega arith)

-- words below 4000h are made of bytes
AreSmall : List ℕ → Type 0
AreSmall words = (j : ℕ) → slice_index words j < 0x4000

small_bytes : (words : List ℕ) → ((j : ℕ) → slice_index words j < 0x4000) → AreBytes (word_bytes words)
unfolding word_bytes
small_bytes [] h = tt
small_bytes (w ∷ words) h = let first : w < 0x4000 = h 0 in (omega arith, (omega arith, small_bytes words (λ j. h (suc j))))

block_small : (image : List ℕ) (k : ℕ) → AreWords image → (j : ℕ) → slice_index (block image k) j < 0x4000
block_small image k are j = ⊎_elim (λ l. subst (λ w. w < 0x4000) (sym (block_word image k j l)) (are.each (8 * k + j))) (λ l. past j l) (cases_lt j 8)
  where
    past : (j : ℕ) → 8 ≤ j → slice_index (block image k) j < 0x4000
    past zero l = absurd (omega arith)
    past (suc zero) l = absurd (omega arith)
    past (suc (suc zero)) l = absurd (omega arith)
    past (suc (suc (suc zero))) l = absurd (omega arith)
    past (suc (suc (suc (suc zero)))) l = absurd (omega arith)
    past (suc (suc (suc (suc (suc zero))))) l = absurd (omega arith)
    past (suc (suc (suc (suc (suc (suc zero)))))) l = absurd (omega arith)
    past (suc (suc (suc (suc (suc (suc (suc zero))))))) l = absurd (omega arith)
    past (suc (suc (suc (suc (suc (suc (suc (suc j)))))))) l = omega arith

-- what a block gives
block_given : List ℕ → ℕ → List Given
block_given words k = if is_erased words then [] else from_address (16 * k) (word_bytes words)

blocks_given : List ℕ → ℕ → List Given
blocks_given image zero = []
blocks_given image (suc k) = blocks_given image k ++ block_given (block image k) k

in_front_none : (o : Option (List Given)) → o ≡ in_front [] o
in_front_none None = refl
in_front_none (Some xs) = refl

in_front_twice : (xs ys : List Given) (o : Option (List Given)) → in_front xs (in_front ys o) ≡ in_front (xs ++ ys) o
in_front_twice xs ys None = refl
in_front_twice xs ys (Some zs) = ap Some (sym (append_assoc xs ys zs))

line_reads : (words rest : List ℕ) (k : ℕ) → k < 1024 → length (word_bytes words) ≡ 16 → AreBytes (word_bytes words)
    → given_by (lines_of (record_line (block_bytes words k) ++ rest)) 0 ≡ in_front (from_address (16 * k) (word_bytes words)) (given_by (lines_of rest) 0)
unfolding given_by
line_reads words rest k h long small =
    let bytes = word_bytes words in
    let digits = hex_pairs (block_bytes words k ++ checksum (block_bytes words k) ∷ []) in
    let cut : lines_of (record_line (block_bytes words k) ++ rest) ≡ (58 ∷ digits) ∷ lines_of rest
    = ap lines_of (append_assoc (58 ∷ digits) (10 ∷ []) rest) ∙ first_line (58 ∷ digits) rest (plain_pairs (block_bytes words k ++ checksum (block_bytes words k) ∷ [])) in
    let read : record_of 58 digits ≡ Some (record { kind = 0; address = 16 * k; bytes = bytes })
    = subst (λ n. record_of 58 (hex_pairs ((n ∷ (16 * k / 256) ∷ (16 * k % 256) ∷ 0 ∷ bytes) ++ checksum (n ∷ (16 * k / 256) ∷ (16 * k % 256) ∷ 0 ∷ bytes) ∷ [])) ≡ Some (record { kind = 0; address = 16 * k; bytes = bytes })) long (data_line (16 * k) bytes (omega arith) (omega arith) small) in
    let at : 65536 * 0 + 16 * k ≡ 16 * k = omega arith in
    ap (λ lines. given_by lines 0) cut
    ∙ ap (λ r. with_record r (given_by (lines_of rest)) 0) read
    ∙ ap (λ a. in_front (from_address a bytes) (given_by (lines_of rest) 0)) at

block_reads : (image rest : List ℕ) (k : ℕ) → k < 1024 → AreWords image
    → given_by (lines_of (block_text (block image k) k ++ rest)) 0 ≡ in_front (block_given (block image k) k) (given_by (lines_of rest) 0)
unfolding block_text block_given
block_reads image rest k h are = by_test (is_erased (block image k))
  where
    by_test : (b : Bool) → given_by (lines_of ((if b then [] else record_line (block_bytes (block image k) k)) ++ rest)) 0 ≡ in_front (if b then [] else from_address (16 * k) (word_bytes (block image k))) (given_by (lines_of rest) 0)
    by_test true = in_front_none (given_by (lines_of rest) 0)
    by_test false = line_reads (block image k) rest k h (length-word_bytes (block image k)) (small_bytes (block image k) (block_small image k are))

blocks_read : (image : List ℕ) → AreWords image → (k : ℕ) (rest : List ℕ) → k ≤ 1024
    → given_by (lines_of (blocks_text image k ++ rest)) 0 ≡ in_front (blocks_given image k) (given_by (lines_of rest) 0)
unfolding blocks_text blocks_given
blocks_read image are zero rest h = in_front_none (given_by (lines_of rest) 0)
blocks_read image are (suc k) rest h =
    ap (λ t. given_by (lines_of t) 0) (append_assoc (blocks_text image k) (block_text (block image k) k) rest)
    ∙ blocks_read image are k (block_text (block image k) k ++ rest) (omega arith)
    ∙ ap (in_front (blocks_given image k)) (block_reads image rest k (omega arith) are)
    ∙ in_front_twice (blocks_given image k) (block_given (block image k) k) (given_by (lines_of rest) 0)

end_reads : given_by (lines_of end_text) 0 ≡ Some []
unfolding given_by split_lines without_cr bytes_of
end_reads = refl

first_reads : (rest : List ℕ) → given_by (lines_of (first_text ++ rest)) 0 ≡ given_by (lines_of rest) 0
unfolding given_by split_lines without_cr bytes_of
first_reads rest = refl

text_reads : (image : List ℕ) → AreWords image → given_by (lines_of (hex_text image)) 0 ≡ Some (blocks_given image 1024)
text_reads image are =
    ap (λ t. given_by (lines_of t) 0) (sym (whole image) ∙ append_assoc first_text (blocks_text image 1024) end_text)
    ∙ first_reads (blocks_text image 1024 ++ end_text)
    ∙ blocks_read image are 1024 end_text (omega arith)
    ∙ ap (in_front (blocks_given image 1024)) end_reads
    ∙ ap Some (append-nil (blocks_given image 1024))

-- ---- each byte once

block_times : (words : List ℕ) (k a : ℕ) → times (block_given words k) a ≤ 1
unfolding block_given times
block_times words k a = by_test (is_erased words)
  where
    by_test : (b : Bool) → times (if b then [] else from_address (16 * k) (word_bytes words)) a ≤ 1
    by_test true = omega arith
    by_test false = times_once (16 * k) (word_bytes words) a

block_times_below : (words : List ℕ) (k a : ℕ) → a < 16 * k → times (block_given words k) a ≡ 0
unfolding block_given times
block_times_below words k a h = by_test (is_erased words)
  where
    by_test : (b : Bool) → times (if b then [] else from_address (16 * k) (word_bytes words)) a ≡ 0
    by_test true = refl
    by_test false = times_below (16 * k) (word_bytes words) a h

block_times_behind : (words : List ℕ) (k a : ℕ) → length words ≡ 8 → 16 * k + 16 ≤ a → times (block_given words k) a ≡ 0
unfolding block_given times
block_times_behind words k a l h = by_test (is_erased words)
  where
    by_test : (b : Bool) → times (if b then [] else from_address (16 * k) (word_bytes words)) a ≡ 0
    by_test true = refl
    by_test false = let long = length-word_bytes words in times_behind (16 * k) (word_bytes words) a (omega (arith, long))

times_behind_all : (image : List ℕ) (k a : ℕ) → 16 * k ≤ a → times (blocks_given image k) a ≡ 0
unfolding blocks_given times
times_behind_all image zero a h = refl
times_behind_all image (suc k) a h =
    let both = times-append (blocks_given image k) (block_given (block image k) k) a in
    let before = times_behind_all image k a (omega arith) in
    let here = block_times_behind (block image k) k a refl (omega arith) in
    omega (arith, both, before, here)

times_of_all : (image : List ℕ) (k a : ℕ) → times (blocks_given image k) a ≤ 1
unfolding blocks_given times
times_of_all image zero a = omega arith
times_of_all image (suc k) a =
    let both = times-append (blocks_given image k) (block_given (block image k) k) a in
    ⊎_elim
    (λ l. let before = times_of_all image k a in let here = block_times_below (block image k) k a l in omega (arith, both, before, here))
    (λ l. let before = times_behind_all image k a l in let here = block_times (block image k) k a in omega (arith, both, before, here))
    (cases_lt a (16 * k))

-- ---- the words

block_byte_below : (words : List ℕ) (k a d : ℕ) → a < 16 * k → byte_at (block_given words k) a d ≡ d
unfolding block_given byte_at
block_byte_below words k a d h = by_test (is_erased words)
  where
    by_test : (b : Bool) → byte_at (if b then [] else from_address (16 * k) (word_bytes words)) a d ≡ d
    by_test true = refl
    by_test false = byte_below (16 * k) (word_bytes words) a d h

block_byte_behind : (words : List ℕ) (k a d : ℕ) → length words ≡ 8 → 16 * k + 16 ≤ a → byte_at (block_given words k) a d ≡ d
unfolding block_given byte_at
block_byte_behind words k a d l h = by_test (is_erased words)
  where
    by_test : (b : Bool) → byte_at (if b then [] else from_address (16 * k) (word_bytes words)) a d ≡ d
    by_test true = refl
    by_test false = let long = length-word_bytes words in byte_behind (16 * k) (word_bytes words) a d (omega (arith, long))

byte_behind_all : (image : List ℕ) (k a d : ℕ) → 16 * k ≤ a → byte_at (blocks_given image k) a d ≡ d
unfolding blocks_given byte_at
byte_behind_all image zero a d h = refl
byte_behind_all image (suc k) a d h =
    byte-append (blocks_given image k) (block_given (block image k) k) a d
    ∙ ap (byte_at (blocks_given image k) a) (block_byte_behind (block image k) k a d refl (omega arith))
    ∙ byte_behind_all image k a d (omega arith)

erased_word : (words : List ℕ) (j : ℕ) → is_erased words ≡ true → j < length words → slice_index words j ≡ 0x3fff
erased_word [] j e h = absurd (omega arith)
erased_word (w ∷ words) zero e h = eqb-true w 0x3fff (and_parts (nat_eq w 0x3fff) (is_erased words) e).0
erased_word (w ∷ words) (suc j) e h = erased_word words j (and_parts (nat_eq w 0x3fff) (is_erased words) e).1 (omega arith)

-- the word at j of a block is made of the bytes that the block gives
abbrev IsMade : ℕ → List Given → ℕ → Type 0
IsMade word given at = word ≡ byte_at given (2 * at) 0xff + 256 * (byte_at given (2 * at + 1) 0xff % 64)

block_makes : (words : List ℕ) (k j : ℕ) → length words ≡ 8 → j < 8 → slice_index words j < 0x4000 → IsMade (slice_index words j) (block_given words k) (8 * k + j)
unfolding block_given byte_at
block_makes words k j l h small = by_test (is_erased words) refl
  where
    by_test : (b : Bool) → is_erased words ≡ b → IsMade (slice_index words j) (if b then [] else from_address (16 * k) (word_bytes words)) (8 * k + j)
    by_test true e = erased_word words j e (omega arith)
    by_test false e =
        let long = length-word_bytes words in
        let low : byte_at (from_address (16 * k) (word_bytes words)) (2 * (8 * k + j)) 0xff ≡ slice_index words j % 256
        = ap (λ a. byte_at (from_address (16 * k) (word_bytes words)) a 0xff) (omega arith) ∙ byte_there (16 * k) (word_bytes words) (2 * j) 0xff (omega (arith, long)) ∙ low_byte words j in
        let high : byte_at (from_address (16 * k) (word_bytes words)) (2 * (8 * k + j) + 1) 0xff ≡ slice_index words j / 256
        = ap (λ a. byte_at (from_address (16 * k) (word_bytes words)) a 0xff) (omega arith) ∙ byte_there (16 * k) (word_bytes words) (2 * j + 1) 0xff (omega (arith, long)) ∙ high_byte words j in
        rw (low, high) (omega arith)

blocks_make : (image : List ℕ) → AreWords image → (k w : ℕ) → w < 8 * k → IsMade (slice_index image w) (blocks_given image k) w
unfolding blocks_given
blocks_make image are zero w h = absurd (omega arith)
blocks_make image are (suc k) w h =
    let before = blocks_given image k in
    let here = block_given (block image k) k in
    let low = byte-append before here (2 * w) 0xff in
    let high = byte-append before here (2 * w + 1) 0xff in
    ⊎_elim
    (λ l.
    let a : byte_at here (2 * w) 0xff ≡ 0xff = block_byte_below (block image k) k (2 * w) 0xff (omega arith) in
    let b : byte_at here (2 * w + 1) 0xff ≡ 0xff = block_byte_below (block image k) k (2 * w + 1) 0xff (omega arith) in
    rw (low, high, a, b) (blocks_make image are k w l))
    (λ l.
    let j : ℕ = w - 8 * k in
    let e : 8 * k + j ≡ w = omega arith in
    let small : slice_index (block image k) j < 0x4000 = block_small image k are j in
    let made : IsMade (slice_index (block image k) j) here w = subst (IsMade (slice_index (block image k) j) here) e (block_makes (block image k) k j refl (omega arith) small) in
    let is : slice_index (block image k) j ≡ slice_index image w = block_word image k j (omega arith) ∙ ap (slice_index image) e in
    let a = byte_behind_all image k (2 * w) (byte_at here (2 * w) 0xff) (omega arith) in
    let b = byte_behind_all image k (2 * w + 1) (byte_at here (2 * w + 1) 0xff) (omega arith) in
    rw (low, high, a, b) (subst (λ v. IsMade v here w) is made))
    (cases_lt w (8 * k))

-- the written text is a HEX file of the image
pub hex_text-is_file : (image : List ℕ) → AreWords image → IsHexFile (hex_text image) image
hex_text-is_file image are = record {
  given = blocks_given image 1024;
  reads = text_reads image are;
  below = λ a h. times_behind_all image 1024 a (omega arith);
  once = λ a. times_of_all image 1024 a;
  words = are;
  each = λ w h. blocks_make image are 1024 w h;
}
