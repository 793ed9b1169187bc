-- The bytes of a line, and of a record, as the code takes them apart.
use Rattle.std.proofs.Common.{◌≡◌, ◌≢◌, ◌⊎◌, ⊎_elim, ℕ, ◌+◌, ◌-◌, ◌*◌, ◌%◌, ◌<◌, ◌≤◌, ◌&&◌, Bool, true, false, Option, Some, None, Result, Ok, Err, List, [], ◌∷◌, length, take, drop, slice_index, refl, sym, ap, ◌∙◌, subst, arith, nat_eq, nat_le}
use Rattle.std.specs.Prelude.{if◌then◌else◌, ◌==◌}
use Rattle.std.specs.List.{sum}
use Rattle.std.proofs.lemmas.Bool.{and_parts, leb-true, eqb-true, eq-eqb, ne_eqb}
use Rattle.std.proofs.Math.Seq.{take-length}
use Rattle.hex.specs.Hex.{hex_digit_value, digit_or_error, decode_pairs, decode_of, ◌>>=◌}
use Rattle.hex.specs.declared.error.FromHexError.{FromHexError}
use Rattle.hex.specs.declared.error.FromHexError.TheVariants.{OddLength, InvalidStringLength, InvalidHexCharacter, OutOfMemory}
use Rattle.text_lines.specs.Text.{digit_value, pair_onto, bytes_of}
use Rattle.hex_image.specs.Reading.{told, wrong_sum, record_of, pairs_in, line_bytes}
use Rattle.hex_image.specs.declared.read.HexError.{HexError}
use Rattle.hex_image.specs.declared.read.HexError.TheVariants.{BadRecord}
use Rattle.hex_image.specs.Reading.{Told}
use Rattle.hex_image.specs.HexText.{checksum}
use Rattle.hex_image.specs.declared.read.Record.{Record}
use Rattle.hex_image.specs.Answers.{Refuses, Gives, told_by, undecoded}

within : (a b c : ℕ) → (nat_le a c && nat_le c b) ≡ true → (a ≤ c) × (c ≤ b)
within a b c e = let parts = and_parts (nat_le a c) (nat_le c b) e in (leb-true a c parts.0, leb-true c b parts.1)

digit_same : (c : ℕ) → hex_digit_value c ≡ digit_value c
digit_same c = by_tests (nat_le 48 c && nat_le c 57) (nat_le 65 c && nat_le c 70) (nat_le 97 c && nat_le c 102) refl refl refl
  where
    by_tests : (x y z : Bool) → (nat_le 48 c && nat_le c 57) ≡ x → (nat_le 65 c && nat_le c 70) ≡ y → (nat_le 97 c && nat_le c 102) ≡ z
        → (if y then Some (c - 55) else if z then Some (c - 87) else if x then Some (c - 48) else None) ≡ (if x then Some (c - 48) else if y then Some (c - 55) else if z then Some (c - 87) else None)
    by_tests true true z e f g = let p = within 48 57 c e in let q = within 65 70 c f in absurd (omega (arith, p.1, q.0))
    by_tests true false true e f g = let p = within 48 57 c e in let q = within 97 102 c g in absurd (omega (arith, p.1, q.0))
    by_tests true false false e f g = refl
    by_tests false y z e f g = refl

abbrev Agree : Result (List ℕ) FromHexError → Option (List ℕ) → Type 0
Agree (Ok xs) (Some ys) = xs ≡ ys
Agree (Ok xs) None = ⊥
Agree (Err e) (Some ys) = ⊥
Agree (Err e) None = Unit {0}

pair_same : (c d i : ℕ) (o p : Option ℕ) (r : Result (List ℕ) FromHexError) (q : Option (List ℕ)) → Agree r q
    → Agree ((digit_or_error c i o >>= (λ h. digit_or_error d (i + 1) p >>= (λ l. Ok (h * 16 + l)))) >>= (λ byte. r >>= (λ bytes. Ok (byte ∷ bytes)))) (pair_onto o p q)
pair_same c d i None p r q h = tt
pair_same c d i (Some x) None r q h = tt
pair_same c d i (Some x) (Some y) (Ok xs) (Some ys) h =
    let first : x * 16 + y ≡ 16 * x + y = omega arith in
    ap (λ n. n ∷ xs) first ∙ ap (λ l. (16 * x + y) ∷ l) h
pair_same c d i (Some x) (Some y) (Ok xs) None h = absurd h
pair_same c d i (Some x) (Some y) (Err e) (Some ys) h = absurd h
pair_same c d i (Some x) (Some y) (Err e) None h = tt

pairs_same : (i : ℕ) (digits : List ℕ) → Agree (decode_pairs i digits) (bytes_of digits)
unfolding decode_pairs bytes_of
pairs_same i [] = refl
pairs_same i (c ∷ []) = tt
pairs_same i (c ∷ d ∷ rest) =
    rw (digit_same c, digit_same d) (pair_same c d i (digit_value c) (digit_value d) (decode_pairs (i + 2) rest) (bytes_of rest) (pairs_same (i + 2) rest))

none_onto : (o p : Option ℕ) → pair_onto o p None ≡ None
none_onto None p = refl
none_onto (Some x) None = refl
none_onto (Some x) (Some y) = refl

odd_none : (digits : List ℕ) → length digits % 2 ≡ 1 → bytes_of digits ≡ None
unfolding bytes_of
odd_none [] h = absurd (omega (arith, h))
odd_none (c ∷ []) h = refl
odd_none (c ∷ d ∷ rest) h = rw (odd_none rest (omega (arith, h))) (none_onto (digit_value c) (digit_value d))

decoded_same : (digits : List ℕ) → Agree (decode_of digits) (bytes_of digits)
decoded_same digits = by_test (length digits % 2 == 1) refl
  where
    by_test : (b : Bool) → (length digits % 2 == 1) ≡ b → Agree (if b then Err OddLength else decode_pairs 0 digits) (bytes_of digits)
    by_test true e = rw (odd_none digits (eqb-true (length digits % 2) 1 e)) tt
    by_test false e = pairs_same 0 digits

agree_ok : (r : Result (List ℕ) FromHexError) (o : Option (List ℕ)) (bytes : List ℕ) → Agree r o → r ≡ Ok bytes → o ≡ Some bytes
agree_ok (Ok xs) (Some ys) bytes h e = let same : xs ≡ bytes = cc e in ap Some (sym h ∙ same)
agree_ok (Ok xs) None bytes h e = absurd h
agree_ok (Err x) (Some ys) bytes h e = absurd h
agree_ok (Err x) None bytes h e = absurd (cc e)

agree_err : (r : Result (List ℕ) FromHexError) (o : Option (List ℕ)) (x : FromHexError) → Agree r o → r ≡ Err x → o ≡ None
agree_err (Ok xs) o x h e = absurd (cc e)
agree_err (Err y) (Some ys) x h e = absurd h
agree_err (Err y) None x h e = refl

pub decoded : (k first : ℕ) (digits bytes : List ℕ) → first ≡ 58 → decode_of digits ≡ Ok bytes → line_bytes k first digits ≡ Ok bytes
decoded k first digits bytes f e =
    let colon : nat_eq first 58 ≡ true = eq-eqb first 58 f in
    rw colon (ap (pairs_in k) (agree_ok (decode_of digits) (bytes_of digits) bytes (decoded_same digits) e))

no_bytes : (k first : ℕ) (digits : List ℕ) (x : FromHexError) → first ≡ 58 → decode_of digits ≡ Err x → line_bytes k first digits ≡ Err (BadRecord k)
no_bytes k first digits x f e =
    let colon : nat_eq first 58 ≡ true = eq-eqb first 58 f in
    rw colon (ap (pairs_in k) (agree_err (decode_of digits) (bytes_of digits) x (decoded_same digits) e))

pub not_decoded : (k first : ℕ) (digits : List ℕ) (x : FromHexError) (e : HexError) → first ≡ 58 → (x ≡ OutOfMemory) ⊎ (decode_of digits ≡ Err x) → e ≡ undecoded k x → Refuses e (line_bytes k first digits)
not_decoded k first digits OutOfMemory e f h g = subst (λ y. Refuses y (line_bytes k first digits)) (sym g) tt
not_decoded k first digits OddLength e f h g = subst (λ y. Refuses y (line_bytes k first digits)) (sym g) (⊎_elim (λ no. absurd (cc no)) (λ bad. no_bytes k first digits OddLength f bad) h)
not_decoded k first digits InvalidStringLength e f h g = subst (λ y. Refuses y (line_bytes k first digits)) (sym g) (⊎_elim (λ no. absurd (cc no)) (λ bad. no_bytes k first digits InvalidStringLength f bad) h)
not_decoded k first digits (InvalidHexCharacter c i) e f h g = subst (λ y. Refuses y (line_bytes k first digits)) (sym g) (⊎_elim (λ no. absurd (cc no)) (λ bad. no_bytes k first digits (InvalidHexCharacter c i) f bad) h)

-- ---- records
pub short : (k : ℕ) (bytes : List ℕ) → length bytes < 4 → record_of k bytes ≡ Err (BadRecord k)
unfolding record_of
short k [] h = refl
short k (a ∷ []) h = refl
short k (a ∷ b ∷ []) h = refl
short k (a ∷ b ∷ c ∷ []) h = refl
short k (a ∷ b ∷ c ∷ d ∷ more) h = absurd (omega (arith, h))

-- what stands behind the first four bytes
abbrev pub behind : List ℕ → List ℕ
behind bytes = take (length bytes - 4) (drop 4 bytes)

abbrev pub told_of_all : ℕ → List ℕ → Result Told HexError
told_of_all k bytes = told k (slice_index bytes 3) (256 * slice_index bytes 1 + slice_index bytes 2) (take (slice_index bytes 0) (behind bytes))

long : (k : ℕ) (bytes : List ℕ) → 4 ≤ length bytes
    → record_of k bytes ≡ (if nat_eq (length (behind bytes)) (slice_index bytes 0 + 1) then
    (if nat_eq (sum bytes % 256) 0 then told_of_all k bytes else Err (wrong_sum k bytes)) else
    Err (BadRecord k))
unfolding record_of
long k [] h = absurd (omega (arith, h))
long k (a ∷ []) h = absurd (omega (arith, h))
long k (a ∷ b ∷ []) h = absurd (omega (arith, h))
long k (a ∷ b ∷ c ∷ []) h = absurd (omega (arith, h))
long k (a ∷ b ∷ c ∷ d ∷ more) h =
    let n : length (a ∷ b ∷ c ∷ d ∷ more) - 4 ≡ length more = omega arith in
    let whole : take (length (a ∷ b ∷ c ∷ d ∷ more) - 4) more ≡ more = ap (λ i. take i more) n ∙ take-length more in
    rw whole refl

pub other_count : (k : ℕ) (bytes : List ℕ) → 4 ≤ length bytes → length (behind bytes) ≢ slice_index bytes 0 + 1 → record_of k bytes ≡ Err (BadRecord k)
other_count k bytes h n =
    let no : nat_eq (length (behind bytes)) (slice_index bytes 0 + 1) ≡ false = ne_eqb (length (behind bytes)) (slice_index bytes 0 + 1) n in
    long k bytes h ∙ rw no refl

other_sum : (k : ℕ) (bytes : List ℕ) → 4 ≤ length bytes → length (behind bytes) ≡ slice_index bytes 0 + 1 → checksum bytes ≢ 0 → record_of k bytes ≡ Err (wrong_sum k bytes)
other_sum k bytes h n c =
    let all : nat_eq (length (behind bytes)) (slice_index bytes 0 + 1) ≡ true = eq-eqb (length (behind bytes)) (slice_index bytes 0 + 1) n in
    let no : nat_eq (sum bytes % 256) 0 ≡ false = ne_eqb (sum bytes % 256) 0 (λ e. c (zero_sum (sum bytes) e)) in
    long k bytes h ∙ rw (all, no) refl
  where
    zero_sum : (s : ℕ) → s % 256 ≡ 0 → (256 - s % 256) % 256 ≡ 0
    zero_sum s e = omega (arith, e)

pub sum_refused : (k : ℕ) (bytes : List ℕ) (e : HexError) (s : ℕ) → 4 ≤ length bytes → length (behind bytes) ≡ slice_index bytes 0 + 1 → s ≡ checksum bytes → s ≢ 0 → e ≡ wrong_sum k bytes → Refuses e (record_of k bytes)
sum_refused k bytes e s h n f c g = subst (λ y. Refuses y (record_of k bytes)) (sym g) (other_sum k bytes h n (λ z. c (f ∙ z)))

record_told : (k : ℕ) (bytes : List ℕ) → 4 ≤ length bytes → length (behind bytes) ≡ slice_index bytes 0 + 1 → checksum bytes ≡ 0 → record_of k bytes ≡ told_of_all k bytes
record_told k bytes h n c =
    let all : nat_eq (length (behind bytes)) (slice_index bytes 0 + 1) ≡ true = eq-eqb (length (behind bytes)) (slice_index bytes 0 + 1) n in
    let even : nat_eq (sum bytes % 256) 0 ≡ true = eq-eqb (sum bytes % 256) 0 (zero_check (sum bytes) c) in
    long k bytes h ∙ rw (all, even) refl
  where
    zero_check : (s : ℕ) → (256 - s % 256) % 256 ≡ 0 → s % 256 ≡ 0
    zero_check s e = omega (arith, e)

pub record_gives : (k : ℕ) (bytes : List ℕ) (s : ℕ) (r : Result Record HexError) → 4 ≤ length bytes → length (behind bytes) ≡ slice_index bytes 0 + 1 → s ≡ checksum bytes → s ≡ 0
    → Gives told_by r (told_of_all k bytes) → Gives told_by r (record_of k bytes)
record_gives k bytes s r h n f c g = subst (Gives told_by r) (sym (record_told k bytes h n (sym f ∙ c))) g
