-- What bytes are given by a list of them from an address on, and by two lists.
use Rattle.std.proofs.Common.{◌≡◌, ℕ, zero, suc, ◌+◌, ◌*◌, ◌/◌, ◌%◌, ◌<◌, ◌≤◌, true, false, List, [], ◌∷◌, ◌++◌, length, take, slice_index, refl, add-one, ap, ◌∙◌, arith, nat_eq, ⊎_elim}
use Rattle.std.specs.Prelude.{if◌then◌else◌}
use Rattle.std.proofs.Math.Seq.{take-suc}
use Rattle.std.proofs.lemmas.Bool.{cases_eq, eq-eqb, ne_eqb}
use Rattle.hex_image.specs.HexFile.{Given, from_address, times, byte_at}
use Rattle.hex_image.specs.HexText.{word_bytes}

pub times-append : (xs ys : List Given) (a : ℕ) → times (xs ++ ys) a ≡ times xs a + times ys a
unfolding times
times-append [] ys a = omega arith
times-append (x ∷ xs) ys a = let e = times-append xs ys a in omega (arith, e)

pub byte-append : (xs ys : List Given) (a d : ℕ) → byte_at (xs ++ ys) a d ≡ byte_at xs a (byte_at ys a d)
unfolding byte_at
byte-append [] ys a d = refl
byte-append (x ∷ xs) ys a d = ap (λ n. if nat_eq x.0 a then x.1 else n) (byte-append xs ys a d)

-- below the first address, and behind the last, nothing is given
pub times_below : (s : ℕ) (bytes : List ℕ) (a : ℕ) → a < s → times (from_address s bytes) a ≡ 0
unfolding times from_address
times_below s [] a h = refl
times_below s (b ∷ bytes) a h = let other : nat_eq s a ≡ false = ne_eqb s a (omega arith) in rw (other, times_below (s + 1) bytes a (omega arith)) refl

pub times_behind : (s : ℕ) (bytes : List ℕ) (a : ℕ) → s + length bytes ≤ a → times (from_address s bytes) a ≡ 0
unfolding times from_address
times_behind s [] a h = refl
times_behind s (b ∷ bytes) a h = let other : nat_eq s a ≡ false = ne_eqb s a (omega arith) in rw (other, times_behind (s + 1) bytes a (omega arith)) refl

pub times_once : (s : ℕ) (bytes : List ℕ) (a : ℕ) → times (from_address s bytes) a ≤ 1
unfolding times from_address
times_once s [] a = omega arith
times_once s (b ∷ bytes) a =
    ⊎_elim
    (λ same. let is : nat_eq s a ≡ true = eq-eqb s a same in rw (is, times_below (s + 1) bytes a (omega arith)) (omega arith))
    (λ other. let no : nat_eq s a ≡ false = ne_eqb s a other in let later = times_once (s + 1) bytes a in rw no (omega (arith, later)))
    (cases_eq s a)

pub byte_below : (s : ℕ) (bytes : List ℕ) (a d : ℕ) → a < s → byte_at (from_address s bytes) a d ≡ d
unfolding byte_at from_address
byte_below s [] a d h = refl
byte_below s (b ∷ bytes) a d h = let other : nat_eq s a ≡ false = ne_eqb s a (omega arith) in rw other (byte_below (s + 1) bytes a d (omega arith))

pub byte_behind : (s : ℕ) (bytes : List ℕ) (a d : ℕ) → s + length bytes ≤ a → byte_at (from_address s bytes) a d ≡ d
unfolding byte_at from_address
byte_behind s [] a d h = refl
byte_behind s (b ∷ bytes) a d h = let other : nat_eq s a ≡ false = ne_eqb s a (omega arith) in rw other (byte_behind (s + 1) bytes a d (omega arith))

pub byte_there : (s : ℕ) (bytes : List ℕ) (i d : ℕ) → i < length bytes → byte_at (from_address s bytes) (s + i) d ≡ slice_index bytes i
unfolding byte_at from_address
byte_there s [] i d h = absurd (omega arith)
byte_there s (b ∷ bytes) zero d h = let same : nat_eq s (s + 0) ≡ true = eq-eqb s (s + 0) (omega arith) in rw same refl
byte_there s (b ∷ bytes) (suc i) d h =
    let other : nat_eq s (s + suc i) ≡ false = ne_eqb s (s + suc i) (omega arith) in
    let e : s + suc i ≡ s + 1 + i = omega arith in
    rw other (ap (λ a. byte_at (from_address (s + 1) bytes) a d) e ∙ byte_there (s + 1) bytes i d (omega arith))

pub length-word_bytes : (words : List ℕ) → length (word_bytes words) ≡ 2 * length words
unfolding word_bytes
length-word_bytes [] = refl
length-word_bytes (w ∷ words) = let e = length-word_bytes words in omega (arith, e)

pub word_bytes_append : (xs ys : List ℕ) → word_bytes (xs ++ ys) ≡ word_bytes xs ++ word_bytes ys
unfolding word_bytes
word_bytes_append [] ys = refl
word_bytes_append (w ∷ xs) ys = ap (λ t. (w % 256) ∷ (w / 256) ∷ t) (word_bytes_append xs ys)

-- one word more
pub words_on : (words : List ℕ) (i : ℕ) → i < length words → word_bytes (take (i + 1) words) ≡ word_bytes (take i words) ++ (slice_index words i % 256) ∷ (slice_index words i / 256) ∷ []
unfolding word_bytes
words_on words i h =
    let more : take (i + 1) words ≡ take i words ++ slice_index words i ∷ [] = ap (λ n. take n words) (add-one i) ∙ take-suc words i 0 h in
    ap word_bytes more ∙ word_bytes_append (take i words) (slice_index words i ∷ [])

pub low_byte : (words : List ℕ) (j : ℕ) → slice_index (word_bytes words) (2 * j) ≡ slice_index words j % 256
unfolding word_bytes
low_byte [] j = refl
low_byte (w ∷ words) zero = refl
low_byte (w ∷ words) (suc j) = let e : 2 * suc j ≡ suc (suc (2 * j)) = omega arith in rw e (low_byte words j)

pub high_byte : (words : List ℕ) (j : ℕ) → slice_index (word_bytes words) (2 * j + 1) ≡ slice_index words j / 256
unfolding word_bytes
high_byte [] j = refl
high_byte (w ∷ words) zero = refl
high_byte (w ∷ words) (suc j) = let e : 2 * suc j + 1 ≡ suc (suc (2 * j + 1)) = omega arith in rw e (high_byte words j)
