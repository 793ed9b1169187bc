-- An image that is filled with bytes, one after the other.
use Rattle.std.proofs.Common.{◌≡◌, ◌≢◌, ℕ, ◌+◌, ◌*◌, ◌/◌, ◌%◌, ◌<◌, ◌≤◌, Bool, true, false, List, [], ◌∷◌, ◌++◌, length, take, drop, slice_index, slice_set, replicate, refl, sym, ap, ◌∙◌, subst, arith, nat_eq, ⊎_elim, add-one}
use Rattle.std.specs.Prelude.{if◌then◌else◌, slice_index_or}
use Rattle.std.proofs.Math.Seq.{take-suc}
use Rattle.std.proofs.lemmas.Bool.{cases_eq, eq-eqb, ne_eqb, eqb-true, eqb-false}
use Rattle.std.proofs.lemmas.List.{get_or-set_same, get_or-set_other, get_or-replicate, take-append-drop}
use Rattle.pic_chip.specs.Words.{AreWords}
use Rattle.pic_chip.proofs.Words.{blank_words}
use Rattle.hex_image.specs.HexFile.{Given, times, byte_at}
use Rattle.hex_image.specs.Answers.{IsFilled}
use Rattle.hex_image.specs.Filling.{with_byte}
use Rattle.hex_image.proofs.Bytes.{times-append, byte-append}

pub blank_filled : (image : List ℕ) → image ≡ replicate 8192 0x3fff → IsFilled [] image
unfolding byte_at
blank_filled image e = record {
  words = subst AreWords (sym e) blank_words;
  each = λ w h. ap (λ i. slice_index i w) e ∙ get_or-replicate 8192 w 0x3fff 0 h;
}

-- where nothing was given
byte_free : (given : List Given) (a d : ℕ) → times given a ≡ 0 → byte_at given a d ≡ d
unfolding times byte_at
byte_free [] a d h = refl
byte_free (g ∷ given) a d h = by_test (byte_free given a d) (nat_eq g.0 a) h
  where
    by_test : (times given a ≡ 0 → byte_at given a d ≡ d) → (b : Bool) → (if b then 1 else 0) + times given a ≡ 0 → (if b then g.1 else byte_at given a d) ≡ d
    by_test free true e = absurd (omega (arith, e))
    by_test free false e = free (omega (arith, e))

byte_here : (given : List Given) (a b d : ℕ) → times given a ≡ 0 → byte_at (given ++ (a, b) ∷ []) a d ≡ b
unfolding byte_at
byte_here given a b d h =
    let same : nat_eq a a ≡ true = eq-eqb a a refl in
    let one : byte_at ((a, b) ∷ []) a d ≡ b = rw same refl in
    byte-append given ((a, b) ∷ []) a d ∙ ap (byte_at given a) one ∙ byte_free given a b h

byte_other : (given : List Given) (a b c d : ℕ) → a ≢ c → byte_at (given ++ (a, b) ∷ []) c d ≡ byte_at given c d
unfolding byte_at
byte_other given a b c d h =
    let other : nat_eq a c ≡ false = ne_eqb a c h in
    let one : byte_at ((a, b) ∷ []) c d ≡ d = rw other refl in
    byte-append given ((a, b) ∷ []) c d ∙ ap (byte_at given c) one

-- the word at w of the image is made of the bytes that are given
abbrev IsMade : List ℕ → List Given → ℕ → Type 0
IsMade image given w = slice_index image w ≡ byte_at given (2 * w) 0xff + 256 * (byte_at given (2 * w + 1) 0xff % 64)

-- the other words are as before
others : (given : List Given) (image : List ℕ) (a b v w : ℕ) → IsMade image given w → w ≢ a / 2 → IsMade (slice_set image (a / 2) v) (given ++ (a, b) ∷ []) w
others given image a b v w made n =
    let first = byte_other given a b (2 * w) 0xff (λ e. n (omega (arith, e))) in
    let second = byte_other given a b (2 * w + 1) 0xff (λ e. n (omega (arith, e))) in
    get_or-set_other image (a / 2) w v 0 n ∙ made ∙ rw (first, second) refl

set_here : (image : List ℕ) (at v w : ℕ) → at < length image → w ≡ at → slice_index (slice_set image at v) w ≡ v
set_here image at v w h same = ap (slice_index (slice_set image at v)) same ∙ get_or-set_same image at v 0 h

low_here : (given : List Given) (image : List ℕ) (a b w : ℕ) → a / 2 < length image → times given a ≡ 0 → a % 2 ≡ 0 → IsMade image given w → w ≡ a / 2
    → IsMade (slice_set image (a / 2) (256 * (slice_index image (a / 2) / 256) + b)) (given ++ (a, b) ∷ []) w
low_here given image a b w long free even made same =
    let place : 2 * w ≡ a = omega (arith, same, even) in
    let beside : a ≢ 2 * w + 1 = omega (arith, same, even) in
    let first : byte_at (given ++ (a, b) ∷ []) (2 * w) 0xff ≡ b = ap (λ c. byte_at (given ++ (a, b) ∷ []) c 0xff) place ∙ byte_here given a b 0xff free in
    let second : byte_at (given ++ (a, b) ∷ []) (2 * w + 1) 0xff ≡ byte_at given (2 * w + 1) 0xff = byte_other given a b (2 * w + 1) 0xff beside in
    let before : byte_at given (2 * w) 0xff ≡ 0xff = ap (λ c. byte_at given c 0xff) place ∙ byte_free given a 0xff free in
    let old : slice_index image (a / 2) ≡ slice_index image w = ap (slice_index image) (sym same) in
    set_here image (a / 2) (256 * (slice_index image (a / 2) / 256) + b) w long same ∙ rw (first, second) (omega (arith, old, made, before))

high_here : (given : List Given) (image : List ℕ) (a b w : ℕ) → a / 2 < length image → times given a ≡ 0 → a % 2 ≢ 0 → IsMade image given w → slice_index image w < 0x4000 → w ≡ a / 2
    → IsMade (slice_set image (a / 2) (256 * (b % 64) + slice_index image (a / 2) % 256)) (given ++ (a, b) ∷ []) w
high_here given image a b w long free odd made small same =
    let place : 2 * w + 1 ≡ a = omega (arith, same, odd) in
    let beside : a ≢ 2 * w = omega (arith, same, odd) in
    let first : byte_at (given ++ (a, b) ∷ []) (2 * w) 0xff ≡ byte_at given (2 * w) 0xff = byte_other given a b (2 * w) 0xff beside in
    let second : byte_at (given ++ (a, b) ∷ []) (2 * w + 1) 0xff ≡ b = ap (λ c. byte_at (given ++ (a, b) ∷ []) c 0xff) place ∙ byte_here given a b 0xff free in
    let before : byte_at given (2 * w + 1) 0xff ≡ 0xff = ap (λ c. byte_at given c 0xff) place ∙ byte_free given a 0xff free in
    let old : slice_index image (a / 2) ≡ slice_index image w = ap (slice_index image) (sym same) in
    set_here image (a / 2) (256 * (b % 64) + slice_index image (a / 2) % 256) w long same ∙ rw (first, second) (omega (arith, old, made, before, small))

one_more : (given : List Given) (image : List ℕ) (a b : ℕ) → IsFilled given image → times given a ≡ 0 → a < 0x4000 → AreWords (with_byte image a b) → IsFilled (given ++ (a, b) ∷ []) (with_byte image a b)
one_more given image a b filled free low words = record {
  words = words;
  each = λ w h. by_test (nat_eq (a % 2) 0) refl w h;
}
  where
    long : a / 2 < length image
    long = let count = filled.words.count in omega (arith, low, count)

    by_test : (t : Bool) → nat_eq (a % 2) 0 ≡ t → (w : ℕ) → w < 8192
        → IsMade (if t then slice_set image (a / 2) (256 * (slice_index image (a / 2) / 256) + b) else slice_set image (a / 2) (256 * (b % 64) + slice_index image (a / 2) % 256)) (given ++ (a, b) ∷ []) w
    by_test true t w h =
        ⊎_elim
        (λ same. low_here given image a b w long free (eqb-true (a % 2) 0 t) (filled.each w h) same)
        (λ other. others given image a b (256 * (slice_index image (a / 2) / 256) + b) w (filled.each w h) other)
        (cases_eq w (a / 2))
    by_test false t w h =
        ⊎_elim
        (λ same. high_here given image a b w long free (eqb-false (a % 2) 0 t) (filled.each w h) (filled.words.each w) same)
        (λ other. others given image a b (256 * (b % 64) + slice_index image (a / 2) % 256) w (filled.each w h) other)
        (cases_eq w (a / 2))

one_passed : (given : List Given) (image : List ℕ) (a b : ℕ) → IsFilled given image → 0x4000 ≤ a → IsFilled (given ++ (a, b) ∷ []) image
one_passed given image a b filled high = record {
  words = filled.words;
  each = λ w h.
      let first = byte_other given a b (2 * w) 0xff (omega (arith, high, h)) in
      let second = byte_other given a b (2 * w + 1) 0xff (omega (arith, high, h)) in
      filled.each w h ∙ rw (first, second) refl;
}

-- the next byte of a list wasn't given before it
one_on : (given : List Given) (i : ℕ) (d : Given) → i < length given → take (i + 1) given ≡ take i given ++ slice_index_or given i d ∷ []
one_on given i d h = ap (λ n. take n given) (add-one i) ∙ take-suc given i d h

free_before : (given : List Given) (i a b : ℕ) → ((a : ℕ) → times given a ≤ 1) → take (i + 1) given ≡ take i given ++ (a, b) ∷ [] → times (take i given) a ≡ 0
unfolding times
free_before given i a b once e =
    let whole : (take i given ++ (a, b) ∷ []) ++ drop (i + 1) given ≡ given = ap (λ t. t ++ drop (i + 1) given) (sym e) ∙ take-append-drop (i + 1) given in
    let one : times ((take i given ++ (a, b) ∷ []) ++ drop (i + 1) given) a ≤ 1 = subst (λ g. times g a ≤ 1) (sym whole) (once a) in
    let outer = times-append (take i given ++ (a, b) ∷ []) (drop (i + 1) given) a in
    let inner = times-append (take i given) ((a, b) ∷ []) a in
    let same : nat_eq a a ≡ true = eq-eqb a a refl in
    let here : times ((a, b) ∷ []) a ≡ 1 = rw same refl in
    omega (arith, one, outer, inner, here)

pub given_on : (given : List Given) (i a b : ℕ) (image new : List ℕ) → IsFilled (take i given) image → ((a : ℕ) → times given a ≤ 1)
    → take (i + 1) given ≡ take i given ++ (a, b) ∷ [] → a < 0x4000 → new ≡ with_byte image a b → AreWords new → IsFilled (take (i + 1) given) new
given_on given i a b image new filled once e low made words =
    let free = free_before given i a b once e in
    let more = one_more (take i given) image a b filled free low (subst AreWords made words) in
    subst (λ g. IsFilled g new) (sym e) (subst (IsFilled (take i given ++ (a, b) ∷ [])) (sym made) more)

pub passed_on : (given : List Given) (i a b : ℕ) (image : List ℕ) → IsFilled (take i given) image
    → take (i + 1) given ≡ take i given ++ (a, b) ∷ [] → 0x4000 ≤ a → IsFilled (take (i + 1) given) image
passed_on given i a b image filled e high = subst (λ g. IsFilled g image) (sym e) (one_passed (take i given) image a b filled high)

pub next_given : (given : List Given) (i : ℕ) (d : Given) (a b : ℕ) → i < length given → slice_index_or given i d ≡ (a, b) → take (i + 1) given ≡ take i given ++ (a, b) ∷ []
next_given given i d a b h e = one_on given i d h ∙ ap (λ x. take i given ++ x ∷ []) e
