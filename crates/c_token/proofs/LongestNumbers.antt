-- What each byte of a name and of an integer constant is.
use Rattle.std.proofs.Common.{ℕ, ◌+◌, ◌-◌, ◌≤◌, ◌≡◌, ◌⊎◌, inl, inr, Bool, true, false, ◌&&◌, cond, Option, Some, None, List, [], ◌∷◌, ◌++◌, drop, take, arith, ap, sym, ◌∙◌, refl, subst, ltb-true, eqb-true, leb-true, take-append-drop}
use Rattle.std.specs.Prelude.{nat_le, nat_lt, ◌==◌}
use Rattle.std.specs.List.{prefix_len, list_all}
use Rattle.std.proofs.lemmas.Bool.{and_parts, and_from, or_left, or_right, or_cases}
use Rattle.std.proofs.lemmas.Bool.Decides.{nat_tests}
use Rattle.std.proofs.lemmas.List.Folds.{list_all-append}
use Rattle.std.proofs.lemmas.List.Sums.{prefix_len-le-length}
use Rattle.c_token.specs.declared.token.TokKind.{TokKind}
use Rattle.c_token.specs.declared.token.TokKind.TheVariants as kind
use Rattle.c_token.specs.Bytes.{begins_name, is_decimal, is_name_byte, is_number_byte, is_digit}
use Rattle.c_token.specs.Constant.{◌>>=◌, is_unsigned_suffix, is_long_suffix, suffixes_of, is_either, number_in, integer_of, value_in}
use Rattle.c_token.specs.Longest.{is_word, is_integer}
use Rattle.c_token.proofs.LongestFronts.{bound, prefix_all, all_more}

-- ---- names

pub word_bytes : (bytes : List ℕ) → is_word bytes ≡ true → list_all is_name_byte bytes ≡ true
word_bytes [] e = absurd cc
word_bytes (b ∷ rest) e =
    let h = and_parts (begins_name b) (list_all is_name_byte rest) e in
    and_from (is_name_byte b) (list_all is_name_byte rest) (or_left (begins_name b) (is_decimal b) h.0) h.1

pub decimal_no_name : (b : ℕ) → is_decimal b ≡ true → begins_name b ≡ false
decimal_no_name b e = grind (arith, nat_tests)

-- ---- digits and suffixes

decimal_number : (b : ℕ) → is_decimal b ≡ true → is_number_byte b ≡ true
decimal_number b e = or_left (is_name_byte b) (b == 46) (or_right (begins_name b) (is_decimal b) e)

letter_number : (b : ℕ) → begins_name b ≡ true → is_number_byte b ≡ true
letter_number b e = or_left (is_name_byte b) (b == 46) (or_left (begins_name b) (is_decimal b) e)

small_letter : (b : ℕ) → (nat_le 97 b && nat_le b 102) ≡ true → begins_name b ≡ true
small_letter b e = grind (arith, nat_tests)

capital_letter : (b : ℕ) → (nat_le 65 b && nat_le b 70) ≡ true → begins_name b ≡ true
capital_letter b e = grind (arith, nat_tests)

digit_cases : (decimal small capital : Bool) (x y z base : ℕ) → base ≤ 16 → nat_lt (cond decimal x (cond small y (cond capital z 16))) base ≡ true → (decimal ≡ true) ⊎ ((small ≡ true) ⊎ (capital ≡ true))
digit_cases true small capital x y z base h e = inl refl
digit_cases false true capital x y z base h e = inr (inl refl)
digit_cases false false true x y z base h e = inr (inr refl)
digit_cases false false false x y z base h e = absurd (let l = ltb-true 16 base e in omega arith)

digit_number : (base : ℕ) → base ≤ 16 → (b : ℕ) → is_digit base b ≡ true → is_number_byte b ≡ true
digit_number base h b e =
    elim (digit_cases (is_decimal b) (nat_le 97 b && nat_le b 102) (nat_le 65 b && nat_le b 70) (b - 48) (b - 87) (b - 55) base h e) as (λ w. is_number_byte b ≡ true) [
      | inl d ↦ decimal_number b d
      | inr w ↦ elim w as (λ w. is_number_byte b ≡ true) [ inl s ↦ letter_number b (small_letter b s) | inr c ↦ letter_number b (capital_letter b c) ]
    ]

decimal_cases : (decimal small capital : Bool) (b : ℕ) → (small ≡ true → 97 ≤ b) → (capital ≡ true → 65 ≤ b) → nat_lt (cond decimal (b - 48) (cond small (b - 87) (cond capital (b - 55) 16))) 10 ≡ true → decimal ≡ true
decimal_cases true small capital b f g e = refl
decimal_cases false true capital b f g e = absurd (let l = ltb-true (b - 87) 10 e in let s = f refl in omega arith)
decimal_cases false false true b f g e = absurd (let l = ltb-true (b - 55) 10 e in let s = g refl in omega arith)
decimal_cases false false false b f g e = absurd cc

decimal_digit : (b : ℕ) → is_digit 10 b ≡ true → is_decimal b ≡ true
decimal_digit b e = decimal_cases (is_decimal b) (nat_le 97 b && nat_le b 102) (nat_le 65 b && nat_le b 70) b (λ s. leb-true 97 b (and_parts (nat_le 97 b) (nat_le b 102) s).0) (λ c. leb-true 65 b (and_parts (nat_le 65 b) (nat_le b 70) c).0) e

either_number : (x y b : ℕ) → is_number_byte x ≡ true → is_number_byte y ≡ true → is_either x y b ≡ true → is_number_byte b ≡ true
either_number x y b p q e =
    elim (or_cases (b == x) (b == y) e) as (λ w. is_number_byte b ≡ true) [
      | inl h ↦ subst (λ (c : ℕ). is_number_byte c ≡ true) (sym (eqb-true b x h)) p
      | inr h ↦ subst (λ (c : ℕ). is_number_byte c ≡ true) (sym (eqb-true b y h)) q
    ]

unsigned_number : (b : ℕ) → is_unsigned_suffix b ≡ true → is_number_byte b ≡ true
unsigned_number b e = either_number 117 85 b refl refl e

long_number : (b : ℕ) → is_long_suffix b ≡ true → is_number_byte b ≡ true
long_number b e = either_number 108 76 b refl refl e

-- what a choice comes to
pub branches : {A : Type 0} {P : Type 0} (t : Bool) (a b : Option A) (y : A) → (t ≡ true → a ≡ Some y → P) → (t ≡ false → b ≡ Some y → P) → cond t a b ≡ Some y → P
branches true a b y f g e = f refl e
branches false a b y f g e = g refl e

one_byte : (b : ℕ) → is_number_byte b ≡ true → list_all is_number_byte (b ∷ []) ≡ true
one_byte b e = and_from (is_number_byte b) true e refl

two_bytes : (a b : ℕ) (rest : List ℕ) → is_number_byte a ≡ true → is_number_byte b ≡ true → list_all is_number_byte rest ≡ true → list_all is_number_byte (a ∷ b ∷ rest) ≡ true
two_bytes a b rest p q r = and_from (is_number_byte a) (is_number_byte b && list_all is_number_byte rest) p (and_from (is_number_byte b) (list_all is_number_byte rest) q r)

suffix_bytes : (bytes : List ℕ) (s : Bool × Bool) → suffixes_of bytes ≡ Some s → list_all is_number_byte bytes ≡ true
unfolding suffixes_of
suffix_bytes [] s e = refl
suffix_bytes (a ∷ []) s e =
    branches (is_unsigned_suffix a) (Some (true, false)) (cond (is_long_suffix a) (Some (false, true)) None) s
    (λ u h. one_byte a (unsigned_number a u))
    (λ u h. branches (is_long_suffix a) (Some (false, true)) None s (λ l g. one_byte a (long_number a l)) (λ l g. absurd cc) h) e
suffix_bytes (a ∷ b ∷ []) s e =
    branches (is_unsigned_suffix a && is_long_suffix b) (Some (true, true)) (cond (is_long_suffix a && is_unsigned_suffix b) (Some (true, true)) None) s
    (λ u h. let w = and_parts (is_unsigned_suffix a) (is_long_suffix b) u in two_bytes a b [] (unsigned_number a w.0) (long_number b w.1) refl)
    (λ u h. branches (is_long_suffix a && is_unsigned_suffix b) (Some (true, true)) None s
    (λ l g. let w = and_parts (is_long_suffix a) (is_unsigned_suffix b) l in two_bytes a b [] (long_number a w.0) (unsigned_number b w.1) refl)
    (λ l g. absurd cc) h) e
suffix_bytes (a ∷ b ∷ c ∷ rest) s e = absurd cc

-- ---- integer constants

-- what is known of bytes that are an integer constant
pub record Integral (bytes : List ℕ) (k : TokKind) : Type 0 where
  pub numbers : list_all is_number_byte bytes ≡ true
  pub is : is_integer k ≡ true

number_all : (base count : ℕ) (bytes : List ℕ) (s : Bool × Bool) → base ≤ 16 → count ≡ prefix_len (is_digit base) bytes → suffixes_of (drop count bytes) ≡ Some s → list_all is_number_byte bytes ≡ true
number_all base count bytes s h c e =
    let digits : list_all is_number_byte (take count bytes) ≡ true = all_more (is_digit base) is_number_byte (digit_number base h) (take count bytes) (prefix_all (is_digit base) count bytes (omega (arith, prefix_len-le-length (is_digit base) bytes)) (omega arith)) in
    let both : list_all is_number_byte (take count bytes ++ drop count bytes) ≡ true = list_all-append is_number_byte (take count bytes) (drop count bytes) ∙ and_from (list_all is_number_byte (take count bytes)) (list_all is_number_byte (drop count bytes)) digits (suffix_bytes (drop count bytes) s e) in
    subst (λ (xs : List ℕ). list_all is_number_byte xs ≡ true) (take-append-drop count bytes) both

some_integer : (value base : ℕ) (u l : Bool) (k : TokKind) → Some (kind.Int value base u l) ≡ Some k → is_integer k ≡ true
some_integer value base u l k e = let h : kind.Int value base u l ≡ k = cc in ap is_integer (sym h)

number_is : (base : ℕ) (bytes : List ℕ) (k : TokKind) → base ≤ 16 → number_in base bytes ≡ Some k → Integral bytes k
unfolding number_in
number_is base bytes k h e =
    let count = prefix_len (is_digit base) bytes in
    let value = value_in base (take count bytes) in
    let made : Option TokKind = suffixes_of (drop count bytes) >>= λ s. Some (kind.Int value base s.0 s.1) in
    branches (nat_lt 0 count && nat_lt value 4294967296) made None k
    (λ t g. let b = bound (suffixes_of (drop count bytes)) (λ s. Some (kind.Int value base s.0 s.1)) k g in
    record { numbers = number_all base count bytes b.first h refl b.is; is = some_integer value base b.first.0 b.first.1 k b.then })
    (λ t g. absurd cc) e

first_digit : (t : Bool) (n : ℕ) → nat_lt 0 (cond t (1 + n) 0) ≡ true → t ≡ true
first_digit true n e = refl
first_digit false n e = e

number_first : (a : ℕ) (rest : List ℕ) (k : TokKind) → number_in 10 (a ∷ rest) ≡ Some k → is_decimal a ≡ true
unfolding number_in
number_first a rest k e =
    let count = prefix_len (is_digit 10) (a ∷ rest) in
    let value = value_in 10 (take count (a ∷ rest)) in
    let made : Option TokKind = suffixes_of (drop count (a ∷ rest)) >>= λ s. Some (kind.Int value 10 s.0 s.1) in
    branches (nat_lt 0 count && nat_lt value 4294967296) made None k
    (λ t g. decimal_digit a (first_digit (is_digit 10 a) (prefix_len (is_digit 10) rest) (and_parts (nat_lt 0 count) (nat_lt value 4294967296) t).0))
    (λ t g. absurd cc) e

zero_decimal : (a : ℕ) → (a == 48) ≡ true → is_decimal a ≡ true
zero_decimal a e = subst (λ (c : ℕ). is_decimal c ≡ true) (sym (eqb-true a 48 e)) refl

-- an integer constant begins with a decimal digit
pub integer_first : (a : ℕ) (rest : List ℕ) (k : TokKind) → integer_of (a ∷ rest) ≡ Some k → is_decimal a ≡ true
unfolding integer_of
integer_first a [] k e = branches (a == 48) (number_in 8 (a ∷ [])) (number_in 10 (a ∷ [])) k (λ t g. zero_decimal a t) (λ t g. number_first a [] k g) e
integer_first a (b ∷ rest) k e =
    branches (a == 48) (cond (is_either 120 88 b) (number_in 16 rest) (cond (is_either 98 66 b) (number_in 2 rest) (number_in 8 (a ∷ b ∷ rest)))) (number_in 10 (a ∷ b ∷ rest)) k
    (λ t g. zero_decimal a t) (λ t g. number_first a (b ∷ rest) k g) e

behind_prefix : (x y a b : ℕ) (rest : List ℕ) (k : TokKind) → (a == 48) ≡ true → is_number_byte x ≡ true → is_number_byte y ≡ true → is_either x y b ≡ true → Integral rest k → Integral (a ∷ b ∷ rest) k
behind_prefix x y a b rest k t p q e i = record { numbers = two_bytes a b rest (decimal_number a (zero_decimal a t)) (either_number x y b p q e) i.numbers; is = i.is }

pub integer_is : (bytes : List ℕ) (k : TokKind) → integer_of bytes ≡ Some k → Integral bytes k
unfolding integer_of
integer_is [] k e = absurd cc
integer_is (a ∷ []) k e = branches (a == 48) (number_in 8 (a ∷ [])) (number_in 10 (a ∷ [])) k (λ t g. number_is 8 (a ∷ []) k (omega arith) g) (λ t g. number_is 10 (a ∷ []) k (omega arith) g) e
integer_is (a ∷ b ∷ rest) k e =
    branches (a == 48) (cond (is_either 120 88 b) (number_in 16 rest) (cond (is_either 98 66 b) (number_in 2 rest) (number_in 8 (a ∷ b ∷ rest)))) (number_in 10 (a ∷ b ∷ rest)) k
    (λ t g. branches (is_either 120 88 b) (number_in 16 rest) (cond (is_either 98 66 b) (number_in 2 rest) (number_in 8 (a ∷ b ∷ rest))) k
    (λ x h. behind_prefix 120 88 a b rest k t refl refl x (number_is 16 rest k (omega arith) h))
    (λ x h. branches (is_either 98 66 b) (number_in 2 rest) (number_in 8 (a ∷ b ∷ rest)) k
    (λ y i. behind_prefix 98 66 a b rest k t refl refl y (number_is 2 rest k (omega arith) i))
    (λ y i. number_is 8 (a ∷ b ∷ rest) k (omega arith) i) h) g)
    (λ t g. number_is 10 (a ∷ b ∷ rest) k (omega arith) g) e
