-- The decimal text of a number below 1000 is what the library prints.
use Rattle.std.proofs.Common.{◌≡◌, ℕ, ◌+◌, ◌/◌, ◌%◌, ◌<◌, ◌≤◌, [], ◌∷◌, ◌++◌, refl, ap, ◌∙◌, arith, ⊎_elim}
use Rattle.std.proofs.lemmas.Bool.{lt-ltb, le-ltb, cases_lt}
use Rattle.std.proofs.lemmas.Fmt.{decimal_digit, decimal_step}
use Rattle.std.specs.Fmt.{decimal}
use Rattle.pic_map.specs.Decimal.{number_text}

one : (n : ℕ) → n < 10 → decimal n ≡ number_text n
one n h = rw (lt-ltb n 10 h) (decimal_digit n h)

two : (n : ℕ) → 10 ≤ n → n < 100 → decimal n ≡ number_text n
two n l h = decimal_step n l (omega arith) ∙ rw (decimal_digit (n / 10) (omega arith), le-ltb n 10 l, lt-ltb n 100 h) refl

three : (n : ℕ) → 100 ≤ n → n < 1000 → decimal n ≡ number_text n
three n l h =
    decimal_step n (omega arith) (omega arith)
    ∙ ap (λ t. t ++ (48 + n % 10) ∷ []) (decimal_step (n / 10) (omega arith) (omega arith))
    ∙ rw (decimal_digit (n / 10 / 10) (omega arith), le-ltb n 10 (omega arith), le-ltb n 100 l) (ap (λ d. (48 + d) ∷ (48 + n / 10 % 10) ∷ (48 + n % 10) ∷ []) (omega arith))

pub number_is_decimal : (n : ℕ) → n < 1000 → decimal n ≡ number_text n
number_is_decimal n h =
    ⊎_elim (λ a. one n a)
    (λ a. ⊎_elim (λ b. two n a b) (λ b. three n b h) (cases_lt n 100))
    (cases_lt n 10)
