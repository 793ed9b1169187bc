-- Binary digits, one after the other.
use Rattle.std.proofs.Common.{◌≡◌, ℕ, zero, suc, ◌+◌, ◌-◌, ◌/◌, ◌<◌, nat_eq, Bool, false, if◌then◌else◌, refl, ap, ◌∙◌, arith}
use Rattle.c_typed.specs.Words.{digits_within}

pub digits_none : (fuel n : ℕ) → fuel ≡ 0 → digits_within fuel n ≡ 0
unfolding digits_within
digits_none zero n is = refl
digits_none (suc fuel) n is = omega (arith, is)

pub digits_zero : (fuel n : ℕ) → n ≡ 0 → digits_within fuel n ≡ 0
unfolding digits_within
digits_zero zero n is = refl
digits_zero (suc fuel) n is = rw is refl

cond_false : (b : Bool) (x y : ℕ) → b ≡ false → (if b then x else y) ≡ y
cond_false b x y is = rw is refl

pub digits_more : (fuel n : ℕ) → 0 < fuel → 0 < n → digits_within fuel n ≡ 1 + digits_within (fuel - 1) (n / 2)
unfolding digits_within
digits_more zero n some more = omega (arith, some)
digits_more (suc fuel) n some more = cond_false (nat_eq n 0) _ _ (grind arith) ∙ (let back : fuel ≡ suc fuel - 1 = omega arith in ap (λ f. 1 + digits_within f (n / 2)) back)
