-- How large quotients, products and shifted numbers are, and what the code's steps give of them.
use Rattle.std.proofs.Common.{◌≡◌, ℕ, zero, suc, ◌<◌, ◌≤◌, ◌^◌, ◌-◌, ℤ, pos, negsuc, neg_ℤ, ◌≤ℤ◌, ◌<ℤ◌, ◌*ℤ◌, int_div, unsigned_abs, FitsSigned, refl, ap, ◌∙◌, subst, sym, arith}
use Rattle.std.proofs.Math.Nat.{div-le_self, mul-le-mul}
use Rattle.std.specs.Int.{w128, cast_signed, cast_unsigned}
use Rattle.std.proofs.lemmas.Int.{ints, fits_signed_from_abs, fits_signed_mul, unsigned_abs-mul, to_z-of_z}
use Rattle.c_ints.specs.Operators.{cut_to}
use Rattle.c_ints.specs.declared.types.IntTy.{IntTy}

-- what is cut, where type and number were computed
pub cut_same : (t u : IntTy) (x y : ℤ) → t ≡ u → x ≡ y → cut_to t x ≡ cut_to u y
cut_same t u x y e f = ap (λ t. cut_to t x) e ∙ ap (cut_to u) f

pub both : {A : Type 0} (f : ℤ → ℤ → A) (x y a b : ℤ) → x ≡ a → y ≡ b → f x y ≡ f a b
both f x y a b e g = ap (λ x. f x y) e ∙ ap (f a) g

abs_neg : (n : ℕ) → unsigned_abs (neg_ℤ (pos n)) ≡ n
abs_neg zero = refl
abs_neg (suc n) = refl

abs_div : (a d : ℤ) → unsigned_abs (int_div a d) ≤ unsigned_abs a
abs_div (pos a) (pos b) = div-le_self a b
abs_div (pos a) (negsuc b) = subst (λ n. n ≤ a) (sym (abs_neg _)) (div-le_self a (suc b))
abs_div (negsuc a) (pos b) = subst (λ n. n ≤ suc a) (sym (abs_neg _)) (div-le_self (suc a) b)
abs_div (negsuc a) (negsuc b) = div-le_self (suc a) (suc b)

pub fits_small : (z : ℤ) → unsigned_abs z < 2 ^ 32 → FitsSigned w128 z
fits_small z h = fits_signed_from_abs w128 z (omega (arith, h))

pub fits_div : (a d : ℤ) → unsigned_abs a < 2 ^ 32 → FitsSigned w128 (int_div a d)
fits_div a d h = fits_signed_from_abs w128 (int_div a d) (omega (arith, h, abs_div a d))

pub fits_mul : (a b : ℤ) → unsigned_abs a < 2 ^ 32 → unsigned_abs b < 2 ^ 32 → FitsSigned w128 (a *ℤ b)
fits_mul a b h k = fits_signed_mul w128 a b (2 ^ 32) (2 ^ 32) (omega (arith, h)) (omega (arith, k)) (omega arith)

-- what the code's product gives
pub mul_is : (x y : ℤ) → unsigned_abs x < 2 ^ 32 → unsigned_abs y < 2 ^ 32 → cast_signed w128 (cast_unsigned w128 (cast_signed w128 (cast_unsigned w128 x) *ℤ cast_signed w128 (cast_unsigned w128 y))) ≡ x *ℤ y
mul_is x y h k =
    ap (λ z. cast_signed w128 (cast_unsigned w128 z)) (both (λ x y. x *ℤ y) _ _ _ _ (to_z-of_z w128 x (fits_small x h)) (to_z-of_z w128 y (fits_small y k))) ∙
    to_z-of_z w128 (x *ℤ y) (fits_mul x y h k)

pub product_fits : (x y : ℤ) → unsigned_abs x < 2 ^ 32 → unsigned_abs y < 2 ^ 32 → FitsSigned w128 (cast_signed w128 (cast_unsigned w128 x) *ℤ cast_signed w128 (cast_unsigned w128 y))
product_fits x y h k =
    subst (FitsSigned w128)
    (sym (both (λ x y. x *ℤ y) _ _ _ _ (to_z-of_z w128 x (fits_small x h)) (to_z-of_z w128 y (fits_small y k))))
    (fits_mul x y h k)

-- a count of elements, times the bytes of one
pub count_fits : (a b : ℤ) → unsigned_abs a < 2 ^ 32 → unsigned_abs b < 2 ^ 64 → FitsSigned w128 (a *ℤ b)
count_fits a b h k = fits_signed_mul w128 a b (2 ^ 32) (2 ^ 64) (omega (arith, h)) (omega (arith, k)) (omega arith)

pub count_size : (a b : ℤ) → unsigned_abs a < 2 ^ 32 → unsigned_abs b < 2 ^ 64 → unsigned_abs (a *ℤ b) ≤ 2 ^ 96
count_size a b h k =
    let p : unsigned_abs a ≤ 2 ^ 32 = omega (arith, h) in
    let q : unsigned_abs b ≤ 2 ^ 64 = omega (arith, k) in
    omega (arith, unsigned_abs-mul a b, mul-le-mul p q)

pub above : (z : ℤ) → unsigned_abs z ≤ 2 ^ 96 → negsuc (2 ^ 100 - 1) ≤ℤ z
above (pos a) h = omega (arith, ints)
above (negsuc a) h = omega (arith, ints)

pub below : (z : ℤ) → unsigned_abs z ≤ 2 ^ 96 → z <ℤ pos (2 ^ 100)
below (pos a) h = omega (arith, ints)
below (negsuc a) h = omega (arith, ints)
