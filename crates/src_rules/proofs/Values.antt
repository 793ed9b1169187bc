-- Numbers of their types, and when types are the same.
use Rattle.std.proofs.Common.{◌≡◌, ℕ, zero, suc, ◌<◌, true, nat_eq, refl, sym, ap, ◌∙◌, arith, ℤ, pos, negsuc, ◌≤ℤ◌, ◌+ℤ◌, ◌-ℤ◌}
use Rattle.std.proofs.lemmas.Bool.{and_parts, false≢true}
use Rattle.std.proofs.lemmas.Grind.{common_steps}
use Rattle.std.proofs.lemmas.Int.{ints}
use Rattle.std.specs.Int.{int_rem_euclid}
use Rattle.c_ints.specs.Range.{IsInRange, least, span, cut}
use Rattle.c_ints.specs.declared.types.IntTy.{IntTy}
use Rattle.c_ints.specs.declared.types.IntTy.TheVariants as int
use Rattle.c_typed.specs.Sameness.{int_number, same_int, same_type}
use Rattle.c_typed.specs.declared.types.Ty.{Ty}
use Rattle.c_typed.specs.declared.types.Ty.TheVariants as types

pub same_nat : (a b : ℕ) → nat_eq a b ≡ true → a ≡ b
same_nat a b e = grind (arith, common_steps)

-- ---- what was cut is in the range
rem_positive : (z : ℤ) (n : ℕ) → 0 < n → pos 0 ≤ℤ int_rem_euclid z (pos n)
rem_positive (pos a) n h = omega (arith, ints)
rem_positive (negsuc a) n h = omega (arith, ints)

rem_small : (z : ℤ) (n : ℕ) → 0 < n → (int_rem_euclid z (pos n) +ℤ pos 1) ≤ℤ pos n
rem_small (pos a) n h = omega (arith, ints)
rem_small (negsuc a) n h = omega (arith, ints)

above : (l r : ℤ) → pos 0 ≤ℤ r → l ≤ℤ (l +ℤ r)
above l r h = omega (arith, ints)

below : (l r : ℤ) (n : ℕ) → (r +ℤ pos 1) ≤ℤ pos n → (l +ℤ r) ≤ℤ ((l +ℤ pos n) -ℤ pos 1)
below l r n h = omega (arith, ints)

spans : (ty : IntTy) → 0 < span ty
spans int.Char = omega arith
spans int.SChar = omega arith
spans int.UChar = omega arith
spans int.Short = omega arith
spans int.UShort = omega arith
spans int.Int = omega arith
spans int.UInt = omega arith
spans int.Long = omega arith
spans int.ULong = omega arith

pub in_range : (ty : IntTy) (z : ℤ) → IsInRange ty (cut ty z)
in_range ty z =
    (above (least ty) _ (rem_positive (z -ℤ least ty) (span ty) (spans ty)), below (least ty) _ (span ty) (rem_small (z -ℤ least ty) (span ty) (spans ty)))

-- ---- one type
abbrev by_number : ℕ → IntTy
by_number zero = int.Char
by_number (suc zero) = int.SChar
by_number (suc (suc zero)) = int.UChar
by_number (suc (suc (suc zero))) = int.Short
by_number (suc (suc (suc (suc zero)))) = int.UShort
by_number (suc (suc (suc (suc (suc zero))))) = int.Int
by_number (suc (suc (suc (suc (suc (suc zero)))))) = int.UInt
by_number (suc (suc (suc (suc (suc (suc (suc zero))))))) = int.Long
by_number (suc (suc (suc (suc (suc (suc (suc (suc n)))))))) = int.ULong

numbered : (a : IntTy) → by_number (int_number a) ≡ a
numbered int.Char = refl
numbered int.SChar = refl
numbered int.UChar = refl
numbered int.Short = refl
numbered int.UShort = refl
numbered int.Int = refl
numbered int.UInt = refl
numbered int.Long = refl
numbered int.ULong = refl

pub same_int_is : (a b : IntTy) → same_int a b ≡ true → a ≡ b
same_int_is a b e = sym (numbered a) ∙ (ap by_number (same_nat _ _ e) ∙ numbered b)

pub same_type_is : (a b : Ty) → same_type a b ≡ true → a ≡ b
same_type_is types.Void types.Void e = refl
same_type_is (types.Int a) (types.Int b) e = ap types.Int (same_int_is a b e)
same_type_is (types.Pointer a) (types.Pointer b) e = ap types.Pointer (same_nat a b e)
same_type_is (types.Array a m x) (types.Array b n y) e =
    let h = and_parts _ _ e in
    let g = and_parts _ _ h.1 in
    ap (λ z. types.Array z m x) (same_nat a b h.0) ∙ (ap (λ z. types.Array b z x) (same_nat m n g.0) ∙ ap (λ z. types.Array b n z) (same_nat x y g.1))
same_type_is (types.Struct a) (types.Struct b) e = ap types.Struct (same_nat a b e)
same_type_is _ _ e = absurd (false≢true e)
