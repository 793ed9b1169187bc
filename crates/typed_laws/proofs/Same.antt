-- Types that are the same are equal, and each is the same as itself.
use Rattle.std.proofs.Common.{◌≡◌, ℕ, zero, suc, Bool, true, false, ◌&&◌, nat_eq, refl, sym, ap, ◌∙◌, arith}
use Rattle.std.proofs.lemmas.Bool.{and_parts, false≢true}
use Rattle.std.proofs.lemmas.Grind.{common_steps}
use Rattle.c_ints.specs.Conversions.{promoted, common}
use Rattle.c_ints.specs.declared.types.IntTy.{IntTy}
use Rattle.c_ints.specs.declared.types.IntTy.TheVariants as int
use Rattle.c_typed.specs.Sameness.{int_number, same_int, same_type, same_flag, same_qualified}
use Rattle.c_typed.specs.declared.types.Qualified.{Qualified}
use Rattle.c_typed.specs.declared.types.Ty.{Ty}
use Rattle.c_typed.specs.declared.types.Ty.TheVariants.{Void, Int, Pointer, Array, Struct}

pub same_nat : (a b : ℕ) → nat_eq a b ≡ true → a ≡ b
same_nat a b e = grind (arith, common_steps)

pub same_nat_refl : (a : ℕ) → nat_eq a a ≡ true
same_nat_refl a = grind (arith, common_steps)

-- a question on an integer type that each of them answers
pub each_int : (P : IntTy → Bool) → (P int.Char ≡ true) × (P int.SChar ≡ true) × (P int.UChar ≡ true) × (P int.Short ≡ true) × (P int.UShort ≡ true) × (P int.Int ≡ true) × (P int.UInt ≡ true) × (P int.Long ≡ true) × (P int.ULong ≡ true) → (a : IntTy) → P a ≡ true
each_int P h int.Char = h.0
each_int P h int.SChar = h.1
each_int P h int.UChar = h.2
each_int P h int.Short = h.3
each_int P h int.UShort = h.4
each_int P h int.Int = h.5
each_int P h int.UInt = h.6
each_int P h int.Long = h.7
each_int P h int.ULong = h.8

pub each_two : (P : IntTy → IntTy → Bool)
    → ((b : IntTy) → P int.Char b ≡ true) × ((b : IntTy) → P int.SChar b ≡ true) × ((b : IntTy) → P int.UChar b ≡ true) × ((b : IntTy) → P int.Short b ≡ true) × ((b : IntTy) → P int.UShort b ≡ true) × ((b : IntTy) → P int.Int b ≡ true) × ((b : IntTy) → P int.UInt b ≡ true) × ((b : IntTy) → P int.Long b ≡ true) × ((b : IntTy) → P int.ULong b ≡ true)
    → (a b : IntTy) → P a b ≡ true
each_two P h int.Char = h.0
each_two P h int.SChar = h.1
each_two P h int.UChar = h.2
each_two P h int.Short = h.3
each_two P h int.UShort = h.4
each_two P h int.Int = h.5
each_two P h int.UInt = h.6
each_two P h int.Long = h.7
each_two P h int.ULong = h.8

pub same_int_refl : (a : IntTy) → same_int a a ≡ true
same_int_refl = each_int (λ a. same_int a a) (refl, refl, refl, refl, refl, refl, refl, refl, refl)

pub promoted_again : (a : IntTy) → same_int (promoted (promoted a)) (promoted a) ≡ true
promoted_again = each_int (λ a. same_int (promoted (promoted a)) (promoted a)) (refl, refl, refl, refl, refl, refl, refl, refl, refl)

pub common_promoted : (a b : IntTy) → same_int (promoted (common a b)) (common a b) ≡ true
common_promoted = each_two (λ a b. same_int (promoted (common a b)) (common a b)) (
  each_int (λ b. same_int (promoted (common int.Char b)) (common int.Char b)) (refl, refl, refl, refl, refl, refl, refl, refl, refl),
  each_int (λ b. same_int (promoted (common int.SChar b)) (common int.SChar b)) (refl, refl, refl, refl, refl, refl, refl, refl, refl),
  each_int (λ b. same_int (promoted (common int.UChar b)) (common int.UChar b)) (refl, refl, refl, refl, refl, refl, refl, refl, refl),
  each_int (λ b. same_int (promoted (common int.Short b)) (common int.Short b)) (refl, refl, refl, refl, refl, refl, refl, refl, refl),
  each_int (λ b. same_int (promoted (common int.UShort b)) (common int.UShort b)) (refl, refl, refl, refl, refl, refl, refl, refl, refl),
  each_int (λ b. same_int (promoted (common int.Int b)) (common int.Int b)) (refl, refl, refl, refl, refl, refl, refl, refl, refl),
  each_int (λ b. same_int (promoted (common int.UInt b)) (common int.UInt b)) (refl, refl, refl, refl, refl, refl, refl, refl, refl),
  each_int (λ b. same_int (promoted (common int.Long b)) (common int.Long b)) (refl, refl, refl, refl, refl, refl, refl, refl, refl),
  each_int (λ b. same_int (promoted (common int.ULong b)) (common int.ULong b)) (refl, refl, refl, refl, refl, refl, refl, refl, refl),
)

pub common_again : (a b : IntTy) → same_int (common a b) (common a (common a b)) ≡ true
common_again = each_two (λ a b. same_int (common a b) (common a (common a b))) (
  each_int (λ b. same_int (common int.Char b) (common int.Char (common int.Char b))) (refl, refl, refl, refl, refl, refl, refl, refl, refl),
  each_int (λ b. same_int (common int.SChar b) (common int.SChar (common int.SChar b))) (refl, refl, refl, refl, refl, refl, refl, refl, refl),
  each_int (λ b. same_int (common int.UChar b) (common int.UChar (common int.UChar b))) (refl, refl, refl, refl, refl, refl, refl, refl, refl),
  each_int (λ b. same_int (common int.Short b) (common int.Short (common int.Short b))) (refl, refl, refl, refl, refl, refl, refl, refl, refl),
  each_int (λ b. same_int (common int.UShort b) (common int.UShort (common int.UShort b))) (refl, refl, refl, refl, refl, refl, refl, refl, refl),
  each_int (λ b. same_int (common int.Int b) (common int.Int (common int.Int b))) (refl, refl, refl, refl, refl, refl, refl, refl, refl),
  each_int (λ b. same_int (common int.UInt b) (common int.UInt (common int.UInt b))) (refl, refl, refl, refl, refl, refl, refl, refl, refl),
  each_int (λ b. same_int (common int.Long b) (common int.Long (common int.Long b))) (refl, refl, refl, refl, refl, refl, refl, refl, refl),
  each_int (λ b. same_int (common int.ULong b) (common int.ULong (common int.ULong b))) (refl, refl, refl, refl, refl, refl, refl, refl, refl),
)

abbrev by_number : ℕ → IntTy
by_number zero = int.Char
by_number (suc zero) = int.SChar
by_number (suc (suc zero)) = int.UChar
by_number (suc (suc (suc zero))) = int.Short
by_number (suc (suc (suc (suc zero)))) = int.UShort
by_number (suc (suc (suc (suc (suc zero))))) = int.Int
by_number (suc (suc (suc (suc (suc (suc zero)))))) = int.UInt
by_number (suc (suc (suc (suc (suc (suc (suc zero))))))) = int.Long
by_number (suc (suc (suc (suc (suc (suc (suc (suc n)))))))) = int.ULong

numbered : (a : IntTy) → by_number (int_number a) ≡ a
numbered int.Char = refl
numbered int.SChar = refl
numbered int.UChar = refl
numbered int.Short = refl
numbered int.UShort = refl
numbered int.Int = refl
numbered int.UInt = refl
numbered int.Long = refl
numbered int.ULong = refl

pub same_int_is : (a b : IntTy) → same_int a b ≡ true → a ≡ b
same_int_is a b e = sym (numbered a) ∙ (ap by_number (same_nat (int_number a) (int_number b) e) ∙ numbered b)

pub same_type_is : (a b : Ty) → same_type a b ≡ true → a ≡ b
same_type_is Void Void e = refl
same_type_is (Int a) (Int b) e = ap Int (same_int_is a b e)
same_type_is (Pointer a) (Pointer b) e = ap Pointer (same_nat a b e)
same_type_is (Array a m x) (Array b n y) e =
    let h = and_parts (nat_eq a b) (nat_eq m n && nat_eq x y) e in
    let g = and_parts (nat_eq m n) (nat_eq x y) h.1 in
    ap (λ z. Array z m x) (same_nat a b h.0) ∙ (ap (λ z. Array b z x) (same_nat m n g.0) ∙ ap (λ z. Array b n z) (same_nat x y g.1))
same_type_is (Struct a) (Struct b) e = ap Struct (same_nat a b e)
same_type_is _ _ e = absurd (false≢true e)

pub same_type_refl : (a : Ty) → same_type a a ≡ true
same_type_refl Void = refl
same_type_refl (Int a) = same_int_refl a
same_type_refl (Pointer a) = same_nat_refl a
same_type_refl (Array a m x) = rw (same_nat_refl a, same_nat_refl m, same_nat_refl x) refl
same_type_refl (Struct a) = same_nat_refl a

pub same_flag_is : (a b : Bool) → same_flag a b ≡ true → a ≡ b
same_flag_is true true e = refl
same_flag_is true false e = absurd (false≢true e)
same_flag_is false true e = absurd (false≢true e)
same_flag_is false false e = refl

pub same_flag_refl : (a : Bool) → same_flag a a ≡ true
same_flag_refl true = refl
same_flag_refl false = refl

pub same_qualified_is : (a b : Qualified) → same_qualified a b ≡ true → a ≡ b
same_qualified_is a b e =
    let h = and_parts (same_type a.ty b.ty) (same_flag a.constant b.constant && same_flag a.volatile b.volatile) e in
    let g = and_parts (same_flag a.constant b.constant) (same_flag a.volatile b.volatile) h.1 in
    λ i. record { ty = same_type_is a.ty b.ty h.0 i; constant = same_flag_is a.constant b.constant g.0 i; volatile = same_flag_is a.volatile b.volatile g.1 i }

pub same_qualified_refl : (a : Qualified) → same_qualified a a ≡ true
same_qualified_refl a = rw (same_type_refl a.ty, same_flag_refl a.constant, same_flag_refl a.volatile) refl
