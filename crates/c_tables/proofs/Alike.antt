-- Values that are compared by `==`, as the rules compare them.
use Rattle.std.proofs.Common.{◌≡◌, Bool, true, false, ◌&&◌, List, [], ◌∷◌, refl, ap, ◌∙◌}
use Rattle.c_ints.specs.declared.types.IntTy.{IntTy}
use Rattle.c_ints.specs.declared.types.IntTy.TheVariants as int
use Rattle.c_ints.specs.contracts.types.IntTyPartialEq.TheImpl as int_equal
use Rattle.std.specs.List.{position_or_len}
use Rattle.std.specs.Cmp.{nat_eq_equiv}
use Rattle.indexmap.specs.IndexSet.{insert_key}
use Rattle.std.specs.Cmp.Lexicographic.{pointwise}
use Rattle.c_typed.specs.Sameness.{int_number, same_qualified, same_type, same_flag, same_int}
use Rattle.c_typed.specs.declared.types.Qualified.{Qualified}
use Rattle.c_typed.specs.declared.types.Ty.{Ty}
use Rattle.c_typed.specs.declared.types.Ty.TheVariants.{Void, Int, Pointer, Array, Struct}
use Rattle.c_typed.specs.contracts.types.QualifiedPartialEq.TheImpl as qualified_equal
use Rattle.c_typed.specs.contracts.types.TyPartialEq.TheImpl as type_equal
use Rattle.type_rules.specs.Declarations.{same_types}
use Rattle.type_rules.specs.Rows.{place_of_row, with_row}
use Rattle.c_tables.proofs.Rows.{row_place, row_kept}

pub ints_same : (a b : IntTy) → (int_equal.eq-value).it a b ≡ same_int a b
ints_same int.Char int.Char = refl
ints_same int.Char int.SChar = refl
ints_same int.Char int.UChar = refl
ints_same int.Char int.Short = refl
ints_same int.Char int.UShort = refl
ints_same int.Char int.Int = refl
ints_same int.Char int.UInt = refl
ints_same int.Char int.Long = refl
ints_same int.Char int.ULong = refl
ints_same int.SChar int.Char = refl
ints_same int.SChar int.SChar = refl
ints_same int.SChar int.UChar = refl
ints_same int.SChar int.Short = refl
ints_same int.SChar int.UShort = refl
ints_same int.SChar int.Int = refl
ints_same int.SChar int.UInt = refl
ints_same int.SChar int.Long = refl
ints_same int.SChar int.ULong = refl
ints_same int.UChar int.Char = refl
ints_same int.UChar int.SChar = refl
ints_same int.UChar int.UChar = refl
ints_same int.UChar int.Short = refl
ints_same int.UChar int.UShort = refl
ints_same int.UChar int.Int = refl
ints_same int.UChar int.UInt = refl
ints_same int.UChar int.Long = refl
ints_same int.UChar int.ULong = refl
ints_same int.Short int.Char = refl
ints_same int.Short int.SChar = refl
ints_same int.Short int.UChar = refl
ints_same int.Short int.Short = refl
ints_same int.Short int.UShort = refl
ints_same int.Short int.Int = refl
ints_same int.Short int.UInt = refl
ints_same int.Short int.Long = refl
ints_same int.Short int.ULong = refl
ints_same int.UShort int.Char = refl
ints_same int.UShort int.SChar = refl
ints_same int.UShort int.UChar = refl
ints_same int.UShort int.Short = refl
ints_same int.UShort int.UShort = refl
ints_same int.UShort int.Int = refl
ints_same int.UShort int.UInt = refl
ints_same int.UShort int.Long = refl
ints_same int.UShort int.ULong = refl
ints_same int.Int int.Char = refl
ints_same int.Int int.SChar = refl
ints_same int.Int int.UChar = refl
ints_same int.Int int.Short = refl
ints_same int.Int int.UShort = refl
ints_same int.Int int.Int = refl
ints_same int.Int int.UInt = refl
ints_same int.Int int.Long = refl
ints_same int.Int int.ULong = refl
ints_same int.UInt int.Char = refl
ints_same int.UInt int.SChar = refl
ints_same int.UInt int.UChar = refl
ints_same int.UInt int.Short = refl
ints_same int.UInt int.UShort = refl
ints_same int.UInt int.Int = refl
ints_same int.UInt int.UInt = refl
ints_same int.UInt int.Long = refl
ints_same int.UInt int.ULong = refl
ints_same int.Long int.Char = refl
ints_same int.Long int.SChar = refl
ints_same int.Long int.UChar = refl
ints_same int.Long int.Short = refl
ints_same int.Long int.UShort = refl
ints_same int.Long int.Int = refl
ints_same int.Long int.UInt = refl
ints_same int.Long int.Long = refl
ints_same int.Long int.ULong = refl
ints_same int.ULong int.Char = refl
ints_same int.ULong int.SChar = refl
ints_same int.ULong int.UChar = refl
ints_same int.ULong int.Short = refl
ints_same int.ULong int.UShort = refl
ints_same int.ULong int.Int = refl
ints_same int.ULong int.UInt = refl
ints_same int.ULong int.Long = refl
ints_same int.ULong int.ULong = refl

pub types_same : (a b : Ty) → (type_equal.eq-value).it a b ≡ same_type a b
types_same Void Void = refl
types_same Void (Int b) = refl
types_same Void (Pointer b) = refl
types_same Void (Array b b1 b2) = refl
types_same Void (Struct b) = refl
types_same (Int a) Void = refl
types_same (Int a) (Int b) = ints_same a b
types_same (Int a) (Pointer b) = refl
types_same (Int a) (Array b b1 b2) = refl
types_same (Int a) (Struct b) = refl
types_same (Pointer a) Void = refl
types_same (Pointer a) (Int b) = refl
types_same (Pointer a) (Pointer b) = refl
types_same (Pointer a) (Array b b1 b2) = refl
types_same (Pointer a) (Struct b) = refl
types_same (Array a a1 a2) Void = refl
types_same (Array a a1 a2) (Int b) = refl
types_same (Array a a1 a2) (Pointer b) = refl
types_same (Array a a1 a2) (Array b b1 b2) = refl
types_same (Array a a1 a2) (Struct b) = refl
types_same (Struct a) Void = refl
types_same (Struct a) (Int b) = refl
types_same (Struct a) (Pointer b) = refl
types_same (Struct a) (Array b b1 b2) = refl
types_same (Struct a) (Struct b) = refl

parts_same : (s t : Ty) (c d v w : Bool) → (qualified_equal.eq-value).it (record { ty = s; constant = c; volatile = v }) (record { ty = t; constant = d; volatile = w }) ≡ same_qualified (record { ty = s; constant = c; volatile = v }) (record { ty = t; constant = d; volatile = w })
parts_same s t true true true true = ap (λ e. e && (true && true)) (types_same s t)
parts_same s t true true true false = ap (λ e. e && (true && false)) (types_same s t)
parts_same s t true true false true = ap (λ e. e && (true && false)) (types_same s t)
parts_same s t true true false false = ap (λ e. e && (true && true)) (types_same s t)
parts_same s t true false true true = ap (λ e. e && (false && true)) (types_same s t)
parts_same s t true false true false = ap (λ e. e && (false && false)) (types_same s t)
parts_same s t true false false true = ap (λ e. e && (false && false)) (types_same s t)
parts_same s t true false false false = ap (λ e. e && (false && true)) (types_same s t)
parts_same s t false true true true = ap (λ e. e && (false && true)) (types_same s t)
parts_same s t false true true false = ap (λ e. e && (false && false)) (types_same s t)
parts_same s t false true false true = ap (λ e. e && (false && false)) (types_same s t)
parts_same s t false true false false = ap (λ e. e && (false && true)) (types_same s t)
parts_same s t false false true true = ap (λ e. e && (true && true)) (types_same s t)
parts_same s t false false true false = ap (λ e. e && (true && false)) (types_same s t)
parts_same s t false false false true = ap (λ e. e && (true && false)) (types_same s t)
parts_same s t false false false false = ap (λ e. e && (true && true)) (types_same s t)

pub rows_same : (a b : Qualified) → (qualified_equal.eq-value).it a b ≡ same_qualified a b
rows_same a b = parts_same a.ty b.ty a.constant b.constant a.volatile b.volatile

-- the two sides turned
ints_turned : (a b : IntTy) → same_int a b ≡ same_int b a
ints_turned a b = nat_eq_equiv.symm (int_number a) (int_number b)

types_turned : (a b : Ty) → same_type a b ≡ same_type b a
types_turned Void Void = refl
types_turned Void (Int b) = refl
types_turned Void (Pointer b) = refl
types_turned Void (Array b b1 b2) = refl
types_turned Void (Struct b) = refl
types_turned (Int a) Void = refl
types_turned (Int a) (Int b) = ints_turned a b
types_turned (Int a) (Pointer b) = refl
types_turned (Int a) (Array b b1 b2) = refl
types_turned (Int a) (Struct b) = refl
types_turned (Pointer a) Void = refl
types_turned (Pointer a) (Int b) = refl
types_turned (Pointer a) (Pointer b) = nat_eq_equiv.symm a b
types_turned (Pointer a) (Array b b1 b2) = refl
types_turned (Pointer a) (Struct b) = refl
types_turned (Array a a1 a2) Void = refl
types_turned (Array a a1 a2) (Int b) = refl
types_turned (Array a a1 a2) (Pointer b) = refl
types_turned (Array a a1 a2) (Array b b1 b2) = λ j. nat_eq_equiv.symm a b j && (nat_eq_equiv.symm a1 b1 j && nat_eq_equiv.symm a2 b2 j)
types_turned (Array a a1 a2) (Struct b) = refl
types_turned (Struct a) Void = refl
types_turned (Struct a) (Int b) = refl
types_turned (Struct a) (Pointer b) = refl
types_turned (Struct a) (Array b b1 b2) = refl
types_turned (Struct a) (Struct b) = nat_eq_equiv.symm a b

flags_turned : (a b : Bool) → same_flag a b ≡ same_flag b a
flags_turned true true = refl
flags_turned true false = refl
flags_turned false true = refl
flags_turned false false = refl

pub rows_turned : (a b : Qualified) → (qualified_equal.eq-value).it a b ≡ same_qualified b a
rows_turned a b = rows_same a b ∙ (λ j. types_turned a.ty b.ty j && (flags_turned a.constant b.constant j && flags_turned a.volatile b.volatile j))

-- lists of types
pub lists_same : (xs ys : List Ty) → pointwise (type_equal.eq-value).it xs ys ≡ same_types xs ys
lists_same [] [] = refl
lists_same [] (y ∷ ys) = refl
lists_same (x ∷ xs) [] = refl
lists_same (x ∷ xs) (y ∷ ys) = λ j. types_same x y j && lists_same xs ys j

-- a row that is looked for by `==`, or put last
pub row_found : (ts : List Qualified) (ty : Qualified) → position_or_len ((qualified_equal.eq-value).it ty) ts ≡ place_of_row ts ty
row_found ts ty = row_place (qualified_equal.eq-value).it rows_turned ts ty

pub row_put : (ts : List Qualified) (ty : Qualified) → insert_key (qualified_equal.eq-value).it ts ty ≡ with_row ts ty
row_put ts ty = row_kept (qualified_equal.eq-value).it rows_turned ts ty
