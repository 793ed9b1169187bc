-- What the typing rules say of the sizes of types.
use Rattle.std.proofs.Common.{◌≡◌, ℕ, ◌≤◌, Bool, true, false, not, ◌&&◌, ◌||◌, ◌⊎◌, inl, inr, nat_eq, if◌then◌else◌, List, Option, Some, None, refl, sym, ap, ◌∙◌, subst, arith}
use Rattle.c_ints.specs.Conversions.{promoted, common}
use Rattle.c_ints.specs.Operators.{compares, shifts}
use Rattle.c_ints.specs.Range.{bytes_of}
use Rattle.c_ints.specs.declared.operators.BinOp.{BinOp}
use Rattle.c_ints.specs.declared.operators.BinOp.TheVariants as binop
use Rattle.c_ints.specs.declared.types.IntTy.{IntTy}
use Rattle.c_ints.specs.declared.types.IntTy.TheVariants as int
use Rattle.c_typed.specs.Rules.{point_alike, binary_fits, offset_fits, moves_by, moves, counts_in, is_writable, assign_fits, integer_update_fits, update_fits, integer_step_fits, step_fits}
use Rattle.c_typed.specs.Sameness.{same_int, same_type, is_promoted, is_index, pointed}
use Rattle.c_typed.specs.Trees.{Program}
use Rattle.c_typed.specs.Types.{type_bytes}
use Rattle.c_typed.specs.declared.types.Qualified.{Qualified}
use Rattle.c_typed.specs.declared.types.Ty.{Ty}
use Rattle.c_typed.specs.declared.types.Ty.TheVariants.{Void, Int, Pointer, Array, Struct}
use Rattle.core_puts.specs.Bytes.{operation_type}
use Rattle.program_code.proofs.Chain.{never}
use Rattle.program_code.proofs.Operators.{whole_bytes}
use Rattle.program_code.proofs.Rows.{some_bytes}

pub and_first : (a b : Bool) → (a && b) ≡ true → a ≡ true
and_first true b e = refl
and_first false b e = e

pub and_last : (a b : Bool) → (a && b) ≡ true → b ≡ true
and_last true b e = e
and_last false b e = never e

and_never : {A : Type 0} (a : Bool) → (a && false) ≡ true → A
and_never true e = never e
and_never false e = never e

-- a value's bytes are those of the type of operations on it
abbrev pub IsNumber : List ℕ → Ty → Type 0
IsNumber sizes ty = bytes_of (operation_type ty) ≡ type_bytes sizes ty

int_small : (ty : IntTy) → bytes_of ty ≤ 4
int_small ty = let b = whole_bytes ty in let e = b.1 in let l = b.2 in omega (arith, e, l)

pub promoted_number : (sizes : List ℕ) (ty : Ty) → is_promoted ty ≡ true → IsNumber sizes ty
promoted_number sizes (Int ty) e = refl
promoted_number sizes Void e = never e
promoted_number sizes (Pointer target) e = never e
promoted_number sizes (Array element count size) e = never e
promoted_number sizes (Struct number) e = never e

pub promoted_some : (sizes : List ℕ) (ty : Ty) → is_promoted ty ≡ true → 1 ≤ type_bytes sizes ty
promoted_some sizes (Int ty) e = some_bytes ty
promoted_some sizes Void e = never e
promoted_some sizes (Pointer target) e = never e
promoted_some sizes (Array element count size) e = never e
promoted_some sizes (Struct number) e = never e

-- the same integer type
pub same_bytes : (a b : IntTy) → same_int a b ≡ true → bytes_of a ≡ bytes_of b
same_bytes int.Char int.Char e = refl
same_bytes int.Char int.SChar e = refl
same_bytes int.Char int.UChar e = refl
same_bytes int.Char int.Short e = never e
same_bytes int.Char int.UShort e = never e
same_bytes int.Char int.Int e = never e
same_bytes int.Char int.UInt e = never e
same_bytes int.Char int.Long e = never e
same_bytes int.Char int.ULong e = never e
same_bytes int.SChar int.Char e = refl
same_bytes int.SChar int.SChar e = refl
same_bytes int.SChar int.UChar e = refl
same_bytes int.SChar int.Short e = never e
same_bytes int.SChar int.UShort e = never e
same_bytes int.SChar int.Int e = never e
same_bytes int.SChar int.UInt e = never e
same_bytes int.SChar int.Long e = never e
same_bytes int.SChar int.ULong e = never e
same_bytes int.UChar int.Char e = refl
same_bytes int.UChar int.SChar e = refl
same_bytes int.UChar int.UChar e = refl
same_bytes int.UChar int.Short e = never e
same_bytes int.UChar int.UShort e = never e
same_bytes int.UChar int.Int e = never e
same_bytes int.UChar int.UInt e = never e
same_bytes int.UChar int.Long e = never e
same_bytes int.UChar int.ULong e = never e
same_bytes int.Short int.Char e = never e
same_bytes int.Short int.SChar e = never e
same_bytes int.Short int.UChar e = never e
same_bytes int.Short int.Short e = refl
same_bytes int.Short int.UShort e = refl
same_bytes int.Short int.Int e = refl
same_bytes int.Short int.UInt e = refl
same_bytes int.Short int.Long e = never e
same_bytes int.Short int.ULong e = never e
same_bytes int.UShort int.Char e = never e
same_bytes int.UShort int.SChar e = never e
same_bytes int.UShort int.UChar e = never e
same_bytes int.UShort int.Short e = refl
same_bytes int.UShort int.UShort e = refl
same_bytes int.UShort int.Int e = refl
same_bytes int.UShort int.UInt e = refl
same_bytes int.UShort int.Long e = never e
same_bytes int.UShort int.ULong e = never e
same_bytes int.Int int.Char e = never e
same_bytes int.Int int.SChar e = never e
same_bytes int.Int int.UChar e = never e
same_bytes int.Int int.Short e = refl
same_bytes int.Int int.UShort e = refl
same_bytes int.Int int.Int e = refl
same_bytes int.Int int.UInt e = refl
same_bytes int.Int int.Long e = never e
same_bytes int.Int int.ULong e = never e
same_bytes int.UInt int.Char e = never e
same_bytes int.UInt int.SChar e = never e
same_bytes int.UInt int.UChar e = never e
same_bytes int.UInt int.Short e = refl
same_bytes int.UInt int.UShort e = refl
same_bytes int.UInt int.Int e = refl
same_bytes int.UInt int.UInt e = refl
same_bytes int.UInt int.Long e = never e
same_bytes int.UInt int.ULong e = never e
same_bytes int.Long int.Char e = never e
same_bytes int.Long int.SChar e = never e
same_bytes int.Long int.UChar e = never e
same_bytes int.Long int.Short e = never e
same_bytes int.Long int.UShort e = never e
same_bytes int.Long int.Int e = never e
same_bytes int.Long int.UInt e = never e
same_bytes int.Long int.Long e = refl
same_bytes int.Long int.ULong e = refl
same_bytes int.ULong int.Char e = never e
same_bytes int.ULong int.SChar e = never e
same_bytes int.ULong int.UChar e = never e
same_bytes int.ULong int.Short e = never e
same_bytes int.ULong int.UShort e = never e
same_bytes int.ULong int.Int e = never e
same_bytes int.ULong int.UInt e = never e
same_bytes int.ULong int.Long e = refl
same_bytes int.ULong int.ULong e = refl

pub unary_number : (sizes : List ℕ) (from ty : Ty) → (is_promoted from && same_type from ty) ≡ true → IsNumber sizes ty
unary_number sizes from (Int ty) e = refl
unary_number sizes from (Pointer target) e = refl
unary_number sizes (Int from) Void e = and_never (is_promoted (Int from)) e
unary_number sizes (Int from) (Array element count size) e = and_never (is_promoted (Int from)) e
unary_number sizes (Int from) (Struct number) e = and_never (is_promoted (Int from)) e
unary_number sizes Void Void e = never e
unary_number sizes (Pointer target) Void e = never e
unary_number sizes (Array element count size) Void e = never e
unary_number sizes (Struct number) Void e = never e
unary_number sizes Void (Array element count size) e = never e
unary_number sizes (Pointer target) (Array element count size) e = never e
unary_number sizes (Array one two three) (Array element count size) e = never e
unary_number sizes (Struct number) (Array element count size) e = never e
unary_number sizes Void (Struct number) e = never e
unary_number sizes (Pointer target) (Struct number) e = never e
unary_number sizes (Array element count size) (Struct number) e = never e
unary_number sizes (Struct one) (Struct number) e = never e

-- ---- operators on two values
pub alike_first : {A : Type 0} (p : Program) (b : Option Qualified) (more : Bool) → (point_alike None b && more) ≡ true → A
alike_first p b more e = never e

pub alike_last : {A : Type 0} (a : Option Qualified) (more : Bool) → (point_alike a None && more) ≡ true → A
alike_last None more e = never e
alike_last (Some a) more e = never e

pub binary_number : (sizes : List ℕ) (p : Program) (op : BinOp) (left right ty : Ty) → binary_fits p op left right ty ≡ true → IsNumber sizes left
binary_number sizes p op (Int left) right ty e = refl
binary_number sizes p op (Pointer target) right ty e = refl
binary_number sizes p op Void right ty e = alike_first p (pointed p right) (same_type ty (Int int.Int)) (and_last (compares op) (point_alike None (pointed p right) && same_type ty (Int int.Int)) e)
binary_number sizes p op (Array element count size) right ty e = alike_first p (pointed p right) (same_type ty (Int int.Int)) (and_last (compares op) (point_alike None (pointed p right) && same_type ty (Int int.Int)) e)
binary_number sizes p op (Struct number) right ty e = alike_first p (pointed p right) (same_type ty (Int int.Int)) (and_last (compares op) (point_alike None (pointed p right) && same_type ty (Int int.Int)) e)

-- no integer type: neither promoted nor the same as one
int_right : {A : Type 0} (shift left compare plain : Bool) → (if shift then left && (false && plain) else left && (false && compare)) ≡ true → A
int_right true left compare plain e = and_never left e
int_right false left compare plain e = and_never left e

pub binary_small : (sizes : List ℕ) (p : Program) (op : BinOp) (left right ty : Ty) → binary_fits p op left right ty ≡ true → type_bytes sizes right ≤ 4
binary_small sizes p op left (Int right) ty e = int_small right
binary_small sizes p op left (Pointer target) ty e = omega arith
binary_small sizes p op (Int left) Void ty e = int_right (shifts op) (is_promoted (Int left)) (if compares op then same_type ty (Int int.Int) else same_type (Int left) ty) (same_type (Int left) ty) e
binary_small sizes p op Void Void ty e = alike_last None (same_type ty (Int int.Int)) (and_last (compares op) (point_alike None None && same_type ty (Int int.Int)) e)
binary_small sizes p op (Pointer target) Void ty e = alike_last (pointed p (Pointer target)) (same_type ty (Int int.Int)) (and_last (compares op) (point_alike (pointed p (Pointer target)) None && same_type ty (Int int.Int)) e)
binary_small sizes p op (Array one two three) Void ty e = alike_last None (same_type ty (Int int.Int)) (and_last (compares op) (point_alike None None && same_type ty (Int int.Int)) e)
binary_small sizes p op (Struct other) Void ty e = alike_last None (same_type ty (Int int.Int)) (and_last (compares op) (point_alike None None && same_type ty (Int int.Int)) e)
binary_small sizes p op (Int left) (Array element count size) ty e = int_right (shifts op) (is_promoted (Int left)) (if compares op then same_type ty (Int int.Int) else same_type (Int left) ty) (same_type (Int left) ty) e
binary_small sizes p op Void (Array element count size) ty e = alike_last None (same_type ty (Int int.Int)) (and_last (compares op) (point_alike None None && same_type ty (Int int.Int)) e)
binary_small sizes p op (Pointer target) (Array element count size) ty e = alike_last (pointed p (Pointer target)) (same_type ty (Int int.Int)) (and_last (compares op) (point_alike (pointed p (Pointer target)) None && same_type ty (Int int.Int)) e)
binary_small sizes p op (Array one two three) (Array element count size) ty e = alike_last None (same_type ty (Int int.Int)) (and_last (compares op) (point_alike None None && same_type ty (Int int.Int)) e)
binary_small sizes p op (Struct other) (Array element count size) ty e = alike_last None (same_type ty (Int int.Int)) (and_last (compares op) (point_alike None None && same_type ty (Int int.Int)) e)
binary_small sizes p op (Int left) (Struct number) ty e = int_right (shifts op) (is_promoted (Int left)) (if compares op then same_type ty (Int int.Int) else same_type (Int left) ty) (same_type (Int left) ty) e
binary_small sizes p op Void (Struct number) ty e = alike_last None (same_type ty (Int int.Int)) (and_last (compares op) (point_alike None None && same_type ty (Int int.Int)) e)
binary_small sizes p op (Pointer target) (Struct number) ty e = alike_last (pointed p (Pointer target)) (same_type ty (Int int.Int)) (and_last (compares op) (point_alike (pointed p (Pointer target)) None && same_type ty (Int int.Int)) e)
binary_small sizes p op (Array one two three) (Struct number) ty e = alike_last None (same_type ty (Int int.Int)) (and_last (compares op) (point_alike None None && same_type ty (Int int.Int)) e)
binary_small sizes p op (Struct other) (Struct number) ty e = alike_last None (same_type ty (Int int.Int)) (and_last (compares op) (point_alike None None && same_type ty (Int int.Int)) e)

pub offset_moves : (p : Program) (op : BinOp) (left right : Ty) (size : ℕ) (ty : Ty) → offset_fits p op left right size ty ≡ true → moves_by op ≡ true
offset_moves p binop.Mul left right size ty e = never e
offset_moves p binop.Div left right size ty e = never e
offset_moves p binop.Rem left right size ty e = never e
offset_moves p binop.Add left right size ty e = refl
offset_moves p binop.Sub left right size ty e = refl
offset_moves p binop.Shl left right size ty e = never e
offset_moves p binop.Shr left right size ty e = never e
offset_moves p binop.Lt left right size ty e = never e
offset_moves p binop.Gt left right size ty e = never e
offset_moves p binop.Le left right size ty e = never e
offset_moves p binop.Ge left right size ty e = never e
offset_moves p binop.Eq left right size ty e = never e
offset_moves p binop.Ne left right size ty e = never e
offset_moves p binop.And left right size ty e = never e
offset_moves p binop.Xor left right size ty e = never e
offset_moves p binop.Or left right size ty e = never e

-- ---- updates
-- how an update's operation is done: on an integer that has room for the place's value, or on a pointer
pub data Operates (sizes : List ℕ) (op : BinOp) (place value operation : Ty) : Type 0 where
  OnInteger : (ty : IntTy) → operation ≡ Int ty → type_bytes sizes place ≤ bytes_of ty → type_bytes sizes value ≤ 4 → Operates sizes op place value operation
  OnPointer : (target : ℕ) → operation ≡ Pointer target → type_bytes sizes place ≤ 2 → moves_by op ≡ true → Operates sizes op place value operation

common_room : (a b : IntTy) → same_int b (common a b) ≡ true → bytes_of a ≤ bytes_of b
common_room int.Char int.Char e = omega arith
common_room int.Char int.SChar e = omega arith
common_room int.Char int.UChar e = omega arith
common_room int.Char int.Short e = omega arith
common_room int.Char int.UShort e = omega arith
common_room int.Char int.Int e = omega arith
common_room int.Char int.UInt e = omega arith
common_room int.Char int.Long e = omega arith
common_room int.Char int.ULong e = omega arith
common_room int.SChar int.Char e = omega arith
common_room int.SChar int.SChar e = omega arith
common_room int.SChar int.UChar e = omega arith
common_room int.SChar int.Short e = omega arith
common_room int.SChar int.UShort e = omega arith
common_room int.SChar int.Int e = omega arith
common_room int.SChar int.UInt e = omega arith
common_room int.SChar int.Long e = omega arith
common_room int.SChar int.ULong e = omega arith
common_room int.UChar int.Char e = omega arith
common_room int.UChar int.SChar e = omega arith
common_room int.UChar int.UChar e = omega arith
common_room int.UChar int.Short e = omega arith
common_room int.UChar int.UShort e = omega arith
common_room int.UChar int.Int e = omega arith
common_room int.UChar int.UInt e = omega arith
common_room int.UChar int.Long e = omega arith
common_room int.UChar int.ULong e = omega arith
common_room int.Short int.Char e = never e
common_room int.Short int.SChar e = never e
common_room int.Short int.UChar e = never e
common_room int.Short int.Short e = omega arith
common_room int.Short int.UShort e = omega arith
common_room int.Short int.Int e = omega arith
common_room int.Short int.UInt e = omega arith
common_room int.Short int.Long e = omega arith
common_room int.Short int.ULong e = omega arith
common_room int.UShort int.Char e = never e
common_room int.UShort int.SChar e = never e
common_room int.UShort int.UChar e = never e
common_room int.UShort int.Short e = omega arith
common_room int.UShort int.UShort e = omega arith
common_room int.UShort int.Int e = omega arith
common_room int.UShort int.UInt e = omega arith
common_room int.UShort int.Long e = omega arith
common_room int.UShort int.ULong e = omega arith
common_room int.Int int.Char e = never e
common_room int.Int int.SChar e = never e
common_room int.Int int.UChar e = never e
common_room int.Int int.Short e = omega arith
common_room int.Int int.UShort e = omega arith
common_room int.Int int.Int e = omega arith
common_room int.Int int.UInt e = omega arith
common_room int.Int int.Long e = omega arith
common_room int.Int int.ULong e = omega arith
common_room int.UInt int.Char e = never e
common_room int.UInt int.SChar e = never e
common_room int.UInt int.UChar e = never e
common_room int.UInt int.Short e = omega arith
common_room int.UInt int.UShort e = omega arith
common_room int.UInt int.Int e = omega arith
common_room int.UInt int.UInt e = omega arith
common_room int.UInt int.Long e = omega arith
common_room int.UInt int.ULong e = omega arith
common_room int.Long int.Char e = never e
common_room int.Long int.SChar e = never e
common_room int.Long int.UChar e = never e
common_room int.Long int.Short e = never e
common_room int.Long int.UShort e = never e
common_room int.Long int.Int e = never e
common_room int.Long int.UInt e = never e
common_room int.Long int.Long e = omega arith
common_room int.Long int.ULong e = omega arith
common_room int.ULong int.Char e = never e
common_room int.ULong int.SChar e = never e
common_room int.ULong int.UChar e = never e
common_room int.ULong int.Short e = never e
common_room int.ULong int.UShort e = never e
common_room int.ULong int.Int e = never e
common_room int.ULong int.UInt e = never e
common_room int.ULong int.Long e = omega arith
common_room int.ULong int.ULong e = omega arith

promoted_room : (a b : IntTy) → same_int b (promoted a) ≡ true → bytes_of a ≤ bytes_of b
promoted_room int.Char int.Char e = omega arith
promoted_room int.Char int.SChar e = omega arith
promoted_room int.Char int.UChar e = omega arith
promoted_room int.Char int.Short e = omega arith
promoted_room int.Char int.UShort e = omega arith
promoted_room int.Char int.Int e = omega arith
promoted_room int.Char int.UInt e = omega arith
promoted_room int.Char int.Long e = omega arith
promoted_room int.Char int.ULong e = omega arith
promoted_room int.SChar int.Char e = omega arith
promoted_room int.SChar int.SChar e = omega arith
promoted_room int.SChar int.UChar e = omega arith
promoted_room int.SChar int.Short e = omega arith
promoted_room int.SChar int.UShort e = omega arith
promoted_room int.SChar int.Int e = omega arith
promoted_room int.SChar int.UInt e = omega arith
promoted_room int.SChar int.Long e = omega arith
promoted_room int.SChar int.ULong e = omega arith
promoted_room int.UChar int.Char e = omega arith
promoted_room int.UChar int.SChar e = omega arith
promoted_room int.UChar int.UChar e = omega arith
promoted_room int.UChar int.Short e = omega arith
promoted_room int.UChar int.UShort e = omega arith
promoted_room int.UChar int.Int e = omega arith
promoted_room int.UChar int.UInt e = omega arith
promoted_room int.UChar int.Long e = omega arith
promoted_room int.UChar int.ULong e = omega arith
promoted_room int.Short int.Char e = never e
promoted_room int.Short int.SChar e = never e
promoted_room int.Short int.UChar e = never e
promoted_room int.Short int.Short e = omega arith
promoted_room int.Short int.UShort e = omega arith
promoted_room int.Short int.Int e = omega arith
promoted_room int.Short int.UInt e = omega arith
promoted_room int.Short int.Long e = omega arith
promoted_room int.Short int.ULong e = omega arith
promoted_room int.UShort int.Char e = never e
promoted_room int.UShort int.SChar e = never e
promoted_room int.UShort int.UChar e = never e
promoted_room int.UShort int.Short e = omega arith
promoted_room int.UShort int.UShort e = omega arith
promoted_room int.UShort int.Int e = omega arith
promoted_room int.UShort int.UInt e = omega arith
promoted_room int.UShort int.Long e = omega arith
promoted_room int.UShort int.ULong e = omega arith
promoted_room int.Int int.Char e = never e
promoted_room int.Int int.SChar e = never e
promoted_room int.Int int.UChar e = never e
promoted_room int.Int int.Short e = omega arith
promoted_room int.Int int.UShort e = omega arith
promoted_room int.Int int.Int e = omega arith
promoted_room int.Int int.UInt e = omega arith
promoted_room int.Int int.Long e = omega arith
promoted_room int.Int int.ULong e = omega arith
promoted_room int.UInt int.Char e = never e
promoted_room int.UInt int.SChar e = never e
promoted_room int.UInt int.UChar e = never e
promoted_room int.UInt int.Short e = omega arith
promoted_room int.UInt int.UShort e = omega arith
promoted_room int.UInt int.Int e = omega arith
promoted_room int.UInt int.UInt e = omega arith
promoted_room int.UInt int.Long e = omega arith
promoted_room int.UInt int.ULong e = omega arith
promoted_room int.Long int.Char e = never e
promoted_room int.Long int.SChar e = never e
promoted_room int.Long int.UChar e = never e
promoted_room int.Long int.Short e = never e
promoted_room int.Long int.UShort e = never e
promoted_room int.Long int.Int e = never e
promoted_room int.Long int.UInt e = never e
promoted_room int.Long int.Long e = omega arith
promoted_room int.Long int.ULong e = omega arith
promoted_room int.ULong int.Char e = never e
promoted_room int.ULong int.SChar e = never e
promoted_room int.ULong int.UChar e = never e
promoted_room int.ULong int.Short e = never e
promoted_room int.ULong int.UShort e = never e
promoted_room int.ULong int.Int e = never e
promoted_room int.ULong int.UInt e = never e
promoted_room int.ULong int.Long e = omega arith
promoted_room int.ULong int.ULong e = omega arith

step_room : (a b : IntTy) → same_int b (common a int.Int) ≡ true → bytes_of a ≤ bytes_of b
step_room int.Char int.Char e = omega arith
step_room int.Char int.SChar e = omega arith
step_room int.Char int.UChar e = omega arith
step_room int.Char int.Short e = omega arith
step_room int.Char int.UShort e = omega arith
step_room int.Char int.Int e = omega arith
step_room int.Char int.UInt e = omega arith
step_room int.Char int.Long e = omega arith
step_room int.Char int.ULong e = omega arith
step_room int.SChar int.Char e = omega arith
step_room int.SChar int.SChar e = omega arith
step_room int.SChar int.UChar e = omega arith
step_room int.SChar int.Short e = omega arith
step_room int.SChar int.UShort e = omega arith
step_room int.SChar int.Int e = omega arith
step_room int.SChar int.UInt e = omega arith
step_room int.SChar int.Long e = omega arith
step_room int.SChar int.ULong e = omega arith
step_room int.UChar int.Char e = omega arith
step_room int.UChar int.SChar e = omega arith
step_room int.UChar int.UChar e = omega arith
step_room int.UChar int.Short e = omega arith
step_room int.UChar int.UShort e = omega arith
step_room int.UChar int.Int e = omega arith
step_room int.UChar int.UInt e = omega arith
step_room int.UChar int.Long e = omega arith
step_room int.UChar int.ULong e = omega arith
step_room int.Short int.Char e = never e
step_room int.Short int.SChar e = never e
step_room int.Short int.UChar e = never e
step_room int.Short int.Short e = omega arith
step_room int.Short int.UShort e = omega arith
step_room int.Short int.Int e = omega arith
step_room int.Short int.UInt e = omega arith
step_room int.Short int.Long e = omega arith
step_room int.Short int.ULong e = omega arith
step_room int.UShort int.Char e = never e
step_room int.UShort int.SChar e = never e
step_room int.UShort int.UChar e = never e
step_room int.UShort int.Short e = omega arith
step_room int.UShort int.UShort e = omega arith
step_room int.UShort int.Int e = omega arith
step_room int.UShort int.UInt e = omega arith
step_room int.UShort int.Long e = omega arith
step_room int.UShort int.ULong e = omega arith
step_room int.Int int.Char e = never e
step_room int.Int int.SChar e = never e
step_room int.Int int.UChar e = never e
step_room int.Int int.Short e = omega arith
step_room int.Int int.UShort e = omega arith
step_room int.Int int.Int e = omega arith
step_room int.Int int.UInt e = omega arith
step_room int.Int int.Long e = omega arith
step_room int.Int int.ULong e = omega arith
step_room int.UInt int.Char e = never e
step_room int.UInt int.SChar e = never e
step_room int.UInt int.UChar e = never e
step_room int.UInt int.Short e = omega arith
step_room int.UInt int.UShort e = omega arith
step_room int.UInt int.Int e = omega arith
step_room int.UInt int.UInt e = omega arith
step_room int.UInt int.Long e = omega arith
step_room int.UInt int.ULong e = omega arith
step_room int.Long int.Char e = never e
step_room int.Long int.SChar e = never e
step_room int.Long int.UChar e = never e
step_room int.Long int.Short e = never e
step_room int.Long int.UShort e = never e
step_room int.Long int.Int e = never e
step_room int.Long int.UInt e = never e
step_room int.Long int.Long e = omega arith
step_room int.Long int.ULong e = omega arith
step_room int.ULong int.Char e = never e
step_room int.ULong int.SChar e = never e
step_room int.ULong int.UChar e = never e
step_room int.ULong int.Short e = never e
step_room int.ULong int.UShort e = never e
step_room int.ULong int.Int e = never e
step_room int.ULong int.UInt e = never e
step_room int.ULong int.Long e = omega arith
step_room int.ULong int.ULong e = omega arith

-- a place of an integer type, and of a pointer type
same_int_type : (sizes : List ℕ) (place : Ty) (ty : IntTy) → same_type place (Int ty) ≡ true → type_bytes sizes place ≡ bytes_of ty
same_int_type sizes (Int place) ty e = same_bytes place ty e
same_int_type sizes Void ty e = never e
same_int_type sizes (Pointer target) ty e = never e
same_int_type sizes (Array element count size) ty e = never e
same_int_type sizes (Struct number) ty e = never e

same_pointer : (place : Ty) (row : ℕ) → same_type place (Pointer row) ≡ true → (target : ℕ) × (place ≡ Pointer target)
same_pointer (Pointer target) row e = (target, refl)
same_pointer Void row e = never e
same_pointer (Int place) row e = never e
same_pointer (Array element count size) row e = never e
same_pointer (Struct number) row e = never e

or_either : (a b : Bool) → (a || b) ≡ true → (a ≡ true) ⊎ (b ≡ true)
or_either true b e = inl refl
or_either false b e = inr e

-- what is counted in is a pointer's target
pub is_counted : (p : Program) (ty : Ty) (size : ℕ) → counts_in p (pointed p ty) size ≡ true → (row : ℕ) × (ty ≡ Pointer row)
is_counted p (Pointer row) size e = (row, refl)
is_counted p Void size e = never e
is_counted p (Int ty) size e = never e
is_counted p (Array element count bytes) size e = never e
is_counted p (Struct number) size e = never e

value_small : (sizes : List ℕ) (value : Ty) (shift a b d : Bool) (o : IntTy) → (if shift then a && is_promoted value else b && (same_type value (Int o) && d)) ≡ true → type_bytes sizes value ≤ 4
value_small sizes (Int value) shift a b d o e = int_small value
value_small sizes (Pointer target) shift a b d o e = omega arith
value_small sizes Void true a b d o e = and_never a e
value_small sizes (Array element count size) true a b d o e = and_never a e
value_small sizes (Struct number) true a b d o e = and_never a e
value_small sizes Void false a b d o e = and_never b e
value_small sizes (Array element count size) false a b d o e = and_never b e
value_small sizes (Struct number) false a b d o e = and_never b e

place_room : (op : BinOp) (value : Ty) (a o : IntTy) (shift : Bool) → (if shift then same_int o (promoted a) && is_promoted value else not (compares op) && (same_type value (Int o) && same_int o (common a o))) ≡ true → bytes_of a ≤ bytes_of o
place_room op value a o true e = promoted_room a o (and_first (same_int o (promoted a)) (is_promoted value) e)
place_room op value a o false e = common_room a o (and_last (same_type value (Int o)) (same_int o (common a o)) (and_last (not (compares op)) (same_type value (Int o) && same_int o (common a o)) e))

integer_operates : (sizes : List ℕ) (op : BinOp) (place ty value operation : Ty) → same_type place ty ≡ true → integer_update_fits op ty value operation ≡ true → Operates sizes op place value operation
integer_operates sizes op place (Int ty) value (Int o) same e =
    let f = same_int_type sizes place ty same in
    let l = place_room op value ty o (shifts op) e in
    OnInteger o refl (omega (arith, f, l)) (value_small sizes value (shifts op) (same_int o (promoted ty)) (not (compares op)) (same_int o (common ty o)) o e)
integer_operates sizes op place (Int ty) value Void same e = never e
integer_operates sizes op place (Int ty) value (Pointer target) same e = never e
integer_operates sizes op place (Int ty) value (Array element count size) same e = never e
integer_operates sizes op place (Int ty) value (Struct number) same e = never e
integer_operates sizes op place Void value operation same e = never e
integer_operates sizes op place (Pointer target) value operation same e = never e
integer_operates sizes op place (Array element count size) value operation same e = never e
integer_operates sizes op place (Struct number) value operation same e = never e

pointer_operates : (sizes : List ℕ) (op : BinOp) (place ty value operation : Ty) (row : ℕ) → ty ≡ Pointer row → same_type place ty ≡ true → same_type operation ty ≡ true → moves_by op ≡ true → Operates sizes op place value operation
pointer_operates sizes op place ty value operation row is same alike moves =
    let there = same_pointer operation row (subst (λ (t : Ty). same_type operation t ≡ true) is alike) in
    let here = same_pointer place row (subst (λ (t : Ty). same_type place t ≡ true) is same) in
    let two : type_bytes sizes place ≡ 2 = ap (type_bytes sizes) here.1 in
    OnPointer there.0 there.1 (omega (arith, two)) moves

pub update_operates : (sizes : List ℕ) (p : Program) (op : BinOp) (place : Qualified) (value operation : Ty) (size : ℕ) (ty : Ty) → update_fits p op place value operation size ty ≡ true → Operates sizes op place.ty value operation
update_operates sizes p op place value operation size ty e =
    let integer = nat_eq size 0 && integer_update_fits op ty value operation in
    let pointer = moves_by op && (same_type operation ty && moves p ty value size ty) in
    let same = and_last (is_writable place) (same_type place.ty ty) (and_first (assign_fits place ty) (integer || pointer) e) in
    by_way integer pointer (or_either integer pointer (and_last (assign_fits place ty) (integer || pointer) e)) refl refl same
  where
    by_way : (a b : Bool) → (a ≡ true) ⊎ (b ≡ true) → a ≡ (nat_eq size 0 && integer_update_fits op ty value operation) → b ≡ (moves_by op && (same_type operation ty && moves p ty value size ty)) → same_type place.ty ty ≡ true → Operates sizes op place.ty value operation
    by_way a b (inl f) is other same = integer_operates sizes op place.ty ty value operation same (and_last (nat_eq size 0) (integer_update_fits op ty value operation) (sym is ∙ f))
    by_way a b (inr f) other is same =
        let all = sym is ∙ f in
        let rest = and_last (moves_by op) (same_type operation ty && moves p ty value size ty) all in
        let counts = and_first (counts_in p (pointed p ty) size) (same_type ty ty) (and_last (is_index value) (counts_in p (pointed p ty) size && same_type ty ty) (and_last (same_type operation ty) (moves p ty value size ty) rest)) in
        let row = is_counted p ty size counts in
        pointer_operates sizes op place.ty ty value operation row.0 row.1 same (and_first (same_type operation ty) (moves p ty value size ty) rest) (and_first (moves_by op) (same_type operation ty && moves p ty value size ty) all)

integer_step : (sizes : List ℕ) (op : BinOp) (place ty operation : Ty) → same_type place ty ≡ true → integer_step_fits ty operation ≡ true → Operates sizes op place Void operation
integer_step sizes op place (Int ty) (Int o) same e =
    let f = same_int_type sizes place ty same in
    let l = step_room ty o e in
    OnInteger o refl (omega (arith, f, l)) (omega arith)
integer_step sizes op place (Int ty) Void same e = never e
integer_step sizes op place (Int ty) (Pointer target) same e = never e
integer_step sizes op place (Int ty) (Array element count size) same e = never e
integer_step sizes op place (Int ty) (Struct number) same e = never e
integer_step sizes op place Void operation same e = never e
integer_step sizes op place (Pointer target) operation same e = never e
integer_step sizes op place (Array element count size) operation same e = never e
integer_step sizes op place (Struct number) operation same e = never e

pub step_operates : (sizes : List ℕ) (p : Program) (op : BinOp) (place : Qualified) (operation : Ty) (size : ℕ) (ty : Ty) → moves_by op ≡ true → step_fits p place operation size ty ≡ true → Operates sizes op place.ty Void operation
step_operates sizes p op place operation size ty moves e =
    let integer = nat_eq size 0 && integer_step_fits ty operation in
    let pointer = same_type operation ty && counts_in p (pointed p ty) size in
    let same = and_last (is_writable place) (same_type place.ty ty) (and_first (assign_fits place ty) (integer || pointer) e) in
    by_way integer pointer (or_either integer pointer (and_last (assign_fits place ty) (integer || pointer) e)) refl refl same
  where
    by_way : (a b : Bool) → (a ≡ true) ⊎ (b ≡ true) → a ≡ (nat_eq size 0 && integer_step_fits ty operation) → b ≡ (same_type operation ty && counts_in p (pointed p ty) size) → same_type place.ty ty ≡ true → Operates sizes op place.ty Void operation
    by_way a b (inl f) is other same = integer_step sizes op place.ty ty operation same (and_last (nat_eq size 0) (integer_step_fits ty operation) (sym is ∙ f))
    by_way a b (inr f) other is same =
        let all = sym is ∙ f in
        let row = is_counted p ty size (and_last (same_type operation ty) (counts_in p (pointed p ty) size) all) in
        pointer_operates sizes op place.ty ty Void operation row.0 row.1 same (and_first (same_type operation ty) (counts_in p (pointed p ty) size) all) moves
