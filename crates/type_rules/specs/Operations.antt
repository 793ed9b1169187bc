-- What a binary operator does with operands of some types (ISO/IEC 9899:1990, 6.3.5 to 6.3.12).
use Rattle.std.specs.Prelude.{ℕ, Bool, true, false, not, ◌&&◌, ◌||◌, if◌then◌else◌, Option, Some, None}
use Rattle.c_ints.specs.Conversions.{promoted, common}
use Rattle.c_ints.specs.Operators.{compares, shifts}
use Rattle.c_ints.specs.declared.types.IntTy.{IntTy}
use Rattle.c_ints.specs.declared.types.IntTy.TheVariants as int
use Rattle.c_ints.specs.declared.operators.BinOp.{BinOp}
use Rattle.c_ints.specs.declared.operators.BinOp.TheVariants as binop
use Rattle.c_token.specs.declared.token.Punct.{Punct}
use Rattle.c_token.specs.declared.token.Punct.TheVariants as marks
use Rattle.c_typed.specs.Sameness.{same_type, is_void}
use Rattle.c_typed.specs.declared.types.Ty.{Ty}
use Rattle.c_typed.specs.declared.types.Ty.TheVariants.{Int, Pointer}
use Rattle.type_rules.specs.Known.{Known}
use Rattle.type_rules.specs.Rows.{target_of, is_complete, bytes_of}
use Rattle.type_rules.specs.Terms.{Side}

-- the node that it becomes: one on integers or a comparison, one that moves a pointer, or a difference of pointers
pub data Node : Type 0 where
  Plain : Node
  Moved : Node
  Difference : Node

-- The types that the operands are converted to, that of the result, and the bytes of an element where pointers are moved, otherwise 0.
pub record Operation : Type 0 where
  pub node : Node
  pub left : Ty
  pub right : Ty
  pub ty : Ty
  pub size : ℕ

abbrev pub plain_int : Ty
plain_int = Int int.Int

abbrev pub on_one : Ty → Ty → Ty → Operation
on_one left right ty = record { node = Plain; left = left; right = right; ty = ty; size = 0 }

-- Both operands get their common type; those of a shift are promoted alone, and the left one has its type (6.3.7).
abbrev pub on_integers : BinOp → IntTy → IntTy → Operation
on_integers op a b =
    if shifts op then on_one (Int (promoted a)) (Int (promoted b)) (Int (promoted a))
    else if compares op then on_one (Int (common a b)) (Int (common a b)) plain_int
    else on_one (Int (common a b)) (Int (common a b)) (Int (common a b))

-- A long index becomes an int, an unsigned long one an unsigned int; others are promoted.
abbrev pub shortened : IntTy → IntTy
shortened int.Long = int.Int
shortened int.ULong = int.UInt
shortened ty = ty

abbrev pub index_type : IntTy → Ty
index_type ty = Int (shortened (promoted ty))

-- Only a pointer to what is complete is moved or subtracted (6.3.6).
abbrev pub counts_in : Known → ℕ → Bool
counts_in known row = is_complete known (target_of known row).ty

abbrev pub element_bytes : Known → ℕ → ℕ
element_bytes known row = bytes_of known (target_of known row).ty

abbrev pub moved : Known → ℕ → Ty → Ty → Option Operation
moved known row left right =
    if counts_in known row
    then Some (record { node = Moved; left = left; right = right; ty = Pointer row; size = element_bytes known row })
    else None

-- a pointer and an integer behind it
abbrev pub pointer_and_integer : Known → BinOp → ℕ → IntTy → Option Operation
pointer_and_integer known binop.Add row b = moved known row (Pointer row) (index_type b)
pointer_and_integer known binop.Sub row b = moved known row (Pointer row) (index_type b)
pointer_and_integer known _ row b = None

abbrev pub integer_and_pointer : Known → BinOp → IntTy → ℕ → Option Operation
integer_and_pointer known binop.Add a row = moved known row (index_type a) (Pointer row)
integer_and_pointer known _ a row = None

-- Pointers to one type, qualifiers aside.
abbrev pub point_alike : Known → ℕ → ℕ → Bool
point_alike known a b = same_type (target_of known a).ty (target_of known b).ty

abbrev pub difference : Known → ℕ → ℕ → Option Operation
difference known a b =
    if point_alike known a b && counts_in known a
    then Some (record { node = Difference; left = Pointer a; right = Pointer b; ty = plain_int; size = element_bytes known a })
    else None

abbrev pub equates : BinOp → Bool
equates binop.Eq = true
equates binop.Ne = true
equates _ = false

abbrev pub points_to_void : Known → ℕ → Bool
points_to_void known row = is_void (target_of known row).ty

-- `==` and `!=` of two pointers (6.3.9): to one type, or one of them is a null constant or to void. The side that isn't void, or that is a null
-- constant, is converted.
abbrev pub equality : Known → ℕ → Bool → ℕ → Bool → Option Operation
equality known a a_null b b_null =
    if point_alike known a b then Some (on_one (Pointer a) (Pointer b) plain_int)
    else if points_to_void known a || (b_null && not (points_to_void known b)) then Some (on_one (Pointer a) (Pointer a) plain_int)
    else if points_to_void known b || a_null then Some (on_one (Pointer b) (Pointer b) plain_int)
    else None

-- the other operators on two pointers
abbrev pub on_pointers : Known → BinOp → ℕ → ℕ → Option Operation
on_pointers known binop.Sub a b = difference known a b
on_pointers known op a b = if compares op && point_alike known a b then Some (on_one (Pointer a) (Pointer b) plain_int) else None

abbrev pub operation_on : Known → BinOp → Bool → Bool → Ty → Ty → Option Operation
operation_on known op a_null b_null (Int a) (Int b) = Some (on_integers op a b)
operation_on known op a_null b_null (Int a) (Pointer b) =
    if equates op && a_null then Some (on_one (Pointer b) (Pointer b) plain_int) else integer_and_pointer known op a b
operation_on known op a_null b_null (Pointer a) (Int b) =
    if equates op && b_null then Some (on_one (Pointer a) (Pointer a) plain_int) else pointer_and_integer known op a b
operation_on known op a_null b_null (Pointer a) (Pointer b) =
    if equates op then equality known a a_null b b_null else on_pointers known op a b
operation_on known op a_null b_null _ _ = None

-- What an operator does with its operands, or None where they don't fit it.
abbrev pub operation_of : Known → BinOp → Side → Side → Option Operation
operation_of known op left right = operation_on known op left.null right.null left.ty right.ty

-- ---- signs

abbrev pub binary_of : Punct → Option BinOp
binary_of marks.Star = Some binop.Mul
binary_of marks.Slash = Some binop.Div
binary_of marks.Percent = Some binop.Rem
binary_of marks.Plus = Some binop.Add
binary_of marks.Minus = Some binop.Sub
binary_of marks.ShiftLeft = Some binop.Shl
binary_of marks.ShiftRight = Some binop.Shr
binary_of marks.Less = Some binop.Lt
binary_of marks.Greater = Some binop.Gt
binary_of marks.LessEqual = Some binop.Le
binary_of marks.GreaterEqual = Some binop.Ge
binary_of marks.Equal = Some binop.Eq
binary_of marks.NotEqual = Some binop.Ne
binary_of marks.Ampersand = Some binop.And
binary_of marks.Caret = Some binop.Xor
binary_of marks.Bar = Some binop.Or
binary_of _ = None

-- the operator of a compound assignment; `=` has none
abbrev pub compound_of : Punct → Option BinOp
compound_of marks.StarAssign = Some binop.Mul
compound_of marks.SlashAssign = Some binop.Div
compound_of marks.PercentAssign = Some binop.Rem
compound_of marks.PlusAssign = Some binop.Add
compound_of marks.MinusAssign = Some binop.Sub
compound_of marks.ShiftLeftAssign = Some binop.Shl
compound_of marks.ShiftRightAssign = Some binop.Shr
compound_of marks.AmpersandAssign = Some binop.And
compound_of marks.CaretAssign = Some binop.Xor
compound_of marks.BarAssign = Some binop.Or
compound_of _ = None
