-- The types of expressions and places, how many bytes they have, and the forms of places.
use Rattle.std.specs.Prelude.{ℕ, ◌+◌, ◌^◌, ◌%◌, nat_lt, List, Bool, true, false, Option, Some, None, ◌&&◌, if◌then◌else◌, slice_index}
use Rattle.c_ints.specs.Range.{bytes_of}
use Rattle.c_ints.specs.declared.types.IntTy.TheVariants as IntTy
use Rattle.c_typed.specs.Trees as tree
use Rattle.c_typed.specs.Trees.{Expression, Expressions, Item, Place}
use Rattle.c_typed.specs.declared.expression.PlaceForm.{PlaceForm}
use Rattle.c_typed.specs.declared.expression.PlaceForm.TheVariants.{Fixed, Bit, Computed}
use Rattle.c_typed.specs.declared.types.Qualified.{Qualified}
use Rattle.c_typed.specs.declared.types.Ty.{Ty}
use Rattle.c_typed.specs.declared.types.Ty.TheVariants.{Void, Int, Pointer, Array, Struct}

-- How many bytes a type has: 0 for void, 2 for a pointer. `sizes` has those of the structures.
abbrev pub type_bytes : List ℕ → Ty → ℕ
type_bytes sizes Void = 0
type_bytes sizes (Int ty) = bytes_of ty
type_bytes sizes (Pointer target) = 2
type_bytes sizes (Array element length size) = size
type_bytes sizes (Struct number) = slice_index sizes number

-- A number of bytes is exact below 2 to the 40. Beyond that only its rest modulo 65,536 is kept, which is what `sizeof`
-- shows of it; no object is as large.
abbrev pub kept : ℕ → ℕ
kept size = if nat_lt size (2 ^ 40) then size else size % 65536 + 2 ^ 40

-- where an item stands in its local
abbrev pub item_start : Item → ℕ
item_start (tree.Scalar offset value) = offset
item_start (tree.Struct offset from size) = offset
item_start (tree.Text offset bytes size) = offset

-- The type of an expression's value.
abbrev pub type_of : Expression → Ty
type_of (tree.Constant value line) = Int value.ty
type_of (tree.Read place ty line) = ty
type_of (tree.Address place ty line) = ty
type_of (tree.Convert operand ty line) = ty
type_of (tree.Cast operand ty line) = ty
type_of (tree.Unary op operand ty line) = ty
type_of (tree.Binary op left right ty line) = ty
type_of (tree.Offset op left right size ty line) = ty
type_of (tree.Difference left right size line) = Int IntTy.Int
type_of (tree.Logical op left right line) = Int IntTy.Int
type_of (tree.Conditional condition chosen otherwise ty line) = ty
type_of (tree.Comma left right ty line) = ty
type_of (tree.Assign place value ty line) = ty
type_of (tree.StructAssign place from size line) = Void
type_of (tree.Update op place value operation size ty line) = ty
type_of (tree.Step op place operation size ty line) = ty
type_of (tree.Call function arguments ty line) = ty

-- The type of a place. A bit is an unsigned char, and volatile as its register is.
abbrev pub place_type : Place → Qualified
place_type (tree.Name object ty line) = ty
place_type (tree.Bit register bit line) = record { ty = Int IntTy.UChar; constant = false; volatile = true }
place_type (tree.Member whole member offset ty line) = ty
place_type (tree.Deref pointer ty line) = ty

-- how many bytes the value of an expression has
abbrev pub value_bytes : List ℕ → Expression → ℕ
value_bytes sizes e = type_bytes sizes (type_of e)

-- how many bytes a place has
abbrev pub place_bytes : List ℕ → Place → ℕ
place_bytes sizes p = type_bytes sizes (place_type p).ty

-- The place that a value is read from, if it is read from one.
abbrev pub place_read : Expression → Option Place
place_read (tree.Read place ty line) = Some place
place_read _ = None

-- A place is fixed (a name, or a member of a fixed place), a bit, or computed.
abbrev pub member_form : PlaceForm → PlaceForm
member_form Fixed = Fixed
member_form Bit = Computed
member_form Computed = Computed

abbrev pub form_of : Place → PlaceForm
form_of (tree.Name object ty line) = Fixed
form_of (tree.Bit register bit line) = Bit
form_of (tree.Member whole member offset ty line) = member_form (form_of whole)
form_of (tree.Deref pointer ty line) = Computed

-- Whether an expression is an integer constant expression (ISO/IEC 9899:1990, 6.4): constants and `sizeof`, casts to
-- integer types, and the operators except assignment, `++`, `--` and comma.
abbrev pub is_integer : Ty → Bool
is_integer (Int ty) = true
is_integer _ = false

unfoldable pub is_constant : Expression → Bool
is_constant (tree.Constant value line) = true
is_constant (tree.Read place ty line) = false
is_constant (tree.Address place ty line) = false
is_constant (tree.Convert operand ty line) = is_integer ty && is_constant operand
is_constant (tree.Cast operand ty line) = is_integer ty && is_constant operand
is_constant (tree.Unary op operand ty line) = is_constant operand
is_constant (tree.Binary op left right ty line) = is_constant left && is_constant right
is_constant (tree.Offset op left right size ty line) = false
is_constant (tree.Difference left right size line) = false
is_constant (tree.Logical op left right line) = is_constant left && is_constant right
is_constant (tree.Conditional condition chosen otherwise ty line) = is_constant condition && (is_constant chosen && is_constant otherwise)
is_constant (tree.Comma left right ty line) = false
is_constant (tree.Assign place value ty line) = false
is_constant (tree.StructAssign place from size line) = false
is_constant (tree.Update op place value operation size ty line) = false
is_constant (tree.Step op place operation size ty line) = false
is_constant (tree.Call function arguments ty line) = false
