-- The code of each kind of node, from that of its parts, whose values stand at their places.
use Rattle.std.specs.Prelude.{ℕ, zero, suc, ◌/◌, ◌%◌, nat_eq, nat_lt, Bool, true, false, ◌&&◌, if◌then◌else◌, List, [], ◌∷◌, ◌++◌, Option, Some, None}
use Rattle.c_ints.specs.declared.operators.BinOp.{BinOp}
use Rattle.c_ints.specs.declared.operators.BinOp.TheVariants as binop
use Rattle.c_ints.specs.declared.operators.UnOp.{UnOp}
use Rattle.c_ints.specs.declared.operators.UnOp.TheVariants as unop
use Rattle.c_ints.specs.declared.types.IntTy.{IntTy}
use Rattle.c_ints.specs.declared.types.IntTy.TheVariants.{UChar, UInt, ULong}
use Rattle.c_ints.specs.declared.types.IntTy.TheVariants as intty
use Rattle.c_typed.specs.declared.expression.LogicalOp.{LogicalOp}
use Rattle.c_typed.specs.declared.expression.LogicalOp.TheVariants as logical
use Rattle.c_typed.specs.declared.expression.StepOp.{StepOp}
use Rattle.c_typed.specs.declared.expression.StepOp.TheVariants.{PreIncrement, PreDecrement, PostIncrement, PostDecrement}
use Rattle.c_typed.specs.declared.types.Ty.{Ty}
use Rattle.c_typed.specs.declared.types.Ty.TheVariants.{Void, Int, Pointer, Array, Struct}
use Rattle.core_code.specs.Tree as code
use Rattle.core_code.specs.Tree.{Tree, many}
use Rattle.core_code.specs.declared.code.Byte.{Byte}
use Rattle.core_code.specs.declared.code.Byte.TheVariants.{Frame, Result}
use Rattle.core_puts.specs.Bytes.{behind, beyond, is_wider, number_type, operation_type}
use Rattle.core_puts.specs.Puts.{copies, copies_if, sets, operator, choice}
use Rattle.lower_expr.specs.Spots.{pointer_bytes}
use Rattle.lower_expr.specs.declared.assignments.Change.{Change}
use Rattle.lower_expr.specs.declared.assignments.Change.TheVariants.{Plain, Elements, By}
use Rattle.lower_expr.specs.declared.assignments.Update.{Update}
use Rattle.lower_expr.specs.declared.places.Spot.{Spot}
use Rattle.lower_expr.specs.declared.places.Spot.TheVariants.{Fixed, Bit, Computed}
use Rattle.lower_expr.specs.declared.structures.Side.{Side}
use Rattle.lower_expr.specs.declared.structures.Side.TheVariants.{Here, Pointed}
use Rattle.pic_world.specs.declared.Root.{Root}

-- Conversions: only one to more bytes is code.
abbrev pub wider : IntTy → IntTy → Byte → List Tree
wider from to at = if is_wider from to then code.Convert from to at ∷ [] else []

abbrev pub widened_number : Option IntTy → Option IntTy → Byte → List Tree
widened_number None to at = []
widened_number (Some from) None at = []
widened_number (Some from) (Some to) at = wider from to at

abbrev pub widened : Ty → Ty → Byte → List Tree
widened from to at = widened_number (number_type from) (number_type to) at

-- an int that is one of two numbers, by whether one of so many bytes isn't 0
abbrev pub tested : Byte → ℕ → ℕ → ℕ → Tree
tested at size held failed = choice at size (sets at held 2) (sets at failed 2)

-- the unsigned type of as many bytes as a value has
abbrev pub type_of_size : ℕ → IntTy
type_of_size size = if nat_lt size 2 then UChar else if nat_lt size 4 then UInt else ULong

-- `!` asks only whether a byte isn't 0, so it takes the bytes for an unsigned number, those of a pointer too.
abbrev pub unary_row : UnOp → IntTy → Byte → ℕ → List Tree
unary_row unop.Plus ty at size = []
unary_row unop.Minus ty at size = code.Unary unop.Minus ty at ∷ []
unary_row unop.Not ty at size = code.Unary unop.Not ty at ∷ []
unary_row unop.Bang ty at size = code.Unary unop.Bang (type_of_size size) at ∷ []

-- `&&` and `||`: the code of the right operand runs only where the left one doesn't decide.
abbrev pub logical_row : LogicalOp → Byte → ℕ → List Tree → Tree
logical_row logical.And at size other = choice at size other (sets at 0 2)
logical_row logical.Or at size other = choice at size (sets at 1 2) other

abbrev pub is_shift : BinOp → Bool
is_shift binop.Shl = true
is_shift binop.Shr = true
is_shift _ = false

-- A shift by a constant is one operation: the count's bytes, and the operator.
abbrev pub shift_row : BinOp → IntTy → Byte → Byte → ℕ → ℕ → Tree
shift_row op ty at right count size = many (sets right count size ++ operator op ty at right ∷ [])

-- a binary operator, or a shift by a constant
abbrev pub binary_row : Bool → BinOp → IntTy → Byte → Byte → ℕ → ℕ → List Tree
binary_row true op ty at right count size = shift_row op ty at right count size ∷ []
binary_row false op ty at right count size = operator op ty at right ∷ []

-- An integer times `size`, of so many binary digits: for each but the highest, doubled, and for each 1 the integer more.
abbrev pub odd_part : Byte → Byte → ℕ → List Tree
odd_part to from size = if nat_eq (size % 2) 1 then operator binop.Add UInt to from ∷ [] else []

unfoldable pub multiples : Byte → Byte → ℕ → ℕ → List Tree
multiples to from size zero = []
multiples to from size (suc digits) =
    if nat_lt size 2 then []
    else (multiples to from (size / 2) digits ++ operator binop.Add UInt to to ∷ [] ++ odd_part to from size)

abbrev pub scaled : Byte → Byte → ℕ → List Tree
scaled to from size = copies to from 2 ++ multiples to from size 64

-- A pointer and an integer, which counts in elements of `size` bytes.
abbrev pub moved : BinOp → Byte → Byte → Byte → ℕ → List Tree
moved op at index count size =
    if nat_eq size 1 then operator op UInt at index ∷ []
    else (scaled count index size ++ operator op UInt at count ∷ [])

abbrev pub moved_right : Byte → ℕ → List Tree
moved_right at size =
    if nat_eq size 1 then operator binop.Add UInt at (behind at 2) ∷ []
    else (scaled (behind at 4) at size ++ code.Binary binop.Add UInt at (behind at 2) (behind at 4) ∷ [])

abbrev pub offset_row : BinOp → Byte → Bool → ℕ → List Tree
offset_row op at true size = moved op at (behind at 2) (behind at 4) size
offset_row op at false size = moved_right at size

-- Two pointers into one object. Elements that are more than an int can count are larger than any object, so there is no
-- distance between them.
abbrev pub quotient_row : Byte → ℕ → List Tree
quotient_row at size = if nat_eq size 1 then [] else (sets (behind at 2) size 2 ++ operator binop.Div intty.Int at (behind at 2) ∷ [])

abbrev pub difference_row : Byte → ℕ → List Tree
difference_row at size = if nat_lt 32767 size then sets at 0 2 else (operator binop.Sub UInt at (behind at 2) ∷ [] ++ quotient_row at size)

-- a member of what a pointer points to
abbrev pub member_row : Byte → ℕ → Byte → List Tree
member_row at offset number =
    if nat_eq offset 0 then [] else (sets number offset 2 ++ operator binop.Add UInt at number ∷ [])

-- The address of a place; code that computed one has left it there.
abbrev pub address_row : Spot → Byte → List Tree
address_row (Fixed byte) at = code.Address at byte ∷ []
address_row (Bit register bit) at = []
address_row Computed at = []

-- A place is read; a pointer stands at `pointer` where it is computed.
abbrev pub read_row : Spot → Byte → Byte → ℕ → List Tree
read_row (Fixed from) pointer to count = copies to from count
read_row (Bit register bit) pointer to count = code.BitRead to register bit ∷ []
read_row Computed pointer to count = code.Load to pointer count ∷ []

abbrev pub pointed_row : Byte → ℕ → List Tree
pointed_row at count = code.Load (behind at 2) at count ∷ [] ++ copies at (behind at 2) count

-- The value of a place whose address stands at `at` if it is computed.
abbrev pub value_row : Spot → Byte → ℕ → List Tree
value_row (Fixed from) at count = copies at from count
value_row (Bit register bit) at count = code.BitRead at register bit ∷ []
value_row Computed at count = pointed_row at count

abbrev pub bit_row : Root → ℕ → ℕ → Byte → List Tree
bit_row root register bit from =
    code.Set (Result root 0) 1 ∷ operator binop.And UChar from (Result root 0) ∷ code.BitWrite register bit from ∷ []

-- A place is written.
abbrev pub written_row : Spot → Root → Byte → Byte → ℕ → List Tree
written_row (Fixed to) root pointer from count = copies to from count
written_row (Bit register bit) root pointer from count = bit_row root register bit from
written_row Computed root pointer from count = code.Store pointer from count ∷ []

-- A value that stands behind the pointer to its place comes to stand at the front, if it is wanted.
abbrev pub kept_row : Bool → Spot → Byte → Byte → ℕ → List Tree
kept_row wanted (Fixed to) at value count = []
kept_row wanted (Bit register bit) at value count = []
kept_row wanted Computed at value count = copies_if wanted at value count

abbrev pub assigned_row : Bool → Spot → Root → Byte → ℕ → List Tree
assigned_row wanted spot root at count =
    written_row spot root at (behind at (pointer_bytes spot)) count ++ kept_row wanted spot at (behind at (pointer_bytes spot)) count

-- ---- updates
-- how the operator of an update takes its right operand
abbrev pub change_by : Ty → ℕ → Change
change_by (Pointer target) size = Elements size
change_by Void size = Plain
change_by (Int ty) size = Plain
change_by (Array element length bytes) size = Plain
change_by (Struct number) size = Plain

abbrev pub change_of : Bool → Ty → ℕ → ℕ → Change
change_of constant operation size number = if constant then By number else change_by operation size

abbrev pub change_row : Change → BinOp → IntTy → Byte → Byte → ℕ → List Tree
change_row Plain op ty at right count = operator op ty at right ∷ []
change_row (Elements size) op ty at right count = moved op at right (behind at 2) size
change_row (By number) op ty at right count = shift_row op ty at right number count ∷ []

abbrev pub given_byte : Bool → Byte → Byte → Byte
given_byte keeps old new = if keeps then old else new

-- The place's value is read to `left`, changed there, and written. The value of the whole, if it is wanted, is the new one
-- or the old one, which is kept for it at `old`.
abbrev pub update_at : Update → Spot → Root → ℕ → Ty → Byte → Byte → Byte → Byte → List Tree
update_at u spot root bytes from at right left old =
    read_row spot at left bytes
    ++ widened from u.operation left
    ++ copies_if (u.is_wanted && u.keeps_old) old left bytes
    ++ change_row u.change u.op (operation_type u.operation) left right u.count
    ++ written_row spot root at left bytes
    ++ copies_if u.is_wanted at (given_byte u.keeps_old old left) bytes

-- An update of a place of so many bytes, to which the pointer at `at` points if it is computed. Behind that stand the right
-- operand, the place's value and the old value.
abbrev pub update_row : Update → Spot → Root → Byte → ℕ → Ty → List Tree
update_row u spot root at bytes from =
    update_at u spot root bytes from at
    (behind at (pointer_bytes spot))
    (behind (behind at (pointer_bytes spot)) u.count)
    (behind (behind (behind at (pointer_bytes spot)) u.count) u.count)

-- the value before the step is what the step gives
abbrev pub keeps_old : StepOp → Bool
keeps_old PreIncrement = false
keeps_old PreDecrement = false
keeps_old PostIncrement = true
keeps_old PostDecrement = true

-- a pointer goes on by the bytes of an element
abbrev pub step_number : Ty → ℕ → ℕ
step_number (Pointer target) size = size
step_number Void size = 1
step_number (Int ty) size = 1
step_number (Array element length bytes) size = 1
step_number (Struct number) size = 1

-- a step by this number: an update whose right operand is a constant
abbrev pub step_row : Update → ℕ → Spot → Root → Byte → ℕ → Ty → List Tree
step_row u number spot root at bytes from = sets (behind at (pointer_bytes spot)) number u.count ++ update_row u spot root at bytes from

-- A call whose arguments stand at `at`.
abbrev pub called_row : Bool → Root → ℕ → Byte → ℕ → ℕ → List Tree
called_row wanted root callee at arguments count =
    copies (Frame callee 0) at arguments ++ code.Call callee ∷ [] ++ copies_if wanted at (Result root 0) count

-- Byte `i` of a structure, a side at a time: a pointer points to that byte by now.
abbrev pub side_of : Spot → Byte → Side
side_of (Fixed byte) pointer = Here byte
side_of (Bit register bit) pointer = Pointed pointer
side_of Computed pointer = Pointed pointer

abbrev pub taken : Byte → Side → ℕ → Tree
taken to (Here byte) i = code.Copy to (behind byte i)
taken to (Pointed pointer) i = code.Load to pointer 1

abbrev pub given : Side → Byte → ℕ → Tree
given (Here byte) from i = code.Copy (behind byte i) from
given (Pointed pointer) from i = code.Store pointer from 1

abbrev pub advance : Side → Byte → List Tree
advance (Here byte) one = []
advance (Pointed pointer) one = operator binop.Add UInt pointer one ∷ []

abbrev pub advances : Side → Side → Byte → ℕ → List Tree
advances to from one i = if nat_eq i 0 then [] else (advance to one ++ advance from one)

unfoldable pub structure_bytes : Side → Side → Byte → Byte → ℕ → List Tree
structure_bytes to from one temporary zero = []
structure_bytes to from one temporary (suc i) =
    structure_bytes to from one temporary i
    ++ advances to from one i ++ taken temporary from i ∷ [] ++ given to temporary i ∷ []

abbrev pub structure_row : Root → Side → Side → Byte → ℕ → List Tree
structure_row root to from temporary size =
    code.Set (Result root 0) 1 ∷ code.Set (Result root 1) 0 ∷ structure_bytes to from (Result root 0) temporary size

-- a structure whose place isn't fixed, or that comes from one that isn't
abbrev pub through_row : Root → Spot → Spot → Byte → ℕ → List Tree
through_row root place from at size =
    structure_row root (side_of place at) (side_of from (behind at (pointer_bytes place))) (behind (behind at (pointer_bytes place)) (pointer_bytes from)) size

-- The addresses of the places that are computed stand at `at`, one behind the other.
abbrev pub struct_row : Root → Spot → Spot → Byte → ℕ → List Tree
struct_row root (Fixed to) (Fixed byte) at size = copies to byte (beyond 0 size)
struct_row root (Fixed to) (Bit register bit) at size = through_row root (Fixed to) (Bit register bit) at size
struct_row root (Fixed to) Computed at size = through_row root (Fixed to) Computed at size
struct_row root (Bit register bit) from at size = through_row root (Bit register bit) from at size
struct_row root Computed from at size = through_row root Computed from at size
