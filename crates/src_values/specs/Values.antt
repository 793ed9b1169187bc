-- Values of expressions, what operators and conversions give, and when they are undefined (ISO/IEC 9899:1990, 6.2 and
-- 6.3; the kinds of undefined steps are the project's own).
use Rattle.std.specs.Prelude.{ℕ, ◌+◌, ◌*◌, ◌/◌, ◌%◌, ◌^◌, Bool, true, false, not, ◌&&◌, ◌||◌, nat_eq, nat_lt, if◌then◌else◌, ℤ, pos, neg_ℤ, ◌-ℤ◌, ◌*ℤ◌, int_div, List, [], ◌∷◌, Option, Some, None, is_some}
use Rattle.std.specs.Ordering.{int_eq}
use Rattle.c_ints.specs.Operators.{cut_to, truth, comparison, shifts_badly, outcome, unary_type, exact_unary}
use Rattle.c_ints.specs.Quantity.{Quantity}
use Rattle.c_ints.specs.Range.{bytes_of, pattern}
use Rattle.c_ints.specs.declared.operators.BinOp.{BinOp}
use Rattle.c_ints.specs.declared.operators.BinOp.TheVariants as ops
use Rattle.c_ints.specs.declared.operators.UnOp.{UnOp}
use Rattle.c_ints.specs.declared.types.IntTy.{IntTy}
use Rattle.c_ints.specs.declared.types.IntTy.TheVariants as int
use Rattle.c_typed.specs.Trees as tree
use Rattle.c_typed.specs.Trees.{Expression, Program}
use Rattle.c_typed.specs.declared.expression.LogicalOp.{LogicalOp}
use Rattle.c_typed.specs.declared.expression.LogicalOp.TheVariants.{And, Or}
use Rattle.c_typed.specs.declared.expression.StepOp.{StepOp}
use Rattle.c_typed.specs.declared.expression.StepOp.TheVariants.{PreIncrement, PreDecrement, PostIncrement, PostDecrement}
use Rattle.c_typed.specs.declared.statement.TCase.{TCase}
use Rattle.c_typed.specs.declared.types.Ty.{Ty}
use Rattle.c_typed.specs.declared.types.Ty.TheVariants as types
use Rattle.src_values.specs.Data.{Datum}
use Rattle.src_values.specs.Data.{Number, Pointer, Missing}
use Rattle.src_values.specs.Objects.{same_object, is_alive, object_bytes, moved}
use Rattle.src_values.specs.declared.objects.Byte.{Byte}
use Rattle.src_values.specs.declared.objects.Byte.TheVariants as bytes
use Rattle.src_values.specs.declared.objects.CopyOf.{CopyOf}
use Rattle.src_values.specs.declared.objects.Object.{Object}
use Rattle.src_values.specs.declared.objects.Pointer.{Pointer as Place}
use Rattle.src_values.specs.declared.objects.Pointer.TheVariants.{Null, Into}
use Rattle.src_values.specs.declared.objects.Spot.{Spot}
use Rattle.src_values.specs.declared.objects.Spot.TheVariants as spots
use Rattle.src_values.specs.declared.objects.Undef.{Undef}
use Rattle.src_values.specs.declared.objects.Undef.TheVariants.{Division, Overflow, Shift, Unset, Outside, Inactive, Order, Past}

-- what an operator gives; or why it is undefined; or no rule is there for operands of this sort, which those of a typed
-- program never are
pub data Answer : Type 0 where
  Gives : Datum → Answer
  Fails : Undef → Answer
  Strays : Answer

abbrev pub truth_value : Bool → Datum
truth_value holds = Number (cut_to int.Int (truth holds))

-- ---- values and their bytes
-- how many bytes a value has
abbrev pub byte_count : Datum → ℕ
byte_count (Number q) = bytes_of q.ty
byte_count (Pointer x) = 2
byte_count Missing = 0

-- The bytes of a value, the lowest first. Those of a null pointer are the number 0.
abbrev pub byte_of : Datum → ℕ → Byte
byte_of (Number q) k = bytes.Number (pattern q.ty q.number / 256 ^ k % 256)
byte_of (Pointer Null) k = bytes.Number 0
byte_of (Pointer (Into object offset)) k = bytes.Part object offset (nat_eq k 1)
byte_of Missing k = bytes.Unset

-- the number of a type that bytes make
abbrev pub number_of : IntTy → ℕ → Datum
number_of ty n = Number (cut_to ty (pos n))

abbrev pub null_if : Bool → Option Place
null_if true = Some Null
null_if false = None

abbrev pub same_part : Object → ℕ → Object → ℕ → Option Place
same_part a f b g = if same_object a b && nat_eq f g then Some (Into a f) else None

-- The pointer that two bytes make: two numbers 0 make null, and the bytes of one pointer that pointer.
abbrev pub joined : Byte → Byte → Option Place
joined (bytes.Number a) (bytes.Number b) = null_if (nat_eq a 0 && nat_eq b 0)
joined (bytes.Part a f false) (bytes.Part b g true) = same_part a f b g
joined _ _ = None

-- ---- the values that bytes make
abbrev pub number_in : Byte → ℕ
number_in bytes.Unset = 0
number_in (bytes.Number n) = n
number_in (bytes.Part object offset high) = 0

-- the number that bytes make, the lowest first
unfoldable pub number_from : List Byte → ℕ
number_from [] = 0
number_from (byte ∷ more) = number_in byte + 256 * number_from more

abbrev pub pointer_held : Option Place → Datum
pointer_held (Some x) = Pointer x
pointer_held None = Missing

abbrev pub pointer_from : List Byte → Datum
pointer_from (low ∷ high ∷ []) = pointer_held (joined low high)
pointer_from _ = Missing

-- The value that bytes make as a type. That of a structure is none.
unfoldable pub value_from : Ty → List Byte → Datum
value_from (types.Int ty) read = number_of ty (number_from read)
value_from (types.Pointer target) read = pointer_from read
value_from _ read = Missing

-- the second byte of a pointer, behind its first one
abbrev pub completes : Byte → Byte → Bool
completes low byte = is_some (joined low byte)

abbrev pub is_number : Byte → Bool
is_number bytes.Unset = false
is_number (bytes.Number n) = true
is_number (bytes.Part object offset high) = false

-- Which byte may follow those that were read as a type: a number's are numbers, and the second one of a pointer
-- completes the first.
abbrev pub follows_in_pointer : List Byte → Byte → Bool
follows_in_pointer [] byte = true
follows_in_pointer (low ∷ more) byte = completes low byte

unfoldable pub fits_behind : Ty → List Byte → Byte → Bool
fits_behind (types.Int ty) read byte = is_number byte
fits_behind (types.Pointer target) read byte = follows_in_pointer read byte
fits_behind _ read byte = true

-- ---- conversions
abbrev pub as_integer : IntTy → Datum → Answer
as_integer ty (Number q) = Gives (Number (cut_to ty q.number))
as_integer ty (Pointer x) = Strays
as_integer ty Missing = Fails Unset

-- A pointer keeps its value; the only integer that becomes one is the constant 0.
abbrev pub as_pointer : Datum → Answer
as_pointer (Number q) = Gives (Pointer Null)
as_pointer (Pointer x) = Gives (Pointer x)
as_pointer Missing = Fails Unset

unfoldable pub converted : Ty → Datum → Answer
converted types.Void v = Gives Missing
converted (types.Int ty) v = as_integer ty v
converted (types.Pointer target) v = as_pointer v
converted (types.Array element length size) v = Strays
converted (types.Struct number) v = Strays

-- ---- conditions
abbrev pub is_null : Place → Bool
is_null Null = true
is_null (Into object offset) = false

-- whether a value is one that isn't 0
unfoldable pub truth_of : Datum → Option Bool
truth_of (Number q) = Some (not (int_eq q.number (pos 0)))
truth_of (Pointer x) = Some (not (is_null x))
truth_of Missing = None

-- && and ||: the right operand counts only where the left one doesn't decide
abbrev pub decides : LogicalOp → Bool → Bool
decides And holds = not holds
decides Or holds = holds

-- the label is that of the value of a switch
abbrev pub is_case : Datum → TCase → Bool
is_case (Number q) label = int_eq q.number label.value.number
is_case (Pointer x) label = false
is_case Missing label = false

-- ---- unary operators
unfoldable pub unary_answer : UnOp → Datum → Answer
unary_answer op (Number q) = Gives (Number (cut_to (unary_type op q.ty) (exact_unary op q.number)))
unary_answer op (Pointer x) = Gives (truth_value (is_null x))
unary_answer op Missing = Fails Unset

-- ---- binary operators
-- what the right operand alone makes undefined
abbrev pub bad_divisor : Datum → Option Undef
bad_divisor (Number q) = if int_eq q.number (pos 0) then Some Division else None
bad_divisor (Pointer x) = None
bad_divisor Missing = None

abbrev pub bad_count : Ty → Datum → Option Undef
bad_count (types.Int ty) (Number q) = if shifts_badly ty q.number then Some Shift else None
bad_count _ _ = None

abbrev pub bad_right : BinOp → Ty → Datum → Option Undef
bad_right ops.Div ty v = bad_divisor v
bad_right ops.Rem ty v = bad_divisor v
bad_right ops.Shl ty v = bad_count ty v
bad_right ops.Shr ty v = bad_count ty v
bad_right _ ty v = None

-- On integers: where the divisor isn't 0 and the count fits, only the overflow of a quotient is left.
abbrev pub number_or_overflow : Option Quantity → Answer
number_or_overflow (Some q) = Gives (Number q)
number_or_overflow None = Fails Overflow

-- whether a pointer is just past its object, and whether it is to a byte of it
abbrev pub is_past : Program → Object → ℕ → Bool
is_past p object offset = nat_eq offset (object_bytes p object)

abbrev pub is_inside : Program → Object → ℕ → Bool
is_inside p object offset = nat_lt offset (object_bytes p object)

-- == on pointers to two objects
abbrev pub apart : Program → List CopyOf → Object → ℕ → Object → ℕ → Option Undef
apart p active a f b g =
    if not (is_alive active a && is_alive active b) then Some Inactive else
    if (is_past p a f && is_inside p b g) || (is_inside p a f && is_past p b g) then Some Past else None

abbrev pub unless_undefined : Option Undef → Bool → Answer
unless_undefined (Some kind) holds = Fails kind
unless_undefined None holds = Gives (truth_value holds)

-- whether two pointers are equal; `turned` for !=
abbrev pub equality : Program → List CopyOf → Bool → Place → Place → Answer
equality p active turned Null Null = Gives (truth_value (not turned))
equality p active turned Null (Into b g) = Gives (truth_value turned)
equality p active turned (Into a f) Null = Gives (truth_value turned)
equality p active turned (Into a f) (Into b g) =
    if same_object a b then Gives (truth_value (if nat_eq f g then not turned else turned))
    else unless_undefined (apart p active a f b g) turned

-- < and its like on pointers, by their places in one object
abbrev pub order : BinOp → Place → Place → Answer
order op (Into a f) (Into b g) = if same_object a b then Gives (truth_value (comparison op (pos f) (pos g))) else Fails Order
order op _ _ = Fails Order

abbrev pub on_pointers : Program → List CopyOf → BinOp → Place → Place → Answer
on_pointers p active ops.Eq x y = equality p active false x y
on_pointers p active ops.Ne x y = equality p active true x y
on_pointers p active op x y = order op x y

abbrev pub on_values : Program → List CopyOf → BinOp → Datum → Datum → Answer
on_values p active op (Number a) (Number b) = number_or_overflow (outcome op a b)
on_values p active op (Pointer x) (Pointer y) = on_pointers p active op x y
on_values p active op Missing u = Fails Unset
on_values p active op v Missing = Fails Unset
on_values p active op v u = Strays

abbrev pub unless_bad : Option Undef → Answer → Answer
unless_bad (Some kind) answer = Fails kind
unless_bad None answer = answer

-- What a binary operator gives. `ty` is the type of the operation.
unfoldable pub binary_answer : Program → List CopyOf → BinOp → Ty → Datum → Datum → Answer
binary_answer p active op ty v u = unless_bad (bad_right op ty u) (on_values p active op v u)

-- ---- pointers and integers
abbrev pub is_minus : BinOp → Bool
is_minus ops.Sub = true
is_minus _ = false

abbrev pub pointer_or_outside : Option Place → Answer
pointer_or_outside (Some x) = Gives (Pointer x)
pointer_or_outside None = Fails Outside

-- so many elements
abbrev pub distance : BinOp → ℕ → ℤ → ℤ
distance op size count = if is_minus op then neg_ℤ (count *ℤ pos size) else count *ℤ pos size

-- a pointer moved by an integer's number of elements; the integer may stand first
unfoldable pub offset_answer : Program → BinOp → ℕ → Datum → Datum → Answer
offset_answer p op size (Pointer x) (Number q) = pointer_or_outside (moved p x (distance op size q.number))
offset_answer p op size (Number q) (Pointer x) = pointer_or_outside (moved p x (distance op size q.number))
offset_answer p op size Missing u = Fails Unset
offset_answer p op size v Missing = Fails Unset
offset_answer p op size v u = Strays

-- how many elements lie between two pointers
unfoldable pub difference_answer : ℕ → Datum → Datum → Answer
difference_answer size (Pointer (Into a f)) (Pointer (Into b g)) =
    if same_object a b then Gives (Number (cut_to int.Int (int_div (pos f -ℤ pos g) (pos size)))) else Fails Order
difference_answer size (Pointer x) (Pointer y) = Fails Order
difference_answer size Missing u = Fails Unset
difference_answer size v Missing = Fails Unset
difference_answer size v u = Strays

-- ---- compound assignments
abbrev pub then_converted : Ty → Answer → Answer
then_converted ty (Gives v) = converted ty v
then_converted ty (Fails kind) = Fails kind
then_converted ty Strays = Strays

abbrev pub operated : Program → List CopyOf → BinOp → Ty → Answer → Datum → Answer
operated p active op ty (Gives v) u = binary_answer p active op ty v u
operated p active op ty (Fails kind) u = Fails kind
operated p active op ty Strays u = Strays

abbrev pub changed_by : Program → List CopyOf → BinOp → ℕ → Ty → Datum → Datum → Answer
changed_by p active op size (types.Pointer target) old u = offset_answer p op size old u
changed_by p active op size operation old u = operated p active op operation (converted operation old) u

-- The new value of a place of this type: the old one, converted to the type of the operation, is the left operand.
unfoldable pub change_answer : Program → List CopyOf → BinOp → Ty → ℕ → Ty → Datum → Datum → Answer
change_answer p active op operation size ty old u = then_converted ty (changed_by p active op size operation old u)

-- what `++` and `--` count by: 1 in the type of the operation, or the int 1 where a pointer is moved
abbrev pub one_in : Ty → Datum
one_in (types.Int ty) = Number (cut_to ty (pos 1))
one_in _ = Number (cut_to int.Int (pos 1))

-- ---- bits
abbrev pub lowest_bit : Datum → ℕ
lowest_bit (Number q) = pattern q.ty q.number % 2
lowest_bit (Pointer x) = 0
lowest_bit Missing = 0

-- the value of an assignment: that of the place afterwards, and a bit holds the lowest bit alone
unfoldable pub kept_in : Spot → Datum → Datum
kept_in (spots.Bit register number) v = number_of int.UChar (lowest_bit v)
kept_in _ v = v

-- ---- what follows a write
-- how many bytes a write of a value has: one where a bit is written
abbrev pub written_bytes : Spot → Datum → ℕ
written_bytes (spots.Bit register number) v = 1
written_bytes spot v = byte_count v

abbrev pub is_postfix : StepOp → Bool
is_postfix PreIncrement = false
is_postfix PreDecrement = false
is_postfix PostIncrement = true
is_postfix PostDecrement = true

-- The expression has the value that its place holds afterwards; a postfix form has the old one.
abbrev pub answer_of : Expression → Spot → Datum → Datum
answer_of (tree.Step op place operation size ty line) spot v = if is_postfix op then v else kept_in spot v
answer_of _ spot v = kept_in spot v
