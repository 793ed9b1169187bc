-- The values that bytes make, and what operators give (ISO/IEC 9899:1990, 6.2 and 6.3). None: the value is not one that
-- the operator has an answer for, and the machine is stuck.
use Rattle.std.specs.Prelude.{ℕ, zero, suc, ◌+◌, ◌*◌, ◌/◌, ◌%◌, ◌^◌, Bool, true, false, not, ◌&&◌, ◌||◌, nat_eq, nat_le, if◌then◌else◌, ℤ, pos, ◌+ℤ◌, ◌-ℤ◌, Option, Some, None, option_map}
use Rattle.std.specs.Ordering.{int_eq}
use Rattle.c_ints.specs.Operators.{cut_to, truth, comparison, shifts, outcome, unary_type, exact_unary}
use Rattle.c_ints.specs.Quantity.{Quantity}
use Rattle.c_ints.specs.Range.{bytes_of, pattern}
use Rattle.c_ints.specs.declared.operators.BinOp.{BinOp}
use Rattle.c_ints.specs.declared.operators.BinOp.TheVariants.{Add, Sub, Eq, Ne, Lt, Gt, Le, Ge}
use Rattle.c_ints.specs.declared.operators.UnOp.{UnOp}
use Rattle.c_ints.specs.declared.operators.UnOp.TheVariants.{Bang}
use Rattle.c_ints.specs.declared.types.IntTy.{IntTy}
use Rattle.c_ints.specs.declared.types.IntTy.TheVariants.{Int, UInt, UChar}
use Rattle.core_code.specs.Bytes.{Object, Fixed, FrameOf, Held, Place, Memory, same_object, behind}
use Rattle.core_code.specs.Bytes as bytes
use Rattle.core_code.specs.declared.code.Byte.{Byte}

-- a number of a type, or a pointer
pub data Value : Type 0 where
  Number : Quantity → Value
  Pointer : Place → Value

-- ---- values and their bytes
abbrev pub byte_count : Value → ℕ
byte_count (Number q) = bytes_of q.ty
byte_count (Pointer x) = 2

-- the bytes of a value, the lowest first
abbrev pub byte_of : Value → ℕ → Held
byte_of (Number q) k = bytes.Number (pattern q.ty q.number / 256 ^ k % 256)
byte_of (Pointer x) k = bytes.Part x.object x.offset (nat_eq k 1)

abbrev pub with_low : Held → Option ℕ → Option ℕ
with_low (bytes.Number n) (Some high) = Some (n + 256 * high)
with_low _ _ = None

-- the number that so many bytes make, the lowest first
abbrev pub number_in : Memory → Byte → ℕ → Option ℕ
number_in m byte zero = Some 0
number_in m byte (suc n) = with_low (m byte) (number_in m (behind byte 1) n)

-- the pointer whose two bytes these are
abbrev pub joined : Held → Held → Option Place
joined (bytes.Part a f false) (bytes.Part b g true) = if same_object a b && nat_eq f g then Some (record { object = a; offset = f }) else None
joined _ _ = None

unfoldable pub pointer_in : Memory → Byte → Option Place
pointer_in m byte = joined (m byte) (m (behind byte 1))

abbrev pub or_number : Option Place → Option Value → Option Value
or_number (Some x) number = Some (Pointer x)
or_number None number = number

abbrev pub pointer_if : Bool → Memory → Byte → Option Place
pointer_if two m byte = if two then pointer_in m byte else None

-- the value of a type in the bytes from this one on
unfoldable pub value_in : IntTy → Memory → Byte → Option Value
value_in ty m byte = or_number (pointer_if (nat_eq (bytes_of ty) 2) m byte) (option_map (λ n. Number (cut_to ty (pos n))) (number_in m byte (bytes_of ty)))

-- Whether one of so many bytes isn't 0. A pointer to an object is never null.
abbrev pub truth_of : Option Place → Option ℕ → Option Bool
truth_of (Some x) number = Some true
truth_of None number = option_map (λ n. not (nat_eq n 0)) number

unfoldable pub truth_in : Memory → Byte → ℕ → Option Bool
truth_in m byte size = truth_of (pointer_if (nat_eq size 2) m byte) (number_in m byte size)

abbrev pub truth_value : Bool → Value
truth_value holds = Number (cut_to Int (truth holds))

-- ---- conversions and unary operators
abbrev pub keeps_pointer : IntTy → Place → Option Value
keeps_pointer ty x = if nat_eq (bytes_of ty) 2 then Some (Pointer x) else None

unfoldable pub converted : IntTy → Value → Option Value
converted ty (Number q) = Some (Number (cut_to ty q.number))
converted ty (Pointer x) = keeps_pointer ty x

abbrev pub unary_pointer : UnOp → Option Value
unary_pointer Bang = Some (truth_value false)
unary_pointer _ = None

unfoldable pub unary_value : UnOp → Value → Option Value
unary_value op (Number q) = Some (Number (cut_to (unary_type op q.ty) (exact_unary op q.number)))
unary_value op (Pointer x) = unary_pointer op

-- ---- pointers
-- what pointers go by: how many bytes objects have, and which of them live
pub record Extent : Type 0 where
  pub size : Object → ℕ
  pub lives : Object → Bool

-- A pointer at so many bytes behind its object's start, modulo 65,536; none where it comes out of the object and isn't
-- just past its end.
abbrev pub moved : Extent → Object → ℤ → Option Value
moved e object z = let offset = pattern UInt z in if nat_le offset (e.size object) then Some (Pointer (record { object = object; offset = offset })) else None

-- Two objects that follow one another in memory: a pointer just past the one may have the address of the other.
abbrev pub may_touch : Extent → Place → Place → Bool
may_touch e x y = (nat_eq x.offset (e.size x.object) && nat_eq y.offset 0) || (nat_eq x.offset 0 && nat_eq y.offset (e.size y.object))

-- whether two pointers are equal
abbrev pub equal_pointers : Extent → Place → Place → Option Bool
equal_pointers e x y =
    if same_object x.object y.object then Some (nat_eq x.offset y.offset) else
    if e.lives x.object && e.lives y.object && not (may_touch e x y) then Some false else None

abbrev pub in_one_object : Place → Place → Value → Option Value
in_one_object x y v = if same_object x.object y.object then Some v else None

-- < and its like by the places in one object, and - the distance there
abbrev pub on_pointers : Extent → BinOp → IntTy → Place → Place → Option Value
on_pointers e Eq ty x y = option_map truth_value (equal_pointers e x y)
on_pointers e Ne ty x y = option_map (λ same. truth_value (not same)) (equal_pointers e x y)
on_pointers e Sub ty x y = in_one_object x y (Number (cut_to ty (pos x.offset -ℤ pos y.offset)))
on_pointers e Lt ty x y = in_one_object x y (truth_value (comparison Lt (pos x.offset) (pos y.offset)))
on_pointers e Gt ty x y = in_one_object x y (truth_value (comparison Gt (pos x.offset) (pos y.offset)))
on_pointers e Le ty x y = in_one_object x y (truth_value (comparison Le (pos x.offset) (pos y.offset)))
on_pointers e Ge ty x y = in_one_object x y (truth_value (comparison Ge (pos x.offset) (pos y.offset)))
on_pointers e _ ty x y = None

-- a pointer isn't null
abbrev pub with_null : ℤ → Bool → Option Value
with_null n answer = if int_eq n (pos 0) then Some (truth_value answer) else None

-- a pointer and a number, and a number and a pointer
abbrev pub pointer_number : Extent → BinOp → Place → ℤ → Option Value
pointer_number e Add x n = moved e x.object (pos x.offset +ℤ n)
pointer_number e Sub x n = moved e x.object (pos x.offset -ℤ n)
pointer_number e Eq x n = with_null n false
pointer_number e Ne x n = with_null n true
pointer_number e _ x n = None

abbrev pub number_pointer : Extent → BinOp → ℤ → Place → Option Value
number_pointer e Sub n x = None
number_pointer e op n x = pointer_number e op x n

-- What a binary operator gives of two values of a type.
unfoldable pub binary_value : Extent → BinOp → IntTy → Value → Value → Option Value
binary_value e op ty (Number a) (Number b) = option_map Number (outcome op a b)
binary_value e op ty (Pointer x) (Number b) = pointer_number e op x b.number
binary_value e op ty (Number a) (Pointer y) = number_pointer e op a.number y
binary_value e op ty (Pointer x) (Pointer y) = on_pointers e op ty x y

-- Of a shift's count the lowest byte is read.
abbrev pub right_type : BinOp → IntTy → IntTy
right_type op ty = if shifts op then UChar else ty
