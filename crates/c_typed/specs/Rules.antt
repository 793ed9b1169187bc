-- The typing rules at one node: which types its parts may have, and which type it has (ISO/IEC 9899:1990, 6.3). An
-- operand was brought to the type that the rule asks for by a Convert node, where it had another one.
use Rattle.std.specs.Prelude.{ℕ, nat_eq, ℤ, pos, int_le, Bool, true, false, not, ◌&&◌, ◌||◌, if◌then◌else◌, Option, Some, None, is_some}
use Rattle.c_ints.specs.Conversions.{promoted, common}
use Rattle.c_ints.specs.Operators.{compares, shifts}
use Rattle.c_ints.specs.declared.operators.BinOp.{BinOp}
use Rattle.c_ints.specs.declared.operators.BinOp.TheVariants as binop
use Rattle.c_ints.specs.declared.operators.UnOp.{UnOp}
use Rattle.c_ints.specs.declared.operators.UnOp.TheVariants as unop
use Rattle.c_ints.specs.declared.types.IntTy.TheVariants as int
use Rattle.c_typed.specs.Sameness.{same_int, same_type, same_flag, is_void, is_int, is_pointer, is_array, is_struct, is_scalar, is_plain_int, is_promoted, is_index, pointed, element_of, is_the, is_complete}
use Rattle.c_typed.specs.Trees.{MemberTree, Program}
use Rattle.c_typed.specs.Types.{type_bytes}
use Rattle.c_typed.specs.declared.types.Qualified.{Qualified}
use Rattle.c_typed.specs.declared.types.Ty.{Ty}
use Rattle.c_typed.specs.declared.types.Ty.TheVariants.{Int}

-- The value of a place: any but an array's (6.2.2.1).
abbrev pub read_fits : Qualified → Ty → Bool
read_fits place ty = same_type place.ty ty && not (is_array ty)

-- `&` of a place: a pointer to the place's type (6.3.3.2). The place is neither a register of the device nor a bit, and
-- it is no part of a const object, unless it is reached through a pointer.
abbrev pub address_fits : Program → Bool → Bool → Qualified → Ty → Bool
address_fits p is_memory reached place ty = is_the (pointed p ty) place && (is_memory && (reached || not place.constant))

-- An array that becomes a pointer to its first element (6.2.2.1). A const one may only be indexed, unless it is reached
-- through a pointer.
abbrev pub is_start : Program → Qualified → Ty → Option Qualified → Bool
is_start p place ty None = false
is_start p place ty (Some element) = is_the (pointed p ty) element

abbrev pub start_fits : Program → Bool → Bool → Qualified → Ty → Bool
start_fits p indexed reached place ty = is_start p place ty (element_of p place place.ty) && (indexed || (reached || not place.constant))

-- Pointers to one type, qualifiers aside, or one of them to void (6.3.16.1).
abbrev pub may_meet : Option Qualified → Option Qualified → Bool
may_meet None b = false
may_meet (Some a) None = false
may_meet (Some a) (Some b) = same_type a.ty b.ty || (is_void a.ty || is_void b.ty)

-- pointers to one type, qualifiers aside
abbrev pub point_alike : Option Qualified → Option Qualified → Bool
point_alike None b = false
point_alike (Some a) None = false
point_alike (Some a) (Some b) = same_type a.ty b.ty

-- no qualifier is dropped (6.3.16.1)
abbrev pub keeps : Option Qualified → Option Qualified → Bool
keeps None b = false
keeps (Some a) None = false
keeps (Some a) (Some b) = (not a.constant || b.constant) && (not a.volatile || b.volatile)

-- A conversion without a cast: between integers, of a null constant to a pointer, or between pointers of one target or
-- of which one is to void (6.2.1, 6.2.2.3). It stands only where the types differ.
abbrev pub convert_fits : Program → Bool → Ty → Ty → Bool
convert_fits p null from to = not (same_type from to) && ((is_int from && is_int to) || ((null && is_some (pointed p to)) || may_meet (pointed p from) (pointed p to)))

-- A cast: to void, from integer to integer, and to a pointer from a pointer or a null constant (6.3.4).
abbrev pub cast_fits : Program → Bool → Ty → Ty → Bool
cast_fits p null from to = is_void to || ((is_int from && is_int to) || (is_some (pointed p to) && (null || is_pointer from)))

-- `+ - ~` of a promoted integer, and `!` of an integer or a pointer (6.3.3.3).
abbrev pub unary_fits : UnOp → Ty → Ty → Bool
unary_fits unop.Bang from ty = is_scalar from && is_plain_int ty
unary_fits unop.Plus from ty = is_promoted from && same_type from ty
unary_fits unop.Minus from ty = is_promoted from && same_type from ty
unary_fits unop.Not from ty = is_promoted from && same_type from ty

-- An operator on integers (6.3.5 to 6.3.12): a shift has the type of its left operand; the operands of all others have
-- one type, which a comparison turns into int.
abbrev pub integers_fit : BinOp → Ty → Ty → Ty → Bool
integers_fit op left right ty =
    if shifts op then is_promoted left && (is_promoted right && same_type left ty) else
    is_promoted left && (same_type left right && (if compares op then is_plain_int ty else same_type left ty))

-- A comparison of two pointers to one type, qualifiers aside (6.3.8, 6.3.9).
abbrev pub pointers_fit : Program → BinOp → Ty → Ty → Ty → Bool
pointers_fit p op left right ty = compares op && (point_alike (pointed p left) (pointed p right) && is_plain_int ty)

abbrev pub binary_fits : Program → BinOp → Ty → Ty → Ty → Bool
binary_fits p op left right ty = if is_int left then integers_fit op left right ty else pointers_fit p op left right ty

-- what is pointed to can be counted in, and has so many bytes
abbrev pub counts_in : Program → Option Qualified → ℕ → Bool
counts_in p None size = false
counts_in p (Some t) size = is_complete p t.ty && nat_eq size (type_bytes p.sizes t.ty)

-- a pointer that an index moves by elements of so many bytes
abbrev pub moves : Program → Ty → Ty → ℕ → Ty → Bool
moves p pointer index size ty = is_index index && (counts_in p (pointed p pointer) size && same_type pointer ty)

-- A pointer plus an integer, an integer plus a pointer, or a pointer less an integer (6.3.6).
abbrev pub offset_fits : Program → BinOp → Ty → Ty → ℕ → Ty → Bool
offset_fits p binop.Add left right size ty = moves p left right size ty || moves p right left size ty
offset_fits p binop.Sub left right size ty = moves p left right size ty
offset_fits p _ left right size ty = false

-- The difference of two pointers to one type, qualifiers aside (6.3.6).
abbrev pub difference_fits : Program → Ty → Ty → ℕ → Bool
difference_fits p left right size = point_alike (pointed p left) (pointed p right) && counts_in p (pointed p left) size

-- `&&` and `||` of integers and pointers (6.3.13, 6.3.14).
abbrev pub logical_fits : Ty → Ty → Bool
logical_fits left right = is_scalar left && is_scalar right

-- The two sides of a choice: integers of one promoted type, pointers of one type, or both void (6.3.15).
abbrev pub choice_fits : Ty → Ty → Ty → Bool
choice_fits chosen otherwise ty = same_type chosen ty && (same_type otherwise ty && (is_promoted ty || (is_pointer ty || is_void ty)))

-- The left side of an assignment, `++` and `--`: neither const nor an array (6.3.16).
abbrev pub is_writable : Qualified → Bool
is_writable place = not place.constant && not (is_array place.ty)

-- an assignment's place and type
abbrev pub assign_fits : Qualified → Ty → Bool
assign_fits place ty = is_writable place && same_type place.ty ty

-- A structure goes to a structure of the same type. `begins` says that it is the first value of a const local too.
abbrev pub copy_fits : Program → Bool → Qualified → Qualified → ℕ → Bool
copy_fits p begins place from size = (begins || is_writable place) && (is_struct place.ty && (same_type place.ty from.ty && nat_eq size (type_bytes p.sizes place.ty)))

-- An update of an integer: a shift is done in the promoted type of the place, any other operator in the common type of
-- both sides, to which the value was brought (6.3.16.2).
abbrev pub integer_update_fits : BinOp → Ty → Ty → Ty → Bool
integer_update_fits op (Int ty) value (Int operation) =
    if shifts op then same_int operation (promoted ty) && is_promoted value else
    not (compares op) && (same_type value (Int operation) && same_int operation (common ty operation))
integer_update_fits op _ value _ = false

-- `+=` and `-=` on a pointer
abbrev pub moves_by : BinOp → Bool
moves_by binop.Add = true
moves_by binop.Sub = true
moves_by _ = false

abbrev pub update_fits : Program → BinOp → Qualified → Ty → Ty → ℕ → Ty → Bool
update_fits p op place value operation size ty =
    assign_fits place ty && ((nat_eq size 0 && integer_update_fits op ty value operation) || (moves_by op && (same_type operation ty && moves p ty value size ty)))

-- `++` and `--`: an integer counts in its common type with int, a pointer in elements (6.3.2.4, 6.3.3.1).
abbrev pub integer_step_fits : Ty → Ty → Bool
integer_step_fits (Int ty) (Int operation) = same_int operation (common ty int.Int)
integer_step_fits _ _ = false

abbrev pub step_fits : Program → Qualified → Ty → ℕ → Ty → Bool
step_fits p place operation size ty =
    assign_fits place ty && ((nat_eq size 0 && integer_step_fits ty operation) || (same_type operation ty && counts_in p (pointed p ty) size))

-- A member is there, at that place of its structure, and has its type with the qualifiers of the whole (6.3.2.3).
abbrev pub member_fits : Option MemberTree → Qualified → ℕ → Qualified → Bool
member_fits None whole offset ty = false
member_fits (Some m) whole offset ty =
    nat_eq m.offset offset && (same_type m.ty.ty ty.ty && (same_flag (m.ty.constant || whole.constant) ty.constant && same_flag (m.ty.volatile || whole.volatile) ty.volatile))

-- `*` of a pointer to an object type (6.3.3.2).
abbrev pub deref_fits : Program → Ty → Qualified → Bool
deref_fits p pointer ty = is_the (pointed p pointer) ty && is_complete p ty.ty

-- A number is 0.
abbrev pub is_zero : ℤ → Bool
is_zero n = int_le n (pos 0) && int_le (pos 0) n
