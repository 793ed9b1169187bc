-- When types are the same, and what a type is: questions that the typing rules ask.
use Rattle.std.specs.Prelude.{ℕ, nat_eq, Bool, true, false, not, ◌&&◌, ◌||◌, List, [], ◌∷◌, Option, Some, None, slice_get}
use Rattle.c_ints.specs.Conversions.{promoted}
use Rattle.c_ints.specs.declared.types.IntTy.{IntTy}
use Rattle.c_ints.specs.declared.types.IntTy.TheVariants as int
use Rattle.c_typed.specs.Trees.{MemberTree, StructureTree, Program}
use Rattle.c_typed.specs.declared.types.Qualified.{Qualified}
use Rattle.c_typed.specs.declared.types.Ty.{Ty}
use Rattle.c_typed.specs.declared.types.Ty.TheVariants.{Void, Int, Pointer, Array, Struct}

-- the place of an integer type in their list
abbrev pub int_number : IntTy → ℕ
int_number int.Char = 0
int_number int.SChar = 1
int_number int.UChar = 2
int_number int.Short = 3
int_number int.UShort = 4
int_number int.Int = 5
int_number int.UInt = 6
int_number int.Long = 7
int_number int.ULong = 8

abbrev pub same_int : IntTy → IntTy → Bool
same_int a b = nat_eq (int_number a) (int_number b)

-- One type: the same integer type, pointers to one row, equal arrays, or one structure.
abbrev pub same_type : Ty → Ty → Bool
same_type Void Void = true
same_type (Int a) (Int b) = same_int a b
same_type (Pointer a) (Pointer b) = nat_eq a b
same_type (Array a m x) (Array b n y) = nat_eq a b && (nat_eq m n && nat_eq x y)
same_type (Struct a) (Struct b) = nat_eq a b
same_type _ _ = false

abbrev pub same_flag : Bool → Bool → Bool
same_flag true b = b
same_flag false b = not b

-- one type with the same qualifiers
abbrev pub same_qualified : Qualified → Qualified → Bool
same_qualified a b = same_type a.ty b.ty && (same_flag a.constant b.constant && same_flag a.volatile b.volatile)

abbrev pub is_void : Ty → Bool
is_void Void = true
is_void _ = false

abbrev pub is_int : Ty → Bool
is_int (Int ty) = true
is_int _ = false

abbrev pub is_pointer : Ty → Bool
is_pointer (Pointer row) = true
is_pointer _ = false

abbrev pub is_array : Ty → Bool
is_array (Array element count size) = true
is_array _ = false

abbrev pub is_struct : Ty → Bool
is_struct (Struct number) = true
is_struct _ = false

-- an integer or a pointer (ISO/IEC 9899:1990, 6.1.2.5)
abbrev pub is_scalar : Ty → Bool
is_scalar ty = is_int ty || is_pointer ty

-- the type int
abbrev pub is_plain_int : Ty → Bool
is_plain_int ty = same_type ty (Int int.Int)

-- an integer type that promotion leaves as it is (6.2.1.1)
abbrev pub is_promoted : Ty → Bool
is_promoted (Int ty) = same_int (promoted ty) ty
is_promoted _ = false

-- the type of an index: int or unsigned int
abbrev pub is_index : Ty → Bool
is_index ty = same_type ty (Int int.Int) || same_type ty (Int int.UInt)

-- what a type points to, if it is a pointer
abbrev pub pointed : Program → Ty → Option Qualified
pointed p (Pointer row) = slice_get p.targets row
pointed p _ = None

-- That type, with the qualifiers of what it is a part of.
abbrev pub part_of : Qualified → Option Qualified → Option Qualified
part_of whole None = None
part_of whole (Some t) = Some (record { ty = t.ty; constant = whole.constant; volatile = whole.volatile })

-- The type of an array's elements, which have the array's qualifiers (6.5.3).
abbrev pub element_of : Program → Qualified → Ty → Option Qualified
element_of p whole (Array element count size) = part_of whole (slice_get p.targets element)
element_of p whole _ = None

-- that type is there, and it is this one
abbrev pub is_the : Option Qualified → Qualified → Bool
is_the None ty = false
is_the (Some found) ty = same_qualified found ty

-- the members of a structure that is there
abbrev pub members_in : Option StructureTree → List MemberTree
members_in None = []
members_in (Some s) = s.members

abbrev pub members_of : Program → Ty → List MemberTree
members_of p (Struct number) = members_in (slice_get p.structures number)
members_of p _ = []

abbrev pub is_some_member : List MemberTree → Bool
is_some_member [] = false
is_some_member (m ∷ ms) = true

-- An object can have the type: it is no void, no array without a length, and no structure without a body (6.1.2.5).
abbrev pub is_complete : Program → Ty → Bool
is_complete p Void = false
is_complete p (Int ty) = true
is_complete p (Pointer row) = true
is_complete p (Array element count size) = not (nat_eq count 0)
is_complete p (Struct number) = is_some_member (members_of p (Struct number))
