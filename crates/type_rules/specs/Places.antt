-- Operators on places: `* & [] . ->` and `sizeof` (ISO/IEC 9899:1990, 6.3.2 and 6.3.3).
use Rattle.std.specs.Prelude.{ℕ, suc, ◌%◌, Bool, true, false, not, ◌||◌, if◌then◌else◌, List, [], ◌∷◌, Option, Some, None}
use Rattle.std.specs.Str.{bytes_eq}
use Rattle.c_ints.specs.declared.types.IntTy.TheVariants as int
use Rattle.c_ints.specs.declared.operators.BinOp.TheVariants as binop
use Rattle.c_typed.specs.Sameness.{is_array}
use Rattle.c_typed.specs.Trees as typed
use Rattle.c_typed.specs.Trees.{Expression, Place}
use Rattle.c_typed.specs.Types.{type_of, place_type}
use Rattle.c_typed.specs.declared.types.Qualified.{Qualified}
use Rattle.c_typed.specs.declared.types.Ty.{Ty}
use Rattle.c_typed.specs.declared.types.Ty.TheVariants.{Pointer, Struct}
use Rattle.type_rules.specs.Faults as kind
use Rattle.type_rules.specs.Known.{Field, Known, Rule, given, broken, known_here, tried, wanted, ◌>>=◌}
use Rattle.type_rules.specs.Rows.{target_of, pointer_to, bytes_of, is_complete, fields_of}
use Rattle.type_rules.specs.Terms.{Reach, by_pointer, Form, ValueForm, PlaceForm, FunctionForm, TypeForm, Term, Operand, side_of, value_term, place_term, as_term, number_of_type, no_table, indexed, used, is_addressable, first_into}
use Rattle.type_rules.specs.Conversions.{converted}
use Rattle.type_rules.specs.Operations.{Operation, operation_of}

-- ---- `*`: of a pointer to an object type that isn't void (6.3.3.2)

abbrev pub pointed_type : Known → Ty → Option Qualified
pointed_type known (Pointer row) = Some (target_of known row)
pointed_type known _ = None

-- what a pointer leads to, if an object can have its type
abbrev pub if_complete : Known → Option Qualified → Option Qualified
if_complete known None = None
if_complete known (Some ty) = if is_complete known ty.ty then Some ty else None

abbrev pub object_pointed : Known → Ty → Option Qualified
object_pointed known ty = if_complete known (pointed_type known ty)

-- An element of an array that isn't reached through a pointer is a part of that array.
abbrev pub reach_behind : Option Reach → Reach
reach_behind None = by_pointer
reach_behind (Some reach) = reach

abbrev pub dereference : Operand → ℕ → Rule Term
dereference x line = do
  known ← known_here
  ty ← wanted kind.Operand line (object_pointed known (type_of x.value))
  given (place_term (typed.Deref x.value ty line) (reach_behind x.into) line)

-- ---- `e[i]`, which is `*(e + i)` (6.3.2.1)

-- What stands before `[`: an array stays a place, so that a const one can be indexed.
abbrev pub keeps_place : Form → Bool
keeps_place (PlaceForm place reach) = is_array (place_type place).ty
keeps_place _ = false

abbrev pub before_index : Term → Rule Term
before_index t =
    if keeps_place t.form then given t
    else (do
      x ← used t
      given (as_term x))

abbrev pub element_at : Operand → Operand → Operation → Qualified → ℕ → Term
element_at x y found ty line = place_term (typed.Deref (typed.Offset binop.Add (converted x found.left) (converted y found.right) found.size found.ty line) ty line) (reach_behind (first_into x.into y.into)) line

abbrev pub element : Term → Term → Rule Term
element whole index = do
  x ← indexed whole
  y ← indexed index
  known ← known_here
  found ← wanted kind.Operand whole.start (operation_of known binop.Add (side_of x) (side_of y))
  ty ← wanted kind.Operand whole.start (pointed_type known found.ty)
  given (element_at x y found ty whole.start)

-- ---- `&` of an addressable place (6.3.3.2)

abbrev pub address_of : Form → ℕ → Rule Term
address_of (PlaceForm place reach) line = do
  _ ← tried ((not (is_addressable place reach), kind.Address) ∷ []) line
  ty ← pointer_to (place_type place)
  given (value_term (typed.Address place ty line) line)
address_of _ line = broken kind.Address line

abbrev pub address : Term → ℕ → Rule Term
address t line = do
  _ ← no_table t
  address_of t.form line

-- ---- `.` and `->` (6.3.2.3)

-- the number of a member, and the member
abbrev pub member_from : List (List ℕ × Field) → List ℕ → ℕ → Option (ℕ × Field)
member_from [] name before = None
member_from (m ∷ ms) name before = if bytes_eq m.0 name then Some (before, m.1) else member_from ms name (suc before)

abbrev pub member_in : Known → Ty → List ℕ → Option (ℕ × Field)
member_in known (Struct number) name = member_from (fields_of known number) name 0
member_in known _ name = None

-- a member has its own qualifiers and those of the whole
abbrev pub part_type : Qualified → Qualified → Qualified
part_type whole part = record part { constant = part.constant || whole.constant; volatile = part.volatile || whole.volatile }

abbrev pub member_of : Form → List ℕ → ℕ → Rule Term
member_of (PlaceForm place reach) name line = do
  known ← known_here
  found ← wanted kind.Member line (member_in known (place_type place).ty name)
  given (place_term (typed.Member place found.0 (found.1).offset (part_type (place_type place) (found.1).ty) line) reach line)
member_of _ name line = broken kind.Member line

abbrev pub member : Term → List ℕ → ℕ → Rule Term
member t name line = do
  _ ← no_table t
  member_of t.form name line

-- `e->m` is `(*e).m`.
abbrev pub pointed_member : Operand → List ℕ → ℕ → Rule Term
pointed_member x name line = do
  known ← known_here
  _ ← wanted kind.Member line (object_pointed known (type_of x.value))
  whole ← dereference x line
  member whole name line

-- ---- `sizeof` (6.3.3.4): an unsigned int, which is the rest of a size that is too large

abbrev pub size_of_type : Ty → ℕ → Rule Term
size_of_type ty line = do
  known ← known_here
  _ ← tried ((not (is_complete known ty), kind.Incomplete) ∷ []) line
  given (value_term (number_of_type int.UInt (bytes_of known ty % 65536) line) line)

abbrev pub is_bit : Place → Bool
is_bit (typed.Bit register bit line) = true
is_bit _ = false

-- the type of what is measured: no bit, no function and no type
abbrev pub measured : Form → Option Ty
measured (ValueForm value) = Some (type_of value)
measured (PlaceForm place reach) = if is_bit place then None else Some (place_type place).ty
measured (FunctionForm number bare) = None
measured TypeForm = None

abbrev pub size_of_term : Term → ℕ → Rule Term
size_of_term t line = do
  known ← known_here
  ty ← wanted kind.Operand line (measured t.form)
  size_of_type ty line
