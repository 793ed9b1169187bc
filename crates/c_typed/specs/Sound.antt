-- Whether statements, functions, static objects and structures fit, and what makes a program sound.
use Rattle.std.specs.Prelude.{ℕ, suc, ◌+◌, ◌-◌, ◌*◌, nat_eq, nat_lt, nat_le, ℤ, int_le, Bool, true, false, not, ◌&&◌, ◌||◌, List, [], ◌∷◌, length, Option, Some, None, is_some, slice_get}
use Rattle.std.specs.List.{list_all}
use Rattle.c_typed.specs.Fits.{source_of, goes_to, fits, place_fits, Used, Alone}
use Rattle.c_typed.specs.Sameness.{same_type, is_void, is_array, is_struct, is_scalar, is_promoted, is_some_member, is_complete}
use Rattle.c_typed.specs.Trees as tree
use Rattle.c_typed.specs.Trees.{Expression, Place, Item, Statement, Statements, Arm, Arms, LastArm, VariableTree, StaticTree, FunctionTree, MemberTree, StructureTree, Program}
use Rattle.c_typed.specs.Types.{type_bytes, type_of, place_type, item_start, kept}
use Rattle.c_typed.specs.Words.{item_bytes}
use Rattle.c_typed.specs.declared.program.Initial.{Initial}
use Rattle.c_typed.specs.declared.program.InitialByte.{InitialByte}
use Rattle.c_typed.specs.declared.program.InitialByte.TheVariants as initial
use Rattle.c_typed.specs.declared.statement.LoopForm.{LoopForm}
use Rattle.c_typed.specs.declared.statement.LoopForm.TheVariants.{While, Do, For}
use Rattle.c_typed.specs.declared.statement.TCase.{TCase}
use Rattle.c_typed.specs.declared.types.Qualified.{Qualified}
use Rattle.c_typed.specs.declared.types.Ty.{Ty}
use Rattle.c_typed.specs.declared.types.Ty.TheVariants.{Void, Int, Pointer, Array, Struct}

-- an expression that may be left out
abbrev pub any_fits : Program → FunctionTree → Option Expression → Bool
any_fits p f None = true
any_fits p f (Some e) = fits p f Used e

-- A condition is an integer or a pointer (ISO/IEC 9899:1990, 6.6.4.1, 6.6.5).
abbrev pub condition_fits : Program → FunctionTree → Expression → Bool
condition_fits p f e = is_scalar (type_of e) && fits p f Used e

abbrev pub any_condition_fits : Program → FunctionTree → Option Expression → Bool
any_condition_fits p f None = true
any_condition_fits p f (Some e) = condition_fits p f e

-- A value goes to an object or a result of this type, and fits.
abbrev pub value_fits : Program → FunctionTree → Ty → Expression → Bool
value_fits p f ty e = goes_to p (source_of e) (type_of e) ty && fits p f Used e

-- A local is there.
abbrev pub local_is_there : FunctionTree → ℕ → Bool
local_is_there f local = is_some (slice_get f.locals local)

-- The first value of a local that is an integer or a pointer (6.5.7).
abbrev pub first_value_fits : Program → FunctionTree → Option VariableTree → Expression → Bool
first_value_fits p f None e = false
first_value_fits p f (Some v) e = value_fits p f v.ty.ty e

-- a structure of so many bytes
abbrev pub copied_item_fits : Program → FunctionTree → Place → ℕ → Bool
copied_item_fits p f from size = is_struct (place_type from).ty && (nat_eq size (type_bytes p.sizes (place_type from).ty) && place_fits p f from)

-- what an item gives: an integer or a pointer, a structure, or characters that have room (6.5.7)
abbrev pub item_fits : Program → FunctionTree → Item → Bool
item_fits p f (tree.Scalar offset value) = value_fits p f (type_of value) value
item_fits p f (tree.Struct offset from size) = copied_item_fits p f from size
item_fits p f (tree.Text offset bytes size) = nat_le (length bytes) size

-- Bytes from an offset on lie behind those before, and within an object.
abbrev pub lies_within : ℕ → ℕ → ℕ → ℕ → Bool
lies_within size before offset bytes = nat_le before offset && (nat_le offset size && nat_le bytes (size - offset))

-- The items of a local of `size` bytes, each behind the ones before it.
abbrev pub items_fit : Program → FunctionTree → ℕ → ℕ → List Item → Bool
items_fit p f size before [] = true
items_fit p f size before (item ∷ items) = lies_within size before (item_start item) (item_bytes p.sizes item) && (item_fits p f item && items_fit p f size (item_start item + item_bytes p.sizes item) items)

abbrev pub has_parts : Ty → Bool
has_parts ty = is_array ty || is_struct ty

-- A list or a string is the first value of an array or a structure.
abbrev pub list_fits : Program → FunctionTree → Option VariableTree → List Item → Bool
list_fits p f None items = false
list_fits p f (Some v) items = has_parts v.ty.ty && items_fit p f (type_bytes p.sizes v.ty.ty) 0 items

-- Only a `for` has expressions before and behind its body, and may have no condition (6.6.5).
abbrev pub loop_fits : LoopForm → Bool → Bool → Bool → Bool
loop_fits For begin condition step = true
loop_fits While begin condition step = condition && (not begin && not step)
loop_fits Do begin condition step = condition && (not begin && not step)

-- A label leads into the body or behind it.
abbrev pub default_fits : ℕ → Option ℕ → Bool
default_fits count None = true
default_fits count (Some target) = nat_le target count

-- one number
abbrev pub same_number : ℤ → ℤ → Bool
same_number a b = int_le a b && int_le b a

-- a label with this number
abbrev pub is_label : ℤ → List TCase → Bool
is_label number [] = false
is_label number (c ∷ cs) = same_number number c.value.number || is_label number cs

-- The labels of a switch are numbers of its type, no two of them equal, and lead into its body (6.6.4.2).
abbrev pub cases_fit : Ty → ℕ → List TCase → Bool
cases_fit ty count [] = true
cases_fit ty count (c ∷ cs) = same_type (Int c.value.ty) ty && (nat_le c.target count && (not (is_label c.value.number cs) && cases_fit ty count cs))

abbrev pub count_of : Statements → ℕ
count_of tree.NoStatement = 0
count_of (tree.AndStatement s ss) = suc (count_of ss)

-- `return` with a value that goes to the function's result, or without one in a function without a result (6.6.6.4).
abbrev pub return_fits : Program → FunctionTree → Option Expression → Bool
return_fits p f None = is_void f.result
return_fits p f (Some e) = value_fits p f f.result e

-- a switch looks at an integer of a promoted type (6.6.4.2)
abbrev pub switch_rule : Program → FunctionTree → Expression → Bool
switch_rule p f value = is_promoted (type_of value) && fits p f Used value

abbrev pub is_some_arm : Arms → Bool
is_some_arm tree.NoArm = false
is_some_arm (tree.AndArm arm arms) = true

unfoldable mutual
  -- A statement of a function fits; `declares` says that it stands in a block, as declarators do, `leaves` that it
  -- stands in a loop or a switch, `repeats` that it stands in a loop (6.6.2, 6.6.6.2, 6.6.6.3).
  pub statement_fits : Program → FunctionTree → Bool → Bool → Bool → Statement → Bool
  statement_fits p f declares leaves repeats (tree.Block statements line) = statements_fit p f true leaves repeats statements
  statement_fits p f declares leaves repeats (tree.Empty line) = true
  statement_fits p f declares leaves repeats (tree.Expr value line) = fits p f Alone value
  statement_fits p f declares leaves repeats (tree.Declare local line) = declares && local_is_there f local
  statement_fits p f declares leaves repeats (tree.InitScalar local value line) = declares && first_value_fits p f (slice_get f.locals local) value
  statement_fits p f declares leaves repeats (tree.InitList local items line) = declares && list_fits p f (slice_get f.locals local) items
  statement_fits p f declares leaves repeats (tree.If arms otherwise line) = is_some_arm arms && (arms_fit p f leaves repeats arms && last_fits p f leaves repeats otherwise)
  statement_fits p f declares leaves repeats (tree.Loop shape begin condition step body line) = loop_fits shape (is_some begin) (is_some condition) (is_some step) && (any_fits p f begin && (any_condition_fits p f condition && (any_fits p f step && statement_fits p f false true true body)))
  statement_fits p f declares leaves repeats (tree.Switch value cases default statements line) = switch_rule p f value && (cases_fit (type_of value) (count_of statements) cases && (default_fits (count_of statements) default && statements_fit p f false true repeats statements))
  statement_fits p f declares leaves repeats (tree.Break line) = leaves
  statement_fits p f declares leaves repeats (tree.Continue line) = repeats
  statement_fits p f declares leaves repeats (tree.Return value line) = return_fits p f value

  pub statements_fit : Program → FunctionTree → Bool → Bool → Bool → Statements → Bool
  statements_fit p f declares leaves repeats tree.NoStatement = true
  statements_fit p f declares leaves repeats (tree.AndStatement s ss) = statement_fits p f declares leaves repeats s && statements_fit p f declares leaves repeats ss

  pub arm_fits : Program → FunctionTree → Bool → Bool → Arm → Bool
  arm_fits p f leaves repeats (tree.OneArm condition chosen line) = condition_fits p f condition && statement_fits p f false leaves repeats chosen

  pub arms_fit : Program → FunctionTree → Bool → Bool → Arms → Bool
  arms_fit p f leaves repeats tree.NoArm = true
  arms_fit p f leaves repeats (tree.AndArm arm arms) = arm_fits p f leaves repeats arm && arms_fit p f leaves repeats arms

  pub last_fits : Program → FunctionTree → Bool → Bool → LastArm → Bool
  last_fits p f leaves repeats tree.NoLast = true
  last_fits p f leaves repeats (tree.Last s) = statement_fits p f false leaves repeats s

-- An array's elements have a row without qualifiers and a byte at least, and its size is that of its elements together.
abbrev pub array_is_there : Program → Option Qualified → ℕ → ℕ → Bool
array_is_there p None count size = false
array_is_there p (Some element) count size = not element.constant && (not element.volatile && (nat_lt 0 (type_bytes p.sizes element.ty) && nat_eq size (kept (count * type_bytes p.sizes element.ty))))

-- What a type is made of is there.
abbrev pub type_is_there : Program → Ty → Bool
type_is_there p Void = true
type_is_there p (Int ty) = true
type_is_there p (Pointer row) = is_some (slice_get p.targets row)
type_is_there p (Array element count size) = array_is_there p (slice_get p.targets element) count size
type_is_there p (Struct number) = is_some (slice_get p.structures number)

abbrev pub target_fits : Program → Qualified → Bool
target_fits p target = type_is_there p target.ty

-- An object has a complete type, and at most 65,535 bytes.
abbrev pub object_fits : Program → Ty → Bool
object_fits p ty = type_is_there p ty && (is_complete p ty && nat_le (type_bytes p.sizes ty) 65535)

-- Members stand one behind the other without padding, and fill the structure (6.5.2.1).
abbrev pub members_fit : Program → ℕ → ℕ → List MemberTree → Bool
members_fit p size before [] = nat_eq before size
members_fit p size before (m ∷ ms) = nat_eq m.offset before && (type_is_there p m.ty.ty && (is_complete p m.ty.ty && members_fit p size (kept (before + type_bytes p.sizes m.ty.ty)) ms))

-- A structure that has members has bytes: so none is a member of itself.
abbrev pub has_bytes : List MemberTree → ℕ → Bool
has_bytes members size = not (is_some_member members) || nat_lt 0 size

abbrev pub structure_fits : Program → StructureTree → Bool
structure_fits p s = has_bytes s.members s.size && members_fit p s.size 0 s.members

-- a static object that is there and isn't const: no pointer leads to a const one
abbrev pub is_changeable : Option StaticTree → Bool
is_changeable None = false
is_changeable (Some s) = not s.ty.constant

-- A first byte of a static object is a number, or byte 0 or 1 of the address of a static object that isn't const.
abbrev pub byte_fits : Program → InitialByte → Bool
byte_fits p (initial.Number number) = true
byte_fits p (initial.Address object byte) = is_changeable (slice_get p.statics object) && nat_lt byte 2

-- First bytes lie within the object, in rising order.
abbrev pub initial_fits : Program → ℕ → ℕ → List Initial → Bool
initial_fits p size before [] = true
initial_fits p size before (i ∷ is) = nat_le before i.offset && (nat_lt i.offset size && (byte_fits p i.byte && initial_fits p size (i.offset + 1) is))

abbrev pub static_fits : Program → StaticTree → Bool
static_fits p s = object_fits p s.ty.ty && initial_fits p (type_bytes p.sizes s.ty.ty) 0 s.initial

-- A parameter is an integer or a pointer, and a local any object; a result is one of the former or void.
abbrev pub param_fits : Program → VariableTree → Bool
param_fits p v = is_scalar v.ty.ty && type_is_there p v.ty.ty

abbrev pub local_fits : Program → VariableTree → Bool
local_fits p v = object_fits p v.ty.ty

abbrev pub result_fits : Program → Ty → Bool
result_fits p ty = (is_scalar ty || is_void ty) && type_is_there p ty

abbrev pub function_fits : Program → FunctionTree → Bool
function_fits p f = result_fits p f.result && (list_all (param_fits p) f.params && (list_all (local_fits p) f.locals && statements_fit p f true false false f.body))

-- What a node names is there, and its types fit.
abbrev pub is_sound : Program → Bool
is_sound p = list_all (target_fits p) p.targets && (list_all (structure_fits p) p.structures && (list_all (static_fits p) p.statics && list_all (function_fits p) p.functions))
