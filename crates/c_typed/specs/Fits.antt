-- Whether an expression fits: what it names is there with its declared type, and at each node the typing rules hold.
use Rattle.std.specs.Prelude.{ℕ, nat_eq, nat_lt, Bool, true, false, not, ◌&&◌, ◌||◌, if◌then◌else◌, List, [], ◌∷◌, Option, Some, None, is_some, slice_get}
use Rattle.std.specs.Option.{option_map}
use Rattle.c_ints.specs.declared.operators.BinOp.{BinOp}
use Rattle.c_ints.specs.declared.operators.BinOp.TheVariants as binop
use Rattle.c_ints.specs.declared.types.IntTy.TheVariants as int
use Rattle.c_typed.specs.Rules.{read_fits, address_fits, start_fits, keeps, convert_fits, cast_fits, unary_fits, binary_fits, offset_fits, difference_fits, logical_fits, choice_fits, assign_fits, copy_fits, update_fits, step_fits, member_fits, deref_fits, is_zero}
use Rattle.c_typed.specs.Sameness.{same_type, same_flag, same_qualified, is_pointer, is_scalar, pointed, members_of}
use Rattle.c_typed.specs.Trees as tree
use Rattle.c_typed.specs.Trees.{Expression, Expressions, Place, MemberTree, VariableTree, StaticTree, FunctionTree, Program}
use Rattle.c_typed.specs.Types.{type_of, place_type}
use Rattle.c_typed.specs.declared.expression.Object.{Object}
use Rattle.c_typed.specs.declared.expression.Object.TheVariants as object
use Rattle.c_typed.specs.declared.types.Qualified.{Qualified}
use Rattle.c_typed.specs.declared.types.Ty.{Ty}
use Rattle.c_typed.specs.declared.types.Ty.TheVariants.{Int, Array}
use Rattle.pic_world.specs.Registers.{name_at}

-- Where an expression stands, as far as the typing rules ask: where its value is used; after `*`, or as the address
-- that an index makes; as an operand of a sum after `*`, where an index counts from; as a statement.
pub data Standing : Type 0 where
  Used : Standing
  Pointed : Standing
  Indexed : Standing
  Alone : Standing

-- A null constant: the constant 0, cast to a pointer type or not (6.2.2.3).
unfoldable pub is_null : Expression → Bool
is_null (tree.Constant value line) = is_zero value.number
is_null (tree.Read place ty line) = false
is_null (tree.Address place ty line) = false
is_null (tree.Convert operand ty line) = false
is_null (tree.Cast operand ty line) = is_pointer ty && is_null operand
is_null (tree.Unary op operand ty line) = false
is_null (tree.Binary op left right ty line) = false
is_null (tree.Offset op left right size ty line) = false
is_null (tree.Difference left right size line) = false
is_null (tree.Logical op left right line) = false
is_null (tree.Conditional condition chosen otherwise ty line) = false
is_null (tree.Comma left right ty line) = false
is_null (tree.Assign place value ty line) = false
is_null (tree.StructAssign place from size line) = false
is_null (tree.Update op place value operation size ty line) = false
is_null (tree.Step op place operation size ty line) = false
is_null (tree.Call function arguments ty line) = false

-- What a Convert node converts, by its type; a null constant drops no qualifier.
abbrev pub source : Bool → Ty → Option Ty
source true ty = None
source false ty = Some ty

unfoldable pub source_of : Expression → Option Ty
source_of (tree.Constant value line) = None
source_of (tree.Read place ty line) = None
source_of (tree.Address place ty line) = None
source_of (tree.Convert operand ty line) = source (is_null operand) (type_of operand)
source_of (tree.Cast operand ty line) = None
source_of (tree.Unary op operand ty line) = None
source_of (tree.Binary op left right ty line) = None
source_of (tree.Offset op left right size ty line) = None
source_of (tree.Difference left right size line) = None
source_of (tree.Logical op left right line) = None
source_of (tree.Conditional condition chosen otherwise ty line) = None
source_of (tree.Comma left right ty line) = None
source_of (tree.Assign place value ty line) = None
source_of (tree.StructAssign place from size line) = None
source_of (tree.Update op place value operation size ty line) = None
source_of (tree.Step op place operation size ty line) = None
source_of (tree.Call function arguments ty line) = None

-- A value that was converted without a cast. It isn't converted so again.
unfoldable pub is_converted : Expression → Bool
is_converted (tree.Constant value line) = false
is_converted (tree.Read place ty line) = false
is_converted (tree.Address place ty line) = false
is_converted (tree.Convert operand ty line) = true
is_converted (tree.Cast operand ty line) = false
is_converted (tree.Unary op operand ty line) = false
is_converted (tree.Binary op left right ty line) = false
is_converted (tree.Offset op left right size ty line) = false
is_converted (tree.Difference left right size line) = false
is_converted (tree.Logical op left right line) = false
is_converted (tree.Conditional condition chosen otherwise ty line) = false
is_converted (tree.Comma left right ty line) = false
is_converted (tree.Assign place value ty line) = false
is_converted (tree.StructAssign place from size line) = false
is_converted (tree.Update op place value operation size ty line) = false
is_converted (tree.Step op place operation size ty line) = false
is_converted (tree.Call function arguments ty line) = false

-- A pointer that becomes one of another type drops no qualifier of its target (6.3.16.1).
abbrev pub keeps_from : Program → Option Ty → Ty → Bool
keeps_from p None to = true
keeps_from p (Some from) to = not (is_pointer to) || keeps (pointed p from) (pointed p to)

-- A value goes to an integer or a pointer of the type, as an argument, an assigned value or a first value does (6.3.2.2,
-- 6.3.16.1, 6.5.7, 6.6.6.4).
abbrev pub goes_to : Program → Option Ty → Ty → Ty → Bool
goes_to p from value to = is_scalar to && (same_type value to && keeps_from p from to)

-- Of a choice's side only a null constant is converted to a pointer (6.3.15).
abbrev pub is_side : Option Ty → Ty → Bool
is_side None ty = true
is_side (Some from) ty = not (is_pointer ty)

-- both sides of a choice
abbrev pub sides_fit : Option Ty → Ty → Option Ty → Ty → Ty → Bool
sides_fit from chosen source otherwise ty = choice_fits chosen otherwise ty && (is_side from ty && is_side source ty)

-- an assignment of a value
abbrev pub assigned_fits : Program → Qualified → Option Ty → Ty → Ty → Bool
assigned_fits p place from value ty = assign_fits place ty && goes_to p from value ty

-- a register of the device, which is no place in memory that an address leads to
abbrev pub is_no_register : Object → Bool
is_no_register (object.Register number) = false
is_no_register (object.Static number) = true
is_no_register (object.Param number) = true
is_no_register (object.Local number) = true

abbrev pub is_memory : Place → Bool
is_memory (tree.Name object ty line) = is_no_register object
is_memory (tree.Bit register bit line) = false
is_memory (tree.Member whole member offset ty line) = true
is_memory (tree.Deref pointer ty line) = true

-- the name of a local
abbrev pub names_local : Object → Bool
names_local (object.Local number) = true
names_local (object.Register number) = false
names_local (object.Static number) = false
names_local (object.Param number) = false

abbrev pub is_local_name : Place → Bool
is_local_name (tree.Name object ty line) = names_local object
is_local_name (tree.Bit register bit line) = false
is_local_name (tree.Member whole member offset ty line) = false
is_local_name (tree.Deref pointer ty line) = false

-- how the elements of an array are reached that is no array, or is reached like that
abbrev pub if_array : Ty → Bool → Option Bool
if_array (Array element count size) reached = Some reached
if_array _ reached = None

abbrev pub first_reach : Option Bool → Option Bool → Bool
first_reach (Some reached) right = reached
first_reach None (Some reached) = reached
first_reach None None = true

unfoldable mutual
  -- A place is reached through a pointer; an element of an array that isn't reached through one is a part of that array.
  pub is_reached : Place → Bool
  is_reached (tree.Name object ty line) = false
  is_reached (tree.Bit register bit line) = false
  is_reached (tree.Member whole member offset ty line) = is_reached whole
  is_reached (tree.Deref pointer ty line) = reached_by pointer

  -- what an address leads to is reached through a pointer
  pub reached_by : Expression → Bool
  reached_by (tree.Constant value line) = true
  reached_by (tree.Read place ty line) = true
  reached_by (tree.Address place ty line) = true
  reached_by (tree.Convert operand ty line) = true
  reached_by (tree.Cast operand ty line) = true
  reached_by (tree.Unary op operand ty line) = true
  reached_by (tree.Binary op left right ty line) = true
  reached_by (tree.Offset op left right size ty line) = first_reach (array_reach left) (array_reach right)
  reached_by (tree.Difference left right size line) = true
  reached_by (tree.Logical op left right line) = true
  reached_by (tree.Conditional condition chosen otherwise ty line) = true
  reached_by (tree.Comma left right ty line) = true
  reached_by (tree.Assign place value ty line) = true
  reached_by (tree.StructAssign place from size line) = true
  reached_by (tree.Update op place value operation size ty line) = true
  reached_by (tree.Step op place operation size ty line) = true
  reached_by (tree.Call function arguments ty line) = true

  -- how the array is reached whose address this is, if it is that of an array
  pub array_reach : Expression → Option Bool
  array_reach (tree.Constant value line) = None
  array_reach (tree.Read place ty line) = None
  array_reach (tree.Address place ty line) = if_array (place_type place).ty (is_reached place)
  array_reach (tree.Convert operand ty line) = None
  array_reach (tree.Cast operand ty line) = None
  array_reach (tree.Unary op operand ty line) = None
  array_reach (tree.Binary op left right ty line) = None
  array_reach (tree.Offset op left right size ty line) = None
  array_reach (tree.Difference left right size line) = None
  array_reach (tree.Logical op left right line) = None
  array_reach (tree.Conditional condition chosen otherwise ty line) = None
  array_reach (tree.Comma left right ty line) = None
  array_reach (tree.Assign place value ty line) = None
  array_reach (tree.StructAssign place from size line) = None
  array_reach (tree.Update op place value operation size ty line) = None
  array_reach (tree.Step op place operation size ty line) = None
  array_reach (tree.Call function arguments ty line) = None

-- A register of the device, by the lowest address at which it is found (data sheet DS39582, register file map).
unfoldable pub is_device : ℕ → Bool
is_device register = is_some (name_at register)

-- It is a volatile unsigned char.
abbrev pub register_type : Qualified
register_type = record { ty = Int int.UChar; constant = false; volatile = true }

abbrev pub static_type : StaticTree → Qualified
static_type s = s.ty

abbrev pub variable_type : VariableTree → Qualified
variable_type v = v.ty

-- The type that an object is declared with, if it is there.
abbrev pub declared_type : Program → FunctionTree → Object → Option Qualified
declared_type p f (object.Static number) = option_map static_type (slice_get p.statics number)
declared_type p f (object.Param number) = option_map variable_type (slice_get f.params number)
declared_type p f (object.Local number) = option_map variable_type (slice_get f.locals number)
declared_type p f (object.Register number) = if is_device number then Some register_type else None

-- The type of an array before its list of first values has told its length (6.5.7).
abbrev pub is_open_array : ℕ → Ty → Bool
is_open_array a (Array b n y) = nat_eq a b && (nat_eq n 0 && nat_eq y 0)
is_open_array a _ = false

abbrev pub is_open : Ty → Ty → Bool
is_open (Array element count size) ty = is_open_array element ty
is_open _ ty = false

-- A name has the declared type; in its own list of first values a local array has it still without a length.
abbrev pub is_named : Bool → Option Qualified → Qualified → Bool
is_named local None ty = false
is_named local (Some declared) ty = same_qualified declared ty || (local && (is_open declared.ty ty.ty && (same_flag declared.constant ty.constant && same_flag declared.volatile ty.volatile)))

-- where an operand of a sum stands
abbrev pub operand_standing : Standing → BinOp → Standing
operand_standing Pointed binop.Add = Indexed
operand_standing _ _ = Used

abbrev pub is_indexed : Standing → Bool
is_indexed Indexed = true
is_indexed Used = false
is_indexed Pointed = false
is_indexed Alone = false

abbrev pub is_alone : Standing → Bool
is_alone Alone = true
is_alone Used = false
is_alone Pointed = false
is_alone Indexed = false

-- the member of a number, if a type is a structure with that many
abbrev pub member_at : Program → Ty → ℕ → Option MemberTree
member_at p ty number = slice_get (members_of p ty) number

-- An address: of a place, or of an array's first element.
abbrev pub leads_fits : Program → Standing → Bool → Bool → Qualified → Ty → Bool
leads_fits p standing memory reached place ty = address_fits p memory reached place ty || start_fits p (is_indexed standing) reached place ty

-- the function of a number returns the type
abbrev pub returns_type : Option FunctionTree → Ty → Bool
returns_type None ty = false
returns_type (Some g) ty = same_type g.result ty

abbrev pub params_of : Option FunctionTree → List VariableTree
params_of None = []
params_of (Some g) = g.params

abbrev pub no_params : List VariableTree → Bool
no_params [] = true
no_params (v ∷ vs) = false

-- The typing rule of a node, on the types of its parts: one line for each kind of expression.
unfoldable pub rule_holds : Program → Standing → Expression → Bool
rule_holds p standing (tree.Constant value line) = true
rule_holds p standing (tree.Read place ty line) = read_fits (place_type place) ty
rule_holds p standing (tree.Address place ty line) = leads_fits p standing (is_memory place) (is_reached place) (place_type place) ty
rule_holds p standing (tree.Convert operand ty line) = not (is_converted operand) && convert_fits p (is_null operand) (type_of operand) ty
rule_holds p standing (tree.Cast operand ty line) = cast_fits p (is_null operand) (type_of operand) ty
rule_holds p standing (tree.Unary op operand ty line) = unary_fits op (type_of operand) ty
rule_holds p standing (tree.Binary op left right ty line) = binary_fits p op (type_of left) (type_of right) ty
rule_holds p standing (tree.Offset op left right size ty line) = offset_fits p op (type_of left) (type_of right) size ty
rule_holds p standing (tree.Difference left right size line) = difference_fits p (type_of left) (type_of right) size
rule_holds p standing (tree.Logical op left right line) = logical_fits (type_of left) (type_of right)
rule_holds p standing (tree.Conditional condition chosen otherwise ty line) = is_scalar (type_of condition) && sides_fit (source_of chosen) (type_of chosen) (source_of otherwise) (type_of otherwise) ty
rule_holds p standing (tree.Comma left right ty line) = same_type (type_of right) ty
rule_holds p standing (tree.Assign place value ty line) = assigned_fits p (place_type place) (source_of value) (type_of value) ty
rule_holds p standing (tree.StructAssign place from size line) = copy_fits p (is_alone standing && is_local_name place) (place_type place) (place_type from) size
rule_holds p standing (tree.Update op place value operation size ty line) = update_fits p op (place_type place) (type_of value) operation size ty
rule_holds p standing (tree.Step op place operation size ty line) = step_fits p (place_type place) operation size ty
rule_holds p standing (tree.Call function arguments ty line) = returns_type (slice_get p.functions function) ty

-- The same for places.
unfoldable pub place_rule_holds : Program → FunctionTree → Place → Bool
place_rule_holds p f (tree.Name object ty line) = is_named (names_local object) (declared_type p f object) ty
place_rule_holds p f (tree.Bit register bit line) = is_device register && nat_lt bit 8
place_rule_holds p f (tree.Member whole member offset ty line) = member_fits (member_at p (place_type whole).ty member) (place_type whole) offset ty
place_rule_holds p f (tree.Deref pointer ty line) = deref_fits p (type_of pointer) ty

unfoldable mutual
  -- An expression of a function fits where it stands: its rule holds, and its parts fit.
  pub fits : Program → FunctionTree → Standing → Expression → Bool
  fits p f standing (tree.Constant value line) = rule_holds p standing (tree.Constant value line)
  fits p f standing (tree.Read place ty line) = rule_holds p standing (tree.Read place ty line) && place_fits p f place
  fits p f standing (tree.Address place ty line) = rule_holds p standing (tree.Address place ty line) && place_fits p f place
  fits p f standing (tree.Convert operand ty line) = rule_holds p standing (tree.Convert operand ty line) && fits p f Used operand
  fits p f standing (tree.Cast operand ty line) = rule_holds p standing (tree.Cast operand ty line) && fits p f Used operand
  fits p f standing (tree.Unary op operand ty line) = rule_holds p standing (tree.Unary op operand ty line) && fits p f Used operand
  fits p f standing (tree.Binary op left right ty line) = rule_holds p standing (tree.Binary op left right ty line) && (fits p f Used left && fits p f Used right)
  fits p f standing (tree.Offset op left right size ty line) = rule_holds p standing (tree.Offset op left right size ty line) && (fits p f (operand_standing standing op) left && fits p f (operand_standing standing op) right)
  fits p f standing (tree.Difference left right size line) = rule_holds p standing (tree.Difference left right size line) && (fits p f Used left && fits p f Used right)
  fits p f standing (tree.Logical op left right line) = rule_holds p standing (tree.Logical op left right line) && (fits p f Used left && fits p f Used right)
  fits p f standing (tree.Conditional condition chosen otherwise ty line) = rule_holds p standing (tree.Conditional condition chosen otherwise ty line) && (fits p f Used condition && (fits p f Used chosen && fits p f Used otherwise))
  fits p f standing (tree.Comma left right ty line) = rule_holds p standing (tree.Comma left right ty line) && (fits p f Used left && fits p f Used right)
  fits p f standing (tree.Assign place value ty line) = rule_holds p standing (tree.Assign place value ty line) && (place_fits p f place && fits p f Used value)
  fits p f standing (tree.StructAssign place from size line) = rule_holds p standing (tree.StructAssign place from size line) && (place_fits p f place && place_fits p f from)
  fits p f standing (tree.Update op place value operation size ty line) = rule_holds p standing (tree.Update op place value operation size ty line) && (place_fits p f place && fits p f Used value)
  fits p f standing (tree.Step op place operation size ty line) = rule_holds p standing (tree.Step op place operation size ty line) && place_fits p f place
  fits p f standing (tree.Call function arguments ty line) = rule_holds p standing (tree.Call function arguments ty line) && arguments_fit p f arguments (params_of (slice_get p.functions function))

  pub place_fits : Program → FunctionTree → Place → Bool
  place_fits p f (tree.Name object ty line) = place_rule_holds p f (tree.Name object ty line)
  place_fits p f (tree.Bit register bit line) = place_rule_holds p f (tree.Bit register bit line)
  place_fits p f (tree.Member whole member offset ty line) = place_rule_holds p f (tree.Member whole member offset ty line) && place_fits p f whole
  place_fits p f (tree.Deref pointer ty line) = place_rule_holds p f (tree.Deref pointer ty line) && fits p f Pointed pointer

  -- As many arguments as parameters, each one that goes to its parameter.
  pub arguments_fit : Program → FunctionTree → Expressions → List VariableTree → Bool
  arguments_fit p f tree.NoExpression vs = no_params vs
  arguments_fit p f (tree.AndExpression e es) [] = false
  arguments_fit p f (tree.AndExpression e es) (v ∷ vs) = goes_to p (source_of e) (type_of e) v.ty.ty && (fits p f Used e && arguments_fit p f es vs)
