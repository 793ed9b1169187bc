-- What is known of each part of a sound program: its typing rule holds, what it names is there, the functions that it calls are
-- called by the function that it stands in, and its numbers are of their types.
use Rattle.std.specs.Prelude.{◌≡◌, ℕ, ◌+◌, ◌<◌, ◌≤◌, Bool, true, false, List, [], ◌∷◌, length, Option, Some, None, slice_get}
use Rattle.std.specs.List.{All}
use Rattle.c_ints.specs.Range.{IsInRange}
use Rattle.c_typed.specs.Chains.{graph_of, Calls}
use Rattle.c_typed.specs.Fits.{rule_holds, place_rule_holds, Standing}
use Rattle.c_typed.specs.Sameness.{is_scalar, is_struct, is_promoted}
use Rattle.c_typed.specs.Sound.{lies_within, has_parts, default_fits, cases_fit, count_of, is_some_arm}
use Rattle.c_typed.specs.Trees as tree
use Rattle.c_typed.specs.Trees.{Expression, Expressions, Place, Item, Statement, Statements, Arm, Arms, LastArm, VariableTree, FunctionTree, StaticTree, Program}
use Rattle.c_typed.specs.Types.{type_bytes, type_of, place_type, item_start}
use Rattle.c_typed.specs.Words.{item_bytes}
use Rattle.c_typed.specs.declared.types.Ty.{Ty}
use Rattle.c_typed.specs.declared.types.Ty.TheVariants as types
use Rattle.src_values.specs.Objects.{function_at, bytes_of_variable, main_in, main_of, handler_in}

-- ---- expressions and places of the function of a number
-- the typing rule of an expression, where it stands
abbrev pub Obeys : Program → Expression → Type 0
Obeys p e = (standing : Standing) × (rule_holds p standing e ≡ true)

abbrev pub ObeysIn : Program → ℕ → Place → Type 0
ObeysIn p f place = place_rule_holds p (function_at p f) place ≡ true

-- an expression's value goes to an integer or a pointer of this type
abbrev pub GoesTo : Expression → Ty → Type 0
GoesTo e ty = (type_of e ≡ ty) × (is_scalar ty ≡ true)

abbrev mutual
  pub IsExpressionOf : Program → ℕ → Expression → Type 0
  IsExpressionOf p f (tree.Constant value line) = IsInRange value.ty value.number
  IsExpressionOf p f (tree.Read place ty line) = Obeys p (tree.Read place ty line) × IsPlaceOf p f place
  IsExpressionOf p f (tree.Address place ty line) = Obeys p (tree.Address place ty line) × IsPlaceOf p f place
  IsExpressionOf p f (tree.Convert operand ty line) = Obeys p (tree.Convert operand ty line) × IsExpressionOf p f operand
  IsExpressionOf p f (tree.Cast operand ty line) = Obeys p (tree.Cast operand ty line) × IsExpressionOf p f operand
  IsExpressionOf p f (tree.Unary op operand ty line) = Obeys p (tree.Unary op operand ty line) × IsExpressionOf p f operand
  IsExpressionOf p f (tree.Binary op left right ty line) = Obeys p (tree.Binary op left right ty line) × IsExpressionOf p f left × IsExpressionOf p f right
  IsExpressionOf p f (tree.Offset op left right size ty line) = Obeys p (tree.Offset op left right size ty line) × IsExpressionOf p f left × IsExpressionOf p f right
  IsExpressionOf p f (tree.Difference left right size line) = Obeys p (tree.Difference left right size line) × IsExpressionOf p f left × IsExpressionOf p f right
  IsExpressionOf p f (tree.Logical op left right line) = Obeys p (tree.Logical op left right line) × IsExpressionOf p f left × IsExpressionOf p f right
  IsExpressionOf p f (tree.Conditional condition chosen otherwise ty line) = Obeys p (tree.Conditional condition chosen otherwise ty line) × IsExpressionOf p f condition × IsExpressionOf p f chosen × IsExpressionOf p f otherwise
  IsExpressionOf p f (tree.Comma left right ty line) = Obeys p (tree.Comma left right ty line) × IsExpressionOf p f left × IsExpressionOf p f right
  IsExpressionOf p f (tree.Assign place value ty line) = Obeys p (tree.Assign place value ty line) × IsPlaceOf p f place × IsExpressionOf p f value
  IsExpressionOf p f (tree.StructAssign place from size line) = Obeys p (tree.StructAssign place from size line) × IsPlaceOf p f place × IsPlaceOf p f from
  IsExpressionOf p f (tree.Update op place value operation size ty line) = Obeys p (tree.Update op place value operation size ty line) × IsPlaceOf p f place × IsExpressionOf p f value
  IsExpressionOf p f (tree.Step op place operation size ty line) = Obeys p (tree.Step op place operation size ty line) × IsPlaceOf p f place
  IsExpressionOf p f (tree.Call g arguments ty line) = Calls (graph_of p) f g × (g < length p.functions) × ((function_at p g).result ≡ ty) × AreArgumentsOf p f arguments (function_at p g).params

  -- as many arguments as parameters, each one that goes to its parameter
  pub AreArgumentsOf : Program → ℕ → Expressions → List VariableTree → Type 0
  AreArgumentsOf p f tree.NoExpression vs = vs ≡ []
  AreArgumentsOf p f (tree.AndExpression e es) [] = ⊥
  AreArgumentsOf p f (tree.AndExpression e es) (v ∷ vs) = GoesTo e v.ty.ty × IsExpressionOf p f e × AreArgumentsOf p f es vs

  pub IsPlaceOf : Program → ℕ → Place → Type 0
  IsPlaceOf p f (tree.Name object ty line) = ObeysIn p f (tree.Name object ty line)
  IsPlaceOf p f (tree.Bit register number line) = ObeysIn p f (tree.Bit register number line)
  IsPlaceOf p f (tree.Member whole member offset ty line) = ObeysIn p f (tree.Member whole member offset ty line) × IsPlaceOf p f whole
  IsPlaceOf p f (tree.Deref pointer ty line) = ObeysIn p f (tree.Deref pointer ty line) × IsExpressionOf p f pointer

abbrev pub AnyIsOf : Program → ℕ → Option Expression → Type 0
AnyIsOf p f None = Unit {0}
AnyIsOf p f (Some e) = IsExpressionOf p f e

-- ---- conditions and first values
abbrev pub IsConditionOf : Program → ℕ → Expression → Type 0
IsConditionOf p f e = (is_scalar (type_of e) ≡ true) × IsExpressionOf p f e

abbrev pub AnyConditionIsOf : Program → ℕ → Option Expression → Type 0
AnyConditionIsOf p f None = Unit {0}
AnyConditionIsOf p f (Some e) = IsConditionOf p f e

-- how many bytes the local of a number has
abbrev pub local_bytes : Program → ℕ → ℕ → ℕ
local_bytes p f local = bytes_of_variable p.sizes (slice_get (function_at p f).locals local)

-- The local is there, and the value goes to its type.
pub record IsFirstOf (p : Program) (f local : ℕ) (e : Expression) : Type 0 where
  pub variable : VariableTree
  pub there : slice_get (function_at p f).locals local ≡ Some variable
  pub goes : GoesTo e variable.ty.ty
  pub value : IsExpressionOf p f e

abbrev pub IsItemOf : Program → ℕ → Item → Type 0
IsItemOf p f (tree.Scalar offset e) = (is_scalar (type_of e) ≡ true) × IsExpressionOf p f e
IsItemOf p f (tree.Struct offset from size) = (is_struct (place_type from).ty ≡ true) × (size ≡ type_bytes p.sizes (place_type from).ty) × IsPlaceOf p f from
IsItemOf p f (tree.Text offset text size) = (length text ≤ size) × All (λ n. n < 256) text

-- Items of an object of `size` bytes, from the byte `before` on.
abbrev pub AreItemsOf : Program → ℕ → ℕ → ℕ → List Item → Type 0
AreItemsOf p f size before [] = Unit {0}
AreItemsOf p f size before (item ∷ items) =
    (lies_within size before (item_start item) (item_bytes p.sizes item) ≡ true) × IsItemOf p f item × AreItemsOf p f size (item_start item + item_bytes p.sizes item) items

-- The local is there, and the items lie in it.
pub record IsListOf (p : Program) (f local : ℕ) (all : List Item) : Type 0 where
  pub variable : VariableTree
  pub there : slice_get (function_at p f).locals local ≡ Some variable
  pub parts : has_parts variable.ty.ty ≡ true
  pub fit : AreItemsOf p f (local_bytes p f local) 0 all

-- ---- statements
abbrev pub IsReturnOf : Program → ℕ → Option Expression → Type 0
IsReturnOf p f None = (function_at p f).result ≡ types.Void
IsReturnOf p f (Some e) = GoesTo e (function_at p f).result × IsExpressionOf p f e

abbrev mutual
  -- `declares` says that a statement stands in a block, as declarators do, `leaves` that it stands in a loop or a switch, and
  -- `repeats` that it stands in a loop.
  pub IsStatementOf : Program → ℕ → Bool → Bool → Bool → Statement → Type 0
  IsStatementOf p f declares leaves repeats (tree.Block ss line) = AreStatementsOf p f true leaves repeats ss
  IsStatementOf p f declares leaves repeats (tree.Empty line) = Unit {0}
  IsStatementOf p f declares leaves repeats (tree.Expr e line) = IsExpressionOf p f e
  IsStatementOf p f declares leaves repeats (tree.Declare local line) = (declares ≡ true) × (local < length (function_at p f).locals)
  IsStatementOf p f declares leaves repeats (tree.InitScalar local e line) = (declares ≡ true) × IsFirstOf p f local e
  IsStatementOf p f declares leaves repeats (tree.InitList local all line) = (declares ≡ true) × IsListOf p f local all
  IsStatementOf p f declares leaves repeats (tree.If chain otherwise line) = (is_some_arm chain ≡ true) × AreArmsOf p f leaves repeats chain × IsLastOf p f leaves repeats otherwise
  IsStatementOf p f declares leaves repeats (tree.Loop shape begin condition step body line) = AnyIsOf p f begin × AnyConditionIsOf p f condition × AnyIsOf p f step × IsStatementOf p f false true true body
  IsStatementOf p f declares leaves repeats (tree.Switch e cases default ss line) =
      (is_promoted (type_of e) ≡ true) × (cases_fit (type_of e) (count_of ss) cases ≡ true) × (default_fits (count_of ss) default ≡ true) × IsExpressionOf p f e × AreStatementsOf p f false true repeats ss
  IsStatementOf p f declares leaves repeats (tree.Break line) = leaves ≡ true
  IsStatementOf p f declares leaves repeats (tree.Continue line) = repeats ≡ true
  IsStatementOf p f declares leaves repeats (tree.Return value line) = IsReturnOf p f value

  pub AreStatementsOf : Program → ℕ → Bool → Bool → Bool → Statements → Type 0
  AreStatementsOf p f declares leaves repeats tree.NoStatement = Unit {0}
  AreStatementsOf p f declares leaves repeats (tree.AndStatement t ts) = IsStatementOf p f declares leaves repeats t × AreStatementsOf p f declares leaves repeats ts

  pub IsArmOf : Program → ℕ → Bool → Bool → Arm → Type 0
  IsArmOf p f leaves repeats (tree.OneArm condition chosen line) = IsConditionOf p f condition × IsStatementOf p f false leaves repeats chosen

  pub AreArmsOf : Program → ℕ → Bool → Bool → Arms → Type 0
  AreArmsOf p f leaves repeats tree.NoArm = Unit {0}
  AreArmsOf p f leaves repeats (tree.AndArm arm more) = IsArmOf p f leaves repeats arm × AreArmsOf p f leaves repeats more

  pub IsLastOf : Program → ℕ → Bool → Bool → LastArm → Type 0
  IsLastOf p f leaves repeats tree.NoLast = Unit {0}
  IsLastOf p f leaves repeats (tree.Last t) = IsStatementOf p f false leaves repeats t

-- ---- programs
-- What is known of a sound program: each function's body, and main and the handler, which have no result.
pub record IsRunnable (p : Program) : Type 0 where
  pub bodies : (f : ℕ) → f < length p.functions → AreStatementsOf p f true false false (function_at p f).body
  pub main : main_in p ≡ Some (main_of p)
  pub main_there : main_of p < length p.functions
  pub main_plain : (function_at p (main_of p)).result ≡ types.Void
  pub handler_there : (h : ℕ) → handler_in p ≡ Some h → h < length p.functions
  pub handler_plain : (h : ℕ) → handler_in p ≡ Some h → (function_at p h).result ≡ types.Void
