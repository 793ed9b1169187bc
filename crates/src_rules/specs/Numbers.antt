-- Programs whose numbers are of their types: each constant, and each label of a switch, is one that its type holds, and the bytes that
-- static objects begin with and the characters of strings are bytes. The tree of a program that was checked has no others; a program as pure data might.
use Rattle.std.specs.Prelude.{◌≡◌, ℕ, ◌<◌, List, [], ◌∷◌, Option, Some, None, slice_get}
use Rattle.std.specs.List.{All}
use Rattle.c_ints.specs.Range.{IsInRange}
use Rattle.c_typed.specs.Trees as tree
use Rattle.c_typed.specs.Trees.{Expression, Expressions, Place, Item, Statement, Statements, Arm, Arms, LastArm, FunctionTree, StaticTree, Program}
use Rattle.c_typed.specs.declared.program.Initial.{Initial}
use Rattle.c_typed.specs.declared.program.InitialByte.{InitialByte}
use Rattle.c_typed.specs.declared.program.InitialByte.TheVariants as initial
use Rattle.c_typed.specs.declared.statement.TCase.{TCase}

abbrev mutual
  pub HasNumbers : Expression → Type 0
  HasNumbers (tree.Constant value line) = IsInRange value.ty value.number
  HasNumbers (tree.Read place ty line) = PlaceHasNumbers place
  HasNumbers (tree.Address place ty line) = PlaceHasNumbers place
  HasNumbers (tree.Convert operand ty line) = HasNumbers operand
  HasNumbers (tree.Cast operand ty line) = HasNumbers operand
  HasNumbers (tree.Unary op operand ty line) = HasNumbers operand
  HasNumbers (tree.Binary op left right ty line) = HasNumbers left × HasNumbers right
  HasNumbers (tree.Offset op left right size ty line) = HasNumbers left × HasNumbers right
  HasNumbers (tree.Difference left right size line) = HasNumbers left × HasNumbers right
  HasNumbers (tree.Logical op left right line) = HasNumbers left × HasNumbers right
  HasNumbers (tree.Conditional condition chosen otherwise ty line) = HasNumbers condition × HasNumbers chosen × HasNumbers otherwise
  HasNumbers (tree.Comma left right ty line) = HasNumbers left × HasNumbers right
  HasNumbers (tree.Assign place value ty line) = PlaceHasNumbers place × HasNumbers value
  HasNumbers (tree.StructAssign place from size line) = PlaceHasNumbers place × PlaceHasNumbers from
  HasNumbers (tree.Update op place value operation size ty line) = PlaceHasNumbers place × HasNumbers value
  HasNumbers (tree.Step op place operation size ty line) = PlaceHasNumbers place
  HasNumbers (tree.Call function arguments ty line) = AllHaveNumbers arguments

  pub AllHaveNumbers : Expressions → Type 0
  AllHaveNumbers tree.NoExpression = Unit {0}
  AllHaveNumbers (tree.AndExpression e es) = HasNumbers e × AllHaveNumbers es

  pub PlaceHasNumbers : Place → Type 0
  PlaceHasNumbers (tree.Name object ty line) = Unit {0}
  PlaceHasNumbers (tree.Bit register number line) = Unit {0}
  PlaceHasNumbers (tree.Member whole member offset ty line) = PlaceHasNumbers whole
  PlaceHasNumbers (tree.Deref pointer ty line) = HasNumbers pointer

abbrev pub AnyHasNumbers : Option Expression → Type 0
AnyHasNumbers None = Unit {0}
AnyHasNumbers (Some e) = HasNumbers e

abbrev pub ItemsHaveNumbers : List Item → Type 0
ItemsHaveNumbers [] = Unit {0}
ItemsHaveNumbers (tree.Scalar offset e ∷ items) = HasNumbers e × ItemsHaveNumbers items
ItemsHaveNumbers (tree.Struct offset from size ∷ items) = PlaceHasNumbers from × ItemsHaveNumbers items
ItemsHaveNumbers (tree.Text offset text size ∷ items) = All (λ n. n < 256) text × ItemsHaveNumbers items

abbrev pub CasesHaveNumbers : List TCase → Type 0
CasesHaveNumbers [] = Unit {0}
CasesHaveNumbers (c ∷ cs) = IsInRange c.value.ty c.value.number × CasesHaveNumbers cs

abbrev mutual
  pub StatementHasNumbers : Statement → Type 0
  StatementHasNumbers (tree.Block ss line) = StatementsHaveNumbers ss
  StatementHasNumbers (tree.Empty line) = Unit {0}
  StatementHasNumbers (tree.Expr e line) = HasNumbers e
  StatementHasNumbers (tree.Declare local line) = Unit {0}
  StatementHasNumbers (tree.InitScalar local e line) = HasNumbers e
  StatementHasNumbers (tree.InitList local items line) = ItemsHaveNumbers items
  StatementHasNumbers (tree.If chain otherwise line) = ArmsHaveNumbers chain × LastHasNumbers otherwise
  StatementHasNumbers (tree.Loop shape begin condition step body line) = AnyHasNumbers begin × AnyHasNumbers condition × AnyHasNumbers step × StatementHasNumbers body
  StatementHasNumbers (tree.Switch e cases default ss line) = HasNumbers e × CasesHaveNumbers cases × StatementsHaveNumbers ss
  StatementHasNumbers (tree.Break line) = Unit {0}
  StatementHasNumbers (tree.Continue line) = Unit {0}
  StatementHasNumbers (tree.Return value line) = AnyHasNumbers value

  pub StatementsHaveNumbers : Statements → Type 0
  StatementsHaveNumbers tree.NoStatement = Unit {0}
  StatementsHaveNumbers (tree.AndStatement t ts) = StatementHasNumbers t × StatementsHaveNumbers ts

  pub ArmHasNumbers : Arm → Type 0
  ArmHasNumbers (tree.OneArm condition chosen line) = HasNumbers condition × StatementHasNumbers chosen

  pub ArmsHaveNumbers : Arms → Type 0
  ArmsHaveNumbers tree.NoArm = Unit {0}
  ArmsHaveNumbers (tree.AndArm arm more) = ArmHasNumbers arm × ArmsHaveNumbers more

  pub LastHasNumbers : LastArm → Type 0
  LastHasNumbers tree.NoLast = Unit {0}
  LastHasNumbers (tree.Last t) = StatementHasNumbers t

abbrev pub IsInitialByte : InitialByte → Type 0
IsInitialByte (initial.Number n) = n < 256
IsInitialByte (initial.Address object byte) = Unit {0}

abbrev pub InitialsHaveNumbers : List Initial → Type 0
InitialsHaveNumbers [] = Unit {0}
InitialsHaveNumbers (i ∷ is) = IsInitialByte i.byte × InitialsHaveNumbers is

pub record ProgramHasNumbers (p : Program) : Type 0 where
  pub bodies : (f : ℕ) (function : FunctionTree) → slice_get p.functions f ≡ Some function → StatementsHaveNumbers function.body
  pub statics : (n : ℕ) (static : StaticTree) → slice_get p.statics n ≡ Some static → InitialsHaveNumbers static.initial
