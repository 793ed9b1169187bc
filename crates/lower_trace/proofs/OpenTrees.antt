-- Which pointers may lead to const objects: addresses of parts of them, which are indexed at once, and what comes of that. No other
-- expression of a tree has such a value, and no such place is written.
use Rattle.std.specs.Prelude.{◌≡◌, Bool, true, false, ◌||◌, List, [], ◌∷◌, Option, Some, None}
use Rattle.std.proofs.Common.{◌⊎◌}
use Rattle.c_typed.specs.Fits.{is_local_name}
use Rattle.c_typed.specs.Trees as tree
use Rattle.c_typed.specs.Trees.{Expression, Expressions, Place, Item, Statement, Statements, Arm, Arms, LastArm}

abbrev mutual
  pub is_closed : Expression → Bool
  is_closed (tree.Constant value line) = false
  is_closed (tree.Read place ty line) = false
  is_closed (tree.Address place ty line) = closed_place place
  is_closed (tree.Convert operand ty line) = false
  is_closed (tree.Cast operand ty line) = false
  is_closed (tree.Unary op operand ty line) = false
  is_closed (tree.Binary op left right ty line) = false
  is_closed (tree.Offset op left right size ty line) = is_closed left || is_closed right
  is_closed (tree.Difference left right size line) = false
  is_closed (tree.Logical op left right line) = false
  is_closed (tree.Conditional condition chosen otherwise ty line) = false
  is_closed (tree.Comma left right ty line) = false
  is_closed (tree.Assign place value ty line) = false
  is_closed (tree.StructAssign place from size line) = false
  is_closed (tree.Update op place value operation size ty line) = false
  is_closed (tree.Step op place operation size ty line) = false
  is_closed (tree.Call function arguments ty line) = false

  pub closed_place : Place → Bool
  closed_place (tree.Name object ty line) = ty.constant
  closed_place (tree.Bit register bit line) = false
  closed_place (tree.Member whole member offset ty line) = closed_place whole
  closed_place (tree.Deref pointer ty line) = is_closed pointer

-- a structure is copied there: a const local may begin so
abbrev pub IsTarget : Place → Type 0
IsTarget place = (closed_place place ≡ false) ⊎ (is_local_name place ≡ true)

-- ---- expressions whose parts have open values, but for pointers that are indexed
abbrev mutual
  pub AllOpen : Expression → Type 0
  AllOpen (tree.Constant value line) = Unit {0}
  AllOpen (tree.Read place ty line) = PlaceOpen place
  AllOpen (tree.Address place ty line) = PlaceOpen place
  AllOpen (tree.Convert operand ty line) = (is_closed operand ≡ false) × AllOpen operand
  AllOpen (tree.Cast operand ty line) = (is_closed operand ≡ false) × AllOpen operand
  AllOpen (tree.Unary op operand ty line) = (is_closed operand ≡ false) × AllOpen operand
  AllOpen (tree.Binary op left right ty line) = ((is_closed left ≡ false) × AllOpen left) × ((is_closed right ≡ false) × AllOpen right)
  AllOpen (tree.Offset op left right size ty line) = AllOpen left × AllOpen right
  AllOpen (tree.Difference left right size line) = ((is_closed left ≡ false) × AllOpen left) × ((is_closed right ≡ false) × AllOpen right)
  AllOpen (tree.Logical op left right line) = ((is_closed left ≡ false) × AllOpen left) × ((is_closed right ≡ false) × AllOpen right)
  AllOpen (tree.Conditional condition chosen otherwise ty line) = ((is_closed condition ≡ false) × AllOpen condition) × ((is_closed chosen ≡ false) × AllOpen chosen) × ((is_closed otherwise ≡ false) × AllOpen otherwise)
  AllOpen (tree.Comma left right ty line) = ((is_closed left ≡ false) × AllOpen left) × ((is_closed right ≡ false) × AllOpen right)
  AllOpen (tree.Assign place value ty line) = (closed_place place ≡ false) × PlaceOpen place × ((is_closed value ≡ false) × AllOpen value)
  AllOpen (tree.StructAssign place from size line) = IsTarget place × PlaceOpen place × PlaceOpen from
  AllOpen (tree.Update op place value operation size ty line) = (closed_place place ≡ false) × PlaceOpen place × ((is_closed value ≡ false) × AllOpen value)
  AllOpen (tree.Step op place operation size ty line) = (closed_place place ≡ false) × PlaceOpen place
  AllOpen (tree.Call function arguments ty line) = AreOpen arguments

  pub AreOpen : Expressions → Type 0
  AreOpen tree.NoExpression = Unit {0}
  AreOpen (tree.AndExpression e es) = ((is_closed e ≡ false) × AllOpen e) × AreOpen es

  pub PlaceOpen : Place → Type 0
  PlaceOpen (tree.Name object ty line) = Unit {0}
  PlaceOpen (tree.Bit register bit line) = Unit {0}
  PlaceOpen (tree.Member whole member offset ty line) = PlaceOpen whole
  PlaceOpen (tree.Deref pointer ty line) = AllOpen pointer

-- an expression whose value is open too
abbrev pub UsedOpen : Expression → Type 0
UsedOpen e = (is_closed e ≡ false) × AllOpen e

abbrev pub AnyOpen : Option Expression → Type 0
AnyOpen None = Unit {0}
AnyOpen (Some e) = UsedOpen e

abbrev pub ItemsOpen : List Item → Type 0
ItemsOpen [] = Unit {0}
ItemsOpen (tree.Scalar offset e ∷ items) = UsedOpen e × ItemsOpen items
ItemsOpen (tree.Struct offset from size ∷ items) = PlaceOpen from × ItemsOpen items
ItemsOpen (tree.Text offset text size ∷ items) = ItemsOpen items

-- ---- statements
abbrev mutual
  pub StatementOpen : Statement → Type 0
  StatementOpen (tree.Block ss line) = StatementsOpen ss
  StatementOpen (tree.Empty line) = Unit {0}
  StatementOpen (tree.Expr e line) = UsedOpen e
  StatementOpen (tree.Declare local line) = Unit {0}
  StatementOpen (tree.InitScalar local e line) = UsedOpen e
  StatementOpen (tree.InitList local items line) = ItemsOpen items
  StatementOpen (tree.If chain otherwise line) = ArmsOpen chain × LastOpen otherwise
  StatementOpen (tree.Loop shape begin condition step body line) = AnyOpen begin × AnyOpen condition × AnyOpen step × StatementOpen body
  StatementOpen (tree.Switch e cases default ss line) = UsedOpen e × StatementsOpen ss
  StatementOpen (tree.Break line) = Unit {0}
  StatementOpen (tree.Continue line) = Unit {0}
  StatementOpen (tree.Return value line) = AnyOpen value

  pub StatementsOpen : Statements → Type 0
  StatementsOpen tree.NoStatement = Unit {0}
  StatementsOpen (tree.AndStatement t ts) = StatementOpen t × StatementsOpen ts

  pub ArmOpen : Arm → Type 0
  ArmOpen (tree.OneArm condition chosen line) = UsedOpen condition × StatementOpen chosen

  pub ArmsOpen : Arms → Type 0
  ArmsOpen tree.NoArm = Unit {0}
  ArmsOpen (tree.AndArm arm more) = ArmOpen arm × ArmsOpen more

  pub LastOpen : LastArm → Type 0
  LastOpen tree.NoLast = Unit {0}
  LastOpen (tree.Last t) = StatementOpen t
