-- What a stack holds, by any measure of the nodes of a tree: each node that waits lies in the one below it, and measures no more than that one has room for.
use Rattle.std.specs.Prelude.{◌≡◌, ℕ, ◌≤◌, max, true, List, [], ◌∷◌, ◌++◌, Option, Some}
use Rattle.c_typed.specs.Sound.{is_some_arm}
use Rattle.c_typed.specs.Trees as tree
use Rattle.c_typed.specs.Trees.{Expression, Expressions, Place, Item, Statement, Statements, Arm, Arms, LastArm, Program}
use Rattle.c_typed.specs.declared.types.Ty.{Ty}
use Rattle.src_rules.specs.Giving.{statements_behind}
use Rattle.src_rules.specs.State.{Outcome, Went, Undefined, Idle, Lost}
use Rattle.src_values.specs.Control as control
use Rattle.src_values.specs.Control.{Focus, Got, Nothing, Chosen, One, At, Args, Passed, Stage, Tests, Begins, Steps, Turns, Picks, InArm, AtItem, Items, Pending, In, To, Doing, Before, Returns, Resumes}
use Rattle.src_values.specs.Data.{Datum}
use Rattle.src_values.specs.Objects.{function_at}
use Rattle.src_values.specs.declared.objects.CopyOf.{CopyOf}

-- ---- how much a node measures with its parts
pub record Sizes : Type 0 where
  pub expression : Expression → ℕ
  pub place : Place → ℕ
  pub statement : Statement → ℕ
  pub list : Statements → ℕ
  -- an expression that may be left out
  pub any : Option Expression → ℕ

-- how much the part measures that is under way: of two that may be, the larger one
abbrev pub part_in : Sizes → Expression → Got → ℕ
part_in m (tree.Read place ty line) Nothing = m.place place
part_in m (tree.Address place ty line) Nothing = m.place place
part_in m (tree.Convert operand ty line) Nothing = m.expression operand
part_in m (tree.Cast operand ty line) Nothing = m.expression operand
part_in m (tree.Unary op operand ty line) Nothing = m.expression operand
part_in m (tree.Binary op left right ty line) Nothing = m.expression left
part_in m (tree.Binary op left right ty line) (One u) = m.expression right
part_in m (tree.Offset op left right size ty line) Nothing = m.expression left
part_in m (tree.Offset op left right size ty line) (One u) = m.expression right
part_in m (tree.Difference left right size line) Nothing = m.expression left
part_in m (tree.Difference left right size line) (One u) = m.expression right
part_in m (tree.Logical op left right line) Nothing = m.expression left
part_in m (tree.Logical op left right line) (One u) = m.expression right
part_in m (tree.Conditional condition chosen otherwise ty line) Nothing = m.expression condition
part_in m (tree.Conditional condition chosen otherwise ty line) Chosen = max (m.expression chosen) (m.expression otherwise)
part_in m (tree.Comma left right ty line) Nothing = m.expression left
part_in m (tree.Assign place value ty line) Nothing = m.place place
part_in m (tree.Assign place value ty line) (At spot) = m.expression value
part_in m (tree.StructAssign place from size line) Nothing = m.place place
part_in m (tree.StructAssign place from size line) (At spot) = m.place from
part_in m (tree.Update op place value operation size ty line) Nothing = m.place place
part_in m (tree.Update op place value operation size ty line) (At spot) = m.expression value
part_in m (tree.Step op place operation size ty line) Nothing = m.place place
part_in m _ _ = 0

abbrev pub part_to : Sizes → Place → ℕ
part_to m (tree.Member whole member offset ty line) = m.place whole
part_to m (tree.Deref pointer ty line) = m.expression pointer
part_to m _ = 0

abbrev pub part_for : Sizes → Statement → Stage → ℕ
part_for m (tree.Expr e line) Tests = m.expression e
part_for m (tree.InitScalar local e line) Tests = m.expression e
part_for m (tree.InitList local all line) (AtItem (tree.Scalar offset e) rest) = m.expression e
part_for m (tree.InitList local all line) (AtItem (tree.Struct offset from size) rest) = m.place from
part_for m (tree.If chain otherwise line) (Picks (tree.OneArm condition chosen at) more) = m.expression condition
part_for m (tree.Loop shape first condition each body line) Begins = m.any first
part_for m (tree.Loop shape first condition each body line) Tests = m.any condition
part_for m (tree.Loop shape first condition each body line) Steps = m.any each
part_for m (tree.Loop shape first condition each body line) Turns = m.statement body
part_for m (tree.Switch e cases default ss line) Tests = m.expression e
part_for m (tree.Switch e cases default ss line) Turns = m.list ss
part_for m (tree.Return value line) Tests = m.any value
part_for m _ _ = 0

-- ---- a measure
-- What a node has room for while a part of it is under way, and what is known of the parts that are left: of a call that has some
-- values, of an `if` behind some of its arms, and of a list.
pub record Measure : Type 1 where
  pub sizes : Sizes
  pub item_list : List Item → ℕ
  pub in_room : Expression → Got → ℕ
  pub to_room : Place → ℕ
  pub for_room : Statement → Stage → ℕ
  pub behind : ℕ → Statements → ℕ
  -- a call has these values and goes on with these arguments, or has one of them under way before these, or has all values
  pub IsReady : Expression → List Datum → Expressions → Type 0
  pub IsGiven : Expression → List Datum → Expressions → Type 0
  pub IsPassed : Expression → List Datum → Type 0
  -- an `if` of such arms goes on with these, or has the test of one under way before these, or has chosen one
  pub IsLeft : Arms → Arms → Type 0
  pub IsPicked : Arms → Arm → Arms → Type 0
  pub IsChosen : Arms → Type 0
  -- at any other stage of an `if` or of a declarator without a value
  pub Otherwise : Type 0

abbrev pub GotFits : Measure → Expression → Got → Type 0
GotFits m e (Args values more) = m.IsGiven e values more
GotFits m e (Passed values) = m.IsPassed e values
GotFits m e _ = Unit {0}

abbrev pub StageFits : Measure → Statement → Stage → Type 0
StageFits m (tree.If chain otherwise line) (Picks arm more) = m.IsPicked chain arm more
StageFits m (tree.If chain otherwise line) (InArm more) = m.IsChosen chain
StageFits m (tree.If chain otherwise line) _ = m.Otherwise
StageFits m (tree.Declare local line) _ = m.Otherwise
StageFits m (tree.InitList local all line) (AtItem item rest) = m.item_list (item ∷ rest) ≤ m.item_list all
StageFits m (tree.InitList local all line) (Items item rest) = m.item_list (item ∷ rest) ≤ m.item_list all
StageFits m _ _ = Unit {0}

-- ---- the laws of a measure: each part is within its node's room
pub record Laws (m : Measure) : Type 0 where
  pub in_part : (e : Expression) (got : Got) → part_in m.sizes e got ≤ m.in_room e got
  pub to_part : (place : Place) → part_to m.sizes place ≤ m.to_room place
  pub for_part : (t : Statement) (stage : Stage) → StageFits m t stage → part_for m.sizes t stage ≤ m.for_room t stage
  pub any_part : (e : Expression) → m.sizes.expression e ≤ m.sizes.any (Some e)
  pub comma : (left right : Expression) (ty : Ty) (line : ℕ) → m.sizes.expression right ≤ m.sizes.expression (tree.Comma left right ty line)
  pub block : (ss : Statements) (line : ℕ) → m.sizes.list ss ≤ m.sizes.statement (tree.Block ss line)
  pub next : (n : ℕ) (t : Statement) (ts : Statements) → m.sizes.list (tree.AndStatement t ts) ≤ n → (m.sizes.statement t ≤ m.behind n ts) × (m.sizes.list ts ≤ n)
  pub jumps : (n : ℕ) (ss : Statements) → m.sizes.list (statements_behind n ss) ≤ m.sizes.list ss
  pub item_next : (item : Item) (rest : List Item) → m.item_list rest ≤ m.item_list (item ∷ rest)
  -- calls
  pub call_begins : (g : ℕ) (all : Expressions) (ty : Ty) (line : ℕ) → m.IsReady (tree.Call g all ty line) [] all
  pub call_part : (g : ℕ) (all : Expressions) (ty : Ty) (line : ℕ) (values : List Datum) (e : Expression) (rest : Expressions) → m.IsReady (tree.Call g all ty line) values (tree.AndExpression e rest)
      → (m.sizes.expression e ≤ m.in_room (tree.Call g all ty line) (Args values rest)) × m.IsGiven (tree.Call g all ty line) values rest
  pub call_next : (g : ℕ) (all : Expressions) (ty : Ty) (line : ℕ) (values : List Datum) (v : Datum) (more : Expressions) → m.IsGiven (tree.Call g all ty line) values more → m.IsReady (tree.Call g all ty line) (values ++ v ∷ []) more
  pub call_ends : (g : ℕ) (all : Expressions) (ty : Ty) (line : ℕ) (values : List Datum) → m.IsReady (tree.Call g all ty line) values tree.NoExpression → m.IsPassed (tree.Call g all ty line) values
  -- chains of arms
  pub chain_begins : (chain : Arms) → m.IsLeft chain chain
  pub chain_part : (chain : Arms) (arm : Arm) (more : Arms) → m.IsLeft chain (tree.AndArm arm more) → m.IsPicked chain arm more
  pub chain_next : (chain : Arms) (arm : Arm) (more : Arms) → m.IsPicked chain arm more → m.IsLeft chain more
  pub chosen : (chain more : Arms) (condition : Expression) (t : Statement) (at line : ℕ) (otherwise : LastArm) → m.IsPicked chain (tree.OneArm condition t at) more
      → (m.sizes.statement t ≤ m.for_room (tree.If chain otherwise line) (InArm more)) × m.IsChosen chain
  pub otherwise : (chain : Arms) (t : Statement) (line : ℕ) → is_some_arm chain ≡ true → (m.sizes.statement t ≤ m.for_room (tree.If chain (tree.Last t) line) (InArm tree.NoArm)) × m.IsChosen chain

-- ---- a stack, where each copy has its measure
-- the room of what is on top
abbrev pub room : Program → (CopyOf → Measure) → CopyOf → List Pending → ℕ
room p m c [] = (m c).sizes.list (function_at p c.function).body
room p m c (In e got ∷ k) = (m c).in_room e got
room p m c (To place ∷ k) = (m c).to_room place
room p m c (Doing t stage ∷ k) = (m c).for_room t stage
room p m c (Before ss ∷ k) = (m c).behind (room p m c k) ss
room p m c (Returns d ∷ k) = (m c).sizes.list (function_at p c.function).body
room p m c (Resumes d x ∷ k) = (m c).sizes.list (function_at p c.function).body

abbrev pub FocusFits : Program → (CopyOf → Measure) → CopyOf → Focus → List Pending → Type 0
FocusFits p m c (control.Eval e) k = (m c).sizes.expression e ≤ room p m c k
FocusFits p m c (control.Find place) k = (m c).sizes.place place ≤ room p m c k
FocusFits p m c (control.Run t) k = (m c).sizes.statement t ≤ room p m c k
FocusFits p m c _ k = Unit {0}

abbrev pub Fits : Program → (CopyOf → Measure) → CopyOf → List Pending → Type 0
Fits p m c [] = Unit {0}
Fits p m c (In e got ∷ k) = ((m c).sizes.expression e ≤ room p m c k) × GotFits (m c) e got × Fits p m c k
Fits p m c (To place ∷ k) = ((m c).sizes.place place ≤ room p m c k) × Fits p m c k
Fits p m c (Doing t stage ∷ k) = ((m c).sizes.statement t ≤ room p m c k) × StageFits (m c) t stage × Fits p m c k
Fits p m c (Before ss ∷ k) = ((m c).sizes.list ss ≤ room p m c k) × Fits p m c k
Fits p m c (Returns d ∷ k) = Fits p m d k
Fits p m c (Resumes d x ∷ k) = FocusFits p m d x k × Fits p m d k

-- what comes of a step; where it comes to rest, that
abbrev pub KeepsFit : Program → (CopyOf → Measure) → Type 0 → Outcome → Type 0
KeepsFit p m Rests (Went u event) = FocusFits p m u.copy u.focus u.stack × Fits p m u.copy u.stack
KeepsFit p m Rests (Undefined kind line) = Unit {0}
KeepsFit p m Rests Idle = Rests
KeepsFit p m Rests Lost = Unit {0}

-- only behind main's end a step comes to rest
abbrev pub MayRest : Type 0 → Focus → Type 0
MayRest Rests control.Over = Rests
MayRest Rests _ = Unit {0}
