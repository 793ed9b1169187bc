-- How many steps that count may come of the parts of a tree for which byte code takes no instruction: each node makes one at most, and a
-- node that makes two has a part that makes none.
use Rattle.std.proofs.Common.{ℕ, ◌+◌, ◌≤◌, List, [], ◌∷◌, length, Option, Some, None, arith}
use Rattle.c_typed.specs.TreeNodes.{nodes_in, nodes_of_all, nodes_at, nodes_in_any, items_nodes, statement_nodes, nodes_of_body, arm_nodes, arms_nodes, last_nodes}
use Rattle.c_typed.specs.Trees as tree
use Rattle.c_typed.specs.Trees.{Expression, Expressions, Place, Item, Statement, Statements, Arm, Arms, LastArm}
use Rattle.src_values.specs.Control as control
use Rattle.src_values.specs.Control.{Focus, Got, Nothing, Chosen, One, At, AtWith, Stores, Copies, Args, Passed, Called, Stage, Tests, Begins, Steps, Turns, Picks, InArm, Chooses, Fills, AtItem, Items, Blanks, Pending, In, To, Doing, Before, Returns, Resumes}

-- ---- from the beginning of a part to its end, but for its bytes and calls
unfoldable mutual
  pub ahead_in : Expression → ℕ
  ahead_in (tree.Constant value line) = 0
  ahead_in (tree.Read place ty line) = ahead_at place
  ahead_in (tree.Address place ty line) = ahead_at place + 1
  ahead_in (tree.Convert operand ty line) = ahead_in operand
  ahead_in (tree.Cast operand ty line) = ahead_in operand + 1
  ahead_in (tree.Unary op operand ty line) = ahead_in operand + 1
  ahead_in (tree.Binary op left right ty line) = ahead_in left + ahead_in right + 1
  ahead_in (tree.Offset op left right size ty line) = ahead_in left + ahead_in right + 1
  ahead_in (tree.Difference left right size line) = ahead_in left + ahead_in right + 1
  ahead_in (tree.Logical op left right line) = ahead_in left + ahead_in right + 1
  ahead_in (tree.Conditional condition chosen otherwise ty line) = ahead_in condition + ahead_in chosen + ahead_in otherwise + 1
  ahead_in (tree.Comma left right ty line) = ahead_in left + ahead_in right + 1
  ahead_in (tree.Assign place value ty line) = ahead_at place + ahead_in value + 1
  ahead_in (tree.StructAssign place from size line) = ahead_at place + ahead_at from + 2
  ahead_in (tree.Update op place value operation size ty line) = ahead_at place + ahead_in value + 1
  ahead_in (tree.Step op place operation size ty line) = ahead_at place + 1
  ahead_in (tree.Call function arguments ty line) = ahead_of_all arguments

  pub ahead_of_all : Expressions → ℕ
  ahead_of_all tree.NoExpression = 0
  ahead_of_all (tree.AndExpression e es) = ahead_in e + ahead_of_all es

  pub ahead_at : Place → ℕ
  ahead_at (tree.Name object ty line) = 0
  ahead_at (tree.Bit register number line) = 0
  ahead_at (tree.Member whole member offset ty line) = ahead_at whole + 1
  ahead_at (tree.Deref pointer ty line) = ahead_in pointer + 1

abbrev pub ahead_in_any : Option Expression → ℕ
ahead_in_any None = 0
ahead_in_any (Some e) = ahead_in e

-- The read of the first byte of a structure may cost nothing.
abbrev pub copy_ahead : Item → ℕ
copy_ahead (tree.Scalar offset value) = 0
copy_ahead (tree.Struct offset from size) = 1
copy_ahead (tree.Text offset text size) = 0

abbrev pub item_ahead : Item → ℕ
item_ahead (tree.Scalar offset value) = ahead_in value
item_ahead (tree.Struct offset from size) = ahead_at from + 1
item_ahead (tree.Text offset text size) = 0

abbrev pub items_ahead : List Item → ℕ
items_ahead [] = 0
items_ahead (item ∷ items) = item_ahead item + items_ahead items

unfoldable mutual
  pub statement_ahead : Statement → ℕ
  statement_ahead (tree.Block ss line) = 1 + statements_ahead ss
  statement_ahead (tree.Empty line) = 1
  statement_ahead (tree.Expr e line) = 1 + ahead_in e
  statement_ahead (tree.Declare local line) = 0
  statement_ahead (tree.InitScalar local value line) = ahead_in value
  statement_ahead (tree.InitList local all line) = items_ahead all
  statement_ahead (tree.If chain otherwise line) = arms_ahead chain + last_ahead otherwise
  statement_ahead (tree.Loop shape first condition step body line) = 1 + (ahead_in_any first + (ahead_in_any condition + (ahead_in_any step + statement_ahead body)))
  statement_ahead (tree.Switch e cases default ss line) = 1 + (ahead_in e + (length cases + statements_ahead ss))
  statement_ahead (tree.Break line) = 1
  statement_ahead (tree.Continue line) = 1
  statement_ahead (tree.Return value line) = 1 + ahead_in_any value

  pub statements_ahead : Statements → ℕ
  statements_ahead tree.NoStatement = 0
  statements_ahead (tree.AndStatement t ts) = statement_ahead t + statements_ahead ts

  pub arm_ahead : Arm → ℕ
  arm_ahead (tree.OneArm condition chosen line) = 1 + (ahead_in condition + statement_ahead chosen)

  pub arms_ahead : Arms → ℕ
  arms_ahead tree.NoArm = 0
  arms_ahead (tree.AndArm arm more) = arm_ahead arm + arms_ahead more

  pub last_ahead : LastArm → ℕ
  last_ahead tree.NoLast = 0
  last_ahead (tree.Last t) = statement_ahead t

-- ---- what is left of a part that waits
-- behind its first part
abbrev pub first_ahead : Expression → ℕ
first_ahead (tree.Constant value line) = 0
first_ahead (tree.Read place ty line) = 0
first_ahead (tree.Address place ty line) = 1
first_ahead (tree.Convert operand ty line) = 0
first_ahead (tree.Cast operand ty line) = 1
first_ahead (tree.Unary op operand ty line) = 1
first_ahead (tree.Binary op left right ty line) = ahead_in right + 1
first_ahead (tree.Offset op left right size ty line) = ahead_in right + 1
first_ahead (tree.Difference left right size line) = ahead_in right + 1
first_ahead (tree.Logical op left right line) = ahead_in right + 1
first_ahead (tree.Conditional condition chosen otherwise ty line) = ahead_in chosen + ahead_in otherwise + 1
first_ahead (tree.Comma left right ty line) = ahead_in right + 1
first_ahead (tree.Assign place value ty line) = ahead_in value + 1
first_ahead (tree.StructAssign place from size line) = ahead_at from + 2
first_ahead (tree.Update op place value operation size ty line) = ahead_in value + 1
first_ahead (tree.Step op place operation size ty line) = 1
first_ahead (tree.Call function arguments ty line) = 0

-- behind what follows its place
abbrev pub found_ahead : Expression → ℕ
found_ahead (tree.Assign place value ty line) = 1
found_ahead (tree.StructAssign place from size line) = 2
found_ahead (tree.Update op place value operation size ty line) = 1
found_ahead (tree.Step op place operation size ty line) = 1
found_ahead _ = 0

abbrev pub part_ahead : Got → Expression → ℕ
part_ahead Nothing e = first_ahead e
part_ahead Chosen e = 0
part_ahead (One u) e = 1
part_ahead (At spot) e = found_ahead e
part_ahead (AtWith spot u) e = 1
part_ahead (Stores spot u) e = 0
part_ahead Copies e = 0
part_ahead (Args before more) e = ahead_of_all more
part_ahead (Passed values) e = 0
part_ahead Called e = 0

abbrev pub tests_ahead : Statement → ℕ
tests_ahead (tree.Switch e cases default ss line) = length cases + statements_ahead ss
tests_ahead _ = 0

abbrev pub begins_ahead : Statement → ℕ
begins_ahead (tree.Loop shape first condition step body line) = ahead_in_any condition + (ahead_in_any step + statement_ahead body)
begins_ahead _ = 0

abbrev pub turns_ahead : Statement → ℕ
turns_ahead (tree.Loop shape first condition step body line) = ahead_in_any condition + ahead_in_any step
turns_ahead _ = 0

abbrev pub chooses_ahead : Statement → ℕ
chooses_ahead (tree.Switch e cases default ss line) = statements_ahead ss
chooses_ahead _ = 0

abbrev pub chosen_ahead : Arm → ℕ
chosen_ahead (tree.OneArm condition chosen line) = statement_ahead chosen

abbrev pub otherwise_ahead : Statement → ℕ
otherwise_ahead (tree.If chain otherwise line) = last_ahead otherwise
otherwise_ahead _ = 0

abbrev pub stage_ahead : Stage → Statement → ℕ
stage_ahead Tests t = tests_ahead t
stage_ahead Begins t = begins_ahead t
stage_ahead Steps t = 0
stage_ahead Turns t = turns_ahead t
stage_ahead (Picks arm more) t = chosen_ahead arm + (arms_ahead more + otherwise_ahead t)
stage_ahead (InArm more) t = 0
stage_ahead Chooses t = chooses_ahead t
stage_ahead Fills t = 0
stage_ahead (AtItem item rest) t = copy_ahead item + items_ahead rest
stage_ahead (Items item rest) t = items_ahead rest
stage_ahead Blanks t = 0

-- ---- a state: its focus, and what follows that
abbrev pub with_focus : Focus → ℕ → ℕ
with_focus (control.Eval e) n = ahead_in e + n
with_focus (control.Find place) n = ahead_at place + n
with_focus (control.Holds v) n = n
with_focus (control.Found spot) n = n
with_focus (control.Run t) n = statement_ahead t + n
with_focus control.Past n = n
with_focus (control.Fetch spot read) n = n
with_focus (control.Skim spot left byte) n = n
with_focus (control.Write spot v at) n = n
with_focus (control.PutBit register number v old) n = 2 + n
with_focus (control.CopyRead to from left) n = 1 + n
with_focus (control.CopyWrite to from byte left) n = n
with_focus (control.Spell spot text left) n = n
with_focus (control.Blank at left) n = n
with_focus control.Calls n = n
with_focus (control.Leaves v) n = n
with_focus (control.Compares v labels) n = length labels + n
with_focus control.Over n = 0

-- Main's end is a step without cost. By the handler's end interrupts are enabled again.
abbrev pub stack_ahead : List Pending → ℕ
stack_ahead [] = 1
stack_ahead (In e got ∷ k) = part_ahead got e + stack_ahead k
stack_ahead (To place ∷ k) = 1 + stack_ahead k
stack_ahead (Doing t stage ∷ k) = stage_ahead stage t + stack_ahead k
stack_ahead (Before ss ∷ k) = statements_ahead ss + stack_ahead k
stack_ahead (Returns c ∷ k) = stack_ahead k
stack_ahead (Resumes c x ∷ k) = 1 + with_focus x (stack_ahead k)

-- ---- no more than nodes
mutual
  unfolding ahead_in nodes_in

  pub few_in : (e : Expression) → ahead_in e + 1 ≤ nodes_in e
  few_in (tree.Constant value line) = omega arith
  few_in (tree.Read place ty line) = let d = few_at place in omega arith
  few_in (tree.Address place ty line) = let d = few_at place in omega arith
  few_in (tree.Convert operand ty line) = let d = few_in operand in omega arith
  few_in (tree.Cast operand ty line) = let d = few_in operand in omega arith
  few_in (tree.Unary op operand ty line) = let d = few_in operand in omega arith
  few_in (tree.Binary op left right ty line) = let d = few_in left in let f = few_in right in omega arith
  few_in (tree.Offset op left right size ty line) = let d = few_in left in let f = few_in right in omega arith
  few_in (tree.Difference left right size line) = let d = few_in left in let f = few_in right in omega arith
  few_in (tree.Logical op left right line) = let d = few_in left in let f = few_in right in omega arith
  few_in (tree.Conditional condition chosen otherwise ty line) = let d = few_in condition in let f = few_in chosen in let g = few_in otherwise in omega arith
  few_in (tree.Comma left right ty line) = let d = few_in left in let f = few_in right in omega arith
  few_in (tree.Assign place value ty line) = let d = few_at place in let f = few_in value in omega arith
  few_in (tree.StructAssign place from size line) = let d = few_at place in let f = few_at from in omega arith
  few_in (tree.Update op place value operation size ty line) = let d = few_at place in let f = few_in value in omega arith
  few_in (tree.Step op place operation size ty line) = let d = few_at place in omega arith
  few_in (tree.Call function arguments ty line) = let d = few_of_all arguments in omega arith

  pub few_of_all : (es : Expressions) → ahead_of_all es ≤ nodes_of_all es
  few_of_all tree.NoExpression = omega arith
  few_of_all (tree.AndExpression e es) = let d = few_in e in let f = few_of_all es in omega arith

  pub few_at : (place : Place) → ahead_at place + 1 ≤ nodes_at place
  few_at (tree.Name object ty line) = omega arith
  few_at (tree.Bit register number line) = omega arith
  few_at (tree.Member whole member offset ty line) = let d = few_at whole in omega arith
  few_at (tree.Deref pointer ty line) = let d = few_in pointer in omega arith

pub few_in_any : (o : Option Expression) → ahead_in_any o ≤ nodes_in_any o
few_in_any None = omega arith
few_in_any (Some e) = let d = few_in e in omega arith

few_items : (items : List Item) → items_ahead items ≤ items_nodes items
few_items [] = omega arith
few_items (tree.Scalar offset value ∷ items) = let d = few_in value in let f = few_items items in omega arith
few_items (tree.Struct offset from size ∷ items) = let d = few_at from in let f = few_items items in omega arith
few_items (tree.Text offset text size ∷ items) = let f = few_items items in omega arith

mutual
  unfolding statement_ahead statement_nodes

  pub few_statement : (t : Statement) → statement_ahead t ≤ statement_nodes t
  few_statement (tree.Block ss line) = let d = few_statements ss in omega arith
  few_statement (tree.Empty line) = omega arith
  few_statement (tree.Expr e line) = let d = few_in e in omega arith
  few_statement (tree.Declare local line) = omega arith
  few_statement (tree.InitScalar local value line) = let d = few_in value in omega arith
  few_statement (tree.InitList local all line) = let d = few_items all in omega arith
  few_statement (tree.If chain otherwise line) = let d = few_arms chain in let f = few_last otherwise in omega arith
  few_statement (tree.Loop shape first condition step body line) = let d = few_in_any first in let f = few_in_any condition in let g = few_in_any step in let h = few_statement body in omega arith
  few_statement (tree.Switch e cases default ss line) = let d = few_in e in let f = few_statements ss in omega arith
  few_statement (tree.Break line) = omega arith
  few_statement (tree.Continue line) = omega arith
  few_statement (tree.Return value line) = let d = few_in_any value in omega arith

  pub few_statements : (ss : Statements) → statements_ahead ss ≤ nodes_of_body ss
  few_statements tree.NoStatement = omega arith
  few_statements (tree.AndStatement t ts) = let d = few_statement t in let f = few_statements ts in omega arith

  few_arm : (arm : Arm) → arm_ahead arm ≤ arm_nodes arm
  few_arm (tree.OneArm condition chosen line) = let d = few_in condition in let f = few_statement chosen in omega arith

  few_arms : (arms : Arms) → arms_ahead arms ≤ arms_nodes arms
  few_arms tree.NoArm = omega arith
  few_arms (tree.AndArm arm more) = let d = few_arm arm in let f = few_arms more in omega arith

  few_last : (otherwise : LastArm) → last_ahead otherwise ≤ last_nodes otherwise
  few_last tree.NoLast = omega arith
  few_last (tree.Last t) = few_statement t
