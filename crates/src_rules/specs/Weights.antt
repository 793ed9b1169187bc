-- How many micro-steps can come before the next one that counts as a step, at most. The number falls in each micro-step that
-- doesn't count, in programs where a loop's body is no declarator.
use Rattle.std.specs.Prelude.{ℕ, ◌+◌, if◌then◌else◌, List, [], ◌∷◌, Option, Some, None}
use Rattle.c_typed.specs.Trees as tree
use Rattle.c_typed.specs.Trees.{Expression, Expressions, Place, Item, Statement, Statements, Arms, LastArm}
use Rattle.src_rules.specs.State.{State}
use Rattle.src_rules.specs.Step.{counts}
use Rattle.src_values.specs.Memory.{Setting}
use Rattle.src_values.specs.Control.{Focus, Eval, Find, Run, Got, Nothing, At, AtWith, Args, Passed, Stage, Tests, Begins, Steps, Turns, Picks, Chooses, AtItem, Items, Pending, In, To, Doing, Before, Returns, Resumes}

-- ---- expressions and places, from their beginning to their value
unfoldable mutual
  pub expression_weight : Expression → ℕ
  expression_weight (tree.Constant value line) = 1
  expression_weight (tree.Read place ty line) = place_weight place + 3
  expression_weight (tree.Address place ty line) = place_weight place + 2
  expression_weight (tree.Convert operand ty line) = expression_weight operand + 2
  expression_weight (tree.Cast operand ty line) = expression_weight operand + 2
  expression_weight (tree.Unary op operand ty line) = expression_weight operand + 2
  expression_weight (tree.Binary op left right ty line) = expression_weight left + expression_weight right + 3
  expression_weight (tree.Offset op left right size ty line) = expression_weight left + expression_weight right + 3
  expression_weight (tree.Difference left right size line) = expression_weight left + expression_weight right + 3
  expression_weight (tree.Logical op left right line) = expression_weight left + expression_weight right + 3
  expression_weight (tree.Conditional condition chosen otherwise ty line) = expression_weight condition + expression_weight chosen + expression_weight otherwise + 2
  expression_weight (tree.Comma left right ty line) = expression_weight left + expression_weight right + 2
  expression_weight (tree.Assign place value ty line) = place_weight place + expression_weight value + 4
  expression_weight (tree.StructAssign place from size line) = place_weight place + place_weight from + 4
  expression_weight (tree.Update op place value operation size ty line) = place_weight place + expression_weight value + 6
  expression_weight (tree.Step op place operation size ty line) = place_weight place + 5
  expression_weight (tree.Call function arguments ty line) = arguments_weight arguments + 3

  pub arguments_weight : Expressions → ℕ
  arguments_weight tree.NoExpression = 0
  arguments_weight (tree.AndExpression e es) = expression_weight e + arguments_weight es + 1

  pub place_weight : Place → ℕ
  place_weight (tree.Name object ty line) = 1
  place_weight (tree.Bit register number line) = 1
  place_weight (tree.Member whole member offset ty line) = place_weight whole + 2
  place_weight (tree.Deref pointer ty line) = expression_weight pointer + 2

-- ---- what is left of an expression that waits
unfoldable pub part_weight : Expression → Got → ℕ
part_weight (tree.Read place ty line) Nothing = 2
part_weight (tree.Binary op left right ty line) Nothing = expression_weight right + 2
part_weight (tree.Offset op left right size ty line) Nothing = expression_weight right + 2
part_weight (tree.Difference left right size line) Nothing = expression_weight right + 2
part_weight (tree.Logical op left right line) Nothing = expression_weight right + 2
part_weight (tree.Conditional condition chosen otherwise ty line) Nothing = expression_weight chosen + expression_weight otherwise + 1
part_weight (tree.Comma left right ty line) Nothing = expression_weight right + 1
part_weight (tree.Assign place value ty line) Nothing = expression_weight value + 3
part_weight (tree.Assign place value ty line) (At spot) = 2
part_weight (tree.StructAssign place from size line) Nothing = place_weight from + 3
part_weight (tree.StructAssign place from size line) (At spot) = 2
part_weight (tree.Update op place value operation size ty line) Nothing = expression_weight value + 5
part_weight (tree.Update op place value operation size ty line) (At spot) = 4
part_weight (tree.Update op place value operation size ty line) (AtWith spot u) = 3
part_weight (tree.Step op place operation size ty line) Nothing = 4
part_weight (tree.Step op place operation size ty line) (At spot) = 3
part_weight (tree.Call function arguments ty line) (Args values more) = arguments_weight more + 3
part_weight (tree.Call function arguments ty line) (Passed values) = 2
part_weight _ _ = 1

-- ---- statements
abbrev pub items_weight : List Item → ℕ
items_weight [] = 1
items_weight (tree.Scalar offset value ∷ rest) = expression_weight value + items_weight rest + 2
items_weight (tree.Struct offset from size ∷ rest) = place_weight from + items_weight rest + 2
items_weight (tree.Text offset text size ∷ rest) = items_weight rest + 1

-- a declarator that begins; all other statements count there
unfoldable pub declarator_weight : Statement → ℕ
declarator_weight (tree.Declare local line) = 1
declarator_weight (tree.InitScalar local e line) = expression_weight e + 3
declarator_weight (tree.InitList local all line) = items_weight all + 1
declarator_weight _ = 0

unfoldable pub statements_weight : Statements → ℕ
statements_weight tree.NoStatement = 1
statements_weight (tree.AndStatement t ts) = declarator_weight t + statements_weight ts + 1

abbrev pub last_weight : LastArm → ℕ
last_weight tree.NoLast = 0
last_weight (tree.Last t) = declarator_weight t

abbrev pub arms_weight : Arms → LastArm → ℕ
arms_weight tree.NoArm otherwise = last_weight otherwise
arms_weight (tree.AndArm (tree.OneArm condition chosen line) more) otherwise = expression_weight condition + declarator_weight chosen + arms_weight more otherwise + 1

-- a loop's condition, up to its body or to its end
abbrev pub test_weight : Option Expression → ℕ
test_weight None = 0
test_weight (Some e) = expression_weight e + 1

abbrev pub step_weight : Option Expression → ℕ
step_weight None = 0
step_weight (Some e) = expression_weight e + 1

-- what is left of a statement that waits
unfoldable pub stage_weight : Statement → Stage → ℕ
stage_weight (tree.InitScalar local e line) Tests = 2
stage_weight (tree.InitList local all line) (AtItem item rest) = items_weight rest + 2
stage_weight (tree.InitList local all line) (Items item rest) = items_weight rest + 1
stage_weight (tree.If chain otherwise line) (Picks (tree.OneArm condition chosen at) more) = declarator_weight chosen + arms_weight more otherwise + 2
stage_weight (tree.Loop shape first condition step body line) Begins = test_weight condition + 1
stage_weight (tree.Loop shape first condition step body line) Steps = test_weight condition + 1
stage_weight (tree.Loop shape first condition step body line) Turns = step_weight step + test_weight condition + 1
stage_weight (tree.Switch e cases default ss line) Tests = statements_weight ss + 3
stage_weight (tree.Switch e cases default ss line) Chooses = statements_weight ss + 2
stage_weight _ _ = 1

-- ---- all that waits
abbrev pub stack_weight : List Pending → ℕ
stack_weight [] = 0
stack_weight (In e got ∷ k) = part_weight e got + stack_weight k
stack_weight (To place ∷ k) = 1 + stack_weight k
stack_weight (Doing t stage ∷ k) = stage_weight t stage + stack_weight k
stack_weight (Before ss ∷ k) = statements_weight ss + stack_weight k
stack_weight (Returns c ∷ k) = stack_weight k
stack_weight (Resumes c x ∷ k) = 0

abbrev pub focus_weight : Focus → ℕ
focus_weight (Eval e) = expression_weight e
focus_weight (Find place) = place_weight place
focus_weight (Run t) = declarator_weight t
focus_weight _ = 0

-- 0 where the next micro-step counts
unfoldable pub weight : Setting → State → ℕ
weight s t = if counts s t then 0 else focus_weight t.focus + stack_weight t.stack
