-- How many steps that count may come of a part of a tree before byte code calls, leaves or repeats: each step of each of its nodes, the bytes
-- that it reads and writes among them. What repeats is counted once.
use Rattle.std.proofs.Common.{ℕ, ◌+◌, ◌-◌, ◌*◌, List, [], ◌∷◌, length, Option, Some, None}
use Rattle.c_typed.specs.Trees as tree
use Rattle.c_typed.specs.Trees.{Expression, Expressions, Place, Item, Statement, Statements, Arm, Arms, LastArm}
use Rattle.c_typed.specs.Types.{type_bytes}
use Rattle.c_typed.specs.declared.statement.LoopForm.{LoopForm}
use Rattle.c_typed.specs.declared.statement.LoopForm.TheVariants.{While, Do, For}
use Rattle.src_values.specs.Control as control
use Rattle.src_values.specs.Control.{Focus, Got, Nothing, Chosen, One, At, AtWith, Stores, Copies, Args, Passed, Called, Stage, Tests, Begins, Steps, Turns, Picks, InArm, Chooses, Fills, AtItem, Items, Blanks, Pending, In, To, Doing, Before, Returns, Resumes, read_type}
use Rattle.src_values.specs.Data.{Datum}
use Rattle.src_values.specs.Values.{byte_count}
use Rattle.src_values.specs.declared.objects.Spot.{Spot}
use Rattle.src_values.specs.declared.objects.Spot.TheVariants as spots

-- ---- from the beginning of a part to its end, but for what a call leads to; `q` has the sizes of structures. No number and no pointer has more
-- than four bytes, and no local more than 96.
unfoldable mutual
  pub ahead_in : List ℕ → Expression → ℕ
  ahead_in q (tree.Constant value line) = 0
  ahead_in q (tree.Read place ty line) = ahead_at q place + type_bytes q ty
  ahead_in q (tree.Address place ty line) = ahead_at q place + 1
  ahead_in q (tree.Convert operand ty line) = ahead_in q operand
  ahead_in q (tree.Cast operand ty line) = ahead_in q operand + 1
  ahead_in q (tree.Unary op operand ty line) = ahead_in q operand + 1
  ahead_in q (tree.Binary op left right ty line) = ahead_in q left + ahead_in q right + 1
  ahead_in q (tree.Offset op left right size ty line) = ahead_in q left + ahead_in q right + 1
  ahead_in q (tree.Difference left right size line) = ahead_in q left + ahead_in q right + 1
  ahead_in q (tree.Logical op left right line) = ahead_in q left + ahead_in q right + 1
  ahead_in q (tree.Conditional condition chosen otherwise ty line) = ahead_in q condition + ahead_in q chosen + ahead_in q otherwise + 1
  ahead_in q (tree.Comma left right ty line) = ahead_in q left + ahead_in q right + 1
  ahead_in q (tree.Assign place value ty line) = ahead_at q place + ahead_in q value + 5
  ahead_in q (tree.StructAssign place from size line) = ahead_at q place + ahead_at q from + 2 * size + 1
  ahead_in q (tree.Update op place value operation size ty line) = ahead_at q place + ahead_in q value + type_bytes q ty + 5
  ahead_in q (tree.Step op place operation size ty line) = ahead_at q place + type_bytes q ty + 5
  ahead_in q (tree.Call function arguments ty line) = ahead_of_all q arguments

  pub ahead_of_all : List ℕ → Expressions → ℕ
  ahead_of_all q tree.NoExpression = 0
  ahead_of_all q (tree.AndExpression e es) = ahead_in q e + ahead_of_all q es

  pub ahead_at : List ℕ → Place → ℕ
  ahead_at q (tree.Name object ty line) = 0
  ahead_at q (tree.Bit register number line) = 0
  ahead_at q (tree.Member whole member offset ty line) = ahead_at q whole + 1
  ahead_at q (tree.Deref pointer ty line) = ahead_in q pointer + 1

abbrev pub ahead_in_any : List ℕ → Option Expression → ℕ
ahead_in_any q None = 0
ahead_in_any q (Some e) = ahead_in q e

-- an item, once its value or its place stands there
abbrev pub copy_ahead : Item → ℕ
copy_ahead (tree.Scalar offset value) = 4
copy_ahead (tree.Struct offset from size) = 2 * size
copy_ahead (tree.Text offset text size) = size

abbrev pub item_ahead : List ℕ → Item → ℕ
item_ahead q (tree.Scalar offset value) = ahead_in q value + 4
item_ahead q (tree.Struct offset from size) = ahead_at q from + 2 * size
item_ahead q (tree.Text offset text size) = size

-- the items from here on, and then the bytes without an item
abbrev pub items_ahead : List ℕ → List Item → ℕ
items_ahead q [] = 96
items_ahead q (item ∷ items) = item_ahead q item + items_ahead q items

unfoldable mutual
  pub statement_ahead : List ℕ → Statement → ℕ
  statement_ahead q (tree.Block ss line) = 1 + statements_ahead q ss
  statement_ahead q (tree.Empty line) = 1
  statement_ahead q (tree.Expr e line) = 1 + ahead_in q e
  statement_ahead q (tree.Declare local line) = 0
  statement_ahead q (tree.InitScalar local value line) = ahead_in q value + 4
  statement_ahead q (tree.InitList local all line) = items_ahead q all
  statement_ahead q (tree.If chain otherwise line) = arms_ahead q chain + last_ahead q otherwise
  statement_ahead q (tree.Loop shape first condition step body line) = 1 + (ahead_in_any q first + (ahead_in_any q condition + (ahead_in_any q step + statement_ahead q body)))
  statement_ahead q (tree.Switch e cases default ss line) = 1 + (ahead_in q e + (length cases + statements_ahead q ss))
  statement_ahead q (tree.Break line) = 1
  statement_ahead q (tree.Continue line) = 1
  statement_ahead q (tree.Return value line) = 1 + ahead_in_any q value

  pub statements_ahead : List ℕ → Statements → ℕ
  statements_ahead q tree.NoStatement = 0
  statements_ahead q (tree.AndStatement t ts) = statement_ahead q t + statements_ahead q ts

  pub arm_ahead : List ℕ → Arm → ℕ
  arm_ahead q (tree.OneArm condition chosen line) = 1 + (ahead_in q condition + statement_ahead q chosen)

  pub arms_ahead : List ℕ → Arms → ℕ
  arms_ahead q tree.NoArm = 0
  arms_ahead q (tree.AndArm arm more) = arm_ahead q arm + arms_ahead q more

  pub last_ahead : List ℕ → LastArm → ℕ
  last_ahead q tree.NoLast = 0
  last_ahead q (tree.Last t) = statement_ahead q t

-- ---- what is left of a part that waits
-- behind its first part
abbrev pub first_ahead : List ℕ → Expression → ℕ
first_ahead q (tree.Constant value line) = 0
first_ahead q (tree.Read place ty line) = type_bytes q ty
first_ahead q (tree.Address place ty line) = 1
first_ahead q (tree.Convert operand ty line) = 0
first_ahead q (tree.Cast operand ty line) = 1
first_ahead q (tree.Unary op operand ty line) = 1
first_ahead q (tree.Binary op left right ty line) = ahead_in q right + 1
first_ahead q (tree.Offset op left right size ty line) = ahead_in q right + 1
first_ahead q (tree.Difference left right size line) = ahead_in q right + 1
first_ahead q (tree.Logical op left right line) = ahead_in q right + 1
first_ahead q (tree.Conditional condition chosen otherwise ty line) = ahead_in q chosen + ahead_in q otherwise + 1
first_ahead q (tree.Comma left right ty line) = ahead_in q right + 1
first_ahead q (tree.Assign place value ty line) = ahead_in q value + 5
first_ahead q (tree.StructAssign place from size line) = ahead_at q from + 2 * size + 1
first_ahead q (tree.Update op place value operation size ty line) = ahead_in q value + type_bytes q ty + 5
first_ahead q (tree.Step op place operation size ty line) = type_bytes q ty + 5
first_ahead q (tree.Call function arguments ty line) = 0

-- behind what follows its place
abbrev pub found_ahead : List ℕ → Expression → ℕ
found_ahead q (tree.Assign place value ty line) = 5
found_ahead q (tree.StructAssign place from size line) = 2 * size + 1
found_ahead q (tree.Update op place value operation size ty line) = type_bytes q ty + 5
found_ahead q (tree.Step op place operation size ty line) = 5
found_ahead q _ = 0

abbrev pub part_ahead : List ℕ → Got → Expression → ℕ
part_ahead q Nothing e = first_ahead q e
part_ahead q Chosen e = 0
part_ahead q (One u) e = 1
part_ahead q (At spot) e = found_ahead q e
part_ahead q (AtWith spot u) e = 5
part_ahead q (Stores spot u) e = 0
part_ahead q Copies e = 0
part_ahead q (Args before more) e = ahead_of_all q more
part_ahead q (Passed values) e = 0
part_ahead q Called e = 0

-- behind the condition of a loop: a `do` repeats its body, others begin it
abbrev pub tested_ahead : List ℕ → LoopForm → Option Expression → Statement → ℕ
tested_ahead q While step body = ahead_in_any q step + statement_ahead q body
tested_ahead q Do step body = 0
tested_ahead q For step body = ahead_in_any q step + statement_ahead q body

-- behind its body: a `do` tests its condition, others repeat from theirs
abbrev pub turned_ahead : List ℕ → LoopForm → Option Expression → Option Expression → ℕ
turned_ahead q While condition step = ahead_in_any q step
turned_ahead q Do condition step = ahead_in_any q condition + ahead_in_any q step
turned_ahead q For condition step = ahead_in_any q step

abbrev pub tests_ahead : List ℕ → Statement → ℕ
tests_ahead q (tree.InitScalar local value line) = 4
tests_ahead q (tree.Loop shape first condition step body line) = tested_ahead q shape step body
tests_ahead q (tree.Switch e cases default ss line) = length cases + statements_ahead q ss
tests_ahead q _ = 0

abbrev pub begins_ahead : List ℕ → Statement → ℕ
begins_ahead q (tree.Loop shape first condition step body line) = ahead_in_any q condition + (ahead_in_any q step + statement_ahead q body)
begins_ahead q _ = 0

abbrev pub turns_ahead : List ℕ → Statement → ℕ
turns_ahead q (tree.Loop shape first condition step body line) = turned_ahead q shape condition step
turns_ahead q _ = 0

abbrev pub chooses_ahead : List ℕ → Statement → ℕ
chooses_ahead q (tree.Switch e cases default ss line) = statements_ahead q ss
chooses_ahead q _ = 0

abbrev pub chosen_ahead : List ℕ → Arm → ℕ
chosen_ahead q (tree.OneArm condition chosen line) = statement_ahead q chosen

abbrev pub otherwise_ahead : List ℕ → Statement → ℕ
otherwise_ahead q (tree.If chain otherwise line) = last_ahead q otherwise
otherwise_ahead q _ = 0

abbrev pub stage_ahead : List ℕ → Stage → Statement → ℕ
stage_ahead q Tests t = tests_ahead q t
stage_ahead q Begins t = begins_ahead q t
stage_ahead q Steps t = 0
stage_ahead q Turns t = turns_ahead q t
stage_ahead q (Picks arm more) t = chosen_ahead q arm + (arms_ahead q more + otherwise_ahead q t)
stage_ahead q (InArm more) t = 0
stage_ahead q Chooses t = chooses_ahead q t
stage_ahead q Fills t = 0
stage_ahead q (AtItem item rest) t = copy_ahead item + items_ahead q rest
stage_ahead q (Items item rest) t = items_ahead q rest
stage_ahead q Blanks t = 0

-- ---- a state: its focus, and what follows that
-- a bit is read and written with its register
abbrev pub write_left : Spot → Datum → ℕ → ℕ
write_left (spots.Bit register number) v at = 2 * (1 - at)
write_left spot v at = byte_count v - at

abbrev pub with_focus : List ℕ → Focus → List Pending → ℕ → ℕ
with_focus q (control.Eval e) k n = ahead_in q e + n
with_focus q (control.Find place) k n = ahead_at q place + n
with_focus q (control.Holds v) k n = n
with_focus q (control.Found spot) k n = n
with_focus q (control.Run t) k n = statement_ahead q t + n
with_focus q control.Past k n = n
with_focus q (control.Fetch spot read) k n = type_bytes q (read_type k) - length read + n
with_focus q (control.Skim spot left byte) k n = left + n
with_focus q (control.Write spot v at) k n = write_left spot v at + n
with_focus q (control.PutBit register number v old) k n = 1 + n
with_focus q (control.CopyRead to from left) k n = 2 * left + n
with_focus q (control.CopyWrite to from byte left) k n = 1 + 2 * left + n
with_focus q (control.Spell spot text left) k n = left + n
with_focus q (control.Blank at left) k n = left + n
with_focus q control.Calls k n = n
with_focus q (control.Leaves v) k n = n - 1
with_focus q (control.Compares v labels) k n = length labels + n
with_focus q control.Over k n = 0

-- The end of a function's body is a step, too.
abbrev pub stack_ahead : List ℕ → List Pending → ℕ
stack_ahead q [] = 1
stack_ahead q (In e got ∷ k) = part_ahead q got e + stack_ahead q k
stack_ahead q (To place ∷ k) = 1 + stack_ahead q k
stack_ahead q (Doing t stage ∷ k) = stage_ahead q stage t + stack_ahead q k
stack_ahead q (Before ss ∷ k) = statements_ahead q ss + stack_ahead q k
stack_ahead q (Returns c ∷ k) = 1 + stack_ahead q k
stack_ahead q (Resumes c x ∷ k) = 1 + with_focus q x k (stack_ahead q k)
