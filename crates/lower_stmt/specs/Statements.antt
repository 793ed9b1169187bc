-- The code of statements (ISO/IEC 9899:1990, 6.6).
use Rattle.std.specs.Prelude.{ℕ, ◌+◌, ◌-◌, if◌then◌else◌, List, [], ◌∷◌, ◌++◌, Option, Some, None}
use Rattle.c_typed.specs.Sound.{count_of}
use Rattle.c_typed.specs.Trees as tree
use Rattle.c_typed.specs.Trees.{Expression, Statement, Statements, Arm, Arms, LastArm}
use Rattle.c_typed.specs.declared.statement.LoopForm.{LoopForm}
use Rattle.c_typed.specs.declared.statement.LoopForm.TheVariants.{While, Do, For}
use Rattle.c_typed.specs.declared.statement.TCase.{TCase}
use Rattle.core_code.specs.Tree as core
use Rattle.core_code.specs.Tree.{Tree, many}
use Rattle.core_puts.specs.Puts.{copies, choice, test_size}
use Rattle.lower_stmt.specs.Declarators.{scalar_code, list_code}
use Rattle.lower_stmt.specs.Ground.{Ground, first, result_byte, local_byte, width, value_code, effect_code}
use Rattle.lower_stmt.specs.Jumps.{in_while, in_body, in_segment}
use Rattle.lower_stmt.specs.Labels.{labels_of, has, segments_before}
use Rattle.lower_stmt.specs.Switches.{Segments, comparisons, begun_with, no_segments, cut, joined, around, for_labels}
use Rattle.lower_stmt.specs.declared.jumps.Jumps.{Jumps}

-- what a `for` begins with, and its step
abbrev pub any_code : Ground → Option Expression → List Tree
any_code g None = []
any_code g (Some e) = effect_code g e

-- A condition of a loop leaves it where its value is 0.
abbrev pub condition_code : Ground → Option Expression → List Tree
condition_code g None = []
condition_code g (Some e) = value_code g e ++ core.If (first g) (test_size (width g e)) (many []) (core.Exit 0) ∷ []

-- The body of a `do` or a `for` is a loop that runs once, so that `continue` leaves it.
abbrev pub once : List Tree → List Tree
once body = core.Loop (many (body ++ core.Exit 0 ∷ [])) ∷ []

abbrev pub jumps_in : LoopForm → Jumps
jumps_in While = in_while
jumps_in Do = in_body
jumps_in For = in_body

-- loops, from the code of their body
abbrev pub while_code : Ground → Option Expression → List Tree → List Tree
while_code g condition body = core.Loop (many (condition_code g condition ++ body)) ∷ []

abbrev pub do_code : Ground → Option Expression → List Tree → List Tree
do_code g condition body = core.Loop (many (once body ++ condition_code g condition)) ∷ []

abbrev pub for_code : Ground → Option Expression → Option Expression → Option Expression → List Tree → List Tree
for_code g begin condition step body = any_code g begin ++ core.Loop (many (condition_code g condition ++ once body ++ any_code g step)) ∷ []

abbrev pub loop_code : Ground → LoopForm → Option Expression → Option Expression → Option Expression → List Tree → List Tree
loop_code g While begin condition step body = while_code g condition body
loop_code g Do begin condition step body = do_code g condition body
loop_code g For begin condition step body = for_code g begin condition step body

abbrev pub break_code : Jumps → List Tree
break_code j = core.Exit j.leave ∷ []

abbrev pub continue_code : Jumps → List Tree
continue_code j = (if j.again then core.Again j.turn else core.Exit j.turn) ∷ []

-- The value of a function goes to the result bytes of its root.
abbrev pub return_code : Ground → Option Expression → List Tree
return_code g None = core.Leave ∷ []
return_code g (Some e) = value_code g e ++ copies (result_byte g) (first g) (width g e) ++ core.Leave ∷ []

-- an arm of an `if`, from the code of its statement and what stands behind `else`
abbrev pub arm_choice : Ground → Expression → List Tree → List Tree → List Tree
arm_choice g condition chosen otherwise = value_code g condition ++ choice (first g) (width g condition) chosen otherwise ∷ []

-- how many segments a body has with these labels
abbrev pub segments_in : Statements → List ℕ → ℕ
segments_in statements labels = segments_before (count_of statements + 1) labels

unfoldable mutual
  pub stmt_code : Ground → Jumps → Statement → List Tree
  stmt_code g j (tree.Block statements line) = stmts_code g j statements
  stmt_code g j (tree.Empty line) = []
  stmt_code g j (tree.Expr value line) = effect_code g value
  stmt_code g j (tree.Declare local line) = []
  stmt_code g j (tree.InitScalar local value line) = scalar_code g (local_byte g local) value
  stmt_code g j (tree.InitList local items line) = list_code g local items
  stmt_code g j (tree.If arms otherwise line) = arms_code g j (last_code g j otherwise) arms
  stmt_code g j (tree.Loop shape begin condition step body line) = loop_code g shape begin condition step (stmt_code g (jumps_in shape) body)
  stmt_code g j (tree.Switch value cases default statements line) = value_code g value ++ for_labels (labels_of cases default) (around (comparisons g value cases default (labels_of cases default) (segments_in statements (labels_of cases default))) (segments_code g j (labels_of cases default) (segments_in statements (labels_of cases default)) 0 0 statements))
  stmt_code g j (tree.Break line) = break_code j
  stmt_code g j (tree.Continue line) = continue_code j
  stmt_code g j (tree.Return value line) = return_code g value

  -- one behind the other
  pub stmts_code : Ground → Jumps → Statements → List Tree
  stmts_code g j tree.NoStatement = []
  stmts_code g j (tree.AndStatement s ss) = stmt_code g j s ++ stmts_code g j ss

  -- each arm stands where the condition of the arm before it was 0
  pub arms_code : Ground → Jumps → List Tree → Arms → List Tree
  arms_code g j otherwise tree.NoArm = otherwise
  arms_code g j otherwise (tree.AndArm arm arms) = arm_code g j arm (arms_code g j otherwise arms)

  pub arm_code : Ground → Jumps → Arm → List Tree → List Tree
  arm_code g j (tree.OneArm condition chosen line) otherwise = arm_choice g condition (stmt_code g j chosen) otherwise

  pub last_code : Ground → Jumps → LastArm → List Tree
  last_code g j tree.NoLast = []
  last_code g j (tree.Last s) = stmt_code g j s

  -- The segments of a switch's body from statement i on, where so many of `count` have begun.
  pub segments_code : Ground → Jumps → List ℕ → ℕ → ℕ → ℕ → Statements → Segments
  segments_code g j labels count i begun tree.NoStatement = cut (has labels i) no_segments
  segments_code g j labels count i begun (tree.AndStatement s ss) = cut (has labels i) (joined (stmt_code g (in_segment j (count - begun_with (has labels i) begun)) s) (segments_code g j labels count (i + 1) (begun_with (has labels i) begun) ss))

-- What stands behind the value of a switch with these labels, and a whole switch.
abbrev pub labelled_code : Ground → Jumps → Expression → List TCase → Option ℕ → List ℕ → Statements → List Tree
labelled_code g j value cases default labels statements = around (comparisons g value cases default labels (segments_in statements labels)) (segments_code g j labels (segments_in statements labels) 0 0 statements)

abbrev pub switch_code : Ground → Jumps → Expression → List TCase → Option ℕ → Statements → List Tree
switch_code g j value cases default statements = value_code g value ++ for_labels (labels_of cases default) (labelled_code g j value cases default (labels_of cases default) statements)
