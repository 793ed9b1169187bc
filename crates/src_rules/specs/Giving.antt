-- Where a value goes: the node that waits for it takes it (ISO/IEC 9899:1990, 6.3 and 6.6).
use Rattle.std.specs.Prelude.{ℕ, zero, suc, Bool, true, false, if◌then◌else◌, List, [], ◌∷◌, ◌++◌, Option, Some, None}
use Rattle.c_typed.specs.Trees as tree
use Rattle.c_typed.specs.Trees.{Expression, Place, Statement, Statements}
use Rattle.c_typed.specs.Words.{step_operator}
use Rattle.c_typed.specs.declared.expression.LogicalOp.{LogicalOp}
use Rattle.c_typed.specs.declared.statement.TCase.{TCase}
use Rattle.pic_world.specs.World.{World}
use Rattle.src_rules.specs.Accesses.{goes, fetching}
use Rattle.src_rules.specs.Expressions.{arguments}
use Rattle.src_rules.specs.State.{Outcome, Undefined, Lost}
use Rattle.src_rules.specs.Statements.{arms, test, turn, unwound}
use Rattle.src_values.specs.Memory.{Setting, Memory}
use Rattle.src_values.specs.Control.{Eval, Holds, Found, Run, Past, Write, Leaves, Compares, Got, Nothing, Chosen, One, At, AtWith, Stores, Args, Stage, Tests, Begins, Steps, Turns, Picks, InArm, Chooses, Fills, AtItem, Items, Pending, In, To, Doing, Before, active}
use Rattle.src_values.specs.Data.{Datum}
use Rattle.src_values.specs.Data.{Number, Pointer, Missing}
use Rattle.src_values.specs.Objects.{behind, local_of}
use Rattle.src_values.specs.Values as answers
use Rattle.src_values.specs.Values.{is_postfix, Answer, converted, truth_of, truth_value, unary_answer, binary_answer, offset_answer, difference_answer, change_answer, one_in, decides, is_case}
use Rattle.src_values.specs.declared.objects.Byte.{Byte}
use Rattle.src_values.specs.declared.objects.CopyOf.{CopyOf}
use Rattle.src_values.specs.declared.objects.Spot.{Spot}
use Rattle.src_values.specs.declared.objects.Spot.TheVariants as spots
use Rattle.src_values.specs.declared.objects.Undef.TheVariants.{Unset}

-- the value of an operator, or why it is undefined; or no rule is there
abbrev pub answered : Answer → ℕ → List Pending → CopyOf → Memory → World Byte → Outcome
answered (answers.Gives v) line k c m w = goes c (Holds v) k m w
answered (answers.Fails kind) line k c m w = Undefined kind line
answered answers.Strays line k c m w = Lost

-- a value that is used goes on with this; a missing one is undefined
abbrev pub used : Datum → ℕ → Outcome → Outcome
used Missing line next = Undefined Unset line
used (Number q) line next = next
used (Pointer x) line next = next

-- a condition, with what follows where it holds and where it doesn't
abbrev pub branch : Option Bool → ℕ → Outcome → Outcome → Outcome
branch None line first second = Undefined Unset line
branch (Some true) line first second = first
branch (Some false) line first second = second

abbrev pub logical : Expression → LogicalOp → Datum → Option Bool → Expression → ℕ → List Pending → CopyOf → Memory → World Byte → Outcome
logical e op v None right line k c m w = Undefined Unset line
logical e op v (Some holds) right line k c m w =
    if decides op holds then goes c (Holds (truth_value holds)) k m w
    else goes c (Eval right) (In e (One v) ∷ k) m w

abbrev pub truth_given : Option Bool → ℕ → List Pending → CopyOf → Memory → World Byte → Outcome
truth_given None line k c m w = Undefined Unset line
truth_given (Some holds) line k c m w = goes c (Holds (truth_value holds)) k m w

-- the new value of a place is written, and this value stays with the node
abbrev pub changes : Answer → Expression → Spot → Bool → Datum → ℕ → List Pending → CopyOf → Memory → World Byte → Outcome
changes (answers.Gives v) e spot keeps old line k c m w = goes c (Write spot v 0) (In e (Stores spot (if keeps then old else v)) ∷ k) m w
changes (answers.Fails kind) e spot keeps old line k c m w = Undefined kind line
changes answers.Strays e spot keeps old line k c m w = Lost

-- ---- an expression takes the value of a part
abbrev pub take_in : Setting → Expression → Got → Datum → List Pending → CopyOf → Memory → World Byte → Outcome
take_in s (tree.Convert operand ty line) Nothing v k c m w = answered (converted ty v) line k c m w
take_in s (tree.Cast operand ty line) Nothing v k c m w = answered (converted ty v) line k c m w
take_in s (tree.Unary op operand ty line) Nothing v k c m w = answered (unary_answer op v) line k c m w
take_in s (tree.Binary op left right ty line) Nothing v k c m w = goes c (Eval right) (In (tree.Binary op left right ty line) (One v) ∷ k) m w
take_in s (tree.Binary op left right ty line) (One u) v k c m w = answered (binary_answer s.program (active c (Holds v) k) op ty u v) line k c m w
take_in s (tree.Offset op left right size ty line) Nothing v k c m w = goes c (Eval right) (In (tree.Offset op left right size ty line) (One v) ∷ k) m w
take_in s (tree.Offset op left right size ty line) (One u) v k c m w = answered (offset_answer s.program op size u v) line k c m w
take_in s (tree.Difference left right size line) Nothing v k c m w = goes c (Eval right) (In (tree.Difference left right size line) (One v) ∷ k) m w
take_in s (tree.Difference left right size line) (One u) v k c m w = answered (difference_answer size u v) line k c m w
take_in s (tree.Logical op left right line) Nothing v k c m w = logical (tree.Logical op left right line) op v (truth_of v) right line k c m w
take_in s (tree.Logical op left right line) (One u) v k c m w = truth_given (truth_of v) line k c m w
take_in s (tree.Conditional condition chosen otherwise ty line) Nothing v k c m w =
    branch (truth_of v) line
    (goes c (Eval chosen) (In (tree.Conditional condition chosen otherwise ty line) Chosen ∷ k) m w)
    (goes c (Eval otherwise) (In (tree.Conditional condition chosen otherwise ty line) Chosen ∷ k) m w)
take_in s (tree.Conditional condition chosen otherwise ty line) Chosen v k c m w = goes c (Holds v) k m w
take_in s (tree.Comma left right ty line) Nothing v k c m w = goes c (Eval right) k m w
take_in s (tree.Assign place value ty line) (At spot) v k c m w = used v line (goes c (Write spot v 0) (In (tree.Assign place value ty line) (Stores spot v) ∷ k) m w)
take_in s (tree.Update op place value operation size ty line) (At spot) v k c m w = goes c (fetching spot ty s.program.sizes) (In (tree.Update op place value operation size ty line) (AtWith spot v) ∷ k) m w
take_in s (tree.Update op place value operation size ty line) (AtWith spot u) v k c m w =
    changes (change_answer s.program (active c (Holds v) k) op operation size ty v u) (tree.Update op place value operation size ty line) spot false v line k c m w
take_in s (tree.Step op place operation size ty line) (At spot) v k c m w =
    changes (change_answer s.program (active c (Holds v) k) (step_operator op) operation size ty v (one_in operation)) (tree.Step op place operation size ty line) spot (is_postfix op) v line k c m w
take_in s (tree.Call function values ty line) (Args before more) v k c m w = arguments (tree.Call function values ty line) (before ++ v ∷ []) more k c m w
take_in s _ _ v k c m w = Lost

-- ---- a place takes the value of its pointer
abbrev pub deref : Datum → ℕ → List Pending → CopyOf → Memory → World Byte → Outcome
deref (Pointer x) line k c m w = goes c (Found (spots.Memory x)) k m w
deref (Number q) line k c m w = Lost
deref Missing line k c m w = Undefined Unset line

abbrev pub take_to : Place → Datum → List Pending → CopyOf → Memory → World Byte → Outcome
take_to (tree.Deref pointer ty line) v k c m w = deref v line k c m w
take_to _ v k c m w = Lost

-- ---- switch: t is the whole statement
-- the statements behind so many
abbrev pub statements_behind : ℕ → Statements → Statements
statements_behind zero ss = ss
statements_behind (suc n) tree.NoStatement = tree.NoStatement
statements_behind (suc n) (tree.AndStatement t ts) = statements_behind n ts

abbrev pub jump : Statement → ℕ → Statements → List Pending → CopyOf → Memory → World Byte → Outcome
jump t target ss k c m w = goes c Past (Before (statements_behind target ss) ∷ Doing t Turns ∷ k) m w

abbrev pub jump_if_any : Statement → Option ℕ → Statements → List Pending → CopyOf → Memory → World Byte → Outcome
jump_if_any t None ss k c m w = goes c Past k m w
jump_if_any t (Some target) ss k c m w = jump t target ss k c m w

abbrev pub compares_in : Statement → Statements → Option ℕ → Datum → List TCase → List Pending → CopyOf → Memory → World Byte → Outcome
compares_in t ss default v [] k c m w = jump_if_any t default ss k c m w
compares_in t ss default v (label ∷ labels) k c m w =
    if is_case v label then jump t label.target ss k c m w
    else goes c (Compares v labels) (Doing t Chooses ∷ k) m w

abbrev pub compares_for : Statement → Stage → Datum → List TCase → List Pending → CopyOf → Memory → World Byte → Outcome
compares_for (tree.Switch e cases default ss line) Chooses v labels k c m w = compares_in (tree.Switch e cases default ss line) ss default v labels k c m w
compares_for _ _ v labels k c m w = Lost

-- the next label is compared with the value of the switch
abbrev pub compares : Datum → List TCase → List Pending → CopyOf → Memory → World Byte → Outcome
compares v labels (Doing t stage ∷ k) c m w = compares_for t stage v labels k c m w
compares v labels _ c m w = Lost

-- ---- a statement takes the value of its expression
abbrev pub take_for : Setting → Statement → Stage → Datum → List Pending → CopyOf → Memory → World Byte → Outcome
take_for s (tree.Expr e line) Tests v k c m w = goes c Past k m w
take_for s (tree.InitScalar local e line) Tests v k c m w =
    used v line (goes c (Write (behind (local_of s.program c local) 0) v 0) (Doing (tree.InitScalar local e line) Fills ∷ k) m w)
take_for s (tree.InitList local all line) (AtItem (tree.Scalar offset e) rest) v k c m w =
    used v line (goes c (Write (behind (local_of s.program c local) offset) v 0) (Doing (tree.InitList local all line) (Items (tree.Scalar offset e) rest) ∷ k) m w)
take_for s (tree.If chain otherwise line) (Picks (tree.OneArm condition chosen at) more) v k c m w =
    branch (truth_of v) at
    (goes c (Run chosen) (Doing (tree.If chain otherwise line) (InArm more) ∷ k) m w)
    (arms (tree.If chain otherwise line) more otherwise k c m w)
take_for s (tree.Loop shape first condition step body line) Begins v k c m w = test (tree.Loop shape first condition step body line) condition body k c m w
take_for s (tree.Loop shape first condition step body line) Steps v k c m w = test (tree.Loop shape first condition step body line) condition body k c m w
take_for s (tree.Loop shape first condition step body line) Tests v k c m w =
    branch (truth_of v) line (turn (tree.Loop shape first condition step body line) body k c m w) (goes c Past k m w)
take_for s (tree.Switch e cases default ss line) Tests v k c m w = used v line (goes c (Compares v cases) (Doing (tree.Switch e cases default ss line) Chooses ∷ k) m w)
take_for s (tree.Return e line) Tests v k c m w = used v line (goes c (Leaves v) (unwound k) m w)
take_for s _ _ v k c m w = Lost

-- ---- a value goes to the node that waits
abbrev pub give : Setting → Datum → List Pending → CopyOf → Memory → World Byte → Outcome
give s v (In e got ∷ k) c m w = take_in s e got v k c m w
give s v (To place ∷ k) c m w = take_to place v k c m w
give s v (Doing t stage ∷ k) c m w = take_for s t stage v k c m w
give s v _ c m w = Lost
