-- How statements begin, and what follows them (ISO/IEC 9899:1990, 6.6).
use Rattle.std.specs.Prelude.{List, [], ◌∷◌, Option, Some, None}
use Rattle.c_typed.specs.Trees as tree
use Rattle.c_typed.specs.Trees.{Expression, Statement, Arms, LastArm}
use Rattle.c_typed.specs.declared.statement.LoopForm.{LoopForm}
use Rattle.c_typed.specs.declared.statement.LoopForm.TheVariants.{While, Do, For}
use Rattle.pic_world.specs.World.{World, Ended, noted, left}
use Rattle.src_rules.specs.Accesses.{goes, items}
use Rattle.src_rules.specs.State.{Outcome, Went, Lost, state}
use Rattle.src_values.specs.Memory.{Setting, Memory, cleared}
use Rattle.src_values.specs.Control.{Eval, Holds, Run, Past, Leaves, Over, Called, Stage, Tests, Begins, Steps, Turns, Picks, InArm, Pending, In, Doing, Before, Returns, Resumes}
use Rattle.src_values.specs.Data.{Datum}
use Rattle.src_values.specs.Data.{Missing}
use Rattle.src_values.specs.Objects.{local_of}
use Rattle.src_values.specs.declared.objects.Byte.{Byte}
use Rattle.src_values.specs.declared.objects.CopyOf.{CopyOf}

-- ---- loops: t is the whole loop
abbrev pub turn : Statement → Statement → List Pending → CopyOf → Memory → World Byte → Outcome
turn t body k c m w = goes c (Run body) (Doing t Turns ∷ k) m w

-- the condition before a turn; one that is left out holds
abbrev pub test : Statement → Option Expression → Statement → List Pending → CopyOf → Memory → World Byte → Outcome
test t None body k c m w = turn t body k c m w
test t (Some e) body k c m w = goes c (Eval e) (Doing t Tests ∷ k) m w

-- what is done before the first condition
abbrev pub first_of : Statement → Option Expression → Option Expression → Statement → List Pending → CopyOf → Memory → World Byte → Outcome
first_of t None condition body k c m w = test t condition body k c m w
first_of t (Some e) condition body k c m w = goes c (Eval e) (Doing t Begins ∷ k) m w

-- what is done between a turn and the next condition
abbrev pub next_of : Statement → Option Expression → Option Expression → Statement → List Pending → CopyOf → Memory → World Byte → Outcome
next_of t None condition body k c m w = test t condition body k c m w
next_of t (Some e) condition body k c m w = goes c (Eval e) (Doing t Steps ∷ k) m w

abbrev pub loops : LoopForm → Statement → Option Expression → Option Expression → Statement → List Pending → CopyOf → Memory → World Byte → Outcome
loops While t first condition body k c m w = first_of t first condition body k c m w
loops For t first condition body k c m w = first_of t first condition body k c m w
loops Do t first condition body k c m w = turn t body k c m w

-- ---- if: t is the whole chain
abbrev pub last : Statement → LastArm → List Pending → CopyOf → Memory → World Byte → Outcome
last t tree.NoLast k c m w = goes c Past k m w
last t (tree.Last chosen) k c m w = goes c (Run chosen) (Doing t (InArm tree.NoArm) ∷ k) m w

abbrev pub arms : Statement → Arms → LastArm → List Pending → CopyOf → Memory → World Byte → Outcome
arms t tree.NoArm otherwise k c m w = last t otherwise k c m w
arms t (tree.AndArm (tree.OneArm condition chosen line) more) otherwise k c m w = goes c (Eval condition) (Doing t (Picks (tree.OneArm condition chosen line) more) ∷ k) m w

-- ---- jumps
-- to behind the nearest loop or switch
abbrev pub break_at : List Pending → CopyOf → Memory → World Byte → Outcome
break_at (Doing t Turns ∷ k) c m w = goes c Past k m w
break_at (Doing t (InArm more) ∷ k) c m w = break_at k c m w
break_at (Before ss ∷ k) c m w = break_at k c m w
break_at _ c m w = Lost

-- to behind the body of the nearest loop
abbrev pub continue_at : List Pending → CopyOf → Memory → World Byte → Outcome
continue_at (Doing (tree.Loop shape first condition step body line) Turns ∷ k) c m w = goes c Past (Doing (tree.Loop shape first condition step body line) Turns ∷ k) m w
continue_at (Doing (tree.Switch e cases default ss line) Turns ∷ k) c m w = continue_at k c m w
continue_at (Doing t (InArm more) ∷ k) c m w = continue_at k c m w
continue_at (Before ss ∷ k) c m w = continue_at k c m w
continue_at _ c m w = Lost

-- the stack when the function is left
abbrev pub unwound : List Pending → List Pending
unwound (Before ss ∷ k) = unwound k
unwound (Doing t Turns ∷ k) = unwound k
unwound (Doing t (InArm more) ∷ k) = unwound k
unwound k = k

-- ---- the end of a statement
-- the body of a loop or of a switch, or an arm, has ended
abbrev pub turned : Statement → Stage → List Pending → CopyOf → Memory → World Byte → Outcome
turned (tree.Loop shape first condition step body line) Turns k c m w = next_of (tree.Loop shape first condition step body line) step condition body k c m w
turned (tree.Switch e cases default ss line) Turns k c m w = goes c Past k m w
turned (tree.If chain otherwise line) (InArm more) k c m w = goes c Past k m w
turned _ _ k c m w = Lost

-- Main ends with an event; a function ends without a value; behind the handler what it interrupted goes on.
abbrev pub proceed : List Pending → CopyOf → Memory → World Byte → Outcome
proceed [] c m w = Went (state c Over [] m (noted Ended w)) (Some Ended)
proceed (Before tree.NoStatement ∷ k) c m w = goes c Past k m w
proceed (Before (tree.AndStatement t ts) ∷ k) c m w = goes c (Run t) (Before ts ∷ k) m w
proceed (Doing t stage ∷ k) c m w = turned t stage k c m w
proceed (Returns d ∷ k) c m w = goes c (Leaves Missing) (Returns d ∷ k) m w
proceed (Resumes d x ∷ k) c m w = goes d x k m (left w)
proceed _ c m w = Lost

-- a function is left with a value, and its call has it
abbrev pub handed : Datum → CopyOf → List Pending → Memory → World Byte → Outcome
handed v d (In (tree.Call function arguments ty line) Called ∷ k) m w = goes d (Holds v) k m w
handed v d _ m w = Lost

abbrev pub leave : Datum → List Pending → Memory → World Byte → Outcome
leave v (Returns d ∷ k) m w = handed v d k m w
leave v _ m w = Lost

-- ---- the beginning of a statement
abbrev pub begin : Setting → Statement → List Pending → CopyOf → Memory → World Byte → Outcome
begin s (tree.Block ss line) k c m w = goes c Past (Before ss ∷ k) m w
begin s (tree.Empty line) k c m w = goes c Past k m w
begin s (tree.Expr e line) k c m w = goes c (Eval e) (Doing (tree.Expr e line) Tests ∷ k) m w
begin s (tree.Declare local line) k c m w = goes c Past k (cleared m (local_of s.program c local)) w
begin s (tree.InitScalar local e line) k c m w = goes c (Eval e) (Doing (tree.InitScalar local e line) Tests ∷ k) (cleared m (local_of s.program c local)) w
begin s (tree.InitList local all line) k c m w = items s (tree.InitList local all line) (local_of s.program c local) all k c (cleared m (local_of s.program c local)) w
begin s (tree.If chain otherwise line) k c m w = arms (tree.If chain otherwise line) chain otherwise k c m w
begin s (tree.Loop shape first condition step body line) k c m w = loops shape (tree.Loop shape first condition step body line) first condition body k c m w
begin s (tree.Switch e cases default ss line) k c m w = goes c (Eval e) (Doing (tree.Switch e cases default ss line) Tests ∷ k) m w
begin s (tree.Break line) k c m w = break_at k c m w
begin s (tree.Continue line) k c m w = continue_at k c m w
begin s (tree.Return None line) k c m w = proceed (unwound k) c m w
begin s (tree.Return (Some e) line) k c m w = goes c (Eval e) (Doing (tree.Return (Some e) line) Tests ∷ k) m w
