-- What is ahead of the next state is no more than what was ahead, less the step that was counted, and less what it pays: statements and calls.
use Rattle.std.proofs.Common.{◌≡◌, ℕ, zero, suc, ◌+◌, ◌-◌, ◌*◌, ◌≤◌, Bool, true, false, List, [], ◌∷◌, length, Option, Some, None, refl, arith}
use Rattle.std.proofs.lemmas.Bool.{false≢true}
use Rattle.c_typed.specs.Sound.{is_some_arm}
use Rattle.c_typed.specs.Trees as tree
use Rattle.c_typed.specs.Trees.{Expression, Item, Statement, Statements, Arm, Arms, LastArm, Program}
use Rattle.c_typed.specs.declared.statement.LoopForm.{LoopForm}
use Rattle.c_typed.specs.declared.statement.LoopForm.TheVariants.{While, Do, For}
use Rattle.c_typed.specs.declared.statement.TCase.{TCase}
use Rattle.pic_world.specs.World.{World}
use Rattle.src_rules.specs.Giving.{branch, statements_behind, jump_if_any, compares_in, compares_for, compares, take_for, give}
use Rattle.src_rules.specs.Statements.{turn, test, first_of, next_of, loops, last, arms, break_at, continue_at, unwound, turned, proceed, handed, leave, begin}
use Rattle.src_rules.specs.Step.{has_missing, call_in, call}
use Rattle.src_values.specs.Control.{Past, Got, Passed, Called, Stage, Tests, Begins, Steps, Turns, Picks, InArm, Chooses, AtItem, Pending, In, To, Doing, Before, Returns, Resumes}
use Rattle.src_values.specs.Counting.{statement_counts, past_counts, label_counts, value_counts}
use Rattle.src_values.specs.Data.{Datum}
use Rattle.src_values.specs.Memory.{Setting, Memory, cleared}
use Rattle.src_values.specs.Objects.{behind, function_at, local_of}
use Rattle.src_values.specs.Values.{truth_of, is_case}
use Rattle.src_values.specs.declared.objects.Byte.{Byte}
use Rattle.src_values.specs.declared.objects.CopyOf.{CopyOf}
use Rattle.src_rules.specs.Accesses.{goes}
use Rattle.lower_trace.proofs.Shapes.{HasTest}
use Rattle.lag_trace.proofs.Ahead.{ahead_in_any, statement_ahead, statements_ahead, arms_ahead, last_ahead, tested_ahead, turned_ahead, turns_ahead, stack_ahead}
use Rattle.lag_trace.proofs.Bytes.{HasFewBytes, items_stay}
use Rattle.lag_trace.proofs.Stays.{Stays, counts_as, write_few, either_stays, used_stays, branch_stays, take_in_stays, take_to_stays}

-- ---- which micro-steps surely come with a mark
-- where a turn of a `while` or a `for` ends nothing but its step comes before the jump
abbrev pub turned_price : LoopForm → Option Expression → ℕ
turned_price While None = 1
turned_price For None = 1
turned_price _ _ = 0

abbrev pub past_price_for : Statement → Stage → ℕ
past_price_for (tree.Loop shape first condition step body line) Turns = turned_price shape step
past_price_for _ _ = 0

abbrev pub past_price : List Pending → ℕ
past_price (Doing t stage ∷ k) = past_price_for t stage
past_price _ = 0

-- a loop whose turn ends has its condition
abbrev pub TurnsTested : Statement → Stage → Type 0
TurnsTested (tree.Loop shape first condition step body line) Turns = HasTest shape condition
TurnsTested _ _ = Unit {0}

abbrev pub EndsTested : List Pending → Type 0
EndsTested (Doing t stage ∷ k) = TurnsTested t stage
EndsTested _ = Unit {0}

-- behind the condition of a `do` that holds, and behind the step of a `for`, comes the jump
abbrev pub held_price : Option Bool → ℕ
held_price (Some true) = 1
held_price _ = 0

abbrev pub condition_price : LoopForm → Datum → ℕ
condition_price Do v = held_price (truth_of v)
condition_price _ v = 0

abbrev pub given_price_for : Datum → Statement → Stage → ℕ
given_price_for v (tree.Loop shape first condition step body line) Steps = 1
given_price_for v (tree.Loop shape first condition step body line) Tests = condition_price shape v
given_price_for v _ _ = 0

abbrev pub given_price : Datum → List Pending → ℕ
given_price v (Doing t stage ∷ k) = given_price_for v t stage
given_price v _ = 0

-- ---- jumps shorten the stack
pub unwound_ahead : (q : List ℕ) (k : List Pending) → stack_ahead q (unwound k) ≤ stack_ahead q k
unwound_ahead q [] = omega arith
unwound_ahead q (In e got ∷ k) = omega arith
unwound_ahead q (To place ∷ k) = omega arith
unwound_ahead q (Doing t Turns ∷ k) = let d = unwound_ahead q k in omega arith
unwound_ahead q (Doing t (InArm more) ∷ k) = let d = unwound_ahead q k in omega arith
unwound_ahead q (Doing t _ ∷ k) = omega arith
unwound_ahead q (Before ss ∷ k) = let d = unwound_ahead q k in omega arith
unwound_ahead q (Returns d ∷ k) = omega arith
unwound_ahead q (Resumes d x ∷ k) = omega arith

behind_ahead : (q : List ℕ) (n : ℕ) (ss : Statements) → statements_ahead q (statements_behind n ss) ≤ statements_ahead q ss
unfolding statement_ahead
behind_ahead q zero ss = omega arith
behind_ahead q (suc n) tree.NoStatement = omega arith
behind_ahead q (suc n) (tree.AndStatement t ts) = let d = behind_ahead q n ts in omega arith

turned_most : (q : List ℕ) (shape : LoopForm) (condition step : Option Expression) → turned_ahead q shape condition step ≤ ahead_in_any q condition + ahead_in_any q step
turned_most q While condition step = omega arith
turned_most q Do condition step = omega arith
turned_most q For condition step = omega arith

tested_most : (q : List ℕ) (shape : LoopForm) (step : Option Expression) (body : Statement) → tested_ahead q shape step body ≤ ahead_in_any q step + statement_ahead q body
tested_most q While step body = omega arith
tested_most q Do step body = omega arith
tested_most q For step body = omega arith

-- what doesn't wait for the end of a body
abbrev IsOther : Stage → Type 0
IsOther Turns = ⊥
IsOther (InArm more) = ⊥
IsOther _ = Unit {0}

-- a choice has an arm
abbrev pub SomeArm : Statement → Type 0
SomeArm (tree.If chain otherwise line) = is_some_arm chain ≡ true
SomeArm _ = Unit {0}

-- a turn of the loop on top has no more steps than `room`
abbrev pub IsShort : List ℕ → ℕ → List Pending → Type 0
IsShort q room (Doing (tree.Loop shape first condition step body line) stage ∷ k) = ahead_in_any q condition + (ahead_in_any q step + statement_ahead q body) ≤ room
IsShort q room _ = Unit {0}

-- the body of the function that is called has fewer
abbrev pub IsShortCall : List ℕ → Program → ℕ → List Pending → Type 0
IsShortCall q p room (In (tree.Call f arguments ty line) (Passed values) ∷ k) = statements_ahead q (function_at p f).body + 2 ≤ room
IsShortCall q p room _ = Unit {0}

module _ (s : Setting) (room most : ℕ) where
  abbrev q : List ℕ
  q = s.program.sizes

  abbrev p : Program
  p = s.program

  -- ---- loops
  turn_stays : (n : ℕ) (shape : LoopForm) (first condition step : Option Expression) (body : Statement) (line : ℕ) (k : List Pending) (c : CopyOf) (m : Memory) (w : World Byte) → n + statement_ahead q body + ahead_in_any q condition + ahead_in_any q step + stack_ahead q k ≤ most
      → Stays q most n (turn (tree.Loop shape first condition step body line) body k c m w)
  turn_stays n shape first condition step body line k c m w h = let d = turned_most q shape condition step in omega arith

  test_stays : (n : ℕ) (shape : LoopForm) (first condition step : Option Expression) (body : Statement) (line : ℕ) (k : List Pending) (c : CopyOf) (m : Memory) (w : World Byte) → n + statement_ahead q body + ahead_in_any q condition + ahead_in_any q step + stack_ahead q k ≤ most
      → Stays q most n (test (tree.Loop shape first condition step body line) condition body k c m w)
  test_stays n shape first None step body line k c m w h = turn_stays n shape first None step body line k c m w h
  test_stays n shape first (Some e) step body line k c m w h = let d = tested_most q shape step body in omega arith

  first_stays : (shape : LoopForm) (first condition step : Option Expression) (body : Statement) (line : ℕ) (k : List Pending) (c : CopyOf) (m : Memory) (w : World Byte) → 1 + ahead_in_any q first + statement_ahead q body + ahead_in_any q condition + ahead_in_any q step + stack_ahead q k ≤ most
      → Stays q most 1 (first_of (tree.Loop shape first condition step body line) first condition body k c m w)
  first_stays shape None condition step body line k c m w h = test_stays 1 shape None condition step body line k c m w (omega arith)
  first_stays shape (Some e) condition step body line k c m w h = omega arith

  -- A turn ends: a step or a condition follows, or a jump does.
  next_stays : (shape : LoopForm) (first condition step : Option Expression) (body : Statement) (line : ℕ) (k : List Pending) (c : CopyOf) (m : Memory) (w : World Byte) → HasTest shape condition → ahead_in_any q condition + (ahead_in_any q step + statement_ahead q body) ≤ room
      → turned_ahead q shape condition step + stack_ahead q k + turned_price shape step * room ≤ most
      → Stays q most 0 (next_of (tree.Loop shape first condition step body line) step condition body k c m w)
  next_stays While first condition None body line k c m w tested short h = test_stays 0 While first condition None body line k c m w (omega arith)
  next_stays For first condition None body line k c m w tested short h = test_stays 0 For first condition None body line k c m w (omega arith)
  next_stays Do first None None body line k c m w tested short h = absurd tested
  next_stays Do first (Some e) None body line k c m w tested short h = omega arith
  next_stays While first condition (Some e) body line k c m w tested short h = omega arith
  next_stays For first condition (Some e) body line k c m w tested short h = omega arith
  next_stays Do first condition (Some e) body line k c m w tested short h = omega arith

  -- behind the condition of a `do` its body begins again, or not
  again_stays : (o : Option Bool) (first condition step : Option Expression) (body : Statement) (line : ℕ) (k : List Pending) (c : CopyOf) (m : Memory) (w : World Byte) → ahead_in_any q condition + (ahead_in_any q step + statement_ahead q body) ≤ room
      → stack_ahead q k + held_price o * room ≤ most → Stays q most 0 (branch o line (turn (tree.Loop Do first condition step body line) body k c m w) (goes c Past k m w))
  again_stays None first condition step body line k c m w short h = tt
  again_stays (Some true) first condition step body line k c m w short h = omega arith
  again_stays (Some false) first condition step body line k c m w short h = omega arith

  loops_stay : (shape : LoopForm) (first condition step : Option Expression) (body : Statement) (line : ℕ) (k : List Pending) (c : CopyOf) (m : Memory) (w : World Byte) → 1 + ahead_in_any q first + statement_ahead q body + ahead_in_any q condition + ahead_in_any q step + stack_ahead q k ≤ most
      → Stays q most 1 (loops shape (tree.Loop shape first condition step body line) first condition body k c m w)
  loops_stay While first condition step body line k c m w h = first_stays While first condition step body line k c m w h
  loops_stay For first condition step body line k c m w h = first_stays For first condition step body line k c m w h
  loops_stay Do first condition step body line k c m w h = turn_stays 1 Do first condition step body line k c m w (omega arith)

  -- ---- if
  last_stays : (n : ℕ) (chain : Arms) (all otherwise : LastArm) (line : ℕ) (k : List Pending) (c : CopyOf) (m : Memory) (w : World Byte) → n + last_ahead q otherwise + stack_ahead q k ≤ most → Stays q most n (last (tree.If chain all line) otherwise k c m w)
  unfolding statement_ahead
  last_stays n chain all tree.NoLast line k c m w h = omega arith
  last_stays n chain all (tree.Last chosen) line k c m w h = omega arith

  arms_stay : (chain more : Arms) (otherwise : LastArm) (line : ℕ) (k : List Pending) (c : CopyOf) (m : Memory) (w : World Byte) → arms_ahead q more + last_ahead q otherwise + stack_ahead q k ≤ most → Stays q most 0 (arms (tree.If chain otherwise line) more otherwise k c m w)
  unfolding statement_ahead
  arms_stay chain tree.NoArm otherwise line k c m w h = last_stays 0 chain otherwise otherwise line k c m w (omega arith)
  arms_stay chain (tree.AndArm (tree.OneArm condition chosen at) more) otherwise line k c m w h = omega arith

  chain_stays : (all chain : Arms) (otherwise : LastArm) (line : ℕ) (k : List Pending) (c : CopyOf) (m : Memory) (w : World Byte) → is_some_arm chain ≡ true → arms_ahead q chain + last_ahead q otherwise + stack_ahead q k ≤ most → Stays q most 1 (arms (tree.If all otherwise line) chain otherwise k c m w)
  unfolding statement_ahead
  chain_stays all tree.NoArm otherwise line k c m w some h = absurd (false≢true some)
  chain_stays all (tree.AndArm (tree.OneArm condition chosen at) more) otherwise line k c m w some h = omega arith

  -- ---- jumps
  break_stays : (k : List Pending) (c : CopyOf) (m : Memory) (w : World Byte) → 1 + stack_ahead q k ≤ most → Stays q most 1 (break_at k c m w)
  break_stays [] c m w h = tt
  break_stays (In e got ∷ k) c m w h = tt
  break_stays (To place ∷ k) c m w h = tt
  break_stays (Doing t Turns ∷ k) c m w h = omega arith
  break_stays (Doing t (InArm more) ∷ k) c m w h = break_stays k c m w (omega arith)
  break_stays (Doing t _ ∷ k) c m w h = tt
  break_stays (Before ss ∷ k) c m w h = break_stays k c m w (omega arith)
  break_stays (Returns d ∷ k) c m w h = tt
  break_stays (Resumes d x ∷ k) c m w h = tt

  continue_stays : (k : List Pending) (c : CopyOf) (m : Memory) (w : World Byte) → 1 + stack_ahead q k ≤ most → Stays q most 1 (continue_at k c m w)
  continue_stays [] c m w h = tt
  continue_stays (In e got ∷ k) c m w h = tt
  continue_stays (To place ∷ k) c m w h = tt
  continue_stays (Doing (tree.Loop shape first condition step body line) Turns ∷ k) c m w h = omega arith
  continue_stays (Doing (tree.Switch e cases default ss line) Turns ∷ k) c m w h = continue_stays k c m w (omega arith)
  continue_stays (Doing t (InArm more) ∷ k) c m w h = continue_stays k c m w (omega arith)
  continue_stays (Doing _ _ ∷ k) c m w h = tt
  continue_stays (Before ss ∷ k) c m w h = continue_stays k c m w (omega arith)
  continue_stays (Returns d ∷ k) c m w h = tt
  continue_stays (Resumes d x ∷ k) c m w h = tt

  -- ---- the end of a statement
  other_stays : (n : ℕ) (t : Statement) (stage : Stage) (k : List Pending) (c : CopyOf) (m : Memory) (w : World Byte) → IsOther stage → Stays q most n (turned t stage k c m w)
  other_stays n (tree.Loop shape first condition step body line) Turns k c m w o = absurd o
  other_stays n (tree.Switch e cases default ss line) Turns k c m w o = absurd o
  other_stays n (tree.If chain otherwise line) (InArm more) k c m w o = absurd o
  other_stays n _ _ k c m w o = tt

  -- a function is left without a value
  returns_stay : (k : List Pending) (c : CopyOf) (m : Memory) (w : World Byte) → 1 + stack_ahead q k ≤ most → Stays q most 1 (proceed (unwound k) c m w)
  returns_stay [] c m w h = omega arith
  returns_stay (In e got ∷ k) c m w h = tt
  returns_stay (To place ∷ k) c m w h = tt
  returns_stay (Doing t Turns ∷ k) c m w h = returns_stay k c m w (omega arith)
  returns_stay (Doing t (InArm more) ∷ k) c m w h = returns_stay k c m w (omega arith)
  returns_stay (Doing t stage ∷ k) c m w h = other_stays 1 t stage k c m w tt
  returns_stay (Before ss ∷ k) c m w h = returns_stay k c m w (omega arith)
  returns_stay (Returns d ∷ k) c m w h = omega arith
  returns_stay (Resumes d x ∷ k) c m w h = omega arith

  turned_stays : (t : Statement) (stage : Stage) (k : List Pending) (c : CopyOf) (m : Memory) (w : World Byte) → TurnsTested t stage → IsShort q room (Doing t stage ∷ k) → stack_ahead q (Doing t stage ∷ k) + past_price_for t stage * room ≤ most → Stays q most 0 (turned t stage k c m w)
  turned_stays (tree.Loop shape first condition step body line) Turns k c m w tested z h = next_stays shape first condition step body line k c m w tested z (omega arith)
  turned_stays (tree.Switch e cases default ss line) Turns k c m w tested z h = omega arith
  turned_stays (tree.If chain otherwise line) (InArm more) k c m w tested z h = omega arith
  turned_stays _ _ k c m w tested z h = tt

  pub proceed_stays : (k : List Pending) (c : CopyOf) (m : Memory) (w : World Byte) → EndsTested k → IsShort q room k → stack_ahead q k + past_price k * room ≤ most → Stays q most (counts_as (past_counts p c k)) (proceed k c m w)
  unfolding statement_ahead
  proceed_stays [] c m w tested z h = omega arith
  proceed_stays (In e got ∷ k) c m w tested z h = tt
  proceed_stays (To place ∷ k) c m w tested z h = tt
  proceed_stays (Doing t stage ∷ k) c m w tested z h = turned_stays t stage k c m w tested z h
  proceed_stays (Before tree.NoStatement ∷ k) c m w tested z h = omega arith
  proceed_stays (Before (tree.AndStatement t ts) ∷ k) c m w tested z h = omega arith
  proceed_stays (Returns d ∷ k) c m w tested z h = omega arith
  proceed_stays (Resumes d x ∷ k) c m w tested z h = omega arith

  -- ---- statements begin
  pub begin_stays : (t : Statement) (k : List Pending) (c : CopyOf) (m : Memory) (w : World Byte) → HasFewBytes s c → SomeArm t → statement_ahead q t + stack_ahead q k ≤ most → Stays q most (counts_as (statement_counts t)) (begin s t k c m w)
  unfolding statement_ahead
  begin_stays (tree.Block ss line) k c m w small some h = omega arith
  begin_stays (tree.Empty line) k c m w small some h = omega arith
  begin_stays (tree.Expr e line) k c m w small some h = omega arith
  begin_stays (tree.Declare local line) k c m w small some h = omega arith
  begin_stays (tree.InitScalar local e line) k c m w small some h = omega arith
  begin_stays (tree.InitList local all line) k c m w small some h = items_stay s most local all line (local_of s.program c local) all k c (cleared m (local_of s.program c local)) w (small local) h
  begin_stays (tree.If chain otherwise line) k c m w small some h = chain_stays chain chain otherwise line k c m w some h
  begin_stays (tree.Loop shape first condition step body line) k c m w small some h = loops_stay shape first condition step body line k c m w (omega arith)
  begin_stays (tree.Switch e cases default ss line) k c m w small some h = omega arith
  begin_stays (tree.Break line) k c m w small some h = break_stays k c m w h
  begin_stays (tree.Continue line) k c m w small some h = continue_stays k c m w h
  begin_stays (tree.Return None line) k c m w small some h = returns_stay k c m w (omega arith)
  begin_stays (tree.Return (Some e) line) k c m w small some h = omega arith

  -- ---- switch
  jump_any_stays : (n : ℕ) (t : Statement) (o : Option ℕ) (ss : Statements) (k : List Pending) (c : CopyOf) (m : Memory) (w : World Byte) → turns_ahead q t ≡ 0 → n + statements_ahead q ss + stack_ahead q k ≤ most → Stays q most n (jump_if_any t o ss k c m w)
  jump_any_stays n t None ss k c m w e h = omega arith
  jump_any_stays n t (Some target) ss k c m w e h = let d = behind_ahead q target ss in omega arith

  compares_in_stay : (e : Expression) (cases : List TCase) (default : Option ℕ) (ss : Statements) (line : ℕ) (v : Datum) (labels : List TCase) (k : List Pending) (c : CopyOf) (m : Memory) (w : World Byte) → length labels + statements_ahead q ss + stack_ahead q k ≤ most
      → Stays q most (counts_as (label_counts labels)) (compares_in (tree.Switch e cases default ss line) ss default v labels k c m w)
  compares_in_stay e cases default ss line v [] k c m w h = jump_any_stays 0 (tree.Switch e cases default ss line) default ss k c m w refl (omega arith)
  compares_in_stay e cases default ss line v (label ∷ labels) k c m w h = either_stays s most 1 (is_case v label) _ _ (jump_any_stays 1 (tree.Switch e cases default ss line) (Some label.target) ss k c m w refl (omega arith)) (omega arith)

  compares_for_stay : (t : Statement) (stage : Stage) (v : Datum) (labels : List TCase) (k : List Pending) (c : CopyOf) (m : Memory) (w : World Byte) → length labels + stack_ahead q (Doing t stage ∷ k) ≤ most → Stays q most (counts_as (label_counts labels)) (compares_for t stage v labels k c m w)
  compares_for_stay (tree.Switch e cases default ss line) Chooses v labels k c m w h = compares_in_stay e cases default ss line v labels k c m w (omega arith)
  compares_for_stay _ _ v labels k c m w h = tt

  pub compares_stay : (v : Datum) (labels : List TCase) (k : List Pending) (c : CopyOf) (m : Memory) (w : World Byte) → length labels + stack_ahead q k ≤ most → Stays q most (counts_as (label_counts labels)) (compares v labels k c m w)
  compares_stay v labels [] c m w h = tt
  compares_stay v labels (In e got ∷ k) c m w h = tt
  compares_stay v labels (To place ∷ k) c m w h = tt
  compares_stay v labels (Doing t stage ∷ k) c m w h = compares_for_stay t stage v labels k c m w h
  compares_stay v labels (Before ss ∷ k) c m w h = tt
  compares_stay v labels (Returns d ∷ k) c m w h = tt
  compares_stay v labels (Resumes d x ∷ k) c m w h = tt

  -- ---- a statement takes a value
  take_for_stays : (t : Statement) (stage : Stage) (v : Datum) (k : List Pending) (c : CopyOf) (m : Memory) (w : World Byte) → IsShort q room (Doing t stage ∷ k) → stack_ahead q (Doing t stage ∷ k) + given_price_for v t stage * room ≤ most → Stays q most 0 (take_for s t stage v k c m w)
  take_for_stays (tree.Expr e line) Tests v k c m w z h = omega arith
  take_for_stays (tree.InitScalar local e line) Tests v k c m w z h = let b = write_few (behind (local_of s.program c local) 0) v in used_stays s most 0 v line _ (omega arith)
  take_for_stays (tree.InitList local all line) (AtItem (tree.Scalar offset e) rest) v k c m w z h = let b = write_few (behind (local_of s.program c local) offset) v in used_stays s most 0 v line _ (omega arith)
  take_for_stays (tree.If chain otherwise line) (Picks (tree.OneArm condition chosen at) more) v k c m w z h = branch_stays s most 0 (truth_of v) at _ _ (omega arith) (arms_stay chain more otherwise line k c m w (omega arith))
  take_for_stays (tree.Loop shape first condition step body line) Begins v k c m w z h = test_stays 0 shape first condition step body line k c m w (omega arith)
  take_for_stays (tree.Loop shape first condition step body line) Steps v k c m w z h = test_stays 0 shape first condition step body line k c m w (omega arith)
  take_for_stays (tree.Loop While first condition step body line) Tests v k c m w z h = branch_stays s most 0 (truth_of v) line _ _ (omega arith) (omega arith)
  take_for_stays (tree.Loop For first condition step body line) Tests v k c m w z h = branch_stays s most 0 (truth_of v) line _ _ (omega arith) (omega arith)
  take_for_stays (tree.Loop Do first condition step body line) Tests v k c m w z h = again_stays (truth_of v) first condition step body line k c m w z (omega arith)
  take_for_stays (tree.Switch e cases default ss line) Tests v k c m w z h = used_stays s most 0 v line _ (omega arith)
  take_for_stays (tree.Return e line) Tests v k c m w z h = let d = unwound_ahead q k in used_stays s most 0 v line _ (omega arith)
  take_for_stays _ _ v k c m w z h = tt

  pub give_stays : (v : Datum) (k : List Pending) (c : CopyOf) (m : Memory) (w : World Byte) → IsShort q room k → stack_ahead q k + given_price v k * room ≤ most → Stays q most (counts_as (value_counts v k)) (give s v k c m w)
  give_stays v [] c m w z h = tt
  give_stays v (In e got ∷ k) c m w z h = take_in_stays s most e got v k c m w (omega arith)
  give_stays v (To place ∷ k) c m w z h = take_to_stays s most place v k c m w (omega arith)
  give_stays v (Doing t stage ∷ k) c m w z h = take_for_stays t stage v k c m w z h
  give_stays v (Before ss ∷ k) c m w z h = tt
  give_stays v (Returns d ∷ k) c m w z h = tt
  give_stays v (Resumes d x ∷ k) c m w z h = tt

  -- ---- calls
  call_in_stays : (e : Expression) (got : Got) (k : List Pending) (c : CopyOf) (m : Memory) (w : World Byte) → IsShortCall q p room (In e got ∷ k) → stack_ahead q k + room ≤ most → Stays q most 1 (call_in p e got k c m w)
  call_in_stays (tree.Call f arguments ty line) (Passed values) k c m w short h = either_stays s most 1 (has_missing values) _ _ tt (omega arith)
  call_in_stays _ _ k c m w short h = tt

  pub call_stays : (k : List Pending) (c : CopyOf) (m : Memory) (w : World Byte) → IsShortCall q p room k → stack_ahead q k + room ≤ most → Stays q most 1 (call p k c m w)
  call_stays [] c m w short h = tt
  call_stays (In e got ∷ k) c m w short h = call_in_stays e got k c m w short (omega arith)
  call_stays (To place ∷ k) c m w short h = tt
  call_stays (Doing t stage ∷ k) c m w short h = tt
  call_stays (Before ss ∷ k) c m w short h = tt
  call_stays (Returns d ∷ k) c m w short h = tt
  call_stays (Resumes d x ∷ k) c m w short h = tt

  handed_stays : (v : Datum) (d : CopyOf) (k : List Pending) (m : Memory) (w : World Byte) → stack_ahead q k ≤ most → Stays q most 0 (handed v d k m w)
  handed_stays v d (In (tree.Call function arguments ty line) Called ∷ k) m w h = omega arith
  handed_stays v d _ m w h = tt

  pub leave_stays : (v : Datum) (k : List Pending) (m : Memory) (w : World Byte) → stack_ahead q k - 1 ≤ most → Stays q most 0 (leave v k m w)
  leave_stays v [] m w h = tt
  leave_stays v (In e got ∷ k) m w h = tt
  leave_stays v (To place ∷ k) m w h = tt
  leave_stays v (Doing t stage ∷ k) m w h = tt
  leave_stays v (Before ss ∷ k) m w h = tt
  leave_stays v (Returns d ∷ k) m w h = handed_stays v d k m w (omega arith)
  leave_stays v (Resumes d x ∷ k) m w h = tt
