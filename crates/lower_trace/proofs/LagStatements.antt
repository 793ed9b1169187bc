-- What is ahead of the next state is no more than what was ahead, less the step that was counted, and less what it costs: statements and calls.
use Rattle.std.proofs.Common.{◌≡◌, ℕ, zero, suc, ◌+◌, ◌*◌, ◌≤◌, true, List, [], ◌∷◌, length, Option, Some, None, refl, arith}
use Rattle.std.proofs.lemmas.Bool.{false≢true}
use Rattle.c_typed.specs.Sound.{is_some_arm}
use Rattle.c_typed.specs.TreeNodes.{statement_nodes, nodes_of_body}
use Rattle.c_typed.specs.Trees as tree
use Rattle.c_typed.specs.Trees.{Expression, Item, Statement, Statements, Arm, Arms, LastArm, Program}
use Rattle.c_typed.specs.declared.statement.LoopForm.{LoopForm}
use Rattle.c_typed.specs.declared.statement.LoopForm.TheVariants.{While, Do, For}
use Rattle.c_typed.specs.declared.statement.TCase.{TCase}
use Rattle.pic_world.specs.World.{World, left}
use Rattle.src_rules.proofs.Rooms.{cap, Sized}
use Rattle.src_rules.specs.Giving.{statements_behind, jump_if_any, compares_in, compares_for, compares, take_for, give}
use Rattle.src_rules.specs.Statements.{turn, test, first_of, next_of, loops, last, arms, break_at, continue_at, unwound, turned, proceed, handed, leave, begin}
use Rattle.src_rules.specs.Step.{has_missing, call_in, call}
use Rattle.src_values.specs.Control.{Got, Passed, Called, Stage, Tests, Begins, Steps, Turns, Picks, InArm, Chooses, AtItem, Pending, In, To, Doing, Before, Returns, Resumes}
use Rattle.src_values.specs.Counting.{statement_counts, past_counts, label_counts, value_counts}
use Rattle.src_values.specs.Data.{Datum}
use Rattle.src_values.specs.Memory.{Setting, Memory, cleared}
use Rattle.src_values.specs.Objects.{function_at, local_of}
use Rattle.src_values.specs.Values.{truth_of, is_case}
use Rattle.src_values.specs.declared.objects.Byte.{Byte}
use Rattle.src_values.specs.declared.objects.CopyOf.{CopyOf}
use Rattle.lower_trace.proofs.LagAccesses.{enabled_small, items_stay}
use Rattle.lower_trace.proofs.Shapes.{HasTest}
use Rattle.lower_trace.proofs.LagStays.{enabled, Stays, counts_as, either_stays, used_stays, branch_stays, take_in_stays, take_to_stays}
use Rattle.lower_trace.proofs.LagWeights.{ahead_in_any, statement_ahead, statements_ahead, arms_ahead, last_ahead, turns_ahead, stack_ahead, few_in_any, few_statement, few_statements}

-- ---- which micro-steps surely cost an instruction
-- a turn ends with a jump where neither a step nor a condition follows
abbrev pub turned_price : LoopForm → Option Expression → Option Expression → ℕ
turned_price Do step condition = 0
turned_price While None None = 1
turned_price For None None = 1
turned_price _ _ _ = 0

abbrev pub past_price_for : Statement → Stage → ℕ
past_price_for (tree.Loop shape first condition step body line) Turns = turned_price shape step condition
past_price_for _ _ = 0

abbrev pub past_price : List Pending → ℕ
past_price (Doing t stage ∷ k) = past_price_for t stage
past_price (Returns d ∷ k) = 1
past_price (Resumes d x ∷ k) = 1
past_price _ = 0

-- a loop whose turn ends has its condition
abbrev TurnsTested : Statement → Stage → Type 0
TurnsTested (tree.Loop shape first condition step body line) Turns = HasTest shape condition
TurnsTested _ _ = Unit {0}

abbrev pub EndsTested : List Pending → Type 0
EndsTested (Doing t stage ∷ k) = TurnsTested t stage
EndsTested _ = Unit {0}

-- the value of a condition, or behind a turn
abbrev pub given_price_for : Statement → Stage → ℕ
given_price_for (tree.Loop shape first condition step body line) Steps = 1
given_price_for (tree.Loop shape first condition step body line) Tests = 1
given_price_for _ _ = 0

abbrev pub given_price : List Pending → ℕ
given_price (Doing t stage ∷ k) = given_price_for t stage
given_price _ = 0

-- ---- jumps shorten the stack
pub unwound_ahead : (k : List Pending) → stack_ahead (unwound k) ≤ stack_ahead k
unwound_ahead [] = omega arith
unwound_ahead (In e got ∷ k) = omega arith
unwound_ahead (To place ∷ k) = omega arith
unwound_ahead (Doing t Turns ∷ k) = let d = unwound_ahead k in omega arith
unwound_ahead (Doing t (InArm more) ∷ k) = let d = unwound_ahead k in omega arith
unwound_ahead (Doing t _ ∷ k) = omega arith
unwound_ahead (Before ss ∷ k) = let d = unwound_ahead k in omega arith
unwound_ahead (Returns d ∷ k) = omega arith
unwound_ahead (Resumes d x ∷ k) = omega arith

behind_ahead : (n : ℕ) (ss : Statements) → statements_ahead (statements_behind n ss) ≤ statements_ahead ss
unfolding statement_ahead
behind_ahead zero ss = omega arith
behind_ahead (suc n) tree.NoStatement = omega arith
behind_ahead (suc n) (tree.AndStatement t ts) = let d = behind_ahead n ts in omega arith

-- what doesn't wait for the end of a body
abbrev IsOther : Stage → Type 0
IsOther Turns = ⊥
IsOther (InArm more) = ⊥
IsOther _ = Unit {0}

-- a choice has an arm
abbrev pub SomeArm : Statement → Type 0
SomeArm (tree.If chain otherwise line) = is_some_arm chain ≡ true
SomeArm _ = Unit {0}

-- ---- parts of a program are no larger than it
module _ (p : Program) (nodes : ℕ) (bodies : (f : ℕ) → 1 + nodes_of_body (function_at p f).body ≤ nodes) where
  pub cap_small : (k : List Pending) (c : CopyOf) → Sized p c k → cap p c k ≤ nodes
  cap_small [] c z = bodies c.function
  cap_small (In e got ∷ k) c z = let d = cap_small k c z.2 in let a = z.0 in omega arith
  cap_small (To place ∷ k) c z = let d = cap_small k c z.1 in let a = z.0 in omega arith
  cap_small (Doing t stage ∷ k) c z = let d = cap_small k c z.2 in let a = z.0 in omega arith
  cap_small (Before ss ∷ k) c z = let d = cap_small k c z.1 in omega arith
  cap_small (Returns d ∷ k) c z = bodies c.function
  cap_small (Resumes d x ∷ k) c z = bodies c.function

  pub some_nodes : 1 ≤ nodes
  some_nodes = let d = bodies 0 in omega arith

  -- a loop's parts, once each
  loop_small : (shape : LoopForm) (first condition step : Option Expression) (body : Statement) (line : ℕ) (stage : Stage) (k : List Pending) (c : CopyOf) → Sized p c (Doing (tree.Loop shape first condition step body line) stage ∷ k)
      → ahead_in_any condition + ahead_in_any step + statement_ahead body ≤ nodes
  unfolding statement_nodes
  loop_small shape first condition step body line stage k c z =
      let d = cap_small k c z.2 in
      let a = z.0 in
      let x = few_in_any condition in
      let y = few_in_any step in
      let b = few_statement body in
      omega arith

  module _ (s : Setting) (most : ℕ) where
    -- ---- loops
    turn_stays : (n : ℕ) (shape : LoopForm) (first condition step : Option Expression) (body : Statement) (line : ℕ) (k : List Pending) (c : CopyOf) (m : Memory) (w : World Byte) → n + statement_ahead body + ahead_in_any condition + ahead_in_any step + stack_ahead k + enabled w ≤ most
        → Stays most n (turn (tree.Loop shape first condition step body line) body k c m w)
    turn_stays n shape first condition step body line k c m w h = omega arith

    test_stays : (n : ℕ) (shape : LoopForm) (first condition step : Option Expression) (body : Statement) (line : ℕ) (k : List Pending) (c : CopyOf) (m : Memory) (w : World Byte) → n + statement_ahead body + ahead_in_any condition + ahead_in_any step + stack_ahead k + enabled w ≤ most
        → Stays most n (test (tree.Loop shape first condition step body line) condition body k c m w)
    test_stays n shape first None step body line k c m w h = turn_stays n shape first None step body line k c m w h
    test_stays n shape first (Some e) step body line k c m w h = omega arith

    first_stays : (shape : LoopForm) (first condition step : Option Expression) (body : Statement) (line : ℕ) (k : List Pending) (c : CopyOf) (m : Memory) (w : World Byte) → 1 + ahead_in_any first + statement_ahead body + ahead_in_any condition + ahead_in_any step + stack_ahead k + enabled w ≤ most
        → Stays most 1 (first_of (tree.Loop shape first condition step body line) first condition body k c m w)
    first_stays shape None condition step body line k c m w h = test_stays 1 shape None condition step body line k c m w (omega arith)
    first_stays shape (Some e) condition step body line k c m w h = omega arith

    -- A turn ends: a step or a condition follows, or a jump does.
    next_stays : (shape : LoopForm) (first condition step : Option Expression) (body : Statement) (line : ℕ) (k : List Pending) (c : CopyOf) (m : Memory) (w : World Byte) → HasTest shape condition → ahead_in_any condition + ahead_in_any step + statement_ahead body ≤ nodes
        → ahead_in_any condition + ahead_in_any step + stack_ahead k + enabled w + turned_price shape step condition * nodes ≤ most
        → Stays most 0 (next_of (tree.Loop shape first condition step body line) step condition body k c m w)
    next_stays shape first condition (Some e) body line k c m w tested small h = omega arith
    next_stays While first None None body line k c m w tested small h = turn_stays 0 While first None None body line k c m w (omega arith)
    next_stays For first None None body line k c m w tested small h = turn_stays 0 For first None None body line k c m w (omega arith)
    next_stays Do first None None body line k c m w tested small h = absurd tested
    next_stays shape first (Some e) None body line k c m w tested small h = omega arith

    loops_stay : (shape : LoopForm) (first condition step : Option Expression) (body : Statement) (line : ℕ) (k : List Pending) (c : CopyOf) (m : Memory) (w : World Byte) → 1 + ahead_in_any first + statement_ahead body + ahead_in_any condition + ahead_in_any step + stack_ahead k + enabled w ≤ most
        → Stays most 1 (loops shape (tree.Loop shape first condition step body line) first condition body k c m w)
    loops_stay While first condition step body line k c m w h = first_stays While first condition step body line k c m w h
    loops_stay For first condition step body line k c m w h = first_stays For first condition step body line k c m w h
    loops_stay Do first condition step body line k c m w h = turn_stays 1 Do first condition step body line k c m w (omega arith)

    -- ---- if
    last_stays : (n : ℕ) (chain : Arms) (all otherwise : LastArm) (line : ℕ) (k : List Pending) (c : CopyOf) (m : Memory) (w : World Byte) → n + last_ahead otherwise + stack_ahead k + enabled w ≤ most → Stays most n (last (tree.If chain all line) otherwise k c m w)
    unfolding statement_ahead
    last_stays n chain all tree.NoLast line k c m w h = omega arith
    last_stays n chain all (tree.Last chosen) line k c m w h = omega arith

    arms_stay : (chain more : Arms) (otherwise : LastArm) (line : ℕ) (k : List Pending) (c : CopyOf) (m : Memory) (w : World Byte) → arms_ahead more + last_ahead otherwise + stack_ahead k + enabled w ≤ most → Stays most 0 (arms (tree.If chain otherwise line) more otherwise k c m w)
    unfolding statement_ahead
    arms_stay chain tree.NoArm otherwise line k c m w h = last_stays 0 chain otherwise otherwise line k c m w (omega arith)
    arms_stay chain (tree.AndArm (tree.OneArm condition chosen at) more) otherwise line k c m w h = omega arith

    chain_stays : (all chain : Arms) (otherwise : LastArm) (line : ℕ) (k : List Pending) (c : CopyOf) (m : Memory) (w : World Byte) → is_some_arm chain ≡ true → arms_ahead chain + last_ahead otherwise + stack_ahead k + enabled w ≤ most → Stays most 1 (arms (tree.If all otherwise line) chain otherwise k c m w)
    unfolding statement_ahead
    chain_stays all tree.NoArm otherwise line k c m w some h = absurd (false≢true some)
    chain_stays all (tree.AndArm (tree.OneArm condition chosen at) more) otherwise line k c m w some h = omega arith

    -- ---- jumps
    break_stays : (k : List Pending) (c : CopyOf) (m : Memory) (w : World Byte) → 1 + stack_ahead k + enabled w ≤ most → Stays most 1 (break_at k c m w)
    break_stays [] c m w h = tt
    break_stays (In e got ∷ k) c m w h = tt
    break_stays (To place ∷ k) c m w h = tt
    break_stays (Doing t Turns ∷ k) c m w h = omega arith
    break_stays (Doing t (InArm more) ∷ k) c m w h = break_stays k c m w (omega arith)
    break_stays (Doing t _ ∷ k) c m w h = tt
    break_stays (Before ss ∷ k) c m w h = break_stays k c m w (omega arith)
    break_stays (Returns d ∷ k) c m w h = tt
    break_stays (Resumes d x ∷ k) c m w h = tt

    continue_stays : (k : List Pending) (c : CopyOf) (m : Memory) (w : World Byte) → 1 + stack_ahead k + enabled w ≤ most → Stays most 1 (continue_at k c m w)
    continue_stays [] c m w h = tt
    continue_stays (In e got ∷ k) c m w h = tt
    continue_stays (To place ∷ k) c m w h = tt
    continue_stays (Doing (tree.Loop shape first condition step body line) Turns ∷ k) c m w h = omega arith
    continue_stays (Doing (tree.Switch e cases default ss line) Turns ∷ k) c m w h = continue_stays k c m w (omega arith)
    continue_stays (Doing t (InArm more) ∷ k) c m w h = continue_stays k c m w (omega arith)
    continue_stays (Doing _ _ ∷ k) c m w h = tt
    continue_stays (Before ss ∷ k) c m w h = continue_stays k c m w (omega arith)
    continue_stays (Returns d ∷ k) c m w h = tt
    continue_stays (Resumes d x ∷ k) c m w h = tt

    -- ---- the end of a statement
    other_stays : (n : ℕ) (t : Statement) (stage : Stage) (k : List Pending) (c : CopyOf) (m : Memory) (w : World Byte) → IsOther stage → Stays most n (turned t stage k c m w)
    other_stays n (tree.Loop shape first condition step body line) Turns k c m w o = absurd o
    other_stays n (tree.Switch e cases default ss line) Turns k c m w o = absurd o
    other_stays n (tree.If chain otherwise line) (InArm more) k c m w o = absurd o
    other_stays n _ _ k c m w o = tt

    -- a function is left without a value
    returns_stay : (k : List Pending) (c : CopyOf) (m : Memory) (w : World Byte) → 1 + stack_ahead k + enabled w ≤ most → Stays most 1 (proceed (unwound k) c m w)
    unfolding enabled
    returns_stay [] c m w h = omega arith
    returns_stay (In e got ∷ k) c m w h = tt
    returns_stay (To place ∷ k) c m w h = tt
    returns_stay (Doing t Turns ∷ k) c m w h = returns_stay k c m w (omega arith)
    returns_stay (Doing t (InArm more) ∷ k) c m w h = returns_stay k c m w (omega arith)
    returns_stay (Doing t stage ∷ k) c m w h = other_stays 1 t stage k c m w tt
    returns_stay (Before ss ∷ k) c m w h = returns_stay k c m w (omega arith)
    returns_stay (Returns d ∷ k) c m w h = omega arith
    returns_stay (Resumes d x ∷ k) c m w h = let e = enabled_small (left w) in omega arith

    turned_stays : (t : Statement) (stage : Stage) (k : List Pending) (c : CopyOf) (m : Memory) (w : World Byte) → TurnsTested t stage → Sized p c (Doing t stage ∷ k) → stack_ahead (Doing t stage ∷ k) + enabled w + past_price_for t stage * nodes ≤ most → Stays most 0 (turned t stage k c m w)
    turned_stays (tree.Loop shape first condition step body line) Turns k c m w tested z h = next_stays shape first condition step body line k c m w tested (loop_small shape first condition step body line Turns k c z) (omega arith)
    turned_stays (tree.Switch e cases default ss line) Turns k c m w tested z h = omega arith
    turned_stays (tree.If chain otherwise line) (InArm more) k c m w tested z h = omega arith
    turned_stays _ _ k c m w tested z h = tt

    pub proceed_stays : (k : List Pending) (c : CopyOf) (m : Memory) (w : World Byte) → EndsTested k → Sized p c k → stack_ahead k + enabled w + past_price k * nodes ≤ most → Stays most (counts_as (past_counts p c k)) (proceed k c m w)
    unfolding enabled statement_ahead
    proceed_stays [] c m w tested z h = omega arith
    proceed_stays (In e got ∷ k) c m w tested z h = tt
    proceed_stays (To place ∷ k) c m w tested z h = tt
    proceed_stays (Doing t stage ∷ k) c m w tested z h = turned_stays t stage k c m w tested z h
    proceed_stays (Before tree.NoStatement ∷ k) c m w tested z h = omega arith
    proceed_stays (Before (tree.AndStatement t ts) ∷ k) c m w tested z h = omega arith
    proceed_stays (Returns d ∷ k) c m w tested z h = let o = some_nodes in omega arith
    proceed_stays (Resumes d x ∷ k) c m w tested z h = let o = some_nodes in let e = enabled_small (left w) in omega arith

    -- ---- statements begin
    pub begin_stays : (t : Statement) (k : List Pending) (c : CopyOf) (m : Memory) (w : World Byte) → SomeArm t → statement_ahead t + stack_ahead k + enabled w ≤ most → Stays most (counts_as (statement_counts t)) (begin s t k c m w)
    unfolding statement_ahead
    begin_stays (tree.Block ss line) k c m w some h = omega arith
    begin_stays (tree.Empty line) k c m w some h = omega arith
    begin_stays (tree.Expr e line) k c m w some h = omega arith
    begin_stays (tree.Declare local line) k c m w some h = omega arith
    begin_stays (tree.InitScalar local e line) k c m w some h = omega arith
    begin_stays (tree.InitList local all line) k c m w some h = items_stay s most local all line (local_of s.program c local) all k c (cleared m (local_of s.program c local)) w h
    begin_stays (tree.If chain otherwise line) k c m w some h = chain_stays chain chain otherwise line k c m w some h
    begin_stays (tree.Loop shape first condition step body line) k c m w some h = loops_stay shape first condition step body line k c m w (omega arith)
    begin_stays (tree.Switch e cases default ss line) k c m w some h = omega arith
    begin_stays (tree.Break line) k c m w some h = break_stays k c m w h
    begin_stays (tree.Continue line) k c m w some h = continue_stays k c m w h
    begin_stays (tree.Return None line) k c m w some h = returns_stay k c m w (omega arith)
    begin_stays (tree.Return (Some e) line) k c m w some h = omega arith

    -- ---- switch
    jump_any_stays : (n : ℕ) (t : Statement) (o : Option ℕ) (ss : Statements) (k : List Pending) (c : CopyOf) (m : Memory) (w : World Byte) → turns_ahead t ≡ 0 → n + statements_ahead ss + stack_ahead k + enabled w ≤ most → Stays most n (jump_if_any t o ss k c m w)
    jump_any_stays n t None ss k c m w e h = omega arith
    jump_any_stays n t (Some target) ss k c m w e h = let d = behind_ahead target ss in omega arith

    compares_in_stay : (e : Expression) (cases : List TCase) (default : Option ℕ) (ss : Statements) (line : ℕ) (v : Datum) (labels : List TCase) (k : List Pending) (c : CopyOf) (m : Memory) (w : World Byte) → length labels + statements_ahead ss + stack_ahead k + enabled w ≤ most
        → Stays most (counts_as (label_counts labels)) (compares_in (tree.Switch e cases default ss line) ss default v labels k c m w)
    compares_in_stay e cases default ss line v [] k c m w h = jump_any_stays 0 (tree.Switch e cases default ss line) default ss k c m w refl (omega arith)
    compares_in_stay e cases default ss line v (label ∷ labels) k c m w h = either_stays most 1 (is_case v label) _ _ (jump_any_stays 1 (tree.Switch e cases default ss line) (Some label.target) ss k c m w refl (omega arith)) (omega arith)

    compares_for_stay : (t : Statement) (stage : Stage) (v : Datum) (labels : List TCase) (k : List Pending) (c : CopyOf) (m : Memory) (w : World Byte) → length labels + stack_ahead (Doing t stage ∷ k) + enabled w ≤ most → Stays most (counts_as (label_counts labels)) (compares_for t stage v labels k c m w)
    compares_for_stay (tree.Switch e cases default ss line) Chooses v labels k c m w h = compares_in_stay e cases default ss line v labels k c m w (omega arith)
    compares_for_stay _ _ v labels k c m w h = tt

    pub compares_stay : (v : Datum) (labels : List TCase) (k : List Pending) (c : CopyOf) (m : Memory) (w : World Byte) → length labels + stack_ahead k + enabled w ≤ most → Stays most (counts_as (label_counts labels)) (compares v labels k c m w)
    compares_stay v labels [] c m w h = tt
    compares_stay v labels (In e got ∷ k) c m w h = tt
    compares_stay v labels (To place ∷ k) c m w h = tt
    compares_stay v labels (Doing t stage ∷ k) c m w h = compares_for_stay t stage v labels k c m w h
    compares_stay v labels (Before ss ∷ k) c m w h = tt
    compares_stay v labels (Returns d ∷ k) c m w h = tt
    compares_stay v labels (Resumes d x ∷ k) c m w h = tt

    -- ---- a statement takes a value
    take_for_stays : (t : Statement) (stage : Stage) (v : Datum) (k : List Pending) (c : CopyOf) (m : Memory) (w : World Byte) → Sized p c (Doing t stage ∷ k) → stack_ahead (Doing t stage ∷ k) + enabled w + given_price_for t stage * nodes ≤ most → Stays most 0 (take_for s t stage v k c m w)
    take_for_stays (tree.Expr e line) Tests v k c m w z h = omega arith
    take_for_stays (tree.InitScalar local e line) Tests v k c m w z h = used_stays most 0 v line _ (omega arith)
    take_for_stays (tree.InitList local all line) (AtItem (tree.Scalar offset e) rest) v k c m w z h = used_stays most 0 v line _ (omega arith)
    take_for_stays (tree.If chain otherwise line) (Picks (tree.OneArm condition chosen at) more) v k c m w z h = branch_stays most 0 (truth_of v) at _ _ (omega arith) (arms_stay chain more otherwise line k c m w (omega arith))
    take_for_stays (tree.Loop shape first condition step body line) Begins v k c m w z h = test_stays 0 shape first condition step body line k c m w (omega arith)
    take_for_stays (tree.Loop shape first condition step body line) Steps v k c m w z h = let d = loop_small shape first condition step body line Steps k c z in test_stays 0 shape first condition step body line k c m w (omega arith)
    take_for_stays (tree.Loop shape first condition step body line) Tests v k c m w z h = let d = loop_small shape first condition step body line Tests k c z in branch_stays most 0 (truth_of v) line _ _ (omega arith) (omega arith)
    take_for_stays (tree.Switch e cases default ss line) Tests v k c m w z h = used_stays most 0 v line _ (omega arith)
    take_for_stays (tree.Return e line) Tests v k c m w z h = let d = unwound_ahead k in used_stays most 0 v line _ (omega arith)
    take_for_stays _ _ v k c m w z h = tt

    pub give_stays : (v : Datum) (k : List Pending) (c : CopyOf) (m : Memory) (w : World Byte) → Sized p c k → stack_ahead k + enabled w + given_price k * nodes ≤ most → Stays most (counts_as (value_counts v k)) (give s v k c m w)
    give_stays v [] c m w z h = tt
    give_stays v (In e got ∷ k) c m w z h = take_in_stays most s e got v k c m w (omega arith)
    give_stays v (To place ∷ k) c m w z h = take_to_stays most place v k c m w (omega arith)
    give_stays v (Doing t stage ∷ k) c m w z h = take_for_stays t stage v k c m w z h
    give_stays v (Before ss ∷ k) c m w z h = tt
    give_stays v (Returns d ∷ k) c m w z h = tt
    give_stays v (Resumes d x ∷ k) c m w z h = tt

    -- ---- calls
    call_in_stays : (e : Expression) (got : Got) (k : List Pending) (c : CopyOf) (m : Memory) (w : World Byte) → stack_ahead k + enabled w + nodes ≤ most → Stays most 1 (call_in p e got k c m w)
    call_in_stays (tree.Call f arguments ty line) (Passed values) k c m w h =
        let b = bodies f in
        let d = few_statements (function_at p f).body in
        either_stays most 1 (has_missing values) _ _ tt (omega arith)
    call_in_stays _ _ k c m w h = tt

    pub call_stays : (k : List Pending) (c : CopyOf) (m : Memory) (w : World Byte) → stack_ahead k + enabled w + nodes ≤ most → Stays most 1 (call p k c m w)
    call_stays [] c m w h = tt
    call_stays (In e got ∷ k) c m w h = call_in_stays e got k c m w (omega arith)
    call_stays (To place ∷ k) c m w h = tt
    call_stays (Doing t stage ∷ k) c m w h = tt
    call_stays (Before ss ∷ k) c m w h = tt
    call_stays (Returns d ∷ k) c m w h = tt
    call_stays (Resumes d x ∷ k) c m w h = tt

    handed_stays : (v : Datum) (d : CopyOf) (k : List Pending) (m : Memory) (w : World Byte) → stack_ahead k + enabled w ≤ most → Stays most 0 (handed v d k m w)
    handed_stays v d (In (tree.Call function arguments ty line) Called ∷ k) m w h = omega arith
    handed_stays v d _ m w h = tt

    pub leave_stays : (v : Datum) (k : List Pending) (m : Memory) (w : World Byte) → stack_ahead k + enabled w ≤ most → Stays most 0 (leave v k m w)
    leave_stays v [] m w h = tt
    leave_stays v (In e got ∷ k) m w h = tt
    leave_stays v (To place ∷ k) m w h = tt
    leave_stays v (Doing t stage ∷ k) m w h = tt
    leave_stays v (Before ss ∷ k) m w h = tt
    leave_stays v (Returns d ∷ k) m w h = handed_stays v d k m w h
    leave_stays v (Resumes d x ∷ k) m w h = tt
