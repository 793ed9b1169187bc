-- Loops begin, end a turn, and take the values of what comes before the condition and behind a turn.
use Rattle.std.proofs.Common.{◌≡◌, ℕ, ◌+◌, false, List, [], ◌∷◌, ◌++◌, append_assoc, append-nil, Option, Some, None, refl, sym, subst, arith}
use Rattle.c_typed.specs.Trees as tree
use Rattle.c_typed.specs.Trees.{Expression, Statement}
use Rattle.c_typed.specs.declared.statement.LoopForm.{LoopForm}
use Rattle.c_typed.specs.declared.statement.LoopForm.TheVariants.{While, Do, For}
use Rattle.core_code.specs.Bytes.{Memory}
use Rattle.core_code.specs.Machine.{Machine}
use Rattle.core_code.specs.Tree as code
use Rattle.core_code.specs.Tree.{Tree, many}
use Rattle.lower_stmt.specs.Statements.{stmt_code, condition_code, any_code, once, jumps_in}
use Rattle.pic_world.specs.World.{World, arrived, is_due, world_as}
use Rattle.src_rules.specs.Giving.{take_for}
use Rattle.src_rules.specs.State.{state}
use Rattle.src_rules.specs.Statements.{begin, test, turned}
use Rattle.src_values.specs.Control.{Eval, Holds as Value, Run, Past, Tests, Begins, Steps, Turns, Pending, Doing, active}
use Rattle.src_values.specs.Data.{Datum}
use Rattle.src_values.specs.Memory as source
use Rattle.src_values.specs.declared.objects.Byte as value
use Rattle.src_values.specs.declared.objects.CopyOf.{CopyOf}
use Rattle.lower_trace.proofs.Beginnings.{Follow, rests}
use Rattle.lower_trace.proofs.CodeLeft.{Scene, held, number, ground_in, core_in, source_in, todo, loop_body, code_after, stack_after}
use Rattle.lower_trace.proofs.Flow.{arrive}
use Rattle.lower_trace.proofs.Giving.{placed_of}
use Rattle.lower_trace.proofs.Looping.{enters_do, opened_loop, test_after, once_ends, while_again, for_again}
use Rattle.lower_trace.proofs.Mirrors.{Mirrors, Agrees, Holds}
use Rattle.lower_trace.proofs.Operations.{comes_within}
use Rattle.lower_trace.proofs.Placed.{Placed, todo_join}

-- Only a `for` has expressions before and behind its body.
abbrev pub IsLoop : LoopForm → Option Expression → Option Expression → Type 0
IsLoop While begins step = (begins ≡ None) × (step ≡ None)
IsLoop Do begins step = (begins ≡ None) × (step ≡ None)
IsLoop For begins step = Unit {0}

-- A turn ends with a jump, but for a `do`, whose condition comes next, and for a `for` with a step, which has the jump behind it.
abbrev pub turn_least : LoopForm → Option Expression → ℕ
turn_least While step = 1
turn_least Do step = 0
turn_least For None = 1
turn_least For (Some e) = 0

-- and costs as much at most
abbrev pub turned_cost : LoopForm → Option Expression → ℕ
turned_cost While step = 4
turned_cost Do None = 8
turned_cost Do (Some e) = 0
turned_cost For None = 8
turned_cost For (Some e) = 4

module _ (z : Scene) where
  -- ---- a loop begins
  for_first : (begins condition step : Option Expression) (body : Statement) (line : ℕ) (k : List Pending) (cp : CopyOf) (l : source.Memory) (w : World value.Byte) (m : Memory) (c : Machine) (due : is_due (arrived z.outside w) ≡ false) → Agrees z (active cp Past k) l m → Holds z (ground_in z cp) k m
      → Placed (core_in z) (number z cp) None (todo (code.Loop (loop_body (ground_in z cp) For condition step (stmt_code (ground_in z cp) (jumps_in For) body)) ∷ []) (code_after (ground_in z cp) k)) (stack_after z (ground_in z cp) k) m (world_as (held z) (arrived z.outside w)) c
      → Follow z 0 0 c (test (tree.Loop For begins condition step body line) condition body k cp l (arrived z.outside w))
  for_first begins condition step body line k cp l w m c due a h p =
      let g = ground_in z cp in
      let b = stmt_code g (jumps_in For) body in
      test_after z begins condition step body line k cp l w m due a h For condition c 0 0 refl
      (λ T next. opened_loop z begins condition step body line k cp l w m due a h 0 0 T (condition_code g condition ++ once b ++ any_code g step) c p
      (λ d pd. next d (subst (λ y. Placed (core_in z) (number z cp) None (todo y []) (stack_after z g (Doing (tree.Loop For begins condition step body line) Tests ∷ k)) m (world_as (held z) (arrived z.outside w)) d) (append_assoc (condition_code g condition) (once b) (any_code g step)) pd)))

  pub begin_loop : (shape : LoopForm) (begins condition step : Option Expression) (body : Statement) (line : ℕ) (k : List Pending) (cp : CopyOf) (l : source.Memory) (w : World value.Byte) (c : Machine) → IsLoop shape begins step → is_due (arrived z.outside w) ≡ false
      → Mirrors z (state cp (Run (tree.Loop shape begins condition step body line)) k l w) c → Follow z 0 0 c (begin (source_in z) (tree.Loop shape begins condition step body line) k cp l (arrived z.outside w))
  unfolding active stmt_code
  begin_loop While None condition step body line k cp l w c fits due h =
      let g = ground_in z cp in
      test_after z None condition step body line k cp l w c.memory due h.agrees h.holds While condition c 0 0 refl
      (λ T next. opened_loop z None condition step body line k cp l w c.memory due h.agrees h.holds 0 0 T (condition_code g condition ++ stmt_code g (jumps_in While) body) c
      (placed_of z (state cp (Run (tree.Loop While None condition step body line)) k l w) c h) next)
  begin_loop While (Some e) condition step body line k cp l w c fits due h = let q = fits.0 in absurd (cc)
  begin_loop Do begins condition step body line k cp l w c fits due h =
      enters_do z begins condition step body line k cp l w c.memory due h.agrees h.holds c (placed_of z (state cp (Run (tree.Loop Do begins condition step body line)) k l w) c h)
  begin_loop For None condition step body line k cp l w c fits due h =
      for_first None condition step body line k cp l w c.memory c due h.agrees h.holds (placed_of z (state cp (Run (tree.Loop For None condition step body line)) k l w) c h)
  begin_loop For (Some e) condition step body line k cp l w c fits due h =
      let t = tree.Loop For (Some e) condition step body line in
      rests z cp (Run t) (Eval e) k (Doing t Begins ∷ k) l l w c h refl (simp todo_join) refl h.agrees h.holds tt

  -- ---- a turn ends
  pub turn_ends : (shape : LoopForm) (begins condition step : Option Expression) (body : Statement) (line : ℕ) (k : List Pending) (cp : CopyOf) (l : source.Memory) (w : World value.Byte) (c : Machine) → IsLoop shape begins step → is_due (arrived z.outside w) ≡ false
      → Mirrors z (state cp Past (Doing (tree.Loop shape begins condition step body line) Turns ∷ k) l w) c → Follow z (turned_cost shape step) (turn_least shape step) c (turned (tree.Loop shape begins condition step body line) Turns k cp l (arrived z.outside w))
  unfolding active
  turn_ends While begins condition None body line k cp l w c fits due h =
      let t = tree.Loop While begins condition None body line in
      test_after z begins condition None body line k cp l w c.memory due h.agrees h.holds While condition c 4 1 refl
      (λ T next. while_again z begins condition None body line k cp l w c.memory due h.agrees h.holds T c (placed_of z (state cp Past (Doing t Turns ∷ k) l w) c h) next)
  turn_ends While begins condition (Some e) body line k cp l w c fits due h = let q = fits.1 in absurd (cc)
  turn_ends Do begins condition None body line k cp l w c fits due h =
      let t = tree.Loop Do begins condition None body line in
      let g = ground_in z cp in
      test_after z begins condition None body line k cp l w c.memory due h.agrees h.holds Do condition c 8 0 refl
      (λ T next. comes_within (core_in z) T (4 + 4) 0 8 0 c
      (once_ends z begins condition None body line k cp l w c.memory due h.agrees h.holds Do T 4 0 c (condition_code g condition) (stack_after z g (Doing t Tests ∷ k)) (placed_of z (state cp Past (Doing t Turns ∷ k) l w) c h)
      (λ d pd. next d (subst (λ y. Placed (core_in z) (number z cp) None (todo y []) (stack_after z g (Doing t Tests ∷ k)) c.memory (world_as (held z) (arrived z.outside w)) d) (sym (append-nil (condition_code g condition))) pd)))
      (omega arith) (omega arith))
  turn_ends Do begins condition (Some e) body line k cp l w c fits due h = let q = fits.1 in absurd (cc)
  turn_ends For begins condition None body line k cp l w c fits due h =
      let t = tree.Loop For begins condition None body line in
      let g = ground_in z cp in
      test_after z begins condition None body line k cp l w c.memory due h.agrees h.holds For condition c 8 1 refl
      (λ T next. comes_within (core_in z) T (4 + 4) 1 8 1 c
      (once_ends z begins condition None body line k cp l w c.memory due h.agrees h.holds For T 4 1 c [] (stack_after z g (Doing t Tests ∷ k)) (placed_of z (state cp Past (Doing t Turns ∷ k) l w) c h)
      (λ d pd. for_again z begins condition None body line k cp l w c.memory due h.agrees h.holds T d pd next))
      (omega arith) (omega arith))
  turn_ends For begins condition (Some e) body line k cp l w c fits due h =
      let t = tree.Loop For begins condition (Some e) body line in
      let g = ground_in z cp in
      let T = Mirrors z (state cp (Eval e) (Doing t Steps ∷ k) l (arrived z.outside w)) in
      comes_within (core_in z) T (4 + 0) 0 4 0 c
      (once_ends z begins condition (Some e) body line k cp l w c.memory due h.agrees h.holds For T 0 0 c (any_code g (Some e)) (stack_after z g (Doing t Tests ∷ k)) (placed_of z (state cp Past (Doing t Turns ∷ k) l w) c h)
      (λ d pd. arrive z cp (Eval e) (Doing t Steps ∷ k) l w c.memory d pd h.agrees h.holds tt))
      (omega arith) (omega arith)

  -- ---- values before the first condition, and behind a turn
  pub begins_given : (begins condition step : Option Expression) (body : Statement) (line : ℕ) (v : Datum) (k : List Pending) (cp : CopyOf) (l : source.Memory) (w : World value.Byte) (c : Machine) → is_due (arrived z.outside w) ≡ false
      → Mirrors z (state cp (Value v) (Doing (tree.Loop For begins condition step body line) Begins ∷ k) l w) c → Follow z 0 0 c (take_for (source_in z) (tree.Loop For begins condition step body line) Begins v k cp l (arrived z.outside w))
  unfolding active
  begins_given begins condition step body line v k cp l w c due h =
      for_first begins condition step body line k cp l w c.memory c due h.agrees h.holds (placed_of z (state cp (Value v) (Doing (tree.Loop For begins condition step body line) Begins ∷ k) l w) c h)

  pub steps_given : (begins condition step : Option Expression) (body : Statement) (line : ℕ) (v : Datum) (k : List Pending) (cp : CopyOf) (l : source.Memory) (w : World value.Byte) (c : Machine) → is_due (arrived z.outside w) ≡ false
      → Mirrors z (state cp (Value v) (Doing (tree.Loop For begins condition step body line) Steps ∷ k) l w) c → Follow z 4 1 c (take_for (source_in z) (tree.Loop For begins condition step body line) Steps v k cp l (arrived z.outside w))
  unfolding active
  steps_given begins condition step body line v k cp l w c due h =
      let t = tree.Loop For begins condition step body line in
      test_after z begins condition step body line k cp l w c.memory due h.agrees h.holds For condition c 4 1 refl
      (λ T next. for_again z begins condition step body line k cp l w c.memory due h.agrees h.holds T c (placed_of z (state cp (Value v) (Doing t Steps ∷ k) l w) c h) next)
