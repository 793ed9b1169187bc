-- Loops: what comes before the first condition, between a turn and the next condition, and a turn.
use Rattle.std.proofs.Common.{◌≡◌, ℕ, ◌+◌, false, List, [], ◌∷◌, ◌++◌, append_assoc, Option, Some, None, refl, sym, subst, arith}
use Rattle.c_typed.specs.Trees as tree
use Rattle.c_typed.specs.Trees.{Expression, Statement}
use Rattle.c_typed.specs.declared.statement.LoopForm.{LoopForm}
use Rattle.c_typed.specs.declared.statement.LoopForm.TheVariants.{While, Do, For}
use Rattle.core_code.specs.Bytes.{Held, Memory}
use Rattle.core_code.specs.Machine.{Machine, Waiting, Do as Todo, InLoop}
use Rattle.core_code.specs.Tree as code
use Rattle.core_code.specs.Tree.{Tree, many}
use Rattle.lower_stmt.specs.Ground.{Ground, value_code}
use Rattle.lower_stmt.specs.Statements.{stmt_code, condition_code, any_code, once, jumps_in}
use Rattle.pic_world.specs.World.{World, arrived, is_due, world_as}
use Rattle.src_rules.specs.State.{state}
use Rattle.src_rules.specs.Statements.{test, turn}
use Rattle.src_values.specs.Control.{Eval, Run, Past, Tests, Turns, Pending, Doing, active}
use Rattle.src_values.specs.Memory as source
use Rattle.src_values.specs.declared.objects.Byte as value
use Rattle.src_values.specs.declared.objects.CopyOf.{CopyOf}
use Rattle.lower_trace.proofs.Beginnings.{Follow}
use Rattle.lower_trace.proofs.CodeLeft.{Scene, held, number, ground_in, core_in, todo, loop_body, once_body, behind_test, turn_rest, turn_behind, tested_condition, code_after, stack_after}
use Rattle.lower_trace.proofs.Constants.{due_below, again_below}
use Rattle.lower_trace.proofs.Flow.{arrive}
use Rattle.lower_trace.proofs.Jumping.{many_then, loop_then, end_then, exit_then}
use Rattle.lower_trace.proofs.Mirrors.{Mirrors, Agrees, Holds}
use Rattle.lower_trace.proofs.Operations.{Comes, comes_within}
use Rattle.lower_trace.proofs.Placed.{Placed, todo_join}

-- a loop by its parts, below which k waits
module _ (z : Scene) (shape : LoopForm) (begins condition step : Option Expression) (body : Statement) (line : ℕ) (k : List Pending) (cp : CopyOf) (l : source.Memory) (w : World value.Byte) (m : Memory) (due : is_due (arrived z.outside w) ≡ false) (agrees : Agrees z (active cp Past k) l m) (holds : Holds z (ground_in z cp) k m) where
  abbrev g : Ground
  g = ground_in z cp

  abbrev n : ℕ
  n = number z cp

  abbrev loop : Statement
  loop = tree.Loop shape begins condition step body line

  abbrev turns : List Tree
  turns = stmt_code g (jumps_in shape) body

  abbrev outer : Waiting
  outer = InLoop (loop_body g shape condition step turns) (code_after g k)

  abbrev below : List Waiting
  below = stack_after z g k

  abbrev W : World Held
  W = world_as (held z) (arrived z.outside w)

  abbrev Turned : Machine → Type 0
  Turned = Mirrors z (state cp (Run body) (Doing loop Turns ∷ k) l (arrived z.outside w))

  -- the loop that runs once
  once_then : (T : Machine → Type 0) (x : List Tree) (c : Machine) → Placed (core_in z) n None (todo (once turns ++ x) []) (outer ∷ below) m W c
      → ((d : Machine) → Placed (core_in z) n None (todo turns (Todo [] (code.Exit 0) ∷ [])) (InLoop (once_body turns) (todo x []) ∷ outer ∷ below) m W d → Comes (core_in z) T 0 0 d) → Comes (core_in z) T 0 0 c
  once_then T x c p next =
      let no = due_below z (arrived z.outside w) due in
      let ag = again_below z w in
      loop_then (core_in z) T n None W no ag (once_body turns) (todo x []) (outer ∷ below) m c 0 0 p
      (λ d pd. many_then (core_in z) T n None W no ag (turns ++ code.Exit 0 ∷ []) [] (InLoop (once_body turns) (todo x []) ∷ outer ∷ below) m d 0 0 pd
      (λ e pe. next e (subst (λ y. Placed (core_in z) n None y (InLoop (once_body turns) (todo x []) ∷ outer ∷ below) m W e) (todo_join turns (code.Exit 0 ∷ []) []) pe)))

  turned_by : (f : LoopForm) → shape ≡ f → Type 0
  turned_by f e = Unit {0}

  into : (d : Machine) → Placed (core_in z) n None (todo turns (turn_rest shape)) (turn_behind g shape condition step turns (outer ∷ below)) m W d → Comes (core_in z) Turned 0 0 d
  unfolding active
  into d p = arrive z cp (Run body) (Doing loop Turns ∷ k) l w m d p agrees holds tt

-- The next turn of a `do` begins with a jump behind its condition.
abbrev pub turn_cost : LoopForm → ℕ
turn_cost While = 0
turn_cost Do = 4
turn_cost For = 0

condition_split : (g : Ground) (t : Expression) (x : Option Expression) (b : List Tree) → x ≡ Some t → todo (condition_code g x ++ b) [] ≡ todo (value_code g t) (todo (tested_condition g x ++ b) [])
condition_split g t x b e =
    let here : todo (condition_code g (Some t) ++ b) [] ≡ todo (value_code g t) (todo (tested_condition g (Some t) ++ b) []) = simp todo_join in
    subst (λ y. todo (condition_code g y ++ b) [] ≡ todo (value_code g t) (todo (tested_condition g y ++ b) [])) (sym e) here

module _ (z : Scene) (begins condition step : Option Expression) (body : Statement) (line : ℕ) (k : List Pending) (cp : CopyOf) (l : source.Memory) (w : World value.Byte) (m : Memory) (due : is_due (arrived z.outside w) ≡ false) (agrees : Agrees z (active cp Past k) l m) (holds : Holds z (ground_in z cp) k m) where
  -- A turn begins, where the code behind the condition is left.
  pub turn_then : (shape : LoopForm) (c : Machine)
      → Placed (core_in z) (number z cp) None (todo (behind_test (ground_in z cp) shape step (stmt_code (ground_in z cp) (jumps_in shape) body)) []) (stack_after z (ground_in z cp) (Doing (tree.Loop shape begins condition step body line) Tests ∷ k)) m (world_as (held z) (arrived z.outside w)) c
      → Follow z (turn_cost shape) 0 c (turn (tree.Loop shape begins condition step body line) body k cp l (arrived z.outside w))
  turn_then While c p = into z While begins condition step body line k cp l w m due agrees holds c p
  turn_then For c p =
      once_then z For begins condition step body line k cp l w m due agrees holds (Turned z For begins condition step body line k cp l w m due agrees holds) (any_code (ground_in z cp) step) c p (into z For begins condition step body line k cp l w m due agrees holds)
  turn_then Do c p =
      let T = Turned z Do begins condition step body line k cp l w m due agrees holds in
      let g = ground_in z cp in
      let no = due_below z (arrived z.outside w) due in
      let ag = again_below z w in
      let b = stmt_code g (jumps_in Do) body in
      comes_within (core_in z) T (4 + 0) (1 + 0) 4 0 c
      (end_then (core_in z) T (number z cp) None (world_as (held z) (arrived z.outside w)) no ag (loop_body g Do condition step b) (code_after g k) (stack_after z g k) m c 0 0 p
      (λ d pd. many_then (core_in z) T (number z cp) None (world_as (held z) (arrived z.outside w)) no ag (once b ++ condition_code g condition) [] (InLoop (loop_body g Do condition step b) (code_after g k) ∷ stack_after z g k) m d 0 0 pd
      (λ e pe. once_then z Do begins condition step body line k cp l w m due agrees holds T (condition_code g condition) e pe (into z Do begins condition step body line k cp l w m due agrees holds))))
      (omega arith) (omega arith)

  -- the condition comes next
  pub test_then : (shape : LoopForm) (now : Option Expression) (c : Machine) → condition ≡ now
      → Placed (core_in z) (number z cp) None (todo (condition_code (ground_in z cp) condition ++ behind_test (ground_in z cp) shape step (stmt_code (ground_in z cp) (jumps_in shape) body)) []) (stack_after z (ground_in z cp) (Doing (tree.Loop shape begins condition step body line) Tests ∷ k)) m (world_as (held z) (arrived z.outside w)) c
      → Follow z (turn_cost shape) 0 c (test (tree.Loop shape begins condition step body line) now body k cp l (arrived z.outside w))
  unfolding active
  test_then shape None c e p =
      turn_then shape c
      (subst (λ x. Placed (core_in z) (number z cp) None (todo (condition_code (ground_in z cp) x ++ behind_test (ground_in z cp) shape step (stmt_code (ground_in z cp) (jumps_in shape) body)) []) (stack_after z (ground_in z cp) (Doing (tree.Loop shape begins condition step body line) Tests ∷ k)) m (world_as (held z) (arrived z.outside w)) c) e p)
  test_then shape (Some t) c e p =
      let T = Mirrors z (state cp (Eval t) (Doing (tree.Loop shape begins condition step body line) Tests ∷ k) l (arrived z.outside w)) in
      let b = behind_test (ground_in z cp) shape step (stmt_code (ground_in z cp) (jumps_in shape) body) in
      comes_within (core_in z) T 0 0 (turn_cost shape) 0 c
      (arrive z cp (Eval t) (Doing (tree.Loop shape begins condition step body line) Tests ∷ k) l w m c
      (subst (λ y. Placed (core_in z) (number z cp) None y (stack_after z (ground_in z cp) (Doing (tree.Loop shape begins condition step body line) Tests ∷ k)) m (world_as (held z) (arrived z.outside w)) c) (condition_split (ground_in z cp) t condition b e) p)
      agrees holds tt)
      (omega arith) (omega arith)

  -- a turn begins directly, as in a `do`
  pub enters_do : (c : Machine) → Placed (core_in z) (number z cp) None (todo (code.Loop (loop_body (ground_in z cp) Do condition step (stmt_code (ground_in z cp) (jumps_in Do) body)) ∷ []) (code_after (ground_in z cp) k)) (stack_after z (ground_in z cp) k) m (world_as (held z) (arrived z.outside w)) c
      → Follow z 0 0 c (turn (tree.Loop Do begins condition step body line) body k cp l (arrived z.outside w))
  enters_do c p =
      let T = Turned z Do begins condition step body line k cp l w m due agrees holds in
      let g = ground_in z cp in
      let no = due_below z (arrived z.outside w) due in
      let ag = again_below z w in
      let b = stmt_code g (jumps_in Do) body in
      loop_then (core_in z) T (number z cp) None (world_as (held z) (arrived z.outside w)) no ag (loop_body g Do condition step b) (code_after g k) (stack_after z g k) m c 0 0 p
      (λ d pd. many_then (core_in z) T (number z cp) None (world_as (held z) (arrived z.outside w)) no ag (once b ++ condition_code g condition) [] (InLoop (loop_body g Do condition step b) (code_after g k) ∷ stack_after z g k) m d 0 0 pd
      (λ e pe. once_then z Do begins condition step body line k cp l w m due agrees holds T (condition_code g condition) e pe (into z Do begins condition step body line k cp l w m due agrees holds)))

  -- the loop is entered: its body's first operations come next
  pub opened_loop : (q e : ℕ) (T : Machine → Type 0) (r : List Tree) (c : Machine) → Placed (core_in z) (number z cp) None (todo (code.Loop (many r) ∷ []) (code_after (ground_in z cp) k)) (stack_after z (ground_in z cp) k) m (world_as (held z) (arrived z.outside w)) c
      → ((d : Machine) → Placed (core_in z) (number z cp) None (todo r []) (InLoop (many r) (code_after (ground_in z cp) k) ∷ stack_after z (ground_in z cp) k) m (world_as (held z) (arrived z.outside w)) d → Comes (core_in z) T q e d) → Comes (core_in z) T q e c
  opened_loop q e T r c p next =
      let no = due_below z (arrived z.outside w) due in
      let ag = again_below z w in
      loop_then (core_in z) T (number z cp) None (world_as (held z) (arrived z.outside w)) no ag (many r) (code_after (ground_in z cp) k) (stack_after z (ground_in z cp) k) m c q e p
      (λ d pd. many_then (core_in z) T (number z cp) None (world_as (held z) (arrived z.outside w)) no ag r [] (InLoop (many r) (code_after (ground_in z cp) k) ∷ stack_after z (ground_in z cp) k) m d q e pd next)

  -- the condition comes behind other operations
  pub test_after : (shape : LoopForm) (now : Option Expression) (c : Machine) (q e : ℕ) → condition ≡ now
      → ((T : Machine → Type 0)
      → ((d : Machine) → Placed (core_in z) (number z cp) None (todo (condition_code (ground_in z cp) condition ++ behind_test (ground_in z cp) shape step (stmt_code (ground_in z cp) (jumps_in shape) body)) []) (stack_after z (ground_in z cp) (Doing (tree.Loop shape begins condition step body line) Tests ∷ k)) m (world_as (held z) (arrived z.outside w)) d → Comes (core_in z) T (turn_cost shape) 0 d)
      → Comes (core_in z) T q e c)
      → Follow z q e c (test (tree.Loop shape begins condition step body line) now body k cp l (arrived z.outside w))
  test_after shape None c q e is before = before (Mirrors z (state cp (Run body) (Doing (tree.Loop shape begins condition step body line) Turns ∷ k) l (arrived z.outside w))) (λ d pd. test_then shape None d is pd)
  test_after shape (Some t) c q e is before = before (Mirrors z (state cp (Eval t) (Doing (tree.Loop shape begins condition step body line) Tests ∷ k) l (arrived z.outside w))) (λ d pd. test_then shape (Some t) d is pd)

  -- behind a turn and the step the loop's body begins again
  pub around_then : (shape : LoopForm) (T : Machine → Type 0) (q e : ℕ) (c : Machine) (ts : List Tree) → loop_body (ground_in z cp) shape condition step (stmt_code (ground_in z cp) (jumps_in shape) body) ≡ many ts
      → Placed (core_in z) (number z cp) None [] (stack_after z (ground_in z cp) (Doing (tree.Loop shape begins condition step body line) Tests ∷ k)) m (world_as (held z) (arrived z.outside w)) c
      → ((d : Machine) → Placed (core_in z) (number z cp) None (todo ts []) (stack_after z (ground_in z cp) (Doing (tree.Loop shape begins condition step body line) Tests ∷ k)) m (world_as (held z) (arrived z.outside w)) d → Comes (core_in z) T q e d)
      → Comes (core_in z) T (4 + q) (1 + e) c
  around_then shape T q e c ts is p next =
      let g = ground_in z cp in
      let W = world_as (held z) (arrived z.outside w) in
      let no = due_below z (arrived z.outside w) due in
      let ag = again_below z w in
      let s = stack_after z g (Doing (tree.Loop shape begins condition step body line) Tests ∷ k) in
      end_then (core_in z) T (number z cp) None W no ag (loop_body g shape condition step (stmt_code g (jumps_in shape) body)) (code_after g k) (stack_after z g k) m c q e p
      (λ d pd. many_then (core_in z) T (number z cp) None W no ag ts [] s m d q e (subst (λ y. Placed (core_in z) (number z cp) None (Todo [] y ∷ []) s m W d) is pd) next)

  -- the end of the loop that runs once
  pub once_ends : (shape : LoopForm) (T : Machine → Type 0) (q e : ℕ) (c : Machine) (x : List Tree) (s : List Waiting)
      → Placed (core_in z) (number z cp) None (Todo [] (code.Exit 0) ∷ []) (InLoop (once_body (stmt_code (ground_in z cp) (jumps_in shape) body)) (todo x []) ∷ s) m (world_as (held z) (arrived z.outside w)) c
      → ((d : Machine) → Placed (core_in z) (number z cp) None (todo x []) s m (world_as (held z) (arrived z.outside w)) d → Comes (core_in z) T q e d)
      → Comes (core_in z) T (4 + q) e c
  once_ends shape T q e c x s p next =
      exit_then (core_in z) T (number z cp) None (world_as (held z) (arrived z.outside w)) (due_below z (arrived z.outside w) due) (again_below z w) (once_body (stmt_code (ground_in z cp) (jumps_in shape) body)) [] (todo x []) s m c q e p next

  -- ---- between a turn and the next condition
  pub while_again : (T : Machine → Type 0) (c : Machine) → Placed (core_in z) (number z cp) None [] (stack_after z (ground_in z cp) (Doing (tree.Loop While begins condition step body line) Tests ∷ k)) m (world_as (held z) (arrived z.outside w)) c
      → ((d : Machine) → Placed (core_in z) (number z cp) None (todo (condition_code (ground_in z cp) condition ++ behind_test (ground_in z cp) While step (stmt_code (ground_in z cp) (jumps_in While) body)) []) (stack_after z (ground_in z cp) (Doing (tree.Loop While begins condition step body line) Tests ∷ k)) m (world_as (held z) (arrived z.outside w)) d → Comes (core_in z) T 0 0 d)
      → Comes (core_in z) T 4 1 c
  while_again T c p next = around_then While T 0 0 c (condition_code (ground_in z cp) condition ++ stmt_code (ground_in z cp) (jumps_in While) body) refl p next

  pub for_again : (T : Machine → Type 0) (c : Machine) → Placed (core_in z) (number z cp) None [] (stack_after z (ground_in z cp) (Doing (tree.Loop For begins condition step body line) Tests ∷ k)) m (world_as (held z) (arrived z.outside w)) c
      → ((d : Machine) → Placed (core_in z) (number z cp) None (todo (condition_code (ground_in z cp) condition ++ behind_test (ground_in z cp) For step (stmt_code (ground_in z cp) (jumps_in For) body)) []) (stack_after z (ground_in z cp) (Doing (tree.Loop For begins condition step body line) Tests ∷ k)) m (world_as (held z) (arrived z.outside w)) d → Comes (core_in z) T 0 0 d)
      → Comes (core_in z) T 4 1 c
  for_again T c p next =
      let g = ground_in z cp in
      let b = stmt_code g (jumps_in For) body in
      around_then For T 0 0 c (condition_code g condition ++ once b ++ any_code g step) refl p
      (λ d pd. next d (subst (λ y. Placed (core_in z) (number z cp) None (todo y []) (stack_after z g (Doing (tree.Loop For begins condition step body line) Tests ∷ k)) m (world_as (held z) (arrived z.outside w)) d) (append_assoc (condition_code g condition) (once b) (any_code g step)) pd))
