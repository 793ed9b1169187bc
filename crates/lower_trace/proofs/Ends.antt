-- What follows a statement, and jumps.
use Rattle.std.proofs.Common.{◌≡◌, ℕ, ◌+◌, ◌-◌, ◌*◌, ◌⊎◌, inr, Bool, false, if◌then◌else◌, List, [], ◌∷◌, ◌++◌, append-nil, length, length-append, length-drop, Option, Some, None, refl, sym, ap, ◌∙◌, subst, arith}
use Rattle.c_typed.specs.Trees as tree
use Rattle.c_typed.specs.Trees.{Expression, Statement, Statements, Arms, LastArm}
use Rattle.c_typed.specs.declared.statement.LoopForm.{LoopForm}
use Rattle.c_typed.specs.declared.statement.TCase.{TCase}
use Rattle.c_typed.specs.declared.statement.LoopForm.TheVariants.{While, Do, For}
use Rattle.core_code.specs.Bytes.{Memory}
use Rattle.core_code.specs.Machine.{Machine, Task, Waiting, Do as Todo, InLoop}
use Rattle.core_code.specs.Tree as code
use Rattle.core_code.specs.Tree.{Tree, many}
use Rattle.lower_stmt.specs.Ground.{Ground}
use Rattle.lower_stmt.specs.Statements.{stmt_code, jumps_in, condition_code, any_code}
use Rattle.pic_world.specs.World.{World, arrived, is_due, world_as}
use Rattle.src_rules.specs.State.{state, Outcome, Went}
use Rattle.src_rules.specs.Standing.{WaitsForEnd}
use Rattle.src_rules.specs.Statements.{begin, proceed, turned, unwound, break_at, continue_at}
use Rattle.src_values.specs.Control.{Focus, Eval, Run, Past, Tests, Steps, Turns, InArm, Pending, In, To, Doing, Before, Returns, Resumes, active, callers}
use Rattle.src_values.specs.Memory as source
use Rattle.src_values.specs.declared.objects.Byte as value
use Rattle.src_values.specs.declared.objects.CopyOf.{CopyOf}
use Rattle.lower_trace.proofs.Beginnings.{Follow}
use Rattle.lower_trace.proofs.CodeLeft.{Scene, held, number, ground_in, core_in, source_in, todo, plain, plain_behind, arm_count, loop_body, once_body, behind_turn, Jumps, Looped, Switched, stacked, segment_count, loops_in, whole_loop, begun_at, switch_on, inner_loops, code_after, stack_after, jumps, jumps_before}
use Rattle.lower_trace.proofs.Constants.{due_below, again_below, same_below}
use Rattle.lower_trace.proofs.Exits.{Exits, exit_past, again_past, exits_then, repeats_then}
use Rattle.lower_trace.proofs.Falling.{IsPartOf, falling, Led, before_goes}
use Rattle.lower_trace.proofs.Flow.{arrive}
use Rattle.lower_trace.proofs.Giving.{placed_of}
use Rattle.lower_trace.proofs.Jumping.{many_then, joins_then, exit_then}
use Rattle.lower_trace.proofs.Kept.{Piled}
use Rattle.lower_trace.proofs.Leaving.{IsBottom, Lasts, end_least, bottom_of, through, through_none, body_ends}
use Rattle.lower_trace.proofs.Looping.{test_after, for_again}
use Rattle.lower_trace.proofs.Mirrors.{Mirrors, Agrees, Holds}
use Rattle.lower_trace.proofs.Operations.{Comes, comes_here, comes_within}
use Rattle.lower_trace.proofs.Placed.{Placed}
use Rattle.lower_trace.proofs.Rounds.{IsLoop, turn_least, turned_cost}
use Rattle.lower_trace.proofs.Segments.{loops_length}

-- ---- where `continue` leads to
-- Behind a `continue` byte code stands before its jump, with code behind it that is never reached. The loops of switches that it
-- stands in are still under way.
abbrev pub jump_of : LoopForm → ℕ → Tree
jump_of While inside = code.Again inside
jump_of Do inside = code.Exit inside
jump_of For inside = code.Exit inside

pub record Repeats (z : Scene) (shape : LoopForm) (begins condition step : Option Expression) (body : Statement) (line : ℕ) (k : List Pending) (cp : CopyOf) (l : source.Memory) (w : World value.Byte) (c : Machine) : Type 0 where
  pub rest : List Task
  pub inside : List Looped
  pub copy : c.copy ≡ number z cp
  pub passing : c.passing ≡ None
  pub code : plain c.code ≡ Todo [] (jump_of shape (length inside)) ∷ rest
  pub stack : plain_behind c.stack ≡ stacked inside (stack_after z (ground_in z cp) (Doing (tree.Loop shape begins condition step body line) Turns ∷ k))
  pub agrees : Agrees z (active cp Past k) l c.memory
  pub holds : Holds z (ground_in z cp) k c.memory
  pub world : arrived z.outside c.world ≡ world_as (held z) (arrived z.outside w)

-- ---- stacks below statements
callers_unwound : (k : List Pending) → callers (unwound k) ≡ callers k
callers_unwound [] = refl
callers_unwound (In e got ∷ k) = refl
callers_unwound (To place ∷ k) = refl
callers_unwound (Doing t Turns ∷ k) = callers_unwound k
callers_unwound (Doing t (InArm more) ∷ k) = callers_unwound k
callers_unwound (Doing t _ ∷ k) = refl
callers_unwound (Before ss ∷ k) = callers_unwound k
callers_unwound (Returns d ∷ k) = refl
callers_unwound (Resumes d x ∷ k) = refl

pub holds_unwound : (z : Scene) (g : Ground) (k : List Pending) (m : Memory) → Holds z g k m → Holds z g (unwound k) m
holds_unwound z g [] m h = h
holds_unwound z g (In e got ∷ k) m h = h
holds_unwound z g (To place ∷ k) m h = h
holds_unwound z g (Doing t Turns ∷ k) m h = holds_unwound z g k m h
holds_unwound z g (Doing t (InArm more) ∷ k) m h = holds_unwound z g k m h
holds_unwound z g (Doing t _ ∷ k) m h = h
holds_unwound z g (Before ss ∷ k) m h = holds_unwound z g k m h
holds_unwound z g (Returns d ∷ k) m h = h
holds_unwound z g (Resumes d x ∷ k) m h = h

pub agrees_unwound : (z : Scene) (cp : CopyOf) (k : List Pending) (l : source.Memory) (m : Memory) → Agrees z (active cp Past k) l m → Agrees z (active cp Past (unwound k)) l m
unfolding active
agrees_unwound z cp k l m a = subst (λ x. Agrees z (cp ∷ x) l m) (sym (callers_unwound k)) a

-- ---- where `break` and `continue` lead to from a statement
abbrev pub inner_count : Option Switched → Statements → ℕ
inner_count None ss = 0
inner_count (Some x) ss = segment_count x - begun_at x ss

-- A loop or a switch stands round the statement.
abbrev pub InnerBody : List Pending → Type 0
InnerBody (Doing (tree.Loop shape begin condition step body line) Turns ∷ k) = Unit {0}
InnerBody (Doing (tree.Switch value cases default ss line) Turns ∷ k) = Unit {0}
InnerBody (Doing (tree.If chain otherwise line) (InArm more) ∷ k) = (switch_on k ≡ None) × InnerBody k
InnerBody (Before ss ∷ k) = InnerBody k
InnerBody _ = ⊥

-- A loop stands round it, and switches may stand between.
abbrev pub InnerLoop : List Pending → Type 0
InnerLoop (Doing (tree.Loop shape begin condition step body line) Turns ∷ k) = Unit {0}
InnerLoop (Doing (tree.Switch value cases default ss line) Turns ∷ k) = (switch_on k ≡ None) × InnerLoop k
InnerLoop (Doing (tree.If chain otherwise line) (InArm more) ∷ k) = (switch_on k ≡ None) × InnerLoop k
InnerLoop (Before ss ∷ k) = InnerLoop k
InnerLoop _ = ⊥

-- how many loops of byte code stand round it inside that one
abbrev leave_by : List Pending → ℕ
leave_by (Doing (tree.Loop shape begin condition step body line) Turns ∷ k) = (jumps_in shape).leave
leave_by (Doing (tree.If chain otherwise line) (InArm more) ∷ k) = leave_by k
leave_by (Before ss ∷ k) = leave_by k + inner_count (switch_on k) ss
leave_by _ = 0

abbrev turn_by : List Pending → ℕ
turn_by (Doing (tree.Switch value cases default ss line) Turns ∷ k) = turn_by k + 1
turn_by (Doing (tree.If chain otherwise line) (InArm more) ∷ k) = turn_by k
turn_by (Before ss ∷ k) = turn_by k + inner_count (switch_on k) ss
turn_by _ = 0

abbrev leave_or : Option Switched → Jumps → ℕ
leave_or None j = j.leave
leave_or (Some x) j = 0

leave_before : (o : Option Switched) (ss : Statements) (j : Jumps) (n : ℕ) → n ≡ leave_or o j → n + inner_count o ss ≡ (jumps_before o ss j).leave
leave_before None ss j n e = omega arith
leave_before (Some x) ss j n e = omega arith

leave_is : (k : List Pending) → InnerBody k → leave_by k ≡ leave_or (switch_on k) (jumps k)
leave_is (Doing (tree.Loop shape begin condition step body line) Turns ∷ k) h = refl
leave_is (Doing (tree.Switch value cases default ss line) Turns ∷ k) h = refl
leave_is (Doing (tree.If chain otherwise line) (InArm more) ∷ k) h = leave_is k h.1 ∙ ap (λ o. leave_or o (jumps k)) h.0
leave_is (Before ss ∷ k) h = leave_before (switch_on k) ss (jumps k) (leave_by k) (leave_is k h)
leave_is _ h = absurd h

abbrev turn_or : Option Switched → Jumps → ℕ
turn_or None j = j.turn
turn_or (Some x) j = j.turn + 1

turn_before : (o : Option Switched) (ss : Statements) (j : Jumps) (n : ℕ) → n ≡ turn_or o j → n + inner_count o ss ≡ (jumps_before o ss j).turn
turn_before None ss j n e = omega arith
turn_before (Some x) ss j n e = omega arith

turn_none : (shape : LoopForm) → 0 ≡ (jumps_in shape).turn
turn_none While = refl
turn_none Do = refl
turn_none For = refl

turn_is : (k : List Pending) → InnerLoop k → turn_by k ≡ turn_or (switch_on k) (jumps k)
turn_is (Doing (tree.Loop shape begin condition step body line) Turns ∷ k) h = turn_none shape
turn_is (Doing (tree.Switch value cases default ss line) Turns ∷ k) h = ap (λ n. n + 1) (turn_is k h.1 ∙ ap (λ o. turn_or o (jumps k)) h.0)
turn_is (Doing (tree.If chain otherwise line) (InArm more) ∷ k) h = turn_is k h.1 ∙ ap (λ o. turn_or o (jumps k)) h.0
turn_is (Before ss ∷ k) h = turn_before (switch_on k) ss (jumps k) (turn_by k) (turn_is k h)
turn_is _ h = absurd h

again_before : (o : Option Switched) (ss : Statements) (j : Jumps) → j.again ≡ (jumps_before o ss j).again
again_before None ss j = refl
again_before (Some x) ss j = refl

-- ---- loops that are under way
stacked_join : (xs ys : List Looped) (s : List Waiting) → stacked (xs ++ ys) s ≡ stacked xs (stacked ys s)
stacked_join [] ys s = refl
stacked_join (x ∷ xs) ys s = ap (λ y. InLoop x.body x.code ∷ y) (stacked_join xs ys s)

inner_length : (g : Ground) (j : Jumps) (o : Option Switched) (ss : Statements) → length (inner_loops g j o ss) ≡ inner_count o ss
inner_length g j None ss = refl
inner_length g j (Some x) ss = length-drop (begun_at x ss) (loops_in g j x) ∙ ap (λ n. n - begun_at x ss) (loops_length g j x)

module _ (z : Scene) where
  -- ---- what follows a statement
  pub body_past : (k : List Pending) (cp : CopyOf) (l : source.Memory) (w : World value.Byte) (c : Machine) → IsBottom k → Lasts k → is_due (arrived z.outside w) ≡ false → Mirrors z (state cp Past k l w) c → Follow z 104 (end_least k) c (proceed k cp l (arrived z.outside w))
  body_past [] cp l w c b last due h =
      body_ends z cp l w due [] [] c.memory c (placed_of z (state cp Past [] l w) c h) [] b last (through_none (number z cp) c.stack [] h.stack) h.agrees h.holds
  body_past (In e got ∷ k) cp l w c b last due h = absurd b
  body_past (To place ∷ k) cp l w c b last due h = absurd b
  body_past (Doing t stage ∷ k) cp l w c b last due h = absurd b
  body_past (Before ss ∷ k) cp l w c b last due h = absurd b
  body_past (Returns d ∷ k) cp l w c b last due h =
      body_ends z cp l w due [] (stack_after z (ground_in z cp) (Returns d ∷ k)) c.memory c (placed_of z (state cp Past (Returns d ∷ k) l w) c h) (Returns d ∷ k) b last
      (through_none (number z cp) c.stack (stack_after z (ground_in z cp) (Returns d ∷ k)) h.stack) h.agrees h.holds
  body_past (Resumes d x ∷ k) cp l w c b last due h =
      body_ends z cp l w due [] (stack_after z (ground_in z cp) (Resumes d x ∷ k)) c.memory c (placed_of z (state cp Past (Resumes d x ∷ k) l w) c h) (Resumes d x ∷ k) b last
      (through_none (number z cp) c.stack (stack_after z (ground_in z cp) (Resumes d x ∷ k)) h.stack) h.agrees h.holds

  pub before_past : (ss : Statements) (k : List Pending) (cp : CopyOf) (l : source.Memory) (w : World value.Byte) (c : Machine) → IsPartOf (switch_on k) ss → is_due (arrived z.outside w) ≡ false
      → Mirrors z (state cp Past (Before ss ∷ k) l w) c → Follow z (falling (switch_on k) ss) 0 c (proceed (Before ss ∷ k) cp l (arrived z.outside w))
  before_past ss k cp l w c part due h = before_goes z ss k cp l w c part due h

  -- the end of the last segment of a switch
  pub switch_past : (e : Expression) (cases : List TCase) (default : Option ℕ) (ss : Statements) (line : ℕ) (k : List Pending) (cp : CopyOf) (l : source.Memory) (w : World value.Byte) (c : Machine) → is_due (arrived z.outside w) ≡ false
      → Mirrors z (state cp Past (Doing (tree.Switch e cases default ss line) Turns ∷ k) l w) c → Follow z 4 0 c (turned (tree.Switch e cases default ss line) Turns k cp l (arrived z.outside w))
  unfolding active
  switch_past e cases default ss line k cp l w c due h =
      let g = ground_in z cp in
      let x : Switched = record { value = e; cases = cases; default = default; body = ss } in
      exit_then (core_in z) (Mirrors z (state cp Past k l (arrived z.outside w))) (number z cp) None (world_as (held z) (arrived z.outside w)) (due_below z (arrived z.outside w) due) (again_below z w) (whole_loop g (jumps k) x) [] (code_after g k) (stack_after z g k) c.memory c 0 0
      (placed_of z (state cp Past (Doing (tree.Switch e cases default ss line) Turns ∷ k) l w) c h)
      (λ d pd. arrive z cp Past k l w c.memory d pd h.agrees h.holds tt)

  pub arm_past : (chain : Arms) (otherwise : LastArm) (line : ℕ) (more : Arms) (k : List Pending) (cp : CopyOf) (l : source.Memory) (w : World value.Byte) (c : Machine) → is_due (arrived z.outside w) ≡ false
      → Mirrors z (state cp Past (Doing (tree.If chain otherwise line) (InArm more) ∷ k) l w) c → Follow z (4 * (arm_count chain - arm_count more)) 0 c (turned (tree.If chain otherwise line) (InArm more) k cp l (arrived z.outside w))
  unfolding active
  arm_past chain otherwise line more k cp l w c due h =
      let T = Mirrors z (state cp Past k l (arrived z.outside w)) in
      let i = arm_count chain - arm_count more in
      comes_within (core_in z) T (4 * i + 0) 0 (4 * i) 0 c
      (joins_then (core_in z) T (number z cp) None (world_as (held z) (arrived z.outside w)) (due_below z (arrived z.outside w) due) (again_below z w) i (code_after (ground_in z cp) k) (stack_after z (ground_in z cp) k) c.memory c 0 0
      (placed_of z (state cp Past (Doing (tree.If chain otherwise line) (InArm more) ∷ k) l w) c h)
      (λ d pd. arrive z cp Past k l w c.memory d pd h.agrees h.holds tt))
      (omega arith) (omega arith)

  -- ---- jumps
  pub begin_leave : (line : ℕ) (k : List Pending) (cp : CopyOf) (l : source.Memory) (w : World value.Byte) (c : Machine) → WaitsForEnd k → Piled (ground_in z cp) k → Lasts (unwound k) → is_due (arrived z.outside w) ≡ false
      → Mirrors z (state cp (Run (tree.Return None line)) k l w) c → Follow z 104 (end_least (unwound k)) c (begin (source_in z) (tree.Return None line) k cp l (arrived z.outside w))
  unfolding active stmt_code
  begin_leave line k cp l w c ends piled last due h =
      body_ends z cp l w due (code_after (ground_in z cp) k) (stack_after z (ground_in z cp) k) c.memory c (placed_of z (state cp (Run (tree.Return None line)) k l w) c h) (unwound k)
      (bottom_of (ground_in z cp) k ends piled) last (through z (ground_in z cp) (number z cp) k c.stack h.stack) (agrees_unwound z cp k l c.memory h.agrees) (holds_unwound z (ground_in z cp) k c.memory h.holds)

  -- the loop round these is left
  left_by : (xs : List Looped) (n : ℕ) (body : Tree) (x r : List Task) (s : List Waiting) (k : List Pending) (cp : CopyOf) (l : source.Memory) (w : World value.Byte) (m : Memory) (c : Machine) → n ≡ length xs → is_due (arrived z.outside w) ≡ false
      → Placed (core_in z) (number z cp) None (Todo [] (code.Exit n) ∷ x) (stacked xs (InLoop body r ∷ s)) m (world_as (held z) (arrived z.outside w)) c
      → ((d : Machine) → Placed (core_in z) (number z cp) None r s m (world_as (held z) (arrived z.outside w)) d → Comes (core_in z) (Mirrors z (state cp Past k l (arrived z.outside w))) 0 0 d)
      → Comes (core_in z) (Mirrors z (state cp Past k l (arrived z.outside w))) 4 0 c
  left_by xs n body x r s k cp l w m c e due p next =
      exits_then (core_in z) (Mirrors z (state cp Past k l (arrived z.outside w))) (number z cp) None (world_as (held z) (arrived z.outside w)) (due_below z (arrived z.outside w) due) (again_below z w) n x r (stacked xs (InLoop body r ∷ s)) s m c 0 0 p
      (subst (λ y. Exits y r s c.stack) (sym e) (exit_past xs body r s c.stack p.stack)) next

  -- These loops are under way inside.
  break_then : (k : List Pending) (inside : List Looped) (n : ℕ) (cp : CopyOf) (l : source.Memory) (w : World value.Byte) (r : List Task) (m : Memory) (c : Machine) → InnerBody k → n ≡ leave_by k + length inside → is_due (arrived z.outside w) ≡ false → Agrees z (active cp Past k) l m → Holds z (ground_in z cp) k m
      → Placed (core_in z) (number z cp) None (Todo [] (code.Exit n) ∷ r) (stacked inside (stack_after z (ground_in z cp) k)) m (world_as (held z) (arrived z.outside w)) c → Follow z 4 0 c (break_at k cp l (arrived z.outside w))
  unfolding active
  break_then (Doing (tree.Loop While begin condition step body line) Turns ∷ k) inside n cp l w r m c loop e due a h p =
      left_by inside n (loop_body (ground_in z cp) While condition step (stmt_code (ground_in z cp) (jumps_in While) body)) r (code_after (ground_in z cp) k) (stack_after z (ground_in z cp) k) k cp l w m c (omega arith) due p
      (λ d pd. arrive z cp Past k l w m d pd a h tt)
  break_then (Doing (tree.Loop Do begin condition step body line) Turns ∷ k) inside n cp l w r m c loop e due a h p =
      let g = ground_in z cp in
      let b = stmt_code g (jumps_in Do) body in
      let one : List Looped = record { body = once_body b; code = todo (behind_turn g Do condition step) [] } ∷ [] in
      let S = InLoop (loop_body g Do condition step b) (code_after g k) ∷ stack_after z g k in
      let len = length-append inside one in
      left_by (inside ++ one) n (loop_body g Do condition step b) r (code_after g k) (stack_after z g k) k cp l w m c (omega arith) due
      (subst (λ y. Placed (core_in z) (number z cp) None (Todo [] (code.Exit n) ∷ r) y m (world_as (held z) (arrived z.outside w)) c) (sym (stacked_join inside one S)) p)
      (λ d pd. arrive z cp Past k l w m d pd a h tt)
  break_then (Doing (tree.Loop For begin condition step body line) Turns ∷ k) inside n cp l w r m c loop e due a h p =
      let g = ground_in z cp in
      let b = stmt_code g (jumps_in For) body in
      let one : List Looped = record { body = once_body b; code = todo (behind_turn g For condition step) [] } ∷ [] in
      let S = InLoop (loop_body g For condition step b) (code_after g k) ∷ stack_after z g k in
      let len = length-append inside one in
      left_by (inside ++ one) n (loop_body g For condition step b) r (code_after g k) (stack_after z g k) k cp l w m c (omega arith) due
      (subst (λ y. Placed (core_in z) (number z cp) None (Todo [] (code.Exit n) ∷ r) y m (world_as (held z) (arrived z.outside w)) c) (sym (stacked_join inside one S)) p)
      (λ d pd. arrive z cp Past k l w m d pd a h tt)
  break_then (Doing (tree.Switch value cases default ss line) Turns ∷ k) inside n cp l w r m c loop e due a h p =
      let g = ground_in z cp in
      left_by inside n (whole_loop g (jumps k) (record { value = value; cases = cases; default = default; body = ss })) r (code_after g k) (stack_after z g k) k cp l w m c (omega arith) due p
      (λ d pd. arrive z cp Past k l w m d pd a h tt)
  break_then (Doing (tree.If chain otherwise line) (InArm more) ∷ k) inside n cp l w r m c loop e due a h p = break_then k inside n cp l w r m c loop.1 e due a h p
  break_then (Before ss ∷ k) inside n cp l w r m c loop e due a h p =
      let g = ground_in z cp in
      let more = inner_loops g (jumps k) (switch_on k) ss in
      let len = length-append inside more in
      let count = inner_length g (jumps k) (switch_on k) ss in
      break_then k (inside ++ more) n cp l w r m c loop (omega arith) due a h
      (subst (λ y. Placed (core_in z) (number z cp) None (Todo [] (code.Exit n) ∷ r) y m (world_as (held z) (arrived z.outside w)) c) (sym (stacked_join inside more (stack_after z g k))) p)
  break_then _ inside n cp l w r m c loop e due a h p = absurd loop

  pub begin_break : (line : ℕ) (k : List Pending) (cp : CopyOf) (l : source.Memory) (w : World value.Byte) (c : Machine) → InnerBody k → switch_on k ≡ None → is_due (arrived z.outside w) ≡ false
      → Mirrors z (state cp (Run (tree.Break line)) k l w) c → Follow z 4 0 c (begin (source_in z) (tree.Break line) k cp l (arrived z.outside w))
  unfolding active stmt_code
  begin_break line k cp l w c loop none due h =
      let e : leave_by k ≡ (jumps k).leave = leave_is k loop ∙ ap (λ o. leave_or o (jumps k)) none in
      break_then k [] (jumps k).leave cp l w (code_after (ground_in z cp) k) c.memory c loop (omega arith) due h.agrees h.holds (placed_of z (state cp (Run (tree.Break line)) k l w) c h)

-- ---- states behind a `continue`
-- and behind a label that a switch led to
abbrev pub Again : Scene → CopyOf → Focus → List Pending → source.Memory → World value.Byte → Machine → Type 0
Again z cp Past (Doing (tree.Loop shape begins condition step body line) Turns ∷ k) l w c = Repeats z shape begins condition step body line k cp l w c
Again z cp Past (Before ss ∷ k) l w c = Led z cp ss k l w c
Again z cp _ _ l w c = ⊥

abbrev pub FollowOn : Scene → ℕ → ℕ → Machine → Outcome → Type 0
FollowOn z q l c (Went u event) = Comes (core_in z) (λ d. Mirrors z u d ⊎ Again z u.copy u.focus u.stack u.memory u.world d) q l c
FollowOn z q l c _ = Unit {0}

module _ (z : Scene) where
  abbrev jumping : Bool → ℕ → Tree
  jumping b n = if b then code.Again n else code.Exit n

  jump_is : (shape : LoopForm) (b : Bool) (n m : ℕ) → b ≡ (jumps_in shape).again → n ≡ m → jumping b n ≡ jump_of shape m
  jump_is While b n m e f = ap (λ y. jumping y n) e ∙ ap code.Again f
  jump_is Do b n m e f = ap (λ y. jumping y n) e ∙ ap code.Exit f
  jump_is For b n m e f = ap (λ y. jumping y n) e ∙ ap code.Exit f

  continue_then : (k : List Pending) (inside : List Looped) (b : Bool) (n : ℕ) (cp : CopyOf) (l : source.Memory) (w : World value.Byte) (r : List Task) (c : Machine) → InnerLoop k → b ≡ (jumps k).again → n ≡ turn_by k + length inside → Agrees z (active cp Past k) l c.memory → Holds z (ground_in z cp) k c.memory
      → Placed (core_in z) (number z cp) None (Todo [] (jumping b n) ∷ r) (stacked inside (stack_after z (ground_in z cp) k)) c.memory (world_as (held z) (arrived z.outside w)) c → FollowOn z 0 0 c (continue_at k cp l (arrived z.outside w))
  unfolding active
  continue_then (Doing (tree.Loop shape begin condition step body line) Turns ∷ k) inside b n cp l w r c loop e f a h p =
      comes_here (core_in z) (λ d. Mirrors z (state cp Past (Doing (tree.Loop shape begin condition step body line) Turns ∷ k) l (arrived z.outside w)) d ⊎ Repeats z shape begin condition step body line k cp l (arrived z.outside w) d) c
      (inr (record { rest = r; inside = inside; copy = p.copy; passing = p.passing; code = p.code ∙ ap (λ y. Todo [] y ∷ r) (jump_is shape b n (length inside) e (omega arith)); stack = p.stack; agrees = a; holds = h; world = p.world ∙ same_below z w }))
  continue_then (Doing (tree.Switch value cases default ss line) Turns ∷ k) inside b n cp l w r c loop e f a h p =
      let g = ground_in z cp in
      let one : List Looped = record { body = whole_loop g (jumps k) (record { value = value; cases = cases; default = default; body = ss }); code = code_after g k } ∷ [] in
      let len = length-append inside one in
      continue_then k (inside ++ one) b n cp l w r c loop.1 e (omega arith) a h
      (subst (λ y. Placed (core_in z) (number z cp) None (Todo [] (jumping b n) ∷ r) y c.memory (world_as (held z) (arrived z.outside w)) c) (sym (stacked_join inside one (stack_after z g k))) p)
  continue_then (Doing (tree.If chain otherwise line) (InArm more) ∷ k) inside b n cp l w r c loop e f a h p = continue_then k inside b n cp l w r c loop.1 e f a h p
  continue_then (Before ss ∷ k) inside b n cp l w r c loop e f a h p =
      let g = ground_in z cp in
      let more = inner_loops g (jumps k) (switch_on k) ss in
      let len = length-append inside more in
      let count = inner_length g (jumps k) (switch_on k) ss in
      continue_then k (inside ++ more) b n cp l w r c loop (e ∙ sym (again_before (switch_on k) ss (jumps k))) (omega arith) a h
      (subst (λ y. Placed (core_in z) (number z cp) None (Todo [] (jumping b n) ∷ r) y c.memory (world_as (held z) (arrived z.outside w)) c) (sym (stacked_join inside more (stack_after z g k))) p)
  continue_then _ inside b n cp l w r c loop e f a h p = absurd loop

  pub begin_continue : (line : ℕ) (k : List Pending) (cp : CopyOf) (l : source.Memory) (w : World value.Byte) (c : Machine) → InnerLoop k → switch_on k ≡ None
      → Mirrors z (state cp (Run (tree.Continue line)) k l w) c → FollowOn z 0 0 c (begin (source_in z) (tree.Continue line) k cp l (arrived z.outside w))
  unfolding active stmt_code
  begin_continue line k cp l w c loop none h =
      let e : turn_by k ≡ (jumps k).turn = turn_is k loop ∙ ap (λ o. turn_or o (jumps k)) none in
      continue_then k [] (jumps k).again (jumps k).turn cp l w (code_after (ground_in z cp) k) c loop refl (omega arith) h.agrees h.holds (placed_of z (state cp (Run (tree.Continue line)) k l w) c h)

  -- a turn ends by the jump
  pub turn_repeats : (shape : LoopForm) (begins condition step : Option Expression) (body : Statement) (line : ℕ) (k : List Pending) (cp : CopyOf) (l : source.Memory) (w : World value.Byte) (c : Machine) → IsLoop shape begins step → is_due (arrived z.outside w) ≡ false
      → Repeats z shape begins condition step body line k cp l w c → Follow z (turned_cost shape step) (turn_least shape step) c (turned (tree.Loop shape begins condition step body line) Turns k cp l (arrived z.outside w))
  unfolding active
  turn_repeats While begins condition None body line k cp l w c fits due h =
      let t = tree.Loop While begins condition None body line in
      let g = ground_in z cp in
      let W = world_as (held z) (arrived z.outside w) in
      let ts = condition_code g condition ++ stmt_code g (jumps_in While) body in
      test_after z begins condition None body line k cp l w c.memory due h.agrees h.holds While condition c 4 1 refl
      (λ T next. comes_within (core_in z) T (4 + 0) (1 + 0) 4 1 c
      (repeats_then (core_in z) T (number z cp) None W (due_below z (arrived z.outside w) due) (again_below z w) (length h.inside) (many ts) h.rest (code_after g k) (stacked h.inside (stack_after z g (Doing t Turns ∷ k))) (stack_after z g k) c.memory c 0 0 (record { copy = h.copy; passing = h.passing; code = h.code; stack = h.stack; memory = refl; world = h.world })
      (again_past h.inside (many ts) (code_after g k) (stack_after z g k) c.stack h.stack)
      (λ d pd. many_then (core_in z) T (number z cp) None W (due_below z (arrived z.outside w) due) (again_below z w) ts [] (stack_after z g (Doing t Tests ∷ k)) c.memory d 0 0 pd next))
      (omega arith) (omega arith))
  turn_repeats While begins condition (Some e) body line k cp l w c fits due h = let q = fits.1 in absurd (cc)
  turn_repeats Do begins condition None body line k cp l w c fits due h =
      let t = tree.Loop Do begins condition None body line in
      let g = ground_in z cp in
      let W = world_as (held z) (arrived z.outside w) in
      test_after z begins condition None body line k cp l w c.memory due h.agrees h.holds Do condition c 8 0 refl
      (λ T next. comes_within (core_in z) T (4 + 4) 0 8 0 c
      (exits_then (core_in z) T (number z cp) None W (due_below z (arrived z.outside w) due) (again_below z w) (length h.inside) h.rest (todo (condition_code g condition) []) (stacked h.inside (stack_after z g (Doing t Turns ∷ k))) (stack_after z g (Doing t Tests ∷ k)) c.memory c 4 0 (record { copy = h.copy; passing = h.passing; code = h.code; stack = h.stack; memory = refl; world = h.world })
      (exit_past h.inside (once_body (stmt_code g (jumps_in Do) body)) (todo (condition_code g condition) []) (stack_after z g (Doing t Tests ∷ k)) c.stack h.stack)
      (λ d pd. next d (subst (λ y. Placed (core_in z) (number z cp) None (todo y []) (stack_after z g (Doing t Tests ∷ k)) c.memory W d) (sym (append-nil (condition_code g condition))) pd)))
      (omega arith) (omega arith))
  turn_repeats Do begins condition (Some e) body line k cp l w c fits due h = let q = fits.1 in absurd (cc)
  turn_repeats For begins condition None body line k cp l w c fits due h =
      let t = tree.Loop For begins condition None body line in
      let g = ground_in z cp in
      let W = world_as (held z) (arrived z.outside w) in
      test_after z begins condition None body line k cp l w c.memory due h.agrees h.holds For condition c 8 1 refl
      (λ T next. comes_within (core_in z) T (4 + 4) 1 8 1 c
      (exits_then (core_in z) T (number z cp) None W (due_below z (arrived z.outside w) due) (again_below z w) (length h.inside) h.rest [] (stacked h.inside (stack_after z g (Doing t Turns ∷ k))) (stack_after z g (Doing t Tests ∷ k)) c.memory c 4 1 (record { copy = h.copy; passing = h.passing; code = h.code; stack = h.stack; memory = refl; world = h.world })
      (exit_past h.inside (once_body (stmt_code g (jumps_in For) body)) [] (stack_after z g (Doing t Tests ∷ k)) c.stack h.stack)
      (λ d pd. for_again z begins condition None body line k cp l w c.memory due h.agrees h.holds T d pd next))
      (omega arith) (omega arith))
  turn_repeats For begins condition (Some e) body line k cp l w c fits due h =
      let t = tree.Loop For begins condition (Some e) body line in
      let g = ground_in z cp in
      let T = Mirrors z (state cp (Eval e) (Doing t Steps ∷ k) l (arrived z.outside w)) in
      comes_within (core_in z) T (4 + 0) 0 4 0 c
      (exits_then (core_in z) T (number z cp) None (world_as (held z) (arrived z.outside w)) (due_below z (arrived z.outside w) due) (again_below z w) (length h.inside) h.rest (todo (any_code g (Some e)) []) (stacked h.inside (stack_after z g (Doing t Turns ∷ k))) (stack_after z g (Doing t Tests ∷ k)) c.memory c 0 0 (record { copy = h.copy; passing = h.passing; code = h.code; stack = h.stack; memory = refl; world = h.world })
      (exit_past h.inside (once_body (stmt_code g (jumps_in For) body)) (todo (any_code g (Some e)) []) (stack_after z g (Doing t Tests ∷ k)) c.stack h.stack)
      (λ d pd. arrive z cp (Eval e) (Doing t Steps ∷ k) l w c.memory d pd h.agrees h.holds tt))
      (omega arith) (omega arith)
