-- Each micro-step of the source that pays marks takes byte code past as many.
use Rattle.std.proofs.Common.{◌≡◌, ℕ, zero, suc, ◌+◌, ◌≤◌, inl, inr, Bool, true, false, ◌&&◌, if◌then◌else◌, List, [], ◌∷◌, ◌++◌, length, Option, Some, None, refl, sym, ap, ◌∙◌, subst, arith}
use Rattle.std.proofs.lemmas.Bool.{false≢true}
use Rattle.c_typed.specs.Trees as tree
use Rattle.c_typed.specs.Trees.{Expression, Statement, Program}
use Rattle.c_typed.specs.declared.statement.LoopForm.{LoopForm}
use Rattle.c_typed.specs.declared.statement.LoopForm.TheVariants.{While, Do, For}
use Rattle.core_code.specs.Bytes.{Held, Memory}
use Rattle.core_code.specs.Cost.{step_least}
use Rattle.core_code.specs.Machine.{Setting, Machine, Task, Do as Todo, Waiting, Goes, operate, core_step, core_run, gone as machine_gone}
use Rattle.core_code.specs.Tree as code
use Rattle.core_code.specs.Tree.{Tree, Trees}
use Rattle.lower_stmt.specs.Ground.{Ground, value_code}
use Rattle.lower_stmt.specs.Statements.{stmt_code, jumps_in, condition_code}
use Rattle.pic_world.proofs.WorldLaws.{arrived_again, due_as}
use Rattle.pic_world.specs.World.{World, Happening, arrived, is_due, world_as}
use Rattle.src_rules.specs.Runs.{gone}
use Rattle.src_rules.specs.Standing.{CallsOf, FocusStands}
use Rattle.src_rules.specs.State.{State, state, Went, Undefined}
use Rattle.src_rules.specs.Statements.{turn}
use Rattle.src_rules.specs.Giving.{branch}
use Rattle.src_rules.specs.Accesses.{goes}
use Rattle.src_rules.specs.Step.{is_some_line, act, interrupted, enters, step, has_missing, copy_of, body_of, with_values}
use Rattle.src_values.specs.Control as control
use Rattle.src_values.specs.Control.{Focus, Got, Passed, Called, Stage, Tests, Steps, Turns, Pending, In, To, Doing, Before, Returns, Resumes}
use Rattle.src_values.specs.Data.{Datum}
use Rattle.src_values.specs.Memory as source
use Rattle.src_values.specs.Memory.{fresh}
use Rattle.src_values.specs.declared.objects.Undef.TheVariants.{Unset}
use Rattle.src_values.specs.Objects.{handler_in}
use Rattle.src_values.specs.Values.{truth_of}
use Rattle.src_values.specs.declared.objects.Byte.{Byte}
use Rattle.src_values.specs.declared.objects.CopyOf.{CopyOf}
use Rattle.lower_trace.proofs.CodeLeft.{Scene, core_in, source_in, held, number, ground_in, todo, tested_condition, once_body, code_after, stack_after}
use Rattle.lower_trace.proofs.Constants.{due_below, again_below}
use Rattle.lower_trace.proofs.Exits.{Exits, exit_past}
use Rattle.lower_trace.proofs.Folding.{FoldWaits, AreFolded}
use Rattle.lower_trace.proofs.Giving.{placed_of}
use Rattle.lower_trace.proofs.Leads.{Meets}
use Rattle.lower_trace.proofs.LedSteps.{Relates, entry_least, step_at_least}
use Rattle.lower_trace.proofs.Placed.{Placed, front, no_code, operates, least_operates}
use Rattle.lower_trace.proofs.Prices.{least_at, given_least, past_least}
use Rattle.lower_trace.proofs.Waiting as waits
use Rattle.lower_trace.proofs.Waiting.{CountWaits, CopyWaits, waits_quiet}
use Rattle.lower_trace.proofs.Walks.{least_from}
use Rattle.lag_trace.specs.Marks.{task_marks, step_marks}
use Rattle.lag_trace.proofs.MarkedWalks.{marks_from, mark_within, tree_weight, trees_weight, code_weight, stack_weight, plain_weight, behind_weight, marked_by}
use Rattle.lag_trace.proofs.Pace.{price_at, price_by}
use Rattle.lag_trace.proofs.Statements.{held_price, given_price, past_price}
use Rattle.lag_trace.proofs.Steps.{price}

-- ---- the first steps of a stretch that costs something
module _ (g : Setting) where
  pub first_mark : (n : ℕ) (c : Machine) → 1 ≤ least_from g n c → step_marks g c ≤ marks_from g n c
  unfolding least_from core_run
  first_mark zero c some = absurd (omega arith)
  first_mark (suc n) c some = mark_within g 0 (suc n) c (omega arith)

  second_mark : (n : ℕ) (c d : Machine) → core_step g c ≡ Goes d → step_least g c ≡ 0 → 1 ≤ least_from g n c → step_marks g d ≤ marks_from g n c
  unfolding least_from core_run
  second_mark zero c d e none some = absurd (omega arith)
  second_mark (suc zero) c d e none some = absurd (omega arith)
  second_mark (suc (suc n)) c d e none some =
      let m = mark_within g 1 (suc (suc n)) c (omega arith) in
      let q : core_run g 1 c ≡ d = ap (machine_gone c) e in
      let r = ap (step_marks g) q in
      omega arith

  module _ (n : ℕ) (a : Option ℕ) (w : World Held) (due : is_due w ≡ false) (now : arrived g.outside w ≡ w) where
    -- a loop's body has come to its end
    ends_mark : (s : List Waiting) (m : Memory) (c : Machine) → Placed g n a [] s m w c → step_marks g c ≡ 1
    unfolding step_marks
    ends_mark s m c p = ap (λ b. if b then 1 else task_marks c.code c.stack) (ap is_due p.world ∙ due) ∙ ap (λ x. task_marks x c.stack) (no_code c.code p.code)

    again_mark : (k : ℕ) (x : List Task) (s : List Waiting) (m : Memory) (c : Machine) → Placed g n a (Todo [] (code.Again k) ∷ x) s m w c → step_marks g c ≡ 1
    unfolding step_marks
    again_mark k x s m c p = ap (λ b. if b then 1 else task_marks c.code c.stack) (ap is_due p.world ∙ due) ∙ ap (λ y. task_marks y c.stack) (front c.code (code.Again k) x p.code).is

    -- it comes there by leaving loops in it
    exit_marked : (k : ℕ) (x : List Task) (s : List Waiting) (m : Memory) (c : Machine) (behind : List Waiting) (count : ℕ) → Placed g n a (Todo [] (code.Exit k) ∷ x) s m w c → Exits k [] behind c.stack → 1 ≤ least_from g count c → 1 ≤ marks_from g count c
    unfolding operate
    exit_marked k x s m c behind count p o some =
        let f = front c.code (code.Exit k) x p.code in
        let d : Machine = record { copy = n; passing = a; code = o.code; stack = o.rest; memory = m; world = w } in
        let e : core_step g c ≡ Goes d = operates g n a (Todo [] (code.Exit k) ∷ x) s m w c p (code.Exit k) x f due ∙ o.leads n a m w in
        let h = second_mark count c d e (least_operates g n a (Todo [] (code.Exit k) ∷ x) s m w c p (code.Exit k) x f due) some in
        let one = ends_mark behind m d (record { copy = refl; passing = refl; code = o.behind; stack = o.below; memory = refl; world = now }) in
        omega arith

-- ---- what is left
mutual
  free_tree : (t : Tree) → tree_weight 0 1 t ≡ 0
  free_tree (code.Many ts) = free_trees ts
  free_tree (code.If test size first second) = let a = free_tree first in let b = free_tree second in omega arith
  free_tree (code.Loop body) = let a = free_tree body in omega arith
  free_tree _ = refl

  free_trees : (ts : Trees) → trees_weight 0 1 ts ≡ 0
  free_trees code.NoTree = refl
  free_trees (code.AndTree t ts) = let a = free_tree t in let b = free_trees ts in omega arith

free_code : (c : List Task) → code_weight 0 1 c ≡ 0
free_code [] = refl
free_code (Todo before t ∷ c) = let a = free_tree t in let b = free_code c in omega arith
free_code (_ ∷ c) = free_code c

abbrev list_weight : List Tree → ℕ
list_weight [] = 0
list_weight (t ∷ ts) = tree_weight 1 0 t + list_weight ts

todo_weight : (ts : List Tree) (c : List Task) → code_weight 1 0 (todo ts c) ≡ list_weight ts + code_weight 1 0 c
todo_weight [] c = omega arith
todo_weight (t ∷ ts) c = let d = todo_weight ts c in omega arith

list_join : (ts us : List Tree) → list_weight (ts ++ us) ≡ list_weight ts + list_weight us
list_join [] us = omega arith
list_join (t ∷ ts) us = let d = list_join ts us in omega arith

-- a test weighs no more than the whole condition
condition_weight : (g : Ground) (condition : Option Expression) → list_weight (tested_condition g condition) ≤ list_weight (condition_code g condition)
condition_weight g None = omega arith
condition_weight g (Some e) = let d = list_join (value_code g e) (tested_condition g (Some e)) in omega arith

-- ---- states that byte code doesn't wait in
abbrev first_or : Pending → List Pending → Pending
first_or x [] = x
first_or x (y ∷ k) = y

not_folded : (above below k : List Pending) (frame before : Pending) (was : Focus) (count : Expression) (t : Statement) (stage : Stage) → Doing t stage ∷ k ≡ above ++ frame ∷ below → FoldWaits frame before was count → AreFolded above → ⊥
not_folded [] below k frame before was count t stage e f a = subst (λ x. FoldWaits x before was count) (sym (ap (first_or frame) e)) f
not_folded (x ∷ above) below k frame before was count t stage e f a = subst (λ y. AreFolded (y ∷ above)) (sym (ap (first_or x) e)) a

module _ (z : Scene) where
  abbrev s : source.Setting
  s = source_in z

  abbrev g : Setting
  g = core_in z

  -- a statement has a value
  value_waits : (v : Datum) (t : Statement) (stage : Stage) (k : List Pending) (cp : CopyOf) (l : source.Memory) (w : World Byte) (c : Machine) → waits.Waiting z (state cp (control.Holds v) (Doing t stage ∷ k) l w) c → ⊥
  value_waits v t stage k cp l w c (CountWaits p) = not_folded p.above p.below k p.frame p.before p.was p.count t stage p.stack p.state_is.waits p.state_is.folded
  value_waits v t stage k cp l w c (CopyWaits fixed p) = p

  -- ---- the end of a turn
  abbrev Costs : ℕ → Machine → Type 0
  Costs n c = 1 ≤ least_from g n c

  while_ends : (first condition : Option Expression) (body : Statement) (line : ℕ) (k : List Pending) (cp : CopyOf) (l : source.Memory) (w : World Byte) (c : Machine) (n : ℕ) → is_due (arrived z.outside w) ≡ false
      → Meets z (state cp control.Past (Doing (tree.Loop While first condition None body line) Turns ∷ k) l w) c → Costs n c → 1 ≤ marks_from g n c
  while_ends first condition body line k cp l w c n due (inl m) some =
      let p = placed_of z (state cp control.Past (Doing (tree.Loop While first condition None body line) Turns ∷ k) l w) c m in
      let one = ends_mark g (number z cp) None (world_as (held z) (arrived z.outside w)) (due_below z (arrived z.outside w) due) (again_below z w) _ c.memory c p in
      let f = first_mark g n c some in
      omega arith
  while_ends first condition body line k cp l w c n due (inr (inl a)) some =
      let r = a.0 in
      let one = again_mark g (number z cp) None (world_as (held z) (arrived z.outside w)) (due_below z (arrived z.outside w) due) (again_below z w) (length r.inside) r.rest _ c.memory c
      (record { copy = r.copy; passing = r.passing; code = r.code; stack = r.stack; memory = refl; world = r.world }) in
      let f = first_mark g n c some in
      omega arith
  while_ends first condition body line k cp l w c n due (inr (inr (CountWaits p))) some = absurd p.state_is.value
  while_ends first condition body line k cp l w c n due (inr (inr (CopyWaits fixed p))) some = absurd p

  for_ends : (first condition : Option Expression) (body : Statement) (line : ℕ) (k : List Pending) (cp : CopyOf) (l : source.Memory) (w : World Byte) (c : Machine) (n : ℕ) → is_due (arrived z.outside w) ≡ false
      → Meets z (state cp control.Past (Doing (tree.Loop For first condition None body line) Turns ∷ k) l w) c → Costs n c → 1 ≤ marks_from g n c
  for_ends first condition body line k cp l w c n due (inl m) some =
      let t = tree.Loop For first condition None body line in
      let p = placed_of z (state cp control.Past (Doing t Turns ∷ k) l w) c m in
      exit_marked g (number z cp) None (world_as (held z) (arrived z.outside w)) (due_below z (arrived z.outside w) due) (again_below z w) 0 [] _ c.memory c _ n p
      (exit_past [] (once_body (stmt_code (ground_in z cp) (jumps_in For) body)) [] (stack_after z (ground_in z cp) (Doing t Tests ∷ k)) c.stack m.stack) some
  for_ends first condition body line k cp l w c n due (inr (inl a)) some =
      let t = tree.Loop For first condition None body line in
      let r = a.0 in
      exit_marked g (number z cp) None (world_as (held z) (arrived z.outside w)) (due_below z (arrived z.outside w) due) (again_below z w) (length r.inside) r.rest _ c.memory c _ n
      (record { copy = r.copy; passing = r.passing; code = r.code; stack = r.stack; memory = refl; world = r.world })
      (exit_past r.inside (once_body (stmt_code (ground_in z cp) (jumps_in For) body)) [] (stack_after z (ground_in z cp) (Doing t Tests ∷ k)) c.stack r.stack) some
  for_ends first condition body line k cp l w c n due (inr (inr (CountWaits p))) some = absurd p.state_is.value
  for_ends first condition body line k cp l w c n due (inr (inr (CopyWaits fixed p))) some = absurd p

  -- ---- the end of a step
  step_ends : (shape : LoopForm) (first condition each : Option Expression) (body : Statement) (line : ℕ) (v : Datum) (k : List Pending) (cp : CopyOf) (l : source.Memory) (w : World Byte) (c : Machine) (n : ℕ) → is_due (arrived z.outside w) ≡ false
      → Meets z (state cp (control.Holds v) (Doing (tree.Loop shape first condition each body line) Steps ∷ k) l w) c → Costs n c → 1 ≤ marks_from g n c
  step_ends shape first condition each body line v k cp l w c n due (inl m) some =
      let p = placed_of z (state cp (control.Holds v) (Doing (tree.Loop shape first condition each body line) Steps ∷ k) l w) c m in
      let one = ends_mark g (number z cp) None (world_as (held z) (arrived z.outside w)) (due_below z (arrived z.outside w) due) (again_below z w) _ c.memory c p in
      let f = first_mark g n c some in
      omega arith
  step_ends shape first condition each body line v k cp l w c n due (inr (inl a)) some = absurd a.0
  step_ends shape first condition each body line v k cp l w c n due (inr (inr q)) some = absurd (value_waits v (tree.Loop shape first condition each body line) Steps k cp l w c q)

  -- ---- the condition of a `do` that holds
  not_due : (w : World Byte) → is_due (arrived z.outside w) ≡ false → is_due (arrived z.outside (arrived z.outside w)) ≡ true → ⊥
  not_due w due e = false≢true (sym due ∙ sym (ap is_due (arrived_again z.outside w)) ∙ e)

  holds_again : (first condition each : Option Expression) (body : Statement) (line : ℕ) (v : Datum) (k : List Pending) (cp : CopyOf) (l : source.Memory) (w : World Byte) (c d : Machine) (n : ℕ) → is_due (arrived z.outside w) ≡ false
      → Meets z (state cp (control.Holds v) (Doing (tree.Loop Do first condition each body line) Tests ∷ k) l w) c → core_run g n c ≡ d → Relates z (state cp (control.Run body) (Doing (tree.Loop Do first condition each body line) Turns ∷ k) l (arrived z.outside w)) d → 1 ≤ marks_from g n c
  holds_again first condition each body line v k cp l w c d n due (inl m) e (inl (inl u)) =
      let t = tree.Loop Do first condition each body line in
      let gr = ground_in z cp in
      let rest : ℕ = code_weight 1 0 (code_after gr k) + stack_weight 1 0 (stack_after z gr k) in
      let before = plain_weight 1 0 c.code in
      let before_code = ap (code_weight 1 0) m.code in
      let before_list = todo_weight (tested_condition gr condition ++ []) [] in
      let before_join = list_join (tested_condition gr condition) [] in
      let below = behind_weight 1 0 c.stack in
      let below_stack = ap (stack_weight 1 0) m.stack in
      let behind = plain_weight 1 0 d.code in
      let behind_code = ap (code_weight 1 0) u.code in
      let behind_list = todo_weight (stmt_code gr (jumps_in Do) body) (Todo [] (code.Exit 0) ∷ []) in
      let under = behind_weight 1 0 d.stack in
      let under_stack = ap (stack_weight 1 0) u.stack in
      let under_list = todo_weight (condition_code gr condition) [] in
      let small = condition_weight gr condition in
      marked_by 1 0 g n c d e (omega arith)
  holds_again first condition each body line v k cp l w c d n due (inl m) e (inl (inr (inl a))) = absurd a.0
  holds_again first condition each body line v k cp l w c d n due (inl m) e (inl (inr (inr (CountWaits p)))) = absurd p.state_is.value
  holds_again first condition each body line v k cp l w c d n due (inl m) e (inl (inr (inr (CopyWaits fixed p)))) = absurd p
  holds_again first condition each body line v k cp l w c d n due (inl m) e (inr b) = absurd (not_due w due b.due)
  holds_again first condition each body line v k cp l w c d n due (inr (inl a)) e r = absurd a.0
  holds_again first condition each body line v k cp l w c d n due (inr (inr q)) e r = absurd (value_waits v (tree.Loop Do first condition each body line) Tests k cp l w c q)

  -- ---- a call
  call_begins : (f : ℕ) (e : Expression) (values : List Datum) (k : List Pending) (cp : CopyOf) (l m' : source.Memory) (w : World Byte) (c d : Machine) (n : ℕ) → is_due (arrived z.outside w) ≡ false
      → Meets z (state cp control.Calls (In e (Passed values) ∷ k) l w) c → core_run g n c ≡ d → Relates z (state (copy_of cp.root f) control.Past (body_of z.program f (Returns cp ∷ In e Called ∷ k)) m' (arrived z.outside w)) d → 1 ≤ marks_from g n c
  call_begins f e values k cp l m' w c d n due (inl m) is (inl (inl u)) =
      let gr = ground_in z cp in
      let c1 = free_code c.code in
      let d1 = free_code d.code in
      let below = behind_weight 0 1 c.stack in
      let below_stack = ap (stack_weight 0 1) m.stack in
      let under = behind_weight 0 1 d.stack in
      let under_stack = ap (stack_weight 0 1) u.stack in
      marked_by 0 1 g n c d is (omega arith)
  call_begins f e values k cp l m' w c d n due (inl m) is (inl (inr (inl a))) = absurd (no_switch a.0.on)
    where
      no_switch : {A : Type 0} {x : A} → None ≡ Some x → ⊥
      no_switch q = cc
  call_begins f e values k cp l m' w c d n due (inl m) is (inl (inr (inr (CountWaits p)))) = absurd p.state_is.value
  call_begins f e values k cp l m' w c d n due (inl m) is (inl (inr (inr (CopyWaits fixed p)))) = absurd p
  call_begins f e values k cp l m' w c d n due (inl m) is (inr b) = absurd (not_due w due b.due)
  call_begins f e values k cp l m' w c d n due (inr (inl a)) is r = absurd a.0
  call_begins f e values k cp l m' w c d n due (inr (inr (CountWaits p))) is r = absurd p.state_is.value
  call_begins f e values k cp l m' w c d n due (inr (inr (CopyWaits fixed p))) is r = absurd p

  -- ---- one micro-step, where no handler is due
  -- the state that a micro-step leads to
  leads_to : (t v u : State) (event event' : Option (Happening Byte)) → Went v event' ≡ Went u event → v ≡ u
  leads_to t v u event event' e = ap (gone t) e

  condition_given : (o : Option Bool) (first condition each : Option Expression) (body : Statement) (line : ℕ) (v : Datum) (k : List Pending) (cp : CopyOf) (l : source.Memory) (w : World Byte) (c d : Machine) (u : State) (event : Option (Happening Byte)) (n : ℕ) → is_due (arrived z.outside w) ≡ false
      → Meets z (state cp (control.Holds v) (Doing (tree.Loop Do first condition each body line) Tests ∷ k) l w) c → core_run g n c ≡ d → Relates z u d
      → branch o line (turn (tree.Loop Do first condition each body line) body k cp l (arrived z.outside w)) (goes cp control.Past k l (arrived z.outside w)) ≡ Went u event → held_price o ≤ marks_from g n c
  condition_given None first condition each body line v k cp l w c d u event n due m e r is = omega arith
  condition_given (Some false) first condition each body line v k cp l w c d u event n due m e r is = omega arith
  condition_given (Some true) first condition each body line v k cp l w c d u event n due m e r is =
      let t = state cp (control.Run body) (Doing (tree.Loop Do first condition each body line) Turns ∷ k) l (arrived z.outside w) in
      holds_again first condition each body line v k cp l w c d n due m e (subst (λ x. Relates z x d) (sym (leads_to u t u event None is)) r)

  given_marked : (v : Datum) (k : List Pending) (cp : CopyOf) (l : source.Memory) (w : World Byte) (c d : Machine) (u : State) (event : Option (Happening Byte)) (n : ℕ) → is_due (arrived z.outside w) ≡ false
      → Meets z (state cp (control.Holds v) k l w) c → core_run g n c ≡ d → Relates z u d → act s (control.Holds v) k cp l (arrived z.outside w) ≡ Went u event → given_least k ≤ least_from g n c → given_price v k ≤ marks_from g n c
  unfolding act
  given_marked v (Doing (tree.Loop shape first condition each body line) Steps ∷ k) cp l w c d u event n due m e r is some = step_ends shape first condition each body line v k cp l w c n due m some
  given_marked v (Doing (tree.Loop Do first condition each body line) Tests ∷ k) cp l w c d u event n due m e r is some = condition_given (truth_of v) first condition each body line v k cp l w c d u event n due m e r is
  given_marked v (Doing (tree.Loop While first condition each body line) Tests ∷ k) cp l w c d u event n due m e r is some = omega arith
  given_marked v (Doing (tree.Loop For first condition each body line) Tests ∷ k) cp l w c d u event n due m e r is some = omega arith
  given_marked v (Doing _ _ ∷ k) cp l w c d u event n due m e r is some = omega arith
  given_marked v _ cp l w c d u event n due m e r is some = omega arith

  past_marked : (k : List Pending) (cp : CopyOf) (l : source.Memory) (w : World Byte) (c : Machine) (n : ℕ) → is_due (arrived z.outside w) ≡ false → Meets z (state cp control.Past k l w) c → past_least k ≤ least_from g n c → past_price k ≤ marks_from g n c
  past_marked (Doing (tree.Loop While first condition None body line) Turns ∷ k) cp l w c n due m some = while_ends first condition body line k cp l w c n due m some
  past_marked (Doing (tree.Loop For first condition None body line) Turns ∷ k) cp l w c n due m some = for_ends first condition body line k cp l w c n due m some
  past_marked (Doing (tree.Loop While first condition (Some each) body line) Turns ∷ k) cp l w c n due m some = omega arith
  past_marked (Doing (tree.Loop For first condition (Some each) body line) Turns ∷ k) cp l w c n due m some = omega arith
  past_marked (Doing (tree.Loop Do first condition each body line) Turns ∷ k) cp l w c n due m some = omega arith
  past_marked (Doing _ _ ∷ k) cp l w c n due m some = omega arith
  past_marked _ cp l w c n due m some = omega arith

  call_by : (missing : Bool) (line f : ℕ) (e : Expression) (values : List Datum) (k : List Pending) (cp : CopyOf) (l m' : source.Memory) (w : World Byte) (c d : Machine) (u : State) (event : Option (Happening Byte)) (n : ℕ) → is_due (arrived z.outside w) ≡ false
      → Meets z (state cp control.Calls (In e (Passed values) ∷ k) l w) c → core_run g n c ≡ d → Relates z u d
      → (if missing then Undefined Unset line else goes (copy_of cp.root f) control.Past (body_of z.program f (Returns cp ∷ In e Called ∷ k)) m' (arrived z.outside w)) ≡ Went u event → 1 ≤ marks_from g n c
  call_by true line f e values k cp l m' w c d u event n due m is r q = absurd (cc)
  call_by false line f e values k cp l m' w c d u event n due m is r q =
      let t = state (copy_of cp.root f) control.Past (body_of z.program f (Returns cp ∷ In e Called ∷ k)) m' (arrived z.outside w) in
      call_begins f e values k cp l m' w c d n due m is (subst (λ x. Relates z x d) (sym (leads_to u t u event None q)) r)

  calls_marked : (k : List Pending) (cp : CopyOf) (l : source.Memory) (w : World Byte) (c d : Machine) (u : State) (event : Option (Happening Byte)) (n : ℕ) → CallsOf k → is_due (arrived z.outside w) ≡ false
      → Meets z (state cp control.Calls k l w) c → core_run g n c ≡ d → Relates z u d → act s control.Calls k cp l (arrived z.outside w) ≡ Went u event → 1 ≤ marks_from g n c
  unfolding act
  calls_marked (In (tree.Call f arguments ty line) (Passed values) ∷ k) cp l w c d u event n calls due m is r q =
      call_by (has_missing values) line f (tree.Call f arguments ty line) values k cp l (with_values (fresh l (copy_of cp.root f)) (copy_of cp.root f) 0 values) w c d u event n due m is r q
  calls_marked _ cp l w c d u event n calls due m is r q = absurd calls

  act_marked : (x : Focus) (k : List Pending) (cp : CopyOf) (l : source.Memory) (w : World Byte) (c d : Machine) (u : State) (event : Option (Happening Byte)) (n : ℕ) → FocusStands z.program cp x k → is_due (arrived z.outside w) ≡ false
      → Meets z (state cp x k l w) c → core_run g n c ≡ d → Relates z u d → act s x k cp l (arrived z.outside w) ≡ Went u event → least_at z.program x k ≤ least_from g n c → price x k ≤ marks_from g n c
  unfolding price
  act_marked (control.Holds v) k cp l w c d u event n f due m is r q some = given_marked v k cp l w c d u event n due m is r q some
  act_marked control.Past k cp l w c d u event n f due m is r q some = past_marked k cp l w c n due m some
  act_marked control.Calls k cp l w c d u event n f due m is r q some = calls_marked k cp l w c d u event n f due m is r q
  act_marked _ k cp l w c d u event n f due m is r q some = omega arith

  -- ---- the handler is entered
  entry_mark : (t : State) (c : Machine) → is_due (arrived z.outside t.world) ≡ true → arrived z.outside c.world ≡ world_as (held z) (arrived z.outside t.world) → step_marks g c ≡ 1
  unfolding step_marks
  entry_mark t c due w = ap (λ b. if b then 1 else task_marks c.code c.stack) (ap is_due w ∙ due_as (held z) (arrived z.outside t.world) ∙ due)

  entered_marked : (t : State) (c : Machine) (h n : ℕ) → is_due (arrived z.outside t.world) ≡ true → handler_in z.program ≡ Some h → Meets z t c → 1 ≤ least_from g n c → 1 ≤ marks_from g n c
  unfolding enters
  entered_marked t c h n due some (inl m) cost = let e = entry_mark t c due m.world in let f = first_mark g n c cost in omega arith
  entered_marked t c h n due some (inr (inl a)) cost = absurd (false≢true (sym a.1 ∙ ap (λ b. b && is_some_line (handler_in z.program)) due ∙ ap is_some_line some))
  entered_marked t c h n due some (inr (inr q)) cost = absurd (false≢true (sym (waits_quiet z t c q) ∙ due))

  -- ---- each micro-step
  pub marked : (t u : State) (event : Option (Happening Byte)) (c d : Machine) (n : ℕ) → FocusStands z.program t.copy t.focus t.stack → Relates z t c → step s t ≡ Went u event → core_run g n c ≡ d → Relates z u d → step_at_least z t ≤ least_from g n c
      → price_at s t ≤ marks_from g n c
  unfolding step step_at_least price_at
  marked t u event c d n f (inr b) e is r some = let q : price_at s t ≡ 0 = ap (λ b. price_by s b (handler_in z.program) (price t.focus t.stack)) b.due ∙ ap (λ o. price_by s true o (price t.focus t.stack)) b.none in omega arith
  marked t u event c d n f (inl m) e is r some = by (is_due (arrived z.outside t.world)) refl (handler_in z.program) refl
    where
      by : (b : Bool) → is_due (arrived z.outside t.world) ≡ b → (o : Option ℕ) → handler_in z.program ≡ o → price_at s t ≤ marks_from g n c
      by true due None none = let q : price_at s t ≡ 0 = ap (λ b. price_by s b (handler_in z.program) (price t.focus t.stack)) due ∙ ap (λ o. price_by s true o (price t.focus t.stack)) none in omega arith
      by true due (Some h) there =
          let q : price_at s t ≡ 1 = ap (λ b. price_by s b (handler_in z.program) (price t.focus t.stack)) due ∙ ap (λ o. price_by s true o (price t.focus t.stack)) there in
          let l : step_at_least z t ≡ 1 = ap (λ b. if b then entry_least (handler_in z.program) else least_at z.program t.focus t.stack) due ∙ ap entry_least there in
          let x = entered_marked t c h n due there m (omega arith) in
          omega arith
      by false free o there =
          let q : price_at s t ≡ price t.focus t.stack = ap (λ b. price_by s b (handler_in z.program) (price t.focus t.stack)) free in
          let l : step_at_least z t ≡ least_at z.program t.focus t.stack = ap (λ b. if b then entry_least (handler_in z.program) else least_at z.program t.focus t.stack) free in
          let now : act s t.focus t.stack t.copy t.memory (arrived z.outside t.world) ≡ Went u event = sym (ap (λ b. if b then interrupted s (handler_in z.program) t.focus t.stack t.copy t.memory (arrived z.outside t.world) else act s t.focus t.stack t.copy t.memory (arrived z.outside t.world)) free) ∙ e in
          let x = act_marked t.focus t.stack t.copy t.memory t.world c d u event n f free m is r now (omega arith) in
          omega arith
