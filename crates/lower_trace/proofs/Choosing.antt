-- Values that choose: conditions of `if`, of loops and of the conditional operator, and the logical operators.
use Rattle.std.proofs.Common.{◌≡◌, ℕ, zero, suc, ◌+◌, ◌-◌, ◌*◌, ◌/◌, ◌%◌, ◌^◌, ◌<◌, ◌≤◌, Bool, true, false, not, if◌then◌else◌, List, [], ◌∷◌, ◌++◌, Option, Some, None, refl, ap, ◌∙◌, subst, arith}
use Rattle.c_ints.specs.Operators.{truth}
use Rattle.c_ints.specs.Range.{pattern, cut}
use Rattle.c_ints.specs.declared.types.IntTy.TheVariants as int
use Rattle.c_typed.specs.declared.expression.LogicalOp.{LogicalOp}
use Rattle.c_typed.specs.declared.expression.LogicalOp.TheVariants.{And, Or}
use Rattle.core_puts.specs.Bytes.{byte_at, operation_type}
use Rattle.lower_expr.specs.Rows.{logical_row, tested, type_of_size, unary_row}
use Rattle.c_typed.specs.Trees as tree
use Rattle.c_typed.specs.Trees.{Expression, Statement, Arms, Arm, LastArm}
use Rattle.c_typed.specs.declared.statement.LoopForm.{LoopForm}
use Rattle.c_typed.specs.declared.types.Ty.{Ty}
use Rattle.core_code.specs.Bytes as bytes
use Rattle.core_code.specs.Bytes.{Held, Memory, with_bytes}
use Rattle.core_code.specs.Machine.{Setting, Machine, Task, Waiting, Do as Todo, Join, is_own}
use Rattle.core_code.specs.Tree as code
use Rattle.core_code.specs.Tree.{Tree, many}
use Rattle.core_code.specs.Values as core
use Rattle.core_code.specs.Values.{truth_in}
use Rattle.core_code.specs.declared.code.Byte.{Byte}
use Rattle.core_code.specs.declared.code.Byte.TheVariants.{Frame}
use Rattle.lower_expr.specs.Layout.{value_width}
use Rattle.lower_expr.specs.Lowering.{expr_code}
use Rattle.core_puts.specs.Puts.{sets, choice, test_size}
use Rattle.lower_stmt.specs.Ground.{Ground, first}
use Rattle.lower_stmt.specs.Ground as ground
use Rattle.lower_stmt.specs.Statements.{stmt_code, arms_code, last_code, jumps_in}
use Rattle.pic_world.specs.World.{World, arrived, is_due, world_as}
use Rattle.src_rules.specs.Giving.{take_in, take_for, branch, logical, truth_given}
use Rattle.src_rules.specs.Standing.{HasType}
use Rattle.src_rules.specs.State.{state, Outcome, Went, Undefined, Idle, Lost}
use Rattle.src_rules.specs.Statements.{arms, turn}
use Rattle.src_values.specs.Control.{Eval, Holds as Value, Run, Past, Nothing, Chosen, One, Tests, Turns, Picks, InArm, Pending, In, Doing, active}
use Rattle.src_values.specs.Data as datum
use Rattle.src_values.specs.Data.{Datum}
use Rattle.c_ints.specs.declared.operators.UnOp.TheVariants.{Bang}
use Rattle.src_values.specs.Memory as source
use Rattle.src_values.specs.Values.{byte_count, truth_of, truth_value, decides, unary_answer}
use Rattle.src_values.specs.declared.objects.Byte as value
use Rattle.src_values.specs.declared.objects.CopyOf.{CopyOf}
use Rattle.lower_trace.proofs.Beginnings.{Follow}
use Rattle.lower_trace.proofs.CodeLeft.{Scene, held, number, ground_in, core_in, source_in, todo, wanted, base, arm_count, joins, loop_body, behind_test, code_after, stack_after, jumps}
use Rattle.lower_trace.proofs.Constants.{due_below, again_below, same_below}
use Rattle.lower_trace.proofs.Flow.{arrive}
use Rattle.lower_trace.proofs.Giving.{Around, placed_of, gives}
use Rattle.lower_trace.proofs.Jumping.{picked, many_then, if_then, join_then, joins_then, exit_then}
use Rattle.lower_trace.proofs.Kept.{SceneLaws, own_copy}
use Rattle.lower_trace.proofs.Looping.{turn_cost, turn_then}
use Rattle.lower_trace.proofs.Mirrors.{Mirrors, Agrees, Holds, HasDatum}
use Rattle.lower_trace.proofs.Negations.{bang_then, is_zero, size_is}
use Rattle.lower_trace.proofs.NumberBytes.{truth_is}
use Rattle.lower_trace.proofs.Operations.{Comes, comes_here, comes_within, own_frame, sets_then}
use Rattle.lower_trace.proofs.Placed.{Placed, todo_join}

abbrev pub chosen_code : Bool → List Tree → List Tree → List Tree
chosen_code true first second = first
chosen_code false first second = second

picked_many : (held : Bool) (a b : List Tree) → picked held (many a) (many b) ≡ many (chosen_code held a b)
picked_many true a b = refl
picked_many false a b = refl

module _ (g : Setting) (T : Machine → Type 0) (n : ℕ) (a : Option ℕ) (w : World Held) (due : is_due w ≡ false) (again : arrived g.outside w ≡ w) where
  -- a choice between two lists of operations
  pub choice_then : (test : Byte) (size : ℕ) (held : Bool) (first second : List Tree) (r : List Task) (s : List Waiting) (m : Memory) (c : Machine) (q l : ℕ) → is_own g.program n test size ≡ true → truth_in m test size ≡ Some held
      → Placed g n a (Todo [] (code.If test size (many first) (many second)) ∷ r) s m w c → ((d : Machine) → Placed g n a (todo (chosen_code held first second) (Join ∷ r)) s m w d → Comes g T q l d) → Comes g T (4 * size + 16 + q) (1 + l) c
  choice_then test size held first second r s m c q l own truth p next =
      if_then g T n a w due again test size held (many first) (many second) r s m c q l own truth p
      (λ d pd. many_then g T n a w due again (chosen_code held first second) (Join ∷ r) s m d q l (subst (λ x. Placed g n a (Todo [] x ∷ Join ∷ r) s m w d) (picked_many held first second) pd) next)

-- The ends of choices that a chain comes to where no condition held and no `else` is there: one for each arm.
abbrev pub end_joins : Arms → Arms → LastArm → ℕ
end_joins chain tree.NoArm tree.NoLast = 4 * arm_count chain
end_joins chain tree.NoArm (tree.Last t) = 0
end_joins chain (tree.AndArm arm more) otherwise = 0

module _ (z : Scene) (laws : SceneLaws z) where
  -- the value that stands at the place of the focus, as a condition
  truth_there : (ty : Ty) (v : Datum) (held : Bool) (b size : ℕ) (cp : CopyOf) (m : Memory) → HasType z.program ty v → 0 < byte_count v → size ≡ byte_count v → HasDatum z (ground_in z cp).copy b v m → truth_of v ≡ Some held → truth_in m (Frame (ground_in z cp).copy b) size ≡ Some held
  truth_there ty v held b size cp m t lt e h is = ap (truth_in m (Frame (ground_in z cp).copy b)) e ∙ truth_is z (ground_in z cp).copy b v ty m t h lt ∙ is

  own_test : (b size : ℕ) (cp : CopyOf) → b + size ≤ (core_in z).program.frame_bytes (number z cp) → is_own (core_in z).program (number z cp) (Frame (ground_in z cp).copy b) size ≡ true
  own_test b size cp le = ap (λ i. is_own (core_in z).program (number z cp) (Frame i b) size) (own_copy z cp) ∙ own_frame (core_in z).program (number z cp) b size le

  -- ---- the conditional operator
  conditional_case : (condition chosen otherwise : Expression) (ty : Ty) (line : ℕ) (v : Datum) (vt : Ty) (holds : Option Bool) (k : List Pending) (cp : CopyOf) (l : source.Memory) (w : World value.Byte) (c : Machine) → truth_of v ≡ holds
      → HasType z.program vt v → 0 < byte_count v → test_size (value_width (ground_in z cp).layout condition) ≡ byte_count v → base (ground_in z cp) k + byte_count v ≤ (core_in z).program.frame_bytes (number z cp) → is_due (arrived z.outside w) ≡ false
      → Mirrors z (state cp (Value v) (In (tree.Conditional condition chosen otherwise ty line) Nothing ∷ k) l w) c
      → Follow z (4 * byte_count v + 16) 1 c (branch holds line (Went (state cp (Eval chosen) (In (tree.Conditional condition chosen otherwise ty line) Chosen ∷ k) l (arrived z.outside w)) None) (Went (state cp (Eval otherwise) (In (tree.Conditional condition chosen otherwise ty line) Chosen ∷ k) l (arrived z.outside w)) None))
  unfolding active
  conditional_case condition chosen otherwise ty line v vt None k cp l w c is t lt size room due h = tt
  conditional_case condition chosen otherwise ty line v vt (Some true) k cp l w c is t lt size room due h =
      let e = tree.Conditional condition chosen otherwise ty line in
      let g = ground_in z cp in
      let b = base g k in
      let n = number z cp in
      let T = Mirrors z (state cp (Eval chosen) (In e Chosen ∷ k) l (arrived z.outside w)) in
      let x = test_size (value_width g.layout condition) in
      comes_within (core_in z) T (4 * x + 16 + 0) (1 + 0) (4 * byte_count v + 16) 1 c
      (choice_then (core_in z) T n None (world_as (held z) (arrived z.outside w)) (due_below z (arrived z.outside w) due) (again_below z w) (Frame g.copy b) x true (expr_code g.layout g.copy b (wanted k) chosen) (expr_code g.layout g.copy b (wanted k) otherwise) (code_after g k) (stack_after z g k) c.memory c 0 0
      (own_test b x cp (omega arith)) (truth_there vt v true b x cp c.memory t lt size h.value is) (placed_of z (state cp (Value v) (In e Nothing ∷ k) l w) c h)
      (λ d pd. arrive z cp (Eval chosen) (In e Chosen ∷ k) l w c.memory d pd h.agrees (tt, h.holds.1) tt))
      (omega arith) (omega arith)
  conditional_case condition chosen otherwise ty line v vt (Some false) k cp l w c is t lt size room due h =
      let e = tree.Conditional condition chosen otherwise ty line in
      let g = ground_in z cp in
      let b = base g k in
      let n = number z cp in
      let T = Mirrors z (state cp (Eval otherwise) (In e Chosen ∷ k) l (arrived z.outside w)) in
      let x = test_size (value_width g.layout condition) in
      comes_within (core_in z) T (4 * x + 16 + 0) (1 + 0) (4 * byte_count v + 16) 1 c
      (choice_then (core_in z) T n None (world_as (held z) (arrived z.outside w)) (due_below z (arrived z.outside w) due) (again_below z w) (Frame g.copy b) x false (expr_code g.layout g.copy b (wanted k) chosen) (expr_code g.layout g.copy b (wanted k) otherwise) (code_after g k) (stack_after z g k) c.memory c 0 0
      (own_test b x cp (omega arith)) (truth_there vt v false b x cp c.memory t lt size h.value is) (placed_of z (state cp (Value v) (In e Nothing ∷ k) l w) c h)
      (λ d pd. arrive z cp (Eval otherwise) (In e Chosen ∷ k) l w c.memory d pd h.agrees (tt, h.holds.1) tt))
      (omega arith) (omega arith)

  pub conditional_given : (condition chosen otherwise : Expression) (ty : Ty) (line : ℕ) (v : Datum) (vt : Ty) (k : List Pending) (cp : CopyOf) (l : source.Memory) (w : World value.Byte) (c : Machine)
      → HasType z.program vt v → 0 < byte_count v → test_size (value_width (ground_in z cp).layout condition) ≡ byte_count v → base (ground_in z cp) k + byte_count v ≤ (core_in z).program.frame_bytes (number z cp) → is_due (arrived z.outside w) ≡ false
      → Mirrors z (state cp (Value v) (In (tree.Conditional condition chosen otherwise ty line) Nothing ∷ k) l w) c
      → Follow z (4 * byte_count v + 16) 1 c (take_in (source_in z) (tree.Conditional condition chosen otherwise ty line) Nothing v k cp l (arrived z.outside w))
  conditional_given condition chosen otherwise ty line v vt k cp l w c t lt size room due h = conditional_case condition chosen otherwise ty line v vt (truth_of v) k cp l w c refl t lt size room due h

  -- ---- `if`
  joins_more : (i j : ℕ) (r : List Task) → suc i ≡ j → Join ∷ joins i r ≡ joins j r
  joins_more i j r e = ap (λ x. joins x r) e

  -- no condition of the chain held so far: what the next arm or the last `else` begins with
  arms_follow : (chain : Arms) (otherwise : LastArm) (line : ℕ) (more : Arms) (k : List Pending) (cp : CopyOf) (l : source.Memory) (w : World value.Byte) (m : Memory) (c : Machine) → arm_count more < arm_count chain → is_due (arrived z.outside w) ≡ false → Agrees z (active cp Past k) l m → Holds z (ground_in z cp) k m
      → Placed (core_in z) (number z cp) None (todo (arms_code (ground_in z cp) (jumps k) (last_code (ground_in z cp) (jumps k) otherwise) more) (Join ∷ joins (arm_count chain - suc (arm_count more)) (code_after (ground_in z cp) k))) (stack_after z (ground_in z cp) k) m (world_as (held z) (arrived z.outside w)) c
      → Follow z (end_joins chain more otherwise) 0 c (arms (tree.If chain otherwise line) more otherwise k cp l (arrived z.outside w))
  unfolding active stmt_code
  arms_follow chain tree.NoLast line tree.NoArm k cp l w m c few due a h p =
      let T = Mirrors z (state cp Past k l (arrived z.outside w)) in
      let i = arm_count chain in
      comes_within (core_in z) T (4 * i + 0) 0 (4 * i) 0 c
      (joins_then (core_in z) T (number z cp) None (world_as (held z) (arrived z.outside w)) (due_below z (arrived z.outside w) due) (again_below z w) i (code_after (ground_in z cp) k) (stack_after z (ground_in z cp) k) m c 0 0
      (subst (λ x. Placed (core_in z) (number z cp) None x (stack_after z (ground_in z cp) k) m (world_as (held z) (arrived z.outside w)) c) (joins_more (i - 1) i (code_after (ground_in z cp) k) (omega arith)) p)
      (λ d pd. arrive z cp Past k l w m d pd a h tt))
      (omega arith) (omega arith)
  arms_follow chain (tree.Last t) line tree.NoArm k cp l w m c few due a h p =
      let x = tree.If chain (tree.Last t) line in
      let T = Mirrors z (state cp (Run t) (Doing x (InArm tree.NoArm) ∷ k) l (arrived z.outside w)) in
      let i = arm_count chain in
      comes_within (core_in z) T 0 0 0 0 c
      (arrive z cp (Run t) (Doing x (InArm tree.NoArm) ∷ k) l w m c
      (subst (λ y. Placed (core_in z) (number z cp) None (todo (stmt_code (ground_in z cp) (jumps k) t) y) (stack_after z (ground_in z cp) k) m (world_as (held z) (arrived z.outside w)) c) (joins_more (i - 1) (i - 0) (code_after (ground_in z cp) k) (omega arith)) p)
      a h tt)
      (omega arith) (omega arith)
  arms_follow chain otherwise line (tree.AndArm (tree.OneArm condition chosen at) more) k cp l w m c few due a h p =
      let x = tree.If chain otherwise line in
      let g = ground_in z cp in
      let T = Mirrors z (state cp (Eval condition) (Doing x (Picks (tree.OneArm condition chosen at) more) ∷ k) l (arrived z.outside w)) in
      let i = arm_count chain in
      let j = arm_count more in
      comes_within (core_in z) T 0 0 0 0 c
      (arrive z cp (Eval condition) (Doing x (Picks (tree.OneArm condition chosen at) more) ∷ k) l w m c
      (subst (λ y. Placed (core_in z) (number z cp) None y (stack_after z g k) m (world_as (held z) (arrived z.outside w)) c)
      (ap (todo (arms_code g (jumps k) (last_code g (jumps k) otherwise) (tree.AndArm (tree.OneArm condition chosen at) more))) (joins_more (i - suc (suc j)) (i - suc j) (code_after g k) (omega arith)) ∙ simp todo_join) p)
      a h tt)
      (omega arith) (omega arith)

  if_case : (chain : Arms) (otherwise : LastArm) (line : ℕ) (condition : Expression) (chosen : Statement) (at : ℕ) (more : Arms) (v : Datum) (vt : Ty) (holds : Option Bool) (k : List Pending) (cp : CopyOf) (l : source.Memory) (w : World value.Byte) (c : Machine) → truth_of v ≡ holds → arm_count more < arm_count chain
      → HasType z.program vt v → 0 < byte_count v → test_size (ground.width (ground_in z cp) condition) ≡ byte_count v → (ground_in z cp).base + byte_count v ≤ (core_in z).program.frame_bytes (number z cp) → is_due (arrived z.outside w) ≡ false
      → Mirrors z (state cp (Value v) (Doing (tree.If chain otherwise line) (Picks (tree.OneArm condition chosen at) more) ∷ k) l w) c
      → (o : Outcome) → ((d : Machine) → Placed (core_in z) (number z cp) None (todo (arms_code (ground_in z cp) (jumps k) (last_code (ground_in z cp) (jumps k) otherwise) more) (Join ∷ joins (arm_count chain - suc (arm_count more)) (code_after (ground_in z cp) k))) (stack_after z (ground_in z cp) k) c.memory (world_as (held z) (arrived z.outside w)) d → Follow z (end_joins chain more otherwise) 0 d o)
      → Follow z (4 * byte_count v + 16 + end_joins chain more otherwise) 1 c (branch holds at (Went (state cp (Run chosen) (Doing (tree.If chain otherwise line) (InArm more) ∷ k) l (arrived z.outside w)) None) o)
  unfolding active
  if_case chain otherwise line condition chosen at more v vt None k cp l w c is few t lt size room due h o next = tt
  if_case chain otherwise line condition chosen at more v vt (Some true) k cp l w c is few t lt size room due h o next =
      let x = tree.If chain otherwise line in
      let g = ground_in z cp in
      let n = number z cp in
      let T = Mirrors z (state cp (Run chosen) (Doing x (InArm more) ∷ k) l (arrived z.outside w)) in
      let y = test_size (ground.width g condition) in
      let i = arm_count chain in
      let j = arm_count more in
      let e = end_joins chain more otherwise in
      comes_within (core_in z) T (4 * y + 16 + 0) (1 + 0) (4 * byte_count v + 16 + e) 1 c
      (choice_then (core_in z) T n None (world_as (held z) (arrived z.outside w)) (due_below z (arrived z.outside w) due) (again_below z w) (first g) y true (stmt_code g (jumps k) chosen) (arms_code g (jumps k) (last_code g (jumps k) otherwise) more) (joins (i - suc j) (code_after g k)) (stack_after z g k) c.memory c 0 0
      (own_test g.base y cp (omega arith)) (truth_there vt v true g.base y cp c.memory t lt size h.value is) (placed_of z (state cp (Value v) (Doing x (Picks (tree.OneArm condition chosen at) more) ∷ k) l w) c h)
      (λ d pd. arrive z cp (Run chosen) (Doing x (InArm more) ∷ k) l w c.memory d
      (subst (λ r. Placed (core_in z) n None (todo (stmt_code g (jumps k) chosen) r) (stack_after z g k) c.memory (world_as (held z) (arrived z.outside w)) d) (joins_more (i - suc j) (i - j) (code_after g k) (omega arith)) pd)
      h.agrees h.holds tt))
      (omega arith) (omega arith)
  if_case chain otherwise line condition chosen at more v vt (Some false) k cp l w c is few t lt size room due h (Undefined kind x) next = tt
  if_case chain otherwise line condition chosen at more v vt (Some false) k cp l w c is few t lt size room due h Idle next = tt
  if_case chain otherwise line condition chosen at more v vt (Some false) k cp l w c is few t lt size room due h Lost next = tt
  if_case chain otherwise line condition chosen at more v vt (Some false) k cp l w c is few t lt size room due h (Went u event) next =
      let x = tree.If chain otherwise line in
      let g = ground_in z cp in
      let n = number z cp in
      let T = Mirrors z u in
      let y = test_size (ground.width g condition) in
      let i = arm_count chain in
      let j = arm_count more in
      let e = end_joins chain more otherwise in
      comes_within (core_in z) T (4 * y + 16 + e) (1 + 0) (4 * byte_count v + 16 + e) 1 c
      (choice_then (core_in z) T n None (world_as (held z) (arrived z.outside w)) (due_below z (arrived z.outside w) due) (again_below z w) (first g) y false (stmt_code g (jumps k) chosen) (arms_code g (jumps k) (last_code g (jumps k) otherwise) more) (joins (i - suc j) (code_after g k)) (stack_after z g k) c.memory c e 0
      (own_test g.base y cp (omega arith)) (truth_there vt v false g.base y cp c.memory t lt size h.value is) (placed_of z (state cp (Value v) (Doing x (Picks (tree.OneArm condition chosen at) more) ∷ k) l w) c h)
      next)
      (omega arith) (omega arith)

  pub if_given : (chain : Arms) (otherwise : LastArm) (line : ℕ) (condition : Expression) (chosen : Statement) (at : ℕ) (more : Arms) (v : Datum) (vt : Ty) (k : List Pending) (cp : CopyOf) (l : source.Memory) (w : World value.Byte) (c : Machine) → arm_count more < arm_count chain
      → HasType z.program vt v → 0 < byte_count v → test_size (ground.width (ground_in z cp) condition) ≡ byte_count v → (ground_in z cp).base + byte_count v ≤ (core_in z).program.frame_bytes (number z cp) → is_due (arrived z.outside w) ≡ false
      → Mirrors z (state cp (Value v) (Doing (tree.If chain otherwise line) (Picks (tree.OneArm condition chosen at) more) ∷ k) l w) c
      → Follow z (4 * byte_count v + 16 + end_joins chain more otherwise) 1 c (take_for (source_in z) (tree.If chain otherwise line) (Picks (tree.OneArm condition chosen at) more) v k cp l (arrived z.outside w))
  unfolding active
  if_given chain otherwise line condition chosen at more v vt k cp l w c few t lt size room due h =
      if_case chain otherwise line condition chosen at more v vt (truth_of v) k cp l w c refl few t lt size room due h (arms (tree.If chain otherwise line) more otherwise k cp l (arrived z.outside w))
      (λ d pd. arms_follow chain otherwise line more k cp l w c.memory d few due h.agrees h.holds pd)

  -- ---- conditions of loops
  loop_case : (shape : LoopForm) (begins : Option Expression) (condition : Expression) (step : Option Expression) (body : Statement) (line : ℕ) (v : Datum) (vt : Ty) (holds : Option Bool) (k : List Pending) (cp : CopyOf) (l : source.Memory) (w : World value.Byte) (c : Machine) → truth_of v ≡ holds
      → HasType z.program vt v → 0 < byte_count v → test_size (ground.width (ground_in z cp) condition) ≡ byte_count v → (ground_in z cp).base + byte_count v ≤ (core_in z).program.frame_bytes (number z cp) → is_due (arrived z.outside w) ≡ false
      → Mirrors z (state cp (Value v) (Doing (tree.Loop shape begins (Some condition) step body line) Tests ∷ k) l w) c
      → Follow z (4 * byte_count v + (20 + turn_cost shape)) 1 c (branch holds line (turn (tree.Loop shape begins (Some condition) step body line) body k cp l (arrived z.outside w)) (Went (state cp Past k l (arrived z.outside w)) None))
  unfolding active
  loop_case shape begins condition step body line v vt None k cp l w c is t lt size room due h = tt
  loop_case shape begins condition step body line v vt (Some true) k cp l w c is t lt size room due h =
      let x = tree.Loop shape begins (Some condition) step body line in
      let g = ground_in z cp in
      let n = number z cp in
      let W = world_as (held z) (arrived z.outside w) in
      let no = due_below z (arrived z.outside w) due in
      let ag = again_below z w in
      let T = Mirrors z (state cp (Run body) (Doing x Turns ∷ k) l (arrived z.outside w)) in
      let y = test_size (ground.width g condition) in
      let rest = todo (behind_test g shape step (stmt_code g (jumps_in shape) body)) [] in
      let s = stack_after z g (Doing x Tests ∷ k) in
      comes_within (core_in z) T (4 * y + 16 + (4 + turn_cost shape)) (1 + 0) (4 * byte_count v + (20 + turn_cost shape)) 1 c
      (if_then (core_in z) T n None W no ag (first g) y true (many []) (code.Exit 0) rest s c.memory c (4 + turn_cost shape) 0
      (own_test g.base y cp (omega arith)) (truth_there vt v true g.base y cp c.memory t lt size h.value is) (placed_of z (state cp (Value v) (Doing x Tests ∷ k) l w) c h)
      (λ d pd. many_then (core_in z) T n None W no ag [] (Join ∷ rest) s c.memory d (4 + turn_cost shape) 0 pd
      (λ e pe. join_then (core_in z) T n None W no ag rest s c.memory e (turn_cost shape) 0 pe
      (λ f pf. turn_then z begins (Some condition) step body line k cp l w c.memory due h.agrees h.holds shape f pf))))
      (omega arith) (omega arith)
  loop_case shape begins condition step body line v vt (Some false) k cp l w c is t lt size room due h =
      let x = tree.Loop shape begins (Some condition) step body line in
      let g = ground_in z cp in
      let n = number z cp in
      let W = world_as (held z) (arrived z.outside w) in
      let no = due_below z (arrived z.outside w) due in
      let ag = again_below z w in
      let T = Mirrors z (state cp Past k l (arrived z.outside w)) in
      let y = test_size (ground.width g condition) in
      let rest = todo (behind_test g shape step (stmt_code g (jumps_in shape) body)) [] in
      let s = stack_after z g (Doing x Tests ∷ k) in
      comes_within (core_in z) T (4 * y + 16 + (4 + 0)) (1 + 0) (4 * byte_count v + (20 + turn_cost shape)) 1 c
      (if_then (core_in z) T n None W no ag (first g) y false (many []) (code.Exit 0) rest s c.memory c (4 + 0) 0
      (own_test g.base y cp (omega arith)) (truth_there vt v false g.base y cp c.memory t lt size h.value is) (placed_of z (state cp (Value v) (Doing x Tests ∷ k) l w) c h)
      (λ d pd. exit_then (core_in z) T n None W no ag (loop_body g shape (Some condition) step (stmt_code g (jumps_in shape) body)) (Join ∷ rest) (code_after g k) (stack_after z g k) c.memory d 0 0 pd
      (λ e pe. arrive z cp Past k l w c.memory e pe h.agrees h.holds tt)))
      (omega arith) (omega arith)

  pub test_given : (shape : LoopForm) (begins : Option Expression) (condition : Expression) (step : Option Expression) (body : Statement) (line : ℕ) (v : Datum) (vt : Ty) (k : List Pending) (cp : CopyOf) (l : source.Memory) (w : World value.Byte) (c : Machine)
      → HasType z.program vt v → 0 < byte_count v → test_size (ground.width (ground_in z cp) condition) ≡ byte_count v → (ground_in z cp).base + byte_count v ≤ (core_in z).program.frame_bytes (number z cp) → is_due (arrived z.outside w) ≡ false
      → Mirrors z (state cp (Value v) (Doing (tree.Loop shape begins (Some condition) step body line) Tests ∷ k) l w) c
      → Follow z (4 * byte_count v + (20 + turn_cost shape)) 1 c (take_for (source_in z) (tree.Loop shape begins (Some condition) step body line) Tests v k cp l (arrived z.outside w))
  test_given shape begins condition step body line v vt k cp l w c t lt size room due h = loop_case shape begins condition step body line v vt (truth_of v) k cp l w c refl t lt size room due h

  -- ---- ints that are 0 or 1
  truth_pattern : (held : Bool) (i : ℕ) → i < 2 → byte_at (if held then 1 else 0) i ≡ pattern int.Int (cut int.Int (truth held)) / 256 ^ i % 256
  unfolding byte_at
  truth_pattern true zero lt = refl
  truth_pattern true (suc zero) lt = refl
  truth_pattern true (suc (suc i)) lt = absurd (omega arith)
  truth_pattern false zero lt = refl
  truth_pattern false (suc zero) lt = refl
  truth_pattern false (suc (suc i)) lt = absurd (omega arith)

  -- A truth value is set at its place, and the code of so many choices joins.
  truth_set : (held_value : Bool) (i : ℕ) (k : List Pending) (cp : CopyOf) (l : source.Memory) (w : World value.Byte) (m : Memory) (c : Machine) → Around z cp k → base (ground_in z cp) k + 2 ≤ (core_in z).program.frame_bytes (number z cp) → is_due (arrived z.outside w) ≡ false → Agrees z (active cp (Value (truth_value held_value)) k) l m → Holds z (ground_in z cp) k m
      → Placed (core_in z) (number z cp) None (todo (sets (Frame (ground_in z cp).copy (base (ground_in z cp) k)) (if held_value then 1 else 0) 2) (joins i (code_after (ground_in z cp) k))) (stack_after z (ground_in z cp) k) m (world_as (held z) (arrived z.outside w)) c
      → Comes (core_in z) (Mirrors z (state cp (Value (truth_value held_value)) k l (arrived z.outside w))) (8 + 4 * i) 0 c
  truth_set held_value i k cp l w m c around room due agrees holds p =
      let n = number z cp in
      let g = ground_in z cp in
      let b = base g k in
      let W = world_as (held z) (arrived z.outside w) in
      let T = Mirrors z (state cp (Value (truth_value held_value)) k l (arrived z.outside w)) in
      let x : ℕ = if held_value then 1 else 0 in
      let s = stack_after z g k in
      let h : ℕ → Held = λ j. bytes.Number (byte_at x j) in
      let m' = with_bytes m (Frame n b) 2 h in
      let small = laws.small n in
      comes_within (core_in z) T (4 * 2 + (4 * i + 0)) 0 (8 + 4 * i) 0 c
      (sets_then (core_in z) T n None s W (due_below z (arrived z.outside w) due) (again_below z w) 2 b x (joins i (code_after g k)) m c (4 * i + 0) 0 room (omega arith)
      (subst (λ f. Placed (core_in z) n None (todo (sets (Frame f b) x 2) (joins i (code_after g k))) s m W c) (own_copy z cp) p)
      (λ d pd. joins_then (core_in z) T n None W (due_below z (arrived z.outside w) due) (again_below z w) i (code_after g k) s m' d 0 0 pd
      (λ e pe. comes_here (core_in z) T e
      (gives z laws cp k l (arrived z.outside w) m 2 h (truth_value held_value) e around (omega arith) (λ j lt. ap bytes.Number (truth_pattern held_value j lt))
      (subst (λ y. Placed (core_in z) n None (code_after g k) s m' y e) (same_below z w) pe)
      agrees holds))))
      (omega arith) (omega arith)

  -- ---- && and ||, whose left operand decides or not
  first_side : LogicalOp → ℕ → Ground → List Tree → List Tree
  first_side And b g other = other
  first_side Or b g other = sets (Frame g.copy b) 1 2

  second_side : LogicalOp → ℕ → Ground → List Tree → List Tree
  second_side And b g other = sets (Frame g.copy b) 0 2
  second_side Or b g other = other

  row_is : (op : LogicalOp) (b size : ℕ) (g : Ground) (other : List Tree) → logical_row op (Frame g.copy b) size other ≡ choice (Frame g.copy b) size (first_side op b g other) (second_side op b g other)
  unfolding first_side second_side
  row_is And b size g other = refl
  row_is Or b size g other = refl

  logical_row_is : (op : LogicalOp) (held_value : Bool) (b size : ℕ) (g : Ground) (other : List Tree) → decides op held_value ≡ false → chosen_code held_value (first_side op b g other) (second_side op b g other) ≡ other
  unfolding first_side second_side
  logical_row_is And true b size g other e = refl
  logical_row_is And false b size g other e = absurd (cc)
  logical_row_is Or true b size g other e = absurd (cc)
  logical_row_is Or false b size g other e = refl

  decided_row_is : (op : LogicalOp) (held_value : Bool) (b : ℕ) (g : Ground) (other : List Tree) → decides op held_value ≡ true → chosen_code held_value (first_side op b g other) (second_side op b g other) ≡ sets (Frame g.copy b) (if held_value then 1 else 0) 2
  unfolding first_side second_side
  decided_row_is And true b g other e = absurd (cc)
  decided_row_is And false b g other e = refl
  decided_row_is Or true b g other e = refl
  decided_row_is Or false b g other e = absurd (cc)

  logical_case : (decided : Bool) (op : LogicalOp) (left right : Expression) (line : ℕ) (v : Datum) (vt : Ty) (held_value : Bool) (k : List Pending) (cp : CopyOf) (l : source.Memory) (w : World value.Byte) (c : Machine) → decides op held_value ≡ decided → truth_of v ≡ Some held_value → Around z cp k
      → HasType z.program vt v → 0 < byte_count v → test_size (value_width (ground_in z cp).layout left) ≡ byte_count v → base (ground_in z cp) k + byte_count v ≤ (core_in z).program.frame_bytes (number z cp) → base (ground_in z cp) k + 2 ≤ (core_in z).program.frame_bytes (number z cp) → is_due (arrived z.outside w) ≡ false
      → Mirrors z (state cp (Value v) (In (tree.Logical op left right line) Nothing ∷ k) l w) c
      → Follow z (4 * byte_count v + 28) 1 c (if decided then Went (state cp (Value (truth_value held_value)) k l (arrived z.outside w)) None else Went (state cp (Eval right) (In (tree.Logical op left right line) (One v) ∷ k) l (arrived z.outside w)) None)
  unfolding active
  logical_case true op left right line v vt held_value k cp l w c decided is around t lt size room two due h =
      let e = tree.Logical op left right line in
      let g = ground_in z cp in
      let b = base g k in
      let n = number z cp in
      let T = Mirrors z (state cp (Value (truth_value held_value)) k l (arrived z.outside w)) in
      let x = test_size (value_width g.layout left) in
      let other = expr_code g.layout g.copy b true right ++ tested (Frame g.copy b) (value_width g.layout right) 1 0 ∷ [] in
      comes_within (core_in z) T (4 * x + 16 + (8 + 4 * 1)) (1 + 0) (4 * byte_count v + 28) 1 c
      (choice_then (core_in z) T n None (world_as (held z) (arrived z.outside w)) (due_below z (arrived z.outside w) due) (again_below z w) (Frame g.copy b) x held_value (first_side op b g other) (second_side op b g other) (code_after g k) (stack_after z g k) c.memory c (8 + 4 * 1) 0
      (own_test b x cp (omega arith)) (truth_there vt v held_value b x cp c.memory t lt size h.value is)
      (subst (λ y. Placed (core_in z) n None (Todo [] y ∷ code_after g k) (stack_after z g k) c.memory (world_as (held z) (arrived z.outside w)) c) (row_is op b (value_width g.layout left) g other) (placed_of z (state cp (Value v) (In e Nothing ∷ k) l w) c h))
      (λ d pd. truth_set held_value 1 k cp l w c.memory d around two due h.agrees h.holds.1
      (subst (λ y. Placed (core_in z) n None (todo y (Join ∷ code_after g k)) (stack_after z g k) c.memory (world_as (held z) (arrived z.outside w)) d) (decided_row_is op held_value b g other decided) pd)))
      (omega arith) (omega arith)
  logical_case false op left right line v vt held_value k cp l w c decided is around t lt size room two due h =
      let e = tree.Logical op left right line in
      let g = ground_in z cp in
      let b = base g k in
      let n = number z cp in
      let T = Mirrors z (state cp (Eval right) (In e (One v) ∷ k) l (arrived z.outside w)) in
      let x = test_size (value_width g.layout left) in
      let other = expr_code g.layout g.copy b true right ++ tested (Frame g.copy b) (value_width g.layout right) 1 0 ∷ [] in
      comes_within (core_in z) T (4 * x + 16 + 0) (1 + 0) (4 * byte_count v + 28) 1 c
      (choice_then (core_in z) T n None (world_as (held z) (arrived z.outside w)) (due_below z (arrived z.outside w) due) (again_below z w) (Frame g.copy b) x held_value (first_side op b g other) (second_side op b g other) (code_after g k) (stack_after z g k) c.memory c 0 0
      (own_test b x cp (omega arith)) (truth_there vt v held_value b x cp c.memory t lt size h.value is)
      (subst (λ y. Placed (core_in z) n None (Todo [] y ∷ code_after g k) (stack_after z g k) c.memory (world_as (held z) (arrived z.outside w)) c) (row_is op b (value_width g.layout left) g other) (placed_of z (state cp (Value v) (In e Nothing ∷ k) l w) c h))
      (λ d pd. arrive z cp (Eval right) (In e (One v) ∷ k) l w c.memory d
      (subst (λ y. Placed (core_in z) n None y (stack_after z g k) c.memory (world_as (held z) (arrived z.outside w)) d)
      (ap (λ y. todo y (Join ∷ code_after g k)) (logical_row_is op held_value b (value_width g.layout left) g other decided) ∙ todo_join (expr_code g.layout g.copy b true right) (tested (Frame g.copy b) (value_width g.layout right) 1 0 ∷ []) (Join ∷ code_after g k)) pd)
      h.agrees (tt, h.holds.1) tt))
      (omega arith) (omega arith)

  logical_or_none : (op : LogicalOp) (left right : Expression) (line : ℕ) (v : Datum) (vt : Ty) (holds : Option Bool) (k : List Pending) (cp : CopyOf) (l : source.Memory) (w : World value.Byte) (c : Machine) → truth_of v ≡ holds → Around z cp k
      → HasType z.program vt v → 0 < byte_count v → test_size (value_width (ground_in z cp).layout left) ≡ byte_count v → base (ground_in z cp) k + byte_count v ≤ (core_in z).program.frame_bytes (number z cp) → base (ground_in z cp) k + 2 ≤ (core_in z).program.frame_bytes (number z cp) → is_due (arrived z.outside w) ≡ false
      → Mirrors z (state cp (Value v) (In (tree.Logical op left right line) Nothing ∷ k) l w) c
      → Follow z (4 * byte_count v + 28) 1 c (logical (tree.Logical op left right line) op v holds right line k cp l (arrived z.outside w))
  logical_or_none op left right line v vt None k cp l w c is around t lt size room two due h = tt
  logical_or_none op left right line v vt (Some held_value) k cp l w c is around t lt size room two due h = logical_case (decides op held_value) op left right line v vt held_value k cp l w c refl is around t lt size room two due h

  pub logical_left : (op : LogicalOp) (left right : Expression) (line : ℕ) (v : Datum) (vt : Ty) (k : List Pending) (cp : CopyOf) (l : source.Memory) (w : World value.Byte) (c : Machine) → Around z cp k
      → HasType z.program vt v → 0 < byte_count v → test_size (value_width (ground_in z cp).layout left) ≡ byte_count v → base (ground_in z cp) k + byte_count v ≤ (core_in z).program.frame_bytes (number z cp) → base (ground_in z cp) k + 2 ≤ (core_in z).program.frame_bytes (number z cp) → is_due (arrived z.outside w) ≡ false
      → Mirrors z (state cp (Value v) (In (tree.Logical op left right line) Nothing ∷ k) l w) c
      → Follow z (4 * byte_count v + 28) 1 c (take_in (source_in z) (tree.Logical op left right line) Nothing v k cp l (arrived z.outside w))
  logical_left op left right line v vt k cp l w c around t lt size room two due h = logical_or_none op left right line v vt (truth_of v) k cp l w c refl around t lt size room two due h

  -- ---- truth values of a whole operand
  tested_is : (held_value : Bool) (at : Byte) → chosen_code held_value (sets at 1 2) (sets at 0 2) ≡ sets at (if held_value then 1 else 0) 2
  tested_is true at = refl
  tested_is false at = refl

  right_case : (op : LogicalOp) (left right : Expression) (line : ℕ) (u v : Datum) (vt : Ty) (holds : Option Bool) (k : List Pending) (cp : CopyOf) (l : source.Memory) (w : World value.Byte) (c : Machine) → truth_of v ≡ holds → Around z cp k
      → HasType z.program vt v → 0 < byte_count v → test_size (value_width (ground_in z cp).layout right) ≡ byte_count v → base (ground_in z cp) k + byte_count v ≤ (core_in z).program.frame_bytes (number z cp) → base (ground_in z cp) k + 2 ≤ (core_in z).program.frame_bytes (number z cp) → is_due (arrived z.outside w) ≡ false
      → Mirrors z (state cp (Value v) (In (tree.Logical op left right line) (One u) ∷ k) l w) c
      → Follow z (4 * byte_count v + 32) 1 c (truth_given holds line k cp l (arrived z.outside w))
  unfolding active
  right_case op left right line u v vt None k cp l w c is around t lt size room two due h = tt
  right_case op left right line u v vt (Some held_value) k cp l w c is around t lt size room two due h =
      let e = tree.Logical op left right line in
      let g = ground_in z cp in
      let b = base g k in
      let n = number z cp in
      let T = Mirrors z (state cp (Value (truth_value held_value)) k l (arrived z.outside w)) in
      let x = test_size (value_width g.layout right) in
      comes_within (core_in z) T (4 * x + 16 + (8 + 4 * 2)) (1 + 0) (4 * byte_count v + 32) 1 c
      (choice_then (core_in z) T n None (world_as (held z) (arrived z.outside w)) (due_below z (arrived z.outside w) due) (again_below z w) (Frame g.copy b) x held_value (sets (Frame g.copy b) 1 2) (sets (Frame g.copy b) 0 2) (Join ∷ code_after g k) (stack_after z g k) c.memory c (8 + 4 * 2) 0
      (own_test b x cp (omega arith)) (truth_there vt v held_value b x cp c.memory t lt size h.value is)
      (placed_of z (state cp (Value v) (In e (One u) ∷ k) l w) c h)
      (λ d pd. truth_set held_value 2 k cp l w c.memory d around two due h.agrees h.holds.1
      (subst (λ y. Placed (core_in z) n None (todo y (Join ∷ Join ∷ code_after g k)) (stack_after z g k) c.memory (world_as (held z) (arrived z.outside w)) d) (tested_is held_value (Frame g.copy b)) pd)))
      (omega arith) (omega arith)

  pub logical_right : (op : LogicalOp) (left right : Expression) (line : ℕ) (u v : Datum) (vt : Ty) (k : List Pending) (cp : CopyOf) (l : source.Memory) (w : World value.Byte) (c : Machine) → Around z cp k
      → HasType z.program vt v → 0 < byte_count v → test_size (value_width (ground_in z cp).layout right) ≡ byte_count v → base (ground_in z cp) k + byte_count v ≤ (core_in z).program.frame_bytes (number z cp) → base (ground_in z cp) k + 2 ≤ (core_in z).program.frame_bytes (number z cp) → is_due (arrived z.outside w) ≡ false
      → Mirrors z (state cp (Value v) (In (tree.Logical op left right line) (One u) ∷ k) l w) c
      → Follow z (4 * byte_count v + 32) 1 c (take_in (source_in z) (tree.Logical op left right line) (One u) v k cp l (arrived z.outside w))
  logical_right op left right line u v vt k cp l w c around t lt size room two due h = right_case op left right line u v vt (truth_of v) k cp l w c refl around t lt size room two due h

  -- ---- !
  bang_case : (operand : Expression) (ty : Ty) (line : ℕ) (v : Datum) (vt : Ty) (k : List Pending) (cp : CopyOf) (l : source.Memory) (w : World value.Byte) (c : Machine) → Around z cp k
      → HasType z.program vt v → 0 < byte_count v → test_size (value_width (ground_in z cp).layout operand) ≡ byte_count v → base (ground_in z cp) k + byte_count v ≤ (core_in z).program.frame_bytes (number z cp) → base (ground_in z cp) k + 2 ≤ (core_in z).program.frame_bytes (number z cp) → is_due (arrived z.outside w) ≡ false
      → Mirrors z (state cp (Value v) (In (tree.Unary Bang operand ty line) Nothing ∷ k) l w) c
      → Comes (core_in z) (Mirrors z (state cp (Value (truth_value (is_zero v))) k l (arrived z.outside w))) (4 * byte_count v + 28) 0 c
  unfolding active
  bang_case operand ty line v vt k cp l w c around t lt size room two due h =
      let e = tree.Unary Bang operand ty line in
      let g = ground_in z cp in
      let b = base g k in
      let n = number z cp in
      let u = truth_value (is_zero v) in
      let W = world_as (held z) (arrived z.outside w) in
      let T = Mirrors z (state cp (Value u) k l (arrived z.outside w)) in
      let s = stack_after z g k in
      let now : todo (unary_row Bang (operation_type ty) (Frame g.copy b) (value_width g.layout operand)) (code_after g k) ≡ Todo [] (code.Unary Bang (type_of_size (byte_count v)) (Frame n b)) ∷ code_after g k =
      ap (λ x. Todo [] (code.Unary Bang (type_of_size x) (Frame g.copy b)) ∷ code_after g k) (size_is v (value_width g.layout operand) size)
      ∙ ap (λ i. Todo [] (code.Unary Bang (type_of_size (byte_count v)) (Frame i b)) ∷ code_after g k) (own_copy z cp) in
      comes_within (core_in z) T (4 * byte_count v + 16 + 0) 0 (4 * byte_count v + 28) 0 c
      (bang_then z (core_in z) T n s W (due_below z (arrived z.outside w) due) (again_below z w) v vt b (code_after g k) c.memory c 0 0 t lt room two (subst (λ i. HasDatum z i b v c.memory) (own_copy z cp) h.value)
      (subst (λ f. Placed (core_in z) n None f s c.memory W c) now (placed_of z (state cp (Value v) (In e Nothing ∷ k) l w) c h))
      (λ d pd. comes_here (core_in z) T d
      (gives z laws cp k l (arrived z.outside w) c.memory 2 (core.byte_of (core.truth_value (is_zero v))) u d around (omega arith) (λ j lt. refl)
      (subst (λ f. Placed (core_in z) n None (code_after g k) s (with_bytes c.memory (Frame n b) 2 (core.byte_of (core.truth_value (is_zero v)))) f d) (same_below z w) pd)
      h.agrees h.holds.1)))
      (omega arith) (omega arith)

  pub bang_given : (operand : Expression) (ty : Ty) (line : ℕ) (v : Datum) (vt : Ty) (k : List Pending) (cp : CopyOf) (l : source.Memory) (w : World value.Byte) (c : Machine) → Around z cp k
      → HasType z.program vt v → 0 < byte_count v → test_size (value_width (ground_in z cp).layout operand) ≡ byte_count v → base (ground_in z cp) k + byte_count v ≤ (core_in z).program.frame_bytes (number z cp) → base (ground_in z cp) k + 2 ≤ (core_in z).program.frame_bytes (number z cp) → is_due (arrived z.outside w) ≡ false
      → Mirrors z (state cp (Value v) (In (tree.Unary Bang operand ty line) Nothing ∷ k) l w) c
      → Follow z (4 * byte_count v + 28) 0 c (take_in (source_in z) (tree.Unary Bang operand ty line) Nothing v k cp l (arrived z.outside w))
  unfolding unary_answer
  bang_given operand ty line datum.Missing vt k cp l w c around t lt size room two due h = tt
  bang_given operand ty line (datum.Number q) vt k cp l w c around t lt size room two due h = bang_case operand ty line (datum.Number q) vt k cp l w c around t lt size room two due h
  bang_given operand ty line (datum.Pointer x) vt k cp l w c around t lt size room two due h = bang_case operand ty line (datum.Pointer x) vt k cp l w c around t lt size room two due h
