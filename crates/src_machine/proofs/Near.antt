-- A step of a machine of the code is near: the weight of its state has a bound.
use Rattle.std.proofs.Common.{◌≡◌, ◌≤◌, ◌<◌, ℕ, ◌+◌, ◌*◌, Bool, true, false, List, [], ◌∷◌, map, drop, length, refl, ap, arith, length-drop}
use Rattle.std.specs.Prelude.{if◌then◌else◌}
use Rattle.c_typed.specs.TreeNodes.{nodes_of_body, nodes_of}
use Rattle.c_typed.specs.Trees.{Program}
use Rattle.c_typed.specs.Views.{expression_of, place_of, statement_of, statements_of}
use Rattle.src_machine.proofs.Light.{expression_light, place_light, part_light, declarator_light, statements_light, stage_light, cap_few}
use Rattle.src_machine.proofs.Shortness.{are_short, counted, code_short, stage_left}
use Rattle.src_rules.proofs.Rooms.{cap, FocusSized, Sized}
use Rattle.src_rules.specs.Standing.{StackStands}
use Rattle.src_rules.specs.State.{State}
use Rattle.src_rules.specs.Step.{counts}
use Rattle.src_rules.specs.Weights.{statements_weight, stack_weight, focus_weight, weight}
use Rattle.src_values.specs.Control as control
use Rattle.src_values.specs.Memory.{Setting}
use Rattle.src_values.specs.Seen.{focus_in, frames_behind, got_in, has_values, values_on, statement_in, stage_in}
use Rattle.src_values.specs.declared.control.Focus.{Focus}
use Rattle.src_values.specs.declared.control.Focus.TheVariants as focuses
use Rattle.src_values.specs.declared.control.Pending.{Pending}
use Rattle.src_values.specs.declared.control.Pending.TheVariants as frames
use Rattle.src_values.specs.declared.objects.CopyOf.{CopyOf}

module _ (p : Program) (small : nodes_of p ≤ 268435456) where
  -- ---- the stack
  list_light : (n : ℕ) (ts : List _) → length ts < 9223372036854775808 → 1 + nodes_of_body (statements_of (map statement_of ts)) ≤ n → n ≤ 1 + nodes_of p
      → statements_weight (statements_of (map statement_of ts)) ≤ 79228162514264337593543950336
  list_light n ts few h g = let i = statements_light (statements_of (map statement_of ts)) (are_short ts) in let j = counted ts in omega arith

  pub stack_light : (x : control.Focus) (b : Bool) (c : CopyOf) (k : List Pending) → Sized p c (frames_behind x b k) → StackStands p c (frames_behind x b k)
      → stack_weight (frames_behind x b k) ≤ 79228162514264337593543950336 * length k
  unfolding statements_weight
  stack_light x b c [] z st = omega arith
  stack_light x b c (frames.In e got ∷ k) z st =
      let i = stack_light x (has_values got) c k z.2 st.3 in
      let d = part_light (expression_of e.now) (got_in (expression_of e.now) got (values_on k)) z.1 in
      let a = z.0 in
      let f = cap_few p c (frames_behind x (has_values got) k) z.2 in
      omega arith
  stack_light x true c (frames.Value v ∷ k) z st = let i = stack_light x true c k z st in omega arith
  stack_light x false c (frames.Value v ∷ k) z st = let i = stack_light x false c k z.1 st.2 in omega arith
  stack_light x b c (frames.To place ∷ k) z st = let i = stack_light x false c k z.1 st.2 in omega arith
  stack_light x b c (frames.Doing code stage ∷ k) z st =
      let i = stack_light x false c k z.2 st.3 in
      let s = code_short code in
      let d = stage_light p c.function _ _ _ (statement_in code) (stage_in (statement_in code) stage) st.0 st.2 z.1 s.1 (stage_left (statement_in code) stage s.0) in
      let a = z.0 in
      let f = cap_few p c (frames_behind x false k) z.2 in
      omega arith
  stack_light x b c (frames.Before ss at ∷ k) z st =
      let i = stack_light x false c k z.1 st.2 in
      let o = ss.now.ok in
      let q = ss.now.small in
      let l = length-drop at ss.now.items in
      let d = list_light (cap p c (frames_behind x false k)) (drop at ss.now.items) (omega arith) z.0 (cap_few p c (frames_behind x false k) z.1) in
      omega arith
  stack_light x b c (frames.Ended ∷ k) z st = let i = stack_light x false c k z.1 st.2 in omega arith
  stack_light x b c (frames.Returns copy ∷ k) z st = let i = stack_light x false copy k z st.3 in omega arith
  stack_light x b c (frames.Resumes copy ∷ k) z st = omega arith

  -- ---- the focus
  pub focus_light : (c : CopyOf) (focus : Focus) (k : List control.Pending) → Sized p c k → FocusSized p c (focus_in focus) k → focus_weight (focus_in focus) ≤ 79228162514264337593543950336
  focus_light c (focuses.Eval e) k z h = let d = expression_light (expression_of e.now) in let f = cap_few p c k z in omega arith
  focus_light c (focuses.Find place) k z h = let d = place_light (place_of place.now) in let f = cap_few p c k z in omega arith
  focus_light c (focuses.Run code) k z h = let s = code_short code in let d = declarator_light (statement_in code) s.0 in let f = cap_few p c k z in omega arith
  focus_light c _ k z h = omega arith

-- ---- the whole
weighs_by : (s : Setting) (t : State) (b : Bool) → counts s t ≡ b → weight s t ≤ focus_weight t.focus + stack_weight t.stack
unfolding weight
weighs_by s t true e = let d = ap (λ b. if b then 0 else focus_weight t.focus + stack_weight t.stack) e in omega arith
weighs_by s t false e = let d = ap (λ b. if b then 0 else focus_weight t.focus + stack_weight t.stack) e in omega arith

pub weighs : (s : Setting) (t : State) → weight s t ≤ focus_weight t.focus + stack_weight t.stack
weighs s t = weighs_by s t (counts s t) refl
