-- What a micro-step may cost byte code, by whether it counts, and where a function's body begins.
use Rattle.std.proofs.Common.{◌≡◌, ℕ, ◌<◌, ◌≤◌, Bool, true, false, ◌&&◌, if◌then◌else◌, Option, Some, None, refl, sym, ap, ◌∙◌, arith}
use Rattle.std.proofs.lemmas.Bool.{false≢true}
use Rattle.std.specs.List.{All}
use Rattle.c_typed.specs.Trees.{Program}
use Rattle.pic_world.specs.World.{arrived, is_due}
use Rattle.src_rules.proofs.Weighing.{uncounted}
use Rattle.src_rules.specs.State.{State}
use Rattle.src_rules.specs.Step.{is_some_line, enters, counts}
use Rattle.src_values.specs.Control.{Calls}
use Rattle.src_values.specs.Counting.{counted_line}
use Rattle.src_values.specs.Objects.{handler_in}
use Rattle.lower_trace.specs.Lowering.{IsLowerable}
use Rattle.lower_trace.proofs.CodeLeft.{Scene, source_in}
use Rattle.lower_trace.proofs.Known.{Known}
use Rattle.lower_trace.proofs.LedSteps.{step_at_most, most_free, most_entry}
use Rattle.lower_trace.proofs.Prices.{call_room, step_room, most_at}
use Rattle.lower_trace.proofs.StepPrices.{FewArms, counted_few, free_few}

module _ (z : Scene) (given : IsLowerable z.program z.copies) (input : All (λ byte. byte < 256) z.outside.input) where
  abbrev p : Program
  p = z.program

  -- One that doesn't count costs no more than its node does ..
  pub cheap : (t : State) → counts (source_in z) t ≡ false → step_at_most z t ≤ most_at p t.focus t.stack
  unfolding counts enters
  cheap t e = by (is_due (arrived z.outside t.world)) (handler_in p) refl refl
    where
      by : (b : Bool) (o : Option ℕ) → is_due (arrived z.outside t.world) ≡ b → handler_in p ≡ o → step_at_most z t ≤ most_at p t.focus t.stack
      by false o due is = let m = most_free z t due in omega arith
      by true None due is = let m = most_entry z t None due is in omega arith
      by true (Some h) due is =
          let here : (is_due (arrived z.outside t.world) && is_some_line (handler_in p)) ≡ true = ap (λ b. b && is_some_line (handler_in p)) due ∙ ap is_some_line is in
          absurd (false≢true (sym (uncounted _ _ e).0 ∙ here))

  -- .. and little,
  pub little : (t : State) → Known z t → FewArms t.stack → counts (source_in z) t ≡ false → step_at_most z t ≤ 600
  unfolding counts
  little t known few e =
      let s = known.stands in
      let a = cheap t e in
      let b = free_few z given input t.focus t.stack t.copy s.reached s.focus s.stack known.stack few (uncounted _ _ e).1 in
      omega arith

  -- and one that counts no more than this.
  pub dear : (t : State) → Known z t → counts (source_in z) t ≡ true → step_at_most z t ≤ step_room
  unfolding counts enters
  dear t known e = by (is_due (arrived z.outside t.world)) (handler_in p) refl refl
    where
      by : (b : Bool) (o : Option ℕ) → is_due (arrived z.outside t.world) ≡ b → handler_in p ≡ o → step_at_most z t ≤ step_room
      by false o due is =
          let s = known.stands in
          let line : is_some_line (counted_line p t.copy t.focus t.stack) ≡ true = sym (ap (λ b. if b && is_some_line (handler_in p) then true else is_some_line (counted_line p t.copy t.focus t.stack)) due) ∙ e in
          let m = most_free z t due in
          let q = counted_few z given input t.focus t.stack t.copy s.reached s.stack known.stack line in
          omega arith
      by true None due is = let m = most_entry z t None due is in omega arith
      by true (Some h) due is = let m = most_entry z t (Some h) due is in omega arith

  -- The entry of the handler costs little,
  pub brief_entry : (t : State) → enters (source_in z) t ≡ true → step_at_most z t ≤ 100
  unfolding enters
  brief_entry t e = by (is_due (arrived z.outside t.world)) (handler_in p) refl refl
    where
      by : (b : Bool) (o : Option ℕ) → is_due (arrived z.outside t.world) ≡ b → handler_in p ≡ o → step_at_most z t ≤ 100
      by true None due is = let m = most_entry z t None due is in omega arith
      by true (Some h) due is = let m = most_entry z t (Some h) due is in omega arith
      by false o due is = absurd (false≢true (sym (ap (λ b. b && is_some_line (handler_in p)) due) ∙ e))

  -- and so does a call.
  pub brief_call : (t : State) → t.focus ≡ Calls → step_at_most z t ≤ call_room
  brief_call t e = by (is_due (arrived z.outside t.world)) (handler_in p) refl refl
    where
      by : (b : Bool) (o : Option ℕ) → is_due (arrived z.outside t.world) ≡ b → handler_in p ≡ o → step_at_most z t ≤ call_room
      by false o due is = let m = most_free z t due in let c = ap (λ x. most_at p x t.stack) e in omega arith
      by true None due is = let m = most_entry z t None due is in omega arith
      by true (Some h) due is = let m = most_entry z t (Some h) due is in omega arith
