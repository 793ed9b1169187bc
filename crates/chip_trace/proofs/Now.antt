-- What the instruction touches that begins here, whatever is under way.
use Rattle.std.proofs.Common.{◌≡◌, ◌≢◌, ℕ, zero, suc, ◌+◌, ◌/◌, ◌<◌, ◌⊎◌, inl, inr, Bool, true, false, List, length, Option, Some, None, refl, sym, ap, ◌∙◌, ⊎_elim, arith}
use Rattle.std.specs.Prelude.{slice_index, if◌then◌else◌}
use Rattle.std.proofs.lemmas.Bool.{cases_lt}
use Rattle.pic_isa.specs.Lookup.{row_of}
use Rattle.pic_chip.specs.Act.{perform}
use Rattle.pic_chip.specs.Address.{General, Status, Fsr, Pclath}
use Rattle.pic_chip.specs.Interrupts.{control_of, enter}
use Rattle.pic_chip.specs.Run.{Moment, Watch}
use Rattle.pic_chip.specs.State.{State}
use Rattle.pic_world.specs.Control as control
use Rattle.pic_world.specs.Control.{is_enabled}
use Rattle.pic_world.specs.World.{Schedule, Outside}
use Rattle.pic_world.proofs.ControlLaws.{disabled_not_due}
use Rattle.sym_code.specs.Effect.{Setting}
use Rattle.sym_code.specs.Machine.{Machine, Entry, Stops, sym_step_at, lands_at}
use Rattle.sym_code.specs.Machine as sym'
use Rattle.sym_code.specs.Programs.{Program, Position, lands}
use Rattle.chip_trace.specs.Keeping.{file_of, file_in, Touches, TouchesThere}
use Rattle.chip_trace.proofs.Context.{saved_pc, given_pc}
use Rattle.chip_trace.proofs.HandlerStep.{handler_touches}
use Rattle.chip_trace.proofs.Image.{IsImage, same_length}
use Rattle.chip_trace.proofs.MainStep.{St, IsClean, not_stuck, main_touches}
use Rattle.chip_trace.proofs.Relations.{Ground, IsBelow, spot}
use Rattle.chip_trace.proofs.Runs.{due_steps, over, exactly, raised_none}
use Rattle.chip_trace.proofs.Touched.{at_place, select_touches}
use Rattle.chip_trace.proofs.Stands.{Trail, Mode, InMain, Saving, Selecting, InHandler, Leaving, IsMain, IsHandling, IsThere, saving_ins, restoring_ins}

-- ---- the words of saving and restoring
saving_touches : (l : Program) (s : State) (k f : ℕ) → file_of (saving_ins k) ≡ Some f → Touches l f s
saving_touches l s zero f q = at_place l s 0x78 (General 88) (λ next. refl) (inr (refl, omega arith, omega arith)) f q
saving_touches l s (suc zero) f q = at_place l s 3 Status (λ next. refl) tt f q
saving_touches l s (suc (suc zero)) f q = at_place l s 0x79 (General 89) (λ next. refl) (inr (refl, omega arith, omega arith)) f q
saving_touches l s (suc (suc (suc zero))) f q = at_place l s 4 Fsr (λ next. refl) tt f q
saving_touches l s (suc (suc (suc (suc zero)))) f q = at_place l s 0x7a (General 90) (λ next. refl) (inr (refl, omega arith, omega arith)) f q
saving_touches l s (suc (suc (suc (suc (suc zero))))) f q = at_place l s 10 Pclath (λ next. refl) tt f q
saving_touches l s (suc (suc (suc (suc (suc (suc k)))))) f q = at_place l s 0x7b (General 91) (λ next. refl) (inr (refl, omega arith, omega arith)) f q

restoring_touches : (l : Program) (s : State) (k f : ℕ) → file_of (restoring_ins k) ≡ Some f → Touches l f s
restoring_touches l s zero f q = at_place l s 0x7b (General 91) (λ next. refl) (inr (refl, omega arith, omega arith)) f q
restoring_touches l s (suc zero) f q = at_place l s 10 Pclath (λ next. refl) tt f q
restoring_touches l s (suc (suc zero)) f q = at_place l s 0x7a (General 90) (λ next. refl) (inr (refl, omega arith, omega arith)) f q
restoring_touches l s (suc (suc (suc zero))) f q = at_place l s 4 Fsr (λ next. refl) tt f q
restoring_touches l s (suc (suc (suc (suc zero)))) f q = at_place l s 0x79 (General 89) (λ next. refl) (inr (refl, omega arith, omega arith)) f q
restoring_touches l s (suc (suc (suc (suc (suc zero))))) f q = at_place l s 3 Status (λ next. refl) tt f q
restoring_touches l s (suc (suc (suc (suc (suc (suc zero)))))) f q = at_place l s 0x78 (General 88) (λ next. refl) (inr (refl, omega arith, omega arith)) f q
restoring_touches l s (suc (suc (suc (suc (suc (suc (suc zero))))))) f q = at_place l s 0x78 (General 88) (λ next. refl) (inr (refl, omega arith, omega arith)) f q
restoring_touches l s (suc (suc (suc (suc (suc (suc (suc (suc k)))))))) f q = absurd (cc)

module _ (g : Setting) (h : Ground) (image input : List ℕ) (hd : ℕ) (x : IsImage g h image input hd) (watch : Watch) (halt_is : watch.halt ≡ h.halt) (e : Entry) (t0 : Machine) (start from to : ℕ) where
  module _ (s : Schedule) (runs n : ℕ) (c : Moment) (debt : ℕ) (trail : Trail) (st : St g h image input hd x watch halt_is e t0 start from to s runs n c debt trail) (clean : IsClean g h image input hd x watch halt_is e t0 start from to s n (length c.trace))
      (only : (k : ℕ) → g.program.handler ≡ Some k → g.program.handler ≡ Some hd) where
    abbrev t : Machine
    t = st.early

    abbrev S : State
    S = c.state

    abbrev ll : Program
    ll = g.program

    abbrev o : Outside
    o = over input s

    differ : (b : Bool) → b ≡ true → b ≡ false → ⊥
    differ true e f = cc
    differ false e f = cc

    -- an interrupt is taken: there is a handler
    module _ (a : IsMain g h image hd x.vector t st.thread trail.context S) (due : control.is_due (control_of S) ≡ true) where
      goes_in : sym_step_at g e o t ≢ Stops
      goes_in =
          let p = (st.comes s 0 (exactly s (length t.world.trace))).1 in let q = st.cheap in let l = same_length c.trace t.world.trace st.shows.trace in
          not_stuck g h image input hd x watch halt_is e t0 start from to s n (length c.trace) st.index t clean (omega arith) ((st.comes s 0 (exactly s (length t.world.trace))).0 ∙ raised_none t) (omega arith)

      has_case : (k : Option ℕ) → g.program.handler ≡ k → g.program.handler ≡ Some hd
      has_case None q = absurd (goes_in (due_steps g e input t0 o t a.inside (ap control.is_due (sym st.shows.control) ∙ due) ∙ ap (λ z. sym'.enter g e z t) q))
      has_case (Some k) q = only k q

      entered_touches : TouchesThere ll image (perform enter S)
      entered_touches f q =
          let vec = x.vector (has_case g.program.handler refl) in
          saving_touches ll (perform enter S) 0 f (sym (ap file_in (vec.saves 0 (omega arith))) ∙ q)

    -- main goes on, or has ended
    somewhere : (z : Option Position) → st.thread.at ≡ z → lands_at g.program z ≡ true → (p : Position) × (st.thread.at ≡ Some p) × (lands g.program p ≡ true)
    somewhere None is q = absurd (cc)
    somewhere (Some p) is q = (p, is, q)

    resting : IsMain g h image hd x.vector t st.thread trail.context S → st.thread.at ≡ None → TouchesThere ll image S
    resting a nowhere f q = ⊎_elim
        (λ lt. select_touches ll S (x.bit x.turn) (h.halt / 2048) f (sym (ap file_in (ap (λ z. row_of (slice_index image z)) at_turn ∙ x.selects x.turn lt)) ∙ q))
        (λ ge.
        let last : x.turn ≡ x.turns = let small = x.turn_small in omega arith in
        none (sym (ap file_in (ap (λ z. row_of (slice_index image z)) (at_turn ∙ ap (λ z. h.halt + z) last) ∙ x.stays)) ∙ q))
        (cases_lt x.turn x.turns) where
          at_turn : S.pc ≡ h.halt + x.turn
          at_turn = a.at.pc ∙ ap (spot g h) nowhere ∙ x.rests

          none : None ≡ Some f → Touches ll f S
          none q = absurd (cc)

    main_by : IsMain g h image hd x.vector t st.thread trail.context S → st.done ≡ 100 → control.is_due (control_of S) ≡ false → IsThere g h image hd x.vector st.thread c.ended → TouchesThere ll image S
    main_by a dn off (inl y) =
        let p = somewhere st.thread.at refl y.0 in
        main_touches g h image input hd x watch halt_is e t0 start from to s runs n c debt trail st clean a dn off p.0 p.1 p.2 y.1
    main_by a dn off (inr y) = resting a y.0

    in_handler : (has : g.program.handler ≡ Some hd) (a : IsHandling g h image hd x.vector t st.thread trail.context S) → st.done ≡ 100 → TouchesThere ll image S
    in_handler has a dn = by t.isr.at refl a.lands where
      by : (z : Option Position) → t.isr.at ≡ z → lands_at g.program z ≡ true → TouchesThere ll image S
      by None is ok = absurd (cc)
      by (Some p) is ok = handler_touches g h image input hd x watch halt_is e t0 start from to s runs n c debt trail st clean has a dn p is ok

    not_due : is_enabled t.world.control ≡ false → control.is_due (control_of S) ≡ false
    not_due q = ap control.is_due st.shows.control ∙ disabled_not_due t.world.control q

    pub touches_now : (b : Bool) → control.is_due (control_of S) ≡ b → TouchesThere ll image (if b then perform enter S else S)
    touches_now b due = by_mode st.mode b due where
      by_mode : Mode g h image hd x.vector t st.thread trail.context S st.done → (b : Bool) → control.is_due (control_of S) ≡ b → TouchesThere ll image (if b then perform enter S else S)
      by_mode (InMain q a) true due = entered_touches a due
      by_mode (InMain q a) false due = main_by a q due st.there
      by_mode (Saving has k a le lt q en is) true due = absurd (differ (control.is_due (control_of S)) due (not_due en.gie))
      by_mode (Saving has k a le lt q en is) false due = λ f r.
          let vec = x.vector has in
          let pc : S.pc ≡ 4 + k = ap (λ (z : State). z.pc) is ∙ saved_pc input k a (omega arith) in
          saving_touches ll S k f (sym (ap file_in (ap (λ z. row_of (slice_index image z)) pc ∙ vec.saves k lt)) ∙ r)
      by_mode (Selecting has j p a le q en sel is) true due = absurd (differ (control.is_due (control_of S)) due (not_due en.gie))
      by_mode (Selecting has j p a le q en sel is) false due = λ f r.
          let vec = x.vector has in
          let pc : S.pc ≡ 11 + j = ap (λ (z : State). z.pc) is in
          ⊎_elim
          (λ lt. select_touches ll S (vec.bit j) _ f (sym (ap file_in (ap (λ z. row_of (slice_index image z)) pc ∙ vec.selects j lt)) ∙ r))
          (λ ge.
          let last : j ≡ vec.count = omega arith in
          none f (sym (ap file_in (ap (λ z. row_of (slice_index image z)) (pc ∙ ap (λ z. 11 + z) last) ∙ vec.goes)) ∙ r))
          (cases_lt j vec.count) where
            none : (f : ℕ) → None ≡ Some f → Touches ll f S
            none f q = absurd (cc)
      by_mode (InHandler has q a) true due = absurd (differ (control.is_due (control_of S)) due (not_due a.gie))
      by_mode (InHandler has q a) false due = in_handler has a q
      by_mode (Leaving has k a le q lf is) true due = absurd (differ (control.is_due (control_of S)) due (not_due lf.gie))
      by_mode (Leaving has k a le q lf is) false due = λ f r.
          let vec = x.vector has in
          let pc : S.pc ≡ h.restore + k = ap (λ (z : State). z.pc) is ∙ given_pc input h.restore k a (omega arith) in
          restoring_touches ll S k f (sym (ap file_in (ap (λ z. row_of (slice_index image z)) pc ∙ vec.restores k (omega arith))) ∙ r)

    -- ---- where it stands
    module _ (end : ℕ) (below : IsBelow g h end) where
      place_by : (z : Option Position) (s : State) → s.pc ≡ spot g h z → lands_at g.program z ≡ true → s.pc < end
      place_by None s e ok = absurd (cc)
      place_by (Some p) s e ok = let k = below.code p ok in omega arith

      main_below : IsMain g h image hd x.vector t st.thread trail.context S → IsThere g h image hd x.vector st.thread c.ended → S.pc < end
      main_below a (inl y) = place_by st.thread.at S a.at.pc y.0
      main_below a (inr y) = let l = x.within in let b = below.start in let p = a.at.pc ∙ ap (spot g h) y.0 ∙ x.rests in let q = x.turn_small in omega arith

      pub stands_below : S.pc < end
      stands_below = by_mode st.mode where
        by_mode : Mode g h image hd x.vector t st.thread trail.context S st.done → S.pc < end
        by_mode (InMain q a) = main_below a st.there
        by_mode (Saving has k a le lt q en is) =
            let vec = x.vector has in let l = vec.within in let b = below.start in
            let pc : S.pc ≡ 4 + k = ap (λ (z : State). z.pc) is ∙ saved_pc input k a (omega arith) in omega arith
        by_mode (Selecting has j p a le q en sel is) =
            let vec = x.vector has in let l = vec.within in let b = below.start in
            let pc : S.pc ≡ 11 + j = ap (λ (z : State). z.pc) is in omega arith
        by_mode (InHandler has q a) = place_by t.isr.at S a.at.pc a.lands
        by_mode (Leaving has k a le q lf is) =
            let vec = x.vector has in let l = vec.within_back in let b = below.start in
            let pc : S.pc ≡ h.restore + k = ap (λ (z : State). z.pc) is ∙ given_pc input h.restore k a (omega arith) in omega arith

      pub below_now : (b : Bool) → control.is_due (control_of S) ≡ b → (if b then perform enter S else S).pc < end
      below_now false due = stands_below
      below_now true due = by_mode st.mode where
        by_mode : Mode g h image hd x.vector t st.thread trail.context S st.done → (perform enter S).pc < end
        by_mode (InMain q a) =
            let vec = x.vector (has_case a due g.program.handler refl) in let l = vec.within in let b = below.start in
            let four : (perform enter S).pc ≡ 4 = refl in omega arith
        by_mode (Saving has k a le lt q en is) = absurd (differ (control.is_due (control_of S)) due (not_due en.gie))
        by_mode (Selecting has j p a le q en sel is) = absurd (differ (control.is_due (control_of S)) due (not_due en.gie))
        by_mode (InHandler has q a) = absurd (differ (control.is_due (control_of S)) due (not_due a.gie))
        by_mode (Leaving has k a le q lf is) = absurd (differ (control.is_due (control_of S)) due (not_due lf.gie))
