-- Both chips, moment by moment.
use Rattle.std.proofs.Common.{◌≡◌, ℕ, zero, suc, ◌+◌, ◌*◌, ◌/◌, ◌%◌, ◌<◌, ◌≤◌, Bool, true, false, List, [], ◌∷◌, ◌++◌, Option, Some, None, refl, sym, ap, ◌∙◌, subst, arith}
use lib.Bits.{and_zero_r}
use Rattle.std.specs.Prelude.{if◌then◌else◌, nat_eq, nat_lt, nat_le, not, ◌&&◌, ◌||◌, slice_index, bit_and, bit_or}
use Rattle.std.proofs.lemmas.Bool.{leb-true}
use Rattle.std.proofs.lemmas.Nat.{mod-mul-add}
use Rattle.pic_isa.specs.declared.Ins.{Ins}
use Rattle.pic_isa.specs.declared.Ins.TheVariants as isa
use Rattle.pic_isa.specs.Lookup.{row_of}
use Rattle.pic_world.specs.Arrivals.{arriving}
use Rattle.pic_world.specs.Control as control
use Rattle.pic_world.specs.Control.{has_bits}
use Rattle.pic_world.specs.declared.Event.TheVariants as events
use Rattle.pic_chip.specs.Act.{perform, accesses}
use Rattle.pic_chip.specs.Instructions.{act_by, big, is_modelled, is_return_from_interrupt}
use Rattle.pic_chip.specs.Interrupts as chip
use Rattle.pic_chip.specs.Interrupts.{control_of, enter}
use Rattle.pic_chip.specs.Run as chip_run
use Rattle.pic_chip.specs.Run.{Watch, Moment, observed, moment as first_moment_at}
use Rattle.pic_chip.specs.State as chip_state
use Rattle.pic_chip.specs.State.{State}
use Rattle.chip_84a.specs.Family as run
use Rattle.chip_84a.specs.Family.{Member, Fits, Setting, ShareBytes, StaysNear, AreBeside, BeginAlike, FamilyKeepsStep, at_reset, begun_by, due_by, execute_by, few_due, fetched_by, raised_by, rule_by, twin_by, events_by, registers_by, moment_by}
use Rattle.chip_84a.specs.Port.{ported_row_by}
use Rattle.chip_84a.proofs.Places.{and_left, and_right}
use Rattle.chip_84a.proofs.Shown.{IsClear, shows_nothing}
use Rattle.chip_84a.proofs.Steps.{Steps, ins_steps}

abbrev pub twin_moment : Bool → Moment → List ℕ → Moment
twin_moment b m ram = record m { state = twin_by b m.state ram }

-- ---- interrupts
and_zero : (x : ℕ) → bit_and x 0 ≡ 0
and_zero x = and_zero_r x

no_fourth : (e a b c d : Bool) → d ≡ false → (e && (a || b || c || d)) ≡ (e && (a || b || c))
no_fourth e true b c d z = refl
no_fourth e false true c d z = refl
no_fourth e false false true d z = refl
no_fourth e false false false d z = ap (λ y. e && y) z

and_off : (b : Bool) → (b && false) ≡ false
and_off true = refl
and_off false = refl

due_few : (intcon pir1 pie1 : ℕ) → pie1 ≡ 0 → control.is_due (record { intcon = intcon; pir1 = pir1; pie1 = pie1 }) ≡ few_due intcon
unfolding control.is_due
due_few intcon pir1 pie1 q =
    no_fourth (nat_eq (intcon / 128 % 2) 1) (has_bits intcon 5 2) (has_bits intcon 4 1) (has_bits intcon 3 0) (nat_eq (intcon / 64 % 2) 1 && not (nat_eq (bit_and pir1 pie1) 0))
    (ap (λ y. nat_eq (intcon / 64 % 2) 1 && not (nat_eq (bit_and pir1 y) 0)) q ∙ ap (λ y. nat_eq (intcon / 64 % 2) 1 && not (nat_eq y 0)) (and_zero pir1) ∙ and_off (nat_eq (intcon / 64 % 2) 1))

module _ (mask : ℕ) (s : State) (ram : List ℕ) where
  pub takes_twin : (b : Bool) → (b ≡ false → s.pie1 ≡ 0) → control.is_due (control_of (chip.raised mask s)) ≡ due_by b (raised_by b mask (twin_by b s ram))
  takes_twin true quiet = refl
  takes_twin false quiet = due_few (bit_or s.intcon (mask % 8)) (bit_or s.pir1 (mask / 8 % 256)) s.pie1 (quiet refl)

  begun_twin : (b : Bool) → (b ≡ false → s.pie1 ≡ 0) → begun_by b mask (twin_by b s ram) ≡ twin_by b (chip.begun mask s) ram
  begun_twin b quiet =
      sym (ap (λ d. if d then perform enter (raised_by b mask (twin_by b s ram)) else raised_by b mask (twin_by b s ram)) (takes_twin b quiet)) ∙ by b (control.is_due (control_of (chip.raised mask s))) where
        by : (e d : Bool) → (if d then perform enter (raised_by e mask (twin_by e s ram)) else raised_by e mask (twin_by e s ram)) ≡ twin_by e (if d then perform enter (chip.raised mask s) else chip.raised mask s) ram
        by true true = refl
        by true false = refl
        by false true = refl
        by false false = refl

  begun_keeps : ((chip.begun mask s).ram ≡ s.ram) × ((chip.begun mask s).pie1 ≡ s.pie1)
  begun_keeps = by (control.is_due (control_of (chip.raised mask s))) where
    by : (b : Bool) → ((if b then perform enter (chip.raised mask s) else chip.raised mask s).ram ≡ s.ram) × ((if b then perform enter (chip.raised mask s) else chip.raised mask s).pie1 ≡ s.pie1)
    by true = (refl, refl)
    by false = (refl, refl)

pub handling_by : (b : Bool) (mask : ℕ) (m : Moment) (ram : List ℕ) → (b ≡ false → m.state.pie1 ≡ 0) → run.handling_by b mask (twin_moment b m ram) ≡ chip_run.is_handling mask m
handling_by b mask m ram quiet = ap (λ d. m.handling || d) (sym (takes_twin mask m.state ram b quiet))

-- ---- rows that were ported, where g is what an operand becomes
pub modelled_by : (g : ℕ → ℕ) (o : Option Ins) → is_modelled (ported_row_by g o) ≡ is_modelled o
modelled_by g None = refl
modelled_by g (Some (isa.Addwf a b)) = refl
modelled_by g (Some (isa.Andwf a b)) = refl
modelled_by g (Some (isa.Comf a b)) = refl
modelled_by g (Some (isa.Decf a b)) = refl
modelled_by g (Some (isa.Decfsz a b)) = refl
modelled_by g (Some (isa.Incf a b)) = refl
modelled_by g (Some (isa.Incfsz a b)) = refl
modelled_by g (Some (isa.Iorwf a b)) = refl
modelled_by g (Some (isa.Movf a b)) = refl
modelled_by g (Some (isa.Rlf a b)) = refl
modelled_by g (Some (isa.Rrf a b)) = refl
modelled_by g (Some (isa.Subwf a b)) = refl
modelled_by g (Some (isa.Swapf a b)) = refl
modelled_by g (Some (isa.Xorwf a b)) = refl
modelled_by g (Some (isa.Bcf a b)) = refl
modelled_by g (Some (isa.Bsf a b)) = refl
modelled_by g (Some (isa.Btfsc a b)) = refl
modelled_by g (Some (isa.Btfss a b)) = refl
modelled_by g (Some (isa.Clrf a)) = refl
modelled_by g (Some (isa.Movwf a)) = refl
modelled_by g (Some (isa.Addlw a)) = refl
modelled_by g (Some (isa.Andlw a)) = refl
modelled_by g (Some (isa.Call a)) = refl
modelled_by g (Some (isa.Goto a)) = refl
modelled_by g (Some (isa.Iorlw a)) = refl
modelled_by g (Some (isa.Movlw a)) = refl
modelled_by g (Some (isa.Retlw a)) = refl
modelled_by g (Some (isa.Sublw a)) = refl
modelled_by g (Some (isa.Xorlw a)) = refl
modelled_by g (Some isa.Clrw) = refl
modelled_by g (Some isa.Nop) = refl
modelled_by g (Some isa.Clrwdt) = refl
modelled_by g (Some isa.Retfie) = refl
modelled_by g (Some isa.Return) = refl
modelled_by g (Some isa.Sleep) = refl

returns_by : (g : ℕ → ℕ) (o : Option Ins) → is_return_from_interrupt (ported_row_by g o) ≡ is_return_from_interrupt o
returns_by g None = refl
returns_by g (Some (isa.Addwf a b)) = refl
returns_by g (Some (isa.Andwf a b)) = refl
returns_by g (Some (isa.Comf a b)) = refl
returns_by g (Some (isa.Decf a b)) = refl
returns_by g (Some (isa.Decfsz a b)) = refl
returns_by g (Some (isa.Incf a b)) = refl
returns_by g (Some (isa.Incfsz a b)) = refl
returns_by g (Some (isa.Iorwf a b)) = refl
returns_by g (Some (isa.Movf a b)) = refl
returns_by g (Some (isa.Rlf a b)) = refl
returns_by g (Some (isa.Rrf a b)) = refl
returns_by g (Some (isa.Subwf a b)) = refl
returns_by g (Some (isa.Swapf a b)) = refl
returns_by g (Some (isa.Xorwf a b)) = refl
returns_by g (Some (isa.Bcf a b)) = refl
returns_by g (Some (isa.Bsf a b)) = refl
returns_by g (Some (isa.Btfsc a b)) = refl
returns_by g (Some (isa.Btfss a b)) = refl
returns_by g (Some (isa.Clrf a)) = refl
returns_by g (Some (isa.Movwf a)) = refl
returns_by g (Some (isa.Addlw a)) = refl
returns_by g (Some (isa.Andlw a)) = refl
returns_by g (Some (isa.Call a)) = refl
returns_by g (Some (isa.Goto a)) = refl
returns_by g (Some (isa.Iorlw a)) = refl
returns_by g (Some (isa.Movlw a)) = refl
returns_by g (Some (isa.Retlw a)) = refl
returns_by g (Some (isa.Sublw a)) = refl
returns_by g (Some (isa.Xorlw a)) = refl
returns_by g (Some isa.Clrw) = refl
returns_by g (Some isa.Nop) = refl
returns_by g (Some isa.Clrwdt) = refl
returns_by g (Some isa.Retfie) = refl
returns_by g (Some isa.Return) = refl
returns_by g (Some isa.Sleep) = refl

-- ---- what a look at the program counter leaves
observed_twin : (b : Bool) (w : Watch) (m : Moment) (ram : List ℕ) → (observed w (twin_moment b m ram) ≡ twin_moment b (observed w m) ram) × ((observed w m).state ≡ m.state)
observed_twin peripherals w m ram = by m.met where
  ended : (b : Bool) → ((if b then record (twin_moment peripherals m ram) { ended = true; trace = m.trace ++ events.End ∷ [] } else twin_moment peripherals m ram) ≡ twin_moment peripherals (if b then record m { ended = true; trace = m.trace ++ events.End ∷ [] } else m) ram)
      × ((if b then record m { ended = true; trace = m.trace ++ events.End ∷ [] } else m).state ≡ m.state)
  ended true = (refl, refl)
  ended false = (refl, refl)

  by : (b : Bool) → ((if b then (if nat_eq m.state.pc w.halt && not m.ended then record (twin_moment peripherals m ram) { ended = true; trace = m.trace ++ events.End ∷ [] } else twin_moment peripherals m ram) else record (twin_moment peripherals m ram) { met = nat_eq m.state.pc w.main })
      ≡ twin_moment peripherals (if b then (if nat_eq m.state.pc w.halt && not m.ended then record m { ended = true; trace = m.trace ++ events.End ∷ [] } else m) else record m { met = nat_eq m.state.pc w.main }) ram)
      × ((if b then (if nat_eq m.state.pc w.halt && not m.ended then record m { ended = true; trace = m.trace ++ events.End ∷ [] } else m) else record m { met = nat_eq m.state.pc w.main }).state ≡ m.state)
  by true = ended (nat_eq m.state.pc w.halt && not m.ended)
  by false = (refl, refl)

-- ---- one moment further
pub record Goes (c : Member) (a b : Moment) : Type 0 where
  pub ram : List ℕ
  pub bytes : ShareBytes c a.state.ram ram
  pub quiet : c.peripherals ≡ false → a.state.pie1 ≡ 0
  pub same : b ≡ twin_moment c.peripherals a ram

observed_goes : (c : Member) (w : Watch) (a b : Moment) → Goes c a b → Goes c (observed w a) (observed w b)
observed_goes c w a b x =
    let o = observed_twin c.peripherals w a x.ram in
    record {
      ram = x.ram;
      bytes = subst (λ (s : State). ShareBytes c s.ram x.ram) (sym o.1) x.bytes;
      quiet = λ off. ap (λ (s : State). s.pie1) o.1 ∙ x.quiet off;
      same = ap (observed w) x.same ∙ o.0;
    }

-- the remainder of a number by a greater one
itself : (a s : ℕ) → a < s → a % s ≡ a
itself a s lt = let e : a ≡ 0 * s + a = omega arith in ap (λ z. z % s) e ∙ mod-mul-add 0 s a lt

module _ (c : Member) (fits : Fits c) where
  few_words : c.words ≤ 8192
  few_words = leb-true c.words 8192 (and_right (nat_lt 0 c.words) _ (and_right (nat_eq (c.operand 0) 0) _ (and_left (nat_eq (c.operand 0) 0 && (nat_lt 0 c.words && nat_le c.words 8192)) _ fits.core)))

  module _ (image image' inputs : List ℕ) (watch : Watch) (ported_image : (at : ℕ) → at < 8192 → row_of (slice_index image' at) ≡ ported_row_by c.operand (row_of (slice_index image at)))
      (clear : IsClear c fits watch.ranges) (mask : ℕ) (m : Moment) (ram : List ℕ)
      (bytes : ShareBytes c m.state.ram ram) (quiet : c.peripherals ≡ false → m.state.pie1 ≡ 0) (near : StaysNear c image (chip.begun mask m.state)) where
    abbrev s : State
    s = chip.begun mask m.state

    abbrev t : State
    t = begun_by c.peripherals mask (twin_by c.peripherals m.state ram)

    s_bytes : ShareBytes c s.ram ram
    s_bytes = subst (λ z. ShareBytes c z ram) (sym (begun_keeps mask m.state ram).0) bytes

    s_quiet : c.peripherals ≡ false → s.pie1 ≡ 0
    s_quiet off = (begun_keeps mask m.state ram).1 ∙ quiet off

    same : t ≡ twin_by c.peripherals s ram
    same = begun_twin mask m.state ram c.peripherals quiet

    word : row_of (slice_index image' (s.pc % c.words)) ≡ ported_row_by c.operand (row_of (slice_index image s.pc))
    word = let lt = near.pc in let few = few_words in ap (λ k. row_of (slice_index image' k)) (itself s.pc c.words lt) ∙ ported_image s.pc (omega (arith, lt, few))

    by_row : (o : Option Ins) → row_of (slice_index image s.pc) ≡ o → Steps c fits inputs watch.ranges clear s ram s_bytes s_quiet (act_by big inputs s.pc o) (act_by (rule_by c) inputs s.pc (ported_row_by c.operand o))
    by_row None e = record { ram = ram; bytes = s_bytes; quiet = s_quiet; same = refl; shows = shows_nothing c fits watch.ranges }
    by_row (Some i) e = ins_steps c fits inputs watch.ranges clear s ram s_bytes s_quiet near.bank near.fsr i (λ f q. near.operand i f e q)

    does : Steps c fits inputs watch.ranges clear s ram s_bytes s_quiet (act_by big inputs s.pc (row_of (slice_index image s.pc))) (act_by (rule_by c) inputs s.pc (row_of (slice_index image' (s.pc % c.words))))
    does = subst (λ o. Steps c fits inputs watch.ranges clear s ram s_bytes s_quiet (act_by big inputs s.pc (row_of (slice_index image s.pc))) (act_by (rule_by c) inputs s.pc o)) (sym word) (by_row (row_of (slice_index image s.pc)) refl)

    stepped_goes : Goes c (chip_run.stepped image inputs watch.ranges mask m) (run.stepped_by c image' inputs watch.ranges mask (twin_moment c.peripherals m ram))
    stepped_goes =
        let x = does in
        let state : perform (execute_by c image' inputs) t ≡ twin_by c.peripherals (perform (act_by big inputs s.pc (row_of (slice_index image s.pc))) s) x.ram = ap (perform (execute_by c image' inputs)) same ∙ x.same in
        let made : accesses (execute_by c image' inputs) t ≡ accesses (execute_by c image' inputs) (twin_by c.peripherals s ram) = ap (accesses (execute_by c image' inputs)) same in
        let handling : ((m.handling || due_by c.peripherals (raised_by c.peripherals mask (twin_by c.peripherals m.state ram))) && not (is_return_from_interrupt (fetched_by c.words image' t))) ≡ ((m.handling || control.is_due (control_of (chip.raised mask m.state))) && not (is_return_from_interrupt (row_of (slice_index image s.pc)))) =
        ap (λ b. (m.handling || b) && not (is_return_from_interrupt (fetched_by c.words image' t))) (sym (takes_twin mask m.state ram c.peripherals quiet))
        ∙ ap (λ (u : State). (m.handling || control.is_due (control_of (chip.raised mask m.state))) && not (is_return_from_interrupt (fetched_by c.words image' u))) same
        ∙ ap (λ b. (m.handling || control.is_due (control_of (chip.raised mask m.state))) && not b) (ap is_return_from_interrupt word ∙ returns_by c.operand (row_of (slice_index image s.pc))) in
        let early : (if m.met then m.early else m.early ++ registers_by c (accesses (execute_by c image' inputs) t)) ≡ (if m.met then m.early else m.early ++ chip_run.registers_of (accesses (act_by big inputs s.pc (row_of (slice_index image s.pc))) s)) =
        ap (λ z. if m.met then m.early else m.early ++ registers_by c z) made ∙ ap (λ z. if m.met then m.early else m.early ++ z) x.shows.1 in
        let trace : (if m.met then m.trace ++ events_by c watch.ranges (accesses (execute_by c image' inputs) t) else m.trace) ≡ (if m.met then m.trace ++ chip_run.events_of watch.ranges (accesses (act_by big inputs s.pc (row_of (slice_index image s.pc))) s) else m.trace) =
        ap (λ z. if m.met then m.trace ++ events_by c watch.ranges z else m.trace) made ∙ ap (λ z. if m.met then m.trace ++ z else m.trace) x.shows.0 in
        record {
          ram = x.ram;
          bytes = x.bytes;
          quiet = x.quiet;
          same = λ i. record m { state = state i; handling = handling i; early = early i; trace = trace i };
        }

    ends_same : run.ends_by c image' mask (twin_moment c.peripherals m ram) ≡ chip_run.ends_at image mask m
    ends_same =
        ap (λ (u : State). m.stopped || not (is_modelled (fetched_by c.words image' u))) same
        ∙ ap (λ b. m.stopped || not b) (ap is_modelled word ∙ modelled_by c.operand (row_of (slice_index image s.pc)))

    next_goes : Goes c (chip_run.next_moment image inputs watch mask m) (run.next_by c image' inputs watch mask (twin_moment c.peripherals m ram))
    next_goes =
        subst (λ b. Goes c (chip_run.next_moment image inputs watch mask m) (if b then record (twin_moment c.peripherals m ram) { stopped = true } else observed watch (run.stepped_by c image' inputs watch.ranges mask (twin_moment c.peripherals m ram)))) (sym ends_same)
        (by (chip_run.ends_at image mask m)) where
          by : (b : Bool) → Goes c (if b then record m { stopped = true } else observed watch (chip_run.stepped image inputs watch.ranges mask m)) (if b then record (twin_moment c.peripherals m ram) { stopped = true } else observed watch (run.stepped_by c image' inputs watch.ranges mask (twin_moment c.peripherals m ram)))
          by true = record { ram = ram; bytes = bytes; quiet = quiet; same = refl }
          by false = observed_goes c watch _ _ stepped_goes

  -- ---- all moments
  module _ (g : chip_run.Setting) (h : Setting) (alike : BeginAlike c g h) where
    next_beside : (w : Watch) (ins : List ℕ) (mask : ℕ) (a b : Moment) → g.watch ≡ w → g.inputs ≡ ins → (x : Goes c a b) → StaysNear c g.image (chip.begun mask a.state)
        → Goes c (chip_run.next_moment g.image g.inputs g.watch mask a) (run.next_by c h.image ins w mask b)
    next_beside w ins mask a b ew ei x near =
        subst (λ v. Goes c (chip_run.next_moment g.image g.inputs g.watch mask a) (run.next_by c h.image ins v mask b)) ew
        (subst (λ v. Goes c (chip_run.next_moment g.image g.inputs g.watch mask a) (run.next_by c h.image v g.watch mask b)) ei
        (subst (λ (z : Moment). Goes c (chip_run.next_moment g.image g.inputs g.watch mask a) (run.next_by c h.image g.inputs g.watch mask z)) (sym x.same)
        (next_goes g.image h.image g.inputs g.watch alike.image alike.clear mask a x.ram x.bytes x.quiet near)))

    first_goes : Goes c (observed g.watch (at_reset (chip_state.reset g.start))) (observed h.watch (at_reset h.reset))
    first_goes =
        subst (λ w. Goes c (observed g.watch (at_reset (chip_state.reset g.start))) (observed w (at_reset h.reset))) (sym alike.watch)
        (observed_goes c g.watch (at_reset (chip_state.reset g.start)) (at_reset h.reset) (record { ram = alike.ram; bytes = alike.bytes; quiet = λ off. refl; same = ap at_reset alike.reset }))

    pub all_goes : (n : ℕ) → ((k : ℕ) → k < n → StaysNear c g.image (chip.begun (arriving g.arrivals k) (first_moment_at g k).state)) → Goes c (first_moment_at g n) (moment_by c h n)
    unfolding first_moment_at moment_by
    all_goes zero near = first_goes
    all_goes (suc n) near =
        subst (λ l. Goes c (first_moment_at g (suc n)) (run.next_by c h.image h.inputs h.watch (arriving l n) (moment_by c h n))) (sym alike.arrivals)
        (next_beside h.watch h.inputs (arriving g.arrivals n) (first_moment_at g n) (moment_by c h n) (sym alike.watch) (sym alike.inputs) (all_goes n (λ k lt. near k (omega (arith, lt)))) (near n (omega arith)))

pub keeps_step : FamilyKeepsStep
keeps_step c fits g h alike n near =
    let x = all_goes c fits g h alike n near in
    let e : (moment_by c h n).state.ram ≡ x.ram = ap (λ (m : Moment). m.state.ram) x.same in
    record {
      bytes = subst (λ r. ShareBytes c (first_moment_at g n).state.ram r) (sym e) x.bytes;
      quiet = x.quiet;
      same = x.same ∙ ap (twin_moment c.peripherals (first_moment_at g n)) (sym e);
    }
