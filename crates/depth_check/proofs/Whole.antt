-- Every moment of a run.
use Rattle.std.proofs.Common.{◌≡◌, ℕ, zero, suc, ◌+◌, ◌/◌, ◌%◌, ◌<◌, ◌≤◌, Bool, true, false, List, [], ◌∷◌, ◌++◌, length, Option, Some, inl, inr, refl, sym, ap, ◌∙◌, subst, ⊎_elim, arith}
use Rattle.std.specs.Prelude.{if◌then◌else◌, not, ◌&&◌, ◌||◌, nat_eq, slice_index, ◌⊎◌, IfSome}
use Rattle.std.specs.List.{All}
use Rattle.std.proofs.lemmas.Bool.{and_parts, or_left, or_right, and_from, eqb-true, both_ways, cases_lt, not_from_true}
use Rattle.std.proofs.lemmas.List.{get_or_past}
use Rattle.pic_isa.specs.declared.Ins.{Ins}
use Rattle.pic_isa.specs.Lookup.{row_of}
use Rattle.pic_world.specs.Bits.{bit, clear_bit}
use Rattle.pic_world.specs.Control.{Control, is_due, is_enabled}
use Rattle.pic_world.specs.Arrivals.{arriving}
use Rattle.pic_world.specs.declared.Event.TheVariants as events
use Rattle.pic_chip.proofs.BitCases.{or_below_8, at_each}
use Rattle.pic_chip.specs.State.{State, reset}
use Rattle.pic_chip.specs.Act.{perform}
use Rattle.pic_chip.specs.Instructions.{execute, fetched, is_modelled}
use Rattle.pic_chip.specs.Interrupts.{control_of, raised, begun, enter}
use Rattle.pic_chip.specs.Run.{IsStart, Watch, Moment, Setting, moment, next_moment, stepped, observed, ends_at}
use Rattle.depth_check.specs.declared.Row.{Row}
use Rattle.depth_check.specs.Certificate.{Certificate}
use Rattle.depth_check.specs.Facts.{at_reset, at_interrupt}
use Rattle.depth_check.specs.Valid.{routine, row_holds, total_of, is_valid}
use Rattle.depth_check.specs.Depth.{IsDeepAtMost, StaysWithin}
use Rattle.pic_chip.proofs.Stack.{IsOn, after_push, on_push, on_pop, push_list}
use Rattle.pic_chip.proofs.Ranges.{IsRanged, IsSmall, decoded_small, executed_ranged, raised_ranged, entered_ranged}
use Rattle.depth_check.proofs.Holding.{Knows}
use Rattle.depth_check.proofs.Threads.{Bare, small_total, hi, lo, main_isr, main_row, handler, Member, Chain, chain_bound, chain_main, cell_of, Thread, stood, stands_there, Left, one_step}

-- ---- what a look at the program counter leaves
module _ (w : Watch) where
  abbrev Kept : Moment → Moment → Type 0
  Kept a b = a.state ≡ b.state

  kept_ended : (m : Moment) (b : Bool) → Kept (if b then record m { ended = true; trace = m.trace ++ events.End ∷ [] } else m) m
  kept_ended m true = refl
  kept_ended m false = refl

  kept_case : (m : Moment) (b : Bool) → Kept (if b then (if nat_eq m.state.pc w.halt && not m.ended then record m { ended = true; trace = m.trace ++ events.End ∷ [] } else m) else record m { met = nat_eq m.state.pc w.main }) m
  kept_case m true = kept_ended m (nat_eq m.state.pc w.halt && not m.ended)
  kept_case m false = refl

  pub observed_keeps : (m : Moment) → Kept (observed w m) m
  observed_keeps m = kept_case m m.met

-- each input is a byte, and so is 0 past the end
inputs_small : (xs : List ℕ) → All (λ byte. byte < 256) xs → (k : ℕ) → slice_index xs k < 256
inputs_small xs all k =
    ⊎_elim (λ lt. all k 0 lt) (λ ge. let e : slice_index xs k ≡ 0 = get_or_past xs k 0 ge in omega arith) (cases_lt k (length xs))

length_both : (xs ys : List ℕ) → length (xs ++ ys) ≡ length xs + length ys
length_both [] ys = omega arith
length_both (y ∷ xs) ys = let i = length_both xs ys in omega arith

enabled : (k : Control) → is_due k ≡ true → k.intcon / 128 % 2 ≡ 1
unfolding is_due
enabled k e = eqb-true (k.intcon / 128 % 2) 1 (and_parts (is_enabled k) _ e).0

module _ (image : List ℕ) (c : Certificate) (valid : is_valid image c ≡ true) where
  abbrev low : 0x70 ≤ c.cell
  low = lo image c valid

  abbrev high : c.cell < 0x80
  high = hi image c valid

  abbrev T : Bool → ℕ → ℕ → List ℕ → State → Type 0
  T b root o below s = Thread image c valid b root o below s

  -- main, where a handler interrupted it with this PCLATH
  record Waits (o : ℕ) (below : List ℕ) : Type 0 where
    row : Row
    ok : row_holds image c row ≡ true
    member : Member image c valid row
    isr : (routine c row.routine).isr ≡ false
    bare : Bare row.facts
    p3 : Knows row.facts.p3 (bit o 3)
    p4 : Knows row.facts.p4 (bit o 4)
    words : List ℕ
    chain : Chain image c valid false 0 0 0 row.routine words
    stack : below ≡ row.at ∷ words

  record Handles (s : State) : Type 0 where
    interrupts : c.interrupts ≡ true
    o : ℕ
    small_o : o < 32
    below : List ℕ
    waits : Waits o below
    thread : T true 1 o below s

  abbrev Stands : State → Type 0
  Stands s = T false 0 0 [] s ⊎ Handles s

  -- ---- depths
  main_total : c.interrupts ≡ true → (routine c 0).bound + (1 + (routine c 1).bound) ≡ total_of c
  main_total e = ap (λ b. (routine c 0).bound + (if b then 1 + (routine c 1).bound else 0)) (sym e)

  main_less : (routine c 0).bound ≤ total_of c
  main_less = omega arith

  main_deep : (s : State) → T false 0 0 [] s → IsDeepAtMost (total_of c) s
  main_deep s th =
      let a = chain_bound image c valid false (cell_of image c valid s) 0 0 th.row.routine th.words th.chain in
      let e = length_both th.words [] in
      let d = th.depth in
      let m = main_less in
      (omega arith, omega arith)

  waits_deep : (o : ℕ) (below : List ℕ) → Waits o below → length below ≤ 1 + (routine c 0).bound
  waits_deep o below w =
      let a = chain_bound image c valid false 0 0 0 w.row.routine w.words w.chain in
      let e : length below ≡ 1 + length w.words = ap length w.stack ∙ one w.words in
      omega arith where
        one : (xs : List ℕ) → suc (length xs) ≡ 1 + length xs
        one xs = omega arith

  handler_deep : (s : State) → Handles s → IsDeepAtMost (total_of c) s
  handler_deep s h =
      let th = h.thread in
      let a = chain_bound image c valid true (cell_of image c valid s) h.o 1 th.row.routine th.words th.chain in
      let e = length_both th.words h.below in
      let d = th.depth in
      let m = main_total h.interrupts in
      let w = waits_deep h.o h.below h.waits in
      (omega arith, omega arith)

  deep : (s : State) → Stands s → IsDeepAtMost (total_of c) s
  deep s st = ⊎_elim (main_deep s) (handler_deep s) st

  main_room : (routine c 0).bound + length (let none : List ℕ = [] in none) ≤ 8
  main_room = let a = small_total image c valid in let b = main_less in omega arith

  handler_room : c.interrupts ≡ true → (o : ℕ) (below : List ℕ) → Waits o below → (routine c 1).bound + length below ≤ 8
  handler_room e o below w = let a = small_total image c valid in let b = main_total e in let d = waits_deep o below w in omega arith

  -- ---- flags arrive
  flagged : (b : Bool) (root o : ℕ) (below : List ℕ) (s : State) (mask : ℕ) → IsRanged s → T b root o below s → T b root o below (raised mask s)
  flagged b root o below s mask r th = record {
    row = th.row;
    ok = th.ok;
    member = th.member;
    pc = th.pc;
    isr = th.isr;
    facts = record { p3 = th.facts.p3; p4 = th.facts.p4; orig = th.facts.orig; w_orig = th.facts.w_orig; saved = th.facts.saved };
    words = th.words;
    chain = th.chain;
    stack = th.stack;
    depth = th.depth;
    quiet = λ q. or_below_8 (mask % 8) s.intcon (omega arith) r.intcon ∙ th.quiet q;
    bare = th.bare;
  }

  flagged_stands : (s : State) (mask : ℕ) → IsRanged s → Stands s → Stands (raised mask s)
  flagged_stands s mask r st = ⊎_elim (λ th. inl (flagged false 0 0 [] s mask r th))
      (λ h. inr (record { interrupts = h.interrupts; o = h.o; small_o = h.small_o; below = h.below; waits = h.waits; thread = flagged true 1 h.o h.below s mask r h.thread })) st

  -- ---- an interrupt is taken
  both_bits : (v : ℕ) → v ≡ 1 → v ≡ 0 → ⊥
  both_bits v a b = omega arith

  entered : (s : State) → IsRanged s → is_due (control_of s) ≡ true → T false 0 0 [] s → (k : Bool) → c.interrupts ≡ k → Handles (perform enter s)
  entered s r due th false e = absurd (both_bits (bit s.intcon 7) (enabled (control_of s) due) (th.quiet (or_right false (not c.interrupts) (ap not e))))
  entered s r due th true e =
      let t : State = perform enter s in
      let a = chain_bound image c valid false (cell_of image c valid s) 0 0 th.row.routine th.words th.chain in
      let le = length_both th.words [] in
      let total = main_total e in
      let small = small_total image c valid in
      let pushed : t.stack ≡ after_push s.pc s.stack = push_list s.stack s.pc r.stack in
      let below : List ℕ = th.row.at ∷ th.words in
      record {
        interrupts = e;
        o = s.pclath;
        small_o = r.pclath;
        below = below;
        waits = record {
          row = th.row;
          ok = th.ok;
          member = th.member;
          isr = th.isr;
          bare = th.bare refl;
          p3 = th.facts.p3;
          p4 = th.facts.p4;
          words = th.words;
          chain = chain_main image c valid (cell_of image c valid s) 0 0 0 0 th.row.routine th.words th.chain;
          stack = refl;
        };
        thread = stands_there image c valid true 1 s.pclath below t 4 1 at_interrupt (stood image c valid 4 1 at_interrupt (handler image c valid e).1) refl (handler image c valid e).0
            (record { p3 = tt; p4 = tt; orig = λ q. refl; w_orig = λ q. absurd (cc); saved = λ q. absurd (cc) })
            [] refl
            (subst (λ z. IsOn z 0 below) (sym pushed) (subst (λ p. IsOn (after_push s.pc s.stack) 0 (p ∷ th.words)) th.pc (on_push s.pc s.stack th.words (omega arith) (plain th.words th.stack))))
            (let d = th.depth in omega arith)
            (λ q. cleared s.intcon r.intcon)
            (λ q. absurd (cc));
      } where
        plain : (ws : List ℕ) → IsOn s.stack 0 (ws ++ []) → IsOn s.stack 0 ws
        plain ws h = subst (IsOn s.stack 0) (no_more ws) h where
          no_more : (xs : List ℕ) → xs ++ [] ≡ xs
          no_more [] = refl
          no_more (x ∷ xs) = ap (λ z. x ∷ z) (no_more xs)

        cleared : (v : ℕ) → v < 256 → bit (clear_bit 7 v) 7 ≡ 0
        cleared v h = at_each (λ b x. bit (clear_bit 7 x) 7) (λ b x. 0) refl 7 v (omega arith) h

  taken : (s : State) → IsRanged s → (due : Bool) → is_due (control_of s) ≡ due → Stands s → Stands (if due then perform enter s else s)
  taken s r false e st = st
  taken s r true e st = ⊎_elim (λ th. inr (entered s r e th c.interrupts refl))
      (λ h. absurd (both_bits (bit s.intcon 7) (enabled (control_of s) e) (h.thread.quiet refl))) st

  -- ---- back to main
  back : (o : ℕ) (below : List ℕ) (s t : State) → IsRanged s → Waits o below → Left image c valid true 1 o below s t → T false 0 0 [] t
  back o below s t r w l =
      let on : IsOn s.stack 0 (w.row.at ∷ w.words) = subst (IsOn s.stack 0) w.stack l.on in
      let dep : s.pushes ≡ s.pops + length (w.row.at ∷ w.words) = subst (λ z. s.pushes ≡ s.pops + length z) w.stack l.depth in
      let a = chain_bound image c valid false 0 0 0 w.row.routine w.words w.chain in
      let total = main_total l.interrupts in
      let small = small_total image c valid in
      record {
        row = w.row;
        ok = w.ok;
        member = w.member;
        pc = l.pc ∙ on.0;
        isr = w.isr;
        facts = record {
          p3 = subst (λ p. Knows w.row.facts.p3 (bit p 3)) (sym l.pclath) w.p3;
          p4 = subst (λ p. Knows w.row.facts.p4 (bit p 4)) (sym l.pclath) w.p4;
          orig = λ q. absurd (both_ways _ w.bare.0 q);
          w_orig = λ q. absurd (both_ways _ w.bare.1 q);
          saved = λ q. absurd (both_ways _ w.bare.2 q);
        };
        words = w.words;
        chain = chain_main image c valid 0 (cell_of image c valid t) 0 0 0 w.row.routine w.words w.chain;
        stack = subst (IsOn t.stack 0) (sym (no_more w.words)) (subst (λ z. IsOn z 0 w.words) (sym l.stack) (on_pop s.stack w.row.at w.words (omega arith) on));
        depth = let x = l.pushes in let y = l.pops in let e = length_both w.words [] in omega arith;
        quiet = λ q. absurd (both_ways (not c.interrupts) (not_from_true c.interrupts l.interrupts) q);
        bare = λ q. w.bare;
      } where
        no_more : (xs : List ℕ) → xs ++ [] ≡ xs
        no_more [] = refl
        no_more (x ∷ xs) = ap (λ z. x ∷ z) (no_more xs)

  -- ---- one instruction
  module _ (inputs : List ℕ) (fine : (k : ℕ) → slice_index inputs k < 256) where
    of_decoded : (s : State) → IsRanged s → (o : Option Ins) → row_of (slice_index image s.pc) ≡ o → (j : Ins) → o ≡ Some j → IsSmall j
    of_decoded s r o e j q = subst (λ (z : Option Ins). IfSome z IsSmall) (e ∙ q) (decoded_small inputs fine s r (slice_index image s.pc))

    main_step : (s : State) → IsRanged s → is_modelled (fetched image s) ≡ true → T false 0 0 [] s → Stands (perform (execute image inputs) s)
    main_step s r mo th = ⊎_elim (λ x. inl x) (λ l. absurd (differ l.handler))
        (one_step image c valid inputs false 0 0 (omega arith) [] (or_left true (c.interrupts && nat_eq 0 1) refl) (λ e. absurd (differ e)) main_room s r th
        (row_of (slice_index image s.pc)) refl (of_decoded s r (row_of (slice_index image s.pc)) refl) mo) where
          differ : false ≡ true → ⊥
          differ e = cc

    handler_step : (s : State) → IsRanged s → is_modelled (fetched image s) ≡ true → Handles s → Stands (perform (execute image inputs) s)
    handler_step s r mo h = ⊎_elim
        (λ x. inr (record { interrupts = h.interrupts; o = h.o; small_o = h.small_o; below = h.below; waits = h.waits; thread = x }))
        (λ l. inl (back h.o h.below s (perform (execute image inputs) s) r h.waits l))
        (one_step image c valid inputs true 1 h.o h.small_o h.below (or_right (nat_eq 1 0) (c.interrupts && nat_eq 1 1) (and_from c.interrupts true h.interrupts refl)) (λ e. h.interrupts)
        (handler_room h.interrupts h.o h.below h.waits) s r h.thread
        (row_of (slice_index image s.pc)) refl (of_decoded s r (row_of (slice_index image s.pc)) refl) mo)

    stepped_stands : (s : State) → IsRanged s → is_modelled (fetched image s) ≡ true → Stands s → Stands (perform (execute image inputs) s)
    stepped_stands s r mo st = ⊎_elim (main_step s r mo) (handler_step s r mo) st

    abbrev Good : State → Type 0
    Good s = IsRanged s × Stands s

    begun_good : (mask : ℕ) (s : State) → Good s → Good (begun mask s)
    begun_good mask s g = (by (is_due (control_of (raised mask s))), taken (raised mask s) r (is_due (control_of (raised mask s))) refl (flagged_stands s mask g.0 g.1)) where
      r : IsRanged (raised mask s)
      r = raised_ranged inputs fine s g.0 mask

      by : (b : Bool) → IsRanged (if b then perform enter (raised mask s) else raised mask s)
      by true = entered_ranged inputs fine (raised mask s) r
      by false = r

    next_good : (w : Watch) (mask : ℕ) (m : Moment) → Good m.state → Good (next_moment image inputs w mask m).state
    next_good w mask m g = by (ends_at image mask m) refl where
      modelled : (x y : Bool) → (x || not y) ≡ false → y ≡ true
      modelled true y e = absurd (cc)
      modelled false true e = refl
      modelled false false e = absurd (cc)

      by : (b : Bool) → ends_at image mask m ≡ b → Good (if b then record m { stopped = true } else observed w (stepped image inputs w.ranges mask m)).state
      by true e = g
      by false e =
          let h = begun_good mask m.state g in
          subst Good (sym (observed_keeps w (stepped image inputs w.ranges mask m)))
          (executed_ranged inputs fine (begun mask m.state) h.0 image, stepped_stands (begun mask m.state) h.0 (modelled m.stopped _ e) h.1)

  -- ---- from reset on
  reset_ranged : (g : Setting) → IsStart g.start → IsRanged (reset g.start)
  reset_ranged g start = let f = start.flags in record {
    w = start.w;
    bank = omega arith;
    z = omega arith;
    dc = omega arith;
    c = omega arith;
    fsr = start.fsr;
    pclath = omega arith;
    intcon = omega arith;
    pir1 = omega arith;
    pie1 = omega arith;
    bytes = start.bytes;
    count = start.count;
    stack = refl;
  }

  reset_stands : (g : Setting) → Stands (reset g.start)
  reset_stands g = inl (stands_there image c valid false 0 0 [] (reset g.start) 0 0 at_reset (stood image c valid 0 0 at_reset (main_row image c valid)) refl (main_isr image c valid)
      (record { p3 = refl; p4 = refl; orig = λ q. absurd (cc); w_orig = λ q. absurd (cc); saved = λ q. absurd (cc) })
      [] refl tt refl (λ q. refl) (λ q. (refl, refl, refl)))

  good_moment : (g : Setting) → g.image ≡ image → IsStart g.start → (fine : (k : ℕ) → slice_index g.inputs k < 256) → (k : ℕ) → IsRanged (moment g k).state × Stands (moment g k).state
  unfolding moment
  good_moment g e start fine zero = subst (λ (s : State). IsRanged s × Stands s) (sym (observed_keeps g.watch (record { state = reset g.start; stopped = false; handling = false; met = false; ended = false; early = []; trace = [] }))) (reset_ranged g start, reset_stands g)
  good_moment g e start fine (suc k) = subst (λ i. IsRanged (next_moment i g.inputs g.watch (arriving g.arrivals k) (moment g k)).state × Stands (next_moment i g.inputs g.watch (arriving g.arrivals k) (moment g k)).state) (sym e)
      (next_good g.inputs fine g.watch (arriving g.arrivals k) (moment g k) (good_moment g e start fine k))

  pub stays_within : StaysWithin image (total_of c)
  stays_within g e start inputs k = deep (moment g k).state (good_moment g e start (inputs_small g.inputs inputs) k).1
