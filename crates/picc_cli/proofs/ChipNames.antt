-- Each event of a run of a chip, seen by a map, has a name in it.
use Rattle.std.proofs.Common.{◌≡◌, ℕ, zero, suc, ◌+◌, ◌-◌, ◌<◌, Bool, true, false, not, ◌&&◌, Option, Some, None, List, [], ◌∷◌, ◌++◌, map, length, nat_eq, nat_lt, refl, sym, ◌∙◌, subst, arith}
use Rattle.std.proofs.lemmas.Bool.{eqb-true}
use Rattle.std.proofs.lemmas.List.{length-map}
use Rattle.std.specs.Prelude.{get_or, if◌then◌else◌, nat_le}
use Rattle.chip_84a.proofs.Second.{told_register}
use Rattle.chip_84a.specs.Machine as second
use Rattle.chip_84a.specs.Run as second_run
use Rattle.chip_84a.specs.Simulated as second_kind
use Rattle.pic_chip.specs.Act.{Made, accesses}
use Rattle.pic_chip.specs.Run as first_run
use Rattle.pic_chip.specs.Run.{Moment, Range, covers, event_at, object_at, observed}
use Rattle.pic_chip.specs.SmallAddress.{is_small_register}
use Rattle.pic_chip.specs.State as chip_state
use Rattle.pic_chip.specs.State.{State}
use Rattle.pic_chip.specs.declared.profile.Profile.{Profile}
use Rattle.pic_chip.specs.declared.profile.Profile.TheVariants.{Pic16F877a, Pic16F84a}
use Rattle.pic_map.proofs.Lowest.{named_is_register}
use Rattle.pic_map.specs.EventText.{CanBeShown, HasName}
use Rattle.pic_map.specs.MapContent.{MapContent, range_of, watch_of}
use Rattle.pic_sim.proofs.Answering.{answers_are_input}
use Rattle.pic_sim.specs.FromReset.{arrivals_of, bytes_of}
use Rattle.pic_sim.specs.Going.{HasBytes, Known, Point, RanBy}
use Rattle.pic_sim.specs.Kind as kinds
use Rattle.pic_sim.specs.Kind.{Kind, ends_at_by, stepped_by}
use Rattle.pic_sim.specs.Step.{AreTold}
use Rattle.pic_sim.specs.declared.running.SimEnd.{SimEnd}
use Rattle.pic_sim.specs.declared.running.SimEnd.TheVariants as sim
use Rattle.pic_world.specs.Arrivals.{arriving}
use Rattle.pic_world.specs.Registers.{is_register, lowest}
use Rattle.pic_world.specs.declared.Cell.{Cell}
use Rattle.pic_world.specs.declared.Cell.TheVariants.{Device, Static}
use Rattle.pic_world.specs.declared.Event.{Event}
use Rattle.pic_world.specs.declared.Event.TheVariants as events
use Rattle.schedule.specs.ScriptFile.{ScriptContent}
use Rattle.picc_cli.specs.Simulation.{IsRunBy, first_look, first_moments, second_moments, second_zeros, simulator_of, zeros}
use Rattle.picc_cli.specs.Trace.{AllShown}
use Rattle.picc_cli.proofs.Simulators.{IsRunner, begins_at, first_runner, goes_on_at, second_runner}

module _ (content : MapContent) where
  both_shown : (xs ys : List Event) → AllShown content xs → AllShown content ys → AllShown content (xs ++ ys)
  both_shown [] ys a b = b
  both_shown (x ∷ xs) ys a b = (a.0, both_shown xs ys a.1 b)

  pub one_shown : (events : List Event) (i : ℕ) (e : Event) → i < length events → e ≡ get_or events i e → AllShown content events → CanBeShown content e
  one_shown [] i e low is h = absurd (omega arith)
  one_shown (x ∷ events) zero e low is h = subst (CanBeShown content) (sym is) h.0
  one_shown (x ∷ events) (suc i) e low is h = one_shown events i e (omega arith) is h.1

  -- ---- accesses
  object_named : (rs : List Range) (i address : ℕ) (cell : Cell) → object_at rs i address ≡ Some cell → i + length rs ≡ length content.objects → HasName content cell
  object_named [] i address cell e count = absurd (cc)
  object_named (r ∷ rs) i address cell e count = by_test (not r.constant && covers r address) e (λ is. object_named rs (i + 1) address cell is (omega arith))
    where
      by_test : (b : Bool) → (if b then Some (Static i (address - r.address)) else object_at rs (i + 1) address) ≡ Some cell → (object_at rs (i + 1) address ≡ Some cell → HasName content cell) → HasName content cell
      by_test true is later = let same : Static i (address - r.address) ≡ cell = cc in subst (HasName content) same (omega arith)
      by_test false is later = later is

  abbrev ranges : List Range
  ranges = map range_of content.objects

  first_cell_named : (address : ℕ) (cell : Cell) → lowest address ≡ address → first_run.cell_at ranges address ≡ Some cell → HasName content cell
  first_cell_named address cell low e = by_test (is_register address) refl e
    where
      by_test : (b : Bool) → is_register address ≡ b → (if b then Some (Device address) else object_at ranges 0 address) ≡ Some cell → HasName content cell
      by_test true is e = let same : Device address ≡ cell = cc in subst (HasName content) same (named_is_register address low ∙ is)
      by_test false is e = let count = length-map content.objects range_of in object_named ranges 0 address cell e (omega (arith, count))

  second_cell_named : (address : ℕ) (cell : Cell) → second_kind.second.is_told address ≡ true → second_run.cell_at ranges address ≡ Some cell → HasName content cell
  second_cell_named address cell told e = by_tests (is_small_register address) refl (nat_le 0x0c address && nat_lt address 0x20) e
    where
      by_tests : (b : Bool) → is_small_register address ≡ b → (c : Bool) → (if b then Some (Device address) else if c then None else object_at ranges 0 address) ≡ Some cell → HasName content cell
      by_tests true is c e =
          let register = told_register address told is in
          let same : Device address ≡ cell = cc in
          subst (HasName content) same (named_is_register address register.0 ∙ register.1)
      by_tests false is true e = absurd (cc)
      by_tests false is false e = let count = length-map content.objects range_of in object_named ranges 0 address cell e (omega (arith, count))

  event_named : (write : Bool) (byte : ℕ) (o : Option Cell) → ((cell : Cell) → o ≡ Some cell → HasName content cell) → AllShown content (event_at write byte o)
  event_named true byte None h = tt
  event_named false byte None h = tt
  event_named true byte (Some cell) h = (h cell refl, tt)
  event_named false byte (Some cell) h = (h cell refl, tt)

  -- what a chip's accesses show has names
  abbrev AreNamed : Kind → Type 0
  AreNamed kind = (made : List Made) → AreTold kind made → AllShown content (kind.events_of ranges made)

  first_named : AreNamed kinds.first
  first_named [] told = tt
  first_named (a ∷ made) told =
      both_shown (event_at a.write a.byte (first_run.cell_at ranges a.address)) (first_run.events_of ranges made)
      (event_named a.write a.byte (first_run.cell_at ranges a.address) (λ cell e. first_cell_named a.address cell (eqb-true (lowest a.address) a.address told.0) e)) (first_named made told.1)

  second_named : AreNamed second_kind.second
  second_named [] told = tt
  second_named (a ∷ made) told =
      both_shown (event_at a.write a.byte (second_run.cell_at ranges a.address)) (second_run.events_of ranges made)
      (event_named a.write a.byte (second_run.cell_at ranges a.address) (λ cell e. second_cell_named a.address cell told.0 e)) (second_named made told.1)

  -- ---- moments
  observed_named : (m : Moment) → AllShown content m.trace → AllShown content (observed (watch_of content) m).trace
  observed_named m h = by_met m.met
    where
      by_end : (b : Bool) → AllShown content (if b then record m { ended = true; trace = m.trace ++ events.End ∷ [] } else m).trace
      by_end true = both_shown m.trace (events.End ∷ []) h (tt, tt)
      by_end false = h

      by_met : (b : Bool) → AllShown content (if b then (if nat_eq m.state.pc content.halt && not m.ended then record m { ended = true; trace = m.trace ++ events.End ∷ [] } else m) else record m { met = nat_eq m.state.pc content.main }).trace
      by_met true = by_end (nat_eq m.state.pc content.halt && not m.ended)
      by_met false = h

  module _ (kind : Kind) (begin : State) (moments : List ℕ → MapContent → ScriptContent → ℕ → Moment) (is : IsRunner kind begin moments) (named : AreNamed kind) where
    stepped_named : (image inputs : List ℕ) (mask : ℕ) (m : Moment) → AllShown content m.trace → AllShown content (stepped_by kind image inputs ranges mask m).trace
    stepped_named image inputs mask m h = by_met m.met
      where
        made : List Made
        made = accesses (kind.execute image inputs) (kind.begun mask m.state)

        by_met : (b : Bool) → AllShown content (if b then m.trace ++ kind.events_of ranges made else m.trace)
        by_met true = both_shown m.trace _ h (named made (is.chip.plain inputs (kind.begun mask m.state) image).told)
        by_met false = h

    next_named : (image inputs : List ℕ) (mask : ℕ) (m : Moment) (b : Bool) → AllShown content m.trace
        → AllShown content (if b then record m { stopped = true } else observed (watch_of content) (stepped_by kind image inputs ranges mask m)).trace
    next_named image inputs mask m true h = h
    next_named image inputs mask m false h = observed_named (stepped_by kind image inputs ranges mask m) (stepped_named image inputs mask m h)

    moment_named : (image : List ℕ) (script : ScriptContent) (k : ℕ) → AllShown content (moments image content script k).trace
    moment_named image script zero =
        subst (λ (m : Moment). AllShown content m.trace) (sym (is.starts image content script))
        (observed_named (record { state = begin; stopped = false; handling = false; met = false; ended = false; early = []; trace = [] }) tt)
    moment_named image script (suc k) =
        let m = moments image content script k in
        subst (λ (m : Moment). AllShown content m.trace) (sym (is.next image content script k))
        (next_named image script.input (arriving script.arrivals k) m (ends_at_by kind image (arriving script.arrivals k) m) (moment_named image script k))

    -- ---- runs over boards
    abbrev start : Known → Point
    start fed = record { chip = record { state = begin; index = 0 }; tracing = first_look content; events = []; board = fed }

    ran_named : (image : List ℕ) (k : ℕ) (fed : Known) (last : Point) → RanBy kind image k (start fed) last → AllShown content last.events
    ran_named image k fed last ran =
        let script : ScriptContent = record { input = bytes_of ran.given; arrivals = arrivals_of 0 ran.raised } in
        let bytes = subst (λ n. HasBytes script.input n ran.given) (sym is.zero_taken) (answers_are_input [] ran.given) in
        let at = goes_on_at kind begin moments is image content script k (start fed) last ran bytes (is.masks ran.raised) (begins_at kind begin moments is image content script (start fed) refl refl refl) in
        subst (AllShown content) at.trace (moment_named image script (0 + k))

    named_by : (image : List ℕ) (script : ScriptContent) (n : ℕ) (before now : Known) (made : List Event) (end : SimEnd) → IsRunBy kind begin image content script n before now made end → AllShown content made
    named_by image script n before now made sim.Done run = ran_named image n run.fed (record { chip = run.chip; tracing = run.tracing; events = made; board = now }) run.went
    named_by image script n before now made (sim.Unmodelled pc) run =
        let went = run.went in subst (AllShown content) (sym went.ends.events) (ran_named image went.k run.fed went.last went.ran)
    named_by image script n before now made sim.NoMemory run =
        let went = run.went in subst (AllShown content) (sym went.ends.events) (ran_named image went.k run.fed went.last went.ran)

  pub run_named : (chip : Profile) (image : List ℕ) (script : ScriptContent) (n : ℕ) (before now : Known) (made : List Event) (end : SimEnd)
      → (simulator_of chip).Ran image content script n before now made end → AllShown content made
  run_named Pic16F877a image script n before now made end run = named_by kinds.first (chip_state.reset zeros) first_moments first_runner first_named image script n before now made end run
  run_named Pic16F84a image script n before now made end run = named_by second_kind.second (second.reset second_zeros) second_moments second_runner second_named image script n before now made end run
