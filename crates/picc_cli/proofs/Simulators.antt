-- What holds of each chip that is simulated: its run over a board is the run of its own definitions, by the answers of the board.
use Rattle.std.proofs.Common.{◌≡◌, ℕ, suc, ◌+◌, ◌-◌, ◌%◌, true, false, IsSome, List, [], ◌∷◌, ◌++◌, length, refl, sym, ap, ◌∙◌, subst, arith, append_assoc}
use Rattle.std.proofs.lemmas.List.{append_cancel_left}
use Rattle.chip_84a.proofs.Resets.{few_masks}
use Rattle.chip_84a.proofs.Second.{is_chip as is_second}
use Rattle.chip_84a.specs.Machine as second
use Rattle.chip_84a.specs.Run as second_run
use Rattle.chip_84a.specs.Simulated as second_kind
use Rattle.pic_chip.specs.Run.{Moment, moment, observed}
use Rattle.pic_chip.specs.State as chip_state
use Rattle.pic_chip.specs.State.{State}
use Rattle.pic_chip.specs.declared.profile.Profile.{Profile}
use Rattle.pic_chip.specs.declared.profile.Profile.TheVariants.{Pic16F877a, Pic16F84a}
use Rattle.pic_map.specs.MapContent.{MapContent, watch_of}
use Rattle.pic_sim.proofs.Answering.{masks_are_arrivals}
use Rattle.pic_sim.proofs.First.{is_chip as is_first}
use Rattle.pic_sim.proofs.FromReset.{IsRunOf, begins_by, goes_on_by, stops_for_good_by}
use Rattle.pic_sim.specs.Board.{Followed, Lists}
use Rattle.pic_sim.specs.FromReset.{Journey, around_of, arrivals_of, BeginsBy, GoesOnBy, StopsForGoodBy}
use Rattle.pic_sim.specs.Going.{HasBytes, HasMasksBy, IsAt, Known, Point}
use Rattle.pic_sim.specs.Kind as kinds
use Rattle.pic_sim.specs.Kind.{Kind}
use Rattle.pic_sim.specs.Laws.{IsChip}
use Rattle.pic_sim.specs.declared.board.Exchange.{Exchange}
use Rattle.pic_sim.specs.declared.running.SimEnd.{SimEnd}
use Rattle.pic_sim.specs.declared.running.SimEnd.TheVariants as sim
use Rattle.pic_world.specs.Arrivals.{arriving}
use Rattle.pic_world.specs.declared.Event.{Event}
use Rattle.schedule.specs.ScriptFile.{ScriptContent}
use Rattle.picc_cli.specs.Simulation.{Answers, IsRunBy, Simulator, first_look, first_moments, second_moments, second_zeros, simulator_by, simulator_of, zeros}

pub record IsSimulator (s : Simulator) : Type 0 where
  -- all instructions ran
  pub through : (image : List ℕ) (map : MapContent) (script answers : ScriptContent) (n : ℕ) (before now : Known) (events : List Event) → s.Ran image map script n before now events sim.Done → Answers s.masks answers before now
      → (s.stops image map answers n ≡ false) × (events ≡ s.trace image map answers n)
  -- it stopped at a word
  pub there : (image : List ℕ) (map : MapContent) (script answers : ScriptContent) (n : ℕ) (before now : Known) (events : List Event) (pc : ℕ) → s.Ran image map script n before now events (sim.Unmodelled pc)
      → Answers s.masks answers before now → (s.stops image map answers n ≡ true) × (events ≡ s.trace image map answers n)
  -- a board that follows scripts, and has given no byte before, answers as the script that it was fed
  pub answers_through : (image : List ℕ) (map : MapContent) (script : ScriptContent) (n : ℕ) (before now : Known) → IsSome before.follows → before.lists.given ≡ [] → (events : List Event)
      → s.Ran image map script n before now events sim.Done → Answers s.masks script before now
  pub answers_there : (image : List ℕ) (map : MapContent) (script : ScriptContent) (n : ℕ) (before now : Known) → IsSome before.follows → before.lists.given ≡ [] → (events : List Event) (pc : ℕ)
      → s.Ran image map script n before now events (sim.Unmodelled pc) → Answers s.masks script before now

-- ---- bytes and masks in two parts
front_masks : (count : ℕ) (masks : ℕ → ℕ) (index : ℕ) (xs ys : List ℕ) → HasMasksBy count masks index (xs ++ ys) → HasMasksBy count masks index xs
front_masks count masks index [] ys h = tt
front_masks count masks index (x ∷ xs) ys h = (h.0, front_masks count masks (index + 1) xs ys h.1)

last_mask : (count : ℕ) (masks : ℕ → ℕ) (index mask : ℕ) (xs : List ℕ) → HasMasksBy count masks index (xs ++ mask ∷ []) → masks (index + length xs) % count ≡ mask % count
last_mask count masks index mask [] h = let e : index + 0 ≡ index = omega arith in ap (λ k. masks k % count) e ∙ h.0
last_mask count masks index mask (x ∷ xs) h =
    let e : index + suc (length xs) ≡ index + 1 + length xs = omega arith in
    ap (λ k. masks k % count) e ∙ last_mask count masks (index + 1) mask xs h.1

one_more_mask : (count : ℕ) (masks : ℕ → ℕ) (index mask : ℕ) (xs : List ℕ) → HasMasksBy count masks index xs → mask ≡ masks (index + length xs) → HasMasksBy count masks index (xs ++ mask ∷ [])
one_more_mask count masks index mask [] h e =
    let same : index + 0 ≡ index = omega arith in
    (ap (λ k. k % count) (sym (e ∙ ap masks same)), tt)
one_more_mask count masks index mask (x ∷ xs) h e =
    let same : index + suc (length xs) ≡ index + 1 + length xs = omega arith in
    (h.0, one_more_mask count masks (index + 1) mask xs h.1 (e ∙ ap masks same))

-- the run of a chip's own definitions
abbrev pub journey_by : (List ℕ → MapContent → ScriptContent → ℕ → Moment) → List ℕ → MapContent → ScriptContent → Journey
journey_by moments image map script = record { image = image; watch = watch_of map; inputs = script.input; arrivals = script.arrivals; moment = moments image map script }

module _ (kind : Kind) (begin : State) (moments : List ℕ → MapContent → ScriptContent → ℕ → Moment) (image : List ℕ) (map : MapContent) (script answers : ScriptContent)
    (begins : BeginsBy begin (journey_by moments image map answers)) (goes_on : GoesOnBy kind (journey_by moments image map answers)) (stops_for_good : StopsForGoodBy kind (journey_by moments image map answers))
    (zero : begin.taken ≡ 0) (n : ℕ) (before now : Known) where
  abbrev s : Simulator
  s = simulator_by kind begin moments

  abbrev g : Journey
  g = journey_by moments image map answers

  -- ---- the lists of a run are those of the answers
  same_given : (fed : Known) (given : List Exchange) → fed.lists ≡ before.lists → (a : Answers kind.masks answers before now) → now.lists.given ≡ fed.lists.given ++ given → a.given ≡ given
  same_given fed given same a e =
      append_cancel_left before.lists.given a.given given (sym a.given_now ∙ e ∙ ap (λ (l : Lists). l.given ++ given) same)

  same_raised : (fed : Known) (raised : List ℕ) → fed.lists ≡ before.lists → (a : Answers kind.masks answers before now) → now.lists.raised ≡ fed.lists.raised ++ raised → a.raised ≡ raised
  same_raised fed raised same a e =
      append_cancel_left before.lists.raised a.raised raised (sym a.raised_now ∙ e ∙ ap (λ (l : Lists). l.raised ++ raised) same)

  abbrev start : Known → Point
  start fed = record { chip = record { state = begin; index = 0 }; tracing = first_look map; events = []; board = fed }

  abbrev finish : (events : List Event) (end : SimEnd) → IsRunBy kind begin image map script n before now events end → Point
  finish events end run = record { chip = run.chip; tracing = run.tracing; events = events; board = now }

  -- no input byte was taken before
  from_zero : (given : List Exchange) → HasBytes answers.input 0 given → HasBytes answers.input begin.taken given
  from_zero given h = subst (λ k. HasBytes answers.input k given) (sym zero) h

  -- all instructions ran: the run stands at their moment
  stands : (events : List Event) (run : IsRunBy kind begin image map script n before now events sim.Done) → Answers kind.masks answers before now
      → IsAt (around_of g) (g.moment n) (finish events sim.Done run)
  stands events run a =
      let bytes = from_zero run.went.given (subst (HasBytes answers.input 0) (same_given run.fed run.went.given run.is_fed.same_lists a run.went.given_now) a.bytes) in
      let masks = subst (HasMasksBy kind.masks (arriving answers.arrivals) 0) (same_raised run.fed run.went.raised run.is_fed.same_lists a run.went.raised_now) a.masks in
      let at = goes_on n (start run.fed) (finish events sim.Done run) run.went bytes masks (begins (start run.fed) refl refl refl) in
      let e : 0 + n ≡ n = omega arith in
      subst (λ k. IsAt (around_of g) (g.moment k) (finish events sim.Done run)) e at

  goes_through : (events : List Event) → IsRunBy kind begin image map script n before now events sim.Done → Answers kind.masks answers before now → s.stops image map answers n ≡ false
  goes_through events run a = let at = stands events run a in at.going

  traced_through : (events : List Event) → IsRunBy kind begin image map script n before now events sim.Done → Answers kind.masks answers before now → events ≡ (g.moment n).trace
  traced_through events run a = let at = stands events run a in sym at.trace

  -- it stopped at a word: the run stays as it was before it, and has stopped
  stays : (events : List Event) (pc : ℕ) (run : IsRunBy kind begin image map script n before now events (sim.Unmodelled pc)) → Answers kind.masks answers before now
      → (m : Moment) × (g.moment n ≡ record m { stopped = true }) × (events ≡ m.trace)
  stays events pc run a =
      let went = run.went in
      let ran = went.ran in
      let stop = went.ends in
      let given_now = stop.given ∙ ran.given_now in
      let raised_now = stop.raised ∙ ap (λ xs. xs ++ stop.mask ∷ []) ran.raised_now ∙ append_assoc run.fed.lists.raised ran.raised (stop.mask ∷ []) in
      let bytes = from_zero ran.given (subst (HasBytes answers.input 0) (same_given run.fed ran.given run.is_fed.same_lists a given_now) a.bytes) in
      let masks = subst (HasMasksBy kind.masks (arriving answers.arrivals) 0) (same_raised run.fed (ran.raised ++ stop.mask ∷ []) run.is_fed.same_lists a raised_now) a.masks in
      let at = goes_on went.k (start run.fed) went.last ran bytes (front_masks kind.masks (arriving answers.arrivals) 0 ran.raised (stop.mask ∷ []) masks) (begins (start run.fed) refl refl refl) in
      let index = ran.index in
      let count = ran.count in
      let there : 0 + length ran.raised ≡ went.last.chip.index = omega (arith, index, count) in
      let mask = subst (λ k. arriving answers.arrivals k % kind.masks ≡ stop.mask % kind.masks) there (last_mask kind.masks (arriving answers.arrivals) 0 stop.mask ran.raised masks) in
      let here = subst (λ k. IsAt (around_of g) (g.moment k) went.last) (sym index) at in
      let fewer = went.fewer in
      let e : went.last.chip.index + 1 + (n - (went.k + 1)) ≡ n = omega (arith, index, fewer) in
      let stopped = stops_for_good pc (n - (went.k + 1)) went.last (finish events (sim.Unmodelled pc) run) stop mask here in
      (g.moment went.last.chip.index, subst (λ k. g.moment k ≡ record (g.moment went.last.chip.index) { stopped = true }) e stopped, stop.events ∙ sym here.trace)

  stops_there : (events : List Event) (pc : ℕ) → IsRunBy kind begin image map script n before now events (sim.Unmodelled pc) → Answers kind.masks answers before now → s.stops image map answers n ≡ true
  stops_there events pc run a = ap (λ (m : Moment). m.stopped) (stays events pc run a).1

  traced_there : (events : List Event) (pc : ℕ) → IsRunBy kind begin image map script n before now events (sim.Unmodelled pc) → Answers kind.masks answers before now
      → events ≡ (g.moment n).trace
  traced_there events pc run a = let all = stays events pc run a in all.2 ∙ sym (ap (λ (m : Moment). m.trace) all.1)

-- ---- a board that follows scripts answers as the script that it was fed
module _ (kind : Kind) (begin : State) (image : List ℕ) (map : MapContent) (script : ScriptContent) (n : ℕ) (before now : Known) (follows : IsSome before.follows) (none : before.lists.given ≡ []) where
  abbrev followed : Followed
  followed = record { input = script.input; arrivals = script.arrivals }

  no_bytes : (fed : Known) → fed.lists ≡ before.lists → length fed.lists.given ≡ 0
  no_bytes fed same = ap (λ (l : Lists). length l.given) same ∙ ap (length {A = Exchange}) none

  answers_through : (events : List Event) → IsRunBy kind begin image map script n before now events sim.Done → Answers kind.masks script before now
  answers_through events run =
      let fed = run.is_fed.follows follows in
      let all = run.went.by_script followed fed in
      record {
        given = run.went.given;
        raised = run.went.raised;
        given_now = run.went.given_now ∙ ap (λ (l : Lists). l.given ++ run.went.given) run.is_fed.same_lists;
        raised_now = run.went.raised_now ∙ ap (λ (l : Lists). l.raised ++ run.went.raised) run.is_fed.same_lists;
        bytes = subst (λ k. HasBytes script.input k run.went.given) (no_bytes run.fed run.is_fed.same_lists) all.0;
        masks = all.1;
      }

  answers_there : (events : List Event) (pc : ℕ) → IsRunBy kind begin image map script n before now events (sim.Unmodelled pc) → Answers kind.masks script before now
  answers_there events pc run =
      let fed = run.is_fed.follows follows in
      let went = run.went in
      let ran = went.ran in
      let stop = went.ends in
      let all = ran.by_script followed fed in
      let last = stop.by_script followed (ran.follows ∙ fed) in
      let index = ran.index in
      let count = ran.count in
      let there : went.last.chip.index ≡ 0 + length ran.raised = omega (arith, index, count) in
      record {
        given = ran.given;
        raised = ran.raised ++ stop.mask ∷ [];
        given_now = stop.given ∙ ran.given_now ∙ ap (λ (l : Lists). l.given ++ ran.given) run.is_fed.same_lists;
        raised_now = stop.raised ∙ ap (λ xs. xs ++ stop.mask ∷ []) ran.raised_now ∙ append_assoc run.fed.lists.raised ran.raised (stop.mask ∷ [])
            ∙ ap (λ (l : Lists). l.raised ++ (ran.raised ++ stop.mask ∷ [])) run.is_fed.same_lists;
        bytes = subst (λ k. HasBytes script.input k ran.given) (no_bytes run.fed run.is_fed.same_lists) all.0;
        masks = one_more_mask kind.masks (arriving script.arrivals) 0 stop.mask ran.raised all.1 (last ∙ ap (arriving script.arrivals) there);
      }

-- ---- chips of both kinds
pub record IsRunner (kind : Kind) (begin : State) (moments : List ℕ → MapContent → ScriptContent → ℕ → Moment) : Type 0 where
  pub chip : IsChip kind
  -- the moments are those of a run from this state, in which the program counter is 0 and no input byte was taken
  pub zero_pc : begin.pc ≡ 0
  pub zero_taken : begin.taken ≡ 0
  pub starts : (image : List ℕ) (map : MapContent) (script : ScriptContent) → moments image map script 0 ≡ observed (watch_of map) (record { state = begin; stopped = false; handling = false; met = false; ended = false; early = []; trace = [] })
  pub next : (image : List ℕ) (map : MapContent) (script : ScriptContent) → IsRunOf kind (journey_by moments image map script)
  -- the masks that a board raises are those of its arrivals
  pub masks : (raised : List ℕ) → HasMasksBy kind.masks (arriving (arrivals_of 0 raised)) 0 raised

module _ (kind : Kind) (begin : State) (moments : List ℕ → MapContent → ScriptContent → ℕ → Moment) (is : IsRunner kind begin moments) where
  pub begins_at : (image : List ℕ) (map : MapContent) (script : ScriptContent) → BeginsBy begin (journey_by moments image map script)
  begins_at image map script = begins_by begin (journey_by moments image map script) is.zero_pc (is.starts image map script)

  pub goes_on_at : (image : List ℕ) (map : MapContent) (script : ScriptContent) → GoesOnBy kind (journey_by moments image map script)
  goes_on_at image map script = goes_on_by kind (journey_by moments image map script) (is.next image map script)

  is_simulator_by : IsSimulator (simulator_by kind begin moments)
  is_simulator_by = record {
    through = λ image map script answers n before now events run made.
        let b = begins_at image map answers in let g = goes_on_at image map answers in let e = stops_for_good_by kind (journey_by moments image map answers) (is.next image map answers) in (
          goes_through kind begin moments image map script answers b g e is.zero_taken n before now events run made,
          traced_through kind begin moments image map script answers b g e is.zero_taken n before now events run made,
        );
    there = λ image map script answers n before now events pc run made.
        let b = begins_at image map answers in let g = goes_on_at image map answers in let e = stops_for_good_by kind (journey_by moments image map answers) (is.next image map answers) in (
          stops_there kind begin moments image map script answers b g e is.zero_taken n before now events pc run made,
          traced_there kind begin moments image map script answers b g e is.zero_taken n before now events pc run made,
        );
    answers_through = λ image map script n before now follows none events run. answers_through kind begin image map script n before now follows none events run;
    answers_there = λ image map script n before now follows none events pc run. answers_there kind begin image map script n before now follows none events pc run;
  }

pub first_runner : IsRunner kinds.first (chip_state.reset zeros) first_moments
unfolding moment
first_runner = record {
  chip = is_first;
  zero_pc = refl;
  zero_taken = refl;
  starts = λ image map script. refl;
  next = λ image map script k. refl;
  masks = λ raised. masks_are_arrivals 0 raised;
}

pub second_runner : IsRunner second_kind.second (second.reset second_zeros) second_moments
unfolding second_run.moment
second_runner = record {
  chip = is_second;
  zero_pc = refl;
  zero_taken = refl;
  starts = λ image map script. refl;
  next = λ image map script k. refl;
  masks = λ raised. few_masks 0 raised;
}

pub is_simulator : (chip : Profile) → IsSimulator (simulator_of chip)
is_simulator Pic16F877a = is_simulator_by kinds.first (chip_state.reset zeros) first_moments first_runner
is_simulator Pic16F84a = is_simulator_by second_kind.second (second.reset second_zeros) second_moments second_runner
