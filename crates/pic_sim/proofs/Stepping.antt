-- One instruction over a board, from its parts.
use Rattle.std.proofs.Common.{◌≡◌, ℕ, ◌+◌, ◌%◌, Bool, true, false, not, List, [], ◌∷◌, ◌++◌, refl, sym, ap, ◌∙◌, subst, append-nil, length, slice_index, Option, Some, None, nat_eq, IsSome, IfSome}
use Rattle.std.specs.Prelude.{if◌then◌else◌, ◌&&◌, ◌||◌}
use Rattle.pic_world.specs.Arrivals.{arriving}
use Rattle.pic_world.specs.declared.Event.{Event}
use Rattle.pic_world.specs.declared.Event.TheVariants as events
use Rattle.pic_chip.specs.Act.{Made, accesses, perform}
use Rattle.pic_chip.specs.Instructions.{is_modelled}
use Rattle.pic_chip.specs.Machine.{Machine, Feeds, wanted_by}
use Rattle.pic_chip.specs.Run.{Watch, Moment, observed}
use Rattle.pic_chip.specs.Seen.{accesses_in, made_by, stopped_at, seen}
use Rattle.pic_chip.specs.State.{State}
use Rattle.pic_chip.specs.declared.access.Access.{Access}
use Rattle.pic_chip.specs.declared.access.Accesses.{Accesses}
use Rattle.pic_chip.specs.declared.access.StepEnd.{StepEnd}
use Rattle.pic_chip.specs.declared.access.StepEnd.TheVariants.{Done, Unmodelled}
use Rattle.pic_map.specs.Tracing.{Tracing, looked, told}
use Rattle.pic_sim.specs.declared.board.Exchange.{Exchange}
use Rattle.pic_sim.specs.Board.{Lists, Followed}
use Rattle.pic_sim.specs.Going.{Around, Point, IsAt, StopsBy, begun_by, HasBytes, reads_by, writes_by}
use Rattle.pic_sim.specs.Kind.{Kind, stop_at_by, index_after_by, stepped_by}
use Rattle.pic_sim.specs.Laws.{IsChip}
use Rattle.pic_sim.specs.Step.{ActedBy, FollowsBy, StepsBy, AreTold, given_of, shown_by}

-- ---- what the chip does
feeds_of : (inputs : List ℕ) (place byte : ℕ) (o : Option ℕ) → HasBytes inputs place (given_of o byte) → Feeds inputs place byte o
feeds_of inputs place byte None h = tt
feeds_of inputs place byte (Some register) h = h.0

given_same : (inputs : List ℕ) (place byte : ℕ) (o : Option ℕ) → HasBytes inputs place (given_of o byte) → given_of o byte ≡ given_of o (slice_index inputs place)
given_same inputs place byte None h = refl
given_same inputs place byte (Some register) h = ap (given_of (Some register)) (sym h.0)

not_modelled : (kind : Kind) (image : List ℕ) (s : State) (o : Option ℕ) → o ≡ stop_at_by kind image s → IsSome o → is_modelled (kind.fetched image s) ≡ false
not_modelled kind image s o e some = by_test (is_modelled (kind.fetched image s)) e
  where
    by_test : (b : Bool) → o ≡ (if b then None else Some s.pc) → b ≡ false
    by_test false e = refl
    by_test true e = let nothing : Option ℕ = None in let none : IsSome nothing = subst (λ (x : Option ℕ). IsSome x) e some in absurd (cc (none))

no_accesses_in : (end : StepEnd) → IsSome (stopped_at end) → accesses_in end ≡ []
no_accesses_in (Done a) h = absurd (cc (h))
no_accesses_in (Unmodelled pc) h = refl

by_some : {X : Type 0} (P : X → Type 0) (o : Option X) (x : X) → o ≡ Some x → IfSome o P → P x
by_some P o x e h = subst (λ (y : Option _). IfSome y P) e h

-- from the clauses of `tick`, `begin`, `wants`, `read`, `exec` and `write`
module _ (kind : Kind) (is : IsChip kind) (image : List ℕ) (end : StepEnd) (old mid new : Machine) (L0 L1 L2 L3 : Lists) (F0 F1 F2 F3 : Option Followed) (t mask byte : ℕ) (o : Option ℕ) (told_list : List Exchange)
    (ticked : L1 ≡ record L0 { raised = L0.raised ++ mask ∷ [] })
    (asked : L2 ≡ record L1 { given = L1.given ++ given_of o byte })
    (written : L3 ≡ record L2 { taken = L2.taken ++ told_list })
    (f1 : F1 ≡ F0) (f2 : F2 ≡ F1) (f3 : F3 ≡ F2)
    (index_is : t ≡ old.index)
    (tick_script : IfSome F0 (λ script. mask ≡ arriving script.arrivals t))
    (ask_script : IfSome F1 (λ script. HasBytes script.input (length L1.given) (given_of o byte)))
    (begin_state : mid.state ≡ kind.begun mask old.state)
    (begin_index : mid.index ≡ old.index)
    (wants : (inputs : List ℕ) → o ≡ wanted_by kind.rule (accesses (kind.execute image inputs) mid.state))
    (exec_state : (inputs : List ℕ) → Feeds inputs mid.state.taken byte (wanted_by kind.rule (accesses (kind.execute image inputs) mid.state)) → new.state ≡ perform (kind.execute image inputs) mid.state)
    (exec_accesses : (inputs : List ℕ) → Feeds inputs mid.state.taken byte (wanted_by kind.rule (accesses (kind.execute image inputs) mid.state)) → accesses_in end ≡ accesses (kind.execute image inputs) mid.state)
    (exec_stopped : stopped_at end ≡ stop_at_by kind image mid.state)
    (exec_index : new.index ≡ index_after_by kind image mid.state mid.index)
    (exec_unchanged : IsSome (stopped_at end) → new ≡ mid)
    (told_is : AreTold kind (accesses_in end) → told_list ≡ writes_by kind.rule (accesses_in end)) where
  count : mid.state.taken ≡ old.state.taken
  count = ap (λ (s : State). s.taken) begin_state ∙ is.taken mask old.state

  fed : (inputs : List ℕ) → HasBytes inputs old.state.taken (given_of o byte) → Feeds inputs mid.state.taken byte (wanted_by kind.rule (accesses (kind.execute image inputs) mid.state))
  fed inputs h =
      subst (λ (w : Option ℕ). Feeds inputs mid.state.taken byte w) (wants inputs)
      (subst (λ (n : ℕ). Feeds inputs n byte o) (sym count) (feeds_of inputs old.state.taken byte o h))

  low : (inputs : List ℕ) → HasBytes inputs old.state.taken (given_of o byte) → AreTold kind (accesses_in end)
  low inputs h = subst (AreTold kind) (sym (exec_accesses inputs (fed inputs h))) (is.plain inputs mid.state image).told

  taken_is : L3.taken ≡ L0.taken ++ told_list
  taken_is = ap (λ (l : Lists). l.taken) written ∙ ap (λ (l : Lists). l.taken ++ told_list) asked ∙ ap (λ (l : Lists). l.taken ++ told_list) ticked

  reads_are : (inputs : List ℕ) → HasBytes inputs old.state.taken (given_of o byte) → given_of o byte ≡ reads_by kind.rule (accesses_in end)
  reads_are inputs h =
      given_same inputs old.state.taken byte o h
      ∙ ap (λ (w : Option ℕ). given_of w (slice_index inputs old.state.taken)) (wants inputs)
      ∙ ap (λ (n : ℕ). given_of (wanted_by kind.rule (accesses (kind.execute image inputs) mid.state)) (slice_index inputs n)) (sym count)
      ∙ sym (is.plain inputs mid.state image).reads
      ∙ ap (reads_by kind.rule) (sym (exec_accesses inputs (fed inputs h)))

  pub acted : ActedBy kind image end old new (record { lists = L0; follows = F0 }) (record { lists = L3; follows = F3 })
  acted = record {
    mask = mask;
    given = given_of o byte;
    given_now = ap (λ (l : Lists). l.given) written ∙ ap (λ (l : Lists). l.given) asked ∙ ap (λ (l : Lists). l.given ++ given_of o byte) ticked;
    raised_now = ap (λ (l : Lists). l.raised) written ∙ ap (λ (l : Lists). l.raised) asked ∙ ap (λ (l : Lists). l.raised) ticked;
    follows = f3 ∙ f2 ∙ f1;
    by_script = λ script e. (
      by_some (λ (s : Followed). mask ≡ arriving s.arrivals t) F0 script e tick_script ∙ ap (arriving script.arrivals) index_is,
      subst (λ (l : Lists). HasBytes script.input (length l.given) (given_of o byte)) ticked
          (by_some (λ (s : Followed). HasBytes s.input (length L1.given) (given_of o byte)) F1 script (f1 ∙ e) ask_script),
    );
    stopped = exec_stopped ∙ ap (stop_at_by kind image) begin_state;
    index = exec_index ∙ ap (λ (s : State). index_after_by kind image s mid.index) begin_state ∙ ap (index_after_by kind image (kind.begun mask old.state)) begin_index;
    unchanged = λ some.
        let quiet = is.quiet [] mid.state image (not_modelled kind image mid.state (stopped_at end) exec_stopped some) in
        let none : o ≡ None = wants [] ∙ ap (wanted_by kind.rule) quiet in
        let nothing : accesses_in end ≡ [] = no_accesses_in end some in
        let low_here : AreTold kind (accesses_in end) = subst (AreTold kind) (sym nothing) tt in (
          exec_unchanged some ∙ (λ i. record { state = begin_state i; index = begin_index i }),
          ap (λ (w : Option ℕ). given_of w byte) none,
          taken_is ∙ ap (λ (z : List Exchange). L0.taken ++ z) (told_is low_here ∙ ap (writes_by kind.rule) nothing) ∙ append-nil L0.taken,
        );
    state = λ inputs h. exec_state inputs (fed inputs h) ∙ ap (perform (kind.execute image inputs)) begin_state;
    accesses = λ inputs h. exec_accesses inputs (fed inputs h) ∙ ap (accesses (kind.execute image inputs)) begin_state;
    taken_now = λ inputs h. taken_is ∙ ap (λ (z : List Exchange). L0.taken ++ z) (told_is (low inputs h));
    reads = λ inputs h. reads_are inputs h;
    place = λ inputs h.
        ap (λ (s : State). s.taken) (exec_state inputs (fed inputs h))
        ∙ (is.plain inputs mid.state image).counted
        ∙ ap (λ (n : ℕ). n + length (reads_by kind.rule (accesses (kind.execute image inputs) mid.state))) count
        ∙ ap (λ (z : List Made). old.state.taken + length (reads_by kind.rule z)) (sym (exec_accesses inputs (fed inputs h)))
        ∙ ap (λ (z : List Exchange). old.state.taken + length z) (sym (reads_are inputs h));
  }

-- ---- events
pub shown-append : (kind : Kind) → IsChip kind → (xs ys : List Made) (t : Tracing) → shown_by kind (xs ++ ys) t ≡ shown_by kind xs t ++ shown_by kind ys t
shown-append kind is xs ys t = by_test t.met
  where
    by_test : (b : Bool) → (if b then kind.events_of t.watch.ranges (xs ++ ys) else []) ≡ (if b then kind.events_of t.watch.ranges xs else []) ++ (if b then kind.events_of t.watch.ranges ys else [])
    by_test true = is.joined t.watch.ranges xs ys
    by_test false = refl

pub nothing_shown : (kind : Kind) → IsChip kind → (write : Bool) (o : Option Access) → o ≡ None → (t : Tracing) (old : List Event) → old ≡ old ++ shown_by kind (made_by write o) t
nothing_shown kind is write o e t old =
    sym (ap (λ (a : Option Access). old ++ shown_by kind (made_by write a) t) e ∙ ap (λ (z : List Event). old ++ z) (by_test t.met) ∙ append-nil old)
  where
    by_test : (b : Bool) → (if b then kind.events_of t.watch.ranges [] else []) ≡ []
    by_test true = is.none t.watch.ranges
    by_test false = refl

pub told_split : (kind : Kind) (xs ys : List Made) → AreTold kind (xs ++ ys) → AreTold kind xs × AreTold kind ys
told_split kind [] ys h = (tt, h)
told_split kind (x ∷ xs) ys h = let rest = told_split kind xs ys h.1 in ((h.0, rest.0), rest.1)

-- ---- how a moment is looked at
record Looks (m o : Moment) (new : Tracing) (more : List Event) : Type 0 where
  state : o.state ≡ m.state
  met : o.met ≡ new.met
  ended : o.ended ≡ new.ended
  trace : o.trace ≡ m.trace ++ more
  stopped : o.stopped ≡ m.stopped

abbrev see : Bool → Bool → Bool → Moment → Moment
see b c x m = if b then (if c then record m { ended = true; trace = m.trace ++ events.End ∷ [] } else m) else record m { met = x }

looks : (w : Watch) (m : Moment) (t : Tracing) → w ≡ t.watch → m.met ≡ t.met → m.ended ≡ t.ended → Looks m (observed w m) (looked m.state.pc t) (told m.state.pc t)
looks w m t ew em ee =
    let pc = m.state.pc in
    let form : observed w m ≡ see t.met (nat_eq pc t.watch.halt && not t.ended) (nat_eq pc t.watch.main) m =
    ap (λ (b : Bool). see b (nat_eq pc w.halt && not m.ended) (nat_eq pc w.main) m) em
    ∙ ap (λ (q : Bool). see t.met (nat_eq pc w.halt && not q) (nat_eq pc w.main) m) ee
    ∙ ap (λ (v : Watch). see t.met (nat_eq pc v.halt && not t.ended) (nat_eq pc v.main) m) ew in
    subst (λ (o : Moment). Looks m o (looked pc t) (told pc t)) (sym form)
    (by_tests t.met (nat_eq pc t.watch.halt && not t.ended) (nat_eq pc t.watch.main))
  where
    by_tests : (b c x : Bool) → Looks m (see b c x m) (if b then (if c then record t { ended = true } else t) else record t { met = x }) (if b then (if c then events.End ∷ [] else []) else [])
    by_tests true true x = record { state = refl; met = em; ended = refl; trace = refl; stopped = refl }
    by_tests true false x = record { state = refl; met = em; ended = ee; trace = sym (append-nil m.trace); stopped = refl }
    by_tests false c x = record { state = refl; met = refl; ended = ee; trace = sym (append-nil m.trace); stopped = refl }

-- the moments that are watched stay the same ones
watch_kept : (pc : ℕ) (t : Tracing) → t.watch ≡ (looked pc t).watch
watch_kept pc t = by_tests t.met (nat_eq pc t.watch.halt && not t.ended)
  where
    by_tests : (b c : Bool) → t.watch ≡ (if b then (if c then record t { ended = true } else t) else record t { met = nat_eq pc t.watch.main }).watch
    by_tests true true = refl
    by_tests true false = refl
    by_tests false c = refl

trace_shown : (kind : Kind) (old : List Event) (w : Watch) (made : List Made) (t : Tracing) (b : Bool) → b ≡ t.met → w ≡ t.watch → (if b then old ++ kind.events_of w.ranges made else old) ≡ old ++ shown_by kind made t
trace_shown kind old w made t b eb ew =
    by_test b
    ∙ ap (λ (q : Bool). old ++ (if q then kind.events_of w.ranges made else [])) eb
    ∙ ap (λ (v : Watch). old ++ (if t.met then kind.events_of v.ranges made else [])) ew
  where
    by_test : (b : Bool) → (if b then old ++ kind.events_of w.ranges made else old) ≡ old ++ (if b then kind.events_of w.ranges made else [])
    by_test true = refl
    by_test false = sym (append-nil old)

-- ---- a whole instruction
one_on : (b : Bool) (pc index : ℕ) → None ≡ (if b then None else Some pc) → (if b then index + 1 else index) ≡ index + 1
one_on true pc index e = refl
one_on false pc index e = absurd (cc)

module _ (kind : Kind) (is : IsChip kind) (image : List ℕ) (done : Accesses) (old new : Point) (pc_now : ℕ) (pc_is : pc_now ≡ new.chip.state.pc) (act : ActedBy kind image (Done done) old.chip new.chip old.board new.board)
    (events_now : AreTold kind (seen done) → new.events ≡ old.events ++ shown_by kind (seen done) old.tracing ++ told pc_now old.tracing)
    (tracing_now : new.tracing ≡ looked pc_now old.tracing) where
  follows_from : (a : Around) (m : Moment) → HasBytes a.inputs old.chip.state.taken act.given → a.masks old.chip.index % kind.masks ≡ act.mask % kind.masks → IsAt a m old → FollowsBy kind image a m act.given old new
  follows_from a m bytes mask at =
      let t = old.tracing in
      let begins : begun_by kind a old.chip.index m ≡ kind.begun act.mask old.chip.state = ap (kind.begun (a.masks old.chip.index)) at.state ∙ is.same (a.masks old.chip.index) act.mask old.chip.state mask in
      let made : accesses (kind.execute image a.inputs) (begun_by kind a old.chip.index m) ≡ seen done = ap (accesses (kind.execute image a.inputs)) begins ∙ sym (act.accesses a.inputs bytes) in
      let state : perform (kind.execute image a.inputs) (begun_by kind a old.chip.index m) ≡ new.chip.state = ap (perform (kind.execute image a.inputs)) begins ∙ sym (act.state a.inputs bytes) in
      let low : AreTold kind (seen done) = subst (AreTold kind) (sym (act.accesses a.inputs bytes)) (is.plain a.inputs (kind.begun act.mask old.chip.state) image).told in
      let st = stepped_by kind image a.inputs a.watch.ranges (a.masks old.chip.index) m in
      let look = looks a.watch st t at.watch at.met at.ended in
      let pc : st.state.pc ≡ pc_now = ap (λ (s : State). s.pc) state ∙ sym pc_is in
      record {
        at = record {
          state = look.state ∙ state;
          met = look.met ∙ ap (λ (n : ℕ). (looked n t).met) pc ∙ ap (λ (u : Tracing). u.met) (sym tracing_now);
          ended = look.ended ∙ ap (λ (n : ℕ). (looked n t).ended) pc ∙ ap (λ (u : Tracing). u.ended) (sym tracing_now);
          trace = look.trace
              ∙ ap (λ (z : List Event). z ++ told st.state.pc t) (trace_shown kind m.trace a.watch (accesses (kind.execute image a.inputs) (begun_by kind a old.chip.index m)) t m.met at.met at.watch)
              ∙ ap (λ (z : List Made). m.trace ++ shown_by kind z t ++ told st.state.pc t) made
              ∙ ap (λ (n : ℕ). m.trace ++ shown_by kind (seen done) t ++ told n t) pc
              ∙ ap (λ (z : List Event). z ++ shown_by kind (seen done) t ++ told pc_now t) at.trace
              ∙ sym (events_now low);
          watch = at.watch ∙ watch_kept pc_now t ∙ ap (λ (u : Tracing). u.watch) (sym tracing_now);
          going = look.stopped ∙ at.going;
        };
        reads = act.reads a.inputs bytes ∙ ap (reads_by kind.rule) (sym made);
        writes = act.taken_now a.inputs bytes ∙ ap (λ (z : List Made). old.board.lists.taken ++ writes_by kind.rule z) (sym made);
        place = act.place a.inputs bytes;
        modelled = ap (stop_at_by kind image) begins ∙ sym act.stopped;
      }

  steps_from : StepsBy kind image old new
  steps_from = record {
    mask = act.mask;
    given = act.given;
    given_now = act.given_now;
    raised_now = act.raised_now;
    index = act.index ∙ one_on (is_modelled (kind.fetched image (kind.begun act.mask old.chip.state))) (kind.begun act.mask old.chip.state).pc old.chip.index act.stopped;
    run = follows_from;
    follows = act.follows;
    by_script = act.by_script;
  }

pub steps_at_end : (kind : Kind) → IsChip kind → (image : List ℕ) (done : Accesses) (end : StepEnd) (old new : Point) (pc_now : ℕ) → end ≡ Done done → pc_now ≡ new.chip.state.pc → ActedBy kind image end old.chip new.chip old.board new.board
    → (AreTold kind (seen done) → new.events ≡ old.events ++ shown_by kind (seen done) old.tracing ++ told pc_now old.tracing) → new.tracing ≡ looked pc_now old.tracing → StepsBy kind image old new
steps_at_end kind chip image done end old new pc_now is pc_is act =
    steps_from kind chip image done old new pc_now pc_is (subst (λ (e : StepEnd). ActedBy kind image e old.chip new.chip old.board new.board) is act)

-- ---- where the model goes no further
or_not : (b c : Bool) → c ≡ false → (b || not c) ≡ true
or_not true c h = refl
or_not false c h = ap not h

stops_from : (kind : Kind) → IsChip kind → (image : List ℕ) (pc : ℕ) (old new : Point) → ActedBy kind image (Unmodelled pc) old.chip new.chip old.board new.board → new.tracing ≡ old.tracing → new.events ≡ old.events → StopsBy kind image pc old new
stops_from kind is image pc old new act tracing events =
    let all = act.unchanged refl in
    record {
      mask = act.mask;
      raised = act.raised_now;
      given = act.given_now ∙ ap (λ (z : List Exchange). old.board.lists.given ++ z) all.1 ∙ append-nil old.board.lists.given;
      taken = all.2;
      follows = act.follows;
      chip = all.0;
      word = ap (λ (c : Machine). stop_at_by kind image c.state) all.0 ∙ sym act.stopped;
      tracing = tracing;
      events = events;
      by_script = λ script e. (act.by_script script e).0;
      ends = λ a m mask at.
          let begins : begun_by kind a old.chip.index m ≡ kind.begun act.mask old.chip.state = ap (kind.begun (a.masks old.chip.index)) at.state ∙ is.same (a.masks old.chip.index) act.mask old.chip.state mask in
          or_not m.stopped (is_modelled (kind.fetched image (begun_by kind a old.chip.index m)))
          (ap (λ (s : State). is_modelled (kind.fetched image s)) begins ∙ not_modelled kind image (kind.begun act.mask old.chip.state) (Some pc) act.stopped refl);
    }

pub stops_at_end : (kind : Kind) → IsChip kind → (image : List ℕ) (pc : ℕ) (end : StepEnd) (old new : Point) → end ≡ Unmodelled pc → ActedBy kind image end old.chip new.chip old.board new.board → new.tracing ≡ old.tracing → new.events ≡ old.events → StopsBy kind image pc old new
stops_at_end kind chip image pc end old new is act = stops_from kind chip image pc old new (subst (λ (e : StepEnd). ActedBy kind image e old.chip new.chip old.board new.board) is act)
