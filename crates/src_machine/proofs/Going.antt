-- The loop of a step: micro-steps that don't count, and the one that ends it.
use Rattle.std.proofs.Common.{◌≡◌, ◌≤◌, ◌<◌, ℕ, ◌+◌, Bool, true, false, not, ◌||◌, length, Option, Some, None, refl, sym, ap, ◌∙◌, subst, arith}
use Rattle.std.proofs.lemmas.Bool.{false≢true}
use Rattle.std.specs.Vec.{vec_capacity}
use Rattle.c_typed.specs.TreeNodes.{nodes_of}
use Rattle.c_typed.specs.Views.{program_of}
use Rattle.pic_map.specs.MapContent.{MapContent}
use Rattle.pic_world.proofs.WorldLaws.{arrived_trace}
use Rattle.pic_world.specs.World.{World, Happening, arrived}
use Rattle.pic_world.specs.declared.Event.{Event}
use Rattle.pic_world.specs.declared.script.Script.{Script}
use Rattle.src_machine.proofs.Near.{focus_light, stack_light, weighs}
use Rattle.src_machine.proofs.Ready.{lighter, more_room, ready_here, ready_on, run_goes, run_roomy, run_short, run_sized, run_stands}
use Rattle.src_machine.proofs.Waits.{has_length, has_room}
use Rattle.src_machine.specs.Progress.{taken_by}
use Rattle.src_machine.specs.Seen.{interrupted_in, stack_of, state_in, waiting}
use Rattle.src_machine.specs.Stepping.{CanStep, Rests, TellsStep, is_ending, taker_of}
use Rattle.src_machine.specs.Steps.{CanGo, IsOnRun, TellsTake, outcome_of, went_if}
use Rattle.src_machine.specs.Telling.{Tells}
use Rattle.src_machine.specs.declared.machine.Machine.{Machine}
use Rattle.src_machine.specs.declared.machine.Outcome.{Outcome}
use Rattle.src_machine.specs.declared.machine.Outcome.TheVariants as outcomes
use Rattle.src_machine.specs.declared.machine.SrcEnd.{SrcEnd}
use Rattle.src_machine.specs.declared.machine.SrcEnd.TheVariants as ends
use Rattle.src_machine.specs.declared.machine.Taker.{Taker}
use Rattle.src_memory.specs.Seen.{events_of, outside_by}
use Rattle.src_memory.specs.Shown.{address_of}
use Rattle.c_typed.proofs.NodeCounts.{few_nodes, few_functions}
use Rattle.src_rules.proofs.Changes.{events_count}
use Rattle.src_rules.proofs.Moments.{steps}
use Rattle.src_rules.specs.Runs.{gone, is_ready, is_taken, ready, take}
use Rattle.src_rules.specs.Standing.{Keeps}
use Rattle.src_rules.specs.State as rules
use Rattle.src_rules.specs.State.{State}
use Rattle.src_rules.specs.Step.{counts, step}
use Rattle.src_rules.specs.Weights.{weight}
use Rattle.src_values.specs.Memory.{Setting}
use Rattle.src_values.specs.declared.objects.Byte.{Byte}

-- what a micro-step of the code tells
abbrev pub MicroTells : Script → Machine → Taker → Bool → Outcome → Machine → Type 0
MicroTells script m by counting outcome after = (s : Setting) (map : MapContent) (w : World Byte) → s.outside ≡ outside_by script → CanStep s map m w → TellsStep s map (state_in m w) by counting outcome m after

-- So many micro-steps later, none of which counts, the next step is the same, and nearer.
pub record IsAhead (s : Setting) (map : MapContent) (first : Machine) (w : World Byte) (m : Machine) (done : ℕ) : Type 0 where
  pub world : World Byte
  pub can : CanGo s map m world
  pub same : ready s (state_in m world) ≡ ready s (state_in first w)
  pub less : weight s (state_in m world) + done ≤ weight s (state_in first w)
  pub program : m.program ≡ first.program
  pub handler : m.handler ≡ first.handler
  pub events : events_of m.world ≡ events_of first.world
  pub room : vec_capacity first.stack ≤ vec_capacity m.stack

-- the loop's invariant
unfoldable pub GoesOn : Script → Machine → Machine → ℕ → Type 0
GoesOn script first m done = (s : Setting) (map : MapContent) (w : World Byte) → s.outside ≡ outside_by script → CanGo s map first w → IsAhead s map first w m done

can_step : (s : Setting) (map : MapContent) (m : Machine) (w : World Byte) → CanGo s map m w → CanStep s map m w
can_step s map m w can = record {
  at = can.at;
  handler = can.handler;
  proper = can.given.proper;
  bytes = can.given.bytes;
  stands = run_stands s can.given (state_in m w) can.run;
  room = has_room m (run_roomy s (vec_capacity m.stack) can.room (state_in m w) can.run);
}

-- ---- how near the next step is
pub near : (s : Setting) (map : MapContent) (m : Machine) (w : World Byte) → CanGo s map m w → weight s (state_in m w) < 340282366920938463463374607431768211455
near s map m w can =
    let small : nodes_of s.program ≤ 268435456 = subst (λ p. nodes_of p ≤ 268435456) (sym can.at.program) (few_nodes m.program.now) in
    let functions = few_functions s.program in
    let sized = run_sized s can.given (state_in m w) can.run in
    let stands = run_stands s can.given (state_in m w) can.run in
    let f = focus_light s.program small m.copy m.focus (stack_of m) sized.1 sized.0 in
    let k = stack_light s.program small (interrupted_in m) false m.copy (waiting m) sized.1 stands.stack in
    let l = has_length m in
    let e = run_short s can.given (state_in m w) can.run in
    let a = weighs s (state_in m w) in
    omega arith

-- ---- the loop's begin
pub begins : (script : Script) (m : Machine) → GoesOn script m m 0
unfolding GoesOn
begins script m s map w o can = record {
  world = w;
  can = can;
  same = refl;
  less = omega arith;
  program = refl;
  handler = refl;
  events = refl;
  room = omega arith;
}

-- ---- a micro-step that doesn't count
waits_on : (s : Setting) (t u : State) (event : Option (Happening Byte)) → counts s t ≡ false → step s t ≡ rules.Went u event → is_ready s t ≡ false
waits_on s t u event c is = ap (λ a. a || not (is_taken (step s t))) c ∙ ap (λ x. not (is_taken x)) is

module _ (s : Setting) (map : MapContent) (first : Machine) (w0 : World Byte) (m after : Machine) (done : ℕ) (ahead : IsAhead s map first w0 m done) (by : Taker) where
  abbrev now : State
  now = state_in m ahead.world

  on_by : (event : Option Event) → TellsStep s map now by false (outcomes.Went event) m after → (out : rules.Outcome) → step s now ≡ out → Tells s.outside (address_of s.program map) (outcomes.Went event) after out
      → IsAhead s map first w0 after (done + 1)
  on_by event tells (rules.Undefined kind line) is told = absurd told
  on_by event tells rules.Idle is told = absurd told
  on_by event tells rules.Lost is told = absurd told
  on_by event tells (rules.Went u happening) is told =
      let can = ahead.can in
      let t = state_in m ahead.world in
      let c : counts s t ≡ false = sym tells.counted in
      let stands = run_stands s can.given t can.run in
      let waits = waits_on s t u happening c is in
      let gone_is : gone t (step s t) ≡ state_in after u.world = ap (gone t) is ∙ told.0 in
      let light = lighter s t stands waits in
      let weighs : weight s (gone t (step s t)) ≡ weight s (state_in after u.world) = ap (weight s) gone_is in
      let less = ahead.less in
      let quiet = events_count s t u happening is c in
      let trace : length u.world.trace ≡ length ahead.world.trace = ap (λ v. length v.trace) quiet.1 ∙ ap length (arrived_trace s.outside ahead.world) in
      let events : events_of after.world ≡ events_of m.world = sym told.1.count ∙ (trace ∙ can.at.world.count) in
      let few = can.at.few in
      let grows = tells.room in
      let grew = ahead.room in
      record {
        world = u.world;
        can = record {
          given = can.given;
          at = record { program = can.at.program ∙ ap (λ q. program_of q.now) (sym tells.program); shaped = tells.shaped; world = told.1; few = omega arith };
          handler = tells.handler ∙ can.handler;
          run = subst (IsOnRun s) told.0 (run_goes s t u happening can.run is);
          room = more_room s (vec_capacity m.stack) (vec_capacity after.stack) can.room grows;
        };
        same = sym (ready_on s can.given.proper can.given.bytes t stands waits ∙ ap (ready s) gone_is) ∙ ahead.same;
        less = omega arith;
        program = tells.program ∙ ahead.program;
        handler = tells.handler ∙ ahead.handler;
        events = events ∙ ahead.events;
        room = omega arith;
      }

  -- ---- the micro-step that ends the step
  found : is_ready s now ≡ true → ready s (state_in first w0) ≡ now
  found r = sym ahead.same ∙ ready_here s now r

  take_is : is_ready s now ≡ true → take s (state_in first w0) ≡ step s now
  unfolding take
  take_is r = ap (step s) (found r)

  -- where no step is left there was no event
  few_by : (counting : Bool) (end : SrcEnd) → TellsStep s map now by counting (outcome_of end) m after → is_ending (outcome_of end) ≡ false → events_of after.world ≤ events_of first.world + taken_by end
  few_by counting (ends.Went event) tells h = let d = tells.few refl in let e = ahead.events in omega arith
  few_by counting (ends.Undefined kind line) tells h = absurd (false≢true (sym h))
  few_by counting ends.Idle tells h =
      let e = ahead.events in
      let c = ahead.can.at.world.count in
      let q : length (arrived s.outside ahead.world).trace ≡ length ahead.world.trace = ap length (arrived_trace s.outside ahead.world) in
      let d = tells.rests.1.count in
      omega arith

  ends_with : (counting : Bool) (end : SrcEnd) → TellsStep s map now by counting (outcome_of end) m after → is_ready s now ≡ true → TellsTake s map (state_in first w0) by end first after
  ends_with counting end tells r =
      let grows = tells.room in
      let grew = ahead.room in
      record {
        told = subst (Tells s.outside (address_of s.program map) (outcome_of end) after) (sym (take_is r)) tells.told;
        taker = tells.taker ∙ ap (taker_of s) (sym (found r));
        rests = subst (Rests s (outcome_of end) after) (sym (found r)) tells.rests;
        program = tells.program ∙ ahead.program;
        handler = tells.handler ∙ ahead.handler;
        shaped = tells.shaped;
        few = few_by counting end tells;
        room = omega arith;
      }

  or_right : (a b : Bool) → b ≡ true → (a || b) ≡ true
  or_right true b h = refl
  or_right false b h = h

  counted_ready : true ≡ counts s now → is_ready s now ≡ true
  counted_ready h = ap (λ a. a || not (is_taken (step s now))) (sym h)

  fault_ready : (kind : _) (line : ℕ) (out : rules.Outcome) → step s now ≡ out → Tells s.outside (address_of s.program map) (outcomes.Undefined kind line) after out → is_ready s now ≡ true
  fault_ready kind line (rules.Went u event) is told = absurd told
  fault_ready kind line (rules.Undefined other at) is told = or_right (counts s now) _ (ap (λ x. not (is_taken x)) is)
  fault_ready kind line rules.Idle is told = absurd told
  fault_ready kind line rules.Lost is told = absurd told

  idle_ready : (out : rules.Outcome) → step s now ≡ out → Tells s.outside (address_of s.program map) outcomes.Idle after out → is_ready s now ≡ true
  idle_ready (rules.Went u event) is told = absurd told
  idle_ready (rules.Undefined other at) is told = absurd told
  idle_ready rules.Idle is told = or_right (counts s now) _ (ap (λ x. not (is_taken x)) is)
  idle_ready rules.Lost is told = absurd told

  never_lost : (out : rules.Outcome) → step s now ≡ out → Tells s.outside (address_of s.program map) outcomes.Lost after out → ⊥
  never_lost (rules.Went u event) is told = told
  never_lost (rules.Undefined other at) is told = told
  never_lost rules.Idle is told = told
  never_lost rules.Lost is told = subst (Keeps s.program) is (steps s ahead.can.given.proper ahead.can.given.bytes now (run_stands s ahead.can.given now ahead.can.run))

  ends_by : (counting : Bool) (outcome : Outcome) (end : SrcEnd) → went_if counting outcome ≡ Some end → TellsStep s map now by counting outcome m after → TellsTake s map (state_in first w0) by end first after
  ends_by true (outcomes.Went event) end h tells = subst (λ x. TellsTake s map (state_in first w0) by x first after) (some_same h) (ends_with true (ends.Went event) tells (counted_ready tells.counted))
    where
      some_same : {a b : SrcEnd} → Some a ≡ Some b → a ≡ b
      some_same e = cc
  ends_by false (outcomes.Went event) end h tells = absurd cc
  ends_by counting (outcomes.Undefined kind line) end h tells = subst (λ x. TellsTake s map (state_in first w0) by x first after) (some_same h) (ends_with counting (ends.Undefined kind line) tells (fault_ready kind line (step s now) refl tells.told))
    where
      some_same : {a b : SrcEnd} → Some a ≡ Some b → a ≡ b
      some_same e = cc
  ends_by counting outcomes.Idle end h tells = subst (λ x. TellsTake s map (state_in first w0) by x first after) (some_same h) (ends_with counting ends.Idle tells (idle_ready (step s now) refl tells.told))
    where
      some_same : {a b : SrcEnd} → Some a ≡ Some b → a ≡ b
      some_same e = cc
  ends_by counting outcomes.Lost end h tells = absurd (never_lost (step s now) refl tells.told)

  goes_by : (counting : Bool) (outcome : Outcome) → went_if counting outcome ≡ None → TellsStep s map now by counting outcome m after → IsAhead s map first w0 after (done + 1)
  goes_by true (outcomes.Went event) h tells = absurd cc
  goes_by false (outcomes.Went event) h tells = on_by event tells (step s now) refl tells.told
  goes_by counting (outcomes.Undefined kind line) h tells = absurd cc
  goes_by counting outcomes.Idle h tells = absurd cc
  goes_by counting outcomes.Lost h tells = absurd cc

-- ---- as the code has them
pub goes_on : (script : Script) (first m after : Machine) (done : ℕ) (by : Taker) (counting : Bool) (outcome : Outcome) → went_if counting outcome ≡ None → GoesOn script first m done → MicroTells script m by counting outcome after
    → GoesOn script first after (done + 1)
unfolding GoesOn
goes_on script first m after done by counting outcome h goes micro s map w o can =
    let ahead = goes s map w o can in
    goes_by s map first w m after done ahead by counting outcome h (micro s map ahead.world o (can_step s map m ahead.world ahead.can))

pub ended : (script : Script) (first m after : Machine) (done : ℕ) (by : Taker) (counting : Bool) (outcome : Outcome) (end : SrcEnd) → went_if counting outcome ≡ Some end → GoesOn script first m done → MicroTells script m by counting outcome after
    → (s : Setting) (map : MapContent) (w : World Byte) → s.outside ≡ outside_by script → CanGo s map first w → TellsTake s map (state_in first w) by end first after
unfolding GoesOn
ended script first m after done by counting outcome end h goes micro s map w o can =
    let ahead = goes s map w o can in
    ends_by s map first w m after done ahead by counting outcome end h (micro s map ahead.world o (can_step s map m ahead.world ahead.can))

pub never : (script : Script) (first m : Machine) (done : ℕ) → GoesOn script first m done → 340282366920938463463374607431768211455 ≤ done → (s : Setting) (map : MapContent) (w : World Byte) → s.outside ≡ outside_by script → CanGo s map first w → ⊥
unfolding GoesOn
never script first m done goes h s map w o can =
    let l = (goes s map w o can).less in
    let n = near s map first w can in
    omega arith
