-- A micro-step of the code: arrivals come first, then the handler if it is due, and otherwise what the focus says.
use Rattle.std.proofs.Common.{◌≡◌, ℕ, ◌+◌, ◌≤◌, Bool, true, false, ◌&&◌, List, [], ◌∷◌, length, Option, Some, None, is_some, refl, sym, ap, ◌∙◌, subst, arith}
use Rattle.std.proofs.lemmas.Bool.{false≢true}
use Rattle.std.proofs.lemmas.List.{length-append}
use Rattle.std.specs.Prelude.{if◌then◌else◌}
use Rattle.std.specs.Vec.{vec_capacity}
use Rattle.c_typed.specs.Trees.{Program}
use Rattle.c_typed.specs.Views.{program_of}
use Rattle.pic_map.specs.MapContent.{MapContent}
use Rattle.pic_world.specs.Roots.{same_root}
use Rattle.pic_world.specs.World.{Happening, Outside, World, arrived, is_due}
use Rattle.pic_world.specs.declared.Root.TheVariants.{Isr}
use Rattle.src_machine.proofs.Premises.{not_interrupted}
use Rattle.src_machine.specs.Seen.{waiting, interrupted_in, stack_of, memory_of, state_in, HasRoom}
use Rattle.src_machine.specs.Stepping.{CanStep, Rests, TellsStep, is_ending, taker_at}
use Rattle.src_machine.specs.Telling.{Tells, is_idle, is_interrupted}
use Rattle.src_machine.specs.declared.machine.Machine.{Machine}
use Rattle.src_machine.specs.declared.machine.Outcome.{Outcome}
use Rattle.src_machine.specs.declared.machine.Outcome.TheVariants as ends
use Rattle.src_machine.specs.declared.machine.Taker.{Taker}
use Rattle.src_machine.specs.declared.machine.Taker.TheVariants as takers
use Rattle.src_memory.specs.Seen.{IsWorld, events_of}
use Rattle.src_memory.specs.Shape.{IsShaped}
use Rattle.src_memory.specs.Shown.{address_of}
use Rattle.src_memory.specs.declared.world.World.{World as CodeWorld}
use Rattle.src_rules.proofs.Changes.{trace_grows}
use Rattle.src_rules.proofs.Moments.{steps}
use Rattle.src_rules.proofs.Worlds.{arrived_stands, arrived_inside, due_outside}
use Rattle.src_rules.specs.Laws.{Adds}
use Rattle.src_rules.specs.Standing.{Keeps}
use Rattle.src_rules.specs.State as rules
use Rattle.src_rules.specs.State.{State}
use Rattle.src_rules.specs.Step.{act, counts, enter, enters, interrupted, is_some_line, refused, step}
use Rattle.src_values.specs.Counting.{counted_line}
use Rattle.src_values.specs.Memory.{Setting}
use Rattle.src_values.specs.Objects.{handler_in}
use Rattle.src_values.specs.Seen.{focus_in}
use Rattle.src_values.specs.declared.objects.Byte.{Byte}
use Rattle.src_values.specs.declared.objects.Object.{Object}

-- ---- the micro-step of the definition, by its cases
step_acts : (s : Setting) (t : State) → is_due (arrived s.outside t.world) ≡ false → step s t ≡ act s t.focus t.stack t.copy t.memory (arrived s.outside t.world)
unfolding step
step_acts s t e =
    let w = arrived s.outside t.world in
    ap (λ b. if b then interrupted s (handler_in s.program) t.focus t.stack t.copy t.memory w else act s t.focus t.stack t.copy t.memory w) e

step_interrupts : (s : Setting) (t : State) (o : Option ℕ) → is_due (arrived s.outside t.world) ≡ true → handler_in s.program ≡ o → step s t ≡ interrupted s o t.focus t.stack t.copy t.memory (arrived s.outside t.world)
unfolding step
step_interrupts s t o e h =
    let w = arrived s.outside t.world in
    ap (λ b. if b then interrupted s (handler_in s.program) t.focus t.stack t.copy t.memory w else act s t.focus t.stack t.copy t.memory w) e
    ∙ ap (λ o. interrupted s o t.focus t.stack t.copy t.memory w) h

enters_by : (s : Setting) (t : State) (b : Bool) (o : Option ℕ) → is_due (arrived s.outside t.world) ≡ b → handler_in s.program ≡ o → enters s t ≡ (b && is_some_line o)
unfolding enters
enters_by s t b o e h = ap (λ b. b && is_some_line (handler_in s.program)) e ∙ ap (λ o. b && is_some_line o) h

counts_entered : (s : Setting) (t : State) → enters s t ≡ true → counts s t ≡ true
unfolding counts
counts_entered s t e = ap (λ b. if b then true else is_some_line (counted_line s.program t.copy t.focus t.stack)) e

counts_acted : (s : Setting) (t : State) → enters s t ≡ false → counts s t ≡ is_some_line (counted_line s.program t.copy t.focus t.stack)
unfolding counts
counts_acted s t e = ap (λ b. if b then true else is_some_line (counted_line s.program t.copy t.focus t.stack)) e

none_enters : (b : Bool) → (b && false) ≡ false
none_enters true = refl
none_enters false = refl

some_line : (o : Option ℕ) → is_some o ≡ is_some_line o
some_line None = refl
some_line (Some line) = refl

-- ---- events
arrived_trace : (o : Outside) (w : World Byte) → (arrived o w).trace ≡ w.trace
unfolding arrived
arrived_trace o w = refl

adds_few : (before after : List (Happening Byte)) (event : Option (Happening Byte)) → Adds before event after → length after ≤ length before + 1
adds_few before after None h = rw h (omega arith)
adds_few before after (Some e) h = rw h (omega (arith, length-append before (e ∷ [])))

few_by : (s : Setting) (a : Object → ℕ) (out : Outcome) (before after : Machine) (t : State) (x : rules.Outcome) → step s t ≡ x → Keeps s.program x → IsWorld s.outside before.world t.world → Tells s.outside a out after x → Rests s out after t → is_ending out ≡ false
    → events_of after.world ≤ events_of before.world + 1
few_by s a (ends.Went event) before after t (rules.Went u happening) is k w h r e =
    let grown = adds_few t.world.trace u.world.trace happening (trace_grows s t u happening is) in
    let new = h.1.count in
    let old = w.count in
    omega (arith, grown, new, old)
few_by s a (ends.Went event) before after t (rules.Undefined kind line) is k w h r e = absurd h
few_by s a (ends.Went event) before after t rules.Idle is k w h r e = absurd h
few_by s a (ends.Went event) before after t rules.Lost is k w h r e = absurd h
few_by s a (ends.Undefined kind line) before after t x is k w h r e = absurd (false≢true (sym e))
few_by s a ends.Idle before after t x is k w h r e =
    let new = r.1.count in
    let old = w.count in
    let same = ap length (arrived_trace s.outside t.world) in
    omega (arith, new, old, same)
few_by s a ends.Lost before after t (rules.Went u happening) is k w h r e = absurd h
few_by s a ends.Lost before after t (rules.Undefined kind line) is k w h r e = absurd h
few_by s a ends.Lost before after t rules.Idle is k w h r e = absurd h
few_by s a ends.Lost before after t rules.Lost is k w h r e = absurd k

-- ---- behind the arrivals
abbrev pub with_world : Machine → CodeWorld → Machine
with_world m world = record m { world = world }

pub arrives : (o by : Outside) (old new : CodeWorld) (w : World Byte) → o ≡ by → (IsWorld by old w → IsWorld by new (arrived by w)) → IsWorld o old w → IsWorld o new (arrived o w)
arrives o by old new w e h = subst (λ o. IsWorld o old w → IsWorld o new (arrived o w)) (sym e) h

pub arrived_can : (s : Setting) (map : MapContent) (m : Machine) (world : CodeWorld) (w : World Byte) → CanStep s map m w → IsWorld s.outside world (arrived s.outside w) → CanStep s map (with_world m world) (arrived s.outside w)
arrived_can s map m world w h is =
    let new = is.count in
    let old = h.at.world.count in
    let same = ap length (arrived_trace s.outside w) in
    let few = h.at.few in
    record {
      at = record { program = h.at.program; shaped = h.at.shaped; world = is; few = omega (arith, new, old, same, few) };
      handler = h.handler;
      proper = h.proper;
      bytes = h.bytes;
      stands = record {
        reached = h.stands.reached;
        focus = h.stands.focus;
        stack = h.stands.stack;
        memory = h.stands.memory;
        control = arrived_stands s.outside w h.stands.control;
        inside = arrived_inside s.outside w ∙ h.stands.inside;
      };
      room = h.room;
    }

rests_by : (s : Setting) (before after : Machine) (world : CodeWorld) (w : World Byte) (out : Outcome) → IsWorld s.outside world (arrived s.outside w) → (is_idle out ≡ true → after ≡ with_world before world) → Rests s out after (state_in before w)
rests_by s before after world w (ends.Went event) is h = tt
rests_by s before after world w (ends.Undefined kind line) is h = tt
rests_by s before after world w ends.Idle is h =
    let e = h refl in (ap (λ m. state_in m (arrived s.outside w)) e, subst (λ m. IsWorld s.outside m.world (arrived s.outside w)) (sym e) is)
rests_by s before after world w ends.Lost is h = tt

went_steps : (o : Outside) (a : Object → ℕ) (out : Outcome) (m : Machine) (t : State) (event : Option (Happening Byte)) → Tells o a out m (rules.Went t event) → is_idle out ≡ false
went_steps o a (ends.Went e) m t event h = refl
went_steps o a (ends.Undefined kind line) m t event h = refl
went_steps o a ends.Idle m t event h = absurd h
went_steps o a ends.Lost m t event h = refl

-- ---- the three cases
-- a micro-step leaves the program and the handler's number alone
abbrev pub IsOf : Machine → Machine → Type 0
IsOf new old = (new.program ≡ old.program) × (new.handler ≡ old.handler)

module _ (s : Setting) (map : MapContent) (before after : Machine) (world : CodeWorld) (w : World Byte) (out : Outcome) (here : CanStep s map before w) (is : IsWorld s.outside world (arrived s.outside w)) (kept : IsOf after before)
    (shape : (p : Program) (map : MapContent) → IsShaped p map before.memory → IsShaped p map after.memory) (room : vec_capacity before.stack ≤ vec_capacity after.stack) where
  made : (by : Taker) (one : Bool) → Tells s.outside (address_of s.program map) out after (step s (state_in before w)) → one ≡ counts s (state_in before w) → by ≡ taker_at (enters s (state_in before w)) before.copy.root
      → Rests s out after (state_in before w) → TellsStep s map (state_in before w) by one out before after
  made by one told counted taker rests = record {
    told = told;
    counted = counted;
    taker = taker;
    rests = rests;
    program = kept.0;
    handler = kept.1;
    shaped = shape s.program map here.at.shaped;
    few = few_by s (address_of s.program map) out before after (state_in before w) (step s (state_in before w)) refl (steps s here.proper here.bytes (state_in before w) here.stands) here.at.world told rests;
    room = room;
  }

  pub entered_told : (h : ℕ) → is_due (arrived s.outside w) ≡ true → before.handler ≡ Some h
      → (HasRoom 2 before → is_interrupted (waiting before) ≡ false → (o : Outside) (a : Object → ℕ) (w : World Byte) → IsWorld o world w → Tells o a out after (enter (program_of before.program.now) h (focus_in before.focus) (stack_of before) before.copy (memory_of before) w))
      → TellsStep s map (state_in before w) takers.Interrupt true out before after
  entered_told h due handler tells =
      let there : handler_in s.program ≡ Some h = sym here.handler ∙ handler in
      let e = enters_by s (state_in before w) true (Some h) due there in
      let outside : same_root before.copy.root Isr ≡ false = sym here.stands.inside ∙ (sym (arrived_inside s.outside w) ∙ due_outside (arrived s.outside w) due) in
      let free = not_interrupted s.program (interrupted_in before) before.copy false (waiting before) outside here.stands.stack in
      let space = here.room in
      let next = tells (omega (arith, space)) free s.outside (address_of s.program map) (arrived s.outside w) is in
      let told : Tells s.outside (address_of s.program map) out after (enter s.program h (focus_in before.focus) (stack_of before) before.copy (memory_of before) (arrived s.outside w)) =
      subst (λ p. Tells s.outside (address_of s.program map) out after (enter p h (focus_in before.focus) (stack_of before) before.copy (memory_of before) (arrived s.outside w))) (sym here.at.program) next in
      made takers.Interrupt true (subst (λ x. Tells s.outside (address_of s.program map) out after x) (sym (step_interrupts s (state_in before w) (Some h) due there)) told)
      (sym (counts_entered s (state_in before w) e)) (sym (ap (λ b. taker_at b before.copy.root) e))
      (rests_by s before after world w out is (λ idle. absurd (false≢true (sym (went_steps s.outside (address_of s.program map) out after _ _ told) ∙ idle))))

  module _ (by : Taker) (line : Option ℕ) (taker : by ≡ taker_at false before.copy.root) (counted : line ≡ counted_line (program_of before.program.now) before.copy (focus_in before.focus) (stack_of before)) where
    line_at : line ≡ counted_line s.program before.copy (focus_in before.focus) (stack_of before)
    line_at = counted ∙ ap (λ p. counted_line p before.copy (focus_in before.focus) (stack_of before)) (sym here.at.program)

    not_entered : enters s (state_in before w) ≡ false → Tells s.outside (address_of s.program map) out after (step s (state_in before w)) → (is_idle out ≡ true → after ≡ with_world before world) → TellsStep s map (state_in before w) by (is_some line) out before after
    not_entered e told rests =
        made by (is_some line) told (some_line line ∙ (ap is_some_line line_at ∙ sym (counts_acted s (state_in before w) e))) (taker ∙ sym (ap (λ b. taker_at b before.copy.root) e)) (rests_by s before after world w out is rests)

    pub acted_told : is_due (arrived s.outside w) ≡ false → Tells s.outside (address_of s.program map) out after (act s (focus_in before.focus) (stack_of before) before.copy (memory_of before) (arrived s.outside w)) → (is_idle out ≡ true → after ≡ with_world before world)
        → TellsStep s map (state_in before w) by (is_some line) out before after
    acted_told due told rests =
        not_entered (enters_by s (state_in before w) false (handler_in s.program) due refl) (subst (λ x. Tells s.outside (address_of s.program map) out after x) (sym (step_acts s (state_in before w) due)) told) rests

    pub refused_told : is_due (arrived s.outside w) ≡ true → before.handler ≡ None
        → Tells s.outside (address_of s.program map) out after (refused line (act s (focus_in before.focus) (stack_of before) before.copy (memory_of before) (arrived s.outside w))) → (is_idle out ≡ true → after ≡ with_world before world)
        → TellsStep s map (state_in before w) by (is_some line) out before after
    refused_told due none told rests =
        let there : handler_in s.program ≡ None = sym here.handler ∙ none in
        let x = act s (focus_in before.focus) (stack_of before) before.copy (memory_of before) (arrived s.outside w) in
        not_entered (enters_by s (state_in before w) true None due there)
        (subst (λ x. Tells s.outside (address_of s.program map) out after x) (sym (step_interrupts s (state_in before w) None due there)) (subst (λ l. Tells s.outside (address_of s.program map) out after (refused l x)) line_at told)) rests
