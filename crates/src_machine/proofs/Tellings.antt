-- A micro-step that makes no event and leaves the world alone, beside those that don't.
use Rattle.std.proofs.Common.{◌≡◌, ℕ, true, false, [], Option, Some, None, refl, sym, subst, ap}
use Rattle.pic_world.specs.World.{World, Outside, Ended, noted}
use Rattle.pic_world.specs.declared.Event.TheVariants.{End}
use Rattle.src_machine.specs.Seen.{silent, waiting, interrupted_in, stack_of, memory_of}
use Rattle.src_machine.specs.Telling.{Tells, is_quiet, is_idle}
use Rattle.src_machine.specs.declared.machine.Machine.{Machine}
use Rattle.src_machine.specs.declared.machine.Outcome.{Outcome}
use Rattle.src_machine.specs.declared.machine.Outcome.TheVariants.{Went, Undefined, Idle, Lost}
use Rattle.src_memory.specs.Seen.{IsWorld}
use Rattle.src_memory.specs.Shown.{shown}
use Rattle.src_memory.specs.declared.world.World.{World as CodeWorld}
use Rattle.src_rules.specs.State as rules
use Rattle.src_rules.specs.State.{state}
use Rattle.src_rules.specs.Statements.{proceed}
use Rattle.src_rules.specs.Step.{refused}
use Rattle.src_values.specs.Control as control
use Rattle.src_values.specs.Seen.{frames_in}
use Rattle.src_values.specs.declared.control.Focus.TheVariants.{Over}
use Rattle.src_values.specs.declared.objects.Byte.{Byte}
use Rattle.src_values.specs.declared.objects.Object.{Object}
use Rattle.src_values.specs.declared.objects.Undef.TheVariants.{Handler}

-- such a micro-step isn't the end
pub quiet_steps : (r : Outcome) → is_quiet r ≡ true → is_idle r ≡ false
quiet_steps (Went event) h = refl
quiet_steps (Undefined kind line) h = refl
quiet_steps Idle h = absurd (cc)
quiet_steps Lost h = refl

tells_itself : (o : Outside) (a : Object → ℕ) (r : Outcome) (m : Machine) (w : World Byte) → IsWorld o m.world w → is_quiet r ≡ true → Tells o a r m (silent r m w)
tells_itself o a (Went None) m w is quiet = (refl, is, refl)
tells_itself o a (Went (Some event)) m w is quiet = absurd (cc)
tells_itself o a (Undefined kind line) m w is quiet = (refl, refl)
tells_itself o a Idle m w is quiet = absurd (cc)
tells_itself o a Lost m w is quiet = record {}

pub tells_silent : (o : Outside) (a : Object → ℕ) (r : Outcome) (old new : Machine) (w : World Byte) (x : rules.Outcome) → new.world ≡ old.world → IsWorld o old.world w → is_quiet r ≡ true → silent r new w ≡ x → Tells o a r new x
tells_silent o a r old new w x same is quiet h = subst (λ y. Tells o a r new y) h (tells_itself o a r new w (subst (λ c. IsWorld o c w) (sym same) is) quiet)

shown_ended : (a : Object → ℕ) → End ≡ shown a Ended
unfolding shown
shown_ended a = refl

-- main has ended
pub ended_tells : (o : Outside) (a : Object → ℕ) (old : Machine) (world : CodeWorld) (w : World Byte) → waiting old ≡ [] → IsWorld o world (noted Ended w)
    → Tells o a (Went (Some End)) (record old { focus = Over; world = world }) (proceed (stack_of old) old.copy (memory_of old) w)
ended_tells o a old world w h is =
    subst (λ k. Tells o a (Went (Some End)) (record old { focus = Over; world = world }) (proceed (frames_in (interrupted_in old) k) old.copy (memory_of old) w)) (sym h)
    (ap (λ k. state old.copy control.Over (frames_in (interrupted_in old) k) (memory_of old) (noted Ended w)) (sym h), is, ap Some (shown_ended a))

-- ---- without a handler
pub refuses_undefined : (o : Outside) (a : Object → ℕ) (kind : _) (at : ℕ) (line : Option ℕ) (m : Machine) (x : rules.Outcome) → Tells o a (Undefined kind at) m x → Tells o a (Undefined kind at) m (refused line x)
refuses_undefined o a kind at line m (rules.Went t happening) h = absurd h
refuses_undefined o a kind at line m (rules.Undefined other place) h = h
refuses_undefined o a kind at line m rules.Idle h = absurd h
refuses_undefined o a kind at line m rules.Lost h = absurd h

pub refuses_lost : (o : Outside) (a : Object → ℕ) (line : Option ℕ) (m : Machine) (x : rules.Outcome) → Tells o a Lost m x → Tells o a Lost m (refused line x)
refuses_lost o a line m (rules.Went t happening) h = absurd h
refuses_lost o a line m (rules.Undefined other place) h = absurd h
refuses_lost o a line m rules.Idle h = absurd h
refuses_lost o a line m rules.Lost h = h

pub refuses_went : (o : Outside) (a : Object → ℕ) (event : _) (line : ℕ) (m : Machine) (x : rules.Outcome) → Tells o a (Went event) m x → Tells o a (Undefined Handler line) m (refused (Some line) x)
refuses_went o a event line m (rules.Went t happening) h = (refl, refl)
refuses_went o a event line m (rules.Undefined other place) h = absurd h
refuses_went o a event line m rules.Idle h = absurd h
refuses_went o a event line m rules.Lost h = absurd h

pub refuses_went_on : (o : Outside) (a : Object → ℕ) (event : _) (m : Machine) (x : rules.Outcome) → Tells o a (Went event) m x → Tells o a (Went event) m (refused None x)
refuses_went_on o a event m (rules.Went t happening) h = h
refuses_went_on o a event m (rules.Undefined other place) h = absurd h
refuses_went_on o a event m rules.Idle h = absurd h
refuses_went_on o a event m rules.Lost h = absurd h

pub refuses_idle : (o : Outside) (a : Object → ℕ) (line : ℕ) (m : Machine) (x : rules.Outcome) → Tells o a Idle m x → Tells o a (Undefined Handler line) m (refused (Some line) x)
refuses_idle o a line m (rules.Went t happening) h = absurd h
refuses_idle o a line m (rules.Undefined other place) h = absurd h
refuses_idle o a line m rules.Idle h = (refl, refl)
refuses_idle o a line m rules.Lost h = absurd h

pub refuses_idle_on : (o : Outside) (a : Object → ℕ) (m : Machine) (x : rules.Outcome) → Tells o a Idle m x → Tells o a Idle m (refused None x)
refuses_idle_on o a m (rules.Went t happening) h = absurd h
refuses_idle_on o a m (rules.Undefined other place) h = absurd h
refuses_idle_on o a m rules.Idle h = h
refuses_idle_on o a m rules.Lost h = absurd h

pub ruleset refuses = (refuses_undefined, refuses_lost, refuses_went, refuses_went_on, refuses_idle, refuses_idle_on)
