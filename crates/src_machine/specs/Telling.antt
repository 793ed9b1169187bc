-- What a micro-step of the code tells, where it makes an event or changes the world.
use Rattle.std.specs.Prelude.{ℕ, ◌≡◌, Bool, true, false, List, [], ◌∷◌, Option, Some, None, option_map}
use Rattle.pic_world.specs.World.{Outside}
use Rattle.src_machine.specs.Seen.{state_in}
use Rattle.src_machine.specs.declared.machine.Machine.{Machine}
use Rattle.src_machine.specs.declared.machine.Outcome.{Outcome}
use Rattle.src_machine.specs.declared.machine.Outcome.TheVariants.{Went, Undefined, Idle, Lost}
use Rattle.src_memory.specs.Seen.{IsWorld}
use Rattle.src_memory.specs.Shown.{shown}
use Rattle.src_rules.specs.State as rules
use Rattle.src_values.specs.declared.control.Pending.{Pending}
use Rattle.src_values.specs.declared.control.Pending.TheVariants as frames
use Rattle.src_values.specs.declared.objects.Object.{Object}

-- The code is where the definition is, with the event, shown, that it makes; or it tells the same kind and line.
abbrev pub Tells : Outside → (Object → ℕ) → Outcome → Machine → rules.Outcome → Type 0
Tells o address (Went event) m (rules.Went t happening) = (t ≡ state_in m t.world) × IsWorld o m.world t.world × (event ≡ option_map (shown address) happening)
Tells o address (Went event) m (rules.Undefined kind line) = ⊥
Tells o address (Went event) m rules.Idle = ⊥
Tells o address (Went event) m rules.Lost = ⊥
Tells o address (Undefined kind line) m (rules.Went t happening) = ⊥
Tells o address (Undefined kind line) m (rules.Undefined other at) = (kind ≡ other) × (line ≡ at)
Tells o address (Undefined kind line) m rules.Idle = ⊥
Tells o address (Undefined kind line) m rules.Lost = ⊥
Tells o address Idle m (rules.Went t happening) = ⊥
Tells o address Idle m (rules.Undefined kind line) = ⊥
Tells o address Idle m rules.Idle = Unit {0}
Tells o address Idle m rules.Lost = ⊥
Tells o address Lost m (rules.Went t happening) = ⊥
Tells o address Lost m (rules.Undefined kind line) = ⊥
Tells o address Lost m rules.Idle = ⊥
Tells o address Lost m rules.Lost = Unit {0}

-- it makes no event, and isn't the end
abbrev pub is_quiet : Outcome → Bool
is_quiet (Went None) = true
is_quiet (Went (Some event)) = false
is_quiet (Undefined kind line) = true
is_quiet Idle = false
is_quiet Lost = true

-- there is no step to take
abbrev pub is_idle : Outcome → Bool
is_idle (Went event) = false
is_idle (Undefined kind line) = false
is_idle Idle = true
is_idle Lost = false

-- ---- stacks
-- the stack from which the top was taken
abbrev pub with_taken : Option Pending → List Pending → List Pending
with_taken None k = []
with_taken (Some top) k = top ∷ k

-- the handler is under way
abbrev pub is_interrupted : List Pending → Bool
is_interrupted [] = false
is_interrupted (frames.In e got ∷ k) = is_interrupted k
is_interrupted (frames.Value v ∷ k) = is_interrupted k
is_interrupted (frames.To place ∷ k) = is_interrupted k
is_interrupted (frames.Doing code stage ∷ k) = is_interrupted k
is_interrupted (frames.Before ss at ∷ k) = is_interrupted k
is_interrupted (frames.Ended ∷ k) = is_interrupted k
is_interrupted (frames.Returns copy ∷ k) = is_interrupted k
is_interrupted (frames.Resumes copy ∷ k) = true
