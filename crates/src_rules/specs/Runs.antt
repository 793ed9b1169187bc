-- Runs: by micro-steps from any state, and from the start of a program by the steps that count.
use Rattle.std.specs.Prelude.{ℕ, zero, suc, ◌+◌, Bool, true, false, not, ◌&&◌, ◌||◌, if◌then◌else◌, Option, Some, None}
use Rattle.pic_world.specs.declared.Root.{Root}
use Rattle.pic_world.specs.declared.Root.TheVariants.{Main, Isr}
use Rattle.src_rules.specs.State.{State, Outcome, Went, Undefined, Idle}
use Rattle.src_rules.specs.Step.{step, counts, enters, start}
use Rattle.src_rules.specs.Weights.{weight}
use Rattle.src_values.specs.Memory.{Setting}
use Rattle.src_values.specs.declared.objects.Undef.{Undef}

-- ---- by micro-steps
abbrev pub gone : State → Outcome → State
gone t (Went u event) = u
gone t _ = t

-- the state so many micro-steps behind another one
unfoldable pub run : Setting → ℕ → State → State
run s zero t = t
run s (suc n) t = let u = run s n t in gone u (step s u)

-- the state after so many micro-steps of a program
abbrev pub moment : Setting → ℕ → State
moment s n = run s n (start s)

abbrev pub is_taken : Outcome → Bool
is_taken (Went u event) = true
is_taken _ = false

abbrev pub one_if : Bool → ℕ
one_if true = 1
one_if false = 0

-- how many steps the first micro-steps hold
unfoldable pub steps_by : Setting → ℕ → ℕ
steps_by s zero = 0
steps_by s (suc n) = let t = moment s n in steps_by s n + one_if (counts s t && is_taken (step s t))

-- ---- by steps
-- the next micro-step counts, or there is none to take
abbrev pub is_ready : Setting → State → Bool
is_ready s t = counts s t || not (is_taken (step s t))

-- The state in which the next step is taken: behind the micro-steps that don't count, so many at most.
unfoldable pub ready_within : ℕ → Setting → State → State
ready_within zero s t = t
ready_within (suc n) s t = if is_ready s t then t else ready_within n s (gone t (step s t))

unfoldable pub ready : Setting → State → State
ready s t = ready_within (weight s t) s t

-- the next step
unfoldable pub take : Setting → State → Outcome
take s t = step s (ready s t)

-- the state after so many steps of a program; it stays where there is none to take
unfoldable pub after : Setting → ℕ → State
after s zero = start s
after s (suc n) = let t = after s n in gone t (take s t)

-- ---- what is told of the step behind so many
-- an undefined step: why, and the line
pub record Fault : Type 0 where
  pub kind : Undef
  pub line : ℕ

abbrev pub fault_of : Outcome → Option Fault
fault_of (Undefined kind line) = Some (record { kind = kind; line = line })
fault_of _ = None

unfoldable pub fault_after : Setting → ℕ → Option Fault
fault_after s n = fault_of (take s (after s n))

abbrev pub is_idle : Outcome → Bool
is_idle Idle = true
is_idle _ = false

unfoldable pub is_idle_after : Setting → ℕ → Bool
is_idle_after s n = is_idle (take s (after s n))

-- ---- how many steps main has taken, and how many runs of the handler have begun
abbrev pub is_main : Root → Bool
is_main Main = true
is_main Isr = false

-- the step that is taken next is main's, or the one by which the handler is entered
abbrev pub by_main : Setting → State → Bool
by_main s t = not (enters s t) && is_main t.copy.root

abbrev pub main_step : Setting → State → ℕ
main_step s t = one_if (is_taken (step s t) && by_main s t)

abbrev pub begun_run : Setting → State → ℕ
begun_run s t = one_if (is_taken (step s t) && enters s t)

unfoldable pub main_steps_after : Setting → ℕ → ℕ
main_steps_after s zero = 0
main_steps_after s (suc n) = main_steps_after s n + main_step s (ready s (after s n))

unfoldable pub runs_after : Setting → ℕ → ℕ
runs_after s zero = 0
runs_after s (suc n) = runs_after s n + begun_run s (ready s (after s n))
