-- How far a run is: main's steps, the runs of the handler that have begun, and the undefined step that it met.
use Rattle.std.specs.Prelude.{ℕ, ◌≡◌, ◌+◌, ◌<◌, ◌^◌, Option, Some, None}
use Rattle.src_machine.specs.declared.machine.SrcEnd.{SrcEnd}
use Rattle.src_machine.specs.declared.machine.SrcEnd.TheVariants.{Went, Undefined, Idle}
use Rattle.src_machine.specs.declared.machine.Taker.{Taker}
use Rattle.src_machine.specs.declared.machine.Taker.TheVariants as takers
use Rattle.src_machine.specs.declared.progress.Source.{Source}
use Rattle.src_machine.specs.declared.progress.Stop.{Stop}

abbrev pub main_steps_of : Source → ℕ
main_steps_of s = s.main_steps

abbrev pub runs_of : Source → ℕ
runs_of s = s.runs

abbrev pub undefined_at : Option Stop → Option SrcEnd
undefined_at None = None
undefined_at (Some stop) = Some (Undefined stop.kind stop.line)

-- the undefined step that a run met
abbrev pub undefined_in : Source → Option SrcEnd
undefined_in s = undefined_at s.stop

-- the undefined step that an answer tells
abbrev pub undefined_by : SrcEnd → Option SrcEnd
undefined_by (Went event) = None
undefined_by (Undefined kind line) = Some (Undefined kind line)
undefined_by Idle = None

-- how many steps an answer says were taken
abbrev pub taken_by : SrcEnd → ℕ
taken_by (Went event) = 1
taken_by (Undefined kind line) = 0
taken_by Idle = 0

-- how many steps of main, and how many begins of a run of the handler, a step of this taker is
abbrev pub main_by : Taker → ℕ
main_by takers.Main = 1
main_by takers.Handler = 0
main_by takers.Interrupt = 0

abbrev pub run_by : Taker → ℕ
run_by takers.Main = 0
run_by takers.Handler = 0
run_by takers.Interrupt = 1

-- what a source has noted of a step that ended so
abbrev pub Notes : SrcEnd → Taker → Source → Source → Type 0
Notes (Went event) taker old new =
    (main_steps_of old < 2 ^ 60 → main_steps_of new ≡ main_steps_of old + main_by taker) × (runs_of old < 2 ^ 60 → runs_of new ≡ runs_of old + run_by taker) × (undefined_in new ≡ undefined_in old)
Notes (Undefined kind line) taker old new = undefined_in new ≡ Some (Undefined kind line)
Notes Idle taker old new = new ≡ old
