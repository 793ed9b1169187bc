-- The marks of a run of byte code: calls, leaves but main's own, repeats of loops, and entries of the handler. No access to an object or
-- to a temporary byte is one.
use Rattle.std.specs.Prelude.{ℕ, zero, suc, ◌+◌, if◌then◌else◌, List, [], ◌∷◌}
use Rattle.pic_world.specs.World.{Happening, arrived, is_due}
use Rattle.run_links.specs.Runs.{Run}
use Rattle.core_code.specs.Bytes.{Held}
use Rattle.core_code.specs.Cost.{least_leave}
use Rattle.core_code.specs.Machine.{Program, Setting, Machine, Task, Do, Waiting, core_moment}
use Rattle.core_code.specs.Runs.{trace_at, goes_at, is_still_at, most_by}
use Rattle.core_code.specs.Tree as tree
use Rattle.core_code.specs.Tree.{Tree}

-- an operation, where this waits behind the code
abbrev pub operation_marks : Tree → List Waiting → ℕ
operation_marks (tree.Call copy) s = 1
operation_marks tree.Leave s = least_leave s
operation_marks (tree.Again loops) s = 1
operation_marks _ s = 0

-- where no code is left a loop repeats
abbrev pub task_marks : List Task → List Waiting → ℕ
task_marks [] s = 1
task_marks (Do before t ∷ c) s = operation_marks t s
task_marks _ s = 0

unfoldable pub step_marks : Setting → Machine → ℕ
step_marks g t = if is_due (arrived g.outside t.world) then 1 else task_marks t.code t.stack

-- of the first n steps together
unfoldable pub marks_by : Setting → ℕ → ℕ
marks_by g zero = 0
marks_by g (suc n) = marks_by g n + step_marks g (core_moment g n)

-- The run of byte code, where marks alone are sure to take an instruction.
abbrev pub marked_run : Setting → Run (Happening Held)
marked_run g = record { trace = trace_at g; goes = goes_at g; rests = is_still_at g; most = most_by g; least = marks_by g }

-- The same code where an access to a parameter or a local isn't sure to take an instruction.
abbrev pub uncounted : Program → Program
uncounted q = record q { variable_bytes = λ copy. 0 }

abbrev pub uncounted_in : Setting → Setting
uncounted_in g = record { program = uncounted g.program; outside = g.outside }
