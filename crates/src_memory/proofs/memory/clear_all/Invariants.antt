use Rattle.std.proofs.Common.{◌≡◌, ℕ, nat_lt, if◌then◌else◌}
use Rattle.src_memory.specs.Cells.{cell_at, cleared_cell}
use Rattle.src_memory.proofs.memory.clear_all.Given as goal

abbrev pub invariant-loop-number : goal.invariant-loop-number
invariant-loop-number l = (k : ℕ) → cell_at l.cells k ≡ if nat_lt k l.number then cleared_cell (cell_at l.initial.cells k) else cell_at l.initial.cells k
