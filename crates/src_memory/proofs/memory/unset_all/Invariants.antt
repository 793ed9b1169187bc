use Rattle.std.proofs.Common.{◌≡◌, ◌++◌, take, drop, map}
use Rattle.src_memory.specs.Cells.{unset}
use Rattle.src_memory.proofs.memory.unset_all.Given as goal

abbrev pub invariant-loop-k : goal.invariant-loop-k
invariant-loop-k l = l.bytes.items ≡ map unset (take l.k l.initial.bytes.items) ++ drop l.k l.initial.bytes.items
