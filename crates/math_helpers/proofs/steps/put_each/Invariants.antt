use Rattle.std.proofs.Common.{◌≡◌, ◌++◌}
use Rattle.math_helpers.specs.Pieces.{each_byte}
use Rattle.math_helpers.proofs.steps.put_each.Given as goal

abbrev pub invariant-loop-k : goal.invariant-loop-k
invariant-loop-k l = record { code : l.block.list.items ≡ l.initial.block.list.items ++ each_byte l.layout l.step l.k; name : l.block.name ≡ l.initial.block.name }
