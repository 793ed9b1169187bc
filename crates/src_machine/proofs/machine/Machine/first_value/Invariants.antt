use Rattle.std.proofs.Common.{◌≡◌, ◌≤◌, true, length, drop}
use Rattle.src_machine.specs.Passing.{are_values}
use Rattle.src_machine.proofs.machine.Machine.first_value.Given as goal

abbrev pub invariant-loop-first : goal.invariant-loop-first
invariant-loop-first l = (l.first ≤ length l.self.stack.items) × (are_values (drop l.first l.self.stack.items) ≡ true)

abbrev pub decreases-loop-first : goal.decreases-loop-first
decreases-loop-first l = l.first
