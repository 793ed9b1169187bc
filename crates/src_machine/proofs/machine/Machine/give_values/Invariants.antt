use Rattle.std.proofs.Common.{◌≡◌, ◌+◌}
use Rattle.src_machine.proofs.Passing.{Gives}
use Rattle.src_machine.proofs.machine.Machine.give_values.Given as goal

abbrev pub invariant-loop-at : goal.invariant-loop-at
invariant-loop-at l =
    (l.number + l.first ≡ l.at)
    × (l.self ≡ record l.initial.self { memory = l.self.memory })
    × Gives l.initial.self.stack.items l.copy l.first l.number l.at l.initial.self.memory l.self.memory
