use Rattle.std.proofs.Common.{◌≡◌, ◌≤◌}
use Rattle.std.specs.Vec.{vec_len, vec_capacity}
use Rattle.src_machine.specs.Seen.{stack_of}
use Rattle.src_rules.specs.Statements.{unwound}
use Rattle.src_machine.proofs.machine.Machine.unwind.Given as goal

abbrev pub invariant-loop-top : goal.invariant-loop-top
invariant-loop-top l =
    (unwound (stack_of l.self) ≡ unwound (stack_of l.initial.self))
    × (l.self ≡ record l.initial.self { stack = l.self.stack })
    × (vec_len l.self.stack ≤ vec_len l.initial.self.stack)
    × (vec_capacity l.self.stack ≡ vec_capacity l.initial.self.stack)

abbrev pub decreases-loop-top : goal.decreases-loop-top
decreases-loop-top l = vec_len l.self.stack
