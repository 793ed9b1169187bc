use Rattle.std.proofs.Common.{◌≡◌}
use Rattle.std.specs.Vec.{vec_len, vec_capacity}
use Rattle.pic_world.specs.World.{World}
use Rattle.src_machine.specs.Seen.{stack_of, memory_of}
use Rattle.src_rules.specs.Statements.{break_at}
use Rattle.src_values.specs.declared.objects.Byte.{Byte}
use Rattle.src_machine.proofs.machine.Machine.break_off.Given as goal

abbrev pub invariant-loop-top : goal.invariant-loop-top
invariant-loop-top l =
    ((w : World Byte) → break_at (stack_of l.self) l.initial.self.copy (memory_of l.initial.self) w ≡ break_at (stack_of l.initial.self) l.initial.self.copy (memory_of l.initial.self) w)
    × (l.self ≡ record l.initial.self { stack = l.self.stack })
    × (vec_capacity l.self.stack ≡ vec_capacity l.initial.self.stack)

abbrev pub decreases-loop-top : goal.decreases-loop-top
decreases-loop-top l = vec_len l.self.stack
