use Rattle.std.proofs.Common.{◌-◌}
use Rattle.src_machine.proofs.Going.{GoesOn}
use Rattle.src_machine.proofs.machine.Machine.step.Given as goal

abbrev pub invariant-loop-done : goal.invariant-loop-done
invariant-loop-done l = GoesOn l.script l.initial.self l.self l._done

abbrev pub decreases-loop-done : goal.decreases-loop-done
decreases-loop-done l = 340282366920938463463374607431768211455 - l._done
