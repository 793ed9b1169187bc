use Rattle.std.proofs.Common.{◌≡◌, ◌≤◌, length, reverse}
use Rattle.src_machine.specs.Seen.{interrupted_in, stack_of}
use Rattle.src_values.specs.Control.{callers}
use Rattle.src_values.specs.Objects.{is_among}
use Rattle.src_values.specs.Seen.{frames_in}
use Rattle.src_machine.proofs.machine.Machine.is_waiting.Given as goal

abbrev pub invariant-loop-frames : goal.invariant-loop-frames
invariant-loop-frames l = (length l.frames ≤ length l.self.stack.items) × (is_among (callers (frames_in (interrupted_in l.self) (reverse l.frames))) l.copy ≡ is_among (callers (stack_of l.self)) l.copy)

abbrev pub decreases-loop-frames : goal.decreases-loop-frames
decreases-loop-frames l = length l.frames
