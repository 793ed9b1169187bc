use Rattle.std.proofs.Common.{◌+◌, ◌*◌, length}
use Rattle.c_pre.proofs.Looping.{Keeps}
use Rattle.c_pre.proofs.replace.replace.Given as goal

abbrev pub invariant-loop-frame : goal.invariant-loop-frame
invariant-loop-frame l = Keeps l.lists l.line l.tokens l.fn.output l.output l.busy l.stack.items

abbrev pub decreases-loop-frame : goal.decreases-loop-frame
decreases-loop-frame l = 2 * l.output.room + length l.stack.items
