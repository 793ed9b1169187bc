use Rattle.std.proofs.Common.{◌≡◌, take}
use Rattle.core_code.specs.View.{trees_in}
use Rattle.core_code.specs.Operands.{number_left}
use Rattle.select_wide.proofs.selection.number_left.Given as goal

abbrev pub invariant-loop-part : goal.invariant-loop-part
invariant-loop-part l = l.left ≡ number_left (trees_in (take l.part-index l.before)) l.byte
