use Rattle.std.proofs.Common.{◌≡◌, take}
use Rattle.core_code.specs.Tree.{trees_of}
use Rattle.core_code.specs.View.{trees_in}
use Rattle.select_code.specs.Sized.{are_byte_sized}
use Rattle.select_code.proofs.sized.+sized.Given as goal

abbrev pub invariant-are_byte_sized-loop-part : goal.invariant-are_byte_sized-loop-part
invariant-are_byte_sized-loop-part l = l.all ≡ are_byte_sized l.loops (trees_of (trees_in (take l.part-index l.parts)))
