use Rattle.std.proofs.Common.{◌≡◌, take}
use Rattle.core_code.specs.View.{trees_in}
use Rattle.narrow_pass.proofs.copying.+copying.Given as goal

abbrev pub invariant-copied_parts-loop-k : goal.invariant-copied_parts-loop-k
invariant-copied_parts-loop-k l = trees_in l.made.items ≡ trees_in (take l.k l.parts)
