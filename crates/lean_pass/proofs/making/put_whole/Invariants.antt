use Rattle.std.proofs.Common.{◌≡◌, ◌++◌, true, length}
use Rattle.sym_code.specs.WellFormed.{are_well_formed}
use Rattle.lean_pass.proofs.making.put_whole.Given as goal

abbrev pub invariant-loop-sym : goal.invariant-loop-sym
invariant-loop-sym l = (are_well_formed l.left ≡ true) × (l.out.name ≡ l.fn.out.name) × (l.out.list.items ++ l.left ≡ l.list)

abbrev pub decreases-loop-sym : goal.decreases-loop-sym
decreases-loop-sym l = length l.left
