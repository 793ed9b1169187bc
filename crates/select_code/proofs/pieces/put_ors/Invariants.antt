use Rattle.std.proofs.Common.{◌≡◌, ◌++◌}
use Rattle.select_code.specs.Pieces.{ors_code}
use Rattle.select_code.proofs.pieces.put_ors.Given as goal

abbrev pub invariant-loop-k : goal.invariant-loop-k
invariant-loop-k l = (l.out.list.items ≡ l.initial.out.list.items ++ ors_code l.first l.k) × (l.out.name ≡ l.initial.out.name)
