use Rattle.std.proofs.Common.{◌≡◌, ◌++◌}
use Rattle.select_wide.specs.Single.{complement_code}
use Rattle.select_wide.proofs.single.put_complement.Given as goal

abbrev pub invariant-loop-k : goal.invariant-loop-k
invariant-loop-k l = record { put : l.out.list.items ≡ l.initial.out.list.items ++ complement_code l.at l.k; name : l.out.name ≡ l.initial.out.name }
