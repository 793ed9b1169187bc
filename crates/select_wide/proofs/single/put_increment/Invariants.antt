use Rattle.std.proofs.Common.{◌≡◌, ◌++◌}
use Rattle.select_wide.specs.Single.{increment_code}
use Rattle.select_wide.proofs.single.put_increment.Given as goal

abbrev pub invariant-loop-k : goal.invariant-loop-k
invariant-loop-k l = record { put : l.out.list.items ≡ l.initial.out.list.items ++ increment_code l.at l.k; name : l.out.name ≡ l.initial.out.name }
