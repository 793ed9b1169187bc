use Rattle.std.proofs.Common.{◌≡◌, ◌++◌}
use Rattle.select_wide.specs.Comparisons.{differences_code}
use Rattle.select_wide.proofs.comparisons.put_differences.Given as goal

abbrev pub invariant-loop-k : goal.invariant-loop-k
invariant-loop-k l = record { put : l.out.list.items ≡ l.initial.out.list.items ++ differences_code l.o.to l.o.left l.o.right l.k; name : l.out.name ≡ l.initial.out.name }
