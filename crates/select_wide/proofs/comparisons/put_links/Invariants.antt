use Rattle.std.proofs.Common.{◌≡◌, ◌++◌}
use Rattle.select_wide.specs.Comparisons.{links_code}
use Rattle.select_wide.proofs.comparisons.put_links.Given as goal

abbrev pub invariant-loop-k : goal.invariant-loop-k
invariant-loop-k l = record { put : l.out.list.items ≡ l.initial.out.list.items ++ links_code l.left l.right l.k; name : l.out.name ≡ l.initial.out.name }
