use Rattle.std.proofs.Common.{◌≡◌, ◌++◌}
use Rattle.select_wide.specs.Moves.{clears_code}
use Rattle.select_wide.proofs.moves.put_clears.Given as goal

abbrev pub invariant-loop-k : goal.invariant-loop-k
invariant-loop-k l = record { put : l.out.list.items ≡ l.initial.out.list.items ++ clears_code l.to l.k; name : l.out.name ≡ l.initial.out.name }
