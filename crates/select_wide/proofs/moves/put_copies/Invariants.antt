use Rattle.std.proofs.Common.{◌≡◌, ◌++◌}
use Rattle.select_wide.specs.Moves.{copies_code}
use Rattle.select_wide.proofs.moves.put_copies.Given as goal

abbrev pub invariant-loop-k : goal.invariant-loop-k
invariant-loop-k l = record { put : l.out.list.items ≡ l.initial.out.list.items ++ copies_code l.to l.from l.k; name : l.out.name ≡ l.initial.out.name }
