use Rattle.std.proofs.Common.{◌≡◌, ◌++◌}
use Rattle.select_wide.specs.Pieces.{rising}
use Rattle.select_wide.specs.Pointers.{load_byte_code}
use Rattle.select_wide.proofs.pointers.put_load.Given as goal

abbrev pub invariant-loop-k : goal.invariant-loop-k
invariant-loop-k l = record { put : l.out.list.items ≡ l.initial.out.list.items ++ rising (load_byte_code l.to) l.k; name : l.out.name ≡ l.initial.out.name }
