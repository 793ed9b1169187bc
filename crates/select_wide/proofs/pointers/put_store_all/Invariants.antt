use Rattle.std.proofs.Common.{◌≡◌, ◌++◌}
use Rattle.select_wide.specs.Pieces.{rising}
use Rattle.select_wide.specs.Pointers.{store_byte_code}
use Rattle.select_wide.proofs.pointers.put_store_all.Given as goal

abbrev pub invariant-loop-k : goal.invariant-loop-k
invariant-loop-k l = record { put : l.out.list.items ≡ l.initial.out.list.items ++ rising (store_byte_code l.from) l.k; name : l.out.name ≡ l.initial.out.name }
