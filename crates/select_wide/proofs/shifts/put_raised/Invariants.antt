use Rattle.std.proofs.Common.{◌≡◌, ◌++◌}
use Rattle.select_wide.specs.Pieces.{rising}
use Rattle.select_code.specs.Pieces.{byte_behind, copy_code}
use Rattle.std.specs.Prelude.{◌-◌}
use Rattle.select_wide.proofs.shifts.put_raised.Given as goal

abbrev pub invariant-loop-k : goal.invariant-loop-k
invariant-loop-k l = record { put : l.out.list.items ≡ l.initial.out.list.items ++ rising (λ k. copy_code (byte_behind l.at (l.width - 1 - k)) (byte_behind l.at (l.width - 1 - k - l.bytes))) l.k; name : l.out.name ≡ l.initial.out.name }
