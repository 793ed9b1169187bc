use Rattle.std.proofs.Common.{◌≡◌, ◌++◌}
use Rattle.select_wide.specs.Shifts.{bit_up_code}
use Rattle.select_wide.proofs.shifts.put_bit_up.Given as goal

abbrev pub invariant-loop-k : goal.invariant-loop-k
invariant-loop-k l = record { put : l.out.list.items ≡ l.initial.out.list.items ++ bit_up_code l.at l.k; name : l.out.name ≡ l.initial.out.name }
