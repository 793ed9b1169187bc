use Rattle.std.proofs.Common.{◌≡◌, ◌++◌}
use Rattle.select_wide.specs.Shifts.{bit_shifts_code}
use Rattle.select_wide.proofs.shifts.put_bit_shifts.Given as goal

abbrev pub invariant-loop-bit : goal.invariant-loop-bit
invariant-loop-bit l = record { put : l.out.list.items ≡ l.initial.out.list.items ++ bit_shifts_code l.way l.at l.width l.bytes l.bit; name : l.out.name ≡ l.initial.out.name }
