use Rattle.std.proofs.Common.{◌≡◌, length, map}
use Rattle.pic_world.specs.Registers.{bit_in}
use Rattle.pic_world.proofs.registers.find_bit.Given as goal

abbrev pub invariant-loop-table : goal.invariant-loop-table
invariant-loop-table l = bit_in (map (λ r. (r.0.now, r.1, r.2)) l.table) l.name ≡ bit_in (map (λ r. (r.0.now, r.1, r.2)) l.initial.table) l.name

abbrev pub decreases-loop-table : goal.decreases-loop-table
decreases-loop-table l = length l.table
