use Rattle.std.proofs.Common.{◌≡◌, length, map, []}
use Rattle.pic_world.specs.Registers.{name_in}
use Rattle.pic_world.proofs.registers.find_name.Given as goal

abbrev pub invariant-loop-table : goal.invariant-loop-table
invariant-loop-table l = name_in (map (λ r. (r.0.now, r.1, [])) l.table) l.address ≡ name_in (map (λ r. (r.0.now, r.1, [])) l.initial.table) l.address

abbrev pub decreases-loop-table : goal.decreases-loop-table
decreases-loop-table l = length l.table
