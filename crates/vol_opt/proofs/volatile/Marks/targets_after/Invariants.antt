use Rattle.std.proofs.Common.{◌≡◌, map, take}
use Rattle.vol_opt.specs.Marks.{type_marked}
use Rattle.vol_opt.proofs.volatile.Marks.targets_after.Given as goal

abbrev pub invariant-loop-target : goal.invariant-loop-target
invariant-loop-target l = l.marks.items ≡ map (type_marked l.self.targets.items l.self.structures.items) (take l.target-index l.targets)
