use Rattle.std.proofs.Common.{◌≡◌, map, take}
use Rattle.c_typed.specs.Views.{structure_of}
use Rattle.vol_opt.specs.Kept.{has_member}
use Rattle.vol_opt.specs.Marks.{type_marked}
use Rattle.vol_opt.proofs.volatile.Marks.structures_after.Given as goal

abbrev pub invariant-loop-structure : goal.invariant-loop-structure
invariant-loop-structure l = l.marks.items ≡ map (has_member (type_marked l.self.targets.items l.self.structures.items)) (map structure_of (take l.structure-index l.structures))
