use Rattle.std.proofs.Common.{◌≡◌, drop}
use Rattle.vol_opt.specs.Marks.{type_marked}
use Rattle.vol_opt.proofs.Rows.{any_in}
use Rattle.vol_opt.proofs.volatile.Marks.has_marked_member.Given as goal

abbrev pub invariant-loop-member : goal.invariant-loop-member
invariant-loop-member l = any_in (type_marked l.self.targets.items l.self.structures.items) (drop l.member-index l.members) ≡ any_in (type_marked l.self.targets.items l.self.structures.items) l.members
