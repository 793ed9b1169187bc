use Rattle.c_typed.specs.Views.{structure_of}
use Rattle.vol_opt.specs.Kept.{has_member}
use Rattle.vol_opt.specs.Marks.{type_marked}
use Rattle.vol_opt.proofs.Rows.{pushed}
use Rattle.vol_opt.proofs.volatile.Marks.structures_after.Goals as goal

pub loop-structure-preserved : goal.loop-structure-preserved
loop-structure-preserved c =
    pushed (has_member (type_marked c.args.self.now.targets.items c.args.self.now.structures.items)) structure_of c.args.structures.now c.loop-structure.structure-index c.structure-item.result c.has_marked_member.result c.loop-structure.marks.items c.push.new.self.items
    c.loop-structure-test.true c.structure-item.is (rw c.deref.ensures.value at c.has_marked_member.ensures) c.loop-structure.invariant c.in_ok-push.ensures.items
