use Rattle.code_place.specs.Layouts.{layout_of}
use Rattle.lean_pass.proofs.Grounds.{owners_more, length_more}
use Rattle.lean_pass.proofs.owners.owners_of.Goals as goal

pub loop-number-preserved : goal.loop-number-preserved
loop-number-preserved c = (
  owners_more (layout_of c.args.placed.now) c.loop-number.owners.items c.put_owner.new.owners.items c.kind_of.result c.loop-number.number c.in_ok-put_owner.ensures c.loop-number.invariant.1 c.kind_of.ensures c.loop-number.invariant.0,
  length_more c.loop-number.owners.items c.put_owner.new.owners.items c.kind_of.result c.loop-number.number c.in_ok-put_owner.ensures c.loop-number.invariant.1,
)
