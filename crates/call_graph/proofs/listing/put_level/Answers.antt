use Rattle.std.proofs.Common.{ap, ◌∙◌, arith}
use Rattle.std.specs.Global.{Global}
use Rattle.std.specs.declared.vec.Vec.{Vec}
use Rattle.call_graph.specs.declared.types.FnCopy.{FnCopy}
use Rattle.call_graph.proofs.Additions.{level_none, level_push, level_skip, level_all}
use Rattle.call_graph.proofs.listing.put_level.Goals as goal
use Rattle.call_graph.proofs.listing.put_level.Goals.{then-is_level+in_ok-push, else-is_level}

pub loop-number-init : goal.loop-number-init
loop-number-init c = level_none c.args.functions c.args.root c.args.levels.now c.args.level c.args.list.now.items

pub loop-number-preserved : goal.loop-number-preserved
loop-number-preserved c = elim c.if-is_level.branch [
  | then-is_level+in_ok-push w ↦ level_push c.args.functions c.args.root c.args.levels.now c.args.level c.loop-number.number c.args.list.now.items c.loop-number.list.items c.if-is_level.list.items w.id_of.result c.loop-number.invariant w.if-is_level.ensures.told w.id_of.ensures.one (w.id_of.ensures.number (omega arith)) (ap (λ (v : Vec FnCopy Global). v.items) w.list-is ∙ w.in_ok-push.ensures.items)
  | else-is_level w ↦ level_skip c.args.functions c.args.root c.args.levels.now c.args.level c.loop-number.number c.args.list.now.items c.loop-number.list.items c.if-is_level.list.items c.loop-number.invariant w.if-is_level.ensures.told (ap (λ (v : Vec FnCopy Global). v.items) w.list-is)
]

pub returns : goal.returns
returns c = level_all c.args.functions c.args.root c.args.levels.now c.args.level c.loop-number.number c.args.list.now.items c.loop-number.list.items (omega arith) c.loop-number.invariant
