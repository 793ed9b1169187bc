use Rattle.call_graph.proofs.Marking.{marked_newly}
use Rattle.call_graph.proofs.reach.mark.Goals as goal

pub returns : goal.returns
returns c = rw c.in_ok-push.ensures.items (marked_newly c.args.number c.args.marks.now c.args.stack.now.items c.if-at-marks.false c.if-marks-at.false)
