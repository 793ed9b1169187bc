use Rattle.call_graph.proofs.Marking.{row_more}
use Rattle.call_graph.proofs.reach.mark_row.Goals as goal

pub loop-number-preserved : goal.loop-number-preserved
loop-number-preserved c = row_more c.args.row.now c.loop-number.number-index c.args.marks.now c.loop-number.marks c.mark.new.marks c.args.stack.now.items c.loop-number.stack.items c.mark.new.stack.items c.loop-number-test.true c.loop-number.invariant c.in_ok-mark.ensures
