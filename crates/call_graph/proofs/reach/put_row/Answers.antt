use Rattle.call_graph.specs.Rows.{rows_of}
use Rattle.call_graph.proofs.Callers.{row_put}
use Rattle.call_graph.proofs.reach.put_row.Goals as goal

pub loop-callee-preserved : goal.loop-callee-preserved
loop-callee-preserved c = row_put c.args.number c.args.row.now c.loop-callee.callee-index (rows_of c.args.callers.now) (rows_of c.loop-callee.callers) (rows_of c.put_caller.new.callers) c.loop-callee-test.true c.loop-callee.invariant c.in_ok-put_caller.ensures
