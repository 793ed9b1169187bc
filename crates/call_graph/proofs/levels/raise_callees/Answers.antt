use Rattle.call_graph.specs.Rows.{rows_of}
use Rattle.call_graph.proofs.Rising.{callees_raised}
use Rattle.call_graph.proofs.levels.raise_callees.Goals as goal

pub loop-number-preserved : goal.loop-number-preserved
loop-number-preserved c = callees_raised (rows_of c.args.rows.now) c.args.level c.args.numbers.now c.loop-number.number-index c.row_at.result.now c.args.levels.now c.loop-number.levels c.raise_row.new.levels c.loop-number-test.true c.row_at.ensures c.loop-number.invariant c.raise_row.ensures
