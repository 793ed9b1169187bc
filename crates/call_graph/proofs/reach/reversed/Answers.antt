use Rattle.std.proofs.Common.{arith}
use Rattle.call_graph.proofs.Callers.{known_on, known_rows}
use Rattle.call_graph.proofs.reach.reversed.Goals as goal

pub loop-number-preserved : goal.loop-number-preserved
loop-number-preserved c = known_on c.args.rows.now c.loop-number.number c.loop-number.callers.len c.loop-number.callers.items c.deref_mut.result.now c.put_row.new.callers c.index-rows-number.result c.deref.result.now c.deref_mut.ensures.value (omega arith) c.loop-number-test.true c.index-rows-number.is c.deref.ensures.value c.loop-number.invariant c.in_ok-put_row.ensures

pub returns-clause-exact : goal.returns-clause-exact
returns-clause-exact c = known_rows c.args.rows.now c.loop-number.number c.loop-number.callers.items c.loop-number-test.false c.loop-number.invariant
