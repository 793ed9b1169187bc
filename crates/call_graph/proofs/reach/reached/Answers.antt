use Rattle.std.proofs.Common.{arith}
use Rattle.call_graph.specs.Rows.{rows_of}
use Rattle.call_graph.proofs.Reaching.{begun, gone_on, ended}
use Rattle.call_graph.proofs.reach.reached.Goals as goal

pub loop-number-init : goal.loop-number-init
loop-number-init c = begun c.args.rows.now c.args.from c.in_ok-marks.marks.len c.in_ok-marks.marks.items c.deref_mut.result.now c.mark_row.new.marks c.new-stack.result.items c.row_at.result.now c.mark_row.new.stack.items c.in_ok-marks.ensures c.deref_mut.ensures.value (omega arith) c.new-stack.ensures.items c.row_at.ensures c.in_ok-mark_row.ensures

pub loop-number-preserved : goal.loop-number-preserved
loop-number-preserved c = gone_on c.args.rows.now c.args.from c.in-Some.number c.loop-number.marks.len c.loop-number.marks.items c.deref_mut-in-Some.result.now c.mark_row-in-Some.new.marks c.loop-number.stack.items c.pop.new.self.items c.row_at-in-Some.result.now c.mark_row-in-Some.new.stack.items c.in-Some.ensures.items c.deref_mut-in-Some.ensures.value (omega arith) c.row_at-in-Some.ensures c.loop-number.invariant c.in_ok-mark_row-2.ensures

pub returns-clause-exact : goal.returns-clause-exact
returns-clause-exact c = ended (rows_of c.args.rows.now) c.args.from c.loop-number.marks.items c.loop-number.stack.items (let none = c.in_default.ensures.cases in omega (arith, none.0)) c.loop-number.invariant
