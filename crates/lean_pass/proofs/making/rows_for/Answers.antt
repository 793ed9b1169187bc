use Rattle.lean_pass.proofs.Putting.{olds_on}
use Rattle.lean_pass.proofs.making.rows_for.Goals as goal

pub loop-sym-preserved : goal.loop-sym-preserved
loop-sym-preserved c =
    olds_on c.loop-sym.rows.items c.put_in.new.rows.items c.row_for.result c.in-Some.sym c.loop-sym.left.now c.in-Some.rest.now c.args.list.now c.in-Some.ensures c.in_ok-put_in.ensures c.row_for.ensures c.loop-sym.invariant
