use Rattle.std.proofs.Common.{◌≡◌, ◌+◌, true, false, drop, sym, ap, ◌∙◌}
use Rattle.std.proofs.lemmas.List.{drop_all}
use Rattle.c_typed.specs.Roots.{is_called, holds}
use Rattle.call_graph.specs.Rows.{rows_of}
use Rattle.call_graph.proofs.Searches.{row_of, either, other}
use Rattle.call_graph.proofs.roots.names.Goals as goal

pub loop-row-preserved : goal.loop-row-preserved
loop-row-preserved c =
    let test : holds c.row-item.result.items c.args.number ≡ false = ap (λ r. holds r c.args.number) (sym c.deref.ensures.value) ∙ (sym c.holds.ensures ∙ c.if-holds.false) in
    other (holds c.row-item.result.items c.args.number) (is_called (rows_of (drop (c.loop-row.row-index + 1) c.args.rows.now)) c.args.number) (is_called (rows_of (drop c.loop-row.row-index c.args.rows.now)) c.args.number) (is_called (rows_of c.args.rows.now) c.args.number) (row_of c.args.number c.args.rows.now c.loop-row.row-index c.row-item.result c.loop-row-test.true c.row-item.is) test c.loop-row.invariant

pub returns-then-holds : goal.returns-then-holds
returns-then-holds c =
    let test : holds c.row-item.result.items c.args.number ≡ true = ap (λ r. holds r c.args.number) (sym c.deref.ensures.value) ∙ (sym c.holds.ensures ∙ c.if-holds.true) in
    either (holds c.row-item.result.items c.args.number) (is_called (rows_of (drop (c.loop-row.row-index + 1) c.args.rows.now)) c.args.number) (is_called (rows_of (drop c.loop-row.row-index c.args.rows.now)) c.args.number) (is_called (rows_of c.args.rows.now) c.args.number) (row_of c.args.number c.args.rows.now c.loop-row.row-index c.row-item.result c.loop-row-test.true c.row-item.is) test c.loop-row.invariant

pub returns : goal.returns
returns c = sym (ap (λ rs. is_called (rows_of rs) c.args.number) (drop_all c.loop-row.row-index c.args.rows.now c.loop-row-test.false)) ∙ c.loop-row.invariant
