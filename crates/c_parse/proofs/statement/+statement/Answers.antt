use Rattle.std.proofs.Common.{length, map}
use Rattle.std.proofs.lemmas.Result.{err_from_is_err_and}
use Rattle.c_nodes.specs.ProgramViews.{condition_of, statement_of, else_arm_of, switch_item_of}
use Rattle.c_parse.specs.Reading.{next_statement_by, next_arm_by, inner_by, statement_at}
use Rattle.parse_expr.specs.Reader.{all_that, symbols_in}
use Rattle.parse_expr.proofs.Loops.{collect_more, collect_ends, collect_out, collect_err}
use Rattle.c_parse.proofs.Failing.{do_err}
use Rattle.c_parse.proofs.statement.+statement.Goals as goal

pub statements-returns-in_err-item : goal.statements-returns-in_err-item
statements-returns-in_err-item t c =
    let text = c.args.text.now in
    let step = next_statement_by (statement_at c.args.fuel c.args.room) in
    let p = err_from_is_err_and c.from_residual.result c.from_residual.ensures.1 in
    rw (p.1, p.2) (collect_err c.in_err-item.field-0.0 step (length c.args.toks.now) c.loop.counter (map statement_of c.loop.found.items) (symbols_in text c.loop.rest.now) (all_that step (symbols_in text c.args.toks.now)) c.loop-test.true c.in_err-item.ensures c.loop.invariant)

pub statements-returns-in-None : goal.statements-returns-in-None
statements-returns-in-None t c =
    let text = c.args.text.now in
    let step = next_statement_by (statement_at c.args.fuel c.args.room) in
    collect_ends step (length c.args.toks.now) c.loop.counter (map statement_of c.loop.found.items) (symbols_in text c.loop.rest.now) (all_that step (symbols_in text c.args.toks.now)) c.loop-test.true (rw c.in-None.is at c.in_ok-item.ensures) c.loop.invariant

pub statements-loop-preserved : goal.statements-loop-preserved
statements-loop-preserved t c =
    let text = c.args.text.now in
    let step = next_statement_by (statement_at c.args.fuel c.args.room) in
    rw c.in_ok-push-in-Some.ensures.items (collect_more statement_of step (length c.args.toks.now) c.loop.counter c.loop.found.items c.in-Some.item (symbols_in text c.loop.rest.now) (symbols_in text c.in-Some.after.now) (all_that step (symbols_in text c.args.toks.now)) c.loop-test.true (rw c.in-Some.is at c.in_ok-item.ensures) c.loop.invariant)

pub statements-returns : goal.statements-returns
statements-returns t c =
    let text = c.args.text.now in
    let step = next_statement_by (statement_at c.args.fuel c.args.room) in
    collect_out step (length c.args.toks.now) c.loop.counter (map statement_of c.loop.found.items) (symbols_in text c.loop.rest.now) (all_that step (symbols_in text c.args.toks.now)) c.loop-test.false c.loop.invariant

pub next_arms-returns-in_err-item : goal.next_arms-returns-in_err-item
next_arms-returns-in_err-item t c =
    let text = c.args.text.now in
    let step = next_arm_by c.args.fuel (statement_at c.args.fuel c.args.room) in
    let p = err_from_is_err_and c.from_residual.result c.from_residual.ensures.1 in
    rw (p.1, p.2) (collect_err c.in_err-item.field-0.0 step (length c.args.toks.now) c.loop.counter (map else_arm_of c.loop.found.items) (symbols_in text c.loop.rest.now) (all_that step (symbols_in text c.args.toks.now)) c.loop-test.true c.in_err-item.ensures c.loop.invariant)

pub next_arms-returns-in-None : goal.next_arms-returns-in-None
next_arms-returns-in-None t c =
    let text = c.args.text.now in
    let step = next_arm_by c.args.fuel (statement_at c.args.fuel c.args.room) in
    collect_ends step (length c.args.toks.now) c.loop.counter (map else_arm_of c.loop.found.items) (symbols_in text c.loop.rest.now) (all_that step (symbols_in text c.args.toks.now)) c.loop-test.true (rw c.in-None.is at c.in_ok-item.ensures) c.loop.invariant

pub next_arms-loop-preserved : goal.next_arms-loop-preserved
next_arms-loop-preserved t c =
    let text = c.args.text.now in
    let step = next_arm_by c.args.fuel (statement_at c.args.fuel c.args.room) in
    rw c.in_ok-push-in-Some.ensures.items (collect_more else_arm_of step (length c.args.toks.now) c.loop.counter c.loop.found.items c.in-Some.item (symbols_in text c.loop.rest.now) (symbols_in text c.in-Some.after.now) (all_that step (symbols_in text c.args.toks.now)) c.loop-test.true (rw c.in-Some.is at c.in_ok-item.ensures) c.loop.invariant)

pub next_arms-returns : goal.next_arms-returns
next_arms-returns t c =
    let text = c.args.text.now in
    let step = next_arm_by c.args.fuel (statement_at c.args.fuel c.args.room) in
    collect_out step (length c.args.toks.now) c.loop.counter (map else_arm_of c.loop.found.items) (symbols_in text c.loop.rest.now) (all_that step (symbols_in text c.args.toks.now)) c.loop-test.false c.loop.invariant

pub inners-returns-in_err-item : goal.inners-returns-in_err-item
inners-returns-in_err-item t c =
    let text = c.args.text.now in
    let step = inner_by c.args.fuel (statement_at c.args.fuel c.args.room) in
    let p = err_from_is_err_and c.from_residual.result c.from_residual.ensures.1 in
    rw (p.1, p.2) (collect_err c.in_err-item.field-0.0 step (length c.args.toks.now) c.loop.counter (map switch_item_of c.loop.found.items) (symbols_in text c.loop.rest.now) (all_that step (symbols_in text c.args.toks.now)) c.loop-test.true c.in_err-item.ensures c.loop.invariant)

pub inners-returns-in-None : goal.inners-returns-in-None
inners-returns-in-None t c =
    let text = c.args.text.now in
    let step = inner_by c.args.fuel (statement_at c.args.fuel c.args.room) in
    collect_ends step (length c.args.toks.now) c.loop.counter (map switch_item_of c.loop.found.items) (symbols_in text c.loop.rest.now) (all_that step (symbols_in text c.args.toks.now)) c.loop-test.true (rw c.in-None.is at c.in_ok-item.ensures) c.loop.invariant

pub inners-loop-preserved : goal.inners-loop-preserved
inners-loop-preserved t c =
    let text = c.args.text.now in
    let step = inner_by c.args.fuel (statement_at c.args.fuel c.args.room) in
    rw c.in_ok-push-in-Some.ensures.items (collect_more switch_item_of step (length c.args.toks.now) c.loop.counter c.loop.found.items c.in-Some.item (symbols_in text c.loop.rest.now) (symbols_in text c.in-Some.after.now) (all_that step (symbols_in text c.args.toks.now)) c.loop-test.true (rw c.in-Some.is at c.in_ok-item.ensures) c.loop.invariant)

pub inners-returns : goal.inners-returns
inners-returns t c =
    let text = c.args.text.now in
    let step = inner_by c.args.fuel (statement_at c.args.fuel c.args.room) in
    collect_out step (length c.args.toks.now) c.loop.counter (map switch_item_of c.loop.found.items) (symbols_in text c.loop.rest.now) (all_that step (symbols_in text c.args.toks.now)) c.loop-test.false c.loop.invariant

-- the drops of the body and of the condition leave many cases there
pub do_loop-returns-in_err-semicolon : goal.do_loop-returns-in_err-semicolon
do_loop-returns-in_err-semicolon t c =
    let text = c.args.text.now in
    let from = c.from_residual-in_err-semicolon in
    let p = err_from_is_err_and from.result from.ensures.1 in
    rw (p.1, p.2) (do_err c.in_err-semicolon.field-0.0 c.args.fuel (statement_at c.args.fuel c.args.room) c.args.line (symbols_in text c.args.toks.now) (statement_of c.in_ok-body.body, symbols_in text c.in_ok-body.rest.now) (c.in_ok-while_keyword.while_keyword, symbols_in text c.in_ok-while_keyword.rest.now) (condition_of c.in_ok-condition.condition, symbols_in text c.in_ok-condition.rest.now) c.in_ok-body.ensures (c.in_ok-while_keyword.ensures text) c.in_ok-condition.ensures (c.in_err-semicolon.ensures text))
