use Rattle.std.proofs.Common.{length, map}
use Rattle.std.proofs.lemmas.Result.{err_from_is_err_and}
use Rattle.c_nodes.specs.ProgramViews.{next_init_of}
use Rattle.c_parse.specs.Reading.{next_init_by, init_inside}
use Rattle.parse_expr.specs.Reader.{all_that, symbols_in}
use Rattle.parse_expr.proofs.Loops.{collect_more, collect_ends, collect_out, collect_err}
use Rattle.c_parse.proofs.initial.+init.Goals as goal

pub next_inits-returns-in_err-item : goal.next_inits-returns-in_err-item
next_inits-returns-in_err-item t c =
    let text = c.args.text.now in
    let step = next_init_by (init_inside c.args.fuel) in
    let p = err_from_is_err_and c.from_residual.result c.from_residual.ensures.1 in
    rw (p.1, p.2) (collect_err c.in_err-item.field-0.0 step (length c.args.toks.now) c.loop.counter (map next_init_of c.loop.found.items) (symbols_in text c.loop.rest.now) (all_that step (symbols_in text c.args.toks.now)) c.loop-test.true c.in_err-item.ensures c.loop.invariant)

pub next_inits-returns-in-None : goal.next_inits-returns-in-None
next_inits-returns-in-None t c =
    let text = c.args.text.now in
    let step = next_init_by (init_inside c.args.fuel) in
    collect_ends step (length c.args.toks.now) c.loop.counter (map next_init_of c.loop.found.items) (symbols_in text c.loop.rest.now) (all_that step (symbols_in text c.args.toks.now)) c.loop-test.true (rw c.in-None.is at c.in_ok-item.ensures) c.loop.invariant

pub next_inits-loop-preserved : goal.next_inits-loop-preserved
next_inits-loop-preserved t c =
    let text = c.args.text.now in
    let step = next_init_by (init_inside c.args.fuel) in
    rw c.in_ok-push-in-Some.ensures.items (collect_more next_init_of step (length c.args.toks.now) c.loop.counter c.loop.found.items c.in-Some.item (symbols_in text c.loop.rest.now) (symbols_in text c.in-Some.after.now) (all_that step (symbols_in text c.args.toks.now)) c.loop-test.true (rw c.in-Some.is at c.in_ok-item.ensures) c.loop.invariant)

pub next_inits-returns : goal.next_inits-returns
next_inits-returns t c =
    let text = c.args.text.now in
    let step = next_init_by (init_inside c.args.fuel) in
    collect_out step (length c.args.toks.now) c.loop.counter (map next_init_of c.loop.found.items) (symbols_in text c.loop.rest.now) (all_that step (symbols_in text c.args.toks.now)) c.loop-test.false c.loop.invariant
