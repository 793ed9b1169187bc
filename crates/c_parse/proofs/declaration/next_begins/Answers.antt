use Rattle.std.proofs.Common.{length, map}
use Rattle.std.proofs.lemmas.Result.{err_from_is_err_and}
use Rattle.c_nodes.specs.ProgramViews.{next_begun_of}
use Rattle.c_parse.specs.Reading.{next_begun_by}
use Rattle.parse_expr.specs.Reader.{all_that, symbols_in}
use Rattle.parse_expr.proofs.Loops.{collect_more, collect_ends, collect_out, collect_err}
use Rattle.c_parse.proofs.declaration.next_begins.Goals as goal

pub returns-in_err-item : goal.returns-in_err-item
returns-in_err-item c =
    let text = c.args.text.now in
    let step = next_begun_by c.args.fuel in
    let p = err_from_is_err_and c.from_residual.result c.from_residual.ensures.1 in
    rw (p.1, p.2) (collect_err c.in_err-item.field-0.0 step (length c.args.toks.now) c.loop.counter (map next_begun_of c.loop.found.items) (symbols_in text c.loop.rest.now) (all_that step (symbols_in text c.args.toks.now)) c.loop-test.true c.in_err-item.ensures c.loop.invariant)

pub returns-in-None : goal.returns-in-None
returns-in-None c =
    let text = c.args.text.now in
    let step = next_begun_by c.args.fuel in
    collect_ends step (length c.args.toks.now) c.loop.counter (map next_begun_of c.loop.found.items) (symbols_in text c.loop.rest.now) (all_that step (symbols_in text c.args.toks.now)) c.loop-test.true (rw c.in-None.is at c.in_ok-item.ensures) c.loop.invariant

pub loop-preserved : goal.loop-preserved
loop-preserved c =
    let text = c.args.text.now in
    let step = next_begun_by c.args.fuel in
    rw c.in_ok-push-in-Some.ensures.items (collect_more next_begun_of step (length c.args.toks.now) c.loop.counter c.loop.found.items c.in-Some.item (symbols_in text c.loop.rest.now) (symbols_in text c.in-Some.after.now) (all_that step (symbols_in text c.args.toks.now)) c.loop-test.true (rw c.in-Some.is at c.in_ok-item.ensures) c.loop.invariant)

pub returns : goal.returns
returns c =
    let text = c.args.text.now in
    let step = next_begun_by c.args.fuel in
    collect_out step (length c.args.toks.now) c.loop.counter (map next_begun_of c.loop.found.items) (symbols_in text c.loop.rest.now) (all_that step (symbols_in text c.args.toks.now)) c.loop-test.false c.loop.invariant
