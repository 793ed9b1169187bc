use Rattle.std.proofs.Common.{ap, arith, length, ◌∙◌}
use Rattle.c_parse.specs.Marks.{nothing_marked}
use Rattle.c_parse.specs.MarkViews.{marking_of}
use Rattle.c_parse.proofs.Names.{marked_goes_on, marked_ends, as_many}
use Rattle.c_parse.proofs.marks.mark.Goals as goal

pub loop-tok-preserved : goal.loop-tok-preserved
loop-tok-preserved c =
    let on = marked_goes_on c.args.text.now c.args.toks.now c.loop-tok.tok-index _ c.token-tok.result (marking_of c.loop-tok.marking) (marking_of c.pass.new.self) c.loop-tok.out.items _ c.loop-tok-test.true c.token-tok.ensures c.in_ok-pass.ensures.exact c.loop-tok.invariant.0 in
    (rw c.in_ok-push.ensures.items on, omega (arith, c.in_ok-pass.ensures.by_one, c.loop-tok.invariant.1))

pub returns : goal.returns
returns c =
    let exact = marked_ends c.args.text.now c.args.toks.now c.loop-tok.tok-index (marking_of c.loop-tok.marking) c.loop-tok.out.items _ c.loop-tok-test.false c.loop-tok.invariant.0 in
    record { marked = exact; many = ap length exact ∙ as_many c.args.text.now nothing_marked c.args.toks.now }
