use Rattle.std.proofs.Common.{◌∙◌}
use Rattle.c_token.proofs.Passing.{all_read}
use Rattle.c_token.proofs.Order.{keeps_on}
use Rattle.c_token.proofs.scan.raw.Goals as goal

pub returns-clause-tokens : goal.returns-clause-tokens
returns-clause-tokens c = c.loop-place.invariant.4 ∙ all_read c.args.text.now c.loop-place.place c.loop-place.tokens.items c.loop-place-test.false

pub loop-place-preserved : goal.loop-place-preserved
loop-place-preserved c =
    let n = c.in_ok-token.ensures in
    keeps_on c.args.text.now c.loop-place.tokens.items c.put.new.tokens.items c.in_ok-token.token c.loop-place.place c.in_ok-token.behind_it c.loop-place.invariant c.in_ok-put.ensures.ok n.span n.onward.1 n.onward.2 n.reads
