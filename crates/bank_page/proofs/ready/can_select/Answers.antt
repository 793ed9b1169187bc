use Rattle.std.proofs.Common.{arith}
use Rattle.std.specs.Prelude.{slice_index_or}
use Rattle.std.proofs.lemmas.Option.{slice_get-get_or}
use Rattle.bank_page.proofs.ready.can_select.Goals as goal

pub returns-clause-ready : goal.returns-clause-ready
returns-clause-ready c = λ e k d lt.
    let past = c.loop-block-test.false in
    c.loop-block.invariant k (slice_index_or c.args.blocks.now k d) (omega (arith, lt, past)) (slice_get-get_or c.args.blocks.now k d lt)
