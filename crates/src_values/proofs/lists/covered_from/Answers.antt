use Rattle.std.proofs.Common.{◌≡◌, true, sym, ◌∙◌, arith}
use Rattle.src_values.proofs.Covers.{one_more}
use Rattle.src_values.proofs.lists.covered_from.Goals as goal

pub loop-count-preserved : goal.loop-count-preserved
loop-count-preserved c =
    let holds : c.is_covered.result ≡ true = cc in
    (omega (arith, c.loop-count-test.true), one_more _ _ _ _ _ _ c.loop-count-test.true (sym c.is_covered.ensures ∙ holds) c.loop-count.invariant.1)
