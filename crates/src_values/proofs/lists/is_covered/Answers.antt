use Rattle.std.proofs.Common.{sym, ◌∙◌}
use Rattle.src_values.proofs.Covers.{goes_on, found, nowhere}
use Rattle.src_values.proofs.lists.is_covered.Goals as goal

pub loop-item-preserved : goal.loop-item-preserved
loop-item-preserved c = goes_on _ _ _ _ c.item-item.result _ c.loop-item-test.true c.item-item.is (sym c.covers.ensures ∙ c.if-covers.false) c.loop-item.invariant

pub returns-then-covers : goal.returns-then-covers
returns-then-covers c = found _ _ _ _ c.item-item.result _ c.loop-item-test.true c.item-item.is (sym c.covers.ensures ∙ c.if-covers.true) c.loop-item.invariant

pub returns : goal.returns
returns c = nowhere _ _ _ _ _ c.loop-item-test.false c.loop-item.invariant
