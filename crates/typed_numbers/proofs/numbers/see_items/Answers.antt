use Rattle.typed_numbers.proofs.Gathered.{Items, OneItem, all_gathered, gathered, one_item}
use Rattle.typed_numbers.proofs.numbers.see_items.Goals as goal

pub loop-item-preserved : goal.loop-item-preserved
loop-item-preserved c = gathered OneItem Items one_item _ _ c.item-item.result c.loop-item-test.true c.item-item.is c.see_item.ensures c.loop-item.invariant

pub returns : goal.returns
returns c = all_gathered Items tt _ _ c.loop-item-test.false c.loop-item.invariant
