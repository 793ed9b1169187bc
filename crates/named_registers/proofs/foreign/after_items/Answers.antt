use Rattle.std.proofs.Common.{refl}
use Rattle.named_registers.proofs.Lists.{one_more, all_seen, item_in, items_in}
use Rattle.named_registers.proofs.foreign.after_items.Goals as goal

pub loop-item-preserved : goal.loop-item-preserved
loop-item-preserved c = one_more item_in items_in (λ x xs. refl) _ _ c.item-item.result _ _ _ c.loop-item-test.true c.item-item.is c.after_item-found.ensures c.loop-item.invariant

pub returns : goal.returns
returns c = all_seen items_in refl _ _ _ _ c.loop-item-test.false c.loop-item.invariant
