use Rattle.std.proofs.Common.{refl}
use Rattle.vol_opt.proofs.Lists.{one_more, all_seen, item_in, items_in}
use Rattle.vol_opt.proofs.marking.mark_items.Goals as goal

pub loop-item-preserved : goal.loop-item-preserved
loop-item-preserved c = one_more (item_in c.args.names) (items_in c.args.names) (λ x xs. refl) _ _ c.item-item.result _ _ _ c.loop-item-test.true c.item-item.is c.mark_item.ensures c.loop-item.invariant

pub returns : goal.returns
returns c = all_seen (items_in c.args.names) refl _ _ _ _ c.loop-item-test.false c.loop-item.invariant
