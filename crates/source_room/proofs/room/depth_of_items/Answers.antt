use Rattle.std.proofs.Common.{refl}
use Rattle.source_room.proofs.Seen.{one_deeper, all_deeper, item_in, items_in}
use Rattle.source_room.proofs.room.depth_of_items.Goals as goal

pub loop-item-preserved : goal.loop-item-preserved
loop-item-preserved c = one_deeper item_in items_in _ _ c.item-item.result _ _ _ _ refl c.loop-item-test.true c.item-item.is c.depth_of_item.ensures c.greatest-deepest.ensures c.greatest-deepest.type_inv c.loop-item.invariant

pub returns : goal.returns
returns c = all_deeper items_in _ _ _ _ refl c.loop-item-test.false c.loop-item.invariant
