use Rattle.std.proofs.Common.{map}
use Rattle.c_typed.specs.Views.{size_of}
use Rattle.ram_place.proofs.Loops.{grows, all_grown}
use Rattle.ram_place.proofs.Statements.{item_room_in, items_room_in, items_room_none, items_room_more}
use Rattle.ram_place.proofs.room.items_room.Goals as goal

pub loop-item-preserved : goal.loop-item-preserved
loop-item-preserved c = grows (item_room_in (map size_of c.args.structures.now)) (items_room_in (map size_of c.args.structures.now)) (items_room_more (map size_of c.args.structures.now)) _ _ c.item-item.result _ _ _ _ c.loop-item-test.true c.item-item.is c.item_room.ensures c.most-greatest.ensures c.most-greatest.type_inv c.loop-item.invariant

pub returns : goal.returns
returns c = all_grown (items_room_in (map size_of c.args.structures.now)) (items_room_none (map size_of c.args.structures.now)) _ _ _ _ c.loop-item-test.false c.loop-item.invariant
