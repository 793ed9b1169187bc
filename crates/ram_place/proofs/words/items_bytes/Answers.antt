use Rattle.std.proofs.Common.{map, arith}
use Rattle.c_typed.specs.Views.{size_of}
use Rattle.ram_place.proofs.Loops.{adds, all_added}
use Rattle.ram_place.proofs.WordLists.{item_bytes_in, items_bytes_in, items_bytes_none, items_bytes_more}
use Rattle.ram_place.proofs.words.items_bytes.Goals as goal

pub loop-item-preserved : goal.loop-item-preserved
loop-item-preserved c = adds (item_bytes_in (map size_of c.args.structures.now)) (items_bytes_in (map size_of c.args.structures.now)) (items_bytes_more (map size_of c.args.structures.now)) _ _ c.item-item.result _ _ _ _ c.loop-item-test.true c.item-item.is (omega (arith, c.item_bytes.ensures, c.item_bytes.type_inv)) c.plus-sum.ensures c.plus-sum.type_inv c.loop-item.invariant

pub returns : goal.returns
returns c = all_added (items_bytes_in (map size_of c.args.structures.now)) (items_bytes_none (map size_of c.args.structures.now)) _ _ _ _ c.loop-item-test.false c.loop-item.invariant
