use Rattle.std.proofs.Common.{map}
use Rattle.c_typed.specs.Views.{size_of}
use Rattle.ram_place.proofs.Loops.{adds, all_added}
use Rattle.ram_place.proofs.WordLists.{item_words_in, items_words_in, items_words_none, items_words_more}
use Rattle.ram_place.proofs.words.items_words.Goals as goal

pub loop-item-preserved : goal.loop-item-preserved
loop-item-preserved c = adds (item_words_in (map size_of c.args.structures.now)) (items_words_in (map size_of c.args.structures.now)) (items_words_more (map size_of c.args.structures.now)) _ _ c.item-item.result _ _ _ _ c.loop-item-test.true c.item-item.is c.item_words.ensures c.plus-sum.ensures c.plus-sum.type_inv c.loop-item.invariant

pub returns : goal.returns
returns c = all_added (items_words_in (map size_of c.args.structures.now)) (items_words_none (map size_of c.args.structures.now)) _ _ _ _ c.loop-item-test.false c.loop-item.invariant
