use Rattle.std.proofs.Common.{map}
use Rattle.c_typed.specs.Views.{size_of}
use Rattle.ram_place.proofs.Loops.{adds, all_added}
use Rattle.ram_place.proofs.WordLists.{words_in, arguments_words_in, arguments_words_none, arguments_words_more}
use Rattle.ram_place.proofs.words.+words.Goals as goal

pub arguments_words-loop-argument-preserved : goal.arguments_words-loop-argument-preserved
arguments_words-loop-argument-preserved t c = adds (words_in (map size_of c.args.structures.now)) (arguments_words_in (map size_of c.args.structures.now)) (arguments_words_more (map size_of c.args.structures.now)) _ _ c.argument-item.result _ _ _ _ c.loop-argument-test.true c.argument-item.is c.words.ensures c.plus-sum.ensures c.plus-sum.type_inv c.loop-argument.invariant

pub arguments_words-returns : goal.arguments_words-returns
arguments_words-returns t c = all_added (arguments_words_in (map size_of c.args.structures.now)) (arguments_words_none (map size_of c.args.structures.now)) _ _ _ _ c.loop-argument-test.false c.loop-argument.invariant
