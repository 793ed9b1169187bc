use Rattle.std.proofs.Common.{map}
use Rattle.c_typed.specs.Views.{size_of, variable_of}
use Rattle.ram_place.proofs.Loops.{adds, all_added}
use Rattle.c_typed.specs.Words.{variable_bytes}
use Rattle.ram_place.proofs.WordLists.{statement_words_in, statements_words_in, statements_words_none, statements_words_more, arm_words_in, arms_words_in, arms_words_none, arms_words_more}
use Rattle.ram_place.proofs.words.+statement_words.Goals as goal

pub statements_words-loop-statement-preserved : goal.statements_words-loop-statement-preserved
statements_words-loop-statement-preserved t c = adds (statement_words_in (map size_of c.args.structures.now) (map (variable_bytes (map size_of c.args.structures.now)) (map variable_of c.args.locals.now))) (statements_words_in (map size_of c.args.structures.now) (map (variable_bytes (map size_of c.args.structures.now)) (map variable_of c.args.locals.now))) (statements_words_more (map size_of c.args.structures.now) (map (variable_bytes (map size_of c.args.structures.now)) (map variable_of c.args.locals.now))) _ _ c.statement-item.result _ _ _ _ c.loop-statement-test.true c.statement-item.is c.statement_words.ensures c.plus-sum.ensures c.plus-sum.type_inv c.loop-statement.invariant

pub statements_words-returns : goal.statements_words-returns
statements_words-returns t c = all_added (statements_words_in (map size_of c.args.structures.now) (map (variable_bytes (map size_of c.args.structures.now)) (map variable_of c.args.locals.now))) (statements_words_none (map size_of c.args.structures.now) (map (variable_bytes (map size_of c.args.structures.now)) (map variable_of c.args.locals.now))) _ _ _ _ c.loop-statement-test.false c.loop-statement.invariant

pub arms_words-loop-arm-preserved : goal.arms_words-loop-arm-preserved
arms_words-loop-arm-preserved t c = adds (arm_words_in (map size_of c.args.structures.now) (map (variable_bytes (map size_of c.args.structures.now)) (map variable_of c.args.locals.now))) (arms_words_in (map size_of c.args.structures.now) (map (variable_bytes (map size_of c.args.structures.now)) (map variable_of c.args.locals.now))) (arms_words_more (map size_of c.args.structures.now) (map (variable_bytes (map size_of c.args.structures.now)) (map variable_of c.args.locals.now))) _ _ c.arm-item.result _ _ _ _ c.loop-arm-test.true c.arm-item.is c.arm_words.ensures c.plus-sum.ensures c.plus-sum.type_inv c.loop-arm.invariant

pub arms_words-returns : goal.arms_words-returns
arms_words-returns t c = all_added (arms_words_in (map size_of c.args.structures.now) (map (variable_bytes (map size_of c.args.structures.now)) (map variable_of c.args.locals.now))) (arms_words_none (map size_of c.args.structures.now) (map (variable_bytes (map size_of c.args.structures.now)) (map variable_of c.args.locals.now))) _ _ _ _ c.loop-arm-test.false c.loop-arm.invariant
