use Rattle.std.proofs.Common.{arith}
use Rattle.ram_place.proofs.Loops.{adds, all_added}
use Rattle.c_typed.specs.Words.{cases_words}
use Rattle.ram_place.proofs.WordLists.{case_words, cases_none, cases_more}
use Rattle.ram_place.proofs.words.cases_words.Goals as goal

pub loop-case-preserved : goal.loop-case-preserved
loop-case-preserved c = adds (case_words c.args.bytes) (cases_words c.args.bytes) (cases_more c.args.bytes) _ _ c._case-item.result _ _ _ _ c.loop-case-test.true c._case-item.is (omega (arith, c.times.ensures, c.plus-each.ensures)) c.plus-sum.ensures c.plus-sum.type_inv c.loop-case.invariant

pub returns : goal.returns
returns c = all_added (cases_words c.args.bytes) (cases_none c.args.bytes) _ _ _ _ c.loop-case-test.false c.loop-case.invariant
