use Rattle.std.proofs.Common.{length, ap, ◌∙◌, arith}
use Rattle.code_place.proofs.Placing.{first_of, one_each, whole_of, within_of, in_order_of, few_words}
use Rattle.code_place.proofs.pages.Goals as goal

pub sum_of-requires : goal.sum_of-requires
sum_of-requires c = omega (arith, few_words c.args.blocks.now c.in_default.ensures, c.requires)

pub returns-in-Some-2-clause-first : goal.returns-in-Some-2-clause-first
returns-in-Some-2-clause-first c = let found = rw c.in-Some-2.is at c.in_ok-at.ensures in first_of c.in-Some-2.at.items c.args.blocks.now found.0 c.in_default.ensures

pub returns-in-Some-2-clause-each : goal.returns-in-Some-2-clause-each
returns-in-Some-2-clause-each c = let found = rw c.in-Some-2.is at c.in_ok-at.ensures in ap length found.0 ∙ one_each 0 c.args.blocks.now

pub returns-in-Some-2-clause-whole : goal.returns-in-Some-2-clause-whole
returns-in-Some-2-clause-whole c = let found = rw c.in-Some-2.is at c.in_ok-at.ensures in whole_of c.in-Some-2.at.items c.args.blocks.now found.0 c.in_default.ensures

pub returns-in-Some-2-clause-within : goal.returns-in-Some-2-clause-within
returns-in-Some-2-clause-within c = let found = rw c.in-Some-2.is at c.in_ok-at.ensures in within_of c.in-Some-2.at.items c.args.blocks.now found.0 c.in_default.ensures found.1

pub returns-in-Some-2-clause-in_order : goal.returns-in-Some-2-clause-in_order
returns-in-Some-2-clause-in_order c = let found = rw c.in-Some-2.is at c.in_ok-at.ensures in in_order_of c.in-Some-2.at.items c.args.blocks.now found.0
