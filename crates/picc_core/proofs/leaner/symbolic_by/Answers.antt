use Rattle.picc_core.proofs.Founding.{copies_low}
use Rattle.picc_core.proofs.Leaning.{given_symbolic, some_symbolic}
use Rattle.picc_core.proofs.leaner.symbolic_by.Goals as goal

pub joined-requires-clause-copies : goal.joined-requires-clause-copies
joined-requires-clause-copies c = copies_low c.args.typed.now c.args.copies.now.list.items c.args.placed.now c.args.at.now c.requires.founded

pub handler_of-requires : goal.handler_of-requires
handler_of-requires c = copies_low c.args.typed.now c.args.copies.now.list.items c.args.placed.now c.args.at.now c.requires.founded

pub returns-in-Some : goal.returns-in-Some
returns-in-Some c = some_symbolic c.args.typed.now c.args.copies.now.list.items c.args.placed.now c.args.at.now c.requires.founded c.args.core.now c.in_ok-made.field-0 c.in-Some.made c.in_ok-made.ensures c.in-Some.is

pub returns : goal.returns
returns c =
    given_symbolic c.args.typed.now c.args.copies.now.list.items c.args.placed.now c.args.at.now c.requires.founded c.args.core.now c.handler_of.result c.in_ok-given.given.blocks.items c.in_ok-made-2.made.blocks.items
    c.in_ok-given.ensures.whole c.handler_of.ensures c.in_ok-made-2.ensures
