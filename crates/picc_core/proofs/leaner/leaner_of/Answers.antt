use Rattle.picc_core.proofs.Founding.{copies_low}
use Rattle.picc_core.proofs.Leaning.{lean_of}
use Rattle.picc_core.proofs.leaner.leaner_of.Goals as goal

pub joined-requires-clause-copies : goal.joined-requires-clause-copies
joined-requires-clause-copies c = copies_low c.args.typed.now c.args.copies.now.list.items c.args.placed.now c.args.at.now c.requires.founded

pub returns : goal.returns
returns c = lean_of c.args.typed.now c.args.copies.now.list.items c.args.placed.now c.args.at.now c.requires.founded c.args.core.now c.in_ok-given.given.blocks.items c.in_ok-found.found c.in_ok-given.ensures.whole c.in_ok-found.ensures
