use Rattle.picc_core.proofs.Leaning.{lowered_symbolic, some_symbolic}
use Rattle.picc_core.proofs.leaner.leanest.Goals as goal

pub returns-in-Some : goal.returns-in-Some
returns-in-Some c = some_symbolic c.args.typed.now c.args.copies.now.list.items c.args.placed.now c.args.at.now c.requires.founded c.args.core.now c.in_ok-made.field-0 c.in-Some.made c.in_ok-made.ensures c.in-Some.is

pub returns : goal.returns
returns c = lowered_symbolic c.args.typed.now c.args.copies.now.list.items c.args.placed.now c.args.at.now c.requires.founded c.args.core.now c.in_ok-found.found c.in_ok-found.ensures
