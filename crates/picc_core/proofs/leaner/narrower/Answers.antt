use Rattle.program_code.proofs.Bodies.{few_kept, short_kept}
use Rattle.std.proofs.Common.{arith}
use Rattle.picc_core.proofs.Leaning.{from_low}
use Rattle.picc_core.proofs.leaner.narrower.Goals as goal

pub leaner_of-requires-clause-few : goal.leaner_of-requires-clause-few
leaner_of-requires-clause-few c = let same = few_kept c.args.core.now c.in_ok-low.low c.in_ok-low.ensures.low in omega (arith, same, c.requires.few)

pub leaner_of-requires-clause-short : goal.leaner_of-requires-clause-short
leaner_of-requires-clause-short c = short_kept c.args.core.now c.in_ok-low.low c.in_ok-low.ensures.low c.requires.short

pub returns : goal.returns
returns c =
    from_low c.args.typed.now c.args.copies.now.list.items c.args.placed.now c.args.at.now c.requires.founded c.args.core.now c.in_ok-low.low c.in_ok-found.found c.in_ok-low.ensures.low c.in_ok-found.ensures
