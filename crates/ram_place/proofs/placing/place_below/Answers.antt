use Rattle.std.proofs.Common.{refl}
use Rattle.c_typed.specs.Views.{program_of}
use Rattle.ram_place.proofs.Told.{none_out, none_but}
use Rattle.ram_place.proofs.placing.place_below.Goals as goal

pub returns-clause-exact : goal.returns-clause-exact
returns-clause-exact c = none_out (program_of c.args.p.now) _ c.args.top c.args.copies.now.list.items c.place_within.result refl c.place_within.ensures.exact

pub returns-clause-whole : goal.returns-clause-whole
returns-clause-whole c = none_but (program_of c.args.p.now) _ c.args.copies.now.list.items c.place_within.result refl c.place_within.ensures.whole
