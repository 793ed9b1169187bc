use Rattle.c_typed.specs.Views.{program_of}
use Rattle.source_room.proofs.Enough.{so_many_suffice}
use Rattle.source_room.proofs.room.room_within.Goals as goal

pub returns-then-along-all-clause-enough : goal.returns-then-along-all-clause-enough
returns-then-along-all-clause-enough c = so_many_suffice (program_of c.args.program.now) c.args.depth c.deepest_function.result c.requires c.deepest_function.ensures.exact
