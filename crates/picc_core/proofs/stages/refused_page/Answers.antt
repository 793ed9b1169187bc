use Rattle.std.proofs.Common.{subst}
use Rattle.c_typed.specs.Views.{program_of}
use Rattle.picc_core.specs.CodeAnswers.{TellsFirstOver}
use Rattle.picc_core.proofs.OverPages.{some_function}
use Rattle.picc_core.proofs.stages.refused_page.Goals as goal

pub unreachable-requires : goal.unreachable-requires
unreachable-requires c =
    some_function (program_of c.args.p.now) c.args.copies.now c.requires (subst (TellsFirstOver 2048 (program_of c.args.p.now) c.args.copies.now) c.in_default.is c.first_over.ensures)
