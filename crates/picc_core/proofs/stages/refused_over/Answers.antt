use Rattle.std.proofs.Common.{subst}
use Rattle.c_typed.specs.Views.{program_of}
use Rattle.picc_core.specs.CodeAnswers.{TellsFirstOver}
use Rattle.picc_core.proofs.stages.refused_over.Goals as goal

pub returns-in_default : goal.returns-in_default
returns-in_default c = subst (TellsFirstOver c.args.limits.words_of_block (program_of c.args.p.now) c.args.copies.now) c.in_default.is c.first_over.ensures
