use Rattle.std.proofs.Common.{take}
use Rattle.c_typed.specs.Views.{program_of}
use Rattle.picc_core.specs.CodeAnswers.{TellsFirstOver}
use Rattle.picc_core.proofs.stages.first_over.Given as goal

abbrev pub invariant-loop-copy : goal.invariant-loop-copy
invariant-loop-copy l = TellsFirstOver l.most (program_of l.p) (take l.copy-index l.copies) l.first
