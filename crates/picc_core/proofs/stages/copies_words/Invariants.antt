use Rattle.std.proofs.Common.{◌≡◌, map, take}
use Rattle.c_typed.specs.Views.{program_of}
use Rattle.program_code.specs.Stated.{copy_words}
use Rattle.picc_core.proofs.stages.copies_words.Given as goal

abbrev pub invariant-loop-copy : goal.invariant-loop-copy
invariant-loop-copy l = l.words.items ≡ map (copy_words (program_of l.p)) (take l.copy-index l.order)
