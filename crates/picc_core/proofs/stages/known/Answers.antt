use Rattle.c_typed.specs.Views.{program_of}
use Rattle.picc_core.proofs.FewFunctions.{few_functions}
use Rattle.picc_core.proofs.stages.known.Goals as goal

pub known_of-requires-clause-functions : goal.known_of-requires-clause-functions
known_of-requires-clause-functions c = few_functions c.args.text.now (program_of c.in_ok-typed.typed) c.in_ok-typed.ensures.answer
