use Rattle.c_typed.specs.Views.{program_of}
use Rattle.typed_numbers.proofs.Gathered.{program_seen}
use Rattle.typed_numbers.proofs.numbers.see_numbers.Goals as goal

pub returns : goal.returns
returns c = program_seen (program_of c.args.program.now) (rw c.deref.ensures.value at c.see_functions.ensures) (rw c.deref-2.ensures.value at c.see_statics.ensures)
