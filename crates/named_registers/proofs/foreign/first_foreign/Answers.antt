use Rattle.std.proofs.Common.{sym}
use Rattle.c_typed.specs.Views.{program_of}
use Rattle.named_registers.specs.Foreign.{foreign_of}
use Rattle.pic_chip.specs.SmallAddress.{is_small_register}
use Rattle.named_registers.proofs.First.{is_first}
use Rattle.named_registers.proofs.foreign.first_foreign.Goals as goal

pub returns-clause-exact : goal.returns-clause-exact
unfolding foreign_of
returns-clause-exact c = rw c.deref.ensures.value at c.after_functions.ensures

pub returns-clause-first : goal.returns-clause-first
unfolding foreign_of
returns-clause-first c = is_first is_small_register (program_of c.args.program.now) c.after_functions.result (sym (rw c.deref.ensures.value at c.after_functions.ensures))
