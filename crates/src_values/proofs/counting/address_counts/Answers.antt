use Rattle.std.proofs.Common.{sym}
use Rattle.c_typed.specs.Views.{program_of}
use Rattle.src_values.proofs.OtherNodes.{address_other}
use Rattle.src_values.proofs.counting.address_counts.Goals as goal

pub returns-in_default : goal.returns-in_default
returns-in_default c = sym (address_other c.args.expr.now c.in_default.not-Address (program_of c.args.program.now))
