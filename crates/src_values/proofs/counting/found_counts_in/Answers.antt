use Rattle.std.proofs.Common.{sym}
use Rattle.c_typed.specs.Views.{expression_of, program_of}
use Rattle.src_values.proofs.OtherNodes.{no_find_part}
use Rattle.src_values.proofs.counting.found_counts_in.Goals as goal

pub returns-in_default : goal.returns-in_default
returns-in_default c = λ values. sym (no_find_part c.args.got c.in_default.not-Nothing c.in_default.not-At values (program_of c.args.program.now) (expression_of c.args.expr.now))
