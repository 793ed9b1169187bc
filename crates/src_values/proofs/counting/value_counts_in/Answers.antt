use Rattle.std.proofs.Common.{sym}
use Rattle.c_typed.specs.Views.{expression_of}
use Rattle.src_values.proofs.OtherNodes.{no_value_part}
use Rattle.src_values.specs.Seen.{datum_of}
use Rattle.src_values.proofs.counting.value_counts_in.Goals as goal

pub returns-in_default : goal.returns-in_default
returns-in_default c = let no = c.in_default in λ values. sym (no_value_part c.args.got no.not-Nothing no.not-One no.not-At no.not-AtWith values (datum_of c.args.value) (expression_of c.args.expr.now))
