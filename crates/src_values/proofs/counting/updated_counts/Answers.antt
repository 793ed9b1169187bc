use Rattle.std.proofs.Common.{sym}
use Rattle.src_values.proofs.OtherNodes.{updated_other}
use Rattle.src_values.proofs.counting.updated_counts.Goals as goal

pub returns-in_default : goal.returns-in_default
returns-in_default c = λ spot right v. sym (updated_other c.args.expr.now c.in_default.not-Update spot right v)
