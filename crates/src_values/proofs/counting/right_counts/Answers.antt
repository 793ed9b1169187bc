use Rattle.std.proofs.Common.{sym}
use Rattle.src_values.proofs.OtherNodes.{right_other}
use Rattle.src_values.proofs.counting.right_counts.Goals as goal

pub returns-in_default : goal.returns-in_default
returns-in_default c = let no = c.in_default in λ left v. sym (right_other c.args.expr.now no.not-Binary no.not-Offset no.not-Difference no.not-Logical left v)
