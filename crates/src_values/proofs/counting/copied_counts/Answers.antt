use Rattle.std.proofs.Common.{sym}
use Rattle.src_values.proofs.OtherNodes.{copied_other}
use Rattle.src_values.proofs.counting.copied_counts.Goals as goal

pub returns-in_default : goal.returns-in_default
returns-in_default c = λ p to. sym (copied_other c.args.expr.now c.in_default.not-StructAssign p to)
