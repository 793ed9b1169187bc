use Rattle.std.proofs.Common.{sym}
use Rattle.src_values.proofs.OtherNodes.{placed_other}
use Rattle.src_values.proofs.counting.placed_counts.Goals as goal

pub returns-in_default : goal.returns-in_default
returns-in_default c = λ spot v. sym (placed_other c.args.expr.now c.in_default.not-Assign c.in_default.not-Step spot v)
