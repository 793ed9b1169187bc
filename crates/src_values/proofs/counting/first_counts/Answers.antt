use Rattle.std.proofs.Common.{sym}
use Rattle.src_values.proofs.OtherNodes.{first_other}
use Rattle.src_values.specs.Seen.{datum_of}
use Rattle.src_values.proofs.counting.first_counts.Goals as goal

pub returns-in_default : goal.returns-in_default
returns-in_default c = let no = c.in_default in sym (first_other c.args.expr.now no.not-Cast no.not-Unary no.not-Logical no.not-Conditional no.not-Comma (datum_of c.args.value))
