use Rattle.std.proofs.Common.{sym}
use Rattle.src_values.proofs.OtherNodes.{list_other}
use Rattle.src_values.proofs.control.list_in.Goals as goal

pub returns-in_default : goal.returns-in_default
returns-in_default c = sym (list_other c.args.statement.now c.in_default.not-InitList)
