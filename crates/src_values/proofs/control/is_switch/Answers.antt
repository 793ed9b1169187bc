use Rattle.std.proofs.Common.{sym}
use Rattle.src_values.proofs.OtherNodes.{switch_other}
use Rattle.src_values.proofs.control.is_switch.Goals as goal

pub returns-in_default : goal.returns-in_default
returns-in_default c = sym (switch_other c.args.statement.now c.in_default.not-Switch)
