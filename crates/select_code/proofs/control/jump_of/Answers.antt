use Rattle.std.proofs.Common.{reverse}
use Rattle.select_code.proofs.Others.{no_jump}
use Rattle.select_code.proofs.control.jump_of.Goals as goal

pub returns-in_default : goal.returns-in_default
returns-in_default c = no_jump (reverse c.args.loops.now.starts.items) c.args.c.now c.in_default.not-Exit c.in_default.not-Again
