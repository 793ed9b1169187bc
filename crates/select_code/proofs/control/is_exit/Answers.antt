use Rattle.select_code.proofs.Others.{no_exit}
use Rattle.select_code.proofs.control.is_exit.Goals as goal

pub returns-in_default : goal.returns-in_default
returns-in_default c = no_exit c.args.c.now c.in_default.not-Exit
