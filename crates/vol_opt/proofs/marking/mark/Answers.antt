use Rattle.std.proofs.Common.{arith}
use Rattle.vol_opt.proofs.AllKept.{mark_within, mark_past}
use Rattle.vol_opt.proofs.marking.mark.Goals as goal

pub returns-then-number-len : goal.returns-then-number-len
returns-then-number-len c = mark_within c.args.marks.now.items c.args.number

pub returns-else-number-len : goal.returns-else-number-len
returns-else-number-len c = mark_past c.args.marks.now.items c.args.number (omega arith)
