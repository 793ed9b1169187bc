use Rattle.std.proofs.Common.{arith}
use Rattle.depth_check.proofs.Settling.{full}
use Rattle.depth_check.proofs.search.blank_outs.Goals as goal

pub returns : goal.returns
returns c = full c.loop-at._at c.loop-at.outs.items c.loop-at.invariant (let a = c.loop-at.auto._at-end in let b = c.loop-at-test.false in omega arith)
