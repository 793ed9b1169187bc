use Rattle.schedule.proofs.Bytes.{ends, none_left}
use Rattle.schedule.proofs.read.put_bytes.Goals as goal

pub returns-in-empty : goal.returns-in-empty
returns-in-empty c = ends c.args.input.now.items c.loop-byte.input.items c.args.digits.now c.loop-byte.left.now c.loop-byte.invariant (none_left c.loop-byte.left.now c.in-empty.len_below)
