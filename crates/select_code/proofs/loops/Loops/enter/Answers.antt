use Rattle.std.proofs.Common.{is_ok}
use Rattle.select_code.proofs.Starts.{one_entered}
use Rattle.select_code.proofs.loops.Loops.enter.Goals as goal

pub invariant_of-self : goal.invariant_of-self
invariant_of-self c = record { small = one_entered c.args.self.now.starts.items c.push.new.self.items c.args.at (is_ok c.push.result) c.push.ensures.items c.args.self.now.small c.requires }
