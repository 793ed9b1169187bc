use Rattle.select_code.proofs.Starts.{one_left}
use Rattle.select_code.proofs.loops.Loops.leave.Goals as goal

pub invariant_of-self : goal.invariant_of-self
invariant_of-self c = record { small = one_left c.args.self.now.starts.items c.pop.new.self.items c.pop.result c.pop.ensures.items c.args.self.now.small }
