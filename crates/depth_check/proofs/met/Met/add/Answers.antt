use Rattle.depth_check.proofs.Trail.{has_room, added}
use Rattle.depth_check.proofs.met.Met.add.Goals as goal

pub bounds-self-self : goal.bounds-self-self
bounds-self-self c = has_room c.args.self.now c.args.at c.requires.order c.requires.below c.requires.new

pub returns : goal.returns
returns c = added c.args.self.now c.args.at c.requires.order c.requires.below c.requires.new
