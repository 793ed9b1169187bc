use Rattle.depth_check.specs.Search.{tables}
use Rattle.depth_check.proofs.Settling.{chased}
use Rattle.depth_check.proofs.search.chase.Goals as goal

pub loop-turn-preserved : goal.loop-turn-preserved
loop-turn-preserved c = chased c.args.image.now (tables c.args.s.now) (tables c.loop-turn.s) (tables c.step.new.self) c.in-Some.at c.loop-turn.invariant c.step.ensures
