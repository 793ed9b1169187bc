use Rattle.std.proofs.Common.{arith}
use Rattle.depth_check.specs.Certificate.{seen}
use Rattle.depth_check.proofs.Trail.{all_round}
use Rattle.depth_check.proofs.met.reach.Goals as goal

pub returns : goal.returns
returns c = all_round c.args.image.now (seen c.args.h.now) c.requires.rising c.loop-turn.met c.loop-turn.turn c.loop-turn.invariant.0 (let t = c.loop-turn-test.false in omega (arith, t)) c.loop-turn.invariant.1
