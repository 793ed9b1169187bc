use Rattle.pic_sim.proofs.First.{is_chip}
use Rattle.pic_sim.proofs.running.simulate.Goals as goal

pub simulate_any-requires-clause-chip : goal.simulate_any-requires-clause-chip
simulate_any-requires-clause-chip g c = is_chip
