use Rattle.chip_84a.proofs.Second.{is_chip}
use Rattle.chip_84a.proofs.simulating.simulate84.Goals as goal

pub simulate_any-requires-clause-chip : goal.simulate_any-requires-clause-chip
simulate_any-requires-clause-chip g c = is_chip
