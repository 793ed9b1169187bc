use Rattle.std.proofs.Common.{◌∙◌}
use Rattle.chip_84a.proofs.Boundary.{flags_raised}
use Rattle.chip_84a.proofs.chip.raise.Goals as goal

pub returns-clause-state : goal.returns-clause-state
returns-clause-state c = c.raise.ensures.state ∙ flags_raised c.args.flags c.args.processor.now
