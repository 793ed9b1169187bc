use Rattle.std.proofs.Common.{length}
use Rattle.narrow_pass.proofs.lending.+are_lending.Given as goal

abbrev pub decreases-are_lending : goal.decreases-are_lending
decreases-are_lending l = length l.given.now
