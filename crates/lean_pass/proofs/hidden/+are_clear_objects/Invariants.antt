use Rattle.std.proofs.Common.{length}
use Rattle.lean_pass.proofs.hidden.+are_clear_objects.Given as goal

abbrev pub decreases-are_clear_objects : goal.decreases-are_clear_objects
decreases-are_clear_objects l = length l.lines.now
