use Rattle.std.proofs.Common.{length}
use Rattle.lean_pass.proofs.hidden.+are_clear_frames.Given as goal

abbrev pub decreases-are_clear_frames : goal.decreases-are_clear_frames
decreases-are_clear_frames l = length l.lent.now
