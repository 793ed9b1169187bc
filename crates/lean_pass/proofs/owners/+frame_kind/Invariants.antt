use Rattle.std.proofs.Common.{length}
use Rattle.lean_pass.proofs.owners.+frame_kind.Given as goal

abbrev pub decreases-frame_kind : goal.decreases-frame_kind
decreases-frame_kind l = length l.lines.now
