use Rattle.headline_trace.proofs.LeanFollowed as followed
use Rattle.headline_trace.proofs.lean_links.lean_blocks_follow.Goals as goal

pub returns : goal.returns
returns c = followed.lean_blocks_follow
