use Rattle.std.proofs.Common.{◌≡◌, true}
use Rattle.depth_check.specs.Certificate.{seen}
use Rattle.depth_check.specs.Search.{raised}
use Rattle.depth_check.specs.Valid.{is_rising}
use Rattle.depth_check.proofs.finish.raise_all.Given as goal

abbrev pub invariant-loop-round : goal.invariant-loop-round
invariant-loop-round l = (seen l.h ≡ raised l.image l.round (seen l.fn.h)) × (is_rising 0 l.h.rows.items ≡ true)
