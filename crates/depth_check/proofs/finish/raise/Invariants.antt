use Rattle.std.proofs.Common.{◌≡◌, drop}
use Rattle.depth_check.specs.Certificate.{seen}
use Rattle.depth_check.specs.Search.{raised_from}
use Rattle.depth_check.proofs.finish.raise.Given as goal

abbrev pub invariant-loop-i : goal.invariant-loop-i
invariant-loop-i l = (raised_from l.image (seen l.h) (drop l.i l.h.rows.items) ≡ raised_from l.image (seen l.fn.h) l.fn.h.rows.items) × (l.h.rows.items ≡ l.fn.h.rows.items)
