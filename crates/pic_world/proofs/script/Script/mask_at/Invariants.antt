use Rattle.std.proofs.Common.{◌≡◌, ◌<◌, length}
use Rattle.std.specs.Prelude.{bit_or}
use Rattle.pic_world.specs.Arrivals.{IsRising}
use Rattle.pic_world.specs.Arrivals.{arriving}
use Rattle.pic_world.proofs.script.Script.mask_at.Given as goal

abbrev pub invariant-loop-rest : goal.invariant-loop-rest
invariant-loop-rest l = (bit_or l.mask (arriving l.rest l.index) ≡ arriving l.self.arrivals.items l.index) × (l.mask < 2048) × IsRising l.index l.rest

abbrev pub decreases-loop-rest : goal.decreases-loop-rest
decreases-loop-rest l = length l.rest
