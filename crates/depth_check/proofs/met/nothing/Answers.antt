use Rattle.std.proofs.Common.{false, refl, replicate}
use Rattle.depth_check.proofs.Spots.{index_none}
use Rattle.depth_check.proofs.Trail.{nothing_met}
use Rattle.depth_check.proofs.met.nothing.Goals as goal

pub returns-clause-order : goal.returns-clause-order
returns-clause-order c = nothing_met (record { marks = replicate 8192 false; places = replicate 8192 0; count = 0 }) refl refl refl

pub returns-clause-none : goal.returns-clause-none
returns-clause-none c = λ k. index_none false 8192 k
