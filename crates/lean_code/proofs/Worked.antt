-- The sample passes, by computing.
use Rattle.std.proofs.Common.{refl}
use Rattle.sym_code.specs.Layout.{address_of, general_at, owner}
use Rattle.sym_code.specs.Programs.{stand}
use Rattle.lean_code.specs.Changes.{aim}
use Rattle.lean_code.specs.Sample.{SamplePasses}

pub sample_passes : SamplePasses
unfolding aim owner general_at address_of stand
sample_passes = (refl, refl)
