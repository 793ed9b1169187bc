-- The code of a step at one byte more.
use Rattle.std.proofs.Common.{◌≡◌, ℕ, ◌+◌, ◌++◌, ap, add-one}
use Rattle.math_helpers.specs.declared.layout.RoutineLayout.{RoutineLayout}
use Rattle.math_helpers.specs.declared.steps.Step.{Step}
use Rattle.math_helpers.specs.Pieces.{each_byte, step_code}

pub each_more : (l : RoutineLayout) (step : Step) (k : ℕ) → each_byte l step (k + 1) ≡ each_byte l step k ++ step_code l step k
each_more l step k = ap (each_byte l step) (add-one k)
