-- What is read off a run of the chip: where its arrivals fall in its trace, at which moments no run of the handler is under way,
-- and how many runs of it have begun.
use Rattle.std.specs.Prelude.{ℕ, zero, suc, ◌+◌, ◌-◌, Bool, not, ◌&&◌, nat_le, nat_lt, if◌then◌else◌, List, [], ◌∷◌, length}
use Rattle.pic_world.specs.declared.Arrival.{Arrival}
use Rattle.pic_world.specs.declared.Event.{Event}
use Rattle.pic_world.specs.Arrivals.{arriving}
use Rattle.pic_chip.specs.Run.{Setting, moment, is_handling, takes}

-- ---- of the traces at all moments, and the arrivals
-- Each arrival up to moment n, with the length of the trace at its moment in place of that moment.
abbrev pub read_off : (ℕ → List Event) → ℕ → List Arrival → List Arrival
read_off trace n [] = []
read_off trace n (a ∷ arrivals) =
    if nat_le a.t n then record a { t = length (trace a.t) } ∷ read_off trace n arrivals else read_off trace n arrivals

-- For each arrival from moment 1 to moment n the length of the trace at the moment before it.
abbrev pub lengths_before : (ℕ → List Event) → ℕ → List Arrival → List ℕ
lengths_before trace n [] = []
lengths_before trace n (a ∷ arrivals) =
    if nat_lt 0 a.t && nat_le a.t n then length (trace (a.t - 1)) ∷ lengths_before trace n arrivals else lengths_before trace n arrivals

-- ---- of a run
-- The run hasn't ended, and no run of the handler is under way: no interrupt was taken whose RETFIE hasn't run since, and none
-- is taken here.
abbrev pub is_free : Setting → ℕ → Bool
is_free g k = not (moment g k).stopped && not (is_handling (arriving g.arrivals k) (moment g k))

-- The last such moment up to n; at reset no interrupt is enabled.
unfoldable pub last_free : Setting → ℕ → ℕ
last_free g zero = 0
last_free g (suc n) = if is_free g (suc n) then suc n else last_free g n

-- how many interrupts were taken before moment n; behind the end of the run none is
unfoldable pub runs_begun : Setting → ℕ → ℕ
runs_begun g zero = 0
runs_begun g (suc k) = runs_begun g k + (if not (moment g k).stopped && takes (arriving g.arrivals k) (moment g k) then 1 else 0)
