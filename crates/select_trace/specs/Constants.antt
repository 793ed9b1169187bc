-- What a shift by a constant does in place.
use Rattle.std.specs.Prelude.{◌≡◌, ℕ, ◌^◌, ◌<◌}
use Rattle.select_trace.specs.Run.{Machine}
use Rattle.select_trace.specs.Code.{Operand, Way, Left, Right, SignedRight}
use Rattle.select_trace.specs.Links.{Fine}
use Rattle.select_trace.specs.Values.{val}
use Rattle.select_trace.specs.Shifts.{GoneLeft, GoneRight, IsTop}

abbrev pub WayGone : Way → ℕ → ℕ → ℕ → ℕ → ℕ → Type 0
WayGone Left b s n i a = GoneLeft b n i a
WayGone Right b s n i a = GoneRight b 0 n i a
WayGone SignedRight b s n i a = GoneRight b s n i a × IsTop b a s

pub record Shifts (way : Way) (s : ℕ) (t u : Machine) (at : Operand) (w count : ℕ) : Type 0 where
  pub fine : Fine u
  pub gone : WayGone way (256 ^ w) s (val (λ j. t.memory (at j)) w) count (val (λ j. u.memory (at j)) w)
  pub others : (a : ℕ) → ((j : ℕ) → j < w → a ≡ at j → ⊥) → u.memory a ≡ t.memory a
