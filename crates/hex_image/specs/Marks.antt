-- Marks at addresses where a byte was given.
use Rattle.std.specs.Prelude.{◌≡◌, ℕ, ◌<◌, nat_lt, List, length, slice_index_or, false}
use Rattle.std.specs.Prelude.{Bool}
use Rattle.hex_image.specs.HexFile.{Given, times}

-- at each address below 4400h a mark says whether a byte was given there
pub record AreMarks (given : List Given) (marks : List Bool) : Type 0 where
  pub count : length marks ≡ 0x4400
  pub each : (address : ℕ) → address < 0x4400 → slice_index_or marks address false ≡ nat_lt 0 (times given address)
