-- The words of program memory (DS39582: 8K words of 14 bits).
use Rattle.std.specs.Prelude.{◌≡◌, ◌<◌, ℕ, List, length, slice_index}

pub record AreWords (words : List ℕ) : Type 0 where
  pub count : length words ≡ 8192
  pub each : (at : ℕ) → slice_index words at < 0x4000
