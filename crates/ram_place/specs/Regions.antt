-- The regions of data memory, as far as a chip has them: the part of each that lies below the top. With the top at 200h these are all of them.
use Rattle.std.specs.Prelude.{◌≡◌, ℕ, ◌+◌, ◌-◌, ◌<◌, List, map}
use Rattle.live_frames.specs.Memory.{IsLowest, AreFull, regions}
use Rattle.live_frames.specs.declared.memory.Span.{Span}

-- without the bytes that lie at the top or above it
abbrev pub below : ℕ → Span → Span
below top region = record { address = region.address; size = region.size - (region.address + region.size - top) }

abbrev pub regions_below : ℕ → List Span
regions_below top = map (below top) regions

-- Where something of so many bytes stands below the top: what has none at 20h, and anything else at the lowest address in the first region
-- where none of its bytes is taken.
abbrev pub StandsBelow : ℕ → (ℕ → Type 0) → ℕ → ℕ → Type 0
StandsBelow top taken size address = (size ≡ 0 → address ≡ 0x20) × (0 < size → IsLowest taken (regions_below top) size address)

-- nowhere below the top are so many bytes free in one region
abbrev pub HasNoPlaceBelow : ℕ → (ℕ → Type 0) → ℕ → Type 0
HasNoPlaceBelow top taken size = AreFull taken (regions_below top) size
