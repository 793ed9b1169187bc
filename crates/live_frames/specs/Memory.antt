-- Data memory: which bytes are taken, and runs of free ones in the regions that objects and frames can have (Microchip data
-- sheet DS39582, data memory organization; which bytes are left for them is the project's own choice).
use Rattle.std.specs.Prelude.{◌≡◌, ℕ, zero, suc, ◌+◌, ◌<◌, ◌≤◌, nat_lt, nat_le, Bool, true, false, ◌&&◌, ◌||◌, if◌then◌else◌, ◌⊎◌, List, [], ◌∷◌, get_or}
use Rattle.live_frames.specs.declared.memory.Span.{Span}

-- whether the address is marked; one behind data memory never is
abbrev pub is_taken : List Bool → ℕ → Bool
is_taken marks x = get_or marks x false

-- whether the run of so many bytes at the address has the byte at x
abbrev pub covers : ℕ → ℕ → ℕ → Bool
covers address size x = nat_le address x && nat_lt x (address + size)

-- two runs have no byte in common
abbrev pub AreDisjoint : ℕ → ℕ → ℕ → ℕ → Type 0
AreDisjoint a m b n = (x : ℕ) → covers a m x ≡ true → covers b n x ≡ true → ⊥

-- no byte of the run is taken
abbrev pub IsFree : (ℕ → Type 0) → ℕ → ℕ → Type 0
IsFree taken address size = (x : ℕ) → address ≤ x → x < address + size → taken x → ⊥

-- the run lies whole in the region
abbrev pub IsIn : Span → ℕ → ℕ → Type 0
IsIn region address size = (region.address ≤ address) × (address + size ≤ region.address + region.size)

-- a free run of that size lies whole in the region
abbrev pub IsPlace : (ℕ → Type 0) → Span → ℕ → ℕ → Type 0
IsPlace taken region size address = IsIn region address size × IsFree taken address size

-- the lowest address of the region at which so many bytes are free
abbrev pub IsLowestIn : (ℕ → Type 0) → Span → ℕ → ℕ → Type 0
IsLowestIn taken region size address = IsPlace taken region size address × ((b : ℕ) → b < address → IsPlace taken region size b → ⊥)

-- the region has no such address
abbrev pub IsFull : (ℕ → Type 0) → Span → ℕ → Type 0
IsFull taken region size = (b : ℕ) → IsPlace taken region size b → ⊥

-- the lowest address in the first region that has one
abbrev pub IsLowest : (ℕ → Type 0) → List Span → ℕ → ℕ → Type 0
IsLowest taken [] size address = ⊥
IsLowest taken (region ∷ regions) size address = IsLowestIn taken region size address ⊎ (IsFull taken region size × IsLowest taken regions size address)

abbrev pub AreFull : (ℕ → Type 0) → List Span → ℕ → Type 0
AreFull taken [] size = Unit {0}
AreFull taken (region ∷ regions) size = IsFull taken region size × AreFull taken regions size

-- The regions in their order. The bytes 70h to 7Fh, which each bank shows, are kept for other things.
abbrev pub regions : List Span
regions = record { address = 0x20; size = 0x50 } ∷ record { address = 0xA0; size = 0x50 } ∷ record { address = 0x110; size = 0x60 } ∷ record { address = 0x190; size = 0x60 } ∷ []

-- Where something of so many bytes stands: what has none at 20h, and anything else at the lowest address in the first region
-- where none of its bytes is taken.
abbrev pub Stands : (ℕ → Type 0) → ℕ → ℕ → Type 0
Stands taken size address = (size ≡ 0 → address ≡ 0x20) × (0 < size → IsLowest taken regions size address)

-- nowhere are so many bytes free in one region
abbrev pub HasNoPlace : (ℕ → Type 0) → ℕ → Type 0
HasNoPlace taken size = AreFull taken regions size

abbrev pub counted : (ℕ → Bool) → ℕ → ℕ
counted test x = if test x then 1 else 0

-- how many of the first n addresses pass a test
unfoldable pub count_below : (ℕ → Bool) → ℕ → ℕ
count_below test zero = 0
count_below test (suc n) = count_below test n + counted test n
