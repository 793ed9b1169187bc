-- Blocks of code in the pages of program memory: pages 0 to 3 of 2,048 words each (Microchip data sheet DS39582, program
-- memory organization). That the blocks stand in their order, each whole in one page, is the project's own choice.
use Rattle.std.specs.Prelude.{◌≡◌, ℕ, ◌+◌, ◌-◌, ◌*◌, ◌%◌, ◌<◌, ◌≤◌, nat_lt, List, [], ◌∷◌, length, slice_index, slice_get, Some, if◌then◌else◌}

abbrev pub page_words : ℕ
page_words = 2048

abbrev pub memory_words : ℕ
memory_words = 4 * page_words

-- what is left of the page in which the address lies
abbrev pub rest_of_page : ℕ → ℕ
rest_of_page address = page_words - address % page_words

-- Where a block of so many words begins, if the one before it ends at `end`: there, or at the next page where it is more than
-- the rest of this one.
abbrev pub start_of : ℕ → ℕ → ℕ
start_of end words = if nat_lt (rest_of_page end) words then end + rest_of_page end else end

-- The addresses of some blocks, one behind the other from `end` on.
abbrev pub addresses_from : ℕ → List ℕ → List ℕ
addresses_from end [] = []
addresses_from end (words ∷ blocks) = start_of end words ∷ addresses_from (start_of end words + words) blocks

-- The placing of blocks of so many words: the first one at 0000h.
abbrev pub addresses : List ℕ → List ℕ
addresses blocks = addresses_from 0 blocks

-- each block is at most a page
abbrev pub AreWithinPages : List ℕ → Type 0
AreWithinPages blocks = (k : ℕ) → k < length blocks → slice_index blocks k ≤ page_words

-- the block of that number is the first that is over a page, and it has so many words
abbrev pub IsFirstOver : List ℕ → ℕ → ℕ → Type 0
IsFirstOver blocks block words = (slice_get blocks block ≡ Some words) × (page_words < words) × ((k : ℕ) → k < block → slice_index blocks k ≤ page_words)

-- each block begins in a page from 0 to 3
abbrev pub AreInMemory : List ℕ → Type 0
AreInMemory at = (k : ℕ) → k < length at → slice_index at k < memory_words

-- some block begins behind page 3
abbrev pub PassesMemory : List ℕ → Type 0
PassesMemory at = (k : ℕ) × (k < length at) × (memory_words ≤ slice_index at k)
