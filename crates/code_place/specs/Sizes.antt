-- Where blocks have room.
use Rattle.std.specs.Prelude.{◌≡◌, ℕ, ◌+◌, ◌%◌, ◌<◌, ◌≤◌, List, Option, Some, None, slice_get}
use Rattle.sym_code.specs.declared.code.SymBlock.{SymBlock}
use Rattle.sym_code.specs.Words.{words_in}

-- the address is at or before the next block's
abbrev pub IsBefore : ℕ → Option ℕ → Type 0
IsBefore address (Some next) = address ≤ next
IsBefore address None = address ≤ 8192

-- So many words fit at an address: it is in pages 0 to 3, and they end before their page does and before the next block.
abbrev pub HasRoom : ℕ → ℕ → Option ℕ → Type 0
HasRoom start words next = (start < 8192) × (start % 2048 + words ≤ 2048) × IsBefore (start + words) next

-- a block has room at an address
abbrev pub Stands : SymBlock → Option ℕ → Option ℕ → Type 0
Stands block (Some start) next = HasRoom start (words_in block.list.items) next
Stands block None next = ⊥

-- each block has an address, and room there
abbrev pub Fit : List SymBlock → List ℕ → Type 0
Fit blocks at = (k : ℕ) (block : SymBlock) → slice_get blocks k ≡ Some block → Stands block (slice_get at k) (slice_get at (k + 1))
