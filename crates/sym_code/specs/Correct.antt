-- What a run of symbolic code needs to follow one of byte code: how it begins.
use Rattle.std.specs.Prelude.{◌≡◌, ℕ, ◌<◌, List, [], length, Some, slice_index_or}
use Rattle.core_code.specs.Bytes.{Held, Unset}
use Rattle.core_code.specs.declared.code.Byte.TheVariants.{Static}
use Rattle.sym_code.specs.Effect.{Memory}
use Rattle.sym_code.specs.Layout.{DataLayout, address_of, general_at, shown}
use Rattle.sym_code.specs.Machine.{Entry}
use Rattle.sym_code.specs.Registers.{Registers, Fits}

-- The state in which main begins: static objects hold their first bytes, and all else holds anything.
pub record IsBegun (first : List (List Held)) (l : DataLayout) (r : Registers) (m : Memory) : Type 0 where
  pub registers : Fits r
  pub bytes : (k : ℕ) → m k < 256
  pub static : (n offset k : ℕ) → offset < length (slice_index_or first n []) → general_at (address_of l (Static n offset)) ≡ Some k
      → m k ≡ shown l (slice_index_or (slice_index_or first n []) offset Unset)

-- the handler may find anything in the registers that fits into them
abbrev pub AreEntries : Entry → Type 0
AreEntries e = (k : ℕ) → Fits (e k)
