-- The blocks of a program's code: the start block, and one for each copy.
use Rattle.std.specs.Prelude.{ℕ, ◌≡◌, ◌≤◌, List, sum}
use Rattle.std.specs.List.Sorted.{IsNonDecreasingBy, IsPermutation}
use Rattle.c_typed.specs.Trees.{Program}
use Rattle.call_graph.specs.Copies.{AreCopies}
use Rattle.call_graph.specs.declared.types.FnCopy.{FnCopy}
use Rattle.code_place.specs.Pages.{addresses, AreWithinPages, AreInMemory}
use Rattle.program_code.specs.Order.{rank}
use Rattle.program_code.specs.Stated.{sizes}

-- The copies stand in the order of code behind the start block, each block at its address in pages 0 to 3 and none over a page, and this
-- is the sum of all words.
pub record HasBlocks (p : Program) (copies : List FnCopy) (at : List ℕ) (words : ℕ) : Type 0 where
  pub order : List FnCopy
  pub same : IsPermutation copies order
  pub sorted : IsNonDecreasingBy rank order
  pub placed : at ≡ addresses (sizes p order)
  pub pages : AreWithinPages (sizes p order)
  pub memory : AreInMemory (addresses (sizes p order))
  pub sum : words ≡ sum (sizes p order)
  pub within : words ≤ 8192

-- so many words are stated of a program: those of the start block and of the blocks of its copies
pub record HasWords (p : Program) (words : ℕ) : Type 0 where
  pub copies : List FnCopy
  pub known : AreCopies p copies
  pub order : List FnCopy
  pub same : IsPermutation copies order
  pub sum : words ≡ sum (sizes p order)
  pub within : words ≤ 8192
