-- The words that are stated of a program's blocks: the start block, and one for each copy.
use Rattle.std.specs.Prelude.{ℕ, ◌+◌, ◌≡◌, ◌≤◌, List, [], ◌∷◌, map, Option, Some, None, slice_get}
use Rattle.std.specs.List.Sorted.{IsNonDecreasingBy, IsPermutation}
use Rattle.c_typed.specs.Nodes.{capped}
use Rattle.c_typed.specs.Trees.{Program}
use Rattle.c_typed.specs.Words.{start_size}
use Rattle.call_graph.specs.declared.types.FnCopy.{FnCopy}
use Rattle.code_place.specs.Pages.{start_of, addresses, AreWithinPages, AreInMemory}
use Rattle.ram_place.specs.Sizes.{block_words}
use Rattle.sym_code.specs.Words.{words_in}
use Rattle.sym_code.specs.declared.code.BlockName.{BlockName}
use Rattle.sym_code.specs.declared.code.BlockName.TheVariants.{Start, Copy}
use Rattle.sym_code.specs.declared.code.SymBlock.{SymBlock}
use Rattle.program_code.specs.Order.{rank}

-- the stated words of a copy's block
unfoldable pub copy_words : Program → FnCopy → ℕ
copy_words p copy = capped (block_words p copy.function)

-- the stated words of the start block, and of the copies in this order
abbrev pub sizes : Program → List FnCopy → List ℕ
sizes p order = capped (start_size p) ∷ map (copy_words p) order

-- those of the block of a name
abbrev pub words_of_copy : Program → Option FnCopy → ℕ
words_of_copy p None = 0
words_of_copy p (Some copy) = block_words p copy.function

abbrev pub words_for : Program → List FnCopy → BlockName → ℕ
words_for p copies Start = start_size p
words_for p copies (Copy c) = words_of_copy p (slice_get copies c)

-- a block has at most its stated words
abbrev pub IsStated : Program → List FnCopy → SymBlock → Type 0
IsStated p copies block = words_in block.list.items ≤ words_for p copies block.name

abbrev pub AreStated : Program → List FnCopy → List SymBlock → Type 0
AreStated p copies blocks = (k : ℕ) (block : SymBlock) → slice_get blocks k ≡ Some block → IsStated p copies block

-- The copies stand in the order of code behind the start block, each block at its address in pages 0 to 3, and none is stated to be over
-- a page.
pub record IsPaged (p : Program) (copies : List FnCopy) (at : List ℕ) : Type 0 where
  pub order : List FnCopy
  pub same : IsPermutation copies order
  pub sorted : IsNonDecreasingBy rank order
  pub stand : at ≡ addresses (sizes p order)
  pub pages : AreWithinPages (sizes p order)
  pub memory : AreInMemory (addresses (sizes p order))

-- where blocks of so many words end that are placed one behind the other from this address on
abbrev pub end_of_code : ℕ → List ℕ → ℕ
end_of_code end [] = end
end_of_code end (words ∷ blocks) = end_of_code (start_of end words + words) blocks
