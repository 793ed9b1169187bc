-- What a leaner block has in common with the block that it was made of.
use Rattle.std.specs.Prelude.{ℕ, ◌≡◌, Bool, true, List, Option}
use Rattle.std.specs.List.{AllZip}
use Rattle.core_code.specs.Bytes.{Object}
use Rattle.sym_code.specs.Layout.{DataLayout}
use Rattle.sym_code.specs.declared.code.BlockName.TheVariants.{Start}
use Rattle.sym_code.specs.declared.code.SymBlock.{SymBlock}
use Rattle.lean_code.specs.Admissible.{puts_bytes, ends_by_word}
use Rattle.lean_code.specs.Rows.{Row, olds, puts}
use Rattle.lean_pass.specs.Made.{IsLean}

-- There are rows by which it is made of the given one, of which each number that is put fits into a literal. The start block stays as
-- it is, and each ends by a word that did.
pub record IsLeaner (given block : SymBlock) : Type 0 where
  pub name : block.name ≡ given.name
  pub rows : List Row
  pub before : given.list.items ≡ olds rows
  pub after : block.list.items ≡ puts rows
  pub numbers : puts_bytes rows ≡ true
  pub start : given.name ≡ Start → block.list.items ≡ given.list.items
  pub ends : ends_by_word true given.list.items ≡ true → ends_by_word true block.list.items ≡ true

abbrev pub BlocksAreLeaner : Type 0
BlocksAreLeaner = (l : DataLayout) (handler : Option ℕ) (variables : ℕ → ℕ) (lent : Object → Bool) (given lean : List SymBlock) → IsLean l handler variables lent given lean → AllZip IsLeaner given lean
