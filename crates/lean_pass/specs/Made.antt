-- What the pass makes of the blocks of a program.
use Rattle.std.specs.Prelude.{ℕ, ◌≡◌, Bool, true, false, not, ◌&&◌, ◌||◌, if◌then◌else◌, List, [], ◌∷◌, Option, Some, None}
use Rattle.std.specs.List.{AllZip}
use Rattle.core_code.specs.Bytes.{Object}
use Rattle.sym_code.specs.Layout.{DataLayout}
use Rattle.sym_code.specs.Programs.{same_name}
use Rattle.sym_code.specs.declared.code.BlockName.{BlockName}
use Rattle.sym_code.specs.declared.code.Literal.TheVariants.{Number}
use Rattle.sym_code.specs.declared.code.Sym.{Sym}
use Rattle.sym_code.specs.declared.code.Sym.TheVariants as syms
use Rattle.sym_code.specs.declared.code.SymBlock.{SymBlock}
use Rattle.lean_code.specs.Rows as certified
use Rattle.lean_code.specs.Rows.{olds, is_label}
use Rattle.lean_code.specs.Checked as listed
use Rattle.lean_code.specs.Admissible.{IsAdmissible, AreByRows}
use Rattle.lean_code.specs.Steady.{are_steady}
use Rattle.lean_pass.specs.Views.{act_of, rows_of}
use Rattle.lean_pass.specs.declared.rows.Act.{Act}
use Rattle.lean_pass.specs.declared.rows.LeanBlock.{LeanBlock}

-- a block of the certificate has the code of a given one
pub record IsSeen (given : SymBlock) (block : LeanBlock) : Type 0 where
  pub name : block.name ≡ given.name
  pub code : olds (listed.rows_in (rows_of block.rows.items)) ≡ given.list.items

abbrev pub put_of : Sym → Act → Option Sym
put_of s act = if is_label s then Some s else certified.put_of s (act_of act)

-- ---- names
abbrev pub is_named : List LeanBlock → BlockName → Bool
is_named [] name = false
is_named (b ∷ bs) name = same_name name b.name || is_named bs name

abbrev pub are_distinct : List LeanBlock → Bool
are_distinct [] = true
are_distinct (b ∷ bs) = not (is_named bs b.name) && are_distinct bs

-- The blocks of a certificate have the code of a given block under its name.
abbrev pub Serves : List listed.ListedBlock → SymBlock → Type 0
Serves blocks given = given.list.items ≡ olds (listed.rows_in (listed.block_in blocks given.name).rows)

-- ---- what is made
pub record IsAsGiven (given made : SymBlock) : Type 0 where
  pub name : made.name ≡ given.name
  pub code : made.list.items ≡ given.list.items

-- The given blocks, or those that a certificate makes that passes the tests. Given is of each copy how many bytes its variables have, and which objects
-- are lent.
pub data IsLean (l : DataLayout) (handler : Option ℕ) (variables : ℕ → ℕ) (lent : Object → Bool) (given made : List SymBlock) : Type 0 where
  Kept : AllZip IsAsGiven given made → IsLean l handler variables lent given made
  Made : (k : listed.Sketch) → k.layout ≡ l → k.handler ≡ handler → listed.IsLeanOf k given made → are_steady k.blocks ≡ true → IsAdmissible variables lent k → AreByRows k given made → IsLean l handler variables lent given made

pub record HasName (given made : SymBlock) : Type 0 where
  pub name : made.name ≡ given.name
