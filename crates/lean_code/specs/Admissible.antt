-- When a certificate is admissible for a pass that stands between others: what is counted stays where something comes, the start block
-- stays as it is, numbers are bytes, and each block ends by a word.
use Rattle.std.specs.Prelude.{◌≡◌, ℕ, ◌<◌, Bool, true, false, not, ◌&&◌, ◌||◌, nat_lt, List, [], ◌∷◌}
use Rattle.std.specs.List.{list_all}
use Rattle.core_code.specs.Bytes.{Object}
use Rattle.sym_code.specs.Marks.{is_marked}
use Rattle.sym_code.specs.Programs.{same_name, block_in}
use Rattle.sym_code.specs.declared.code.BlockName.{BlockName}
use Rattle.sym_code.specs.declared.code.BlockName.TheVariants as names
use Rattle.sym_code.specs.declared.code.Literal.TheVariants.{Number}
use Rattle.sym_code.specs.declared.code.LiteralOperation.{LiteralOperation}
use Rattle.sym_code.specs.declared.code.Sym.{Sym}
use Rattle.sym_code.specs.declared.code.Sym.TheVariants as syms
use Rattle.sym_code.specs.declared.code.SymBlock.{SymBlock}
use Rattle.lean_code.specs.Clear.{IsClear}
use Rattle.lean_code.specs.Checked as listed
use Rattle.lean_code.specs.Checked.{ListedBlock, Sketch, rows_in}
use Rattle.lean_code.specs.Rows.{Act, Keeps, Puts, FlagName, narrowed, cleared, reads_before, tests_flag, Row, At, old_of, is_reached, is_label, is_dropped, olds, puts}

-- ---- rows
-- The instruction is one that counts, something comes to it, and it is left out. Given is how many bytes the variables of each copy have.
abbrev pub loses_mark : (ℕ → ℕ) → Row → Bool
loses_mark variables row = is_reached row && (is_dropped row && is_marked variables (old_of row))

abbrev pub is_byte_act : Act → Bool
is_byte_act (Puts op n) = nat_lt n 256
is_byte_act act = true

abbrev pub is_keep : Act → Bool
is_keep Keeps = true
is_keep act = false

abbrev pub act_of : Row → Act
act_of (At s act said) = act

abbrev pub is_admissible_row : (ℕ → ℕ) → Bool → Row → Bool
is_admissible_row variables whole row = not (loses_mark variables row) && (is_byte_act (act_of row) && (not whole || is_keep (act_of row)))

-- ---- lists of rows
-- no instruction that counts is left out where something comes
abbrev pub keeps_marks : (ℕ → ℕ) → List Row → Bool
keeps_marks variables [] = true
keeps_marks variables (row ∷ rows) = not (loses_mark variables row) && keeps_marks variables rows

-- each number that is put is a byte
abbrev pub puts_bytes : List Row → Bool
puts_bytes [] = true
puts_bytes (row ∷ rows) = is_byte_act (act_of row) && puts_bytes rows

-- all stays as it is
abbrev pub keeps_all : List Row → Bool
keeps_all [] = true
keeps_all (row ∷ rows) = is_keep (act_of row) && keeps_all rows

-- all these at once, the last one of a block that is to stay as it is
abbrev pub are_admissible_rows : (ℕ → ℕ) → Bool → List Row → Bool
are_admissible_rows variables whole [] = true
are_admissible_rows variables whole (row ∷ rows) = is_admissible_row variables whole row && are_admissible_rows variables whole rows

-- ---- words
-- the instruction is no label
abbrev pub becomes_word : Sym → Bool
becomes_word s = not (is_label s)

-- the list ends by a word, or is empty behind one
abbrev pub ends_by_word : Bool → List Sym → Bool
ends_by_word last [] = last
ends_by_word last (s ∷ list) = ends_by_word (becomes_word s) list

-- ---- blocks
abbrev pub is_admissible_block : (ℕ → ℕ) → ListedBlock → Bool
is_admissible_block variables b = are_admissible_rows variables (same_name b.name names.Start) (rows_in b.rows) && ends_by_word true (puts (rows_in b.rows))

abbrev pub are_admissible : (ℕ → ℕ) → List ListedBlock → Bool
are_admissible variables [] = true
are_admissible variables (b ∷ bs) = is_admissible_block variables b && are_admissible variables bs

-- the rows of the block of a name
abbrev pub rows_at : Sketch → BlockName → List Row
rows_at k name = rows_in (listed.block_in k.blocks name).rows

-- A certificate that passes all these, and by which no byte of an object that is lent is hidden from accesses through FSR. Given is which
-- objects are lent.
pub record IsAdmissible (variables : ℕ → ℕ) (lent : Object → Bool) (k : Sketch) : Type 0 where
  pub marks : (name : BlockName) → keeps_marks variables (rows_at k name) ≡ true
  pub numbers : (name : BlockName) → puts_bytes (rows_at k name) ≡ true
  pub start : keeps_all (rows_at k names.Start) ≡ true
  pub ends : (name : BlockName) → ends_by_word true (puts (rows_at k name)) ≡ true
  pub hidden : IsClear k.hidden k.layout lent

-- The blocks of two programs are those of a certificate, under every name.
pub record AreByRows (k : Sketch) (given made : List SymBlock) : Type 0 where
  pub given_is : (name : BlockName) → block_in given name ≡ olds (rows_at k name)
  pub made_is : (name : BlockName) → block_in made name ≡ puts (rows_at k name)

-- ---- laws
abbrev pub TestedIsAdmissible : Type 0
TestedIsAdmissible = (variables : ℕ → ℕ) (lent : Object → Bool) (k : Sketch) → are_admissible variables k.blocks ≡ true → IsClear k.hidden k.layout lent → IsAdmissible variables lent k

-- what stays as it is
abbrev pub KeptIsSame : Type 0
KeptIsSame = (rows : List Row) → keeps_all rows ≡ true → puts rows ≡ olds rows

-- What holds of each instruction of the given code, of each operation on W and a byte, of an instruction wherever its result goes, of
-- the clearing of a byte in which W may be stored, of a byte before one of the same frame, and of a flag that is tested in its place, holds of each that is made.
abbrev pub BytesKeep : Type 0
BytesKeep =
    (test : Sym → Bool) (rows : List Row) → puts_bytes rows ≡ true → ((op : LiteralOperation) (n : ℕ) → n < 256 → test (syms.Literal op (Number n)) ≡ true) → ((s : Sym) → test s ≡ true → test (narrowed s) ≡ true) → ((s : Sym) → test s ≡ true → test (cleared s) ≡ true) → ((n : ℕ) (s : Sym) → test s ≡ true → test (reads_before n s) ≡ true) → ((flag : FlagName) (turned : Bool) (s : Sym) → test s ≡ true → test (tests_flag flag turned s) ≡ true)
    → list_all test (olds rows) ≡ true → list_all test (puts rows) ≡ true
