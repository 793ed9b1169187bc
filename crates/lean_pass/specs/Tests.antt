-- Parts of the test, as the code goes them.
use Rattle.std.specs.Prelude.{Bool, true, false, not, ◌&&◌, if◌then◌else◌, List, [], ◌∷◌, None}
use Rattle.sym_code.specs.Programs.{lands, front}
use Rattle.sym_code.specs.declared.code.BlockName.TheVariants as names
use Rattle.lean_code.specs.Rows.{At, old_of, is_label, is_dropped, goes_on, old_program}
use Rattle.lean_code.specs.Checked.{ListedBlock, ListedRow, Listed, Sketch, ahead, begins, block_in, lean_of, row_in, rows_in}

abbrev pub goes_on_from : ListedRow → List ListedRow → Bool
goes_on_from (Listed s act n) rest = goes_on (At s act None ∷ rows_in rest)

-- behind the labels in front of a list stands a word
abbrev pub finds_word : List ListedRow → Bool
finds_word [] = false
finds_word (Listed s act n ∷ rows) = if is_label s then finds_word rows else true

abbrev pub is_main : ListedBlock → Bool
is_main b = not b.inside && begins [] (ahead b.rows)

abbrev pub main_begins : Sketch → Bool
main_begins k = is_main (block_in k.blocks (names.Copy 0))

abbrev pub main_lands : Sketch → Bool
main_lands k = lands (old_program (lean_of k (λ i. 0) (λ i. 0) (λ i. 0))) (front (old_program (lean_of k (λ i. 0) (λ i. 0) (λ i. 0))) (names.Copy 0))

-- ---- what is made up to a row ends by a word
abbrev pub ends_behind : Bool → ListedRow → Bool
ends_behind last row = if is_dropped (row_in row) then last else not (is_label (old_of (row_in row)))
