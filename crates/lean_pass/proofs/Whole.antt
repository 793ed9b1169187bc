-- What the loop over a block's rows keeps, and where main begins.
use Rattle.std.proofs.Common.{◌≡◌, ℕ, zero, suc, ◌+◌, Bool, true, false, ◌&&◌, if◌then◌else◌, List, [], ◌∷◌, drop, Option, Some, None, slice_get, refl, sym, ap, ◌∙◌, subst, zero-add, arith}
use Rattle.sym_code.specs.Layout.{DataLayout}
use Rattle.sym_code.specs.Programs.{Program, is_word, labels_in_front, lands, front, stand}
use Rattle.sym_code.specs.declared.code.BlockName.{BlockName}
use Rattle.sym_code.specs.declared.code.BlockName.TheVariants as names
use Rattle.sym_code.specs.declared.code.Sym.{Sym}
use Rattle.sym_code.specs.declared.code.Sym.TheVariants as syms
use Rattle.lean_code.specs.Rows.{is_label, olds, old_program}
use Rattle.lean_code.specs.Checked as listed
use Rattle.lean_code.specs.Checked.{ListedBlock, ListedRow, Listed, Sketch, rows_in, is_right_at, are_right}
use Rattle.lean_pass.specs.Tests.{finds_word, is_main, main_begins, main_lands}
use Rattle.lean_pass.specs.Views.{set_of, block_of, row_of, rows_of}
use Rattle.lean_pass.specs.declared.rows.LeanBlock.{LeanBlock}
use Rattle.lean_pass.specs.declared.rows.Row.{Row}

-- ---- rows
pub right_on : (k : Sketch) (b : ListedBlock) (at next : ℕ) (whole : Bool) (left rest : List Row) (row : Row) → left ≡ row ∷ rest → next ≡ at + 1 → is_right_at k b at (row_of row) (rows_of rest) ≡ true
    → are_right k b at (rows_of left) ≡ whole → are_right k b next (rows_of rest) ≡ whole
right_on k b at next whole left rest row is more so e =
    let one : suc at ≡ next = omega arith in
    ap (λ (n : ℕ). are_right k b n (rows_of rest)) (sym one) ∙ ap (λ (c : Bool). c && are_right k b (suc at) (rows_of rest)) (sym so) ∙ ap (λ (l : List Row). are_right k b at (rows_of l)) (sym is) ∙ e

pub right_off : (k : Sketch) (b : ListedBlock) (at : ℕ) (whole : Bool) (left rest : List Row) (row : Row) → left ≡ row ∷ rest → is_right_at k b at (row_of row) (rows_of rest) ≡ false → are_right k b at (rows_of left) ≡ whole → false ≡ whole
right_off k b at whole left rest row is so e = ap (λ (c : Bool). c && are_right k b (suc at) (rows_of rest)) (sym so) ∙ ap (λ (l : List Row). are_right k b at (rows_of l)) (sym is) ∙ e

pub right_end : (k : Sketch) (b : ListedBlock) (at : ℕ) (whole : Bool) (left : List Row) → left ≡ [] → are_right k b at (rows_of left) ≡ whole → true ≡ whole
right_end k b at whole left is e = ap (λ (l : List Row). are_right k b at (rows_of l)) (sym is) ∙ e

-- ---- where threads begin
pub none_outer : (b : LeanBlock) → block_of b ≡ listed.no_block → set_of b.outer ≡ []
none_outer b e = ap (λ (x : ListedBlock). x.outer) e

word_at : (rows : List ListedRow) → is_word (slice_get (olds (rows_in rows)) (labels_in_front (olds (rows_in rows)))) ≡ finds_word rows
word_at [] = refl
word_at (Listed s act n ∷ rows) = by_sym s (word_at rows)
  where
    by_sym : (s : Sym) → is_word (slice_get (olds (rows_in rows)) (labels_in_front (olds (rows_in rows)))) ≡ finds_word rows
        → is_word (slice_get (s ∷ olds (rows_in rows)) (labels_in_front (s ∷ olds (rows_in rows)))) ≡ (if is_label s then finds_word rows else true)
    by_sym (syms.Label label) e = e
    by_sym s e = refl

lands_is : (q : Program) (name : BlockName) (rows : List ListedRow) → q.block name ≡ olds (rows_in rows) → lands q (front q name) ≡ finds_word rows
unfolding stand
lands_is q name rows is =
    ap (λ (n : ℕ). is_word (slice_get (q.block name) n)) (zero-add (labels_in_front (q.block name)))
    ∙ ap (λ (l : List Sym). is_word (slice_get l (labels_in_front l))) is ∙ word_at rows

pub main_lands_is : (k : Sketch) (b : ListedBlock) → b ≡ listed.block_in k.blocks (names.Copy 0) → finds_word b.rows ≡ main_lands k
main_lands_is k b is =
    ap (λ (x : ListedBlock). finds_word x.rows) is
    ∙ sym (lands_is (old_program (listed.lean_of k (λ i. 0) (λ i. 0) (λ i. 0))) (names.Copy 0) (listed.block_in k.blocks (names.Copy 0)).rows refl)

pub main_is : (k : Sketch) (b : ListedBlock) → b ≡ listed.block_in k.blocks (names.Copy 0) → is_main b ≡ main_begins k
main_is k b is = ap is_main is

pub begin_none : (b : LeanBlock) (q : Option (Option listed.ListedNote)) → block_of b ≡ listed.no_block → listed.begins (set_of b.outer) q ≡ listed.begins [] q
begin_none b q e = ap (λ (l : List ℕ). listed.begins l q) (none_outer b e)

pub handler_is : (k : Sketch) (copy : ℕ) (b : ListedBlock) → b ≡ listed.block_in k.blocks (names.Copy copy) → (b.inside && listed.begins k.rest (listed.ahead b.rows)) ≡ listed.begins_at k (Some copy)
handler_is k copy b is = ap (λ (x : ListedBlock). x.inside && listed.begins k.rest (listed.ahead x.rows)) is

pub named_right : (k : Sketch) (b : ListedBlock) (name : BlockName) → b ≡ listed.block_in k.blocks name → listed.is_right_block k b ≡ listed.is_right_block k (listed.block_in k.blocks name)
named_right k b name is = ap (listed.is_right_block k) is
