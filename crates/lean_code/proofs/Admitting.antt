-- What the tests of a certificate tell of the rows under each name.
use Rattle.std.proofs.Common.{◌≡◌, ℕ, ◌⊎◌, inl, inr, Bool, true, false, not, ◌&&◌, ◌||◌, if◌then◌else◌, List, [], ◌∷◌, refl, sym, ap, subst}
use Rattle.sym_code.specs.Programs.{same_name}
use Rattle.sym_code.specs.declared.code.BlockName.{BlockName}
use Rattle.sym_code.specs.declared.code.BlockName.TheVariants as names
use Rattle.sym_code.specs.declared.code.Sym.{Sym}
use Rattle.sym_code.specs.declared.code.Sym.TheVariants as syms
use Rattle.lean_code.specs.Checked.{ListedBlock, rows_in, no_block, block_in}
use Rattle.lean_code.specs.Admissible.{loses_mark, is_byte_act, is_keep, act_of, is_admissible_row, keeps_marks, puts_bytes, keeps_all, are_admissible_rows, ends_by_word, is_admissible_block, are_admissible, TestedIsAdmissible, KeptIsSame}
use Rattle.lean_code.specs.Rows.{Keeps, Row, At, puts}
use Rattle.lean_code.proofs.Lists.{never}

and_l : (a b : Bool) → (a && b) ≡ true → a ≡ true
and_l true b e = refl
and_l false b e = e

and_r : (a b : Bool) → (a && b) ≡ true → b ≡ true
and_r true b e = e
and_r false b e = never e

both : (a b : Bool) → a ≡ true → b ≡ true → (a && b) ≡ true
both true b e k = k
both false b e k = e

or_not : (w a : Bool) → (not w || a) ≡ true → w ≡ true → a ≡ true
or_not true a e is = e
or_not false a e is = never is

-- ---- rows
admissible_marks : (variables : ℕ → ℕ) (whole : Bool) (rows : List Row) → are_admissible_rows variables whole rows ≡ true → keeps_marks variables rows ≡ true
admissible_marks variables whole [] e = refl
admissible_marks variables whole (row ∷ rows) e =
    let one = and_l (is_admissible_row variables whole row) (are_admissible_rows variables whole rows) e in
    both (not (loses_mark variables row)) (keeps_marks variables rows) (and_l (not (loses_mark variables row)) (is_byte_act (act_of row) && (not whole || is_keep (act_of row))) one)
    (admissible_marks variables whole rows (and_r (is_admissible_row variables whole row) (are_admissible_rows variables whole rows) e))

admissible_bytes : (variables : ℕ → ℕ) (whole : Bool) (rows : List Row) → are_admissible_rows variables whole rows ≡ true → puts_bytes rows ≡ true
admissible_bytes variables whole [] e = refl
admissible_bytes variables whole (row ∷ rows) e =
    let one = and_l (is_admissible_row variables whole row) (are_admissible_rows variables whole rows) e in
    let act = and_r (not (loses_mark variables row)) (is_byte_act (act_of row) && (not whole || is_keep (act_of row))) one in
    both (is_byte_act (act_of row)) (puts_bytes rows) (and_l (is_byte_act (act_of row)) (not whole || is_keep (act_of row)) act)
    (admissible_bytes variables whole rows (and_r (is_admissible_row variables whole row) (are_admissible_rows variables whole rows) e))

admissible_whole : (variables : ℕ → ℕ) (whole : Bool) (rows : List Row) → whole ≡ true → are_admissible_rows variables whole rows ≡ true → keeps_all rows ≡ true
admissible_whole variables whole [] is e = refl
admissible_whole variables whole (row ∷ rows) is e =
    let one = and_l (is_admissible_row variables whole row) (are_admissible_rows variables whole rows) e in
    let act = and_r (not (loses_mark variables row)) (is_byte_act (act_of row) && (not whole || is_keep (act_of row))) one in
    both (is_keep (act_of row)) (keeps_all rows) (or_not whole (is_keep (act_of row)) (and_r (is_byte_act (act_of row)) (not whole || is_keep (act_of row)) act) is)
    (admissible_whole variables whole rows is (and_r (is_admissible_row variables whole row) (are_admissible_rows variables whole rows) e))

-- ---- names
-- a block that is found passes the test, and has the name
abbrev IsFound : (ℕ → ℕ) → BlockName → ListedBlock → Type 0
IsFound variables name b = (b ≡ no_block) ⊎ ((is_admissible_block variables b ≡ true) × (same_name b.name name ≡ true))

named : (variables : ℕ → ℕ) (blocks : List ListedBlock) (name : BlockName) → are_admissible variables blocks ≡ true → IsFound variables name (block_in blocks name)
named variables [] name e = inl refl
named variables (b ∷ bs) name e = by (same_name b.name name) refl (named variables bs name (and_r (is_admissible_block variables b) (are_admissible variables bs) e))
  where
    by : (t : Bool) → same_name b.name name ≡ t → IsFound variables name (block_in bs name) → IsFound variables name (if t then b else block_in bs name)
    by true is later = inr (and_l (is_admissible_block variables b) (are_admissible variables bs) e, is)
    by false is later = later

module _ (variables : ℕ → ℕ) (name : BlockName) (b : ListedBlock) where
  abbrev whole : Bool
  whole = same_name b.name names.Start

  abbrev list : List Row
  list = rows_in b.rows

  admissible_rows : is_admissible_block variables b ≡ true → are_admissible_rows variables whole list ≡ true
  admissible_rows e = and_l (are_admissible_rows variables whole list) (ends_by_word true (puts list)) e

  marks_by : IsFound variables name b → keeps_marks variables list ≡ true
  marks_by (inl none) = subst (λ (c : ListedBlock). keeps_marks variables (rows_in c.rows) ≡ true) (sym none) refl
  marks_by (inr h) = admissible_marks variables whole list (admissible_rows h.0)

  bytes_by : IsFound variables name b → puts_bytes list ≡ true
  bytes_by (inl none) = subst (λ (c : ListedBlock). puts_bytes (rows_in c.rows) ≡ true) (sym none) refl
  bytes_by (inr h) = admissible_bytes variables whole list (admissible_rows h.0)

  ends_by : IsFound variables name b → ends_by_word true (puts list) ≡ true
  ends_by (inl none) = subst (λ (c : ListedBlock). ends_by_word true (puts (rows_in c.rows)) ≡ true) (sym none) refl
  ends_by (inr h) = and_r (are_admissible_rows variables whole list) (ends_by_word true (puts list)) h.0

start_by : (variables : ℕ → ℕ) (b : ListedBlock) → IsFound variables names.Start b → keeps_all (rows_in b.rows) ≡ true
start_by variables b (inl none) = subst (λ (c : ListedBlock). keeps_all (rows_in c.rows) ≡ true) (sym none) refl
start_by variables b (inr h) = admissible_whole variables (same_name b.name names.Start) (rows_in b.rows) h.1 (admissible_rows variables names.Start b h.0)

pub tested_is_admissible : TestedIsAdmissible
tested_is_admissible variables lent k e hidden = record {
  marks = λ name. marks_by variables name (block_in k.blocks name) (named variables k.blocks name e);
  numbers = λ name. bytes_by variables name (block_in k.blocks name) (named variables k.blocks name e);
  start = start_by variables (block_in k.blocks names.Start) (named variables k.blocks names.Start e);
  ends = λ name. ends_by variables name (block_in k.blocks name) (named variables k.blocks name e);
  hidden = hidden;
}

-- ---- what stays
pub kept_is_same : KeptIsSame
kept_is_same [] e = refl
kept_is_same (At (syms.Label label) act said ∷ rows) e = ap (λ (l : List Sym). syms.Label label ∷ l) (kept_is_same rows (and_r (is_keep act) (keeps_all rows) e))
kept_is_same (At s Keeps said ∷ rows) e = ap (λ (l : List Sym). s ∷ l) (kept_is_same rows e)
kept_is_same (At s act said ∷ rows) e = never e
