-- Row after row it is tested what those need that stand before and behind.
use Rattle.std.proofs.Common.{◌≡◌, ℕ, Bool, true, false, not, ◌&&◌, if◌then◌else◌, List, [], ◌∷◌, Option, Some, None, refl, sym, ap, ◌∙◌}
use Rattle.sym_code.specs.declared.code.Sym.{Sym}
use Rattle.sym_code.specs.declared.code.Sym.TheVariants as syms
use Rattle.lean_code.specs.Checked.{row_in, rows_in}
use Rattle.lean_code.specs.Admissible.{is_admissible_row, are_admissible_rows, becomes_word, ends_by_word}
use Rattle.lean_code.specs.Rows.{Act, Keeps, Drops, Puts, Narrows, Clears, Reads, Tests, FlagName, At, narrowed, cleared, reads_before, tests_flag, old_of, is_label, is_none, is_dropped, put_by, in_front, puts}
use Rattle.lean_code.specs.Rows as certified
use Rattle.lean_pass.specs.Tests.{ends_behind}
use Rattle.lean_pass.specs.Views.{row_of, rows_of}
use Rattle.lean_pass.specs.declared.rows.Row.{Row}

module _ (variables : ℕ → ℕ) (entire : Bool) where
  abbrev tested : List Row → Bool
  tested rows = are_admissible_rows variables entire (rows_in (rows_of rows))

  pub admissible_on : (whole : Bool) (left rest : List Row) (row : Row) → left ≡ row ∷ rest → is_admissible_row variables entire (row_in (row_of row)) ≡ true → tested left ≡ whole → tested rest ≡ whole
  admissible_on whole left rest row is so e = ap (λ (c : Bool). c && tested rest) (sym so) ∙ ap tested (sym is) ∙ e

  pub admissible_off : (whole : Bool) (left rest : List Row) (row : Row) → left ≡ row ∷ rest → is_admissible_row variables entire (row_in (row_of row)) ≡ false → tested left ≡ whole → false ≡ whole
  admissible_off whole left rest row is so e = ap (λ (c : Bool). c && tested rest) (sym so) ∙ ap tested (sym is) ∙ e

  pub admissible_end : (whole : Bool) (left : List Row) → left ≡ [] → tested left ≡ whole → true ≡ whole
  admissible_end whole left is e = ap tested (sym is) ∙ e

-- ---- words
abbrev made : List Row → List Sym
made rows = puts (rows_in (rows_of rows))

narrow_word : (s : Sym) → becomes_word (narrowed s) ≡ not (is_label s)
narrow_word (syms.File op operand to) = refl
narrow_word (syms.Label label) = refl
narrow_word s = refl

cleared_word : (s : Sym) → becomes_word (cleared s) ≡ not (is_label s)
cleared_word (syms.Movwf operand) = refl
cleared_word (syms.Label label) = refl
cleared_word s = refl

read_word : (n : ℕ) (s : Sym) → becomes_word (reads_before n s) ≡ not (is_label s)
read_word n (syms.File op operand to) = refl
read_word n (syms.Bit op operand bit) = refl
read_word n (syms.Label label) = refl
read_word n s = refl

test_word : (flag : FlagName) (turned : Bool) (s : Sym) → becomes_word (tests_flag flag turned s) ≡ not (is_label s)
test_word flag turned (syms.Bit op operand bit) = refl
test_word flag turned (syms.Label label) = refl
test_word flag turned s = refl

-- one row more
word_behind : (last : Bool) (row : certified.Row) (list : List Sym) → ends_by_word last (in_front (put_by row) list) ≡ ends_by_word (if is_dropped row then last else not (is_label (old_of row))) list
word_behind last (At (syms.Label label) act said) list = refl
word_behind last (At s Keeps said) list = refl
word_behind last (At s Drops said) list = refl
word_behind last (At s (Puts op n) said) list = refl
word_behind last (At s Narrows said) list = ap (λ (b : Bool). ends_by_word b list) (narrow_word s)
word_behind last (At s Clears said) list = ap (λ (b : Bool). ends_by_word b list) (cleared_word s)
word_behind last (At s (Reads n) said) list = ap (λ (b : Bool). ends_by_word b list) (read_word n s)
word_behind last (At s (Tests flag turned) said) list = ap (λ (b : Bool). ends_by_word b list) (test_word flag turned s)

pub ends_on : (whole last next : Bool) (left rest : List Row) (row : Row) → left ≡ row ∷ rest → next ≡ ends_behind last (row_of row) → ends_by_word last (made left) ≡ whole → ends_by_word next (made rest) ≡ whole
ends_on whole last next left rest row is so e =
    ap (λ (b : Bool). ends_by_word b (made rest)) so ∙ sym (word_behind last (row_in (row_of row)) (made rest)) ∙ ap (λ (l : List Row). ends_by_word last (made l)) (sym is) ∙ e

pub ends_end : (whole last : Bool) (left : List Row) → left ≡ [] → ends_by_word last (made left) ≡ whole → last ≡ whole
ends_end whole last left is e = ap (λ (l : List Row). ends_by_word last (made l)) (sym is) ∙ e
