-- Ways along rows: what a loop keeps, and that the code's ways are those of the definition.
use Rattle.std.proofs.Common.{◌≡◌, ℕ, zero, suc, ◌+◌, ◌-◌, ◌<◌, ◌≤◌, Bool, true, false, not, if◌then◌else◌, List, [], ◌∷◌, length, take, drop, length-drop, Option, Some, None, option_map, refl, sym, ap, ◌∙◌, subst, arith}
use Rattle.std.proofs.lemmas.List.{take_all}
use Rattle.sym_code.specs.Programs.{labels_in_front}
use Rattle.sym_code.specs.Programs.{same_label, label_from}
use Rattle.sym_code.specs.declared.code.Label.{Label}
use Rattle.sym_code.specs.declared.code.Sym.{Sym}
use Rattle.sym_code.specs.declared.code.Sym.TheVariants as syms
use Rattle.lean_code.specs.Rows as certified
use Rattle.lean_code.specs.Rows.{is_label, olds}
use Rattle.lean_code.specs.Checked as listed
use Rattle.lean_pass.specs.Views.{act_of, note_of, row_of, rows_of}
use Rattle.lean_pass.specs.Ways.{stays_out, is_the_label, label_in, counted}
use Rattle.lean_pass.specs.declared.rows.Act.{Act}
use Rattle.lean_pass.specs.declared.rows.Act.TheVariants as acts
use Rattle.lean_pass.specs.declared.rows.Row.{Row}

-- ---- what is left out
out_by : (s : Sym) (act : Act) → certified.is_none (certified.put_of s (act_of act)) ≡ stays_out s act
out_by (syms.Label label) acts.Keeps = refl
out_by (syms.Label label) acts.Drops = refl
out_by (syms.Label label) (acts.Puts op value) = refl
out_by (syms.Label label) acts.Narrows = refl
out_by (syms.Label label) acts.Clears = refl
out_by (syms.Label label) (acts.Reads before) = refl
out_by (syms.Label label) (acts.Tests flag turned) = refl
out_by (syms.File op operand to) acts.Keeps = refl
out_by (syms.File op operand to) acts.Drops = refl
out_by (syms.File op operand to) (acts.Puts new value) = refl
out_by (syms.File op operand to) acts.Narrows = refl
out_by (syms.File op operand to) acts.Clears = refl
out_by (syms.File op operand to) (acts.Reads before) = refl
out_by (syms.File op operand to) (acts.Tests flag turned) = refl
out_by s acts.Keeps = refl
out_by s acts.Drops = refl
out_by s (acts.Puts op value) = refl
out_by s acts.Narrows = refl
out_by s acts.Clears = refl
out_by s (acts.Reads before) = refl
out_by s (acts.Tests flag turned) = refl

pub out_is : (row : Row) → certified.is_dropped (listed.row_in (row_of row)) ≡ stays_out row.sym row.act
out_is row = out_by row.sym row.act

-- ---- labels
pub label_is : (rows : List Row) (label : Label) (n : ℕ) → label_from (olds (listed.rows_in (rows_of rows))) label n ≡ label_in rows label n
label_is [] label n = refl
label_is (row ∷ rows) label n = by_sym row.sym (label_is rows label (n + 1))
  where
    by_sym : (s : Sym) → label_from (olds (listed.rows_in (rows_of rows))) label (n + 1) ≡ label_in rows label (n + 1)
        → label_from (s ∷ olds (listed.rows_in (rows_of rows))) label n ≡ (if is_the_label s label then Some n else label_in rows label (n + 1))
    by_sym (syms.Label other) e = ap (λ (o : Option ℕ). if same_label other label then Some n else o) e
    by_sym s e = e

pub label_here : (rows left rest : List Row) (row : Row) (label : Label) (at : ℕ) → left ≡ row ∷ rest → is_the_label row.sym label ≡ true → label_in left label at ≡ label_in rows label 0 → Some at ≡ label_in rows label 0
label_here rows left rest row label at is so e =
    sym (ap (λ (l : List Row). label_in l label at) is ∙ ap (λ (b : Bool). if b then Some at else label_in rest label (at + 1)) so) ∙ e

pub label_on : (rows left rest : List Row) (row : Row) (label : Label) (at : ℕ) → left ≡ row ∷ rest → is_the_label row.sym label ≡ false → label_in left label at ≡ label_in rows label 0 → label_in rest label (at + 1) ≡ label_in rows label 0
label_on rows left rest row label at is other e =
    sym (ap (λ (l : List Row). label_in l label at) is ∙ ap (λ (b : Bool). if b then Some at else label_in rest label (at + 1)) other) ∙ e

pub label_end : (rows left : List Row) (label : Label) (at : ℕ) → left ≡ [] → label_in left label at ≡ label_in rows label 0 → None ≡ label_in rows label 0
label_end rows left label at is e = sym (ap (λ (l : List Row). label_in l label at) is) ∙ e

-- ---- lists
pub rows_drop : (rows : List Row) (n : ℕ) → rows_of (drop n rows) ≡ drop n (rows_of rows)
rows_drop rows zero = refl
rows_drop [] (suc n) = refl
rows_drop (row ∷ rows) (suc n) = rows_drop rows n

rows_length : (rows : List Row) → length (rows_of rows) ≡ length rows
rows_length [] = refl
rows_length (row ∷ rows) = ap suc (rows_length rows)

pub rows_slice : (rows : List Row) (n : ℕ) → rows_of (take (length rows - n) (drop n rows)) ≡ drop n (rows_of rows)
rows_slice rows n = ap rows_of (take_all (length rows - n) (drop n rows) (subst (λ (k : ℕ). k ≤ length rows - n) (sym (length-drop n rows)) (omega arith))) ∙ rows_drop rows n

pub rows_beyond : (rows : List Row) (n : ℕ) → length rows ≤ n → drop (length rows) (rows_of rows) ≡ drop n (rows_of rows)
rows_beyond rows n l = none (rows_of rows) (length rows) (grind (arith, rows_length)) ∙ sym (none (rows_of rows) n (grind (arith, rows_length)))
  where
    none : (list : List listed.ListedRow) (n : ℕ) → length list ≤ n → drop n list ≡ []
    none [] zero l = refl
    none [] (suc n) l = refl
    none (x ∷ list) zero l = absurd (omega arith)
    none (x ∷ list) (suc n) l = none list n (omega arith)

-- ---- places
pub place_end : (left : List Row) (place more whole : ℕ) → left ≡ [] → place + certified.place_in (listed.rows_in (rows_of left)) more ≡ whole → place + more ≡ whole
place_end left place more whole is e = sym (ap (λ (l : List Row). place + certified.place_in (listed.rows_in (rows_of l)) more) is) ∙ e

pub place_front : (left : List Row) (place more whole : ℕ) → more ≡ 0 → place + certified.place_in (listed.rows_in (rows_of left)) more ≡ whole → place + labels_in_front (certified.puts (listed.rows_in (rows_of left))) ≡ whole
place_front left place more whole is e = ap (λ (n : ℕ). place + n) (sym (front left)) ∙ sym (ap (λ (n : ℕ). place + certified.place_in (listed.rows_in (rows_of left)) n) is) ∙ e
  where
    front : (rows : List Row) → certified.place_in (listed.rows_in (rows_of rows)) 0 ≡ labels_in_front (certified.puts (listed.rows_in (rows_of rows)))
    front [] = refl
    front (row ∷ rows) = refl

pub place_on : (left rest : List Row) (row : Row) (place more whole : ℕ) → left ≡ row ∷ rest → 0 < more → place + certified.place_in (listed.rows_in (rows_of left)) more ≡ whole
    → place + counted (certified.is_dropped (listed.row_in (row_of row))) + certified.place_in (listed.rows_in (rows_of rest)) (more - 1) ≡ whole
place_on left rest row place zero whole is l e = absurd (omega arith)
place_on left rest row place (suc more) whole is l e =
    let less : suc more - 1 ≡ more = omega arith in
    ap (λ (n : ℕ). place + counted (certified.is_dropped (listed.row_in (row_of row))) + certified.place_in (listed.rows_in (rows_of rest)) n) less
    ∙ by_case (certified.is_dropped (listed.row_in (row_of row))) (certified.place_in (listed.rows_in (rows_of rest)) more)
    ∙ sym (ap (λ (l : List Row). place + certified.place_in (listed.rows_in (rows_of l)) (suc more)) is) ∙ e
  where
    by_case : (c : Bool) (n : ℕ) → place + counted c + n ≡ place + (if c then n else suc n)
    by_case true n = omega arith
    by_case false n = omega arith
