-- In leaner code the labels stay, and it names no other target.
use Rattle.std.proofs.Common.{◌≡◌, ℕ, Bool, true, false, ◌||◌, List, [], ◌∷◌, Option, sym, ap, ◌∙◌, refl, subst}
use Rattle.code_place.specs.Places.{label_of, is_label}
use Rattle.program_code.specs.Leaner.{IsLeaner}
use Rattle.lean_code.specs.Rows.{Keeps, Drops, Puts, Narrows, narrowed, Clears, cleared, Reads, Tests, FlagName, tests_flag, reads_before, Row, At, olds, puts}
use Rattle.sym_code.specs.declared.code.Label.{Label}
use Rattle.sym_code.specs.declared.code.Sym.{Sym}
use Rattle.sym_code.specs.declared.code.Sym.TheVariants as syms
use Rattle.sym_code.specs.declared.code.SymBlock.{SymBlock}
use Rattle.sym_code.specs.declared.code.Target.{Target}
use Rattle.program_code.specs.Targets.{HasTarget, HaveTargets}
use Rattle.program_code.proofs.NamedTargets.{has_label}

-- ---- labels
behind : (b x y : Bool) → (x ≡ true → y ≡ true) → (b || x) ≡ true → (b || y) ≡ true
behind true x y on e = refl
behind false x y on e = on e

same_labels : (label : Label) (s : Sym) → is_label label (label_of (narrowed s)) ≡ is_label label (label_of s)
same_labels label (syms.File op file into) = refl
same_labels label (syms.Movwf file) = refl
same_labels label (syms.Clrf file) = refl
same_labels label (syms.Bit op file bit) = refl
same_labels label (syms.Literal op value) = refl
same_labels label (syms.Plain op) = refl
same_labels label (syms.Call target) = refl
same_labels label (syms.Goto target) = refl
same_labels label (syms.Label other) = refl
same_labels label (syms.SelectBank bit on) = refl
same_labels label (syms.SelectPage bit target) = refl
same_labels label (syms.Table table root) = refl

cleared_labels : (label : Label) (s : Sym) → is_label label (label_of (cleared s)) ≡ is_label label (label_of s)
cleared_labels label (syms.File op file into) = refl
cleared_labels label (syms.Movwf file) = refl
cleared_labels label (syms.Clrf file) = refl
cleared_labels label (syms.Bit op file bit) = refl
cleared_labels label (syms.Literal op value) = refl
cleared_labels label (syms.Plain op) = refl
cleared_labels label (syms.Call target) = refl
cleared_labels label (syms.Goto target) = refl
cleared_labels label (syms.Label other) = refl
cleared_labels label (syms.SelectBank bit on) = refl
cleared_labels label (syms.SelectPage bit target) = refl
cleared_labels label (syms.Table table root) = refl

read_labels : (label : Label) (n : ℕ) (s : Sym) → is_label label (label_of (reads_before n s)) ≡ is_label label (label_of s)
read_labels label n (syms.File op file into) = refl
read_labels label n (syms.Movwf file) = refl
read_labels label n (syms.Clrf file) = refl
read_labels label n (syms.Bit op file bit) = refl
read_labels label n (syms.Literal op value) = refl
read_labels label n (syms.Plain op) = refl
read_labels label n (syms.Call target) = refl
read_labels label n (syms.Goto target) = refl
read_labels label n (syms.Label other) = refl
read_labels label n (syms.SelectBank bit on) = refl
read_labels label n (syms.SelectPage bit target) = refl
read_labels label n (syms.Table table root) = refl

test_labels : (label : Label) (flag : FlagName) (turned : Bool) (s : Sym) → is_label label (label_of (tests_flag flag turned s)) ≡ is_label label (label_of s)
test_labels label flag turned (syms.File op file into) = refl
test_labels label flag turned (syms.Movwf file) = refl
test_labels label flag turned (syms.Clrf file) = refl
test_labels label flag turned (syms.Bit op file bit) = refl
test_labels label flag turned (syms.Literal op value) = refl
test_labels label flag turned (syms.Plain op) = refl
test_labels label flag turned (syms.Call target) = refl
test_labels label flag turned (syms.Goto target) = refl
test_labels label flag turned (syms.Label other) = refl
test_labels label flag turned (syms.SelectBank bit on) = refl
test_labels label flag turned (syms.SelectPage bit target) = refl
test_labels label flag turned (syms.Table table root) = refl

rows_keep : (label : Label) (rows : List Row) → has_label label (olds rows) ≡ true → has_label label (puts rows) ≡ true
rows_keep label [] e = e
rows_keep label (At (syms.Label other) act said ∷ rows) e = behind (is_label label (label_of (syms.Label other))) (has_label label (olds rows)) (has_label label (puts rows)) (rows_keep label rows) e
rows_keep label (At s Keeps said ∷ rows) e = behind (is_label label (label_of s)) (has_label label (olds rows)) (has_label label (puts rows)) (rows_keep label rows) e
rows_keep label (At s Drops said ∷ rows) e = rows_keep label rows e
rows_keep label (At s (Puts op n) said ∷ rows) e = rows_keep label rows e
rows_keep label (At s Narrows said ∷ rows) e =
    ap (λ b. b || has_label label (puts rows)) (same_labels label s) ∙ behind (is_label label (label_of s)) (has_label label (olds rows)) (has_label label (puts rows)) (rows_keep label rows) e
rows_keep label (At s Clears said ∷ rows) e =
    ap (λ b. b || has_label label (puts rows)) (cleared_labels label s) ∙ behind (is_label label (label_of s)) (has_label label (olds rows)) (has_label label (puts rows)) (rows_keep label rows) e
rows_keep label (At s (Reads n) said ∷ rows) e =
    ap (λ b. b || has_label label (puts rows)) (read_labels label n s) ∙ behind (is_label label (label_of s)) (has_label label (olds rows)) (has_label label (puts rows)) (rows_keep label rows) e
rows_keep label (At s (Tests flag turned) said ∷ rows) e =
    ap (λ b. b || has_label label (puts rows)) (test_labels label flag turned s) ∙ behind (is_label label (label_of s)) (has_label label (olds rows)) (has_label label (puts rows)) (rows_keep label rows) e

pub lean_keeps : (label : Label) (given block : SymBlock) → IsLeaner given block → has_label label given.list.items ≡ true → has_label label block.list.items ≡ true
lean_keeps label given block is e = ap (has_label label) is.after ∙ rows_keep label is.rows (ap (has_label label) (sym is.before) ∙ e)

-- ---- targets
module _ (target : Target → Option ℕ) where
  narrowed_has : (s : Sym) → HasTarget target s → HasTarget target (narrowed s)
  narrowed_has (syms.File op file into) h = h
  narrowed_has (syms.Movwf file) h = h
  narrowed_has (syms.Clrf file) h = h
  narrowed_has (syms.Bit op file bit) h = h
  narrowed_has (syms.Literal op value) h = h
  narrowed_has (syms.Plain op) h = h
  narrowed_has (syms.Call to) h = h
  narrowed_has (syms.Goto to) h = h
  narrowed_has (syms.Label label) h = h
  narrowed_has (syms.SelectBank bit on) h = h
  narrowed_has (syms.SelectPage bit to) h = h
  narrowed_has (syms.Table table root) h = h

  cleared_has : (s : Sym) → HasTarget target s → HasTarget target (cleared s)
  cleared_has (syms.File op file into) h = h
  cleared_has (syms.Movwf file) h = h
  cleared_has (syms.Clrf file) h = h
  cleared_has (syms.Bit op file bit) h = h
  cleared_has (syms.Literal op value) h = h
  cleared_has (syms.Plain op) h = h
  cleared_has (syms.Call to) h = h
  cleared_has (syms.Goto to) h = h
  cleared_has (syms.Label label) h = h
  cleared_has (syms.SelectBank bit on) h = h
  cleared_has (syms.SelectPage bit to) h = h
  cleared_has (syms.Table table root) h = h

  read_has : (n : ℕ) (s : Sym) → HasTarget target s → HasTarget target (reads_before n s)
  read_has n (syms.File op file into) h = h
  read_has n (syms.Movwf file) h = h
  read_has n (syms.Clrf file) h = h
  read_has n (syms.Bit op file bit) h = h
  read_has n (syms.Literal op value) h = h
  read_has n (syms.Plain op) h = h
  read_has n (syms.Call to) h = h
  read_has n (syms.Goto to) h = h
  read_has n (syms.Label label) h = h
  read_has n (syms.SelectBank bit on) h = h
  read_has n (syms.SelectPage bit to) h = h
  read_has n (syms.Table table root) h = h

  test_has : (flag : FlagName) (turned : Bool) (s : Sym) → HasTarget target s → HasTarget target (tests_flag flag turned s)
  test_has flag turned (syms.File op file into) h = h
  test_has flag turned (syms.Movwf file) h = h
  test_has flag turned (syms.Clrf file) h = h
  test_has flag turned (syms.Bit op file bit) h = h
  test_has flag turned (syms.Literal op value) h = h
  test_has flag turned (syms.Plain op) h = h
  test_has flag turned (syms.Call to) h = h
  test_has flag turned (syms.Goto to) h = h
  test_has flag turned (syms.Label label) h = h
  test_has flag turned (syms.SelectBank bit on) h = h
  test_has flag turned (syms.SelectPage bit to) h = h
  test_has flag turned (syms.Table table root) h = h

  rows_have : (rows : List Row) → HaveTargets target (olds rows) → HaveTargets target (puts rows)
  rows_have [] h = h
  rows_have (At (syms.Label label) act said ∷ rows) h = (h.0, rows_have rows h.1)
  rows_have (At s Keeps said ∷ rows) h = (h.0, rows_have rows h.1)
  rows_have (At s Drops said ∷ rows) h = rows_have rows h.1
  rows_have (At s (Puts op n) said ∷ rows) h = (tt, rows_have rows h.1)
  rows_have (At s Narrows said ∷ rows) h = (narrowed_has s h.0, rows_have rows h.1)
  rows_have (At s Clears said ∷ rows) h = (cleared_has s h.0, rows_have rows h.1)
  rows_have (At s (Reads n) said ∷ rows) h = (read_has n s h.0, rows_have rows h.1)
  rows_have (At s (Tests flag turned) said ∷ rows) h = (test_has flag turned s h.0, rows_have rows h.1)

  pub lean_have : (given block : SymBlock) → IsLeaner given block → HaveTargets target given.list.items → HaveTargets target block.list.items
  lean_have given block is h =
      subst (λ (list : List Sym). HaveTargets target list) (sym is.after) (rows_have is.rows (subst (λ (list : List Sym). HaveTargets target list) is.before h))
