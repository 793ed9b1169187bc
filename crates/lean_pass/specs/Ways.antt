-- Ways along the rows of a block, as the code goes them.
use Rattle.std.specs.Prelude.{ℕ, ◌+◌, Bool, true, false, not, if◌then◌else◌, List, [], ◌∷◌, Option, Some, None}
use Rattle.sym_code.specs.Programs.{same_label}
use Rattle.sym_code.specs.declared.code.Label.{Label}
use Rattle.sym_code.specs.declared.code.Sym.{Sym}
use Rattle.sym_code.specs.declared.code.Sym.TheVariants as syms
use Rattle.lean_code.specs.Rows.{is_label}
use Rattle.lean_pass.specs.declared.rows.Act.{Act}
use Rattle.lean_pass.specs.declared.rows.Act.TheVariants as acts
use Rattle.lean_pass.specs.declared.rows.Row.{Row}

abbrev pub stays_out : Sym → Act → Bool
stays_out s acts.Drops = not (is_label s)
stays_out s act = false

abbrev pub is_the_label : Sym → Label → Bool
is_the_label (syms.Label other) label = same_label other label
is_the_label s label = false

abbrev pub label_in : List Row → Label → ℕ → Option ℕ
label_in [] label n = None
label_in (row ∷ rows) label n = if is_the_label row.sym label then Some n else label_in rows label (n + 1)

abbrev pub counted : Bool → ℕ
counted dropped = if dropped then 0 else 1
