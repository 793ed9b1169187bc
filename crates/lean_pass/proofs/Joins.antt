-- Row after row skips and the instructions behind them are tested.
use Rattle.std.proofs.Common.{◌≡◌, Bool, true, false, ◌&&◌, List, [], ◌∷◌, sym, ap, ◌∙◌}
use Rattle.lean_code.specs.Checked.{rows_in}
use Rattle.lean_code.specs.Steady.{is_steady_row, is_steady}
use Rattle.lean_pass.specs.Views.{act_of, rows_of}
use Rattle.lean_pass.specs.declared.rows.Row.{Row}

abbrev tested : List Row → Bool
tested rows = is_steady (rows_in (rows_of rows))

pub steady_on : (whole : Bool) (left rest : List Row) (row : Row) → left ≡ row ∷ rest → is_steady_row row.sym (act_of row.act) (rows_in (rows_of rest)) ≡ true → tested left ≡ whole → tested rest ≡ whole
steady_on whole left rest row is so e = ap (λ (c : Bool). c && tested rest) (sym so) ∙ ap tested (sym is) ∙ e

pub steady_off : (whole : Bool) (left rest : List Row) (row : Row) → left ≡ row ∷ rest → is_steady_row row.sym (act_of row.act) (rows_in (rows_of rest)) ≡ false → tested left ≡ whole → false ≡ whole
steady_off whole left rest row is so e = ap (λ (c : Bool). c && tested rest) (sym so) ∙ ap tested (sym is) ∙ e

pub steady_end : (whole : Bool) (left : List Row) → left ≡ [] → tested left ≡ whole → true ≡ whole
steady_end whole left is e = ap tested (sym is) ∙ e
