-- Rows of a certificate of which a skip that stays has an instruction behind it that stays, and one that doesn't stands before one that
-- goes too, or leads on.
use Rattle.std.specs.Prelude.{Bool, true, false, not, ◌&&◌, ◌||◌, if◌then◌else◌, List, [], ◌∷◌}
use Rattle.sym_code.specs.declared.code.BitOperation.{BitOperation}
use Rattle.sym_code.specs.declared.code.BitOperation.TheVariants.{Btfsc, Btfss}
use Rattle.sym_code.specs.declared.code.Sym.{Sym}
use Rattle.sym_code.specs.declared.code.Sym.TheVariants as syms
use Rattle.lean_code.specs.Changes.{may_skip, is_retlw}
use Rattle.lean_code.specs.Checked.{ListedBlock, rows_in}
use Rattle.lean_code.specs.Rows.{Act, Keeps, Drops, Puts, Reads, Tests, Row, At, old_of, is_label, is_dropped}

-- ---- skips
abbrev pub tests_bit : BitOperation → Bool
tests_bit Btfsc = true
tests_bit Btfss = true
tests_bit op = false

-- the instruction may skip the one behind it
abbrev pub skips : Sym → Bool
skips (syms.File op operand to) = may_skip op
skips (syms.Bit op operand bit) = tests_bit op
skips s = false

-- ---- rows
-- the next row stays, if there is one; a label always does
abbrev pub next_stays : List Row → Bool
next_stays [] = true
next_stays (row ∷ rows) = not (is_dropped row)

-- the next row is left out, or a label
abbrev pub next_goes : List Row → Bool
next_goes [] = true
next_goes (row ∷ rows) = is_label (old_of row) || is_dropped row

-- the instruction leads to the one behind it
abbrev pub leads_on : Sym → Bool
leads_on (syms.Goto target) = false
leads_on (syms.Plain op) = false
leads_on (syms.Literal op value) = not (is_retlw op)
leads_on s = true

-- the next row is an instruction that leads on
abbrev pub next_leads_on : List Row → Bool
next_leads_on [] = true
next_leads_on (row ∷ rows) = leads_on (old_of row)

abbrev pub puts_return : Act → Bool
puts_return (Puts op n) = is_retlw op
puts_return act = false

-- what becomes of a skip; one that is known not to skip may go alone, or become a number in W
abbrev pub is_steady_skip : Act → List Row → Bool
is_steady_skip Keeps rest = next_stays rest
is_steady_skip Drops rest = next_goes rest || next_leads_on rest
is_steady_skip (Puts op n) rest = not (is_retlw op) && next_leads_on rest
is_steady_skip (Reads n) rest = next_stays rest
is_steady_skip (Tests flag turned) rest = next_stays rest
is_steady_skip act rest = false

abbrev pub is_steady_row : Sym → Act → List Row → Bool
is_steady_row s act rest = if skips s then is_steady_skip act rest else not (puts_return act)

-- So it is of a certificate that is right where the code comes; this says it of code as well where nothing comes.
abbrev pub is_steady : List Row → Bool
is_steady [] = true
is_steady (At s act said ∷ rows) = is_steady_row s act rows && is_steady rows

-- ---- blocks
abbrev pub are_steady : List ListedBlock → Bool
are_steady [] = true
are_steady (b ∷ bs) = is_steady (rows_in b.rows) && are_steady bs
