-- Which bytes code writes.
use Rattle.std.specs.Prelude.{ℕ, suc, nat_eq, if◌then◌else◌, List, [], ◌∷◌}
use Rattle.select_trace.specs.Run.{Sym, Row, Movwf, Clrf}
use Rattle.sym_code.specs.declared.code.Into.TheVariants.{File}

-- how many instructions write the byte
abbrev pub writes : ℕ → List Sym → ℕ
writes a [] = 0
writes a (Row op b File ∷ rest) = if nat_eq a b then suc (writes a rest) else writes a rest
writes a (Movwf b ∷ rest) = if nat_eq a b then suc (writes a rest) else writes a rest
writes a (Clrf b ∷ rest) = if nat_eq a b then suc (writes a rest) else writes a rest
writes a (_ ∷ rest) = writes a rest
