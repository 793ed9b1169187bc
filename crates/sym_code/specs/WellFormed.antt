-- What each instruction keeps: the number of a bit is below 8.
use Rattle.std.specs.Prelude.{ltb, Bool, true, ◌&&◌, List, [], ◌∷◌}
use Rattle.sym_code.specs.declared.code.Sym.{Sym}
use Rattle.sym_code.specs.declared.code.Sym.TheVariants.{Bit}

abbrev pub is_well_formed : Sym → Bool
is_well_formed (Bit op file bit) = ltb bit 8
is_well_formed _ = true

abbrev pub are_well_formed : List Sym → Bool
are_well_formed [] = true
are_well_formed (s ∷ list) = is_well_formed s && are_well_formed list
