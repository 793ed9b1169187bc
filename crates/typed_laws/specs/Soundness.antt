-- The law, as it is read.
use Rattle.std.specs.Prelude.{◌≡◌, true, List, Ok}
use Rattle.c_nodes.specs.Programs.{ItemTree}
use Rattle.c_typed.specs.Sound.{is_sound}
use Rattle.c_typed.specs.Trees.{Program}
use Rattle.type_rules.specs.Units.{judged_unit}

-- The typed program that the rules give a unit is sound, whatever tree the unit is.
abbrev pub JudgedSound : Type 0
JudgedSound = (unit : List ItemTree) (p : Program) → judged_unit unit ≡ Ok p → is_sound p ≡ true
