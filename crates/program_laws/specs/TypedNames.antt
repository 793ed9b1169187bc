-- The law, as it is read.
use Rattle.std.specs.Prelude.{◌≡◌, List, Ok}
use Rattle.c_nodes.specs.Programs.{ItemTree, IsUnit, spelled_unit}
use Rattle.c_typed.specs.Trees.{Program}
use Rattle.type_rules.specs.Units.{judged_unit}
use Rattle.program_laws.specs.Named.{AreWords, AreNamed}

-- The typed program that the rules give a tree has such names, where the tree's tokens that are names are spelled as names.
abbrev pub JudgedNamed : Type 0
JudgedNamed = (unit : List ItemTree) (p : Program) → IsUnit unit → AreWords (spelled_unit unit) → judged_unit unit ≡ Ok p → AreNamed p
