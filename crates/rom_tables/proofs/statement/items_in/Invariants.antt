use Rattle.std.proofs.Common.{◌≡◌, map, take}
use Rattle.c_typed.specs.Views.{item_of}
use Rattle.rom_tables.specs.Outlined.{outlined_item}
use Rattle.rom_tables.proofs.statement.items_in.Given as goal

abbrev pub invariant-loop-k : goal.invariant-loop-k
invariant-loop-k l = map item_of l.made.items ≡ map (outlined_item l.tables.numbers.items l.tables.first) (map item_of (take l.k l.items))
