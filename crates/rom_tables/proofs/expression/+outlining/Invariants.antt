use Rattle.std.proofs.Common.{◌≡◌, map, take}
use Rattle.c_typed.specs.Views.{expression_of}
use Rattle.rom_tables.specs.Outlined.{outlined_expression}
use Rattle.rom_tables.proofs.expression.+outlining.Given as goal

abbrev pub invariant-arguments_in-loop-k : goal.invariant-arguments_in-loop-k
invariant-arguments_in-loop-k l = map expression_of l.made.items ≡ map (outlined_expression l.tables.numbers.items l.tables.first) (map expression_of (take l.k l.arguments))
