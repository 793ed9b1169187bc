use Rattle.std.proofs.Common.{◌≡◌, map, take}
use Rattle.c_typed.specs.Views.{function_of}
use Rattle.rom_tables.specs.Outlined.{outlined_function}
use Rattle.rom_tables.proofs.program.functions_in.Given as goal

abbrev pub invariant-loop-k : goal.invariant-loop-k
invariant-loop-k l = map function_of l.made.items ≡ map (outlined_function l.tables.numbers.items l.tables.first) (map function_of (take l.k l.functions))
