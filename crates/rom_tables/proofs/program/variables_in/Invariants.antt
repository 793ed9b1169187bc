use Rattle.std.proofs.Common.{◌≡◌, map, take}
use Rattle.c_typed.specs.Views.{variable_of}
use Rattle.rom_tables.proofs.program.variables_in.Given as goal

abbrev pub invariant-loop-k : goal.invariant-loop-k
invariant-loop-k l = map variable_of l.made.items ≡ map variable_of (take l.k l.variables)
