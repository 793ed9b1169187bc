use Rattle.std.proofs.Common.{◌≡◌, map, take}
use Rattle.c_typed.specs.Views.{structure_of}
use Rattle.rom_tables.proofs.program.structures_in.Given as goal

abbrev pub invariant-loop-k : goal.invariant-loop-k
invariant-loop-k l = map structure_of l.made.items ≡ map structure_of (take l.k l.structures)
