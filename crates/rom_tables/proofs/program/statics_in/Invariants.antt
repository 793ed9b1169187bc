use Rattle.std.proofs.Common.{◌≡◌, map, take}
use Rattle.c_typed.specs.Views.{static_of}
use Rattle.rom_tables.proofs.program.statics_in.Given as goal

abbrev pub invariant-loop-k : goal.invariant-loop-k
invariant-loop-k l = map static_of l.made.items ≡ map static_of (take l.k l.statics)
