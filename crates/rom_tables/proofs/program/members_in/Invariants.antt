use Rattle.std.proofs.Common.{◌≡◌, map, take}
use Rattle.c_typed.specs.Views.{member_of}
use Rattle.rom_tables.proofs.program.members_in.Given as goal

abbrev pub invariant-loop-k : goal.invariant-loop-k
invariant-loop-k l = map member_of l.made.items ≡ map member_of (take l.k l.members)
