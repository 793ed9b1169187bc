use Rattle.std.proofs.Common.{◌≡◌, ◌+◌, ◌++◌, drop}
use Rattle.rom_tables.specs.Tables.{readers_from}
use Rattle.rom_tables.proofs.readers.readers_from.Given as goal

abbrev pub invariant-loop-k : goal.invariant-loop-k
invariant-loop-k l = l.made.items ++ readers_from (l.first + l.k) (drop l.k l.numbers) ≡ readers_from l.first l.numbers
