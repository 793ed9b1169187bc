use Rattle.std.proofs.Common.{◌≡◌, drop}
use Rattle.rom_tables.specs.Tables.{place_in}
use Rattle.rom_tables.proofs.tables.place_in.Given as goal

abbrev pub invariant-loop-k : goal.invariant-loop-k
invariant-loop-k l = place_in l.wanted l.k (drop l.k l.numbers) ≡ place_in l.wanted 0 l.numbers
