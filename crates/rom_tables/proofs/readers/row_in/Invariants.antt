use Rattle.std.proofs.Common.{◌≡◌, drop}
use Rattle.rom_tables.specs.Outlined.{row_in}
use Rattle.rom_tables.proofs.readers.row_in.Given as goal

abbrev pub invariant-loop-k : goal.invariant-loop-k
invariant-loop-k l = row_in l.q l.k (drop l.k l.rows) ≡ row_in l.q 0 l.rows
