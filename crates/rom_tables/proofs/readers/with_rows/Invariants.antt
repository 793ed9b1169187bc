use Rattle.std.proofs.Common.{◌≡◌, drop}
use Rattle.c_typed.specs.Views.{program_of}
use Rattle.rom_tables.specs.Outlined.{with_rows}
use Rattle.rom_tables.proofs.readers.with_rows.Given as goal

abbrev pub invariant-loop-k : goal.invariant-loop-k
invariant-loop-k l = with_rows (program_of l.p) (drop l.k l.numbers) l.rows.items ≡ with_rows (program_of l.p) l.numbers (program_of l.p).targets
