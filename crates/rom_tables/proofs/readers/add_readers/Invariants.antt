use Rattle.std.proofs.Common.{◌≡◌, ◌++◌, drop, map}
use Rattle.c_typed.specs.Views.{function_of, program_of}
use Rattle.rom_tables.specs.Outlined.{readers}
use Rattle.rom_tables.specs.Rows.{declared_with}
use Rattle.rom_tables.proofs.readers.add_readers.Given as goal

abbrev pub invariant-loop-k : goal.invariant-loop-k
invariant-loop-k l = map function_of l.functions.items ++ readers (declared_with l.rows (program_of l.p).statics) (drop l.k l.numbers) ≡ map function_of l.initial.functions.items ++ readers (declared_with l.rows (program_of l.p).statics) l.numbers
