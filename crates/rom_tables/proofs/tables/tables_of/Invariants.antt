use Rattle.std.proofs.Common.{◌≡◌, ◌++◌, drop, map}
use Rattle.c_typed.specs.Views.{program_of, static_of}
use Rattle.rom_tables.specs.Tables.{tables_from, tables_of}
use Rattle.rom_tables.proofs.tables.tables_of.Given as goal

abbrev pub invariant-loop-k : goal.invariant-loop-k
invariant-loop-k l = l.found.items ++ tables_from (program_of l.p) l.k (map static_of (drop l.k l.p.statics.items)) ≡ tables_of (program_of l.p)
