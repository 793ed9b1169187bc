use Rattle.std.proofs.Common.{◌≡◌, map, take}
use Rattle.c_typed.specs.Views.{arm_of, statement_of}
use Rattle.rom_tables.specs.Outlined.{outlined_arm, outlined_statement}
use Rattle.rom_tables.proofs.statement.+bodies.Given as goal

abbrev pub invariant-arms_in-loop-k : goal.invariant-arms_in-loop-k
invariant-arms_in-loop-k l = map arm_of l.made.items ≡ map (outlined_arm l.tables.numbers.items l.tables.first) (map arm_of (take l.k l.list))

abbrev pub invariant-statements_in-loop-k : goal.invariant-statements_in-loop-k
invariant-statements_in-loop-k l = map statement_of l.made.items ≡ map (outlined_statement l.tables.numbers.items l.tables.first) (map statement_of (take l.k l.list))
