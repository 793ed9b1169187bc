use Rattle.std.proofs.Common.{arith}
use Rattle.c_typed.proofs.Facts.{few_functions}
use Rattle.rom_tables.proofs.Making.{tables_room}
use Rattle.rom_tables.proofs.pass.outline.Goals as goal

pub overflow_cast-tables : goal.overflow_cast-tables
overflow_cast-tables c = let few = few_functions c.args.p.now in let n = c.len.ensures in omega (arith, few, n)

pub invariant_of-tables : goal.invariant_of-tables
invariant_of-tables c = let n = c.len.ensures in let k = c.args.p.now.functions.ok in record { room = tables_room c.args.p.now c.in_ok-numbers.numbers.items c.len.result c.in_ok-numbers.ensures (omega (arith, n, k)) }
