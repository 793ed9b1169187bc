use Rattle.std.proofs.Common.{sym}
use Rattle.rom_tables.proofs.Sights.{no_start}
use Rattle.rom_tables.proofs.tables.start_table.Goals as goal

pub returns-in_default : goal.returns-in_default
returns-in_default c = sym (no_start c.args.tables.now.numbers.items c.args.e.now c.in_default.not-Address)
