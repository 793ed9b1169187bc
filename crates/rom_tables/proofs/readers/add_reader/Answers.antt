use Rattle.std.proofs.Common.{map, ap, ◌∙◌}
use Rattle.c_typed.specs.Views.{function_of, program_of, static_of}
use Rattle.rom_tables.specs.Rows.{declared_with}
use Rattle.rom_tables.proofs.Rows.{reader_missing, reader_there}
use Rattle.rom_tables.proofs.readers.add_reader.Goals as goal

pub returns-in_default : goal.returns-in_default
returns-in_default c = let a = c.args in reader_missing (declared_with a.rows.now (program_of a.p.now).statics) (program_of a.p.now).statics a.number a.functions.now.items c.in_default.ensures.none

pub returns : goal.returns
returns c =
    let a = c.args in
    ap (map function_of) c.in_ok-push.ensures.items
    ∙ reader_there (declared_with a.rows.now (program_of a.p.now).statics) (program_of a.p.now).statics a.number (static_of c.in-Some.s.now) a.functions.now.items c.in_ok-made.made c.in-Some.ensures.there c.in_ok-made.ensures
