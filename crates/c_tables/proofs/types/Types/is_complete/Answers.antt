use Rattle.std.proofs.Common.{sym, ap, ◌∙◌}
use Rattle.type_rules.specs.Rows as rows
use Rattle.c_tables.specs.Tables.{types_in}
use Rattle.c_tables.proofs.types.Types.is_complete.Goals as goal

pub returns-in-Struct : goal.returns-in-Struct
returns-in-Struct c = λ known. c.is_closed.ensures ∙ ap rows.is_closed (c.progress.ensures known) ∙ ap (rows.is_complete (types_in c.args.self.now known)) (sym c.in-Struct.is)
