use Rattle.std.proofs.Common.{map, sym, ◌∙◌}
use Rattle.c_typed.specs.Views.{size_of, variable_of}
use Rattle.c_typed.specs.Words.{variable_bytes}
use Rattle.lower_stmt.proofs.Loops.{made_at}
use Rattle.lower_stmt.proofs.site.size_at.Goals as goal

pub returns-in-Some : goal.returns-in-Some
returns-in-Some c = c.bytes_of.ensures ∙ sym (made_at (variable_bytes (map size_of c.args.structures.now)) variable_of c.args.locals.now c.args.local c.in-Some.variable.now c.in-Some.ensures.lookup.3.0 c.in-Some.ensures.lookup.1)
