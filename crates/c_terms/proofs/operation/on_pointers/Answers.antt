use Rattle.std.proofs.Common.{sym, ◌∙◌}
use Rattle.c_tables.specs.Tables.{types_in}
use Rattle.c_terms.proofs.Operating.{compared, ordered_is}
use Rattle.c_terms.proofs.operation.on_pointers.Goals as goal

pub returns-in-Lt : goal.returns-in-Lt
returns-in-Lt c = λ known. c.ordered.ensures known ∙ sym (ordered_is (types_in c.args.types.now known) c.args.op c.args.a c.args.b (compared c.args.op c.in-Lt.is))
