use Rattle.std.proofs.Common.{ap, ◌∙◌}
use Rattle.type_rules.specs.Rows.{bytes_of}
use Rattle.c_tables.specs.Tables.{types_in}
use Rattle.c_terms.proofs.operation.element_bytes.Goals as goal

pub returns : goal.returns
returns c = λ known. c.bytes_of.ensures known ∙ ap (λ q. bytes_of (types_in c.args.types.now known) q.ty) (c.target.ensures known)
