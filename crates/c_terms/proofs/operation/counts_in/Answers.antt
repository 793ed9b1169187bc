use Rattle.std.proofs.Common.{ap, ◌∙◌}
use Rattle.type_rules.specs.Rows.{is_complete}
use Rattle.c_tables.specs.Tables.{types_in}
use Rattle.c_terms.proofs.operation.counts_in.Goals as goal

pub returns : goal.returns
returns c = λ known. c.is_complete.ensures known ∙ ap (λ q. is_complete (types_in c.args.types.now known) q.ty) (c.target.ensures known)
