use Rattle.std.proofs.Common.{sym, ◌∙◌}
use Rattle.c_tables.specs.Tables.{types_in}
use Rattle.c_terms.proofs.Operating.{moved_is}
use Rattle.c_terms.proofs.operation.moved.Goals as goal

pub returns-then-counts_in : goal.returns-then-counts_in
returns-then-counts_in c = λ known. moved_is (types_in c.args.types.now known) c.args.target c.args.left c.args.right c.element_bytes.result (sym (c.counts_in.ensures known) ∙ c.if-counts_in.true) (c.element_bytes.ensures known)
