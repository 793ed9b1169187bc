use Rattle.std.proofs.Common.{sym, ◌∙◌}
use Rattle.c_tables.specs.Tables.{types_in}
use Rattle.type_rules.specs.Operations.{point_alike, counts_in}
use Rattle.c_terms.proofs.Operating.{difference_is, no_difference, and_false, and_false_right}
use Rattle.c_terms.proofs.operation.difference.Goals as goal

pub returns-then-not-point_alike : goal.returns-then-not-point_alike
returns-then-not-point_alike c = λ known. no_difference (types_in c.args.types.now known) c.args.a c.args.b (and_false (point_alike (types_in c.args.types.now known) c.args.a c.args.b) (counts_in (types_in c.args.types.now known) c.args.a) (sym (c.point_alike.ensures known) ∙ c.if-not-point_alike.true))

pub returns-then-not-counts_in : goal.returns-then-not-counts_in
returns-then-not-counts_in c = λ known. no_difference (types_in c.args.types.now known) c.args.a c.args.b (and_false_right (point_alike (types_in c.args.types.now known) c.args.a c.args.b) (counts_in (types_in c.args.types.now known) c.args.a) (sym (c.counts_in.ensures known) ∙ c.if-not-counts_in.true))

pub returns : goal.returns
returns c = λ known. difference_is (types_in c.args.types.now known) c.args.a c.args.b c.element_bytes.result (sym (c.point_alike.ensures known) ∙ c.if-not-point_alike.false) (sym (c.counts_in.ensures known) ∙ c.if-not-counts_in.false) (c.element_bytes.ensures known)
