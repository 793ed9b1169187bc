use Rattle.std.proofs.Common.{ap, sym, ◌∙◌}
use Rattle.c_nodes.specs.Views.{binary_of}
use Rattle.c_nodes.specs.declared.expression.Binary.TheVariants.{Chain}
use Rattle.parse_expr.proofs.Unary.{chain_alone, chain_is_not, same_err}
use Rattle.parse_expr.proofs.operator.+operand_place.Goals as goal

pub returns-then-is_empty-clause-ok : goal.returns-then-is_empty-clause-ok
returns-then-is_empty-clause-ok t c = rw (chain_alone c.args.operand c.in-Chain.first c.in-Chain.others c.into_inner.result c.in-Chain.is (sym c.is_empty.ensures ∙ c.if-is_empty.true) c.into_inner.ensures) c.operand_place.ensures.ok

pub returns-then-is_empty-clause-err : goal.returns-then-is_empty-clause-err
returns-then-is_empty-clause-err t c = rw (chain_alone c.args.operand c.in-Chain.first c.in-Chain.others c.into_inner.result c.in-Chain.is (sym c.is_empty.ensures ∙ c.if-is_empty.true) c.into_inner.ensures) c.operand_place.ensures.err

pub returns-else-is_empty-clause-err : goal.returns-else-is_empty-clause-err
returns-else-is_empty-clause-err t c = λ b h. (ap (λ x. binary_of x) (same_err (Chain c.in-Chain.first c.in-Chain.others) b h ∙ sym c.in-Chain.is), chain_is_not c.args.operand c.in-Chain.first c.in-Chain.others c.in-Chain.is (sym c.is_empty.ensures ∙ c.if-is_empty.false))
