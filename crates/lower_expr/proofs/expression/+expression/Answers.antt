use Rattle.lower_expr.proofs.Arguments.{code_goes_on, code_ends, width_goes_on, width_ends}
use Rattle.lower_expr.specs.Layout.{layout_of}
use Rattle.lower_expr.proofs.expression.+expression.Goals as goal

pub lower_arguments-loop-argument-preserved : goal.lower_arguments-loop-argument-preserved
lower_arguments-loop-argument-preserved t c = (
  code_goes_on (layout_of c.args.places.now) c.args.copy c.args.base c.loop-argument.before c.beyond-before.result c.beyond.result c.bytes_of_value.result c.args.arguments.now c.loop-argument.argument-index c.argument-item.result _ _ _ c.loop-argument-test.true c.argument-item.is c.beyond.ensures c.in_ok-expression.ensures c.bytes_of_value.ensures c.beyond-before.ensures c.loop-argument.invariant.0,
  width_goes_on (layout_of c.args.places.now) c.loop-argument.before c.beyond-before.result c.bytes_of_value.result c.args.arguments.now c.loop-argument.argument-index c.argument-item.result _ c.loop-argument-test.true c.argument-item.is c.bytes_of_value.ensures c.beyond-before.ensures c.loop-argument.invariant.1,
)

pub lower_arguments-returns-clause-code : goal.lower_arguments-returns-clause-code
lower_arguments-returns-clause-code t c = code_ends (layout_of c.args.places.now) c.args.copy c.args.base c.loop-argument.before c.args.arguments.now c.loop-argument.argument-index _ _ c.loop-argument-test.false c.loop-argument.invariant.0

pub lower_arguments-returns-clause-bytes : goal.lower_arguments-returns-clause-bytes
lower_arguments-returns-clause-bytes t c = width_ends (layout_of c.args.places.now) c.loop-argument.before c.args.arguments.now c.loop-argument.argument-index _ c.loop-argument-test.false c.loop-argument.invariant.1
