use Rattle.std.proofs.Common.{◌≡◌, ◌++◌, drop}
use Rattle.core_code.specs.View.{trees_in}
use Rattle.lower_expr.specs.Layout.{layout_of}
use Rattle.lower_expr.proofs.Arguments.{arguments_from, width_from}
use Rattle.lower_expr.proofs.expression.+expression.Given as goal

abbrev pub invariant-lower_arguments-loop-argument : goal.invariant-lower_arguments-loop-argument
invariant-lower_arguments-loop-argument l =
    (trees_in l.out.items ++ arguments_from (layout_of l.places) l.copy l.base l.before (drop l.argument-index l.arguments) ≡ trees_in l.fn.out.items ++ arguments_from (layout_of l.places) l.copy l.base 0 l.arguments)
    × (width_from (layout_of l.places) l.before (drop l.argument-index l.arguments) ≡ width_from (layout_of l.places) 0 l.arguments)
