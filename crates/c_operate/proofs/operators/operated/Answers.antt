use Rattle.std.specs.Option.{option_map}
use Rattle.c_typed.specs.Views.{expression_of}
use Rattle.c_terms.specs.Terms.{operation_of, operand_of, reach_of}
use Rattle.c_operate.proofs.OperatorSteps.{operated_is}
use Rattle.c_operate.proofs.operators.operated.Goals as goal

pub returns : goal.returns
returns c = λ known.
    operated_is known c.args.op (operand_of c.args.left) (operand_of c.args.right) (operation_of c.args.found) (expression_of c.in_ok-left.left) (expression_of c.in_ok-right.right) (expression_of c.in_ok-value.value)
    (option_map reach_of c.first_reach.result) (option_map reach_of c.reach_behind-reach.result)
    (c.in_ok-left.ensures) (c.in_ok-right.ensures) (c.in_ok-value.ensures) c.first_reach.ensures c.reach_behind-reach.ensures
