use Rattle.std.proofs.Common.{sym, ap, subst, ◌∙◌}
use Rattle.std.specs.Option.{option_map}
use Rattle.type_rules.specs.Faults as kind
use Rattle.type_rules.specs.Known.{given}
use Rattle.type_rules.specs.Operations as rule
use Rattle.type_rules.specs.Operators.{binary_term}
use Rattle.type_rules.specs.Terms.{side_of}
use Rattle.c_tables.specs.Answers.{Answers}
use Rattle.c_tables.specs.Tables.{types_in}
use Rattle.c_tables.proofs.Steps.{then_wanted_some}
use Rattle.c_terms.specs.Terms.{operation_of, operand_of, term_of}
use Rattle.c_terms.specs.Terms.{side_of as shown_side}
use Rattle.c_operate.proofs.operators.binary.Goals as goal

pub returns : goal.returns
returns c = λ known.
    let before = types_in c.args.types.now known in
    let x = operand_of c.args.left in
    let y = operand_of c.args.right in
    let found = operation_of c.in-Some.found in
    let asked = sym (c.operation_of.ensures known ∙ (ap (λ s. rule.operation_of before c.args.op s (shown_side c.side-2.result)) c.side.ensures ∙ ap (λ s. rule.operation_of before c.args.op (side_of x) s) c.side-2.ensures)) ∙ ap (option_map operation_of) c.in-Some.is in
    subst (Answers term_of c.operated.result before) (sym (then_wanted_some kind.Operand x.start (rule.operation_of before c.args.op (side_of x) (side_of y)) found (λ o. given (binary_term c.args.op x y o)) before asked)) (c.operated.ensures before)
