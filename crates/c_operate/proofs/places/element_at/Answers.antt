use Rattle.std.proofs.Common.{refl, ap, ◌∙◌}
use Rattle.type_rules.specs.Conversions.{converted}
use Rattle.type_rules.specs.Known.{given}
use Rattle.type_rules.specs.Places as rule
use Rattle.c_terms.specs.Terms.{operand_of, operation_of, term_of}
use Rattle.c_operate.proofs.PlaceSteps.{element_as}
use Rattle.c_terms.proofs.Refusing.{made, only_memory, given_is}
use Rattle.c_tables.proofs.Steps.{passed_on}
use Rattle.c_operate.proofs.places.element_at.Goals as goal

pub returns-in_err-left : goal.returns-in_err-left
returns-in_err-left c = λ known.
    let said = given (rule.element_at (operand_of c.args.left) (operand_of c.args.right) (operation_of c.args.found) c.args.ty c.args.line) known in
    passed_on term_of c.from_residual.result known said c.in_err-left.field-0.0 c.from_residual.ensures.1
    (only_memory c.in_err-left.field-0.0 _ (given (converted (operand_of c.args.left) c.args.found.left) known) said (c.in_err-left.ensures known) refl)

pub returns-in_err-right : goal.returns-in_err-right
returns-in_err-right c = λ known.
    let said = given (rule.element_at (operand_of c.args.left) (operand_of c.args.right) (operation_of c.args.found) c.args.ty c.args.line) known in
    passed_on term_of c.from_residual-in_err-right.result known said c.in_err-right.field-0.0 c.from_residual-in_err-right.ensures.1
    (only_memory c.in_err-right.field-0.0 _ (given (converted (operand_of c.args.right) c.args.found.right) known) said (c.in_err-right.ensures known) refl)

pub returns : goal.returns
returns c = λ known.
    made term_of (given (rule.element_at (operand_of c.args.left) (operand_of c.args.right) (operation_of c.args.found) c.args.ty c.args.line) known) c.lvalue_term.result _ known refl
    (element_as _ _ _ (operand_of c.args.left) (operand_of c.args.right) (operation_of c.args.found) c.args.ty c.args.line _ _ _ c.lvalue_term.ensures (c.behind_pointer.ensures.place ∙ c.in_ok-place.ensures) c.in_ok-pointer.ensures
    (given_is _ _ known known (c.in_ok-left.ensures known)) (given_is _ _ known known (c.in_ok-right.ensures known))
    (c.behind_pointer.ensures.reach ∙ ap rule.reach_behind c.first_reach-reach.ensures))
