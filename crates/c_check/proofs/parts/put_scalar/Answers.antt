use Rattle.c_typed.specs.Trees as typed
use Rattle.c_typed.specs.Views.{expression_of}
use Rattle.type_rules.specs.Slots.{with_item}
use Rattle.c_tables.specs.Tables.{known_of}
use Rattle.c_terms.specs.Terms.{operand_of}
use Rattle.c_check.specs.Views.{begin_scalar}
use Rattle.c_outline.specs.Slots.{begun_of, slot_of}
use Rattle.c_check.proofs.Beginning.{put_answers, scalar_refused, scalar_given}
use Rattle.c_tables.proofs.Steps.{passed_on}
use Rattle.c_check.proofs.parts.put_scalar.Goals as goal

pub returns-in_err-value : goal.returns-in_err-value
returns-in_err-value c =
    let known = known_of c.args.checker.now in
    let said = begin_scalar c.args.slot.ty.ty (slot_of c.args.slot) (operand_of c.args.operand) c.args.line (begun_of c.args.sink.now) known in
    passed_on (λ _. begun_of c.args.sink.now) c.from_residual.result known said c.in_err-value.field-0.0 c.from_residual.ensures.1
    (scalar_refused c.args.slot.ty.ty (slot_of c.args.slot) (operand_of c.args.operand) c.args.line (begun_of c.args.sink.now) known c.in_err-value.field-0.0 (c.in_err-value.ensures known))

pub returns : goal.returns
returns c =
    let known = known_of c.args.checker.now in
    let made = scalar_given c.args.slot.ty.ty (slot_of c.args.slot) (operand_of c.args.operand) c.args.line (begun_of c.args.sink.now) known (expression_of c.in_ok-value.value) (c.in_ok-value.ensures known) in
    put_answers c.put_item.result (begun_of c.put_item.new.sink) (with_item (typed.Scalar c.args.slot.offset (expression_of c.in_ok-value.value)) (begun_of c.args.sink.now)) known (begin_scalar c.args.slot.ty.ty (slot_of c.args.slot) (operand_of c.args.operand) c.args.line (begun_of c.args.sink.now) known) c.put_item.ensures.ok c.put_item.ensures.err made
