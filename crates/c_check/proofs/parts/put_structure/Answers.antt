use Rattle.std.proofs.Common.{◌∙◌, ap}
use Rattle.c_typed.specs.Sameness.{same_type}
use Rattle.c_typed.specs.Trees as typed
use Rattle.c_typed.specs.Views.{place_of}
use Rattle.type_rules.specs.Slots as rule
use Rattle.c_tables.specs.Tables.{types_in}
use Rattle.c_terms.specs.Terms.{operand_of}
use Rattle.c_outline.specs.Slots.{begun_of, slot_of}
use Rattle.c_check.proofs.Beginning.{put_answers, structure_given}
use Rattle.c_check.proofs.parts.put_structure.Goals as goal

pub returns : goal.returns
returns c = λ known.
    let here = types_in c.args.types.now known in
    let made = structure_given (slot_of c.args.slot) (operand_of c.args.operand) (begun_of c.args.sink.now) here c.same_type.result (place_of c.in-Some.from) c.bytes_of-size.result (c.same_type.ensures ∙ ap (λ t. same_type t c.args.slot.ty.ty) c.ty.ensures) c.if-not-same_type.false c.in-Some.ensures (c.bytes_of-size.ensures known) in
    put_answers c.put_item.result (begun_of c.put_item.new.sink) (rule.with_item (typed.Struct c.args.slot.offset (place_of c.in-Some.from) c.bytes_of-size.result) (begun_of c.args.sink.now)) here (rule.begin_structure (slot_of c.args.slot) (operand_of c.args.operand) (begun_of c.args.sink.now) here) c.put_item.ensures.ok c.put_item.ensures.err made
