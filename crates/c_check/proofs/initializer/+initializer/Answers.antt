use Rattle.std.proofs.Common.{◌+◌, map, refl}
use Rattle.c_nodes.specs.ProgramViews.{more_inits, next_init_of}
use Rattle.type_rules.specs.Initializers.{items_in, more_begins}
use Rattle.c_tables.specs.Tables.{known_of}
use Rattle.c_terms.specs.Terms.{operand_of}
use Rattle.type_rules.specs.Initializers.{begins}
use Rattle.c_nodes.specs.ProgramViews.{init_of}
use Rattle.c_outline.specs.Slots.{any_slot, begun_of}
use Rattle.c_check.proofs.Listing.{item_read, item_wrong, all_read, one_counted, one_behind, all_counted, value_answered, value_wrong, text_answered, list_answered, first_wrong, more_wrong}
use Rattle.c_tables.proofs.Steps.{passed_on}
use Rattle.c_check.proofs.initializer.+initializer.Goals as goal

pub items-loop-next-preserved : goal.items-loop-next-preserved
items-loop-next-preserved t c = (
  one_counted c.args.others.now c.loop-next.next-index c.next-item.result c.loop-next.count (c.loop-next.count + 1) (1 + items_in (more_inits (map next_init_of c.args.others.now))) c.loop-next-test.true c.next-item.is refl c.loop-next.invariant.0,
  one_behind c.loop-next.count c.loop-next.next-index c.loop-next.invariant.1,
  item_read c.args.others.now c.loop-next.next-index c.next-item.result (any_slot c.args.slot) _ c.loop-next.count (c.loop-next.count + 1) (begun_of c.loop-next.sink) _ (known_of c.loop-next.checker) _ _ c.loop-next-test.true c.next-item.is (c.part-part.ensures (known_of c.loop-next.checker)) c.in_ok-initialize.ensures refl c.loop-next.invariant.2,
)

pub items-returns-clause-begun : goal.items-returns-clause-begun
items-returns-clause-begun t c = all_read c.args.others.now c.loop-next.next-index (any_slot c.args.slot) c.loop-next.count (begun_of c.loop-next.sink) (known_of c.loop-next.checker) _ c.loop-next-test.false c.loop-next.invariant.2

pub items-returns-clause-count : goal.items-returns-clause-count
items-returns-clause-count t c = all_counted c.args.others.now c.loop-next.next-index c.loop-next.count _ c.loop-next-test.false c.loop-next.invariant.0

pub items-returns-in_err-initialize-clause-begun : goal.items-returns-in_err-initialize-clause-begun
items-returns-in_err-initialize-clause-begun t c =
    let whole = more_begins (more_inits (map next_init_of c.args.others.now)) (any_slot c.args.slot) 1 (begun_of c.args.sink.now) (known_of c.args.checker.now) in
    passed_on _ c.from_residual.result _ whole c.in_err-initialize.field-0.0 c.from_residual.ensures.1
    (item_wrong c.args.others.now c.loop-next.next-index c.next-item.result (any_slot c.args.slot) (any_slot c.part-part.result) c.loop-next.count (begun_of c.loop-next.sink) (known_of c.loop-next.checker) c.in_err-initialize.field-0.0 whole c.loop-next-test.true c.next-item.is (c.part-part.ensures (known_of c.loop-next.checker)) c.in_err-initialize.ensures c.loop-next.invariant.2)

pub initialize-returns-in_err-operand-in-Assign : goal.initialize-returns-in_err-operand-in-Assign
initialize-returns-in_err-operand-in-Assign t c =
    let known = known_of c.args.checker.now in
    let said = begins (init_of c.args.init.now) (any_slot c.args.slot) c.args.inside (begun_of c.args.sink.now) known in
    passed_on _ c.from_residual.result _ said c.in_err-operand-in-Assign.field-0.0 c.from_residual.ensures.1
    (value_wrong c.in_err-operand-in-Assign.field-0.0 c.args.init.now c.in-Assign.value (any_slot c.args.slot) c.args.inside (begun_of c.args.sink.now) known c.in-Assign.is c.in_err-operand-in-Assign.ensures)

pub initialize-returns-in_err-initialize-in-List : goal.initialize-returns-in_err-initialize-in-List
initialize-returns-in_err-initialize-in-List t c =
    let known = known_of c.args.checker.now in
    let said = begins (init_of c.args.init.now) (any_slot c.args.slot) c.args.inside (begun_of c.args.sink.now) known in
    passed_on _ c.from_residual-in_err-initialize-in-List.result _ said c.in_err-initialize-in-List.field-0.0 c.from_residual-in_err-initialize-in-List.ensures.1
    (first_wrong c.in_err-initialize-in-List.field-0.0 c.args.init.now c.in-List.opening c.in-List.first c.in-List.others c.in-List.last_comma c.in-List.closing c.deref.result.now (any_slot c.args.slot) (any_slot c.part-part.result) c.args.inside (begun_of c.args.sink.now) known c.in-List.is c.deref.ensures (c.part-part.ensures known) c.in_err-initialize-in-List.ensures)

pub initialize-returns-in_err-count-in-List : goal.initialize-returns-in_err-count-in-List
initialize-returns-in_err-count-in-List t c =
    let known = known_of c.args.checker.now in
    let said = begins (init_of c.args.init.now) (any_slot c.args.slot) c.args.inside (begun_of c.args.sink.now) known in
    passed_on _ c.from_residual-in_err-count-in-List.result _ said c.in_err-count-in-List.field-0.0 c.from_residual-in_err-count-in-List.ensures.1
    (more_wrong c.in_err-count-in-List.field-0.0 c.args.init.now c.in-List.opening c.in-List.first c.in-List.others c.in-List.last_comma c.in-List.closing c.deref.result.now c.deref-in-List.result.now (any_slot c.args.slot) (any_slot c.part-part.result) c.args.inside (begun_of c.args.sink.now) (begun_of c.initialize.new.sink) known (known_of c.initialize.new.checker) c.in-List.is c.deref.ensures c.deref-in-List.ensures.value (c.part-part.ensures known) c.in_ok-initialize-in-List.ensures c.in_err-count-in-List.ensures.begun)

pub initialize-returns-in_ok-operand-in-Assign : goal.initialize-returns-in_ok-operand-in-Assign
initialize-returns-in_ok-operand-in-Assign t c =
    value_answered _ c.put_value.result _ c.args.init.now c.in-Assign.value (any_slot c.args.slot) c.args.inside (begun_of c.args.sink.now) (operand_of c.in_ok-operand-in-Assign.operand) (known_of c.args.checker.now) (known_of c.evaluated.new.checker) c.in-Assign.is c.in_ok-operand-in-Assign.ensures c.put_value.ensures

pub initialize-returns-in-Text : goal.initialize-returns-in-Text
initialize-returns-in-Text t c =
    text_answered _ c.put_text.result _ c.args.init.now c.in-Text.text (any_slot c.args.slot) c.args.inside (begun_of c.args.sink.now) (known_of c.args.checker.now) c.in-Text.is c.put_text.ensures

pub initialize-returns-in_ok-count-in-List : goal.initialize-returns-in_ok-count-in-List
initialize-returns-in_ok-count-in-List t c =
    let known = known_of c.args.checker.now in
    list_answered _ c.close_list.result _ c.args.init.now c.in-List.opening c.in-List.first c.in-List.others c.in-List.last_comma c.in-List.closing c.deref.result.now c.deref-in-List.result.now (any_slot c.args.slot) (any_slot c.part-part.result) c.args.inside c.in_ok-count-in-List.count
    (begun_of c.args.sink.now) (begun_of c.initialize.new.sink) (begun_of c.items.new.sink) known (known_of c.initialize.new.checker) (known_of c.items.new.checker) c.in-List.is c.deref.ensures c.deref-in-List.ensures.value (c.part-part.ensures known) c.in_ok-initialize-in-List.ensures c.in_ok-count-in-List.ensures.begun c.in_ok-count-in-List.ensures.count (c.close_list.ensures (known_of c.items.new.checker))
