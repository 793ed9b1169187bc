use Rattle.c_nodes.specs.ProgramViews.{unit_of}
use Rattle.type_rules.specs.Units.{functions_of}
use Rattle.c_tables.specs.Tables.{known_of}
use Rattle.c_check.proofs.Units.{function_next, declaration_next}
use Rattle.c_check.proofs.unit.functions.Goals.{in-Function+in_ok-made-in-Function+in_ok-push-in-Function, in-Declaration+in_ok-file_declaration-in-Declaration}
use Rattle.c_check.proofs.unit.functions.Goals as goal

pub loop-item-preserved : goal.loop-item-preserved
loop-item-preserved c = elim c.match-item.branch [
  | in-Function+in_ok-made-in-Function+in_ok-push-in-Function w ↦ function_next c.args.unit.now.items.items c.loop-item.item-index c.item-item.result c.loop-item.functions c.match-item.functions (known_of c.loop-item.checker) c.match-item.checker (functions_of (unit_of c.args.unit.now) (known_of c.args.checker.now)) (rw c.deref-item-items.ensures.value at c.loop-item-test.true) (rw c.deref-item-items.ensures.value at c.item-item.is) w.in-Function.inner w.in_ok-made-in-Function.made w.push.new.self w.function.new.checker w.in-Function.is w.in_ok-made-in-Function.ensures w.in_ok-push-in-Function.ensures.items w.functions-is w.checker-is c.loop-item.invariant
  | in-Declaration+in_ok-file_declaration-in-Declaration w ↦ declaration_next c.args.unit.now.items.items c.loop-item.item-index c.item-item.result c.loop-item.functions c.match-item.functions (known_of c.loop-item.checker) c.match-item.checker (functions_of (unit_of c.args.unit.now) (known_of c.args.checker.now)) (rw c.deref-item-items.ensures.value at c.loop-item-test.true) (rw c.deref-item-items.ensures.value at c.item-item.is) w.in-Declaration.declaration w.file_declaration.new.checker w.in-Declaration.is w.in_ok-file_declaration-in-Declaration.ensures w.functions-is w.checker-is c.loop-item.invariant
]
