use Rattle.std.proofs.Common.{◌≡◌, drop, map}
use Rattle.c_nodes.specs.ProgramViews.{item_of, unit_of}
use Rattle.c_typed.specs.Views.{function_of}
use Rattle.type_rules.specs.Units.{functions_of}
use Rattle.c_tables.specs.Tables.{known_of}
use Rattle.c_check.specs.StatementViews.{behind}
use Rattle.c_check.proofs.unit.functions.Given as goal

abbrev pub invariant-loop-item : goal.invariant-loop-item
invariant-loop-item l = behind (map function_of l.functions.items) (functions_of (map item_of (drop l.item-index l.unit.items.items))) (known_of l.checker) ≡ functions_of (unit_of l.unit) (known_of l.fn.checker)
