use Rattle.std.proofs.Common.{◌≡◌, ◌++◌, drop, map}
use Rattle.c_typed.specs.Views.{item_of}
use Rattle.core_code.specs.View.{trees_in}
use Rattle.lower_stmt.specs.Declarators.{items_code}
use Rattle.lower_stmt.specs.Ground.{ground_of}
use Rattle.lower_stmt.proofs.declarators.put_items.Given as goal

abbrev pub invariant-loop-item : goal.invariant-loop-item
invariant-loop-item l = trees_in l.out.items ++ items_code (ground_of l.site) l.to (map item_of (drop l.item-index l.items)) ≡ trees_in l.fn.out.items ++ items_code (ground_of l.site) l.to (map item_of l.items)
