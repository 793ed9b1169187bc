use Rattle.std.proofs.Common.{◌≡◌, [], drop, map}
use Rattle.c_nodes.specs.ProgramViews.{item_of, unit_of}
use Rattle.type_rules.specs.Units.{defined_in}
use Rattle.c_check.proofs.unit.definitions.Given as goal

abbrev pub invariant-loop-item : goal.invariant-loop-item
invariant-loop-item l = defined_in (map item_of (drop l.item-index l.unit.items.items)) (map (λ name. name.items) l.names.keys) ≡ defined_in (unit_of l.unit) []
