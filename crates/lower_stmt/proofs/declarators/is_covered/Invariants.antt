use Rattle.std.proofs.Common.{◌≡◌, drop, map}
use Rattle.c_typed.specs.Views.{item_of}
use Rattle.lower_stmt.specs.Declarators.{is_covered}
use Rattle.lower_stmt.specs.Ground.{ground_of}
use Rattle.lower_stmt.proofs.declarators.is_covered.Given as goal

abbrev pub invariant-loop-item : goal.invariant-loop-item
invariant-loop-item l = is_covered (ground_of l.site) (map item_of (drop l.item-index l.items)) l.place ≡ is_covered (ground_of l.site) (map item_of l.items) l.place
