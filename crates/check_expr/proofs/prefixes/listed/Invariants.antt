use Rattle.std.proofs.Common.{◌≡◌, [], drop, map}
use Rattle.c_nodes.specs.Views.{prefix_of}
use Rattle.c_tables.specs.Tables.{known_of}
use Rattle.check_expr.specs.Folds.{applied_from}
use Rattle.check_expr.specs.Kept.{applied_of}
use Rattle.check_expr.proofs.prefixes.listed.Given as goal

abbrev pub invariant-loop-prefix : goal.invariant-loop-prefix
invariant-loop-prefix l = applied_from (map applied_of l.applied.items) (map prefix_of (drop l.prefix-index l.prefixes)) (known_of l.checker) ≡ applied_from [] (map prefix_of l.prefixes) (known_of l.fn.checker)
