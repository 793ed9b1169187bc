use Rattle.std.proofs.Common.{◌≡◌, drop, map}
use Rattle.c_nodes.specs.Views.{next_enumerator_of}
use Rattle.c_tables.specs.Tables.{known_of}
use Rattle.check_expr.proofs.Enumerating.{rest_enumerators}
use Rattle.check_expr.proofs.enumerators.enumerators.Given as goal

abbrev pub invariant-loop-other : goal.invariant-loop-other
invariant-loop-other l = rest_enumerators (map next_enumerator_of l.others) l.fn.next (known_of l.fn.checker) ≡ rest_enumerators (map next_enumerator_of (drop l.other-index l.others)) l.next (known_of l.checker)
