use Rattle.std.proofs.Common.{◌≡◌, ◌++◌}
use Rattle.core_code.specs.View.{trees_in}
use Rattle.lower_expr.specs.Rows.{structure_bytes}
use Rattle.lower_expr.proofs.structures.put_bytes.Given as goal

abbrev pub invariant-loop-i : goal.invariant-loop-i
invariant-loop-i l = trees_in l.out.items ≡ trees_in l.fn.out.items ++ structure_bytes l.to l.from l.one l.temporary l.i
