use Rattle.std.proofs.Common.{◌≡◌, ◌++◌}
use Rattle.core_code.specs.View.{trees_in}
use Rattle.core_puts.specs.Puts.{zeros}
use Rattle.core_puts.proofs.puts.put_zeros.Given as goal

abbrev pub invariant-loop-i : goal.invariant-loop-i
invariant-loop-i l = trees_in l.out.items ≡ trees_in l.fn.out.items ++ zeros l.to l.i
