use Rattle.std.proofs.Common.{◌≡◌, ◌++◌}
use Rattle.core_code.specs.View.{trees_in}
use Rattle.lower_stmt.specs.Declarators.{text_code}
use Rattle.lower_stmt.proofs.declarators.put_text.Given as goal

abbrev pub invariant-loop-place : goal.invariant-loop-place
invariant-loop-place l = trees_in l.out.items ≡ trees_in l.fn.out.items ++ text_code l.to l.bytes l.place
