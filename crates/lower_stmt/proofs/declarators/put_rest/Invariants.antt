use Rattle.std.proofs.Common.{◌≡◌, ◌++◌, map}
use Rattle.c_typed.specs.Views.{item_of}
use Rattle.core_code.specs.View.{trees_in}
use Rattle.lower_stmt.specs.Declarators.{rest_code}
use Rattle.lower_stmt.specs.Ground.{ground_of}
use Rattle.lower_stmt.proofs.declarators.put_rest.Given as goal

abbrev pub invariant-loop-place : goal.invariant-loop-place
invariant-loop-place l = trees_in l.out.items ≡ trees_in l.fn.out.items ++ rest_code (ground_of l.site) l.to (map item_of l.items) l.place
