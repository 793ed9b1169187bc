use Rattle.std.proofs.Common.{◌≡◌, ◌++◌, drop, map}
use Rattle.c_typed.specs.Views.{program_of}
use Rattle.lower_stmt.specs.Bodies.{body_of, bodies_from}
use Rattle.lower_stmt.proofs.program.bodies_of.Given as goal

abbrev pub invariant-loop-number : goal.invariant-loop-number
invariant-loop-number l = map body_of l.bodies.items ++ bodies_from (program_of l.p) l.list l.number (drop l.number l.list) ≡ bodies_from (program_of l.p) l.list 0 l.list
