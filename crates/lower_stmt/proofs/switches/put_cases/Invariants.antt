use Rattle.std.proofs.Common.{◌≡◌, ◌++◌, drop}
use Rattle.core_code.specs.View.{trees_in}
use Rattle.lower_stmt.specs.Ground.{ground_of}
use Rattle.lower_stmt.specs.Switches.{cases_code}
use Rattle.lower_stmt.proofs.switches.put_cases.Given as goal

abbrev pub invariant-loop-case : goal.invariant-loop-case
invariant-loop-case l = trees_in l.out.items ++ cases_code (ground_of l.site) l.ty l.bytes l.found (drop l.case-index l.cases) ≡ trees_in l.fn.out.items ++ cases_code (ground_of l.site) l.ty l.bytes l.found l.cases
