use Rattle.std.proofs.Common.{◌≡◌, ◌+◌, ◌<◌, ◌^◌, drop, map}
use Rattle.c_typed.specs.Nodes.{capped}
use Rattle.c_typed.specs.Views.{size_of}
use Rattle.ram_place.proofs.Variables.{variables_bytes_in}
use Rattle.ram_place.proofs.frame.variables_bytes.Given as goal

abbrev pub invariant-loop-variable : goal.invariant-loop-variable
invariant-loop-variable l = (l.sum < 2 ^ 64) × (capped (l.sum + variables_bytes_in (map size_of l.structures) (drop l.variable-index l.variables)) ≡ capped (variables_bytes_in (map size_of l.structures) l.variables))
