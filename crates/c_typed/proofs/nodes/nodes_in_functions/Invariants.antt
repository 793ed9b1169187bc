use Rattle.std.proofs.Common.{◌≡◌, ◌+◌, ◌<◌, ◌^◌, drop, map}
use Rattle.c_typed.specs.Nodes.{capped, total, function_nodes}
use Rattle.c_typed.proofs.nodes.nodes_in_functions.Given as goal

abbrev pub invariant-loop-function : goal.invariant-loop-function
invariant-loop-function l = (l.count < 2 ^ 64) × (capped (l.count + total (map function_nodes (drop l.function-index l.functions))) ≡ capped (total (map function_nodes l.functions)))
