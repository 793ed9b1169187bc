use Rattle.std.proofs.Common.{◌≡◌, ◌+◌, ◌<◌, ◌^◌, drop, map}
use Rattle.c_typed.specs.Nodes.{capped, total, expression_nodes}
use Rattle.c_typed.proofs.nodes.+nodes.Given as goal

abbrev pub invariant-nodes_in_arguments-loop-argument : goal.invariant-nodes_in_arguments-loop-argument
invariant-nodes_in_arguments-loop-argument l = (l.count < 2 ^ 64) × (capped (l.count + total (map expression_nodes (drop l.argument-index l.arguments))) ≡ capped (total (map expression_nodes l.arguments)))
