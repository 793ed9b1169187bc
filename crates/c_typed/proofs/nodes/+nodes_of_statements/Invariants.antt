use Rattle.std.proofs.Common.{◌≡◌, ◌+◌, ◌<◌, ◌^◌, drop, map}
use Rattle.c_typed.specs.Nodes.{capped, total, statement_nodes, arm_nodes}
use Rattle.c_typed.proofs.nodes.+nodes_of_statements.Given as goal

abbrev pub invariant-nodes_in_statements-loop-statement : goal.invariant-nodes_in_statements-loop-statement
invariant-nodes_in_statements-loop-statement l = (l.count < 2 ^ 64) × (capped (l.count + total (map statement_nodes (drop l.statement-index l.statements))) ≡ capped (total (map statement_nodes l.statements)))

abbrev pub invariant-nodes_in_arms-loop-arm : goal.invariant-nodes_in_arms-loop-arm
invariant-nodes_in_arms-loop-arm l = (l.count < 2 ^ 64) × (capped (l.count + total (map arm_nodes (drop l.arm-index l.arms))) ≡ capped (total (map arm_nodes l.arms)))
