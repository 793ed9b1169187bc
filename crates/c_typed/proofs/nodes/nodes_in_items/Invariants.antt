use Rattle.std.proofs.Common.{◌≡◌, ◌+◌, ◌<◌, ◌^◌, drop, map}
use Rattle.c_typed.specs.Nodes.{capped, total, item_nodes}
use Rattle.c_typed.proofs.nodes.nodes_in_items.Given as goal

abbrev pub invariant-loop-item : goal.invariant-loop-item
invariant-loop-item l = (l.count < 2 ^ 64) × (capped (l.count + total (map item_nodes (drop l.item-index l.items))) ≡ capped (total (map item_nodes l.items)))
