use Rattle.std.proofs.Common.{◌≡◌, ◌<◌, ◌^◌, max, drop}
use Rattle.c_typed.specs.Nodes.{capped}
use Rattle.source_room.proofs.Seen.{items_in}
use Rattle.source_room.proofs.room.depth_of_items.Given as goal

abbrev pub invariant-loop-item : goal.invariant-loop-item
invariant-loop-item l = (l.deepest < 2 ^ 64) × (capped (max l.deepest (items_in (drop l.item-index l.items))) ≡ capped (items_in l.items))
