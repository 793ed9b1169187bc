use Rattle.std.proofs.Common.{◌≡◌, ◌<◌, ◌^◌, drop, map, max}
use Rattle.c_typed.specs.Nodes.{capped}
use Rattle.c_typed.specs.Views.{size_of}
use Rattle.ram_place.proofs.Statements.{items_room_in}
use Rattle.ram_place.proofs.room.items_room.Given as goal

abbrev pub invariant-loop-item : goal.invariant-loop-item
invariant-loop-item l = (l.greatest < 2 ^ 64) × (capped (max l.greatest (items_room_in (map size_of l.structures) (drop l.item-index l.items))) ≡ capped (items_room_in (map size_of l.structures) l.items))
