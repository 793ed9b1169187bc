use Rattle.std.proofs.Common.{◌≡◌, ◌<◌, ◌^◌, drop, map, max}
use Rattle.c_typed.specs.Nodes.{capped}
use Rattle.c_typed.specs.Views.{size_of}
use Rattle.ram_place.proofs.Arguments.{room_in}
use Rattle.ram_place.proofs.room.+room.Given as goal

abbrev pub invariant-arguments_room-loop-argument : goal.invariant-arguments_room-loop-argument
invariant-arguments_room-loop-argument l = (l.greatest < 2 ^ 64) × (capped (max l.greatest (room_in (map size_of l.structures) l.before (drop l.argument-index l.arguments))) ≡ capped (room_in (map size_of l.structures) 0 l.arguments))
