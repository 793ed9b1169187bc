use Rattle.std.proofs.Common.{◌≡◌, ◌<◌, ◌^◌, drop, map, max}
use Rattle.c_typed.specs.Nodes.{capped}
use Rattle.c_typed.specs.Views.{size_of}
use Rattle.ram_place.proofs.Statements.{statements_room_in, arms_room_in}
use Rattle.ram_place.proofs.room.+statement_room.Given as goal

abbrev pub invariant-statements_room-loop-statement : goal.invariant-statements_room-loop-statement
invariant-statements_room-loop-statement l = (l.greatest < 2 ^ 64) × (capped (max l.greatest (statements_room_in (map size_of l.structures) (drop l.statement-index l.statements))) ≡ capped (statements_room_in (map size_of l.structures) l.statements))

abbrev pub invariant-arms_room-loop-arm : goal.invariant-arms_room-loop-arm
invariant-arms_room-loop-arm l = (l.greatest < 2 ^ 64) × (capped (max l.greatest (arms_room_in (map size_of l.structures) (drop l.arm-index l.arms))) ≡ capped (arms_room_in (map size_of l.structures) l.arms))
