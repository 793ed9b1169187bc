use Rattle.std.proofs.Common.{map}
use Rattle.c_typed.specs.Views.{size_of}
use Rattle.ram_place.proofs.Arguments.{room_in, room_none, one_argument}
use Rattle.ram_place.proofs.Loops.{all_grown}
use Rattle.ram_place.proofs.room.+room.Goals as goal

pub arguments_room-loop-argument-preserved : goal.arguments_room-loop-argument-preserved
arguments_room-loop-argument-preserved t c = one_argument (map size_of c.args.structures.now) _ _ c.argument-item.result _ _ _ _ _ _ _ 0 _ c.loop-argument-test.true c.argument-item.is c.room.ensures c.plus.ensures c.most-greatest.ensures c.value_bytes.ensures c.plus-before.ensures c.most-greatest.type_inv c.loop-argument.invariant

pub arguments_room-returns : goal.arguments_room-returns
arguments_room-returns t c = all_grown (room_in (map size_of c.args.structures.now) c.loop-argument.before) (room_none (map size_of c.args.structures.now) c.loop-argument.before) _ _ _ _ c.loop-argument-test.false c.loop-argument.invariant
