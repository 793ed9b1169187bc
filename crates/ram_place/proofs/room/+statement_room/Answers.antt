use Rattle.std.proofs.Common.{map}
use Rattle.c_typed.specs.Views.{size_of}
use Rattle.ram_place.proofs.Loops.{grows, all_grown}
use Rattle.ram_place.proofs.Statements.{statement_room_in, statements_room_in, statements_room_none, statements_room_more, arm_room_in, arms_room_in, arms_room_none, arms_room_more}
use Rattle.ram_place.proofs.room.+statement_room.Goals as goal

pub statements_room-loop-statement-preserved : goal.statements_room-loop-statement-preserved
statements_room-loop-statement-preserved t c = grows (statement_room_in (map size_of c.args.structures.now)) (statements_room_in (map size_of c.args.structures.now)) (statements_room_more (map size_of c.args.structures.now)) _ _ c.statement-item.result _ _ _ _ c.loop-statement-test.true c.statement-item.is c.statement_room.ensures c.most-greatest.ensures c.most-greatest.type_inv c.loop-statement.invariant

pub statements_room-returns : goal.statements_room-returns
statements_room-returns t c = all_grown (statements_room_in (map size_of c.args.structures.now)) (statements_room_none (map size_of c.args.structures.now)) _ _ _ _ c.loop-statement-test.false c.loop-statement.invariant

pub arms_room-loop-arm-preserved : goal.arms_room-loop-arm-preserved
arms_room-loop-arm-preserved t c = grows (arm_room_in (map size_of c.args.structures.now)) (arms_room_in (map size_of c.args.structures.now)) (arms_room_more (map size_of c.args.structures.now)) _ _ c.arm-item.result _ _ _ _ c.loop-arm-test.true c.arm-item.is c.arm_room.ensures c.most-greatest.ensures c.most-greatest.type_inv c.loop-arm.invariant

pub arms_room-returns : goal.arms_room-returns
arms_room-returns t c = all_grown (arms_room_in (map size_of c.args.structures.now)) (arms_room_none (map size_of c.args.structures.now)) _ _ _ _ c.loop-arm-test.false c.loop-arm.invariant
