use Rattle.std.proofs.Common.{◌≡◌, ◌<◌, ◌^◌, max, drop}
use Rattle.c_typed.specs.Nodes.{capped}
use Rattle.source_room.proofs.Seen.{statements_in, arms_in}
use Rattle.source_room.proofs.room.+statements.Given as goal

abbrev pub invariant-depth_of_arms-loop-arm : goal.invariant-depth_of_arms-loop-arm
invariant-depth_of_arms-loop-arm l = (l.deepest < 2 ^ 64) × (capped (max l.deepest (arms_in (drop l.arm-index l.arms))) ≡ capped (arms_in l.arms))

abbrev pub invariant-depth_of_statements-loop-statement : goal.invariant-depth_of_statements-loop-statement
invariant-depth_of_statements-loop-statement l = (l.deepest < 2 ^ 64) × (capped (max l.deepest (statements_in (drop l.statement-index l.statements))) ≡ capped (statements_in l.statements))
