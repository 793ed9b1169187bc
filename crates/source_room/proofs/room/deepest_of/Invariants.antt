use Rattle.std.proofs.Common.{◌≡◌, ◌<◌, ◌^◌, max, drop}
use Rattle.c_typed.specs.Nodes.{capped}
use Rattle.source_room.proofs.Seen.{deepest_in}
use Rattle.source_room.proofs.room.deepest_of.Given as goal

abbrev pub invariant-loop-function : goal.invariant-loop-function
invariant-loop-function l = (l.deepest < 2 ^ 64) × (capped (max l.deepest (deepest_in (drop l.function-index l.functions))) ≡ capped (deepest_in l.functions))
