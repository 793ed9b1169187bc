use Rattle.std.proofs.Common.{◌≡◌, ◌+◌, ◌<◌, ◌^◌, drop}
use Rattle.c_typed.specs.Nodes.{capped}
use Rattle.source_room.proofs.Seen.{functions_in}
use Rattle.source_room.proofs.room.depth_of_functions.Given as goal

abbrev pub invariant-loop-function : goal.invariant-loop-function
invariant-loop-function l = (l.count < 2 ^ 64) × (capped (l.count + functions_in (drop l.function-index l.functions)) ≡ capped (functions_in l.functions))
