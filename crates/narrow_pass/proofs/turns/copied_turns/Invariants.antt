use Rattle.std.proofs.Common.{◌≡◌, map, take}
use Rattle.narrow_pass.specs.Ways.{turn_of}
use Rattle.narrow_pass.proofs.turns.copied_turns.Given as goal

abbrev pub invariant-loop-turn : goal.invariant-loop-turn
invariant-loop-turn l = map turn_of l.made.items ≡ map turn_of (take l.turn-index l.turns)
