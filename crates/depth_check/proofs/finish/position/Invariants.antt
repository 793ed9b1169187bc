use Rattle.std.proofs.Common.{◌≡◌, ◌+◌, drop}
use Rattle.depth_check.specs.Search.{position}
use Rattle.depth_check.proofs.finish.position.Given as goal

abbrev pub invariant-loop-i : goal.invariant-loop-i
invariant-loop-i l = l.i + position l.n (drop l.i l.numbers) ≡ position l.n l.numbers
