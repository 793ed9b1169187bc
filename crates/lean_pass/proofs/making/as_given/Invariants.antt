use Rattle.std.proofs.Common.{take}
use Rattle.std.specs.List.{AllZip}
use Rattle.lean_pass.specs.Made.{IsAsGiven}
use Rattle.lean_pass.proofs.making.as_given.Given as goal

abbrev pub invariant-loop-block : goal.invariant-loop-block
invariant-loop-block l = AllZip IsAsGiven (take l.block-index l.given) l.made.items
