use Rattle.std.proofs.Common.{take}
use Rattle.std.specs.List.{AllZip}
use Rattle.lean_pass.specs.Made.{IsSeen}
use Rattle.lean_pass.proofs.making.blocks_for.Given as goal

abbrev pub invariant-loop-block : goal.invariant-loop-block
invariant-loop-block l = AllZip IsSeen (take l.block-index l.given) l.blocks.items
