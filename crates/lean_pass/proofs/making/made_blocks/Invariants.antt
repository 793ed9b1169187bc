use Rattle.std.proofs.Common.{take}
use Rattle.std.specs.List.{AllZip}
use Rattle.lean_code.specs.Checked.{IsBlockOf}
use Rattle.code_place.specs.Layouts.{layout_of}
use Rattle.lean_pass.specs.Views.{sketch_of}
use Rattle.lean_pass.proofs.making.made_blocks.Given as goal

abbrev pub invariant-loop-block : goal.invariant-loop-block
invariant-loop-block l = AllZip (IsBlockOf (sketch_of (layout_of l.placed) l.sketch)) (take l.block-index l.given) l.made.items
