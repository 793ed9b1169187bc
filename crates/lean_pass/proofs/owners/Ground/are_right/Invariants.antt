use Rattle.std.proofs.Common.{◌≡◌, ◌+◌, length}
use Rattle.lean_code.specs.Checked as listed
use Rattle.code_place.specs.Layouts.{layout_of}
use Rattle.lean_pass.specs.Views.{block_of, rows_of, sketch_of}
use Rattle.lean_pass.proofs.owners.Ground.are_right.Given as goal

abbrev pub invariant-loop-row : goal.invariant-loop-row
invariant-loop-row l =
    (listed.are_right (sketch_of (layout_of l.self.placed.now) l.sketch) (block_of l.block) l.at (rows_of l.left) ≡ listed.are_right (sketch_of (layout_of l.self.placed.now) l.sketch) (block_of l.block) 0 (rows_of l.block.rows.items))
    × (l.at + length l.left ≡ length l.block.rows.items)

abbrev pub decreases-loop-row : goal.decreases-loop-row
decreases-loop-row l = length l.left
