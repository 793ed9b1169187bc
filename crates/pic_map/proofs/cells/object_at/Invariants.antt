use Rattle.std.proofs.Common.{◌≡◌, ◌≤◌, ◌+◌, length, map}
use Rattle.pic_chip.specs.Run.{object_at as object_of_run}
use Rattle.pic_map.specs.MapContent.{range_of}
use Rattle.pic_map.specs.MapView.{object_of}
use Rattle.pic_map.proofs.cells.object_at.Given as goal

abbrev pub invariant-loop-lines : goal.invariant-loop-lines
invariant-loop-lines l = record {
  few : l.number + length l.lines ≤ 65536;
  same : object_of_run (map range_of (map object_of l.lines)) l.number l.address ≡ object_of_run (map range_of (map object_of l.initial.lines)) 0 l.address;
}

abbrev pub decreases-loop-lines : goal.decreases-loop-lines
decreases-loop-lines l = length l.lines
