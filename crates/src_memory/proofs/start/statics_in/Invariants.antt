use Rattle.std.proofs.Common.{◌≡◌, ◌+◌, ◌++◌, length, map}
use Rattle.c_typed.specs.Views.{size_of, static_of}
use Rattle.pic_map.specs.MapView.{object_of}
use Rattle.src_memory.specs.Cells.{cells_seen}
use Rattle.src_memory.specs.Start.{static_cells}
use Rattle.src_memory.proofs.start.statics_in.Given as goal

abbrev pub invariant-loop-statics : goal.invariant-loop-statics
invariant-loop-statics l = record {
  few : l.number + length l.statics ≡ length l.initial.statics;
  cells : cells_seen l.cells.items ++ static_cells (map size_of l.structures) (map object_of l.objects) l.number (map static_of l.statics) ≡ static_cells (map size_of l.structures) (map object_of l.objects) 0 (map static_of l.initial.statics);
}

abbrev pub decreases-loop-statics : goal.decreases-loop-statics
decreases-loop-statics l = length l.statics
