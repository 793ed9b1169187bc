use Rattle.std.proofs.Common.{◌≡◌, length, map}
use Rattle.c_typed.specs.Views.{program_of}
use Rattle.pic_map.specs.MapView.{object_of, frame_of}
use Rattle.ram_place.specs.Placement.{AreFramesBelow}
use Rattle.ram_place.proofs.placing.place_frames.Given as goal

abbrev pub invariant-loop-copy : goal.invariant-loop-copy
invariant-loop-copy l = record {
  count : length l.frames.items ≡ l.copy-index;
  stand : AreFramesBelow l.top (program_of l.p) (map object_of l.objects.lines.items) l.list (map frame_of l.frames.items);
}
