use Rattle.std.proofs.Common.{◌≡◌, ℕ, ◌<◌, length, map}
use Rattle.c_typed.specs.Views.{program_of}
use Rattle.pic_map.specs.MapView.{object_of}
use Rattle.live_frames.specs.Memory.{is_taken}
use Rattle.ram_place.specs.Placement.{AreObjectsIn, but_below, objects_have}
use Rattle.ram_place.proofs.Remaining.{IsLeft}
use Rattle.ram_place.proofs.placing.place_objects.Given as goal

abbrev pub invariant-loop-number : goal.invariant-loop-number
invariant-loop-number l = record {
  left : IsLeft l.without l.p.statics.items (length l.lines.items) l.number;
  stand : AreObjectsIn (but_below (program_of l.p) l.without l.top) (program_of l.p) (map object_of l.lines.items);
  marks : (x : ℕ) → x < 512 → is_taken l.taken.marks x ≡ objects_have (map object_of l.lines.items) x;
}
