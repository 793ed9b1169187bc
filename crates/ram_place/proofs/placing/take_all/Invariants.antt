use Rattle.std.proofs.Common.{◌≡◌, ℕ, ◌<◌, ◌||◌, map, drop}
use Rattle.pic_map.specs.MapView.{frame_of}
use Rattle.live_frames.specs.Memory.{is_taken}
use Rattle.ram_place.specs.Placement.{frames_have}
use Rattle.ram_place.proofs.placing.take_all.Given as goal

abbrev pub invariant-loop-frame : goal.invariant-loop-frame
invariant-loop-frame l = (x : ℕ) → x < 512 → (is_taken l.taken.marks x || frames_have (drop l.frame-index (map frame_of l.frames)) x) ≡ (is_taken l.fn.taken.marks x || frames_have (map frame_of l.frames) x)
