use Rattle.std.proofs.Common.{◌≡◌, length, map}
use Rattle.pic_map.specs.MapView.{frame_of}
use Rattle.src_memory.specs.Shown.{frame_address}
use Rattle.src_memory.proofs.start.frame_of_name.Given as goal

abbrev pub invariant-loop-frames : goal.invariant-loop-frames
invariant-loop-frames l = frame_address (map frame_of l.frames) l.root l.name ≡ frame_address (map frame_of l.initial.frames) l.root l.name

abbrev pub decreases-loop-frames : goal.decreases-loop-frames
decreases-loop-frames l = length l.frames
