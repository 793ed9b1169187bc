use Rattle.std.proofs.Common.{◌≡◌, ◌++◌, map, length}
use Rattle.pic_map.specs.MapView.{frame_of}
use Rattle.pic_map.specs.MapText.{frames_text, AreFrames}
use Rattle.pic_map.proofs.write.push_frames.Given as goal

abbrev pub invariant-loop-left : goal.invariant-loop-left
invariant-loop-left l = (l.text.items ++ frames_text (map frame_of l.left) ≡ l.fn.text.items ++ frames_text (map frame_of l.fn.frames)) × AreFrames (map frame_of l.left)

abbrev pub decreases-loop-left : goal.decreases-loop-left
decreases-loop-left l = length l.left
