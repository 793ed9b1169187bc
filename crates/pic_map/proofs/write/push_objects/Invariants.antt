use Rattle.std.proofs.Common.{◌≡◌, ◌++◌, map, length}
use Rattle.pic_map.specs.MapView.{object_of}
use Rattle.pic_map.specs.MapText.{objects_text, AreObjects}
use Rattle.pic_map.proofs.write.push_objects.Given as goal

abbrev pub invariant-loop-left : goal.invariant-loop-left
invariant-loop-left l = (l.text.items ++ objects_text (map object_of l.left) ≡ l.fn.text.items ++ objects_text (map object_of l.fn.objects)) × AreObjects (map object_of l.left)

abbrev pub decreases-loop-left : goal.decreases-loop-left
decreases-loop-left l = length l.left
