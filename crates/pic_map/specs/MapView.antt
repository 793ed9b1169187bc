-- What a map tells, apart from where it lies in memory.
use Rattle.std.specs.Prelude.{map}
use Rattle.pic_map.specs.declared.Map.{Map}
use Rattle.pic_map.specs.declared.ObjLine.{ObjLine}
use Rattle.pic_map.specs.declared.FrameLine.{FrameLine}
use Rattle.pic_map.specs.MapContent as content
use Rattle.pic_map.specs.MapContent.{MapContent}

abbrev pub object_of : ObjLine → content.ObjectLine
object_of o = record { constant = o.fixed; name = o.name.items; address = o.address; size = o.size }

abbrev pub frame_of : FrameLine → content.FrameLine
frame_of f = record { root = f.root; name = f.name.items; address = f.address; size = f.size }

abbrev pub content_of : Map → MapContent
content_of m = record { main = m.main; halt = m.halt; objects = map object_of m.objects.items; frames = map frame_of m.frames.items }
