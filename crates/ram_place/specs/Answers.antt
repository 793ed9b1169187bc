-- What the answers of the placing say of a program.
use Rattle.std.specs.Prelude.{◌≡◌, ℕ, ◌<◌, ◌⊎◌, Bool, true, List, length, map, Result, Ok, Err}
use Rattle.std.specs.Global.{Global}
use Rattle.std.specs.declared.vec.Vec.{Vec}
use Rattle.c_typed.specs.Trees.{StaticTree, Program}
use Rattle.c_typed.specs.Types.{type_bytes}
use Rattle.call_graph.specs.declared.types.FnCopy.{FnCopy}
use Rattle.pic_map.specs.MapContent as content
use Rattle.pic_map.specs.MapView.{object_of, frame_of}
use Rattle.pic_map.specs.declared.ObjLine.{ObjLine}
use Rattle.pic_map.specs.declared.FrameLine.{FrameLine}
use Rattle.live_frames.specs.Memory.{is_taken}
use Rattle.ram_place.specs.Placement.{Extent, whole, object_line, frame_line, objects_have, AreObjectsIn, AreFramesBelow, IsPlacingIn, LacksObjectIn, LacksFrameIn, LacksFrameBehindBelow}
use Rattle.ram_place.specs.Regions.{StandsBelow, HasNoPlaceBelow}
use Rattle.ram_place.specs.Sizes as sizes
use Rattle.ram_place.specs.declared.placing.Objects.{Objects}
use Rattle.pic_map.specs.declared.Placed.{Placed}
use Rattle.ram_place.specs.declared.placing.PlaceError.{PlaceError}
use Rattle.ram_place.specs.declared.placing.PlaceError.TheVariants.{NoMemory, Ram}

-- What is given is the placing. A name is told exactly where what has it is the first that has no address.
abbrev pub TellsPlacingIn : Extent → Program → List FnCopy → Result Placed PlaceError → Type 0
TellsPlacingIn e p copies (Ok placed) = IsPlacingIn e p copies (map object_of placed.objects.items) (map frame_of placed.frames.items)
TellsPlacingIn e p copies (Err NoMemory) = Unit {0}
TellsPlacingIn e p copies (Err (Ram name)) = LacksObjectIn e p name.items ⊎ LacksFrameIn e p copies name.items

abbrev pub TellsPlacing : Program → List FnCopy → Result Placed PlaceError → Type 0
TellsPlacing p = TellsPlacingIn (whole p) p

-- The line of a static object, or its name where it has no place.
abbrev pub TellsObject : ℕ → Program → (ℕ → Type 0) → StaticTree → Result ObjLine PlaceError → Type 0
TellsObject top p taken s (Ok line) = (object_of line ≡ object_line p s line.address) × StandsBelow top taken line.size line.address
TellsObject top p taken s (Err NoMemory) = Unit {0}
TellsObject top p taken s (Err (Ram name)) = (name.items ≡ s.name) × HasNoPlaceBelow top taken (type_bytes p.sizes s.ty.ty)

-- The line of a copy's frame, or its name where it has no place.
abbrev pub TellsFrame : ℕ → Program → (ℕ → Type 0) → FnCopy → Result FrameLine PlaceError → Type 0
TellsFrame top p taken copy (Ok line) = (frame_of line ≡ frame_line p copy line.address) × StandsBelow top taken line.size line.address
TellsFrame top p taken copy (Err NoMemory) = Unit {0}
TellsFrame top p taken copy (Err (Ram name)) = (name.items ≡ sizes.name_of p copy.function) × HasNoPlaceBelow top taken (sizes.frame_bytes p copy.function)

-- the bytes of the objects are marked
abbrev pub AreMarked : Objects → Type 0
AreMarked objects = (x : ℕ) → x < 512 → is_taken objects.taken.marks x ≡ objects_have (map object_of objects.lines.items) x

-- All objects, and their bytes; or the name of the first that has no place.
abbrev pub TellsObjects : Extent → Program → Result Objects PlaceError → Type 0
TellsObjects e p (Ok objects) = (length objects.lines.items ≡ length e.statics) × AreObjectsIn e p (map object_of objects.lines.items) × AreMarked objects
TellsObjects e p (Err NoMemory) = Unit {0}
TellsObjects e p (Err (Ram name)) = LacksObjectIn e p name.items

-- The frames of all copies, or the name of the first that has no place.
abbrev pub TellsFrames : ℕ → Program → List content.ObjectLine → List FnCopy → Result (Vec FrameLine Global) PlaceError → Type 0
TellsFrames top p objects copies (Ok frames) = (length frames.items ≡ length copies) × AreFramesBelow top p objects copies (map frame_of frames.items)
TellsFrames top p objects copies (Err NoMemory) = Unit {0}
TellsFrames top p objects copies (Err (Ram name)) = LacksFrameBehindBelow top p objects copies name.items
