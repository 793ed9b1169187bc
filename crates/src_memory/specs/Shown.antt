-- How events are shown: a byte of a pointer as that byte of the address that the map gives its object, plus the offset.
use Rattle.std.specs.Prelude.{ℕ, ◌+◌, ◌/◌, ◌%◌, Bool, true, false, ◌&&◌, if◌then◌else◌, List, [], ◌∷◌, Option, Some, None, slice_get}
use Rattle.c_typed.specs.Roots.{same_bytes}
use Rattle.c_typed.specs.Trees.{Program}
use Rattle.pic_map.specs.MapContent.{MapContent, ObjectLine, FrameLine}
use Rattle.pic_world.specs.Roots.{same_root}
use Rattle.pic_world.specs.World.{Happening, ReadOf, WriteOf, Ended}
use Rattle.pic_world.specs.declared.Event.{Event}
use Rattle.pic_world.specs.declared.Event.TheVariants as events
use Rattle.pic_world.specs.declared.Root.{Root}
use Rattle.src_values.specs.Objects.{function_at, variable_offset}
use Rattle.src_values.specs.declared.objects.Byte.{Byte}
use Rattle.src_values.specs.declared.objects.Byte.TheVariants as bytes
use Rattle.src_values.specs.declared.objects.Object.{Object}
use Rattle.src_values.specs.declared.objects.Object.TheVariants.{Fixed, Variable}

abbrev pub object_address : Option ObjectLine → ℕ
object_address None = 0
object_address (Some line) = line.address

-- the address of the frame of a root and a name
abbrev pub frame_address : List FrameLine → Root → List ℕ → ℕ
frame_address [] root name = 0
frame_address (f ∷ fs) root name = if same_root f.root root && same_bytes f.name name then f.address else frame_address fs root name

-- the address of an object
unfoldable pub address_of : Program → MapContent → Object → ℕ
address_of p map (Fixed n) = object_address (slice_get map.objects n)
address_of p map (Variable c n) = frame_address map.frames c.root (function_at p c.function).name + variable_offset p c.function n

-- the low 8 bits of an address, or its ninth bit
abbrev pub address_byte : Bool → ℕ → ℕ
address_byte false a = a % 256
address_byte true a = a / 256 % 2

abbrev pub shown_byte : (Object → ℕ) → Byte → ℕ
shown_byte address bytes.Unset = 0
shown_byte address (bytes.Number n) = n
shown_byte address (bytes.Part object offset high) = address_byte high (address object + offset)

-- an event with its value under the map
unfoldable pub shown : (Object → ℕ) → Happening Byte → Event
shown address (ReadOf cell byte) = events.Read cell (shown_byte address byte)
shown address (WriteOf cell byte) = events.Write cell (shown_byte address byte)
shown address Ended = events.End
