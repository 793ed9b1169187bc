-- The line that is printed for an event, by the names of a map. Its form is the project's own.
use Rattle.std.specs.Prelude.{ℕ, ◌<◌, IsTrue, is_some, Option, Some, None, List, [], ◌∷◌, ◌++◌, codes, length, decimal}
use Rattle.std.specs.List.{slice_get}
use Rattle.pic_world.specs.Registers.{name_at}
use Rattle.text_lines.specs.Text.{hex_pairs}
use Rattle.pic_world.specs.declared.Cell.{Cell}
use Rattle.pic_world.specs.declared.Cell.TheVariants.{Device, Static}
use Rattle.pic_world.specs.declared.Event.{Event}
use Rattle.pic_world.specs.declared.Event.TheVariants.{Read, Write, End}
use Rattle.pic_map.specs.MapContent.{ObjectLine, MapContent}
use Rattle.pic_map.specs.MapText.{line}

abbrev pub name_or_none : Option (List ℕ) → List ℕ
name_or_none None = []
name_or_none (Some name) = name

abbrev pub object_name : Option ObjectLine → List ℕ
object_name None = []
object_name (Some o) = o.name

-- a register by its name, a byte of an object by the object's name, a full stop and the offset
abbrev pub cell_text : MapContent → Cell → List ℕ
cell_text content (Device address) = name_or_none (name_at address)
cell_text content (Static object offset) = object_name (slice_get content.objects object) ++ codes "." ++ decimal offset

abbrev pub access_text : List ℕ → MapContent → Cell → ℕ → List ℕ
access_text word content cell value = word ++ cell_text content cell ++ codes " " ++ hex_pairs (value ∷ [])

abbrev pub event_text : MapContent → Event → List ℕ
event_text content (Read cell value) = line (access_text (codes "R ") content cell value)
event_text content (Write cell value) = line (access_text (codes "W ") content cell value)
event_text content End = line (codes "End")

-- the cell is a register, by its lowest address, or of an object of the map
abbrev pub HasName : MapContent → Cell → Type 0
HasName content (Device address) = IsTrue (is_some (name_at address))
HasName content (Static object offset) = object < length content.objects

abbrev pub CanBeShown : MapContent → Event → Type 0
CanBeShown content (Read cell value) = HasName content cell
CanBeShown content (Write cell value) = HasName content cell
CanBeShown content End = Unit {0}
