-- The memory that the code has: each object with its bytes, its address in the map, and whether an access to it is an event.
use Rattle.std.specs.Prelude.{ℕ, zero, suc, ◌%◌, Bool, false, ◌&&◌, nat_lt, if◌then◌else◌, List, [], map, length, Option, Some, None, slice_get, slice_set}
use Rattle.std.specs.Borrow.{Bor}
use Rattle.std.specs.Global.{Global}
use Rattle.std.specs.declared.vec.Vec.{Vec}
use Rattle.pic_world.specs.declared.Cell.{Cell as Place}
use Rattle.pic_world.specs.declared.Cell.TheVariants.{Static}
use Rattle.pic_world.specs.declared.Root.{Root}
use Rattle.pic_world.specs.declared.Root.TheVariants.{Main, Isr}
use Rattle.src_memory.specs.declared.memory.Cells.{Cells}
use Rattle.src_memory.specs.declared.memory.Memory.{Memory}
use Rattle.src_values.specs.Data.{Datum}
use Rattle.src_values.specs.Memory as spec
use Rattle.src_values.specs.Objects.{same_object}
use Rattle.src_values.specs.Values.{byte_count, byte_of}
use Rattle.src_values.specs.declared.objects.Byte.{Byte}
use Rattle.src_values.specs.declared.objects.Byte.TheVariants.{Unset}
use Rattle.src_values.specs.declared.objects.Object.{Object}
use Rattle.src_values.specs.declared.objects.Object.TheVariants.{Fixed, Variable}

pub record Cell : Type 0 where
  pub bytes : List Byte
  pub address : ℕ
  pub watched : Bool

-- an object that isn't there
abbrev pub no_cell : Cell
no_cell = record { bytes = []; address = 0; watched = false }

abbrev pub cell : Cells → Cell
cell c = record { bytes = c.bytes.items; address = c.address; watched = c.watched }

abbrev pub cells_seen : List Cells → List Cell
cells_seen = map cell

abbrev pub cell_of : Option Cells → Cell
cell_of None = no_cell
cell_of (Some c) = cell c

-- the object that a reference leads to, if there is one
abbrev pub cell_or_none : Option (Bor Cells) → Cell
cell_or_none None = no_cell
cell_or_none (Some c) = cell c.now

abbrev pub cell_at : List Cells → ℕ → Cell
cell_at cells n = cell_of (slice_get cells n)

abbrev pub variables_in : Option (Vec Cells Global) → List Cells
variables_in None = []
variables_in (Some v) = v.items

-- a variable of a function
abbrev pub variable_at : List (Vec Cells Global) → ℕ → ℕ → Cell
variable_at frames f n = cell_at (variables_in (slice_get frames f)) n

abbrev pub frames_in : Memory → Root → List (Vec Cells Global)
frames_in m Main = m.main.items
frames_in m Isr = m.handler.items

abbrev pub cell_in : Memory → Object → Cell
cell_in m (Fixed n) = cell_at m.fixed.items n
cell_in m (Variable c n) = variable_at (frames_in m c.root) c.function n

-- ---- what changes
-- a byte more, where the object has that byte
abbrev pub put_cell : Cell → ℕ → Byte → Cell
put_cell c offset byte = record c { bytes = slice_set c.bytes offset byte }

abbrev pub unset : Byte → Byte
unset byte = Unset

abbrev pub cleared_cell : Cell → Cell
cleared_cell c = record c { bytes = map unset c.bytes }

-- the first bytes are those of a value
abbrev pub put_first : Datum → ℕ → Cell → Cell
put_first v zero c = c
put_first v (suc k) c = put_cell (put_first v k c) k (byte_of v k)

-- ---- as a memory of the definitions
abbrev pub byte_or : Option Byte → Byte
byte_or None = Unset
byte_or (Some byte) = byte

abbrev pub byte_at : Cell → ℕ → Byte
byte_at c at = byte_or (slice_get c.bytes at)

unfoldable pub memory_in : Memory → spec.Memory
memory_in m object at = byte_at (cell_in m object) at

abbrev pub size_of : Cell → ℕ
size_of c = length c.bytes

-- an object with the bytes of a value
abbrev pub with_value : spec.Memory → Object → Datum → spec.Memory
with_value m object v other at = if same_object other object && nat_lt at (byte_count v) then byte_of v at else m other at

-- ---- in events
-- what an access to a byte is in an event, if it is one
abbrev pub seen_cell : Bool → Object → ℕ → Option Place
seen_cell watched (Fixed n) offset = if watched then Some (Static (n % 65536) (offset % 65536)) else None
seen_cell watched (Variable c n) offset = None
