-- The objects at the start of a program: static objects with the bytes that are given, and 0 elsewhere; variables unset.
use Rattle.std.specs.Prelude.{ℕ, ◌+◌, ◌%◌, false, not, List, [], ◌∷◌, ◌++◌, map, replicate, slice_get, slice_set}
use Rattle.std.specs.Global.{Global}
use Rattle.std.specs.declared.vec.Vec.{Vec}
use Rattle.c_typed.specs.Trees.{FunctionTree, StaticTree, VariableTree}
use Rattle.c_typed.specs.Types.{type_bytes}
use Rattle.c_typed.specs.declared.program.Initial.{Initial}
use Rattle.pic_map.specs.MapContent.{FrameLine, ObjectLine}
use Rattle.pic_world.specs.declared.Root.{Root}
use Rattle.src_memory.specs.Cells.{Cell, cell}
use Rattle.src_memory.specs.Shown.{frame_address, object_address}
use Rattle.src_memory.specs.declared.memory.Cells.{Cells}
use Rattle.src_values.specs.Memory.{initial_byte}
use Rattle.src_values.specs.declared.objects.Byte.{Byte}
use Rattle.src_values.specs.declared.objects.Byte.TheVariants as bytes

-- ---- static objects
-- The first byte of a list that is given to a place counts.
abbrev pub with_initials : List Initial → List Byte → List Byte
with_initials [] xs = xs
with_initials (i ∷ is) xs = slice_set (with_initials is xs) i.offset (initial_byte i.byte)

abbrev pub static_cell : List ℕ → ℕ → StaticTree → Cell
static_cell sizes address s = record { bytes = with_initials s.initial (replicate (type_bytes sizes s.ty.ty) (bytes.Number 0)); address = address; watched = not s.ty.constant }

abbrev pub static_cells : List ℕ → List ObjectLine → ℕ → List StaticTree → List Cell
static_cells sizes lines at [] = []
static_cells sizes lines at (s ∷ ss) = static_cell sizes (object_address (slice_get lines at)) s ∷ static_cells sizes lines (at + 1) ss

-- ---- variables
abbrev pub variable_cell : List ℕ → ℕ → VariableTree → Cell
variable_cell sizes address v = record { bytes = replicate (type_bytes sizes v.ty.ty) bytes.Unset; address = address; watched = false }

-- the address behind one of so many bytes, by its nine lowest bits
abbrev pub further : ℕ → ℕ → ℕ
further address size = (address + size % 512) % 512

abbrev pub address_behind : List ℕ → ℕ → List VariableTree → ℕ
address_behind sizes address [] = address
address_behind sizes address (v ∷ vs) = address_behind sizes (further address (type_bytes sizes v.ty.ty)) vs

abbrev pub variable_cells : List ℕ → ℕ → List VariableTree → List Cell
variable_cells sizes address [] = []
variable_cells sizes address (v ∷ vs) = variable_cell sizes address v ∷ variable_cells sizes (further address (type_bytes sizes v.ty.ty)) vs

-- parameters first, then locals
abbrev pub frame_cells : List ℕ → ℕ → FunctionTree → List Cell
frame_cells sizes address f = variable_cells sizes (address % 512) f.params ++ variable_cells sizes (address_behind sizes (address % 512) f.params) f.locals

abbrev pub all_frames : List ℕ → List FrameLine → Root → List FunctionTree → List (List Cell)
all_frames sizes frames root [] = []
all_frames sizes frames root (f ∷ fs) = frame_cells sizes (frame_address frames root f.name) f ∷ all_frames sizes frames root fs

abbrev pub frame_seen : Vec Cells Global → List Cell
frame_seen v = map cell v.items

abbrev pub seen_frames : List (Vec Cells Global) → List (List Cell)
seen_frames = map frame_seen
