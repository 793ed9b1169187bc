-- What stays of a memory while its bytes change: the sizes of objects, their addresses, and which of them are watched.
use Rattle.std.specs.Prelude.{ℕ, ◌≡◌, ◌<◌, ◌≤◌, ◌%◌, length}
use Rattle.c_typed.specs.Trees.{Program}
use Rattle.pic_map.specs.MapContent.{MapContent}
use Rattle.src_memory.specs.Cells.{Cell, cell_in, size_of}
use Rattle.src_memory.specs.Shown.{address_of}
use Rattle.src_memory.specs.declared.memory.Memory.{Memory}
use Rattle.src_values.specs.Objects.{function_at, is_watched, object_bytes, variables_of}
use Rattle.src_values.specs.declared.objects.Byte.{Byte}
use Rattle.src_values.specs.declared.objects.Byte.TheVariants as bytes
use Rattle.src_values.specs.declared.objects.Object.{Object}
use Rattle.src_values.specs.declared.objects.Object.TheVariants.{Fixed, Variable}

-- the program has the object
abbrev pub IsThere : Program → Object → Type 0
IsThere p (Fixed n) = n < length p.statics
IsThere p (Variable c n) = n < length (variables_of (function_at p c.function))

-- The numbers of static objects, and of their bytes, are such as events have.
pub record AreSmall (p : Program) : Type 0 where
  pub statics : length p.statics ≤ 65536
  pub bytes : (n : ℕ) → object_bytes p (Fixed n) ≤ 65536

-- The memory has the objects of the program, at the addresses of the map. Of an address the nine lowest bits count.
pub record IsShaped (p : Program) (map : MapContent) (m : Memory) : Type 0 where
  pub small : AreSmall p
  pub size : (o : Object) → size_of (cell_in m o) ≡ object_bytes p o
  pub watched : (o : Object) → IsThere p o → (cell_in m o).watched ≡ is_watched p o
  pub address : (o : Object) → IsThere p o → (cell_in m o).address % 512 ≡ address_of p map o % 512

-- an object of the same size, at the same address
pub record IsAlike (a b : Cell) : Type 0 where
  pub size : size_of a ≡ size_of b
  pub address : a.address ≡ b.address
  pub watched : a.watched ≡ b.watched

-- a byte of a pointer is one of a pointer to an object of the program
abbrev pub IsKnown : Program → Byte → Type 0
IsKnown p bytes.Unset = Unit {0}
IsKnown p (bytes.Number n) = Unit {0}
IsKnown p (bytes.Part object offset high) = IsThere p object
