-- What the code of a function copy stands on: its root, the offsets of its parameters and locals in its frame, the
-- number of each function's copy under the root, and how many bytes each structure has.
use Rattle.std.specs.Prelude.{ℕ, List, Option, Some, None, map, min, slice_get, slice_index}
use Rattle.c_typed.specs.Trees.{Expression, Place}
use Rattle.c_typed.specs.Types.{type_bytes, type_of, place_type}
use Rattle.c_typed.specs.Views.{size_of}
use Rattle.c_typed.specs.declared.expression.Object.{Object}
use Rattle.c_typed.specs.declared.expression.Object.TheVariants as object
use Rattle.c_typed.specs.declared.types.Ty.{Ty}
use Rattle.core_code.specs.declared.code.Byte.{Byte}
use Rattle.core_code.specs.declared.code.Byte.TheVariants.{Static, Frame, Device}
use Rattle.core_puts.specs.Bytes.{beyond}
use Rattle.lower_expr.specs.declared.places.Locals.{Locals}
use Rattle.pic_world.specs.declared.Root.{Root}

pub record Layout : Type 0 where
  pub root : Root
  pub params : List ℕ
  pub locals : List ℕ
  pub copies : List (Option ℕ)
  pub sizes : List ℕ

abbrev pub layout_of : Locals → Layout
layout_of l = record { root = l.root; params = l.params.items; locals = l.locals.items; copies = l.copies.items; sizes = map size_of l.structures.now }

-- how many bytes a type has, as far as 16 bits hold it
abbrev pub width : Layout → Ty → ℕ
width l ty = beyond 0 (type_bytes l.sizes ty)

abbrev pub value_width : Layout → Expression → ℕ
value_width l e = width l (type_of e)

abbrev pub place_width : Layout → Place → ℕ
place_width l p = width l (place_type p).ty

unfoldable pub static_number : ℕ → ℕ
static_number number = min number 0xffff

-- the first byte of what a name stands for
abbrev pub object_byte : Layout → ℕ → Object → Byte
object_byte l copy (object.Static number) = Static (static_number number) 0
object_byte l copy (object.Param number) = Frame copy (slice_index l.params number)
object_byte l copy (object.Local number) = Frame copy (slice_index l.locals number)
object_byte l copy (object.Register address) = Device address

abbrev pub known_copy : Option ℕ → ℕ
known_copy None = 0
known_copy (Some copy) = copy

abbrev pub copy_in : Option (Option ℕ) → ℕ
copy_in None = 0
copy_in (Some copy) = known_copy copy

-- the number of a function's copy under the root
abbrev pub copy_of : Layout → ℕ → ℕ
copy_of l function = copy_in (slice_get l.copies function)
