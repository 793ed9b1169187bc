-- The code of locals that are given values (ISO/IEC 9899:1990, 6.5.7).
use Rattle.std.specs.Prelude.{ℕ, zero, suc, ◌-◌, ◌&&◌, nat_le, nat_lt, Bool, if◌then◌else◌, List, [], ◌∷◌, ◌++◌, slice_index}
use Rattle.std.specs.List.{list_any}
use Rattle.c_typed.specs.Trees as tree
use Rattle.c_typed.specs.Trees.{Expression, Item, Place}
use Rattle.c_typed.specs.Words.{item_bytes}
use Rattle.core_code.specs.Tree as core
use Rattle.core_code.specs.Tree.{Tree}
use Rattle.core_code.specs.declared.code.Byte.{Byte}
use Rattle.core_puts.specs.Bytes.{behind}
use Rattle.lower_expr.specs.Lowering.{pointer_code, address_code}
use Rattle.lower_expr.specs.Rows.{struct_row}
use Rattle.lower_expr.specs.Spots.{spot_of}
use Rattle.lower_expr.specs.declared.places.Spot.TheVariants.{Fixed}
use Rattle.core_puts.specs.Puts.{copies}
use Rattle.lower_stmt.specs.Ground.{Ground, first, local_byte, local_bytes, width, value_code}

-- an integer or a pointer, from the byte `to` on
abbrev pub scalar_code : Ground → Byte → Expression → List Tree
scalar_code g to e = value_code g e ++ copies to (first g) (width g e)

-- A string for an array of so many bytes: zeros stand behind its characters.
unfoldable pub text_code : Byte → List ℕ → ℕ → List Tree
text_code to bytes zero = []
text_code to bytes (suc place) = text_code to bytes place ++ core.Set (behind to place) (slice_index bytes place) ∷ []

-- a structure of so many bytes
abbrev pub struct_code : Ground → Byte → Place → ℕ → List Tree
struct_code g to from size = pointer_code (spot_of g.layout g.copy from) (address_code g.layout g.copy g.base from) ++ struct_row g.layout.root (Fixed to) (spot_of g.layout g.copy from) (first g) size

-- an item of a list for the local whose first byte is `to`
abbrev pub item_code : Ground → Byte → Item → List Tree
item_code g to (tree.Scalar offset e) = scalar_code g (behind to offset) e
item_code g to (tree.Struct offset from size) = struct_code g (behind to offset) from size
item_code g to (tree.Text offset bytes size) = text_code (behind to offset) bytes size

abbrev pub items_code : Ground → Byte → List Item → List Tree
items_code g to [] = []
items_code g to (item ∷ items) = item_code g to item ++ items_code g to items

abbrev pub offset_of : Item → ℕ
offset_of (tree.Scalar offset e) = offset
offset_of (tree.Struct offset from size) = offset
offset_of (tree.Text offset bytes size) = offset

-- the byte at this place is one of so many from an offset on
abbrev pub is_within : ℕ → ℕ → ℕ → Bool
is_within offset size place = nat_le offset place && nat_lt (place - offset) size

-- an item gives the byte at this place a value
abbrev pub covers : Ground → ℕ → Item → Bool
covers g place item = is_within (offset_of item) (item_bytes g.layout.sizes item) place

abbrev pub is_covered : Ground → List Item → ℕ → Bool
is_covered g items place = list_any (covers g place) items

-- Bytes that no item gives a value become 0, in rising order.
unfoldable pub rest_code : Ground → Byte → List Item → ℕ → List Tree
rest_code g to items zero = []
rest_code g to items (suc place) = rest_code g to items place ++ (if is_covered g items place then [] else core.Set (behind to place) 0 ∷ [])

-- a local with a list or a string
abbrev pub list_code : Ground → ℕ → List Item → List Tree
list_code g local items = items_code g (local_byte g local) items ++ rest_code g (local_byte g local) items (local_bytes g local)
