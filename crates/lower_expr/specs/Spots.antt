-- Where places are.
use Rattle.std.specs.Prelude.{ℕ, Option, Some, None}
use Rattle.c_typed.specs.Trees as tree
use Rattle.c_typed.specs.Trees.{Place}
use Rattle.core_code.specs.declared.code.Byte.{Byte}
use Rattle.core_puts.specs.Bytes.{behind}
use Rattle.lower_expr.specs.Layout.{Layout, object_byte}
use Rattle.lower_expr.specs.declared.places.Spot.{Spot}
use Rattle.lower_expr.specs.declared.places.Spot.TheVariants.{Fixed, Bit, Computed}

abbrev pub member_spot : Spot → ℕ → Spot
member_spot (Fixed byte) offset = Fixed (behind byte offset)
member_spot (Bit register bit) offset = Computed
member_spot Computed offset = Computed

-- A name stands at its object's first byte, and a member of a fixed place so many bytes behind it.
unfoldable pub spot_of : Layout → ℕ → Place → Spot
spot_of l copy (tree.Name object ty line) = Fixed (object_byte l copy object)
spot_of l copy (tree.Bit register bit line) = Bit register bit
spot_of l copy (tree.Member whole member offset ty line) = member_spot (spot_of l copy whole) offset
spot_of l copy (tree.Deref pointer ty line) = Computed

-- how many bytes the pointer to a place takes
abbrev pub pointer_bytes : Spot → ℕ
pointer_bytes (Fixed byte) = 0
pointer_bytes (Bit register bit) = 0
pointer_bytes Computed = 2

-- the first byte of a place, if it is fixed
abbrev pub fixed_of : Spot → Option Byte
fixed_of (Fixed byte) = Some byte
fixed_of (Bit register bit) = None
fixed_of Computed = None
