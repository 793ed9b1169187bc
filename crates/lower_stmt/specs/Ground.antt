-- What the code of all statements of a body stands on.
use Rattle.std.specs.Prelude.{ℕ, true, false, List, map, slice_index}
use Rattle.c_typed.specs.Trees.{Expression}
use Rattle.c_typed.specs.Views.{size_of, variable_of}
use Rattle.c_typed.specs.Words.{variable_bytes}
use Rattle.core_code.specs.Tree.{Tree}
use Rattle.core_code.specs.declared.code.Byte.{Byte}
use Rattle.core_code.specs.declared.code.Byte.TheVariants.{Frame, Result}
use Rattle.core_puts.specs.Bytes.{behind}
use Rattle.lower_expr.specs.Layout.{Layout, layout_of, value_width}
use Rattle.lower_expr.specs.Lowering.{expr_code}
use Rattle.lower_stmt.specs.declared.site.Site.{Site}

-- Where the variables of a function copy stand, how many bytes each local has, the copy's number, and the offset of the first
-- temporary byte in its frame.
pub record Ground : Type 0 where
  pub layout : Layout
  pub bytes : List ℕ
  pub copy : ℕ
  pub base : ℕ

unfoldable pub ground_of : Site → Ground
ground_of s = record { layout = layout_of s.places.now; bytes = map (variable_bytes (map size_of s.places.now.structures.now)) (map variable_of s.locals.now); copy = s.copy; base = s.base }

-- the first temporary byte, and that of this offset
abbrev pub first : Ground → Byte
first g = Frame g.copy g.base

abbrev pub temporary : Ground → ℕ → Byte
temporary g offset = behind (first g) offset

-- the first byte of a local, and how many it has
abbrev pub local_byte : Ground → ℕ → Byte
local_byte g local = Frame g.copy (slice_index g.layout.locals local)

abbrev pub local_bytes : Ground → ℕ → ℕ
local_bytes g local = slice_index g.bytes local

-- how many bytes a value has
abbrev pub width : Ground → Expression → ℕ
width g e = value_width g.layout e

-- code that leaves a value in the first temporary bytes, and code of an expression whose value isn't wanted
abbrev pub value_code : Ground → Expression → List Tree
value_code g e = expr_code g.layout g.copy g.base true e

abbrev pub effect_code : Ground → Expression → List Tree
effect_code g e = expr_code g.layout g.copy g.base false e

-- the lowest byte of the result under the copy's root
abbrev pub result_byte : Ground → Byte
result_byte g = Result g.layout.root 0
