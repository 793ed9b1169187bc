-- What the bytes of static objects begin as (ISO/IEC 9899:1990, 6.5.7).
use Rattle.std.specs.Prelude.{ℕ, zero, suc, ◌<◌, ◌≤◌, List, [], ◌∷◌, ◌++◌, length, nat_eq, if◌then◌else◌}
use Rattle.std.specs.Global.{Global}
use Rattle.std.specs.declared.vec.Vec.{Vec}
use Rattle.c_typed.specs.Trees.{StaticTree}
use Rattle.c_typed.specs.Types.{type_bytes}
use Rattle.c_typed.specs.declared.program.Initial.{Initial}
use Rattle.c_typed.specs.declared.program.InitialByte.{InitialByte}
use Rattle.c_typed.specs.declared.program.InitialByte.TheVariants as given
use Rattle.core_code.specs.declared.code.FirstByte.{FirstByte}
use Rattle.core_code.specs.declared.code.FirstByte.TheVariants.{Number, Low, High}

-- a number, or the low or high byte of the address of a static object
abbrev pub shown : InitialByte → FirstByte
shown (given.Number number) = Number number
shown (given.Address object byte) = if nat_eq byte 0 then Low object else High object

-- what the byte at this offset is given, or else 0
abbrev pub byte_at : List Initial → ℕ → FirstByte
byte_at [] offset = Number 0
byte_at (i ∷ is) offset = if nat_eq i.offset offset then shown i.byte else byte_at is offset

-- those at the offsets below this one
unfoldable pub bytes_in : List Initial → ℕ → List FirstByte
bytes_in initial zero = []
bytes_in initial (suc offset) = bytes_in initial offset ++ byte_at initial offset ∷ []

-- all bytes of an object
abbrev pub static_bytes : List ℕ → StaticTree → List FirstByte
static_bytes sizes object = bytes_in object.initial (type_bytes sizes object.ty.ty)

abbrev pub items_of : Vec FirstByte Global → List FirstByte
items_of bytes = bytes.items

-- a number, or a byte of the address of an object whose number byte code has room for
abbrev pub HasNumber : InitialByte → Type 0
HasNumber (given.Number number) = Unit {0}
HasNumber (given.Address object byte) = object < 65536

abbrev pub IsNumbered : Initial → Type 0
IsNumbered i = HasNumber i.byte

-- byte code has room for the offset of each byte
abbrev pub HasFewBytes : Vec FirstByte Global → Type 0
HasFewBytes bytes = length bytes.items ≤ 65536
