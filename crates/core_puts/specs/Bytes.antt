-- Offsets in frames and objects, the bytes of numbers, and the types that operations have.
use Rattle.std.specs.Prelude.{ℕ, ◌+◌, ◌/◌, ◌%◌, nat_eq, nat_lt, min, Bool, if◌then◌else◌, Option, Some, None}
use Rattle.c_ints.specs.Range.{bytes_of}
use Rattle.c_ints.specs.declared.types.IntTy.{IntTy}
use Rattle.c_ints.specs.declared.types.IntTy.TheVariants.{UInt}
use Rattle.c_typed.specs.declared.types.Ty.{Ty}
use Rattle.c_typed.specs.declared.types.Ty.TheVariants.{Void, Int, Pointer, Array, Struct}
use Rattle.core_code.specs.declared.code.Byte.{Byte}
use Rattle.core_code.specs.declared.code.Byte.TheVariants.{Static, Frame, Result, Device}

-- The offset so many bytes behind another one, as far as 16 bits hold it.
unfoldable pub beyond : ℕ → ℕ → ℕ
beyond base bytes = min (base + bytes) 0xffff

-- The same of addresses of registers and of bytes of a result, as far as 8 bits hold them.
unfoldable pub little_beyond : ℕ → ℕ → ℕ
little_beyond base bytes = min (base + bytes) 0xff

-- the byte so many bytes behind another one
abbrev pub behind : Byte → ℕ → Byte
behind (Static object offset) bytes = Static object (beyond offset bytes)
behind (Frame copy offset) bytes = Frame copy (beyond offset bytes)
behind (Result root k) bytes = Result root (little_beyond k bytes)
behind (Device address) bytes = Device (little_beyond address bytes)

-- A byte of a number, 0 for the lowest, of which four count.
unfoldable pub byte_at : ℕ → ℕ → ℕ
byte_at number place =
    if nat_eq place 0 then number % 0x100
    else if nat_eq place 1 then number / 0x100 % 0x100
    else if nat_eq place 2 then number / 0x10000 % 0x100
    else if nat_eq place 3 then number / 0x1000000 % 0x100
    else 0

-- The integer type that a value's bytes are those of, if it has bytes: a pointer is an unsigned int.
abbrev pub number_type : Ty → Option IntTy
number_type Void = None
number_type (Int ty) = Some ty
number_type (Pointer target) = Some UInt
number_type (Array element length size) = None
number_type (Struct number) = None

-- The type of an operation on values of the type.
abbrev pub operation_type : Ty → IntTy
operation_type Void = UInt
operation_type (Int ty) = ty
operation_type (Pointer target) = UInt
operation_type (Array element length size) = UInt
operation_type (Struct number) = UInt

-- values of the second type have more bytes
abbrev pub is_wider : IntTy → IntTy → Bool
is_wider from to = nat_lt (bytes_of from) (bytes_of to)
