-- What a byte of data memory holds before objects have addresses: nothing yet, a number, or the low or high byte of a
-- pointer to a byte of an object.
use Rattle.std.specs.Prelude.{ℕ, zero, suc, ◌+◌, Bool, true, false, not, ◌&&◌, ◌||◌, nat_eq, nat_le, if◌then◌else◌, Option, Some, None}
use Rattle.pic_world.specs.Roots.{same_root}
use Rattle.pic_world.specs.declared.Root.{Root}
use Rattle.core_code.specs.declared.code.Byte.{Byte}
use Rattle.core_code.specs.declared.code.Byte.TheVariants.{Static, Frame, Result, Device}

-- what a pointer points into: a static object by its number, or the frame of a copy, in which its variables lie
pub data Object : Type 0 where
  Fixed : ℕ → Object
  FrameOf : ℕ → Object

-- a byte of a pointer by the pointer's object and offset, and whether it is the high one
pub data Held : Type 0 where
  Unset : Held
  Number : ℕ → Held
  Part : Object → ℕ → Bool → Held

abbrev pub same_object : Object → Object → Bool
same_object (Fixed n) (Fixed m) = nat_eq n m
same_object (Fixed n) (FrameOf d) = false
same_object (FrameOf c) (Fixed m) = false
same_object (FrameOf c) (FrameOf d) = nat_eq c d

abbrev pub same_byte : Byte → Byte → Bool
same_byte (Static n j) (Static m k) = nat_eq n m && nat_eq j k
same_byte (Frame c j) (Frame d k) = nat_eq c d && nat_eq j k
same_byte (Result r j) (Result s k) = same_root r s && nat_eq j k
same_byte (Device a) (Device b) = nat_eq a b
same_byte _ _ = false

-- the byte at this offset of an object, and back
abbrev pub byte_in : Object → ℕ → Byte
byte_in (Fixed n) offset = Static n offset
byte_in (FrameOf c) offset = Frame c offset

pub record Place : Type 0 where
  pub object : Object
  pub offset : ℕ

abbrev pub place_of : Byte → Option Place
place_of (Static n offset) = Some (record { object = Fixed n; offset = offset })
place_of (Frame c offset) = Some (record { object = FrameOf c; offset = offset })
place_of (Result root k) = None
place_of (Device address) = None

-- the byte so many places behind
abbrev pub behind : Byte → ℕ → Byte
behind (Static n offset) k = Static n (offset + k)
behind (Frame c offset) k = Frame c (offset + k)
behind (Result root j) k = Result root (j + k)
behind (Device address) k = Device address

-- No access of it is an event: it is a byte of a frame or of a result.
abbrev pub is_private : Byte → Bool
is_private (Static n offset) = false
is_private (Frame c offset) = true
is_private (Result root k) = true
is_private (Device address) = false

-- ---- runs of bytes
abbrev pub are_apart : ℕ → ℕ → ℕ → ℕ → Bool
are_apart j n k m = nat_le (j + n) k || nat_le (k + m) j

-- So many bytes from one byte on, and so many from another one, have no byte in common. They are bytes of frames and
-- results.
abbrev pub misses : Byte → ℕ → Byte → ℕ → Bool
misses (Frame c j) n (Frame d k) m = not (nat_eq c d) || are_apart j n k m
misses (Result r j) n (Result s k) m = not (same_root r s) || are_apart j n k m
misses _ n _ m = true

-- two runs of as many bytes are one, or have no byte in common
abbrev pub is_same_or_misses : ℕ → Byte → Byte → Bool
is_same_or_misses n x y = same_byte x y || misses x n y n

-- ---- memory
abbrev pub Memory : Type 0
Memory = Byte → Held

abbrev pub with_byte : Memory → Byte → Held → Memory
with_byte m byte held other = if same_byte other byte then held else m other

-- so many bytes from this one on become others
abbrev pub with_bytes : Memory → Byte → ℕ → (ℕ → Held) → Memory
with_bytes m byte zero held = m
with_bytes m byte (suc n) held = with_byte (with_bytes m byte n held) (behind byte n) (held n)

-- the byte is one of a copy's frame, or of a root's results
abbrev pub is_in_frame : ℕ → Byte → Bool
is_in_frame c (Frame d offset) = nat_eq d c
is_in_frame c _ = false

abbrev pub is_result_of : Root → Byte → Bool
is_result_of r (Result s k) = same_root s r
is_result_of r _ = false

-- no byte of the frame has a value, or none of the results
abbrev pub without_frame : ℕ → Memory → Memory
without_frame c m byte = if is_in_frame c byte then Unset else m byte

abbrev pub without_results : Root → Memory → Memory
without_results r m byte = if is_result_of r byte then Unset else m byte
