-- Reads and writes of one byte: when they are undefined, what they change, and the event that they make.
use Rattle.std.specs.Prelude.{ℕ, Bool, true, false, not, nat_eq, nat_lt, if◌then◌else◌, List, Option, Some, None}
use Rattle.c_typed.specs.Trees.{Program}
use Rattle.pic_world.specs.Bits.{bit, set_bit, clear_bit}
use Rattle.pic_world.specs.World.{Happening, ReadOf, WriteOf, World, noted, device_value, after_device_read, after_device_write, sets_gie}
use Rattle.pic_world.specs.declared.Cell.{Cell}
use Rattle.pic_world.specs.declared.Cell.TheVariants.{Device, Static}
use Rattle.pic_world.specs.declared.Root.{Root}
use Rattle.src_values.specs.Memory.{Setting, Memory, with_byte}
use Rattle.src_values.specs.Objects.{object_bytes, is_watched, is_alive, breaks_isolation}
use Rattle.src_values.specs.Values.{number_in}
use Rattle.src_values.specs.declared.objects.Byte.{Byte}
use Rattle.src_values.specs.declared.objects.Byte.TheVariants as bytes
use Rattle.src_values.specs.declared.objects.CopyOf.{CopyOf}
use Rattle.src_values.specs.declared.objects.Object.{Object}
use Rattle.src_values.specs.declared.objects.Object.TheVariants.{Fixed, Variable}
use Rattle.src_values.specs.declared.objects.Pointer.TheVariants.{Null, Into}
use Rattle.src_values.specs.declared.objects.Spot.{Spot}
use Rattle.src_values.specs.declared.objects.Spot.TheVariants as spots
use Rattle.src_values.specs.declared.objects.Undef.{Undef}
use Rattle.src_values.specs.declared.objects.Undef.TheVariants.{Unset, Outside, Inactive, Bytes, Isolation, Gie}

abbrev pub is_unset : Byte → Bool
is_unset bytes.Unset = true
is_unset (bytes.Number n) = false
is_unset (bytes.Part object offset high) = false

-- Why an access to a byte of an object is undefined: the first kind that holds.
abbrev pub read_fault : Program → List CopyOf → Root → (Byte → Bool) → Object → ℕ → Byte → Option Undef
read_fault p live root fits object offset byte =
    if not (nat_lt offset (object_bytes p object)) then Some Outside else
    if is_unset byte then Some Unset else
    if not (is_alive live object) then Some Inactive else
    if not (fits byte) then Some Bytes else
    if breaks_isolation root object then Some Isolation else None

abbrev pub write_fault : Program → List CopyOf → Root → Object → ℕ → Option Undef
write_fault p live root object offset =
    if not (nat_lt offset (object_bytes p object)) then Some Outside else
    if not (is_alive live object) then Some Inactive else
    if breaks_isolation root object then Some Isolation else None

-- the event of an access to a byte of an object
abbrev pub event_at : Program → (Cell → Byte → Happening Byte) → Object → ℕ → Byte → Option (Happening Byte)
event_at p form (Fixed n) offset byte = if is_watched p (Fixed n) then Some (form (Static n offset) byte) else None
event_at p form (Variable c n) offset byte = None

abbrev pub noting : Option (Happening Byte) → World Byte → World Byte
noting None w = w
noting (Some e) w = noted e w

-- What a read of a byte gives, and what a write leaves.
pub data Taking : Type 0 where
  Takes : Byte → World Byte → Option (Happening Byte) → Taking
  Breaks : Undef → Taking

pub data Putting : Type 0 where
  Puts : Memory → World Byte → Option (Happening Byte) → Putting
  Refuses : Undef → Putting

-- ---- reads
abbrev pub taken_unless : Option Undef → Byte → World Byte → Option (Happening Byte) → Taking
taken_unless (Some kind) byte w event = Breaks kind
taken_unless None byte w event = Takes byte (noting event w) event

-- a register is read, and this number is the byte that is wanted of it
abbrev pub device_taken : Setting → ℕ → ℕ → World Byte → Taking
device_taken s address value w = Takes (bytes.Number value) (after_device_read bytes.Number s.outside address w) (Some (ReadOf (Device address) (bytes.Number (device_value s.outside address w))))

unfoldable pub take_byte : Setting → List CopyOf → Root → (Byte → Bool) → Spot → Memory → World Byte → Taking
take_byte s live root fits (spots.Device address) m w = device_taken s address (device_value s.outside address w) w
take_byte s live root fits (spots.Bit register number) m w = device_taken s register (bit (device_value s.outside register w) number) w
take_byte s live root fits (spots.Memory Null) m w = Breaks Outside
take_byte s live root fits (spots.Memory (Into object offset)) m w =
    let byte = m object offset in
    taken_unless (read_fault s.program live root fits object offset byte) byte w (event_at s.program ReadOf object offset byte)

-- ---- writes
abbrev pub put_unless : Option Undef → Object → ℕ → Byte → Option (Happening Byte) → Memory → World Byte → Putting
put_unless (Some kind) object offset byte event m w = Refuses kind
put_unless None object offset byte event m w = Puts (with_byte m object offset byte) (noting event w) event

abbrev pub device_put : ℕ → ℕ → Memory → World Byte → Putting
device_put address value m w = if sets_gie address value w then Refuses Gie else Puts m (after_device_write bytes.Number address value w) (Some (WriteOf (Device address) (bytes.Number value)))

unfoldable pub put_byte : Setting → List CopyOf → Root → Spot → Byte → Memory → World Byte → Putting
put_byte s live root (spots.Device address) byte m w = device_put address (number_in byte) m w
put_byte s live root (spots.Bit register number) byte m w = Refuses Outside
put_byte s live root (spots.Memory Null) byte m w = Refuses Outside
put_byte s live root (spots.Memory (Into object offset)) byte m w =
    put_unless (write_fault s.program live root object offset) object offset byte (event_at s.program WriteOf object offset byte) m w

-- ---- bits
-- a register with a bit replaced
abbrev pub with_bit : ℕ → ℕ → ℕ → ℕ
with_bit number value old = if nat_eq value 1 then set_bit number old else clear_bit number old
