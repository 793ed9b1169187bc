-- What the code answers of an access to a byte, beside what the definitions answer.
use Rattle.std.specs.Prelude.{ℕ, ◌≡◌, Bool, true, not, if◌then◌else◌, List, Option, Some, None, option_map, Result, Ok, Err}
use Rattle.pic_world.specs.World.{Happening, Outside}
use Rattle.pic_world.specs.World as shared
use Rattle.pic_world.specs.declared.Event.{Event}
use Rattle.pic_world.specs.declared.Root.{Root}
use Rattle.src_memory.specs.Seen.{IsWorld}
use Rattle.src_memory.specs.Shown.{shown}
use Rattle.src_memory.specs.declared.accesses.Fits.{Fits}
use Rattle.src_memory.specs.declared.accesses.Fits.TheVariants as fits
use Rattle.src_memory.specs.declared.accesses.Taken.{Taken}
use Rattle.src_memory.specs.declared.world.World.{World}
use Rattle.src_values.specs.Accesses as stated
use Rattle.src_values.specs.Accesses.{is_unset}
use Rattle.src_values.specs.Memory.{Memory}
use Rattle.src_values.specs.Objects.{breaks_isolation, is_alive}
use Rattle.src_values.specs.Seen.{read_of}
use Rattle.src_values.specs.Values.{fits_behind}
use Rattle.src_values.specs.declared.objects.Byte.{Byte}
use Rattle.src_values.specs.declared.objects.Byte.TheVariants as bytes
use Rattle.src_values.specs.declared.objects.CopyOf.{CopyOf}
use Rattle.src_values.specs.declared.objects.Object.{Object}
use Rattle.src_values.specs.declared.objects.Pointer.TheVariants.{Null, Into}
use Rattle.src_values.specs.declared.objects.Spot.{Spot}
use Rattle.src_values.specs.declared.objects.Spot.TheVariants as spots
use Rattle.src_values.specs.declared.objects.Undef.{Undef}
use Rattle.src_values.specs.declared.objects.Undef.TheVariants.{Unset, Inactive, Bytes, Isolation}

-- which bytes a read may meet
abbrev pub fits_by : Fits → Byte → Bool
fits_by fits.Any byte = true
fits_by (fits.Behind ty read) byte = fits_behind ty (read_of read) byte

-- what is accessed at a spot is alive
abbrev pub is_alive_at : List CopyOf → Spot → Bool
is_alive_at live (spots.Device address) = true
is_alive_at live (spots.Bit register number) = true
is_alive_at live (spots.Memory Null) = true
is_alive_at live (spots.Memory (Into object offset)) = is_alive live object

-- the byte that an access meets in memory
abbrev pub byte_met : Spot → Memory → Byte
byte_met (spots.Device address) m = bytes.Unset
byte_met (spots.Bit register number) m = bytes.Unset
byte_met (spots.Memory Null) m = bytes.Unset
byte_met (spots.Memory (Into object offset)) m = m object offset

-- why an access to a byte that is there is undefined
abbrev pub fault_of_read : Bool → Root → (Byte → Bool) → Object → Byte → Option Undef
fault_of_read alive root fits object byte =
    if is_unset byte then Some Unset else
    if not alive then Some Inactive else
    if not (fits byte) then Some Bytes else
    if breaks_isolation root object then Some Isolation else None

abbrev pub fault_of_write : Bool → Root → Object → Option Undef
fault_of_write alive root object =
    if not alive then Some Inactive else
    if breaks_isolation root object then Some Isolation else None

-- The code takes the byte that is taken, with the world and the event, shown, that there are then; or tells the same kind.
pub record IsTaken (o : Outside) (address : Object → ℕ) (t : Taken) (code : World) (byte : Byte) (w : shared.World Byte) (event : Option (Happening Byte)) : Type 0 where
  pub reads : t.byte ≡ byte
  pub leaves : IsWorld o code w
  pub shows : t.event ≡ option_map (shown address) event

abbrev pub TellsTaking : Outside → (Object → ℕ) → Result Taken Undef → World → stated.Taking → Type 0
TellsTaking o address (Ok t) code (stated.Takes byte w event) = IsTaken o address t code byte w event
TellsTaking o address (Ok t) code (stated.Breaks kind) = ⊥
TellsTaking o address (Err kind) code (stated.Takes byte w event) = ⊥
TellsTaking o address (Err kind) code (stated.Breaks other) = kind ≡ other

-- The same of a write, by the memory that it leaves.
pub record IsPut (o : Outside) (address : Object → ℕ) (made : Option Event) (new : Memory) (code : World) (m : Memory) (w : shared.World Byte) (event : Option (Happening Byte)) : Type 0 where
  pub stores : new ≡ m
  pub leaves : IsWorld o code w
  pub shows : made ≡ option_map (shown address) event

abbrev pub TellsPutting : Outside → (Object → ℕ) → Result (Option Event) Undef → Memory → World → stated.Putting → Type 0
TellsPutting o address (Ok made) new code (stated.Puts m w event) = IsPut o address made new code m w event
TellsPutting o address (Ok made) new code (stated.Refuses kind) = ⊥
TellsPutting o address (Err kind) new code (stated.Puts m w event) = ⊥
TellsPutting o address (Err kind) new code (stated.Refuses other) = kind ≡ other
