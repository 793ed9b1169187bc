-- A read or a write of one byte at such a place makes an event with a name, or none.
use Rattle.std.proofs.Common.{◌≡◌, ℕ, ◌<◌, Bool, true, false, not, Option, Some, None, List, length, refl, arith}
use Rattle.std.proofs.lemmas.Bool.{ltb-true}
use Rattle.std.proofs.lemmas.Option.{slice_get_within}
use Rattle.std.specs.Prelude.{if◌then◌else◌, is_some, nat_lt, slice_get}
use Rattle.c_typed.specs.Trees.{Program, StaticTree}
use Rattle.program_laws.proofs.Spots.{SpotIsNamed}
use Rattle.program_laws.specs.EventNames.{IsNamedIfAny, MakesNamed}
use Rattle.pic_world.specs.Registers.{name_at}
use Rattle.pic_world.specs.World.{Happening, ReadOf, WriteOf, World, after_device_write, sets_gie}
use Rattle.pic_world.specs.declared.Cell.TheVariants.{Device, Static}
use Rattle.pic_world.specs.declared.Root.{Root}
use Rattle.src_rules.specs.Accesses.{after_taking, after_putting}
use Rattle.src_values.specs.Accesses.{Taking, Takes, Breaks, Putting, Puts, Refuses, event_at, taken_unless, take_byte, put_unless, device_put, put_byte}
use Rattle.src_values.specs.Control.{Focus, Pending}
use Rattle.src_values.specs.Memory.{Setting, Memory}
use Rattle.src_values.specs.Objects.{bytes_of_static, is_watched, object_bytes}
use Rattle.src_values.specs.Values.{number_in}
use Rattle.src_values.specs.declared.objects.Byte.{Byte}
use Rattle.src_values.specs.declared.objects.Byte.TheVariants as bytes
use Rattle.src_values.specs.declared.objects.CopyOf.{CopyOf}
use Rattle.src_values.specs.declared.objects.Object.{Object}
use Rattle.src_values.specs.declared.objects.Object.TheVariants.{Fixed, Variable}
use Rattle.src_values.specs.declared.objects.Pointer.TheVariants.{Null, Into}
use Rattle.src_values.specs.declared.objects.Spot.{Spot}
use Rattle.src_values.specs.declared.objects.Spot.TheVariants as spots
use Rattle.src_values.specs.declared.objects.Undef.{Undef}
use Rattle.src_values.specs.declared.objects.Undef.TheVariants.{Outside}

abbrev pub TakingIsNamed : Program → Taking → Type 0
TakingIsNamed p (Takes byte w event) = IsNamedIfAny p event
TakingIsNamed p (Breaks kind) = Unit {0}

abbrev pub PuttingIsNamed : Program → Putting → Type 0
PuttingIsNamed p (Puts m w event) = IsNamedIfAny p event
PuttingIsNamed p (Refuses kind) = Unit {0}

-- ---- bytes of objects
-- An access within an object with a byte there: a static object is one of the program's.
static_there : (p : Program) (n offset : ℕ) (o : Option StaticTree) → slice_get p.statics n ≡ o → nat_lt offset (bytes_of_static p.sizes o) ≡ true → n < length p.statics
static_there p n offset None e h = let l = ltb-true offset 0 h in absurd (omega arith)
static_there p n offset (Some s) e h = slice_get_within p.statics n s e

static_named : (p : Program) (n offset : ℕ) → nat_lt offset (object_bytes p (Fixed n)) ≡ true → n < length p.statics
unfolding object_bytes
static_named p n offset h = static_there p n offset (slice_get p.statics n) refl h

read_if : (p : Program) (watched : Bool) (n offset : ℕ) (byte : Byte) → nat_lt offset (object_bytes p (Fixed n)) ≡ true → IsNamedIfAny p (if watched then Some (ReadOf (Static n offset) byte) else None)
read_if p true n offset byte h = (static_named p n offset h, ltb-true offset (object_bytes p (Fixed n)) h)
read_if p false n offset byte h = tt

write_if : (p : Program) (watched : Bool) (n offset : ℕ) (byte : Byte) → nat_lt offset (object_bytes p (Fixed n)) ≡ true → IsNamedIfAny p (if watched then Some (WriteOf (Static n offset) byte) else None)
write_if p true n offset byte h = (static_named p n offset h, ltb-true offset (object_bytes p (Fixed n)) h)
write_if p false n offset byte h = tt

read_named : (p : Program) (object : Object) (offset : ℕ) (byte : Byte) → nat_lt offset (object_bytes p object) ≡ true → IsNamedIfAny p (event_at p ReadOf object offset byte)
read_named p (Fixed n) offset byte h = read_if p (is_watched p (Fixed n)) n offset byte h
read_named p (Variable c n) offset byte h = tt

written_named : (p : Program) (object : Object) (offset : ℕ) (byte : Byte) → nat_lt offset (object_bytes p object) ≡ true → IsNamedIfAny p (event_at p WriteOf object offset byte)
written_named p (Fixed n) offset byte h = write_if p (is_watched p (Fixed n)) n offset byte h
written_named p (Variable c n) offset byte h = tt

taken_named : (p : Program) (inside : Bool) (others : Option Undef) (byte : Byte) (w : World Byte) (event : Option (Happening Byte)) → (inside ≡ true → IsNamedIfAny p event)
    → TakingIsNamed p (taken_unless (if not inside then Some Outside else others) byte w event)
taken_named p false others byte w event h = tt
taken_named p true None byte w event h = h refl
taken_named p true (Some kind) byte w event h = tt

put_named : (p : Program) (inside : Bool) (others : Option Undef) (object : Object) (offset : ℕ) (byte : Byte) (event : Option (Happening Byte)) (m : Memory) (w : World Byte) → (inside ≡ true → IsNamedIfAny p event)
    → PuttingIsNamed p (put_unless (if not inside then Some Outside else others) object offset byte event m w)
put_named p false others object offset byte event m w h = tt
put_named p true None object offset byte event m w h = h refl
put_named p true (Some kind) object offset byte event m w h = tt

-- ---- reads and writes
pub take_named : (s : Setting) (live : List CopyOf) (root : Root) (fits : Byte → Bool) (spot : Spot) (m : Memory) (w : World Byte) → SpotIsNamed spot → TakingIsNamed s.program (take_byte s live root fits spot m w)
unfolding take_byte
take_named s live root fits (spots.Device address) m w h = h
take_named s live root fits (spots.Bit register number) m w h = h
take_named s live root fits (spots.Memory Null) m w h = tt
take_named s live root fits (spots.Memory (Into object offset)) m w h =
    taken_named s.program (nat_lt offset (object_bytes s.program object)) _ (m object offset) w _ (λ inside. read_named s.program object offset (m object offset) inside)

device_if : (p : Program) (refused : Bool) (kind : Undef) (address value : ℕ) (m : Memory) (w : World Byte) → is_some (name_at address) ≡ true
    → PuttingIsNamed p (if refused then Refuses kind else Puts m (after_device_write bytes.Number address value w) (Some (WriteOf (Device address) (bytes.Number value))))
device_if p true kind address value m w h = tt
device_if p false kind address value m w h = h

pub device_put_named : (p : Program) (address value : ℕ) (m : Memory) (w : World Byte) → is_some (name_at address) ≡ true → PuttingIsNamed p (device_put address value m w)
device_put_named p address value m w h = device_if p (sets_gie address value w) _ address value m w h

pub put_byte_named : (s : Setting) (live : List CopyOf) (root : Root) (spot : Spot) (byte : Byte) (m : Memory) (w : World Byte) → SpotIsNamed spot → PuttingIsNamed s.program (put_byte s live root spot byte m w)
unfolding put_byte
put_byte_named s live root (spots.Device address) byte m w h = device_put_named s.program address (number_in byte) m w h
put_byte_named s live root (spots.Bit register number) byte m w h = tt
put_byte_named s live root (spots.Memory Null) byte m w h = tt
put_byte_named s live root (spots.Memory (Into object offset)) byte m w h =
    put_named s.program (nat_lt offset (object_bytes s.program object)) _ object offset byte _ m w (λ inside. written_named s.program object offset byte inside)

-- ---- and the step that it is
pub after_taking_named : (p : Program) (taking : Taking) (next : Byte → Focus) (c : CopyOf) (k : List Pending) (m : Memory) (line : ℕ) → TakingIsNamed p taking → MakesNamed p (after_taking taking next c k m line)
after_taking_named p (Takes byte w event) next c k m line h = h
after_taking_named p (Breaks kind) next c k m line h = tt

pub after_putting_named : (p : Program) (putting : Putting) (next : Focus) (c : CopyOf) (k : List Pending) (line : ℕ) → PuttingIsNamed p putting → MakesNamed p (after_putting putting next c k line)
after_putting_named p (Puts m w event) next c k line h = h
after_putting_named p (Refuses kind) next c k line h = tt
