-- Reads and writes of one byte keep what stands.
use Rattle.std.proofs.Common.{◌≡◌, ℕ, ◌<◌, Bool, true, false, not, List, Option, Some, None, refl, ap, ◌∙◌, arith}
use Rattle.std.proofs.lemmas.Bool.{false≢true, ltb-true}
use Rattle.std.specs.List.{All}
use Rattle.std.specs.Prelude.{if◌then◌else◌, nat_lt}
use Rattle.c_typed.specs.Trees.{Program}
use Rattle.pic_world.specs.Bits.{bit}
use Rattle.pic_world.specs.World.{Happening, World, device_value, after_device_write, sets_gie}
use Rattle.pic_world.specs.declared.Root.{Root}
use Rattle.src_rules.proofs.Keeping.{Keeps, Around}
use Rattle.src_rules.proofs.Memories.{byte_of_at, put_stands}
use Rattle.src_rules.proofs.Places.{SpotIsThere}
use Rattle.src_rules.proofs.Worlds.{read_stands, read_inside, write_stands, write_inside, value_small}
use Rattle.src_rules.specs.Accesses.{after_taking, after_putting, is_any}
use Rattle.src_rules.specs.Standing.{IsThere, IsByte, IsInside, MemoryStands, ControlStands, FocusStands, StackStands}
use Rattle.src_values.specs.Accesses.{is_unset, noting, Taking, Takes, Breaks, Putting, Puts, Refuses, taken_unless, device_taken, take_byte, put_unless, device_put, put_byte}
use Rattle.src_values.specs.Control.{Focus, Pending}
use Rattle.src_values.specs.Memory.{Setting, Memory}
use Rattle.src_values.specs.Objects.{object_bytes, is_alive, breaks_isolation}
use Rattle.src_values.specs.Values.{number_in}
use Rattle.src_values.specs.declared.objects.Byte.{Byte}
use Rattle.src_values.specs.declared.objects.Byte.TheVariants as bytes
use Rattle.src_values.specs.declared.objects.CopyOf.{CopyOf}
use Rattle.src_values.specs.declared.objects.Object.{Object}
use Rattle.src_values.specs.declared.objects.Pointer.TheVariants.{Null, Into}
use Rattle.src_values.specs.declared.objects.Spot.{Spot}
use Rattle.src_values.specs.declared.objects.Spot.TheVariants as spots
use Rattle.src_values.specs.declared.objects.Undef.{Undef}
use Rattle.src_values.specs.declared.objects.Undef.TheVariants.{Unset, Outside, Inactive, Bytes, Isolation}

-- a byte that was read, and that fits
pub record ByteRead (p : Program) (fits : Byte → Bool) (byte : Byte) : Type 0 where
  pub stands : IsByte p byte
  pub set : is_unset byte ≡ false
  pub fit : fits byte ≡ true

abbrev pub TakingStands : Program → (Byte → Bool) → World Byte → Taking → Type 0
TakingStands p fits w (Takes byte u event) = ByteRead p fits byte × ControlStands u.control × (u.inside ≡ w.inside)
TakingStands p fits w (Breaks kind) = Unit {0}

abbrev pub PuttingStands : Program → World Byte → Putting → Type 0
PuttingStands p w (Puts m u event) = MemoryStands p m × ControlStands u.control × (u.inside ≡ w.inside)
PuttingStands p w (Refuses kind) = Unit {0}

-- a device register gives numbers, and those fit
abbrev pub NumbersFit : Spot → (Byte → Bool) → Type 0
NumbersFit (spots.Device address) fits = (n : ℕ) → fits (bytes.Number n) ≡ true
NumbersFit (spots.Bit register number) fits = (n : ℕ) → fits (bytes.Number n) ≡ true
NumbersFit (spots.Memory x) fits = Unit {0}

pub any_fits : (spot : Spot) → NumbersFit spot is_any
any_fits (spots.Device address) = λ n. refl
any_fits (spots.Bit register number) = λ n. refl
any_fits (spots.Memory x) = tt

noted_control : (e : Option (Happening Byte)) (w : World Byte) → ControlStands w.control → ControlStands (noting e w).control
noted_control None w h = h
noted_control (Some e) w h = h

noted_inside : (e : Option (Happening Byte)) (w : World Byte) → (noting e w).inside ≡ w.inside
noted_inside None w = refl
noted_inside (Some e) w = refl

taken_by : (p : Program) (fits : Byte → Bool) (byte : Byte) (w : World Byte) (event : Option (Happening Byte)) (inside unset alive isolated fit : Bool)
    → is_unset byte ≡ unset → fits byte ≡ fit → IsByte p byte → ControlStands w.control
    → TakingStands p fits w (taken_unless (if not inside then Some Outside else if unset then Some Unset else if not alive then Some Inactive else if not fit then Some Bytes else if isolated then Some Isolation else None) byte w event)
taken_by p fits byte w event false unset alive isolated fit u f h c = tt
taken_by p fits byte w event true true alive isolated fit u f h c = tt
taken_by p fits byte w event true false false isolated fit u f h c = tt
taken_by p fits byte w event true false true isolated false u f h c = tt
taken_by p fits byte w event true false true true true u f h c = tt
taken_by p fits byte w event true false true false true u f h c = (record { stands = h; set = u; fit = f }, noted_control event w c, noted_inside event w)

bit_small : (x n : ℕ) → bit x n < 256
bit_small x n = omega arith

pub take_stands : (s : Setting) (live : List CopyOf) (root : Root) (fits : Byte → Bool) (spot : Spot) (m : Memory) (w : World Byte) → All (λ byte. byte < 256) s.outside.input → MemoryStands s.program m → ControlStands w.control → NumbersFit spot fits → TakingStands s.program fits w (take_byte s live root fits spot m w)
unfolding take_byte
take_stands s live root fits (spots.Device address) m w i h c n =
    (record { stands = value_small s.outside address w i c; set = refl; fit = n _ }, read_stands bytes.Number s.outside address w c, read_inside bytes.Number s.outside address w)
take_stands s live root fits (spots.Bit register number) m w i h c n =
    (record { stands = bit_small (device_value s.outside register w) number; set = refl; fit = n _ }, read_stands bytes.Number s.outside register w c, read_inside bytes.Number s.outside register w)
take_stands s live root fits (spots.Memory Null) m w i h c n = tt
take_stands s live root fits (spots.Memory (Into object offset)) m w i h c n =
    taken_by s.program fits (m object offset) w _ (nat_lt offset (object_bytes s.program object)) (is_unset (m object offset)) (is_alive live object) (breaks_isolation root object) (fits (m object offset)) refl refl (byte_of_at s.program object offset (m object offset) (h object offset)) c

pub device_taken_stands : (s : Setting) (register : ℕ) (w : World Byte) → All (λ byte. byte < 256) s.outside.input → ControlStands w.control → TakingStands s.program is_any w (device_taken s register (device_value s.outside register w) w)
device_taken_stands s register w i c =
    (record { stands = value_small s.outside register w i c; set = refl; fit = refl }, read_stands bytes.Number s.outside register w c, read_inside bytes.Number s.outside register w)

put_by : (p : Program) (object : Object) (offset : ℕ) (byte : Byte) (event : Option (Happening Byte)) (m : Memory) (w : World Byte) (inside alive isolated : Bool)
    → nat_lt offset (object_bytes p object) ≡ inside → IsThere p object → IsByte p byte → MemoryStands p m → ControlStands w.control
    → PuttingStands p w (put_unless (if not inside then Some Outside else if not alive then Some Inactive else if isolated then Some Isolation else None) object offset byte event m w)
put_by p object offset byte event m w false alive isolated e t b h c = tt
put_by p object offset byte event m w true false isolated e t b h c = tt
put_by p object offset byte event m w true true true e t b h c = tt
put_by p object offset byte event m w true true false e t b h c = (put_stands p m object offset byte h t (ltb-true offset (object_bytes p object) e) b, noted_control event w c, noted_inside event w)

device_by : (p : Program) (address value : ℕ) (m : Memory) (w : World Byte) (b : Bool) (kind : Undef) (event : Option (Happening Byte)) → value < 256 → MemoryStands p m → ControlStands w.control → PuttingStands p w (if b then Refuses kind else Puts m (after_device_write bytes.Number address value w) event)
device_by p address value m w true kind event v h c = tt
device_by p address value m w false kind event v h c = (h, write_stands bytes.Number address value w v c, write_inside bytes.Number address value w)

pub device_stands : (p : Program) (address value : ℕ) (m : Memory) (w : World Byte) → value < 256 → MemoryStands p m → ControlStands w.control → PuttingStands p w (device_put address value m w)
device_stands p address value m w v h c = device_by p address value m w (sets_gie address value w) _ _ v h c

pub number_small : (p : Program) (byte : Byte) → IsByte p byte → number_in byte < 256
number_small p bytes.Unset h = omega arith
number_small p (bytes.Number n) h = h
number_small p (bytes.Part object offset high) h = omega arith

pub put_byte_stands : (s : Setting) (live : List CopyOf) (root : Root) (spot : Spot) (byte : Byte) (m : Memory) (w : World Byte) → SpotIsThere s.program spot → IsByte s.program byte → MemoryStands s.program m → ControlStands w.control → PuttingStands s.program w (put_byte s live root spot byte m w)
unfolding put_byte
put_byte_stands s live root (spots.Device address) byte m w t b h c = device_stands s.program address (number_in byte) m w (number_small s.program byte b) h c
put_byte_stands s live root (spots.Bit register number) byte m w t b h c = tt
put_byte_stands s live root (spots.Memory Null) byte m w t b h c = tt
put_byte_stands s live root (spots.Memory (Into object offset)) byte m w t b h c =
    put_by s.program object offset byte _ m w (nat_lt offset (object_bytes s.program object)) (is_alive live object) (breaks_isolation root object) refl t b h c

-- ---- a byte that is taken or put is one of its object
is_taken : Taking → Bool
is_taken (Takes byte u event) = true
is_taken (Breaks kind) = false

is_put : Putting → Bool
is_put (Puts m u event) = true
is_put (Refuses kind) = false

taken_case : (object : Object) (offset size : ℕ) (b : Bool) (rest : Option Undef) (byte : Byte) (w : World Byte) (event : Option (Happening Byte)) → nat_lt offset size ≡ b → is_taken (taken_unless (if not b then Some Outside else rest) byte w event) ≡ true → offset < size
unfolding is_taken
taken_case object offset size true rest byte w event e t = ltb-true offset size e
taken_case object offset size false rest byte w event e t = absurd (false≢true t)

put_case : (object : Object) (offset size : ℕ) (b : Bool) (rest : Option Undef) (byte : Byte) (event : Option (Happening Byte)) (m : Memory) (w : World Byte) → nat_lt offset size ≡ b → is_put (put_unless (if not b then Some Outside else rest) object offset byte event m w) ≡ true → offset < size
unfolding is_put
put_case object offset size true rest byte event m w e t = ltb-true offset size e
put_case object offset size false rest byte event m w e t = absurd (false≢true t)

took_inside : (s : Setting) (live : List CopyOf) (root : Root) (fits : Byte → Bool) (spot : Spot) (m : Memory) (w : World Byte) → is_taken (take_byte s live root fits spot m w) ≡ true → IsInside s.program spot
unfolding take_byte is_taken
took_inside s live root fits (spots.Device address) m w t = tt
took_inside s live root fits (spots.Bit register number) m w t = tt
took_inside s live root fits (spots.Memory Null) m w t = absurd (false≢true t)
took_inside s live root fits (spots.Memory (Into object offset)) m w t = taken_case object offset (object_bytes s.program object) (nat_lt offset (object_bytes s.program object)) _ (m object offset) w _ refl t

stored_inside : (s : Setting) (live : List CopyOf) (root : Root) (spot : Spot) (byte : Byte) (m : Memory) (w : World Byte) → is_put (put_byte s live root spot byte m w) ≡ true → IsInside s.program spot
unfolding put_byte is_put
stored_inside s live root (spots.Device address) byte m w t = tt
stored_inside s live root (spots.Bit register number) byte m w t = tt
stored_inside s live root (spots.Memory Null) byte m w t = absurd (false≢true t)
stored_inside s live root (spots.Memory (Into object offset)) byte m w t = put_case object offset (object_bytes s.program object) (nat_lt offset (object_bytes s.program object)) _ byte _ m w refl t

pub take_inside : (s : Setting) (live : List CopyOf) (root : Root) (fits : Byte → Bool) (spot : Spot) (m : Memory) (w : World Byte) (byte : Byte) (u : World Byte) (event : Option (Happening Byte)) → take_byte s live root fits spot m w ≡ Takes byte u event → IsInside s.program spot
unfolding is_taken
take_inside s live root fits spot m w byte u event e = took_inside s live root fits spot m w (ap is_taken e)

pub put_inside : (s : Setting) (live : List CopyOf) (root : Root) (spot : Spot) (byte : Byte) (m : Memory) (w : World Byte) (n : Memory) (u : World Byte) (event : Option (Happening Byte)) → put_byte s live root spot byte m w ≡ Puts n u event → IsInside s.program spot
unfolding is_put
put_inside s live root spot byte m w n u event e = stored_inside s live root spot byte m w (ap is_put e)

-- ---- what a micro-step leaves behind a byte
pub taking_keeps : (p : Program) (fits : Byte → Bool) (taking : Taking) (next : Byte → Focus) (c : CopyOf) (k : List Pending) (m : Memory) (w : World Byte) (line : ℕ)
    → Around p c m w → StackStands p c k → TakingStands p fits w taking → ((byte : Byte) → ByteRead p fits byte → FocusStands p c (next byte) k)
    → Keeps p (after_taking taking next c k m line)
taking_keeps p fits (Takes byte u event) next c k m w line a st t f = record { reached = a.reached; focus = f byte t.0; stack = st; memory = a.memory; control = t.1; inside = t.2 ∙ a.inside }
taking_keeps p fits (Breaks kind) next c k m w line a st t f = tt

-- the same where what follows depends on the byte's being there
pub taking_keeps_at : (p : Program) (fits : Byte → Bool) (taking : Taking) (next : Byte → Focus) (c : CopyOf) (k : List Pending) (m : Memory) (w : World Byte) (line : ℕ)
    → Around p c m w → StackStands p c k → TakingStands p fits w taking → ((byte : Byte) (u : World Byte) (event : Option (Happening Byte)) → taking ≡ Takes byte u event → ByteRead p fits byte → FocusStands p c (next byte) k)
    → Keeps p (after_taking taking next c k m line)
taking_keeps_at p fits (Takes byte u event) next c k m w line a st t f = record { reached = a.reached; focus = f byte u event refl t.0; stack = st; memory = a.memory; control = t.1; inside = t.2 ∙ a.inside }
taking_keeps_at p fits (Breaks kind) next c k m w line a st t f = tt

pub putting_keeps_at : (p : Program) (putting : Putting) (next : Focus) (c : CopyOf) (k : List Pending) (m : Memory) (w : World Byte) (line : ℕ)
    → Around p c m w → StackStands p c k → PuttingStands p w putting → ((n : Memory) (u : World Byte) (event : Option (Happening Byte)) → putting ≡ Puts n u event → FocusStands p c next k)
    → Keeps p (after_putting putting next c k line)
putting_keeps_at p (Puts n u event) next c k m w line a st t f = record { reached = a.reached; focus = f n u event refl; stack = st; memory = t.0; control = t.1; inside = t.2 ∙ a.inside }
putting_keeps_at p (Refuses kind) next c k m w line a st t f = tt

pub putting_keeps : (p : Program) (putting : Putting) (next : Focus) (c : CopyOf) (k : List Pending) (m : Memory) (w : World Byte) (line : ℕ)
    → Around p c m w → StackStands p c k → PuttingStands p w putting → FocusStands p c next k
    → Keeps p (after_putting putting next c k line)
putting_keeps p (Puts n u event) next c k m w line a st t f = record { reached = a.reached; focus = f; stack = st; memory = t.0; control = t.1; inside = t.2 ∙ a.inside }
putting_keeps p (Refuses kind) next c k m w line a st t f = tt
