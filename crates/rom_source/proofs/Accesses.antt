-- Reads and writes of bytes go the same way in both programs, as long as they are defined in the given one.
use Rattle.std.proofs.Common.{◌≡◌, ℕ, ◌+◌, Bool, true, false, ◌&&◌, nat_eq, List, [], ◌∷◌, Option, Some, None, refl, ap, ⊎_elim, arith}
use Rattle.std.proofs.lemmas.Bool.{le-ltb}
use Rattle.std.specs.Prelude.{if◌then◌else◌, nat_lt}
use Rattle.c_typed.specs.Trees.{Program, FunctionTree}
use Rattle.c_typed.specs.declared.types.Qualified.{Qualified}
use Rattle.pic_world.specs.World.{Outside, World, Happening, ReadOf, WriteOf}
use Rattle.pic_world.specs.declared.Cell.{Cell}
use Rattle.pic_world.specs.declared.Root.{Root}
use Rattle.rom_source.proofs.Links.{with_parts, IsMade, IsOwn, Agree}
use Rattle.rom_source.proofs.Values.{own_bytes, own_or_none}
use Rattle.src_values.specs.Accesses.{read_fault, write_fault, event_at, Taking, Takes, Breaks, Putting, Puts, Refuses, taken_unless, put_unless, take_byte, put_byte, device_put}
use Rattle.src_rules.specs.Step.{with_value, with_values}
use Rattle.src_values.specs.Data.{Datum}
use Rattle.src_values.specs.Memory.{Setting, Memory, with_byte, cleared, fresh, is_of}
use Rattle.src_values.specs.Objects.{object_bytes, is_watched, same_object}
use Rattle.src_values.specs.Values.{byte_count, byte_of}
use Rattle.src_values.specs.declared.objects.Byte.{Byte}
use Rattle.src_values.specs.declared.objects.Byte.TheVariants as bytes
use Rattle.src_values.specs.declared.objects.CopyOf.{CopyOf}
use Rattle.src_values.specs.declared.objects.Object.{Object}
use Rattle.src_values.specs.declared.objects.Object.TheVariants.{Fixed, Variable}
use Rattle.src_values.specs.declared.objects.Pointer.TheVariants.{Null, Into}
use Rattle.src_values.specs.declared.objects.Spot.{Spot}
use Rattle.src_values.specs.declared.objects.Spot.TheVariants as spots
use Rattle.src_values.specs.declared.objects.Undef.{Undef}
use Rattle.src_values.specs.declared.objects.Undef.TheVariants.{Gie}

-- ---- memories
module _ (p : Program) where
  pub agree_byte : (m n : Memory) (object : Object) (offset : ℕ) (byte : Byte) → Agree p m n → Agree p (with_byte m object offset byte) (with_byte n object offset byte)
  agree_byte m n object offset byte h other at own = ap (λ old. if same_object other object && nat_eq at offset then byte else old) (h other at own)

  pub agree_cleared : (m n : Memory) (object : Object) → Agree p m n → Agree p (cleared m object) (cleared n object)
  agree_cleared m n object h other at own = ap (λ old. if same_object other object then bytes.Unset else old) (h other at own)

  pub agree_fresh : (m n : Memory) (c : CopyOf) → Agree p m n → Agree p (fresh m c) (fresh n c)
  agree_fresh m n c h other at own = ap (λ old. if is_of c other then bytes.Unset else old) (h other at own)

  agree_value : (m n : Memory) (object : Object) (v : Datum) → Agree p m n → Agree p (with_value m object v) (with_value n object v)
  agree_value m n object v h other at own = ap (λ old. if same_object other object && nat_lt at (byte_count v) then byte_of v at else old) (h other at own)

  pub agree_values : (m n : Memory) (c : CopyOf) (k : ℕ) (vs : List Datum) → Agree p m n → Agree p (with_values m c k vs) (with_values n c k vs)
  agree_values m n c k [] h = h
  agree_values m n c k (v ∷ vs) h = agree_values (with_value m (Variable c k) v) (with_value n (Variable c k) v) c (k + 1) vs (agree_value m n (Variable c k) v h)

-- ---- accesses
abbrev pub SameTaking : Taking → Taking → Type 0
SameTaking (Takes byte w event) other = other ≡ Takes byte w event
SameTaking (Breaks kind) other = Unit {0}

same_taking : (t other : Taking) → other ≡ t → SameTaking t other
same_taking (Takes byte w event) other e = e
same_taking (Breaks kind) other e = tt

abbrev pub SamePutting : Program → Putting → Putting → Type 0
SamePutting p (Puts m w event) other = (n : Memory) × (other ≡ Puts n w event) × Agree p m n
SamePutting p (Refuses kind) other = Unit {0}

module _ (p : Program) (rows : List Qualified) (fs : List FunctionTree) (mk : IsMade p rows fs) (o : Outside) where
  abbrev q : Program
  q = with_parts p rows fs

  abbrev s : Setting
  s = record { program = p; outside = o }

  abbrev r : Setting
  r = record { program = q; outside = o }

  same_event : (form : Cell → Byte → Happening Byte) (object : Object) (offset : ℕ) (byte : Byte) → event_at q form object offset byte ≡ event_at p form object offset byte
  unfolding is_watched
  same_event form (Fixed n) offset byte = refl
  same_event form (Variable c n) offset byte = refl

  module _ (live : List CopyOf) (root : Root) where
    no_read : (fits : Byte → Bool) (object : Object) (offset : ℕ) (byte : Byte) (w : World Byte) (event : Option (Happening Byte)) (other : Taking) → object_bytes p object ≡ 0
        → SameTaking (taken_unless (read_fault p live root fits object offset byte) byte w event) other
    no_read fits object offset byte w event other none = let lt = le-ltb offset (object_bytes p object) (omega arith) in rw lt tt

    own_read : (fits : Byte → Bool) (object : Object) (offset : ℕ) (m n : Memory) (w : World Byte) → IsOwn p object → n object offset ≡ m object offset
        → taken_unless (read_fault q live root fits object offset (n object offset)) (n object offset) w (event_at q ReadOf object offset (n object offset))
        ≡ taken_unless (read_fault p live root fits object offset (m object offset)) (m object offset) w (event_at p ReadOf object offset (m object offset))
    own_read fits object offset m n w own is = rw (is, own_bytes p rows fs mk object own, same_event ReadOf object offset (m object offset)) refl

    pub take_same : (fits : Byte → Bool) (spot : Spot) (m n : Memory) (w : World Byte) → Agree p m n → SameTaking (take_byte s live root fits spot m w) (take_byte r live root fits spot n w)
    unfolding take_byte
    take_same fits (spots.Device address) m n w h = refl
    take_same fits (spots.Bit register number) m n w h = refl
    take_same fits (spots.Memory Null) m n w h = tt
    take_same fits (spots.Memory (Into object offset)) m n w h =
        ⊎_elim
        (λ own. same_taking _ _ (own_read fits object offset m n w own (h object offset own)))
        (λ none. no_read fits object offset (m object offset) w _ _ none)
        (own_or_none p rows fs mk object)

    no_write : (object : Object) (offset : ℕ) (byte : Byte) (event : Option (Happening Byte)) (m : Memory) (w : World Byte) (other : Putting) → object_bytes p object ≡ 0
        → SamePutting p (put_unless (write_fault p live root object offset) object offset byte event m w) other
    no_write object offset byte event m w other none = let lt = le-ltb offset (object_bytes p object) (omega arith) in rw lt tt

    put_by : (f : Option Undef) (object : Object) (offset : ℕ) (byte : Byte) (event : Option (Happening Byte)) (m n : Memory) (w : World Byte) → Agree p m n
        → SamePutting p (put_unless f object offset byte event m w) (put_unless f object offset byte event n w)
    put_by (Some kind) object offset byte event m n w h = tt
    put_by None object offset byte event m n w h = (with_byte n object offset byte, refl, agree_byte p m n object offset byte h)

    own_write : (object : Object) (offset : ℕ) (byte : Byte) (m n : Memory) (w : World Byte) → IsOwn p object → Agree p m n
        → SamePutting p (put_unless (write_fault p live root object offset) object offset byte (event_at p WriteOf object offset byte) m w)
        (put_unless (write_fault q live root object offset) object offset byte (event_at q WriteOf object offset byte) n w)
    own_write object offset byte m n w own h =
        rw (own_bytes p rows fs mk object own, same_event WriteOf object offset byte) (put_by (write_fault p live root object offset) object offset byte (event_at p WriteOf object offset byte) m n w h)

    device_same : (b : Bool) (m n : Memory) (w : World Byte) (event : Option (Happening Byte)) → Agree p m n → SamePutting p (if b then Refuses Gie else Puts m w event) (if b then Refuses Gie else Puts n w event)
    device_same true m n w event h = tt
    device_same false m n w event h = (n, refl, h)

    pub device_put_same : (address value : ℕ) (m n : Memory) (w : World Byte) → Agree p m n → SamePutting p (device_put address value m w) (device_put address value n w)
    device_put_same address value m n w h = device_same _ m n _ _ h

    pub put_same : (spot : Spot) (byte : Byte) (m n : Memory) (w : World Byte) → Agree p m n → SamePutting p (put_byte s live root spot byte m w) (put_byte r live root spot byte n w)
    unfolding put_byte
    put_same (spots.Device address) byte m n w h = device_put_same address _ m n w h
    put_same (spots.Bit register number) byte m n w h = tt
    put_same (spots.Memory Null) byte m n w h = tt
    put_same (spots.Memory (Into object offset)) byte m n w h =
        ⊎_elim (λ own. own_write object offset byte m n w own h) (λ none. no_write object offset byte _ m w _ none) (own_or_none p rows fs mk object)
