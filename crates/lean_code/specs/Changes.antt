-- What instructions do to what is known and to what may differ.
use Rattle.std.specs.Prelude.{◌≡◌, ℕ, Bool, true, false, not, ◌&&◌, ◌||◌, nat_eq, nat_le, ◌<◌, if◌then◌else◌, Option, Some, None}
use Rattle.pic_world.specs.Bits.{truth}
use Rattle.pic_world.specs.declared.Root.TheVariants.{Main, Isr}
use Rattle.core_code.specs.declared.code.Byte.TheVariants as bytes
use Rattle.sym_code.specs.Effect.{Memory, Access, Pointer, Event, Silent, Denied, general_access}
use Rattle.sym_code.specs.Layout.{DataLayout, Owner, Constant, Of, address_of, general_at}
use Rattle.sym_code.specs.Registers.{Registers}
use Rattle.sym_code.specs.declared.code.FileOperation.{FileOperation}
use Rattle.sym_code.specs.declared.code.FileOperation.TheVariants as files
use Rattle.sym_code.specs.declared.code.LiteralOperation.{LiteralOperation}
use Rattle.sym_code.specs.declared.code.LiteralOperation.TheVariants as literals
use Rattle.sym_code.specs.declared.code.Operand.{Operand}
use Rattle.sym_code.specs.declared.code.Operand.TheVariants as operands
use Rattle.sym_code.specs.declared.code.Register.TheVariants.{Indf, Fsr}
use Rattle.lean_code.specs.Computed.{computed}
use Rattle.lean_code.specs.Rows.{Facts, Apart, FlagName, Carry, Zero, Shown, Unshown, Sees, Reports, Chooses}

-- ---- what is said
pub record Holds (f : Facts) (r : Registers) (m : Memory) : Type 0 where
  pub number : (n : ℕ) → f.number ≡ Some n → r.w ≡ n
  pub held : (a : ℕ) → f.held a ≡ true → r.w ≡ m a
  pub zero : f.zero ≡ true → r.z ≡ truth (nat_eq r.w 0)
  pub known : (a n : ℕ) → f.known a ≡ Some n → m a ≡ n
  pub twin : (a b : ℕ) → f.twin a b ≡ true → m a ≡ m b
  pub carry_bit : f.carry_bit ≡ true → r.c < 2
  pub zero_bit : f.zero_bit ≡ true → r.z < 2

-- the registers of the two machines; FSR and IRP never differ
pub record Alike (d : Apart) (r s : Registers) : Type 0 where
  pub w : d.w ≡ false → r.w ≡ s.w
  pub z : d.z ≡ false → r.z ≡ s.z
  pub dc : d.dc ≡ false → r.dc ≡ s.dc
  pub c : d.c ≡ false → r.c ≡ s.c
  pub fsr : r.fsr ≡ s.fsr
  pub irp : r.irp ≡ s.irp

-- f claims no more than k
pub record Weaker (f k : Facts) : Type 0 where
  pub number : (n : ℕ) → f.number ≡ Some n → k.number ≡ Some n
  pub held : (a : ℕ) → f.held a ≡ true → k.held a ≡ true
  pub zero : f.zero ≡ true → k.zero ≡ true
  pub known : (a n : ℕ) → f.known a ≡ Some n → k.known a ≡ Some n
  pub twin : (a b : ℕ) → f.twin a b ≡ true → k.twin a b ≡ true
  pub carry_bit : f.carry_bit ≡ true → k.carry_bit ≡ true
  pub zero_bit : f.zero_bit ≡ true → k.zero_bit ≡ true

-- W and the flags of b may differ wherever those of d may
pub record CoversFlags (b d : Apart) : Type 0 where
  pub w : b.w ≡ false → d.w ≡ false
  pub z : b.z ≡ false → d.z ≡ false
  pub dc : b.dc ≡ false → d.dc ≡ false
  pub c : b.c ≡ false → d.c ≡ false

-- b allows what d allows
pub record Covers (b d : Apart) : Type 0 where
  pub flags : CoversFlags b d
  pub bytes : (a : ℕ) → b.bytes a ≡ false → d.bytes a ≡ false

-- ---- where an operand leads
pub data Aim : Type 0 where
  ToFsr : Aim
  -- an event, if it may be accessed
  ToEvent : Aim
  -- a general byte by its number, without an event
  ToByte : ℕ → Aim
  -- what FSR and IRP point to
  Through : Aim
  Nowhere : Aim

abbrev pub aim_of : Access → Aim
aim_of Pointer = ToFsr
aim_of (Event loud) = ToEvent
aim_of (Silent k) = ToByte k
aim_of Denied = Nowhere

unfoldable pub aim : DataLayout → Bool → Bool → Operand → Aim
aim l inside writes (operands.Byte (bytes.Device address)) = ToEvent
aim l inside writes (operands.Byte byte) = aim_of (general_access l inside writes (general_at (address_of l byte)))
aim l inside writes (operands.Register Indf) = Through
aim l inside writes (operands.Register Fsr) = ToFsr
aim l inside writes operand = Nowhere

-- ---- bytes of a thread
-- its own
abbrev pub is_own : Bool → Owner → Bool
is_own inside (Of Main) = not inside
is_own inside (Of Isr) = inside
is_own inside owner = false

-- what the other thread can't change
abbrev pub is_near : Bool → Owner → Bool
is_near inside Constant = true
is_near inside owner = is_own inside owner

-- ---- what instructions read and write of W and the flags
pub record Flags : Type 0 where
  pub z : Bool
  pub dc : Bool
  pub c : Bool

abbrev pub no_flags : Flags
no_flags = record { z = false; dc = false; c = false }

abbrev pub z_alone : Flags
z_alone = record { z = true; dc = false; c = false }

abbrev pub all_flags : Flags
all_flags = record { z = true; dc = true; c = true }

abbrev pub c_alone : Flags
c_alone = record { z = false; dc = false; c = true }

abbrev pub flags_in : FileOperation → Flags
flags_in files.Addwf = all_flags
flags_in files.Subwf = all_flags
flags_in files.Decfsz = no_flags
flags_in files.Incfsz = no_flags
flags_in files.Swapf = no_flags
flags_in files.Rlf = c_alone
flags_in files.Rrf = c_alone
flags_in op = z_alone

abbrev pub uses_w : FileOperation → Bool
uses_w files.Addwf = true
uses_w files.Andwf = true
uses_w files.Iorwf = true
uses_w files.Subwf = true
uses_w files.Xorwf = true
uses_w op = false

abbrev pub uses_c : FileOperation → Bool
uses_c files.Rlf = true
uses_c files.Rrf = true
uses_c op = false

abbrev pub may_skip : FileOperation → Bool
may_skip files.Decfsz = true
may_skip files.Incfsz = true
may_skip op = false

abbrev pub literal_flags : LiteralOperation → Flags
literal_flags literals.Addlw = all_flags
literal_flags literals.Sublw = all_flags
literal_flags literals.Movlw = no_flags
literal_flags literals.Retlw = no_flags
literal_flags op = z_alone

abbrev pub literal_uses : LiteralOperation → Bool
literal_uses literals.Movlw = false
literal_uses literals.Retlw = false
literal_uses op = true

abbrev pub is_retlw : LiteralOperation → Bool
is_retlw literals.Retlw = true
is_retlw op = false

-- the operation on W and a number that does the same as one on W and a byte that holds it, but that MOVLW leaves Z
abbrev pub literal_for : FileOperation → Option LiteralOperation
literal_for files.Addwf = Some literals.Addlw
literal_for files.Andwf = Some literals.Andlw
literal_for files.Iorwf = Some literals.Iorlw
literal_for files.Movf = Some literals.Movlw
literal_for files.Subwf = Some literals.Sublw
literal_for files.Xorwf = Some literals.Xorlw
literal_for op = None

-- ---- numbers
abbrev pub is_number : Option ℕ → ℕ → Bool
is_number None n = false
is_number (Some k) n = nat_eq k n

abbrev pub same_known : Option ℕ → Option ℕ → Bool
same_known None o = false
same_known (Some n) o = is_number o n

-- 0 leaves W as it is
abbrev pub leaves_w : FileOperation → Option ℕ → Bool
leaves_w files.Iorwf byte = is_number byte 0
leaves_w files.Xorwf byte = is_number byte 0
leaves_w op byte = false

-- ---- facts behind an instruction
-- what stays the same as another byte, where byte k is written
abbrev pub twin_but : ℕ → (ℕ → ℕ → Bool) → ℕ → ℕ → Bool
twin_but k twin a b = if nat_eq a k then false else (if nat_eq b k then false else twin a b)

-- what is said of bytes, where the operand is written
abbrev pub lost : (ℕ → Bool) → Aim → Facts → Facts
lost hidden (ToByte k) f = record f { held = λ a. if nat_eq a k then false else f.held a; known = λ a. if nat_eq a k then None else f.known a; twin = twin_but k f.twin }
lost hidden Through f = record f { held = λ a. if hidden a then f.held a else false; known = λ a. if hidden a then f.known a else None; twin = λ a b. if hidden a then (if hidden b then f.twin a b else false) else false }
lost hidden aim f = f

-- Z may have changed, or W with it
abbrev pub without_zero : Facts → Facts
without_zero f = record f { zero = false }

-- flags are written, which are bits then
abbrev pub with_bits : Flags → Facts → Facts
with_bits g f = record f { carry_bit = g.c || f.carry_bit; zero_bit = g.z || f.zero_bit }

abbrev pub without_w : Facts → Facts
without_w f = record f { number = None; held = λ a. false; zero = false }

-- a byte is read to W, which is then what the bytes hold of which it is a copy
abbrev pub moved : Aim → Facts → Facts
moved (ToByte k) f = record f { number = f.known k; held = λ a. if nat_eq a k then true else f.twin k a; zero = true; zero_bit = true }
moved aim f = record f { number = None; held = λ a. false; zero = true; zero_bit = true }

-- what is known of the byte that is read
abbrev pub number_at : Aim → Facts → Option ℕ
number_at (ToByte k) f = f.known k
number_at aim f = None

-- a result is in W, with what Z says of it
abbrev pub with_number : Option ℕ → Bool → Facts → Facts
with_number None zero f = record f { number = None; held = λ a. false; zero = zero }
with_number (Some n) zero f = record f { number = Some n; held = λ a. is_number (f.known a) n; zero = zero }

-- an operation on W and a byte of which this is known
abbrev pub worked_by : FileOperation → Option ℕ → Facts → Facts
worked_by op byte f = if leaves_w op byte then record f { zero = true } else with_number (computed op f.number byte) (flags_in op).z f

abbrev pub worked : FileOperation → Option ℕ → Facts → Facts
worked op byte f = with_bits (flags_in op) (worked_by op byte f)

abbrev pub after_to_w : FileOperation → Aim → Facts → Facts
after_to_w files.Movf aim f = moved aim f
after_to_w op aim f = worked op (number_at aim f) f

-- a number is written, or W
abbrev pub learned : (ℕ → Bool) → Aim → Option ℕ → Facts → Facts
learned hidden (ToByte k) number f = record f { held = λ a. if nat_eq a k then false else f.held a; known = λ a. if nat_eq a k then number else f.known a; twin = twin_but k f.twin }
learned hidden aim number f = lost hidden aim f

-- the result of an operation is written
abbrev pub after_to_file : (ℕ → Bool) → FileOperation → Aim → Facts → Facts
after_to_file hidden op aim f = with_bits (flags_in op) (learned hidden aim (computed op f.number (number_at aim f)) (without_zero f))

-- it is a copy of the bytes that hold W
abbrev pub twin_stored : ℕ → Facts → ℕ → ℕ → Bool
twin_stored k f a b = if nat_eq b k then false else (if nat_eq a k then f.held b else f.twin a b)

abbrev pub stored : (ℕ → Bool) → Aim → Facts → Facts
stored hidden (ToByte k) f = record f { held = λ a. if nat_eq a k then true else f.held a; known = λ a. if nat_eq a k then f.number else f.known a; twin = twin_stored k f }
stored hidden aim f = lost hidden aim f

-- ---- what may differ behind an instruction
-- both write these flags alike
abbrev pub both_set : Flags → Apart → Apart
both_set f d = record d { z = not f.z && d.z; dc = not f.dc && d.dc; c = not f.c && d.c }

-- only one of them writes these
abbrev pub one_sets : Flags → Apart → Apart
one_sets f d = record d { z = f.z || d.z; dc = f.dc || d.dc; c = f.c || d.c }

abbrev pub same_w : Apart → Apart
same_w d = record d { w = false }

abbrev pub other_w : Apart → Apart
other_w d = record d { w = true }

abbrev pub same_byte : Aim → Apart → Apart
same_byte (ToByte k) d = record d { bytes = λ a. if nat_eq a k then false else d.bytes a }
same_byte aim d = d

abbrev pub other_byte : ℕ → Apart → Apart
other_byte k d = record d { bytes = λ a. if nat_eq a k then true else d.bytes a }

-- W is known to be what byte k holds: as a byte that it is, or by the number of both
abbrev pub is_in_w : Facts → ℕ → Bool
is_in_w f k = f.held k || same_known f.number (f.known k)

-- Only one of them reads byte k to W: W differs, unless it was what that holds, and Z, unless it said so.
abbrev pub one_moves : Facts → ℕ → Apart → Apart
one_moves f k d = record d { w = if is_in_w f k then d.w else true; z = if is_in_w f k && f.zero then d.z else true }

-- only one of them stores W in byte k
abbrev pub one_stores : Facts → ℕ → Apart → Apart
one_stores f k d = if f.held k then d else other_byte k d

-- W stays what it is behind an operation on a byte of which this is known
abbrev pub stays : FileOperation → Option ℕ → Facts → Bool
stays op byte f = leaves_w op byte || same_known (computed op f.number byte) f.number

-- only one of them does it: where W stays, Z may still say of it what it said
abbrev pub one_works : FileOperation → Option ℕ → Facts → Apart → Apart
one_works op byte f d = if stays op byte f then record (one_sets (flags_in op) d) { z = (flags_in op).z && not f.zero || d.z } else other_w (one_sets (flags_in op) d)

-- only one of them writes the result to byte k, which may be what it held
abbrev pub one_writes : FileOperation → ℕ → Facts → Apart → Apart
one_writes op k f d = if same_known (computed op f.number (f.known k)) (f.known k) then one_sets (flags_in op) d else other_byte k (one_sets (flags_in op) d)

-- only one of them clears byte k
abbrev pub one_clears : Facts → ℕ → Apart → Apart
one_clears f k d = if is_number (f.known k) 0 then record d { z = true } else other_byte k (record d { z = true })

-- ---- flags that tell
-- what is tied to the machine that runs the code that is made
pub record Ties : Type 0 where
  pub carry : Option ℕ
  pub shown : Shown

abbrev pub no_ties : Ties
no_ties = record { carry = None; shown = Unshown }

-- behind an operation whose result went to W in place of byte k
abbrev pub carries : FileOperation → ℕ → Ties
carries op k = record { carry = Some k; shown = if (flags_in op).z then Reports else Unshown }

abbrev pub flag_of : FlagName → Registers → ℕ
flag_of Carry r = r.c
flag_of Zero r = r.z

-- what is shown is so, with W of the one machine and the registers of the other
abbrev pub IsShown : Shown → ℕ → Registers → Type 0
IsShown Unshown w s = Unit {0}
IsShown (Sees flag v) w s = flag_of flag s ≡ truth v
IsShown Reports w s = s.z ≡ truth (nat_eq s.w 0)
IsShown (Chooses flag a b) w s = (v : Bool) × (flag_of flag s ≡ truth v) × (w ≡ (if v then a else b))

abbrev pub same_flag : FlagName → FlagName → Bool
same_flag Carry Carry = true
same_flag Carry Zero = false
same_flag Zero Carry = false
same_flag Zero Zero = true

abbrev pub same_truth : Bool → Bool → Bool
same_truth true b = b
same_truth false b = not b

-- no more is said to be shown than is, where this is known of W
abbrev pub shows : Shown → Option ℕ → Shown → Bool
shows Unshown number has = true
shows (Sees flag v) number (Sees g u) = same_flag flag g && same_truth v u
shows (Sees flag v) number has = false
shows Reports number Reports = true
shows Reports number has = false
shows (Chooses flag a b) number Unshown = false
shows (Chooses flag a b) number Reports = false
shows (Chooses flag a b) number (Sees g v) = same_flag flag g && is_number number (if v then a else b)
shows (Chooses flag a b) number (Chooses g c e) = same_flag flag g && (nat_eq a c && nat_eq b e)

-- Z says whether W of that machine is 0
abbrev pub reports : Shown → Bool
reports Reports = true
reports shown = false

-- what is shown where W stays, or not
abbrev pub left : Bool → Shown → Shown
left true shown = shown
left false (Chooses flag a b) = Unshown
left false shown = shown

-- behind a test of a flag by the number of its bit, which is this there: the other machine has it alike, if it is a bit
abbrev pub sees : Facts → Apart → ℕ → Bool → Shown → Shown
sees f d b v shown = if nat_eq b 0 then (if f.carry_bit && not d.c then Sees Carry v else shown) else (if nat_eq b 2 then (if f.zero_bit && not d.z then Sees Zero v else shown) else shown)

-- Z, which says whether W is 0, is what this flag is, or the opposite
abbrev pub shows_zero : Shown → FlagName → Bool → Bool
shows_zero (Chooses g a b) flag turned = same_flag g flag && (if turned then not (nat_eq a 0) && nat_eq b 0 else nat_eq a 0 && not (nat_eq b 0))
shows_zero shown flag turned = false

-- A number that a carry chose is taken away from one that leaves the same carry.
abbrev pub leaves_carry : FileOperation → Option ℕ → Shown → Bool
leaves_carry files.Subwf (Some k) (Chooses Carry a b) = nat_le a k && not (nat_le b k)
leaves_carry op byte shown = false

-- so C doesn't differ
abbrev pub same_carry : Bool → Apart → Apart
same_carry true d = record d { c = false }
same_carry false d = d
