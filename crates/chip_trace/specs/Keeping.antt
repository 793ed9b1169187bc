-- What an instruction of an image touches: what any chip must have that is to run it.
use Rattle.std.specs.Prelude.{ℕ, ◌+◌, ◌*◌, ◌/◌, ◌%◌, ◌≡◌, ◌<◌, ◌≤◌, ◌⊎◌, Bool, true, not, nat_eq, if◌then◌else◌, List, Option, Some, None, slice_index}
use Rattle.pic_isa.specs.declared.Ins.{Ins}
use Rattle.pic_isa.specs.declared.Ins.TheVariants.{Addwf, Andwf, Clrf, Comf, Decf, Decfsz, Incf, Incfsz, Iorwf, Movf, Movwf, Rlf, Rrf, Subwf, Swapf, Xorwf, Bcf, Bsf, Btfsc, Btfss}
use Rattle.pic_isa.specs.Lookup.{row_of}
use Rattle.pic_chip.specs.Act.{Act, effect}
use Rattle.pic_chip.specs.Address.{Place, General, Device, Intcon, Pir1, Pie1, Nothing, operand, address_of}
use Rattle.pic_chip.specs.State.{State}
use Rattle.core_code.specs.declared.code.Byte.TheVariants as bytes
use Rattle.sym_code.specs.Layout.{is_covered}
use Rattle.sym_code.specs.Programs.{Program, Position, fetched}
use Rattle.sym_code.specs.declared.code.Operand.{Operand}
use Rattle.sym_code.specs.declared.code.Operand.TheVariants as operands
use Rattle.sym_code.specs.declared.code.Sym.{Sym}
use Rattle.sym_code.specs.declared.code.Sym.TheVariants as syms

-- the file operand of a row
abbrev pub file_of : Ins → Option ℕ
file_of (Addwf f d) = Some f
file_of (Andwf f d) = Some f
file_of (Clrf f) = Some f
file_of (Comf f d) = Some f
file_of (Decf f d) = Some f
file_of (Decfsz f d) = Some f
file_of (Incf f d) = Some f
file_of (Incfsz f d) = Some f
file_of (Iorwf f d) = Some f
file_of (Movf f d) = Some f
file_of (Movwf f) = Some f
file_of (Rlf f d) = Some f
file_of (Rrf f d) = Some f
file_of (Subwf f d) = Some f
file_of (Swapf f d) = Some f
file_of (Xorwf f d) = Some f
file_of (Bcf f b) = Some f
file_of (Bsf f b) = Some f
file_of (Btfsc f b) = Some f
file_of (Btfss f b) = Some f
file_of i = None

abbrev pub file_in : Option Ins → Option ℕ
file_in (Some i) = file_of i
file_in None = None

-- the device register that an instruction of the program names
abbrev pub device_in : Operand → Option ℕ
device_in (operands.Byte (bytes.Device a)) = Some a
device_in x = None

abbrev pub device_of : Sym → Option ℕ
device_of (syms.File op x into) = device_in x
device_of (syms.Movwf x) = device_in x
device_of (syms.Clrf x) = device_in x
device_of (syms.Bit op x b) = device_in x
device_of x = None

pub record IsNamed (q : Program) (a : ℕ) : Type 0 where
  pub at : Position
  pub word : Sym
  pub here : fetched q at ≡ Some word
  pub named : device_of word ≡ Some a

-- A core register, a device register that the code names, a byte of an object or of a frame, or, by its own operand, one of 70h to 7Fh.
abbrev pub IsTouched : Program → Bool → Place → Type 0
IsTouched q direct (General k) = (is_covered q.layout (address_of k) ≡ true) ⊎ ((direct ≡ true) × (0x70 ≤ address_of k) × (address_of k < 0x80))
IsTouched q direct (Device a) = IsNamed q a
IsTouched q direct Intcon = IsNamed q 0x0b
IsTouched q direct Pir1 = IsNamed q 0x0c
IsTouched q direct Pie1 = IsNamed q 0x8c
IsTouched q direct Nothing = ⊥
IsTouched q direct _ = Unit {0}

-- the operand leads to such a place at this state
pub record Touches (q : Program) (f : ℕ) (s : State) : Type 0 where
  pub place : Place
  pub leads : (next : Place → Act) → effect (operand f next) s ≡ effect (next place) s
  pub touched : IsTouched q (not (nat_eq f 0)) place

-- what the instruction at this state touches
abbrev pub TouchesThere : Program → List ℕ → State → Type 0
TouchesThere q image s = (f : ℕ) → file_in (row_of (slice_index image s.pc)) ≡ Some f → Touches q f s
