-- W, FSR, STATUS in its parts and the page bits of PCLATH, and what instructions make of them. Results and flags are
-- those of the chip's table of instructions.
use Rattle.std.specs.Prelude.{ℕ, ◌+◌, ◌*◌, ◌<◌, Bool, false, nat_eq, if◌then◌else◌, List, [], ◌∷◌, map, Option, Some, None}
use Rattle.pic_isa.specs.declared.Ins.{Ins}
use Rattle.pic_isa.specs.declared.Ins.TheVariants as ins
use Rattle.pic_chip.specs.Act.{Derived, Write, Act, Ask, Do}
use Rattle.pic_chip.specs.Instructions.{number, row}
use Rattle.pic_chip.specs.Operations.{result_of, flags_of, next_of}
use Rattle.pic_chip.specs.State.{Part, AtW, AtZ, AtDc, AtC, AtFsr}
use Rattle.pic_chip.specs.declared.operation.Operation.{Operation}
use Rattle.pic_chip.specs.declared.operation.Operation.TheVariants as does
use Rattle.pic_world.specs.Bits.{truth}
use Rattle.sym_code.specs.declared.code.BankBit.{BankBit}
use Rattle.sym_code.specs.declared.code.BankBit.TheVariants.{Rp0, Rp1, Irp}
use Rattle.sym_code.specs.declared.code.FileOperation.{FileOperation}
use Rattle.sym_code.specs.declared.code.FileOperation.TheVariants.{Addwf, Andwf, Comf, Decf, Decfsz, Incf, Incfsz, Iorwf, Movf, Rlf, Rrf, Subwf, Swapf, Xorwf}
use Rattle.sym_code.specs.declared.code.LiteralOperation.{LiteralOperation}
use Rattle.sym_code.specs.declared.code.LiteralOperation.TheVariants.{Addlw, Andlw, Iorlw, Movlw, Retlw, Sublw, Xorlw}
use Rattle.sym_code.specs.declared.code.PageBit.{PageBit}
use Rattle.sym_code.specs.declared.code.PageBit.TheVariants.{Low, High}

pub record Registers : Type 0 where
  pub w : ℕ
  pub z : ℕ
  pub dc : ℕ
  pub c : ℕ
  pub fsr : ℕ
  -- the bits that select a bank: RP0 and RP1 for names, IRP for addresses in FSR
  pub rp0 : ℕ
  pub rp1 : ℕ
  pub irp : ℕ
  -- the bits that select a page: 3 and 4 of PCLATH
  pub page_low : ℕ
  pub page_high : ℕ

-- each part is within its size
pub record Fits (r : Registers) : Type 0 where
  pub w : r.w < 256
  pub flags : (r.z < 2) × (r.dc < 2) × (r.c < 2)
  pub pointer : r.fsr < 256
  pub banks : (r.rp0 < 2) × (r.rp1 < 2) × (r.irp < 2)
  pub pages : (r.page_low < 2) × (r.page_high < 2)

-- ---- what is selected
abbrev pub bank : Registers → ℕ
bank r = 2 * r.rp1 + r.rp0

abbrev pub page : Registers → ℕ
page r = 2 * r.page_high + r.page_low

-- what FSR and IRP point to
abbrev pub pointer : Registers → ℕ
pointer r = 256 * r.irp + r.fsr

abbrev pub with_bank_bit : Registers → BankBit → ℕ → Registers
with_bank_bit r Rp0 v = record r { rp0 = v }
with_bank_bit r Rp1 v = record r { rp1 = v }
with_bank_bit r Irp v = record r { irp = v }

abbrev pub with_page_bit : Registers → PageBit → ℕ → Registers
with_page_bit r Low v = record r { page_low = v }
with_page_bit r High v = record r { page_high = v }

-- ---- what a read of a table leaves
-- The flags and the bits of the page behind it: that is up to the words that read the table.
pub record Spoiled : Type 0 where
  pub z : Bool
  pub dc : Bool
  pub c : Bool
  pub page_low : Bool
  pub page_high : Bool

abbrev pub spoiled : Spoiled → Registers → Registers
spoiled left r = record r { z = truth left.z; dc = truth left.dc; c = truth left.c; page_low = truth left.page_low; page_high = truth left.page_high }

-- where there are no tables
abbrev pub no_leaves : ℕ → ℕ → Spoiled
no_leaves table k = record { z = false; dc = false; c = false; page_low = false; page_high = false }

-- ---- parts by the names of the table

abbrev pub part_of : Registers → Part → ℕ
part_of r AtW = r.w
part_of r AtZ = r.z
part_of r AtDc = r.dc
part_of r AtC = r.c
part_of r AtFsr = r.fsr
part_of r _ = 0

abbrev pub with_part : Registers → Part → ℕ → Registers
with_part r AtW v = record r { w = v }
with_part r AtZ v = record r { z = v }
with_part r AtDc v = record r { dc = v }
with_part r AtC v = record r { c = v }
with_part r AtFsr v = record r { fsr = v }
with_part r _ v = r

abbrev pub value_of : Registers → Derived → ℕ
value_of r v = v.by (map (part_of r) v.from)

-- The values written are those of the registers before.
abbrev pub written : List Write → Registers → Registers → Registers
written [] before r = r
written (x ∷ xs) before r = written xs before (with_part r x.to (value_of before x.value))

-- ---- rows with a file register
abbrev pub operation_of : FileOperation → Operation
operation_of Addwf = does.Add
operation_of Andwf = does.And
operation_of Comf = does.Complement
operation_of Decf = does.Decrement
operation_of Decfsz = does.DecrementSkip
operation_of Incf = does.Increment
operation_of Incfsz = does.IncrementSkip
operation_of Iorwf = does.Or
operation_of Movf = does.Move
operation_of Rlf = does.RotateLeft
operation_of Rrf = does.RotateRight
operation_of Subwf = does.Subtract
operation_of Swapf = does.Swap
operation_of Xorwf = does.Xor

-- what the instruction makes of the byte that it read: the result, the flags, and whether the next word is skipped
unfoldable pub result_with : Registers → FileOperation → ℕ → ℕ
result_with r op x = value_of r (result_of (operation_of op) (number x))

unfoldable pub flags_with : Registers → FileOperation → ℕ → Registers
flags_with r op x = written (flags_of (operation_of op) (number x)) r r

unfoldable pub skips_with : Registers → FileOperation → ℕ → Bool
skips_with r op x = nat_eq (value_of r (next_of 0 (operation_of op) (number x))) 2

-- ---- rows on W and a literal
abbrev pub literal_row : LiteralOperation → ℕ → Ins
literal_row Addlw k = ins.Addlw k
literal_row Andlw k = ins.Andlw k
literal_row Iorlw k = ins.Iorlw k
literal_row Movlw k = ins.Movlw k
literal_row Retlw k = ins.Retlw k
literal_row Sublw k = ins.Sublw k
literal_row Xorlw k = ins.Xorlw k

abbrev pub writes_in : Act → List Write
writes_in (Ask part next) = []
writes_in (Do e) = e.writes

-- after a row that touches no file register
unfoldable pub after_row : Ins → Registers → Registers
after_row i r = written (writes_in (row [] 0 i)) r r

-- ---- bits of STATUS: IRP 7, Z 2, DC 1, C 0; of the others, RP0 and RP1 are written by selects alone
abbrev pub status_bit : Registers → ℕ → Option ℕ
status_bit r bit =
    if nat_eq bit 0 then Some r.c else
    if nat_eq bit 1 then Some r.dc else
    if nat_eq bit 2 then Some r.z else
    if nat_eq bit 7 then Some r.irp else None

abbrev pub with_status_bit : Registers → ℕ → ℕ → Option Registers
with_status_bit r bit v =
    if nat_eq bit 0 then Some (record r { c = v }) else
    if nat_eq bit 1 then Some (record r { dc = v }) else
    if nat_eq bit 2 then Some (record r { z = v }) else
    if nat_eq bit 7 then Some (record r { irp = v }) else None
