-- What an instruction does, by the thread that it runs in and by memory alone: nothing of the world is asked, so what is
-- read of a device register or of a watched byte comes later. Where no rule applies it is stuck: so is an access that the
-- thread may not make, and in code with selects one in a bank, or a jump or call to a page, that isn't selected. So is one
-- through INDF where no object and no frame stands, and in a layout that ends below 100h what sets RP1 or IRP: from a run that
-- isn't stuck it can then be shown that a program placed there touches only what its code names, in banks 0 and 1.
-- g is the setting, q the program, inside whether the handler runs, p where the instruction stands, th the thread, m memory.
use Rattle.std.specs.Prelude.{ℕ, ◌+◌, ◌*◌, ◌/◌, ◌%◌, Bool, true, false, not, ◌&&◌, ◌||◌, nat_eq, nat_lt, if◌then◌else◌, List, [], ◌∷◌, length, Option, Some, None, slice_get}
use Rattle.pic_isa.specs.declared.Ins.TheVariants as ins
use Rattle.pic_chip.specs.Address.{in_every_bank}
use Rattle.pic_world.specs.Bits.{bit, set_bit, clear_bit, truth}
use Rattle.pic_world.specs.Registers.{is_register, lowest}
use Rattle.pic_world.specs.declared.Cell.{Cell}
use Rattle.pic_world.specs.declared.Root.{Root}
use Rattle.pic_world.specs.declared.Root.TheVariants.{Main, Isr}
use Rattle.core_code.specs.declared.code.Byte.TheVariants as bytes
use Rattle.sym_code.specs.Layout.{DataLayout, address_of, address_byte, general_at, Owner, Watched, Constant, Of, Nobody, owner, all_near, is_covered}
use Rattle.sym_code.specs.Programs.{Program, Position, block_of, own_place, fetched, behind, onward, place_of}
use Rattle.sym_code.specs.Registers.{Registers, Spoiled, spoiled, bank, page, pointer, with_bank_bit, with_page_bit, result_with, flags_with, skips_with, literal_row, after_row, status_bit, with_status_bit}
use Rattle.sym_code.specs.declared.code.BankBit.{BankBit}
use Rattle.sym_code.specs.declared.code.BankBit.TheVariants.{Rp0, Rp1, Irp}
use Rattle.sym_code.specs.declared.code.BitOperation.{BitOperation}
use Rattle.sym_code.specs.declared.code.BitOperation.TheVariants.{Bcf, Bsf, Btfsc, Btfss}
use Rattle.sym_code.specs.declared.code.BlockName.{BlockName}
use Rattle.sym_code.specs.declared.code.FileOperation.{FileOperation}
use Rattle.sym_code.specs.declared.code.Into.{Into}
use Rattle.sym_code.specs.declared.code.Into.TheVariants as into
use Rattle.sym_code.specs.declared.code.Label.TheVariants.{Halt, Restore}
use Rattle.sym_code.specs.declared.code.Literal.{Literal}
use Rattle.sym_code.specs.declared.code.Literal.TheVariants as literals
use Rattle.sym_code.specs.declared.code.LiteralOperation.{LiteralOperation}
use Rattle.sym_code.specs.declared.code.LiteralOperation.TheVariants.{Retlw}
use Rattle.sym_code.specs.declared.code.Operand.{Operand}
use Rattle.sym_code.specs.declared.code.Operand.TheVariants as operands
use Rattle.sym_code.specs.declared.code.PageBit.{PageBit}
use Rattle.sym_code.specs.declared.code.PageBit.TheVariants.{Low, High}
use Rattle.sym_code.specs.declared.code.PlainOperation.{PlainOperation}
use Rattle.sym_code.specs.declared.code.PlainOperation.TheVariants.{Clrw, Nop, Retfie, Return}
use Rattle.sym_code.specs.declared.code.Register.TheVariants.{Indf, Status, Fsr, Pclath}
use Rattle.sym_code.specs.declared.code.Sym.{Sym}
use Rattle.sym_code.specs.declared.code.Sym.TheVariants as sym
use Rattle.sym_code.specs.declared.code.Target.{Target}
use Rattle.sym_code.specs.declared.code.Target.TheVariants as targets

pub record Setting : Type 0 where
  pub program : Program
  -- the code has its selects: the bank of each byte and the page of each jump and call must be selected
  pub banked : Bool
  -- the page that a block stands in
  pub page_of : BlockName → ℕ
  -- how many calls of main, and of the handler, may wait at the same time
  pub limit : Bool → ℕ
  -- what a read of this byte of a table leaves
  pub leaves : ℕ → ℕ → Spoiled

-- ---- threads and memory
-- a byte each access of which is an event: a device register by its lowest address, or a byte of a static object by its
-- number and the cell that is shown
pub data Loud : Type 0 where
  Port : ℕ → Loud
  Shared : ℕ → Cell → Loud

-- what an instruction that reads such a byte and writes it has still to write
pub record Rest : Type 0 where
  pub to : Loud
  pub byte : ℕ

-- Main or the handler: what is left of the instruction before; the next instruction, or none where main has ended; where
-- returns go to; and the registers.
pub record Thread : Type 0 where
  pub rest : Option Rest
  pub at : Option Position
  pub stack : List Position
  pub registers : Registers

-- the general bytes by their numbers
abbrev pub Memory : Type 0
Memory = ℕ → ℕ

pub record Write : Type 0 where
  pub number : ℕ
  pub byte : ℕ

abbrev pub with_byte : Memory → ℕ → ℕ → Memory
with_byte m k v other = if nat_eq other k then v else m other

abbrev pub written : Option Write → Memory → Memory
written None m = m
written (Some x) m = with_byte m x.number x.byte

abbrev pub write : ℕ → ℕ → Option Write
write k v = Some (record { number = k; byte = v })

-- ---- accesses
pub data Access : Type 0 where
  -- FSR
  Pointer : Access
  Event : Loud → Access
  -- a general byte by its number, without an event
  Silent : ℕ → Access
  Denied : Access

abbrev pub root_of : Bool → Root
root_of false = Main
root_of true = Isr

-- Main has its own frames and results, and so has the handler; no byte of a const object is written.
abbrev pub access_by : Bool → Bool → ℕ → Owner → Access
access_by inside writes k (Watched cell) = Event (Shared k cell)
access_by inside false k Constant = Silent k
access_by inside true k Constant = Denied
access_by false writes k (Of Main) = Silent k
access_by true writes k (Of Main) = Denied
access_by false writes k (Of Isr) = Denied
access_by true writes k (Of Isr) = Silent k
access_by inside writes k Nobody = Denied

abbrev pub general_access : DataLayout → Bool → Bool → Option ℕ → Access
general_access l inside writes None = Denied
general_access l inside writes (Some k) = access_by inside writes k (owner l k)

-- the bank of an address is selected, where that counts
abbrev pub is_selected : Setting → Registers → ℕ → Bool
is_selected g r address = not g.banked || (in_every_bank (address % 128) || nat_eq (bank r) (address / 128))

abbrev pub device_access : Setting → Registers → ℕ → Access
device_access g r address = if is_register address && nat_eq (lowest address) address && is_selected g r address then Event (Port address) else Denied

abbrev pub named_access : Setting → Bool → Bool → Registers → ℕ → Access
named_access g inside writes r address = if is_selected g r address then general_access g.program.layout inside writes (general_at address) else Denied

-- What a pointer leads to is a byte of an object or of a frame: results and main's saved context are reached by name alone.
abbrev pub pointed_access : DataLayout → Bool → Bool → ℕ → Access
pointed_access l inside writes address = if is_covered l address then general_access l inside writes (general_at address) else Denied

-- INDF is the byte of an object or a frame that IRP and FSR point to. STATUS and PCLATH as a whole, and main's saved context, are for what
-- stands round the handler, which is no code of a copy.
unfoldable pub access_of : Setting → Bool → Bool → Registers → Operand → Access
access_of g inside writes r (operands.Byte (bytes.Device address)) = device_access g r address
access_of g inside writes r (operands.Byte byte) = named_access g inside writes r (address_of g.program.layout byte)
access_of g inside writes r (operands.Register Indf) = pointed_access g.program.layout inside writes (pointer r)
access_of g inside writes r (operands.Register Fsr) = Pointer
access_of g inside writes r (operands.Register Status) = Denied
access_of g inside writes r (operands.Register Pclath) = Denied
access_of g inside writes r (operands.Saved cell) = Denied

-- ---- effects
pub data Effect : Type 0 where
  Stuck : Effect
  -- no event: the thread behind it, and a byte that is written
  Quiet : Thread → Option Write → Effect
  -- a read, with what comes behind by the byte that was read; and a write. Each is an event.
  Reads : Loud → (ℕ → Thread) → Effect
  Writes : Loud → ℕ → Thread → Effect
  -- the handler ends; main ends; main has ended
  Leaves : Effect
  Ends : Thread → Effect
  Rests : Effect

abbrev pub goes : Thread → Position → Registers → Thread
goes th p r = record th { at = Some p; registers = r }

abbrev pub quiet : Thread → Effect
quiet th = Quiet th None

-- A byte is read and what f makes of it is written: two events, so two steps.
abbrev pub updates : Loud → (ℕ → ℕ) → (ℕ → Thread) → Effect
updates b f next = Reads b (λ x. record (next x) { rest = Some (record { to = b; byte = f x }) })

-- ---- instructions on a file register
-- behind one that has read x, with its flags
abbrev pub after_file : Program → Position → Thread → FileOperation → ℕ → Thread
after_file q p th op x = goes th (onward q p (skips_with th.registers op x)) (flags_with th.registers op x)

abbrev pub result_in_w : Program → Position → Thread → FileOperation → ℕ → Thread
result_in_w q p th op x = goes th (onward q p (skips_with th.registers op x)) (record (flags_with th.registers op x) { w = result_with th.registers op x })

abbrev pub result_in_fsr : Program → Position → Thread → FileOperation → ℕ → Thread
result_in_fsr q p th op x = goes th (onward q p (skips_with th.registers op x)) (record (flags_with th.registers op x) { fsr = result_with th.registers op x })

abbrev pub file_to_w : Program → Position → Thread → Memory → FileOperation → Access → Effect
file_to_w q p th m op Pointer = quiet (result_in_w q p th op th.registers.fsr)
file_to_w q p th m op (Event b) = Reads b (λ x. result_in_w q p th op x)
file_to_w q p th m op (Silent k) = quiet (result_in_w q p th op (m k))
file_to_w q p th m op Denied = Stuck

abbrev pub file_to_file : Program → Position → Thread → Memory → FileOperation → Access → Effect
file_to_file q p th m op Pointer = quiet (result_in_fsr q p th op th.registers.fsr)
file_to_file q p th m op (Event b) = updates b (λ x. result_with th.registers op x) (λ x. after_file q p th op x)
file_to_file q p th m op (Silent k) = Quiet (after_file q p th op (m k)) (write k (result_with th.registers op (m k)))
file_to_file q p th m op Denied = Stuck

abbrev pub file : Setting → Bool → Position → Thread → Memory → FileOperation → Operand → Into → Effect
file g inside p th m op operand into.W = file_to_w g.program p th m op (access_of g inside false th.registers operand)
file g inside p th m op operand into.File = file_to_file g.program p th m op (access_of g inside true th.registers operand)

-- MOVWF and CLRF write and don't read: r are the registers behind them
abbrev pub store : Program → Position → Thread → Registers → ℕ → Access → Effect
store q p th r v Pointer = quiet (goes th (behind q p) (record r { fsr = v }))
store q p th r v (Event b) = Writes b v (goes th (behind q p) r)
store q p th r v (Silent k) = Quiet (goes th (behind q p) r) (write k v)
store q p th r v Denied = Stuck

-- ---- instructions on a bit
abbrev pub change : Program → Position → Thread → Memory → (ℕ → ℕ) → Access → Effect
change q p th m f Pointer = quiet (goes th (behind q p) (record th.registers { fsr = f th.registers.fsr }))
change q p th m f (Event b) = updates b f (λ x. goes th (behind q p) th.registers)
change q p th m f (Silent k) = Quiet (goes th (behind q p) th.registers) (write k (f (m k)))
change q p th m f Denied = Stuck

-- a skip where it holds of the byte
abbrev pub test : Program → Position → Thread → Memory → (ℕ → Bool) → Access → Effect
test q p th m holds Pointer = quiet (goes th (onward q p (holds th.registers.fsr)) th.registers)
test q p th m holds (Event b) = Reads b (λ x. goes th (onward q p (holds x)) th.registers)
test q p th m holds (Silent k) = quiet (goes th (onward q p (holds (m k))) th.registers)
test q p th m holds Denied = Stuck

abbrev pub file_bit : Setting → Bool → Position → Thread → Memory → BitOperation → ℕ → Operand → Effect
file_bit g inside p th m Bcf b operand = change g.program p th m (clear_bit b) (access_of g inside true th.registers operand)
file_bit g inside p th m Bsf b operand = change g.program p th m (set_bit b) (access_of g inside true th.registers operand)
file_bit g inside p th m Btfsc b operand = test g.program p th m (λ x. nat_eq (bit x b) 0) (access_of g inside false th.registers operand)
file_bit g inside p th m Btfss b operand = test g.program p th m (λ x. nat_eq (bit x b) 1) (access_of g inside false th.registers operand)

-- A flag or IRP. In a near layout no pointer is to an address from 100h on, so IRP isn't set.
abbrev pub put_flag : Program → Position → Thread → Option Registers → Effect
put_flag q p th None = Stuck
put_flag q p th (Some r) = quiet (goes th (behind q p) r)

abbrev pub test_flag : Program → Position → Thread → ℕ → Option ℕ → Effect
test_flag q p th v None = Stuck
test_flag q p th v (Some x) = quiet (goes th (onward q p (nat_eq x v)) th.registers)

abbrev pub flag : Program → Position → Thread → BitOperation → ℕ → Effect
flag q p th Bcf b = put_flag q p th (with_status_bit th.registers b 0)
flag q p th Bsf b = if nat_eq b 7 && all_near q.layout then Stuck else put_flag q p th (with_status_bit th.registers b 1)
flag q p th Btfsc b = test_flag q p th 0 (status_bit th.registers b)
flag q p th Btfss b = test_flag q p th 1 (status_bit th.registers b)

abbrev pub bits : Setting → Bool → Position → Thread → Memory → BitOperation → ℕ → Operand → Effect
bits g inside p th m op b (operands.Register Status) = flag g.program p th op b
bits g inside p th m op b operand = file_bit g inside p th m op b operand

-- ---- jumps, calls and returns
-- the page of a target is selected, where that counts
abbrev pub is_in_page : Setting → Position → Registers → Target → Bool
is_in_page g p r target = not g.banked || nat_eq (page r) (g.page_of (block_of p.block target))

abbrev pub jump_to : Thread → Option Position → Effect
jump_to th None = Stuck
jump_to th (Some p) = quiet (record th { at = Some p })

-- main ends, and the handler does, where no call of theirs waits
abbrev pub halt : Bool → Thread → List Position → Effect
halt false th [] = Ends (record th { at = None })
halt inside th stack = Stuck

abbrev pub restore : Bool → List Position → Effect
restore true [] = Leaves
restore inside stack = Stuck

abbrev pub goto : Setting → Bool → Position → Thread → Target → Effect
goto g inside p th (targets.Label Halt) = halt inside th th.stack
goto g inside p th (targets.Label Restore) = restore inside th.stack
goto g inside p th target = jump_to th (place_of g.program p target)

abbrev pub call : Setting → Bool → Position → Thread → Target → Effect
call g inside p th target =
    if nat_lt (length th.stack) (g.limit inside)
    then jump_to (record th { stack = behind g.program p ∷ th.stack }) (place_of g.program p target)
    else Stuck

abbrev pub back : Thread → List Position → Effect
back th [] = Stuck
back th (p ∷ stack) = quiet (record th { at = Some p; stack = stack })

-- ---- the others
abbrev pub literal_value : DataLayout → Literal → ℕ
literal_value l (literals.Number n) = n
literal_value l (literals.Low byte) = address_byte false (address_of l byte)
literal_value l (literals.High byte) = address_byte true (address_of l byte)

abbrev pub literal : Program → Position → Thread → LiteralOperation → Registers → Effect
literal q p th Retlw r = back (record th { registers = r }) th.stack
literal q p th op r = quiet (goes th (behind q p) r)

abbrev pub plain : Program → Position → Thread → PlainOperation → Effect
plain q p th Clrw = quiet (goes th (behind q p) (after_row ins.Clrw th.registers))
plain q p th Nop = quiet (goes th (behind q p) th.registers)
plain q p th Retfie = Stuck
plain q p th Return = back th th.stack

-- the select leads to an address from 100h on: nothing stands there in a near layout
abbrev pub is_far : BankBit → Bool → Bool
is_far Rp0 to = false
is_far Rp1 to = to
is_far Irp to = to

abbrev pub select : Program → Position → Thread → BankBit → Bool → Effect
select q p th which to = if is_far which to && all_near q.layout then Stuck else quiet (goes th (behind q p) (with_bank_bit th.registers which (truth to)))

abbrev pub page_bit : PageBit → ℕ → ℕ
page_bit Low page = page % 2
page_bit High page = page / 2 % 2

-- ---- tables in program memory
-- the byte of an access without an event
abbrev pub silent_byte : Memory → Access → Option ℕ
silent_byte m (Silent k) = Some (m k)
silent_byte m access = None

abbrev pub result_byte : Setting → Bool → Registers → Memory → Root → ℕ → Option ℕ
result_byte g inside r m root k = silent_byte m (access_of g inside false r (operands.Byte (bytes.Result root k)))

-- two bytes as an unsigned number
abbrev pub number_of : Option ℕ → Option ℕ → Option ℕ
number_of (Some low) (Some high) = Some (low + 256 * high)
number_of low high = None

abbrev pub table_byte : Option (List ℕ) → ℕ → Option ℕ
table_byte None k = None
table_byte (Some list) k = slice_get list k

-- the words that read byte k have brought this byte, of which a word has room for 8 bits
abbrev pub brought : Setting → Position → Thread → Spoiled → Option ℕ → Effect
brought g p th left None = Stuck
brought g p th left (Some v) = quiet (goes th (behind g.program p) (record (spoiled left th.registers) { w = v % 256 }))

abbrev pub looked_up : Setting → Position → Thread → ℕ → Option ℕ → Effect
looked_up g p th table None = Stuck
looked_up g p th table (Some k) = brought g p th (g.leaves table k) (table_byte (g.program.tables table) k)

-- they are called, so there must be room on the return stack
abbrev pub look_up : Setting → Bool → Position → Thread → Memory → ℕ → Root → Effect
look_up g inside p th m table root =
    if nat_lt (length th.stack) (g.limit inside)
    then looked_up g p th table (number_of (result_byte g inside th.registers m root 0) (result_byte g inside th.registers m root 1))
    else Stuck

-- ---- one instruction
unfoldable pub effect_of : Setting → Bool → Position → Thread → Memory → Sym → Effect
effect_of g inside p th m (sym.File op operand dest) = file g inside p th m op operand dest
effect_of g inside p th m (sym.Movwf operand) = store g.program p th th.registers th.registers.w (access_of g inside true th.registers operand)
effect_of g inside p th m (sym.Clrf operand) = store g.program p th (record th.registers { z = 1 }) 0 (access_of g inside true th.registers operand)
effect_of g inside p th m (sym.Bit op operand b) = bits g inside p th m op b operand
effect_of g inside p th m (sym.Literal op value) = literal g.program p th op (after_row (literal_row op (literal_value g.program.layout value)) th.registers)
effect_of g inside p th m (sym.Plain op) = plain g.program p th op
effect_of g inside p th m (sym.Call target) = if is_in_page g p th.registers target then call g inside p th target else Stuck
effect_of g inside p th m (sym.Goto target) = if is_in_page g p th.registers target then goto g inside p th target else Stuck
effect_of g inside p th m (sym.Label label) = Stuck
effect_of g inside p th m (sym.SelectBank which to) = select g.program p th which to
effect_of g inside p th m (sym.SelectPage which target) =
    quiet (goes th (behind g.program p) (with_page_bit th.registers which (page_bit which (g.page_of (block_of p.block target)))))
effect_of g inside p th m (sym.Table table root) = if is_in_page g p th.registers own_place then look_up g inside p th m table root else Stuck

abbrev pub effect_if : Setting → Bool → Position → Thread → Memory → Option Sym → Effect
effect_if g inside p th m None = Stuck
effect_if g inside p th m (Some s) = effect_of g inside p th m s

abbrev pub effect_at : Setting → Bool → Thread → Memory → Option Position → Effect
effect_at g false th m None = Rests
effect_at g true th m None = Stuck
effect_at g inside th m (Some p) = effect_if g inside p th m (fetched g.program p)

abbrev pub effect_rest : Setting → Bool → Thread → Memory → Option Rest → Effect
effect_rest g inside th m None = effect_at g inside th m th.at
effect_rest g inside th m (Some x) = Writes x.to x.byte (record th { rest = None })

-- what the next step of a thread does: what is left of an instruction, or else the next one
unfoldable pub effect : Setting → Bool → Thread → Memory → Effect
effect g inside th m = effect_rest g inside th m th.rest
