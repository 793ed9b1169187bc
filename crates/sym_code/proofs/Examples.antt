-- Runs of small blocks, computed.
use Rattle.std.proofs.Common.{◌≡◌, true, false, ℕ, zero, suc, nat_eq, if◌then◌else◌, List, [], ◌∷◌, ◌++◌, replicate, Option, Some, None, refl}
use Rattle.pic_world.specs.Control as control
use Rattle.pic_world.specs.Control.{stored, with_stored, raised_by}
use Rattle.pic_world.specs.World.{Outside, ReadOf, WriteOf, Ended, arrived, is_due, entered, left, device_value, after_device_read, after_device_write, sets_gie}
use Rattle.pic_world.specs.declared.Cell.TheVariants as cells
use Rattle.pic_world.specs.declared.Root.{Root}
use Rattle.pic_world.specs.declared.Root.TheVariants.{Main, Isr}
use Rattle.core_code.specs.declared.code.Byte.TheVariants as bytes
use Rattle.sym_code.specs.Cost.{step_cost, cost_by, times_in}
use Rattle.sym_code.specs.Effect.{Setting, access_of, effect_of, effect}
use Rattle.sym_code.specs.Layout.{DataLayout, address_of, general_at, owner, all_near, is_covered}
use Rattle.sym_code.specs.Machine.{Machine, Entry, Stops, Still, acted, sym_step, sym_run, sym_start}
use Rattle.sym_code.specs.Programs.{stand}
use Rattle.sym_code.specs.Registers.{Registers, result_with, flags_with, skips_with, after_row}
use Rattle.sym_code.specs.Runs.{sym_most, sym_least}
use Rattle.sym_code.specs.declared.code.BankBit.TheVariants.{Rp1}
use Rattle.sym_code.specs.declared.code.BitOperation.TheVariants.{Bcf, Bsf, Btfss}
use Rattle.sym_code.specs.declared.code.BlockName.{BlockName}
use Rattle.sym_code.specs.declared.code.BlockName.TheVariants.{Start, Copy}
use Rattle.sym_code.specs.declared.code.FileOperation.TheVariants.{Incf, Movf}
use Rattle.sym_code.specs.declared.code.Into.TheVariants as into
use Rattle.sym_code.specs.declared.code.Label.TheVariants.{Inner, Halt, Restore}
use Rattle.sym_code.specs.declared.code.Literal.TheVariants as literals
use Rattle.sym_code.specs.declared.code.LiteralOperation.TheVariants.{Movlw}
use Rattle.sym_code.specs.declared.code.Operand.{Operand}
use Rattle.sym_code.specs.declared.code.Operand.TheVariants as operands
use Rattle.sym_code.specs.declared.code.Register.TheVariants as register
use Rattle.sym_code.specs.declared.code.Sym.{Sym}
use Rattle.sym_code.specs.declared.code.Sym.TheVariants.{File, Movwf, Bit, Literal, Goto, Label, SelectBank, Table}
use Rattle.sym_code.specs.declared.code.Target.TheVariants as targets

-- Static object 0 has two bytes from 20h on, object 1 two from 110h on. The frame of main has four bytes from 30h on, that
-- of the handler, copy 1, four from 34h on.
abbrev layout : DataLayout
layout = record {
  objects = record { constant = false; address = 0x20; size = 2 } ∷ record { constant = false; address = 0x110; size = 2 } ∷ [];
  frames = record { root = Main; address = 0x30; size = 4 } ∷ record { root = Isr; address = 0x34; size = 4 } ∷ [];
}

abbrev blocks : List Sym → List Sym → BlockName → List Sym
blocks main handler Start = []
blocks main handler (Copy zero) = main
blocks main handler (Copy (suc n)) = handler

-- Table 0 has 258 bytes, of which the last one is 9.
abbrev tables : ℕ → Option (List ℕ)
tables zero = Some (replicate 257 5 ++ 9 ∷ [])
tables (suc n) = None

-- code without selects
abbrev setting : List Sym → List Sym → Setting
setting main handler = record {
  program = record { block = blocks main handler; handler = Some 1; layout = layout; tables = tables };
  banked = false;
  page_of = λ block. 0;
  limit = λ inside. 3;
  leaves = λ table k. record { z = true; dc = false; c = true; page_low = true; page_high = false };
}

-- the same code, where selects count
abbrev selecting : List Sym → Setting
selecting main = record (setting main []) { banked = true }

-- the external flag comes at this length of the trace, and nothing else
abbrev external_at : ℕ → Outside
external_at n = record { input = 7 ∷ []; schedule = λ k. if nat_eq k n then 2 else 0 }

abbrev nothing : Registers
nothing = record { w = 0; z = 0; dc = 0; c = 0; fsr = 0; rp0 = 0; rp1 = 0; irp = 0; page_low = 0; page_high = 0 }

-- the handler finds 99 in W
abbrev entry : Entry
entry k = record nothing { w = 99 }

abbrev begun : Setting → Machine
begun g = sym_start g.program nothing (λ k. 0xff)

abbrev run : Setting → ℕ → ℕ → Machine
run g arrival n = sym_run g entry (external_at arrival) n (begun g)

abbrev device : ℕ → Operand
device address = operands.Byte (bytes.Device address)

abbrev to_halt : Sym
to_halt = Goto (targets.Label Halt)

-- PORTB, at 06, gets 5.
abbrev writing : Setting
writing = setting (Literal Movlw (literals.Number 5) ∷ Movwf (device 6) ∷ to_halt ∷ []) []

written : (run writing 9 3).world.trace ≡ WriteOf (cells.Device 6) 5 ∷ Ended ∷ []
unfolding sym_run sym_step acted effect effect_of access_of stand after_row raised_by control.is_due stored with_stored arrived is_due device_value after_device_read after_device_write sets_gie
written = refl

written_still : sym_step writing entry (external_at 9) (run writing 9 3) ≡ Still
unfolding sym_run sym_step acted effect effect_of access_of stand after_row raised_by control.is_due stored with_stored arrived is_due device_value after_device_read after_device_write sets_gie
written_still = refl

-- The second byte of object 1 is reached through INDF, with IRP set. It is 255, so adding 1 gives 0 and sets Z, and the
-- write to PORTC, at 07, is skipped. A select is one instruction and a label none; INCF of a watched byte makes two events,
-- and so two steps.
abbrev pointing : Setting
pointing = setting (
    SelectBank Rp1 true ∷ Literal Movlw (literals.Low (bytes.Static 1 1)) ∷ Movwf (operands.Register register.Fsr)
    ∷ Bit Bsf (operands.Register register.Status) 7 ∷ File Incf (operands.Register register.Indf) into.File
    ∷ Bit Btfss (operands.Register register.Status) 2 ∷ Movwf (device 7) ∷ Label (Inner 0) ∷ to_halt ∷ []) []

pointed : (run pointing 9 8).world.trace ≡ ReadOf (cells.Static 1 1) 0xff ∷ WriteOf (cells.Static 1 1) 0 ∷ Ended ∷ []
unfolding sym_run sym_step acted effect effect_of access_of address_of general_at owner stand result_with flags_with skips_with after_row raised_by control.is_due stored with_stored arrived is_due device_value after_device_read after_device_write sets_gie all_near is_covered
pointed = refl

pointed_least : sym_least pointing entry (external_at 9) (begun pointing) 8 ≡ 7
unfolding cost_by step_cost sym_run sym_step acted effect effect_of access_of address_of general_at owner stand result_with flags_with skips_with after_row raised_by control.is_due stored with_stored arrived is_due device_value after_device_read after_device_write sets_gie all_near is_covered
pointed_least = refl

-- where each instruction costs one more than its number
pointed_most : sym_most pointing (λ block index. suc index) entry (external_at 9) (begun pointing) 8 ≡ 30
unfolding cost_by step_cost sym_run sym_step acted effect effect_of access_of address_of general_at owner stand result_with flags_with skips_with after_row raised_by control.is_due stored with_stored arrived is_due device_value after_device_read after_device_write sets_gie all_near is_covered
pointed_most = refl

-- A byte of bank 2 without its bank: stuck where selects count, and only there. With RP1 set it is read.
abbrev a_byte : Sym
a_byte = File Movf (operands.Byte (bytes.Static 1 0)) into.W

unselected : sym_step (selecting (a_byte ∷ to_halt ∷ [])) entry (external_at 9) (begun (selecting (a_byte ∷ to_halt ∷ []))) ≡ Stops
unfolding sym_step acted effect effect_of access_of address_of general_at owner stand raised_by control.is_due stored arrived is_due
unselected = refl

selected : (run (selecting (SelectBank Rp1 true ∷ a_byte ∷ to_halt ∷ [])) 9 2).world.trace ≡ ReadOf (cells.Static 1 0) 0xff ∷ []
unfolding sym_run sym_step acted effect effect_of access_of address_of general_at owner stand result_with flags_with skips_with raised_by control.is_due stored with_stored arrived is_due device_value after_device_read all_near
selected = refl

-- In a layout whose objects and frames end below 100h the same select is stuck, and so is one of IRP by BSF.
abbrev near : List Sym → Setting
near main = record (selecting main) { program = record (selecting main).program { layout = record layout { objects = [] } } }

unselectable : sym_step (near (SelectBank Rp1 true ∷ to_halt ∷ [])) entry (external_at 9) (begun (near (SelectBank Rp1 true ∷ to_halt ∷ []))) ≡ Stops
unfolding sym_step acted effect effect_of stand raised_by control.is_due stored arrived is_due all_near
unselectable = refl

unpointable : sym_step (near (Bit Bsf (operands.Register register.Status) 7 ∷ to_halt ∷ [])) entry (external_at 9) (begun (near (Bit Bsf (operands.Register register.Status) 7 ∷ to_halt ∷ []))) ≡ Stops
unfolding sym_step acted effect effect_of stand raised_by control.is_due stored arrived is_due all_near
unpointable = refl

-- FSR is 0, where no object or frame stands: an access through INDF is stuck. One of main's first result, at 70h, is stuck too.
abbrev through : Setting
through = setting (Movwf (operands.Register register.Indf) ∷ to_halt ∷ []) []

unfounded : sym_step through entry (external_at 9) (begun through) ≡ Stops
unfolding sym_step acted effect effect_of access_of general_at owner stand raised_by control.is_due stored arrived is_due is_covered
unfounded = refl

at_result : sym_step through entry (external_at 9) (sym_start through.program (record nothing { fsr = 0x70 }) (λ k. 0xff)) ≡ Stops
unfolding sym_step acted effect effect_of access_of general_at owner stand raised_by control.is_due stored arrived is_due is_covered
at_result = refl

-- Main writes to the handler's frame: stuck.
abbrev trespassing : Setting
trespassing = setting (Movwf (operands.Byte (bytes.Frame 1 0)) ∷ to_halt ∷ []) []

refused : sym_step trespassing entry (external_at 9) (begun trespassing) ≡ Stops
unfolding sym_step acted effect effect_of access_of address_of general_at owner stand raised_by control.is_due stored arrived is_due
refused = refl

-- An instruction behind which nothing stands: stuck at once.
abbrev running_off : Setting
running_off = setting (Literal Movlw (literals.Number 5) ∷ Label (Inner 0) ∷ []) []

ran_off : sym_step running_off entry (external_at 9) (begun running_off) ≡ Stops
unfolding sym_step acted effect effect_of access_of stand after_row raised_by control.is_due stored arrived is_due
ran_off = refl

-- INTE and GIE are set, and PORTD, at 08, is copied to PORTB. The external flag comes at a length of the trace. The handler
-- is entered whole there, writes what it finds in W to PORTC and clears the flag; W is main's again behind it.
abbrev interrupting : Setting
interrupting = setting (Literal Movlw (literals.Number 0x90) ∷ Movwf (device 0x0b) ∷ File Movf (device 8) into.W ∷ Movwf (device 6) ∷ to_halt ∷ [])
    (Movwf (device 7) ∷ Bit Bcf (device 0x0b) 1 ∷ Goto (targets.Label Restore) ∷ [])

interrupted : (run interrupting 1 10).world.trace ≡
    WriteOf (cells.Device 0x0b) 0x90 ∷ WriteOf (cells.Device 7) 99 ∷ ReadOf (cells.Device 0x0b) 0x12 ∷ WriteOf (cells.Device 0x0b) 0x10
    ∷ ReadOf (cells.Device 8) 7 ∷ WriteOf (cells.Device 6) 7 ∷ Ended ∷ []
unfolding sym_run sym_step acted effect effect_of access_of stand result_with flags_with skips_with after_row raised_by control.is_due control.entered control.left stored with_stored arrived is_due entered left device_value after_device_read after_device_write sets_gie
interrupted = refl

-- between the read of PORTD and the write to PORTB
between : (run interrupting 2 10).world.trace ≡
    WriteOf (cells.Device 0x0b) 0x90 ∷ ReadOf (cells.Device 8) 7
    ∷ WriteOf (cells.Device 7) 99 ∷ ReadOf (cells.Device 0x0b) 0x12 ∷ WriteOf (cells.Device 0x0b) 0x10 ∷ WriteOf (cells.Device 6) 7 ∷ Ended ∷ []
unfolding sym_run sym_step acted effect effect_of access_of stand result_with flags_with skips_with after_row raised_by control.is_due control.entered control.left stored with_stored arrived is_due entered left device_value after_device_read after_device_write sets_gie
between = refl

between_most : sym_most interrupting (λ block index. 1) entry (external_at 2) (begun interrupting) 10 ≡ 208
unfolding cost_by step_cost sym_run sym_step acted effect effect_of access_of stand result_with flags_with skips_with after_row raised_by control.is_due control.entered control.left stored with_stored arrived is_due entered left device_value after_device_read after_device_write sets_gie
between_most = refl

-- Byte 257 of table 0 is written to PORTB. Z is set behind the read, so the write to PORTC is skipped.
abbrev looking : ℕ → Root → List Sym
looking table root =
    Literal Movlw (literals.Number 1) ∷ Movwf (operands.Byte (bytes.Result Main 0)) ∷ Movwf (operands.Byte (bytes.Result Main 1)) ∷ Table table root
    ∷ Movwf (device 6) ∷ Bit Btfss (operands.Register register.Status) 2 ∷ Movwf (device 7) ∷ to_halt ∷ []

looked : (run (setting (looking 0 Main) []) 9 7).world.trace ≡ WriteOf (cells.Device 6) 9 ∷ Ended ∷ []
unfolding sym_run sym_step acted effect effect_of access_of address_of general_at owner stand after_row raised_by control.is_due stored with_stored arrived is_due device_value after_device_read after_device_write sets_gie
looked = refl

looked_most : sym_most (setting (looking 0 Main) []) (times_in (blocks (looking 0 Main) [])) entry (external_at 9) (begun (setting (looking 0 Main) [])) 7 ≡ 18
unfolding cost_by step_cost sym_run sym_step acted effect effect_of access_of address_of general_at owner stand after_row raised_by control.is_due stored with_stored arrived is_due device_value after_device_read after_device_write sets_gie
looked_most = refl

-- The read is stuck where there is no such table, and where the results are the handler's.
no_table : sym_step (setting (looking 1 Main) []) entry (external_at 9) (run (setting (looking 1 Main) []) 9 3) ≡ Stops
unfolding sym_run sym_step acted effect effect_of access_of address_of general_at owner stand after_row raised_by control.is_due stored with_stored arrived is_due device_value after_device_read after_device_write sets_gie
no_table = refl

no_results : sym_step (setting (looking 0 Isr) []) entry (external_at 9) (run (setting (looking 0 Isr) []) 9 3) ≡ Stops
unfolding sym_run sym_step acted effect effect_of access_of address_of general_at owner stand after_row raised_by control.is_due stored with_stored arrived is_due device_value after_device_read after_device_write sets_gie
no_results = refl
