-- The words of instructions that name labels, blocks and bytes, worked out by hand from the instruction table of the data sheet.
use Rattle.std.specs.Prelude.{ℕ, ◌≡◌, true, false, [], ◌∷◌, Option, Some, None}
use Rattle.core_code.specs.declared.code.Byte.TheVariants as bytes
use Rattle.pic_map.specs.declared.Placed.{Placed}
use Rattle.pic_world.specs.declared.Root.TheVariants as roots
use Rattle.sym_code.specs.declared.code.BankBit.TheVariants as bank_bits
use Rattle.sym_code.specs.declared.code.BitOperation.TheVariants as bit_ops
use Rattle.sym_code.specs.declared.code.BlockName.TheVariants as names
use Rattle.sym_code.specs.declared.code.FileOperation.TheVariants as file_ops
use Rattle.sym_code.specs.declared.code.Into.TheVariants as into
use Rattle.sym_code.specs.declared.code.Label.TheVariants as labels
use Rattle.sym_code.specs.declared.code.Literal.TheVariants as values
use Rattle.sym_code.specs.declared.code.LiteralOperation.TheVariants as literal_ops
use Rattle.sym_code.specs.declared.code.Operand.TheVariants as operands
use Rattle.sym_code.specs.declared.code.PageBit.TheVariants as page_bits
use Rattle.sym_code.specs.declared.code.PlainOperation.TheVariants as plain_ops
use Rattle.sym_code.specs.declared.code.Sym.TheVariants as syms
use Rattle.sym_code.specs.declared.code.Target.{Target}
use Rattle.sym_code.specs.declared.code.Target.TheVariants as targets
use Rattle.code_place.specs.Instructions.{words}

-- the start block stands at 0000h, its halt at 0003h, and the end of an interrupt at 1804h
abbrev pub places : Target → Option ℕ
places (targets.Block names.Start) = Some 0
places (targets.Block (names.Copy copy)) = None
places (targets.Label labels.Halt) = Some 0x0003
places (targets.Label labels.Restore) = Some 0x1804
places (targets.Label (labels.Inner number)) = None

abbrev pub halt : Target
halt = targets.Label labels.Halt

abbrev pub restore : Target
restore = targets.Label labels.Restore

abbrev pub start : Target
start = targets.Block names.Start

pub record WorkedWords : Type 0 where
  -- a label is no word
  pub a_label : (placed : Placed) → words placed places (syms.Label labels.Halt ∷ []) ≡ []
  -- jumps and a call by the low eleven bits of an address, and bits 3 and 4 of PCLATH
  pub to_targets : (placed : Placed) → words placed places (syms.Goto halt ∷ syms.Goto restore ∷ syms.SelectPage page_bits.High restore ∷ syms.SelectPage page_bits.Low start ∷ syms.Call start ∷ []) ≡ 0x2803 ∷ 0x2804 ∷ 0x160a ∷ 0x118a ∷ 0x2000 ∷ []
  -- a number, and the low byte of the address of PCON, 8Eh
  pub literals : (placed : Placed) → words placed places (syms.Literal literal_ops.Movlw (values.Number 5) ∷ syms.Literal literal_ops.Movlw (values.Low (bytes.Device 0x8e)) ∷ []) ≡ 0x3005 ∷ 0x308e ∷ []
  pub selects : (placed : Placed) → words placed places (syms.SelectBank bank_bits.Rp1 false ∷ syms.SelectBank bank_bits.Rp0 true ∷ []) ≡ 0x1303 ∷ 0x1683 ∷ []
  -- the second byte of a result under the handler, PCON, and a bit of PORTB, 06h
  pub of_bytes : (placed : Placed) → words placed places (syms.Movwf (operands.Byte (bytes.Result roots.Isr 1)) ∷ syms.File file_ops.Decfsz (operands.Byte (bytes.Device 0x8e)) into.File ∷ syms.Bit bit_ops.Bsf (operands.Byte (bytes.Device 0x06)) 7 ∷ syms.Plain plain_ops.Return ∷ []) ≡ 0x00f5 ∷ 0x0b8e ∷ 0x1786 ∷ 0x0008 ∷ []
