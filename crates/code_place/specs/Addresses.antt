-- The addresses of bytes that have names, as far as they are in data memory: the byte of an object or frame stands so far behind
-- the front of it. Results and saved cells are among 70h to 7Fh, which every bank shows (Microchip data sheet DS39582, register
-- file map).
use Rattle.std.specs.Prelude.{ℕ, ◌+◌, nat_lt, nat_eq, Bool, true, false, ◌||◌, Option, Some, None, slice_get, if◌then◌else◌}
use Rattle.core_code.specs.declared.code.Byte.{Byte}
use Rattle.core_code.specs.declared.code.Byte.TheVariants as bytes
use Rattle.pic_world.specs.declared.Root.{Root}
use Rattle.pic_map.specs.declared.ObjLine.{ObjLine}
use Rattle.pic_map.specs.declared.FrameLine.{FrameLine}
use Rattle.pic_map.specs.declared.Placed.{Placed}
use Rattle.sym_code.specs.Layout.{result_address, saved_address}
use Rattle.sym_code.specs.declared.code.Operand.{Operand}
use Rattle.sym_code.specs.declared.code.Operand.TheVariants as operands
use Rattle.sym_code.specs.declared.code.Register.{Register}
use Rattle.sym_code.specs.declared.code.Register.TheVariants as registers

abbrev pub in_memory : ℕ → Option ℕ
in_memory at = if nat_lt at 512 then Some at else None

abbrev pub object_byte : Option ObjLine → ℕ → Option ℕ
object_byte (Some line) offset = in_memory (line.address + offset)
object_byte None offset = None

abbrev pub frame_byte : Option FrameLine → ℕ → Option ℕ
frame_byte (Some line) offset = in_memory (line.address + offset)
frame_byte None offset = None

abbrev pub result_byte : Root → ℕ → Option ℕ
result_byte r k = if nat_lt k 4 then Some (result_address r + k) else None

abbrev pub address_of : Placed → Byte → Option ℕ
address_of placed (bytes.Static object offset) = object_byte (slice_get placed.objects.items object) offset
address_of placed (bytes.Frame copy offset) = frame_byte (slice_get placed.frames.items copy) offset
address_of placed (bytes.Result r k) = result_byte r k
address_of placed (bytes.Device address) = Some address

abbrev pub register_address : Register → ℕ
register_address registers.Indf = 0x00
register_address registers.Status = 0x03
register_address registers.Fsr = 0x04
register_address registers.Pclath = 0x0a

abbrev pub file_address : Placed → Operand → Option ℕ
file_address placed (operands.Byte b) = address_of placed b
file_address placed (operands.Register r) = Some (register_address r)
file_address placed (operands.Saved s) = Some (saved_address s)
