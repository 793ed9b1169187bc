-- Which instructions select, skip or are none; and what an instruction needs to be selected (Microchip data sheet DS39582,
-- instruction set summary, STATUS, PCL and PCLATH).
use Rattle.std.specs.Prelude.{Bool, true, false, Option, Some, None, if◌then◌else◌}
use Rattle.core_code.specs.declared.code.Byte.{Byte}
use Rattle.sym_code.specs.Programs.{own_place}
use Rattle.sym_code.specs.Touching.{touches}
use Rattle.sym_code.specs.declared.code.BitOperation.{BitOperation}
use Rattle.sym_code.specs.declared.code.BitOperation.TheVariants as bit_ops
use Rattle.sym_code.specs.declared.code.FileOperation.{FileOperation}
use Rattle.sym_code.specs.declared.code.FileOperation.TheVariants as file_ops
use Rattle.sym_code.specs.declared.code.Operand.{Operand}
use Rattle.sym_code.specs.declared.code.Operand.TheVariants as operands
use Rattle.sym_code.specs.declared.code.Sym.{Sym}
use Rattle.sym_code.specs.declared.code.Sym.TheVariants as syms
use Rattle.sym_code.specs.declared.code.Target.{Target}
use Rattle.sym_code.specs.Words.{is_common}

abbrev pub is_label : Sym → Bool
is_label (syms.Label label) = true
is_label _ = false

abbrev pub skips_by_file : FileOperation → Bool
skips_by_file file_ops.Decfsz = true
skips_by_file file_ops.Incfsz = true
skips_by_file _ = false

abbrev pub skips_by_bit : BitOperation → Bool
skips_by_bit bit_ops.Btfsc = true
skips_by_bit bit_ops.Btfss = true
skips_by_bit _ = false

-- the instruction may skip the one behind it
abbrev pub is_skip : Sym → Bool
is_skip (syms.File op file into) = skips_by_file op
is_skip (syms.Bit op file bit) = skips_by_bit op
is_skip _ = false

-- the byte whose bank a file operand needs; what stands in every bank needs none
abbrev pub byte_named : Operand → Option Byte
byte_named (operands.Byte byte) = if is_common byte then None else Some byte
byte_named (operands.Register register) = None
byte_named (operands.Saved saved) = None

abbrev pub byte_touched : Option (Operand × Bool) → Option Byte
byte_touched None = None
byte_touched (Some touched) = byte_named touched.0

-- the byte whose bank an instruction needs
abbrev pub byte_of : Sym → Option Byte
byte_of s = byte_touched (touches s)

-- the target whose page an instruction needs: of a read of a table one in its own block
abbrev pub target_of : Sym → Option Target
target_of (syms.Call target) = Some target
target_of (syms.Goto target) = Some target
target_of (syms.Table table root) = Some own_place
target_of _ = None
