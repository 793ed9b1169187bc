-- The file operand of an instruction, and whether the instruction writes it.
use Rattle.std.specs.Prelude.{Bool, true, false, Option, Some, None}
use Rattle.sym_code.specs.declared.code.BitOperation.{BitOperation}
use Rattle.sym_code.specs.declared.code.BitOperation.TheVariants.{Bcf, Bsf}
use Rattle.sym_code.specs.declared.code.Into.{Into}
use Rattle.sym_code.specs.declared.code.Into.TheVariants as into
use Rattle.sym_code.specs.declared.code.Operand.{Operand}
use Rattle.sym_code.specs.declared.code.Sym.{Sym}
use Rattle.sym_code.specs.declared.code.Sym.TheVariants as sym

abbrev pub is_file : Into → Bool
is_file into.File = true
is_file into.W = false

abbrev pub is_bit_write : BitOperation → Bool
is_bit_write Bcf = true
is_bit_write Bsf = true
is_bit_write _ = false

-- the operand that an instruction names; a select and a read of a table name none
abbrev pub touches : Sym → Option (Operand × Bool)
touches (sym.File op file dest) = Some (file, is_file dest)
touches (sym.Movwf file) = Some (file, true)
touches (sym.Clrf file) = Some (file, true)
touches (sym.Bit op file bit) = Some (file, is_bit_write op)
touches _ = None
