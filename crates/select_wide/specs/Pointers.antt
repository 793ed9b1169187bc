-- Addresses, and what pointers point to, through FSR and IRP (Microchip data sheet DS39582, indirect addressing).
use Rattle.std.specs.Prelude.{ℕ, nat_eq, if◌then◌else◌, List, [], ◌++◌}
use Rattle.core_code.specs.declared.code.Byte.{Byte}
use Rattle.sym_code.specs.declared.code.BitOperation.TheVariants.{Bcf, Bsf}
use Rattle.sym_code.specs.declared.code.FileOperation.TheVariants.{Incf, Movf}
use Rattle.sym_code.specs.declared.code.Into.TheVariants.{W, File}
use Rattle.sym_code.specs.declared.code.Literal.TheVariants.{Low, High}
use Rattle.sym_code.specs.declared.code.LiteralOperation.TheVariants.{Movlw}
use Rattle.sym_code.specs.declared.code.Register.TheVariants.{Fsr, Indf}
use Rattle.sym_code.specs.declared.code.Sym.{Sym}
use Rattle.select_code.specs.declared.pieces.Flag.TheVariants.{Irp}
use Rattle.select_code.specs.Pieces.{byte_behind, file_code, store_code, flag_code}
use Rattle.select_wide.specs.Pieces.{rising, register_code, register_store_code, literal_code, if_bit_code}

-- two bytes become the address of a byte
abbrev pub address_code : Byte → Byte → List Sym
address_code to place = literal_code Movlw (Low place) ++ store_code to ++ literal_code Movlw (High place) ++ store_code (byte_behind to 1)

-- FSR becomes the low byte of a pointer, and IRP the lowest bit of its high byte
abbrev pub pointer_code : Byte → List Sym
pointer_code pointer = file_code Movf pointer W ++ register_store_code Fsr ++ flag_code Bcf Irp ++ if_bit_code (byte_behind pointer 1) 0 ++ flag_code Bsf Irp

-- FSR goes on to the next byte
abbrev pub advance_code : ℕ → List Sym
advance_code k = if nat_eq k 0 then [] else register_code Incf Fsr File

abbrev pub load_byte_code : Byte → ℕ → List Sym
load_byte_code to k = advance_code k ++ register_code Movf Indf W ++ store_code (byte_behind to k)

abbrev pub load_code : Byte → Byte → ℕ → List Sym
load_code to pointer count = pointer_code pointer ++ rising (load_byte_code to) count

abbrev pub store_byte_code : Byte → ℕ → List Sym
store_byte_code from k = advance_code k ++ file_code Movf (byte_behind from k) W ++ register_store_code Indf

abbrev pub store_all_code : Byte → Byte → ℕ → List Sym
store_all_code pointer from count = pointer_code pointer ++ rising (store_byte_code from) count
