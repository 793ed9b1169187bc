-- Instructions by what they are for, and the two labels of a construct.
use Rattle.std.specs.Prelude.{ℕ, zero, suc, ◌+◌, ◌*◌, ◌%◌, Bool, true, false, cond, ◌&&◌, nat_eq, List, [], ◌∷◌, ◌++◌, min}
use Rattle.core_code.specs.declared.code.Byte.{Byte}
use Rattle.core_code.specs.declared.code.Byte.TheVariants.{Static, Frame, Result, Device}
use Rattle.sym_code.specs.declared.code.BitOperation.{BitOperation}
use Rattle.sym_code.specs.declared.code.BitOperation.TheVariants.{Bcf, Bsf, Btfsc, Btfss}
use Rattle.sym_code.specs.declared.code.FileOperation.{FileOperation}
use Rattle.sym_code.specs.declared.code.FileOperation.TheVariants.{Iorwf, Movf}
use Rattle.sym_code.specs.declared.code.Into.{Into}
use Rattle.sym_code.specs.declared.code.Into.TheVariants.{W}
use Rattle.sym_code.specs.declared.code.Label.{Label}
use Rattle.sym_code.specs.declared.code.Label.TheVariants.{Inner}
use Rattle.sym_code.specs.declared.code.Literal.TheVariants.{Number}
use Rattle.sym_code.specs.declared.code.LiteralOperation.TheVariants.{Movlw}
use Rattle.sym_code.specs.declared.code.Operand.TheVariants as operand
use Rattle.sym_code.specs.declared.code.PlainOperation.TheVariants.{Clrw}
use Rattle.sym_code.specs.declared.code.Register.TheVariants.{Status}
use Rattle.sym_code.specs.declared.code.Sym.{Sym}
use Rattle.sym_code.specs.declared.code.Sym.TheVariants as sym
use Rattle.sym_code.specs.declared.code.Target.TheVariants as target
use Rattle.select_code.specs.declared.pieces.Flag.{Flag}
use Rattle.select_code.specs.declared.pieces.Flag.TheVariants.{Carry, Zero, Irp}

-- the byte so many offsets behind another one
abbrev pub byte_behind : Byte → ℕ → Byte
byte_behind (Static object offset) k = Static object (min (offset + k) 65535)
byte_behind (Frame copy offset) k = Frame copy (min (offset + k) 65535)
byte_behind (Result root n) k = Result root (min (n + k) 255)
byte_behind (Device address) k = Device (min (address + k) 255)

abbrev pub file_code : FileOperation → Byte → Into → List Sym
file_code op byte into = sym.File op (operand.Byte byte) into ∷ []

abbrev pub store_code : Byte → List Sym
store_code to = sym.Movwf (operand.Byte to) ∷ []

abbrev pub clear_code : Byte → List Sym
clear_code to = sym.Clrf (operand.Byte to) ∷ []

abbrev pub number_code : ℕ → List Sym
number_code value = sym.Literal Movlw (Number value) ∷ []

-- the number of a flag's bit in STATUS (Microchip data sheet DS39582)
abbrev pub flag_bit : Flag → ℕ
flag_bit Carry = 0
flag_bit Zero = 2
flag_bit Irp = 7

abbrev pub flag_code : BitOperation → Flag → List Sym
flag_code op flag = sym.Bit op (operand.Register Status) (flag_bit flag) ∷ []

abbrev pub bit_code : BitOperation → Byte → ℕ → List Sym
bit_code op byte bit = sym.Bit op (operand.Byte byte) bit ∷ []

-- bytes of frames and results, whose accesses are no events
abbrev pub is_clearable : Byte → Bool
is_clearable (Static object offset) = false
is_clearable (Frame copy offset) = true
is_clearable (Result root k) = true
is_clearable (Device address) = false

abbrev pub set_code : Byte → ℕ → List Sym
set_code to value = cond (nat_eq value 0 && is_clearable to) (clear_code to) (number_code value ++ store_code to)

abbrev pub copy_code : Byte → Byte → List Sym
copy_code to from = file_code Movf from W ++ store_code to

-- W becomes its union with each of so many bytes behind one
abbrev pub ors_code : Byte → ℕ → List Sym
ors_code first zero = []
ors_code first (suc k) = ors_code first k ++ file_code Iorwf (byte_behind first (suc k)) W

-- Z becomes 1 where so many bytes are all 0
abbrev pub test_code : Byte → ℕ → List Sym
test_code test zero = sym.Plain Clrw ∷ []
test_code test (suc k) = file_code Movf test W ++ ors_code test k

-- the labels of the construct that begins behind so many instructions
abbrev pub first_label : ℕ → Label
first_label at = Inner (2 * at)

abbrev pub second_label : ℕ → Label
second_label at = Inner (2 * at + 1)

abbrev pub label_code : Label → List Sym
label_code label = sym.Label label ∷ []

abbrev pub goto_code : Label → List Sym
goto_code label = sym.Goto (target.Label label) ∷ []

-- a jump where Z is 1
abbrev pub jump_code : Label → List Sym
jump_code label = flag_code Btfsc Zero ++ goto_code label

-- a jump where Z is 0
abbrev pub unless_code : Label → List Sym
unless_code label = flag_code Btfss Zero ++ goto_code label

abbrev pub bit_read_code : Byte → ℕ → ℕ → List Sym
bit_read_code to register bit = number_code 0 ++ bit_code Btfsc (Device register) (bit % 8) ++ number_code 1 ++ store_code to

-- one of two instructions runs, by the lowest bit of the byte
abbrev pub bit_write_code : ℕ → ℕ → ℕ → Byte → List Sym
bit_write_code at register bit from = bit_code Btfss from 0 ++ goto_code (second_label at) ++ bit_code Bsf (Device register) (bit % 8) ++ goto_code (first_label at) ++ label_code (second_label at) ++ bit_code Bcf (Device register) (bit % 8) ++ label_code (first_label at)
