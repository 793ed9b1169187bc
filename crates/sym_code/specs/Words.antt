-- How many words symbolic code becomes: an instruction one (Microchip data sheet DS39582, instruction set summary), a label none;
-- and how many at most with the selects that it may need.
use Rattle.std.specs.Prelude.{ℕ, nat_eq, Bool, true, false, ◌||◌, List, if◌then◌else◌}
use Rattle.std.specs.List.{sum_by}
use Rattle.core_code.specs.declared.code.Byte.{Byte}
use Rattle.core_code.specs.declared.code.Byte.TheVariants as bytes
use Rattle.sym_code.specs.declared.code.Sym.{Sym}
use Rattle.sym_code.specs.declared.code.Sym.TheVariants.{Label, SelectBank, SelectPage, File, Movwf, Clrf, Bit, Literal, Plain, Call, Goto, Table}
use Rattle.sym_code.specs.declared.code.Operand.{Operand}
use Rattle.sym_code.specs.declared.code.Operand.TheVariants as operands

-- the byte is in every bank: a result, INTCON, or a register of the core by its lowest address
abbrev pub is_common : Byte → Bool
is_common (bytes.Static object offset) = false
is_common (bytes.Frame copy offset) = false
is_common (bytes.Result r k) = true
is_common (bytes.Device address) = nat_eq address 0x02 || nat_eq address 0x03 || nat_eq address 0x04 || nat_eq address 0x0a || nat_eq address 0x0b

abbrev pub words_of_one : Sym → ℕ
words_of_one (Label label) = 0
words_of_one _ = 1

abbrev pub words_in : List Sym → ℕ
words_in list = sum_by words_of_one list

-- A file operand that isn't in every bank may need the two selects of its bank before it.
abbrev pub most_of_operand : Operand → ℕ
most_of_operand (operands.Byte byte) = if is_common byte then 1 else 3
most_of_operand (operands.Register register) = 1
most_of_operand (operands.Saved saved) = 1

-- How many words an instruction may become with the selects that it may need: a jump, a call or a
-- read of a table may need the two selects of its page.
abbrev pub most_of_one : Sym → ℕ
most_of_one (Label label) = 0
most_of_one (SelectBank bit on) = 1
most_of_one (SelectPage bit target) = 1
most_of_one (File op file into) = most_of_operand file
most_of_one (Movwf file) = most_of_operand file
most_of_one (Clrf file) = most_of_operand file
most_of_one (Bit op file bit) = most_of_operand file
most_of_one (Literal op value) = 1
most_of_one (Plain op) = 1
most_of_one (Call target) = 3
most_of_one (Goto target) = 3
most_of_one (Table table root) = 3

abbrev pub most_words : List Sym → ℕ
most_words list = sum_by most_of_one list
