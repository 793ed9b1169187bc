-- Instructions by their form, and the few that operations share.
use Rattle.std.specs.Prelude.{ℕ, zero, suc, List, [], ◌∷◌, ◌++◌}
use Rattle.core_code.specs.declared.code.Byte.{Byte}
use Rattle.sym_code.specs.declared.code.BitOperation.{BitOperation}
use Rattle.sym_code.specs.declared.code.BitOperation.TheVariants.{Btfsc}
use Rattle.sym_code.specs.declared.code.FileOperation.{FileOperation}
use Rattle.sym_code.specs.declared.code.FileOperation.TheVariants.{Movf}
use Rattle.sym_code.specs.declared.code.Into.{Into}
use Rattle.sym_code.specs.declared.code.Into.TheVariants.{W}
use Rattle.sym_code.specs.declared.code.Literal.{Literal}
use Rattle.sym_code.specs.declared.code.Literal.TheVariants.{Number}
use Rattle.sym_code.specs.declared.code.LiteralOperation.{LiteralOperation}
use Rattle.sym_code.specs.declared.code.LiteralOperation.TheVariants.{Addlw}
use Rattle.sym_code.specs.declared.code.Operand.TheVariants as operand
use Rattle.sym_code.specs.declared.code.Register.{Register}
use Rattle.sym_code.specs.declared.code.Sym.{Sym}
use Rattle.sym_code.specs.declared.code.Sym.TheVariants as sym
use Rattle.select_code.specs.declared.pieces.Flag.{Flag}
use Rattle.select_code.specs.Pieces.{byte_behind, file_code, store_code, number_code, flag_code, bit_code, set_code}

-- the code of so many bytes, from the lowest on
abbrev pub rising : (ℕ → List Sym) → ℕ → List Sym
rising code zero = []
rising code (suc k) = rising code k ++ code k

abbrev pub register_code : FileOperation → Register → Into → List Sym
register_code op register into = sym.File op (operand.Register register) into ∷ []

abbrev pub register_store_code : Register → List Sym
register_store_code register = sym.Movwf (operand.Register register) ∷ []

abbrev pub literal_code : LiteralOperation → Literal → List Sym
literal_code op value = sym.Literal op value ∷ []

-- C becomes 1 where W isn't 0, and 0 where it is: W + 255 comes to 256 from 1 on
abbrev pub nonzero_code : List Sym
nonzero_code = literal_code Addlw (Number 255)

-- the next instruction counts where the bit is 1
abbrev pub if_bit_code : Byte → ℕ → List Sym
if_bit_code byte bit = bit_code Btfsc byte bit

abbrev pub pair_code : FileOperation → Byte → Byte → Into → List Sym
pair_code op left right into = file_code Movf right W ++ file_code op left into

-- W becomes one number, and another one where the test of the flag skips nothing
abbrev pub choice_code : ℕ → BitOperation → Flag → ℕ → List Sym
choice_code usual test flag other = number_code usual ++ flag_code test flag ++ number_code other

-- two bytes become the number in W
abbrev pub truth_code : Byte → List Sym
truth_code to = store_code to ++ set_code (byte_behind to 1) 0

-- W becomes FFh where the highest bit is 1, and 0 otherwise
abbrev pub sign_code : Byte → List Sym
sign_code top = number_code 0 ++ if_bit_code top 7 ++ number_code 255
