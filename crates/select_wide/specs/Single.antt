-- Operators on one value, and conversions to wider types (ISO/IEC 9899:1990, 6.2.1 and 6.3.3.3).
use Rattle.std.specs.Prelude.{ℕ, nat_eq, ◌-◌, Bool, true, false, if◌then◌else◌, List, [], ◌++◌}
use Rattle.c_ints.specs.declared.operators.UnOp.{UnOp}
use Rattle.c_ints.specs.declared.operators.UnOp.TheVariants as unop
use Rattle.c_ints.specs.declared.types.IntTy.{IntTy}
use Rattle.c_ints.specs.declared.types.IntTy.TheVariants as int
use Rattle.c_ints.specs.Range.{bytes_of}
use Rattle.core_code.specs.declared.code.Byte.{Byte}
use Rattle.sym_code.specs.declared.code.BitOperation.TheVariants.{Btfsc, Btfss}
use Rattle.sym_code.specs.declared.code.FileOperation.TheVariants.{Comf, Incf}
use Rattle.sym_code.specs.declared.code.Into.TheVariants.{File}
use Rattle.sym_code.specs.declared.code.Sym.{Sym}
use Rattle.select_code.specs.declared.pieces.Flag.TheVariants.{Carry, Zero}
use Rattle.select_code.specs.Pieces.{byte_behind, file_code, flag_code, test_code}
use Rattle.select_wide.specs.Pieces.{rising, nonzero_code, choice_code, truth_code, sign_code}
use Rattle.select_wide.specs.Moves.{stores_code, clears_code}

-- the types that have negative numbers; plain char has none
abbrev pub is_signed : IntTy → Bool
is_signed int.Char = false
is_signed int.SChar = true
is_signed int.UChar = false
is_signed int.Short = true
is_signed int.UShort = false
is_signed int.Int = true
is_signed int.UInt = false
is_signed int.Long = true
is_signed int.ULong = false

abbrev pub complement_code : Byte → ℕ → List Sym
complement_code at width = rising (λ k. file_code Comf (byte_behind at k) File) width

-- a byte counts up by one where the bytes before have all come to 0
abbrev pub increment_byte_code : Byte → ℕ → List Sym
increment_byte_code at k = (if nat_eq k 0 then [] else flag_code Btfsc Zero) ++ file_code Incf (byte_behind at k) File

abbrev pub increment_code : Byte → ℕ → List Sym
increment_code at width = rising (increment_byte_code at) width

-- Two bytes become 1 where all bytes are 0, and 0 otherwise. The choice is by C, as Z isn't needed behind the test.
abbrev pub bang_code : Byte → ℕ → List Sym
bang_code at width = test_code at width ++ nonzero_code ++ choice_code 0 Btfss Carry 1 ++ truth_code at

abbrev pub unary_code : UnOp → IntTy → Byte → List Sym
unary_code unop.Plus ty at = []
unary_code unop.Minus ty at = complement_code at (bytes_of ty) ++ increment_code at (bytes_of ty)
unary_code unop.Not ty at = complement_code at (bytes_of ty)
unary_code unop.Bang ty at = bang_code at (bytes_of ty)

-- the bytes that a wider type has more become 0, or copies of the sign
abbrev pub widening_code : IntTy → IntTy → Byte → List Sym
widening_code from to at = if is_signed from then sign_code (byte_behind at (bytes_of from - 1)) ++ stores_code (byte_behind at (bytes_of from)) (bytes_of to - bytes_of from) else clears_code (byte_behind at (bytes_of from)) (bytes_of to - bytes_of from)
