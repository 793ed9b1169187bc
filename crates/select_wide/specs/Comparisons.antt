-- Comparisons, which give two bytes: 1 where they hold, and 0 otherwise (ISO/IEC 9899:1990, 6.3.8 and 6.3.9).
use Rattle.std.specs.Prelude.{ℕ, nat_eq, ◌-◌, Bool, if◌then◌else◌, List, [], ◌++◌}
use Rattle.core_code.specs.declared.code.Byte.{Byte}
use Rattle.sym_code.specs.declared.code.BitOperation.TheVariants.{Btfsc, Btfss}
use Rattle.sym_code.specs.declared.code.FileOperation.TheVariants.{Iorwf, Xorwf}
use Rattle.sym_code.specs.declared.code.Into.TheVariants.{W, File}
use Rattle.sym_code.specs.declared.code.Literal.TheVariants.{Number}
use Rattle.sym_code.specs.declared.code.LiteralOperation.TheVariants.{Xorlw}
use Rattle.sym_code.specs.declared.code.Sym.{Sym}
use Rattle.select_code.specs.declared.pieces.Flag.TheVariants.{Carry, Zero}
use Rattle.select_code.specs.Pieces.{byte_behind, file_code, store_code}
use Rattle.select_wide.specs.Pieces.{rising, literal_code, if_bit_code, pair_code, choice_code, truth_code}
use Rattle.select_wide.specs.Sums.{link_code}
use Rattle.select_wide.specs.declared.operands.Chain.TheVariants.{Difference}

-- the bits in which the bytes k differ, together with those before
abbrev pub difference_bits_code : Byte → Byte → Byte → ℕ → List Sym
difference_bits_code to left right k = pair_code Xorwf (byte_behind left k) (byte_behind right k) W ++ (if nat_eq k 0 then store_code to else file_code Iorwf to File)

abbrev pub differences_code : Byte → Byte → Byte → ℕ → List Sym
differences_code to left right width = rising (difference_bits_code to left right) width

-- whether the operands are equal, or where `usual` is 1, whether they differ
abbrev pub equality_code : ℕ → Byte → Byte → Byte → ℕ → List Sym
equality_code usual to left right width = differences_code to left right width ++ choice_code usual Btfsc Zero (1 - usual) ++ truth_code to

-- the answer in W is turned round where the highest bit is 1
abbrev pub turn_code : Byte → List Sym
turn_code top = if_bit_code top 7 ++ literal_code Xorlw (Number 1)

abbrev pub signs_code : Bool → Byte → Byte → List Sym
signs_code signed left right = if signed then turn_code left ++ turn_code right else []

-- the carries of a difference, whose bytes go nowhere
abbrev pub links_code : Byte → Byte → ℕ → List Sym
links_code left right width = rising (link_code Difference left right W) width

-- whether the left operand is below the right one, or where `usual` is 1, whether it is not
abbrev pub order_code : Bool → ℕ → Byte → Byte → Byte → ℕ → List Sym
order_code signed usual to left right width = links_code left right width ++ choice_code usual Btfss Carry (1 - usual) ++ signs_code signed (byte_behind left (width - 1)) (byte_behind right (width - 1)) ++ truth_code to
