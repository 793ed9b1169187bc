-- Sums, differences and bit operations, byte by byte from the lowest.
use Rattle.std.specs.Prelude.{ℕ, nat_eq, if◌then◌else◌, List, ◌++◌}
use Rattle.core_code.specs.Bytes.{same_byte}
use Rattle.core_code.specs.declared.code.Byte.{Byte}
use Rattle.sym_code.specs.declared.code.BitOperation.{BitOperation}
use Rattle.sym_code.specs.declared.code.BitOperation.TheVariants.{Btfsc, Btfss}
use Rattle.sym_code.specs.declared.code.FileOperation.{FileOperation}
use Rattle.sym_code.specs.declared.code.FileOperation.TheVariants.{Addwf, Incfsz, Movf, Subwf}
use Rattle.sym_code.specs.declared.code.Into.{Into}
use Rattle.sym_code.specs.declared.code.Into.TheVariants.{W, File}
use Rattle.sym_code.specs.declared.code.Sym.{Sym}
use Rattle.select_code.specs.declared.pieces.Flag.TheVariants.{Carry}
use Rattle.select_code.specs.Pieces.{byte_behind, file_code, store_code, flag_code, copy_code}
use Rattle.select_wide.specs.Pieces.{rising, pair_code}
use Rattle.select_wide.specs.declared.operands.Chain.{Chain}
use Rattle.select_wide.specs.declared.operands.Chain.TheVariants.{Sum, Difference}

abbrev pub chain_operation : Chain → FileOperation
chain_operation Sum = Addwf
chain_operation Difference = Subwf

-- A sum has carried where C is 1, a difference has borrowed where C is 0.
abbrev pub unless_carried : Chain → BitOperation
unless_carried Sum = Btfsc
unless_carried Difference = Btfss

-- one more byte, with the carry that is added to the right one
abbrev pub further_code : Chain → Byte → Byte → Into → List Sym
further_code chain left right into = file_code Movf right W ++ flag_code (unless_carried chain) Carry ++ file_code Incfsz right W ++ file_code (chain_operation chain) left into

-- byte k where the bytes go to W or take the left operand's place
abbrev pub link_code : Chain → Byte → Byte → Into → ℕ → List Sym
link_code chain left right into k = if nat_eq k 0 then pair_code (chain_operation chain) left right into else further_code chain (byte_behind left k) (byte_behind right k) into

-- byte k where they take another place
abbrev pub apart_code : Chain → Byte → Byte → Byte → ℕ → List Sym
apart_code chain to left right k = if nat_eq k 0 then pair_code (chain_operation chain) left right W ++ store_code to else copy_code (byte_behind to k) (byte_behind left k) ++ further_code chain (byte_behind to k) (byte_behind right k) File

abbrev pub chain_byte_code : Chain → Byte → Byte → Byte → ℕ → List Sym
chain_byte_code chain to left right k = if same_byte to left then link_code chain left right File k else apart_code chain to left right k

abbrev pub chain_code : Chain → Byte → Byte → Byte → ℕ → List Sym
chain_code chain to left right width = rising (chain_byte_code chain to left right) width

-- a sum, whose operands may change places
abbrev pub sum_code : Byte → Byte → Byte → ℕ → List Sym
sum_code to left right width = if same_byte to right then chain_code Sum to right left width else chain_code Sum to left right width

abbrev pub bits_byte_code : FileOperation → Byte → Byte → Byte → List Sym
bits_byte_code op to left right = if same_byte to left then pair_code op left right File else pair_code op left right W ++ store_code to

abbrev pub bits_at_code : FileOperation → Byte → Byte → Byte → ℕ → List Sym
bits_at_code op to left right k = bits_byte_code op (byte_behind to k) (byte_behind left k) (byte_behind right k)

-- a bit operation, each byte by itself
abbrev pub bits_code : FileOperation → Byte → Byte → Byte → ℕ → List Sym
bits_code op to left right width = rising (bits_at_code op to left right) width
