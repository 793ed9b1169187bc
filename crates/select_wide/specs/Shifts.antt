-- Shifts by a constant: first whole bytes, then bit by bit what is left (ISO/IEC 9899:1990, 6.3.7).
use Rattle.std.specs.Prelude.{ℕ, nat_eq, ltb, ◌-◌, ◌/◌, ◌%◌, Bool, true, false, if◌then◌else◌, List, [], ◌++◌}
use Rattle.core_code.specs.declared.code.Byte.{Byte}
use Rattle.sym_code.specs.declared.code.BitOperation.TheVariants.{Bcf}
use Rattle.sym_code.specs.declared.code.FileOperation.TheVariants.{Rlf, Rrf}
use Rattle.sym_code.specs.declared.code.Into.TheVariants.{W, File}
use Rattle.sym_code.specs.declared.code.Sym.{Sym}
use Rattle.select_code.specs.declared.pieces.Flag.TheVariants.{Carry}
use Rattle.select_code.specs.Pieces.{byte_behind, file_code, flag_code, copy_code}
use Rattle.select_wide.specs.Pieces.{rising, sign_code}
use Rattle.core_code.specs.Bytes.{same_byte}
use Rattle.select_wide.specs.Moves.{copies_code, stores_code, clears_code}
use Rattle.select_wide.specs.declared.operands.Way.{Way}
use Rattle.select_wide.specs.declared.operands.Way.TheVariants.{Left, Right, SignedRight}

abbrev pub raised_code : Byte → ℕ → ℕ → List Sym
raised_code at width bytes = rising (λ k. copy_code (byte_behind at (width - 1 - k)) (byte_behind at (width - 1 - k - bytes))) (width - bytes)

-- bytes go up by whole bytes, the highest first, and zeros come in
abbrev pub bytes_up_code : Byte → ℕ → ℕ → List Sym
bytes_up_code at width bytes = raised_code at width bytes ++ clears_code at bytes

-- bytes go down by whole bytes, the lowest first, and zeros or copies of the sign come in
abbrev pub bytes_down_code : Bool → Byte → ℕ → ℕ → List Sym
bytes_down_code signed at width bytes = copies_code at (byte_behind at bytes) (width - bytes) ++ (if signed then sign_code (byte_behind at (width - bytes - 1)) ++ stores_code (byte_behind at (width - bytes)) bytes else clears_code (byte_behind at (width - bytes)) bytes)

abbrev pub bytes_way_code : Way → Byte → ℕ → ℕ → List Sym
bytes_way_code Left at width bytes = bytes_up_code at width bytes
bytes_way_code Right at width bytes = bytes_down_code false at width bytes
bytes_way_code SignedRight at width bytes = bytes_down_code true at width bytes

abbrev pub bytes_code : Way → Byte → ℕ → ℕ → List Sym
bytes_code way at width bytes = if nat_eq bytes 0 then [] else bytes_way_code way at width bytes

-- so many bytes, from the lowest on, take a bit from C and give one to it
abbrev pub bit_up_code : Byte → ℕ → List Sym
bit_up_code at count = rising (λ k. file_code Rlf (byte_behind at k) File) count

-- the same from the highest on
abbrev pub bit_down_code : Byte → ℕ → List Sym
bit_down_code at count = rising (λ k. file_code Rrf (byte_behind at (count - 1 - k)) File) count

-- one bit further; the bytes that the shift by whole bytes has filled stay as they are
abbrev pub bit_shift_code : Way → Byte → ℕ → ℕ → List Sym
bit_shift_code Left at width bytes = flag_code Bcf Carry ++ bit_up_code (byte_behind at bytes) (width - bytes)
bit_shift_code Right at width bytes = flag_code Bcf Carry ++ bit_down_code at (width - bytes)
bit_shift_code SignedRight at width bytes = file_code Rlf (byte_behind at (width - bytes - 1)) W ++ bit_down_code at (width - bytes)

abbrev pub bit_shifts_code : Way → Byte → ℕ → ℕ → ℕ → List Sym
bit_shifts_code way at width bytes count = rising (λ k. bit_shift_code way at width bytes) count

abbrev pub in_place_code : Way → Byte → ℕ → ℕ → List Sym
in_place_code way at width count = bytes_code way at width (count / 8) ++ bit_shifts_code way at width (count / 8) (count % 8)

-- the value goes to where the left operand isn't already
abbrev pub moved_code : Byte → Byte → ℕ → List Sym
moved_code to left width = if same_byte to left then [] else copies_code to left width

-- a shift by a constant; one by the width or more leaves the left operand's value
abbrev pub shift_code : Way → Byte → Byte → ℕ → ℕ → List Sym
shift_code way to left width count = moved_code to left width ++ (if ltb (count / 8) width then in_place_code way to width count else [])
