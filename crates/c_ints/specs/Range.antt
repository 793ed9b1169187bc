-- The integer types of C and the numbers that each holds (ISO/IEC 9899:1990, 6.1.2.5; the sizes
-- and the sign of plain char as in the HI-TECH PICC manual).
use Rattle.std.specs.Prelude.{ℕ, ◌*◌, ◌^◌, ℤ, pos, negsuc, ◌+ℤ◌, ◌-ℤ◌, ◌≤ℤ◌, unsigned_abs}
use Rattle.std.specs.Int.{int_rem_euclid}
use Rattle.c_ints.specs.declared.types.IntTy.{IntTy}
use Rattle.c_ints.specs.declared.types.IntTy.TheVariants.{Char, SChar, UChar, Short, UShort, Int, UInt, Long, ULong}

-- how many bytes a value of the type has
abbrev pub bytes_of : IntTy → ℕ
bytes_of Char = 1
bytes_of SChar = 1
bytes_of UChar = 1
bytes_of Short = 2
bytes_of UShort = 2
bytes_of Int = 2
bytes_of UInt = 2
bytes_of Long = 4
bytes_of ULong = 4

-- how many bits
abbrev pub width : IntTy → ℕ
width ty = 8 * bytes_of ty

-- how many numbers the type holds
abbrev pub span : IntTy → ℕ
span ty = 2 ^ width ty

-- the least of them; plain char is unsigned
abbrev pub least : IntTy → ℤ
least Char = pos 0
least SChar = negsuc 0x7f
least UChar = pos 0
least Short = negsuc 0x7fff
least UShort = pos 0
least Int = negsuc 0x7fff
least UInt = pos 0
least Long = negsuc 0x7fff_ffff
least ULong = pos 0

-- the greatest of them
abbrev pub greatest : IntTy → ℤ
greatest ty = least ty +ℤ pos (span ty) -ℤ pos 1

-- the type holds z
abbrev pub IsInRange : IntTy → ℤ → Type 0
IsInRange ty z = (least ty ≤ℤ z) × (z ≤ℤ greatest ty)

-- z cut to the width of the type: the number of its range that differs from z by a multiple of
-- its span
abbrev pub cut : IntTy → ℤ → ℤ
cut ty z = least ty +ℤ int_rem_euclid (z -ℤ least ty) (pos (span ty))

-- the bits of z in the type, as a number: two's complement
abbrev pub pattern : IntTy → ℤ → ℕ
pattern ty z = unsigned_abs (int_rem_euclid z (pos (span ty)))
