-- What operations make of numbers that are known, and which way skips go by them.
use Rattle.std.specs.Prelude.{ℕ, Bool, false, ◌||◌, nat_eq, nat_lt, if◌then◌else◌, Option, Some, None, option_map, bit_and, bit_or, bit_xor}
use Rattle.pic_chip.specs.Instructions.{sum, difference, complement, increment, decrement}
use Rattle.pic_world.specs.Bits.{bit}
use Rattle.sym_code.specs.declared.code.BitOperation.{BitOperation}
use Rattle.sym_code.specs.declared.code.BitOperation.TheVariants.{Btfsc, Btfss}
use Rattle.sym_code.specs.declared.code.FileOperation.{FileOperation}
use Rattle.sym_code.specs.declared.code.FileOperation.TheVariants as files
use Rattle.sym_code.specs.declared.code.LiteralOperation.{LiteralOperation}
use Rattle.sym_code.specs.declared.code.LiteralOperation.TheVariants as literals

-- ---- results
abbrev pub both : (ℕ → ℕ → ℕ) → Option ℕ → Option ℕ → Option ℕ
both g None byte = None
both g (Some w) None = None
both g (Some w) (Some byte) = Some (g w byte)

abbrev pub is_none_left : Option ℕ → Bool
is_none_left None = false
is_none_left (Some n) = nat_eq n 0

-- one side that is 0 is enough
abbrev pub masked : Option ℕ → Option ℕ → Option ℕ
masked w byte = if is_none_left w || is_none_left byte then Some 0 else both bit_and w byte

-- The result, of what is known of W and of the byte.
abbrev pub computed : FileOperation → Option ℕ → Option ℕ → Option ℕ
computed files.Addwf w byte = both sum w byte
computed files.Andwf w byte = masked w byte
computed files.Comf w byte = option_map complement byte
computed files.Decf w byte = option_map decrement byte
computed files.Decfsz w byte = option_map decrement byte
computed files.Incf w byte = option_map increment byte
computed files.Incfsz w byte = option_map increment byte
computed files.Iorwf w byte = both bit_or w byte
computed files.Movf w byte = byte
computed files.Subwf w byte = both difference w byte
computed files.Xorwf w byte = both bit_xor w byte
computed op w byte = None

-- the operation on W and a byte that does what one on W and a number does
abbrev pub file_for : LiteralOperation → Option FileOperation
file_for literals.Addlw = Some files.Addwf
file_for literals.Andlw = Some files.Andwf
file_for literals.Iorlw = Some files.Iorwf
file_for literals.Sublw = Some files.Subwf
file_for literals.Xorlw = Some files.Xorwf
file_for op = None

-- ---- ways
-- whether an operation skips, as far as its byte is known
abbrev pub way_of : FileOperation → Option ℕ → Option Bool
way_of files.Decfsz byte = option_map (λ n. nat_eq (decrement n) 0) byte
way_of files.Incfsz byte = option_map (λ n. nat_eq (increment n) 0) byte
way_of op byte = Some false

-- so of a test of a bit, which is this where the test skips
abbrev pub way_of_test : ℕ → Option ℕ → ℕ → Option Bool
way_of_test value byte b = if nat_lt b 8 then option_map (λ n. nat_eq (bit n b) value) byte else None

abbrev pub way_of_bit : BitOperation → Option ℕ → ℕ → Option Bool
way_of_bit Btfsc byte b = way_of_test 0 byte b
way_of_bit Btfss byte b = way_of_test 1 byte b
way_of_bit op byte b = Some false
