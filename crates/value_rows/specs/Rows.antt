-- What the rows of the instruction table make, as terms: w, z, dc and c are the terms of W and of the flags before, and t that of the byte
-- that the row reads, or of its literal (DS39582, instruction set summary).
use Rattle.std.specs.Prelude.{ℕ, ◌-◌, ◌^◌, Bool, true, false, if◌then◌else◌}
use Rattle.sym_code.specs.declared.code.FileOperation.{FileOperation}
use Rattle.sym_code.specs.declared.code.FileOperation.TheVariants.{Addwf, Andwf, Comf, Decf, Decfsz, Incf, Incfsz, Iorwf, Movf, Rlf, Rrf, Subwf, Swapf, Xorwf}
use Rattle.sym_code.specs.declared.code.LiteralOperation.{LiteralOperation}
use Rattle.sym_code.specs.declared.code.LiteralOperation.TheVariants.{Addlw, Andlw, Iorlw, Movlw, Retlw, Sublw, Xorlw}
use Rattle.value_terms.specs.Terms.{Term, Num}
use Rattle.value_terms.specs.Sums.{sum_of, opposite}
use Rattle.value_terms.specs.Bits.{bit, quotient, same}
use Rattle.value_terms.specs.Masks.{mask, union, exclusive}
use Rattle.value_terms.specs.Carries.{carry}

-- the result, of a byte or W
abbrev pub result_term : FileOperation → Term → Term → Term → Term
result_term Addwf w c t = sum_of 1 t w
result_term Andwf w c t = mask w t
result_term Comf w c t = opposite t
result_term Decf w c t = sum_of 1 (Num 255) t
result_term Decfsz w c t = sum_of 1 (Num 255) t
result_term Incf w c t = sum_of 1 (Num 1) t
result_term Incfsz w c t = sum_of 1 (Num 1) t
result_term Iorwf w c t = union w t
result_term Movf w c t = t
result_term Rlf w c t = sum_of 2 t c
result_term Rrf w c t = sum_of 128 c (quotient 2 t)
result_term Subwf w c t = sum_of 255 w t
result_term Swapf w c t = sum_of 16 t (quotient 16 t)
result_term Xorwf w c t = exclusive w t

-- Z, where the row sets it: the result is 0
abbrev pub sets_zero : FileOperation → Bool
sets_zero Decfsz = false
sets_zero Incfsz = false
sets_zero Rlf = false
sets_zero Rrf = false
sets_zero Swapf = false
sets_zero _ = true

abbrev pub zero_term : FileOperation → Term → Term → Term
zero_term op z result = if sets_zero op then same result (Num 0) else z

-- the low four bits, in the place of the high ones
unfoldable pub raised : Term → Term
raised t = sum_of 16 t (Num 0)

-- DC, the carry out of bit 3: where W is subtracted, 1 if nothing is borrowed
abbrev pub digit_term : FileOperation → Term → Term → Term → Term
digit_term Addwf w dc t = carry (raised t) (raised w) (Num 0)
digit_term Subwf w dc t = carry (raised t) (raised (opposite w)) (Num 16)
digit_term _ w dc t = dc

-- C, the carry out of bit 7, or the bit that a rotation moves out
abbrev pub carry_term : FileOperation → Term → Term → Term → Term
carry_term Addwf w c t = carry t w (Num 0)
carry_term Subwf w c t = carry t (opposite w) (Num 1)
carry_term Rlf w c t = bit 128 t
carry_term Rrf w c t = bit 1 t
carry_term _ w c t = c

-- 1 where the next word is skipped
abbrev pub skip_term : FileOperation → Term → Term
skip_term Decfsz result = same result (Num 0)
skip_term Incfsz result = same result (Num 0)
skip_term _ result = Num 0

-- ---- rows on W and a literal
-- the row that does the same with a byte; MOVLW and RETLW take the literal, and set no flag
abbrev pub same_row : LiteralOperation → FileOperation
same_row Addlw = Addwf
same_row Andlw = Andwf
same_row Iorlw = Iorwf
same_row Movlw = Swapf
same_row Retlw = Swapf
same_row Sublw = Subwf
same_row Xorlw = Xorwf

abbrev pub takes_literal : LiteralOperation → Bool
takes_literal Movlw = true
takes_literal Retlw = true
takes_literal _ = false

abbrev pub literal_result : LiteralOperation → Term → Term → Term
literal_result op w t = if takes_literal op then t else result_term (same_row op) w (Num 0) t

-- ---- one bit of a byte
abbrev pub bit_term : ℕ → Term → Term
bit_term b t = bit (2 ^ b) t

abbrev pub cleared : ℕ → Term → Term
cleared b t = sum_of (256 - 2 ^ b) (bit_term b t) t

abbrev pub set : ℕ → Term → Term
set b t = sum_of (256 - 2 ^ b) (bit_term b t) (sum_of 1 t (Num (2 ^ b)))
