-- Each row, by the laws of terms.
use Rattle.std.proofs.Common.{◌≡◌, ℕ, ◌+◌, ◌-◌, ◌*◌, ◌/◌, ◌%◌, ◌^◌, ◌≤◌, Bool, true, false, refl, sym, ap, ◌∙◌, arith}
use Rattle.std.specs.Prelude.{nat_eq, nat_le, if◌then◌else◌, bit_and, bit_or, bit_xor}
use Rattle.std.proofs.lemmas.Bool.{leb-true, leb-false}
use Rattle.std.proofs.lemmas.Nat.{and_comm, or_comm, xor_comm}
use Rattle.std.proofs.Math.Dec.{leb}
use Rattle.std.proofs.lemmas.Option.{same_Some}
use Rattle.pic_world.specs.Bits.{truth}
use Rattle.pic_world.specs.Bits as number
use Rattle.sym_code.specs.Registers.{Registers, Fits, result_with, flags_with, skips_with, literal_row, after_row}
use Rattle.sym_code.specs.declared.code.FileOperation.{FileOperation}
use Rattle.sym_code.specs.declared.code.FileOperation.TheVariants.{Addwf, Andwf, Comf, Decf, Decfsz, Incf, Incfsz, Iorwf, Movf, Rlf, Rrf, Subwf, Swapf, Xorwf}
use Rattle.sym_code.specs.declared.code.LiteralOperation.{LiteralOperation}
use Rattle.sym_code.specs.declared.code.LiteralOperation.TheVariants.{Addlw, Andlw, Iorlw, Movlw, Retlw, Sublw, Xorlw}
use Rattle.value_terms.specs.Terms.{Term, Num, Environment, value}
use Rattle.value_terms.specs.Sums.{sum_of, opposite}
use Rattle.value_terms.specs.Bits.{quotient, same}
use Rattle.value_terms.specs.Masks.{mask, union, exclusive}
use Rattle.value_terms.specs.Carries.{carry}
use Rattle.value_terms.proofs.Numbers.{at_each}
use Rattle.value_terms.proofs.SumLaws.{small, sum_law, opposite_law}
use Rattle.value_terms.proofs.BitLaws.{bit_law, quotient_law, same_law}
use Rattle.value_terms.proofs.CarryLaws.{carry_law}
use Rattle.value_terms.proofs.Whole.{masks, unions, exclusives}
use Rattle.value_rows.specs.Rows.{result_term, zero_term, raised, digit_term, carry_term, skip_term, same_row, literal_result, bit_term}
use Rattle.value_rows.specs.Laws.{Has, Results, Flags, Skips, Literals, Clears, BitsTested, BitsCleared, BitsSet, HasTables, TableReads}

-- ---- numbers
-- two comparisons that say the same
le_eq : (a b c d : ℕ) → (a ≤ b → c ≤ d) → (c ≤ d → a ≤ b) → truth (nat_le a b) ≡ truth (nat_le c d)
le_eq a b c d f g = by (leb a b) (leb c d) refl refl
  where
    by : (x y : Bool) → leb a b ≡ x → leb c d ≡ y → truth x ≡ truth y
    by true true p q = refl
    by false false p q = refl
    by true false p q = let h = f (leb-true a b p) in let k = leb-false c d q in absurd (omega arith)
    by false true p q = let h = g (leb-true c d q) in let k = leb-false a b p in absurd (omega arith)

module _ (e : Environment) where
  raised_law : (t : Term) → value e (raised t) ≡ value e t % 16 * 16
  unfolding raised
  raised_law t = let a = sum_law e 16 t (Num 0) in let s = small e t in omega arith

  -- ---- results
  module _ (r : Registers) (w z dc c t : Term) (fits : Fits r) (has : Has e r w z dc c) where
    pub result_law : (op : FileOperation) → value e (result_term op w c t) ≡ result_with r op (value e t)
    unfolding result_with
    result_law Addwf = sum_law e 1 t w ∙ ap (λ (v : ℕ). (1 * value e t + v) % 256) has.in_w ∙ (let a : (1 * value e t + r.w) % 256 ≡ (value e t + r.w) % 256 = omega arith in a)
    result_law Andwf = masks e w t ∙ ap (λ (v : ℕ). bit_and v (value e t)) has.in_w
    result_law Comf = opposite_law e t
    result_law Decf = sum_law e 1 (Num 255) t ∙ (let a : (1 * (255 % 256) + value e t) % 256 ≡ (value e t + 255) % 256 = omega arith in a)
    result_law Decfsz = sum_law e 1 (Num 255) t ∙ (let a : (1 * (255 % 256) + value e t) % 256 ≡ (value e t + 255) % 256 = omega arith in a)
    result_law Incf = sum_law e 1 (Num 1) t ∙ (let a : (1 * (1 % 256) + value e t) % 256 ≡ (value e t + 1) % 256 = omega arith in a)
    result_law Incfsz = sum_law e 1 (Num 1) t ∙ (let a : (1 * (1 % 256) + value e t) % 256 ≡ (value e t + 1) % 256 = omega arith in a)
    result_law Iorwf = unions e w t ∙ ap (λ (v : ℕ). bit_or v (value e t)) has.in_w
    result_law Movf = refl
    result_law Rlf = sum_law e 2 t c ∙ ap (λ (v : ℕ). (2 * value e t + v) % 256) has.in_c
    result_law Rrf =
        let f = fits.flags.2 in let s = small e t in
        sum_law e 128 c (quotient 2 t) ∙ ap (λ (v : ℕ). (128 * value e c + v) % 256) (quotient_law e 2 t) ∙ ap (λ (v : ℕ). (128 * v + value e t / 2) % 256) has.in_c
        ∙ (let a : (128 * r.c + value e t / 2) % 256 ≡ 128 * r.c + value e t / 2 = omega arith in a)
    result_law Subwf =
        let l = fits.w in
        sum_law e 255 w t ∙ ap (λ (v : ℕ). (255 * v + value e t) % 256) has.in_w ∙ (let a : (255 * r.w + value e t) % 256 ≡ (value e t + 256 - r.w) % 256 = omega arith in a)
    result_law Swapf =
        let s = small e t in
        sum_law e 16 t (quotient 16 t) ∙ ap (λ (v : ℕ). (16 * value e t + v) % 256) (quotient_law e 16 t) ∙ (let a : (16 * value e t + value e t / 16) % 256 ≡ value e t % 16 * 16 + value e t / 16 = omega arith in a)
    result_law Xorwf = exclusives e w t ∙ ap (λ (v : ℕ). bit_xor v (value e t)) has.in_w

    -- ---- flags
    zero_law : (op : FileOperation) → value e (same (result_term op w c t) (Num 0)) ≡ truth (nat_eq (result_with r op (value e t)) 0)
    zero_law op = same_law e (result_term op w c t) (Num 0) ∙ ap (λ (v : ℕ). truth (nat_eq v 0)) (result_law op)

    add_carry : value e (carry t w (Num 0)) ≡ truth (nat_le 256 (value e t + r.w))
    add_carry = carry_law e t w (Num 0) ∙ ap (λ (v : ℕ). truth (nat_le 256 v)) (let h = has.in_w in let a : value e t + value e w + 0 % 256 ≡ value e t + r.w = omega arith in a)

    add_digit : value e (carry (raised t) (raised w) (Num 0)) ≡ truth (nat_le 16 (value e t % 16 + r.w % 16))
    add_digit =
        carry_law e (raised t) (raised w) (Num 0)
        ∙ le_eq 256 (value e (raised t) + value e (raised w) + 0 % 256) 16 (value e t % 16 + r.w % 16)
        (λ p. let a = raised_law t in let b = raised_law w in let h = has.in_w in omega arith)
        (λ p. let a = raised_law t in let b = raised_law w in let h = has.in_w in omega arith)

    subtract_carry : value e (carry t (opposite w) (Num 1)) ≡ truth (nat_le r.w (value e t))
    subtract_carry =
        carry_law e t (opposite w) (Num 1)
        ∙ le_eq 256 (value e t + value e (opposite w) + 1 % 256) r.w (value e t)
        (λ p. let a = opposite_law e w in let h = has.in_w in let l = fits.w in omega arith)
        (λ p. let a = opposite_law e w in let h = has.in_w in let l = fits.w in omega arith)

    subtract_digit : value e (carry (raised t) (raised (opposite w)) (Num 16)) ≡ truth (nat_le (r.w % 16) (value e t % 16))
    subtract_digit =
        carry_law e (raised t) (raised (opposite w)) (Num 16)
        ∙ le_eq 256 (value e (raised t) + value e (raised (opposite w)) + 16 % 256) (r.w % 16) (value e t % 16)
        (λ p. let a = raised_law t in let b = raised_law (opposite w) in let d = opposite_law e w in let h = has.in_w in let l = fits.w in omega arith)
        (λ p. let a = raised_law t in let b = raised_law (opposite w) in let d = opposite_law e w in let h = has.in_w in let l = fits.w in omega arith)

    -- the registers with these flags
    abbrev with_flags : ℕ → ℕ → ℕ → Registers
    with_flags x y v = record r { z = x; dc = y; c = v }

    flags_are : (x y v x' y' v' : ℕ) → x' ≡ x → y' ≡ y → v' ≡ v → with_flags x y v ≡ with_flags x' y' v'
    flags_are x y v x' y' v' h i j = ap (λ (n : ℕ). with_flags n y v) (sym h) ∙ ap (λ (n : ℕ). with_flags x' n v) (sym i) ∙ ap (λ (n : ℕ). with_flags x' y' n) (sym j)

    zero_only : (op : FileOperation) → with_flags (truth (nat_eq (result_with r op (value e t)) 0)) r.dc r.c ≡ with_flags (value e (same (result_term op w c t) (Num 0))) (value e dc) (value e c)
    zero_only op = flags_are _ _ _ _ _ _ (zero_law op) has.in_dc has.in_c

    kept : with_flags r.z r.dc r.c ≡ with_flags (value e z) (value e dc) (value e c)
    kept = flags_are _ _ _ _ _ _ has.in_z has.in_dc has.in_c

    pub flags_law : (op : FileOperation) → flags_with r op (value e t) ≡ with_flags (value e (zero_term op z (result_term op w c t))) (value e (digit_term op w dc t)) (value e (carry_term op w c t))
    unfolding flags_with result_with
    flags_law Addwf = flags_are _ _ _ _ _ _ (zero_law Addwf) add_digit add_carry
    flags_law Andwf = zero_only Andwf
    flags_law Comf = zero_only Comf
    flags_law Decf = zero_only Decf
    flags_law Decfsz = kept
    flags_law Incf = zero_only Incf
    flags_law Incfsz = kept
    flags_law Iorwf = zero_only Iorwf
    flags_law Movf = zero_only Movf
    flags_law Rlf = flags_are _ _ _ _ _ _ has.in_z has.in_dc (bit_law e 128 t)
    flags_law Rrf = flags_are _ _ _ _ _ _ has.in_z has.in_dc (bit_law e 1 t ∙ (let a : value e t / 1 % 2 ≡ value e t % 2 = omega arith in a))
    flags_law Subwf = flags_are _ _ _ _ _ _ (zero_law Subwf) subtract_digit subtract_carry
    flags_law Swapf = kept
    flags_law Xorwf = zero_only Xorwf

    -- ---- skips
    skipped : (b : Bool) → truth (nat_eq ((0 + (if b then 2 else 1)) % 8192) 2) ≡ truth b
    skipped true = refl
    skipped false = refl

    pub skip_law : (op : FileOperation) → truth (skips_with r op (value e t)) ≡ value e (skip_term op (result_term op w c t))
    unfolding skips_with result_with
    skip_law Decfsz = skipped (nat_eq (result_with r Decfsz (value e t)) 0) ∙ sym (zero_law Decfsz)
    skip_law Incfsz = skipped (nat_eq (result_with r Incfsz (value e t)) 0) ∙ sym (zero_law Incfsz)
    skip_law Addwf = refl
    skip_law Andwf = refl
    skip_law Comf = refl
    skip_law Decf = refl
    skip_law Incf = refl
    skip_law Iorwf = refl
    skip_law Movf = refl
    skip_law Rlf = refl
    skip_law Rrf = refl
    skip_law Subwf = refl
    skip_law Swapf = refl
    skip_law Xorwf = refl

    -- ---- rows on a literal
    abbrev with_all : ℕ → ℕ → ℕ → ℕ → Registers
    with_all u x y v = record r { w = u; z = x; dc = y; c = v }

    all_are : (u x y v u' x' y' v' : ℕ) → u' ≡ u → x' ≡ x → y' ≡ y → v' ≡ v → with_all u x y v ≡ with_all u' x' y' v'
    all_are u x y v u' x' y' v' g h i j = ap (λ (n : ℕ). with_all n x y v) (sym g) ∙ ap (λ (n : ℕ). with_all u' n y v) (sym h) ∙ ap (λ (n : ℕ). with_all u' x' n v) (sym i) ∙ ap (λ (n : ℕ). with_all u' x' y' n) (sym j)

    and_back : value e (mask w t) ≡ bit_and (value e t) r.w
    and_back = masks e w t ∙ and_comm (value e w) (value e t) ∙ ap (bit_and (value e t)) has.in_w

    or_back : value e (union w t) ≡ bit_or (value e t) r.w
    or_back = unions e w t ∙ or_comm (value e w) (value e t) ∙ ap (bit_or (value e t)) has.in_w

    xor_back : value e (exclusive w t) ≡ bit_xor (value e t) r.w
    xor_back = exclusives e w t ∙ xor_comm (value e w) (value e t) ∙ ap (bit_xor (value e t)) has.in_w

    by_result : (u : Term) (n : ℕ) → value e u ≡ n → value e (same u (Num 0)) ≡ truth (nat_eq n 0)
    by_result u n h = same_law e u (Num 0) ∙ ap (λ (v : ℕ). truth (nat_eq v 0)) h

    add_result : value e (sum_of 1 t w) ≡ (value e t + r.w) % 256
    add_result = sum_law e 1 t w ∙ ap (λ (v : ℕ). (1 * value e t + v) % 256) has.in_w ∙ (let a : (1 * value e t + r.w) % 256 ≡ (value e t + r.w) % 256 = omega arith in a)

    subtract_result : value e (sum_of 255 w t) ≡ (value e t + 256 - r.w) % 256
    subtract_result = let l = fits.w in sum_law e 255 w t ∙ ap (λ (v : ℕ). (255 * v + value e t) % 256) has.in_w ∙ (let a : (255 * r.w + value e t) % 256 ≡ (value e t + 256 - r.w) % 256 = omega arith in a)

    pub literal_law : (op : LiteralOperation) → after_row (literal_row op (value e t)) r ≡ with_all (value e (literal_result op w t)) (value e (zero_term (same_row op) z (literal_result op w t))) (value e (digit_term (same_row op) w dc t)) (value e (carry_term (same_row op) w c t))
    unfolding after_row
    literal_law Addlw = all_are _ _ _ _ _ _ _ _ add_result (by_result (sum_of 1 t w) _ add_result) add_digit add_carry
    literal_law Andlw = all_are _ _ _ _ _ _ _ _ and_back (by_result (mask w t) _ and_back) has.in_dc has.in_c
    literal_law Iorlw = all_are _ _ _ _ _ _ _ _ or_back (by_result (union w t) _ or_back) has.in_dc has.in_c
    literal_law Movlw = all_are _ _ _ _ _ _ _ _ refl has.in_z has.in_dc has.in_c
    literal_law Retlw = all_are _ _ _ _ _ _ _ _ refl has.in_z has.in_dc has.in_c
    literal_law Sublw = all_are _ _ _ _ _ _ _ _ subtract_result (by_result (sum_of 255 w t) _ subtract_result) subtract_digit subtract_carry
    literal_law Xorlw = all_are _ _ _ _ _ _ _ _ xor_back (by_result (exclusive w t) _ xor_back) has.in_dc has.in_c

pub results : Results
results e r w z dc c t op f h = result_law e r w z dc c t f h op

pub flags : Flags
flags e r w z dc c t op f h = flags_law e r w z dc c t f h op

pub skips : Skips
skips e r w z dc c t op f h = skip_law e r w z dc c t f h op

pub literals : Literals
literals e r w z dc c t op f h = literal_law e r w z dc c t f h op

pub clears : Clears
unfolding after_row
clears r = refl

pub bits_tested : BitsTested
bits_tested e b t = bit_law e (2 ^ b) t

pub bits_cleared : BitsCleared
bits_cleared e b t l =
    sum_law e (256 - 2 ^ b) (bit_term b t) t
    ∙ ap (λ (v : ℕ). ((256 - 2 ^ b) * v + value e t) % 256) (bit_law e (2 ^ b) t)
    ∙ at_each (λ b x. ((256 - 2 ^ b) * (x / 2 ^ b % 2) + x) % 256) number.clear_bit refl b (value e t) l (small e t)

pub bits_set : BitsSet
bits_set e b t l =
    sum_law e (256 - 2 ^ b) (bit_term b t) (sum_of 1 t (Num (2 ^ b)))
    ∙ ap (λ (v : ℕ). ((256 - 2 ^ b) * v + value e (sum_of 1 t (Num (2 ^ b)))) % 256) (bit_law e (2 ^ b) t)
    ∙ ap (λ (v : ℕ). ((256 - 2 ^ b) * (value e t / 2 ^ b % 2) + v) % 256) (sum_law e 1 t (Num (2 ^ b)))
    ∙ at_each (λ b x. ((256 - 2 ^ b) * (x / 2 ^ b % 2) + (1 * x + 2 ^ b % 256) % 256) % 256) number.set_bit refl b (value e t) l (small e t)

pub table_reads : TableReads
table_reads e tables n k v low high has is read = ap (λ (b : ℕ). b % 256) (ap (e.table n) (same_Some _ _ is) ∙ has n k v read)
