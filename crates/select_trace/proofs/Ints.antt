-- Bits of integers: what an operator's value is, as a number below the span.
use Rattle.std.proofs.Common.{◌≡◌, ℕ, suc, ◌+◌, ◌-◌, ◌*◌, ◌/◌, ◌%◌, ◌^◌, ◌<◌, ◌≤◌, refl, ap, sym, ◌∙◌, arith, inl, inr, ℤ, pos, negsuc, ◌+ℤ◌, ◌-ℤ◌, unsigned_abs, true}
use Rattle.std.specs.Int.{int_rem_euclid}
use Rattle.std.proofs.lemmas.Int.{ints, int_rem_euclid_is}
use Rattle.std.proofs.lemmas.Nat.{pow_pos, mod-mul-add}
use Rattle.std.proofs.lemmas.Bool.{cases_lt}
use Rattle.c_ints.specs.declared.types.IntTy.{IntTy}
use Rattle.c_ints.specs.declared.types.IntTy.TheVariants.{Char, SChar, UChar, Short, UShort, Int, UInt, Long, ULong}
use Rattle.c_ints.specs.Range.{width, span, least, cut, pattern}
use Rattle.select_wide.specs.Single.{is_signed}

-- with a multiple of s it is the natural m
pub lifted : (z : ℤ) (s : ℕ) → 0 < s → (k : ℕ) × (m : ℕ) × (z +ℤ pos (k * s) ≡ pos m)
lifted (pos n) s lt = (0, n, omega (arith, ints))
lifted (negsuc n) s lt = (suc n, suc n * s - suc n, negative n s lt)
  where
    negative : (n s : ℕ) → 0 < s → negsuc n +ℤ pos (suc n * s) ≡ pos (suc n * s - suc n)
    negative n s lt = let h : suc n * 1 ≤ suc n * s = grind arith in omega (arith, ints, h)

pub mod_shift : (m k s : ℕ) → 0 < s → (m + k * s) % s ≡ m % s
mod_shift m k s lt = let e : m + k * s ≡ (k + m / s) * s + m % s = omega (arith) in ap (λ z. z % s) e ∙ mod-mul-add (k + m / s) s (m % s) (omega arith)

-- what is one modulo the span has one pattern
pub rem_of : (z : ℤ) (s k m : ℕ) → 0 < s → z +ℤ pos (k * s) ≡ pos m → unsigned_abs (int_rem_euclid z (pos s)) ≡ m % s
rem_of z s k m lt e = ap unsigned_abs (int_rem_euclid_is z (pos s) s k m lt refl e)

pub rem_same : (y z : ℤ) (s k j : ℕ) → 0 < s → y +ℤ pos (k * s) ≡ z +ℤ pos (j * s) → unsigned_abs (int_rem_euclid y (pos s)) ≡ unsigned_abs (int_rem_euclid z (pos s))
rem_same y z s k j lt e =
    let h = lifted y s lt in
    let hy : unsigned_abs (int_rem_euclid y (pos s)) ≡ (h.1 + k * s) % s = rem_of y s (h.0 + k) (h.1 + k * s) lt (more y s h.0 h.1 k h.2) in
    let hz : unsigned_abs (int_rem_euclid z (pos s)) ≡ (h.1 + k * s) % s = rem_of z s (h.0 + j) (h.1 + k * s) lt (both y z s h.0 h.1 k j h.2 e) in
    hy ∙ sym hz
  where
    more : (y : ℤ) (s a m k : ℕ) → y +ℤ pos (a * s) ≡ pos m → y +ℤ pos ((a + k) * s) ≡ pos (m + k * s)
    more y s a m k h = omega (arith, ints)

    both : (y z : ℤ) (s a m k j : ℕ) → y +ℤ pos (a * s) ≡ pos m → y +ℤ pos (k * s) ≡ z +ℤ pos (j * s) → z +ℤ pos ((a + j) * s) ≡ pos (m + k * s)
    both y z s a m k j h e = omega (arith, ints)

-- cutting goes by multiples of the span
cut_at : (least x z : ℤ) (s : ℕ) → 0 < s → x ≡ z -ℤ least → (k : ℕ) × (j : ℕ) × (least +ℤ int_rem_euclid x (pos s) +ℤ pos (k * s) ≡ z +ℤ pos (j * s))
cut_at least (pos a) z s lt e = (a / s, 0, omega (arith, ints))
cut_at least (negsuc a) z s lt e = (0, a / s + 1, at least a z s lt e)
  where
    at : (least : ℤ) (a : ℕ) (z : ℤ) (s : ℕ) → 0 < s → negsuc a ≡ z -ℤ least → least +ℤ pos (s - 1 - a % s) +ℤ pos (0 * s) ≡ z +ℤ pos ((a / s + 1) * s)
    at least a z s lt e = let h : a % s < s = omega arith in omega (arith, ints, h)

pub pattern_cut : (ty : IntTy) (z : ℤ) → pattern ty (cut ty z) ≡ pattern ty z
pattern_cut ty z = let h = cut_at (least ty) (z -ℤ least ty) z (span ty) (pow_pos (width ty)) refl in rem_same (cut ty z) z (span ty) h.0 h.1 (pow_pos (width ty)) h.2

-- the pattern by a number that differs by multiples of the span
pub pattern_of : (ty : IntTy) (z : ℤ) (k m : ℕ) → z +ℤ pos (k * span ty) ≡ pos m → pattern ty z ≡ m % span ty
pattern_of ty z k m e = rem_of z (span ty) k m (pow_pos (width ty)) e

-- ---- the number of a type that bits make
-- what bits below the span stand for: themselves, or in a signed type from half the span on, the span less
pub data Stands (ty : IntTy) (n : ℕ) (z : ℤ) : Type 0 where
  Plain : z ≡ pos n → (is_signed ty ≡ true → 2 * n < span ty) → Stands ty n z
  Negative : is_signed ty ≡ true → span ty ≤ 2 * n → z ≡ negsuc (span ty - 1 - n) → Stands ty n z

pub stands : (ty : IntTy) (n : ℕ) → n < span ty → Stands ty n (cut ty (pos n))
stands Char n lt = Plain (omega (arith, ints)) (λ e. cc)
stands UChar n lt = Plain (omega (arith, ints)) (λ e. cc)
stands UShort n lt = Plain (omega (arith, ints)) (λ e. cc)
stands UInt n lt = Plain (omega (arith, ints)) (λ e. cc)
stands ULong n lt = Plain (omega (arith, ints)) (λ e. cc)
stands SChar n lt = elim (cases_lt (2 * n) (2 ^ 8)) [ inl l ↦ Plain (omega (arith, ints)) (λ _. l) | inr g ↦ Negative refl g (omega (arith, ints)) ]
stands Short n lt = elim (cases_lt (2 * n) (2 ^ 16)) [ inl l ↦ Plain (omega (arith, ints)) (λ _. l) | inr g ↦ Negative refl g (omega (arith, ints)) ]
stands Int n lt = elim (cases_lt (2 * n) (2 ^ 16)) [ inl l ↦ Plain (omega (arith, ints)) (λ _. l) | inr g ↦ Negative refl g (omega (arith, ints)) ]
stands Long n lt = elim (cases_lt (2 * n) (2 ^ 32)) [ inl l ↦ Plain (omega (arith, ints)) (λ _. l) | inr g ↦ Negative refl g (omega (arith, ints)) ]
