-- The low bytes of a number that is cut to another type.
use Rattle.c_ints.specs.Range.{bytes_of, cut, least, pattern, span, width}
use Rattle.c_ints.specs.declared.types.IntTy.TheVariants as int
use Rattle.c_ints.specs.declared.types.IntTy.{IntTy}
use Rattle.std.proofs.Common.{ap, arith, negsuc, pos, refl, suc, sym, unsigned_abs, zero, ℕ, ℤ, ◌%◌, ◌*◌, ◌+ℤ◌, ◌+◌, ◌-ℤ◌, ◌-◌, ◌/◌, ◌<◌, ◌^◌, ◌∙◌, ◌≡◌, ◌≤◌}
use Rattle.std.proofs.Math.Nat.{mul-add-mod_self_right}
use Rattle.std.proofs.lemmas.Int.{int_rem_euclid_is, ints}
use Rattle.std.proofs.lemmas.Nat.{pow_pos}
use Rattle.std.specs.Int.{int_rem_euclid}

-- ---- what is one modulo a span
-- with a multiple of the span it is a natural
pub lifted : (z : ℤ) (s : ℕ) → 0 < s → (k : ℕ) × (m : ℕ) × (z +ℤ pos (k * s) ≡ pos m)
lifted (pos n) s lt = (0, n, omega (arith, ints))
lifted (negsuc n) s lt = (suc n, suc n * s - suc n, negative n s lt)
  where
    negative : (n s : ℕ) → 0 < s → negsuc n +ℤ pos (suc n * s) ≡ pos (suc n * s - suc n)
    negative n s lt = let h : suc n * 1 ≤ suc n * s = grind arith in omega (arith, ints, h)

pub rem_of : (z : ℤ) (s k m : ℕ) → 0 < s → z +ℤ pos (k * s) ≡ pos m → unsigned_abs (int_rem_euclid z (pos s)) ≡ m % s
rem_of z s k m lt e = ap unsigned_abs (int_rem_euclid_is z (pos s) s k m lt refl e)

rem_same : (y z : ℤ) (s k j : ℕ) → 0 < s → y +ℤ pos (k * s) ≡ z +ℤ pos (j * s) → unsigned_abs (int_rem_euclid y (pos s)) ≡ unsigned_abs (int_rem_euclid z (pos s))
rem_same y z s k j lt e =
    let h = lifted y s lt in
    let hy : unsigned_abs (int_rem_euclid y (pos s)) ≡ (h.1 + k * s) % s = rem_of y s (h.0 + k) (h.1 + k * s) lt (more y s h.0 h.1 k h.2) in
    let hz : unsigned_abs (int_rem_euclid z (pos s)) ≡ (h.1 + k * s) % s = rem_of z s (h.0 + j) (h.1 + k * s) lt (both y z s h.0 h.1 k j h.2 e) in
    hy ∙ sym hz
  where
    more : (y : ℤ) (s a m k : ℕ) → y +ℤ pos (a * s) ≡ pos m → y +ℤ pos ((a + k) * s) ≡ pos (m + k * s)
    more y s a m k h = omega (arith, ints)

    both : (y z : ℤ) (s a m k j : ℕ) → y +ℤ pos (a * s) ≡ pos m → y +ℤ pos (k * s) ≡ z +ℤ pos (j * s) → z +ℤ pos ((a + j) * s) ≡ pos (m + k * s)
    both y z s a m k j h e = omega (arith, ints)

-- cutting goes by multiples of the span
cut_at : (least x z : ℤ) (s : ℕ) → 0 < s → x ≡ z -ℤ least → (k : ℕ) × (j : ℕ) × (least +ℤ int_rem_euclid x (pos s) +ℤ pos (k * s) ≡ z +ℤ pos (j * s))
cut_at least (pos a) z s lt e = (a / s, 0, omega (arith, ints))
cut_at least (negsuc a) z s lt e = (0, a / s + 1, at least a z s lt e)
  where
    at : (least : ℤ) (a : ℕ) (z : ℤ) (s : ℕ) → 0 < s → negsuc a ≡ z -ℤ least → least +ℤ pos (s - 1 - a % s) +ℤ pos (0 * s) ≡ z +ℤ pos ((a / s + 1) * s)
    at least a z s lt e = let h : a % s < s = omega arith in omega (arith, ints, h)

pub pattern_cut : (ty : IntTy) (z : ℤ) → pattern ty (cut ty z) ≡ pattern ty z
pattern_cut ty z = let h = cut_at (least ty) (z -ℤ least ty) z (span ty) (pow_pos (width ty)) refl in rem_same (cut ty z) z (span ty) h.0 h.1 (pow_pos (width ty)) h.2

mod_twice : (m q s x : ℕ) → x ≡ q * s → m % x % s ≡ m % s
mod_twice m q s x e =
    let whole : m ≡ m / x * x + m % x = omega arith in
    let parts : m / x * x ≡ m / x * q * s = ap (λ y. m / x * y) e ∙ (omega arith) in
    sym (ap (λ y. y % s) whole ∙ ap (λ y. (y + m % x) % s) parts ∙ mul-add-mod_self_right (m / x * q) s (m % x))

-- ---- sizes of types
pub sized : (ty : IntTy) (P : ℕ → Type 0) → P 1 → P 2 → P 4 → P (bytes_of ty)
sized int.Char P a b c = a
sized int.SChar P a b c = a
sized int.UChar P a b c = a
sized int.Short P a b c = b
sized int.UShort P a b c = b
sized int.Int P a b c = b
sized int.UInt P a b c = b
sized int.Long P a b c = c
sized int.ULong P a b c = c

span_parts : (from to : IntTy) → bytes_of to ≤ bytes_of from → 2 ^ (8 * bytes_of from) ≡ 256 ^ (bytes_of from - bytes_of to) * 2 ^ (8 * bytes_of to)
span_parts from to =
    sized from (λ a. bytes_of to ≤ a → 2 ^ (8 * a) ≡ 256 ^ (a - bytes_of to) * 2 ^ (8 * bytes_of to))
    (sized to (λ b. b ≤ 1 → 2 ^ 8 ≡ 256 ^ (1 - b) * 2 ^ (8 * b)) (λ le. refl) (λ le. absurd (omega arith)) (λ le. absurd (omega arith)))
    (sized to (λ b. b ≤ 2 → 2 ^ 16 ≡ 256 ^ (2 - b) * 2 ^ (8 * b)) (λ le. refl) (λ le. refl) (λ le. absurd (omega arith)))
    (sized to (λ b. b ≤ 4 → 2 ^ 32 ≡ 256 ^ (4 - b) * 2 ^ (8 * b)) (λ le. refl) (λ le. refl) (λ le. refl))

-- the bits of a type with fewer bytes are the low ones
pub pattern_low : (from to : IntTy) (z : ℤ) → bytes_of to ≤ bytes_of from → pattern to z ≡ pattern from z % span to
pattern_low from to z le =
    let q = 256 ^ (bytes_of from - bytes_of to) in
    let e : span from ≡ q * span to = span_parts from to le in
    let h = lifted z (span from) (pow_pos (width from)) in
    let many : h.0 * span from ≡ h.0 * q * span to = ap (λ y. h.0 * y) e ∙ (omega arith) in
    let a : pattern from z ≡ h.1 % span from = rem_of z (span from) h.0 h.1 (pow_pos (width from)) h.2 in
    let b : pattern to z ≡ h.1 % span to = rem_of z (span to) (h.0 * q) h.1 (pow_pos (width to)) (ap (λ y. z +ℤ pos y) (sym many) ∙ h.2) in
    b ∙ sym (mod_twice h.1 q (span to) (span from) e) ∙ ap (λ y. y % span to) (sym a)

-- ---- bytes
one_byte : (p i : ℕ) → i < 1 → p % 256 / 256 ^ i % 256 ≡ p / 256 ^ i % 256
one_byte p zero lt = omega arith
one_byte p (suc i) lt = absurd (omega arith)

two_bytes : (p i : ℕ) → i < 2 → p % 65536 / 256 ^ i % 256 ≡ p / 256 ^ i % 256
two_bytes p zero lt = omega arith
two_bytes p (suc zero) lt = omega arith
two_bytes p (suc (suc i)) lt = absurd (omega arith)

four_bytes : (p i : ℕ) → i < 4 → p % 4294967296 / 256 ^ i % 256 ≡ p / 256 ^ i % 256
four_bytes p zero lt = omega arith
four_bytes p (suc zero) lt = omega arith
four_bytes p (suc (suc zero)) lt = omega arith
four_bytes p (suc (suc (suc zero))) lt = omega arith
four_bytes p (suc (suc (suc (suc i)))) lt = absurd (omega arith)

pub low_bytes : (to : IntTy) (p i : ℕ) → i < bytes_of to → p % span to / 256 ^ i % 256 ≡ p / 256 ^ i % 256
low_bytes to p = sized to (λ b. (i : ℕ) → i < b → p % 2 ^ (8 * b) / 256 ^ i % 256 ≡ p / 256 ^ i % 256) (one_byte p) (two_bytes p) (four_bytes p)

-- A number that is cut to a type with no more bytes keeps its low ones.
pub narrow_bytes : (from to : IntTy) (z : ℤ) (i : ℕ) → bytes_of to ≤ bytes_of from → i < bytes_of to → pattern to (cut to z) / 256 ^ i % 256 ≡ pattern from z / 256 ^ i % 256
narrow_bytes from to z i le lt =
    ap (λ x. x / 256 ^ i % 256) (pattern_cut to z ∙ pattern_low from to z le) ∙ low_bytes to (pattern from z) i lt

-- Zero has zeros alone.
pub zero_bytes : (ty : IntTy) (i : ℕ) → pattern ty (pos 0) / 256 ^ i % 256 ≡ 0
zero_bytes ty i = ap (λ x. x / 256 ^ i % 256) (none ty) ∙ nothing (256 ^ i) (pow_some i)
  where
    none : (ty : IntTy) → pattern ty (pos 0) ≡ 0
    none int.Char = refl
    none int.SChar = refl
    none int.UChar = refl
    none int.Short = refl
    none int.UShort = refl
    none int.Int = refl
    none int.UInt = refl
    none int.Long = refl
    none int.ULong = refl

    nothing : (x : ℕ) → 0 < x → 0 / x % 256 ≡ 0
    nothing x lt = omega arith

    pow_some : (i : ℕ) → 0 < 256 ^ i
    pow_some zero = omega arith
    pow_some (suc i) = let h = pow_some i in omega arith
