-- The low byte of what an operator gives is made of the low bytes of its operands.
use Rattle.std.proofs.Common.{◌≡◌, ℕ, zero, suc, Bool, false, nat_eq, nat_lt, ◌+◌, ◌-◌, ◌*◌, ◌/◌, ◌%◌, ◌^◌, ◌<◌, ◌≤◌, true, refl, ap, sym, ◌∙◌, arith, ℤ, pos, negsuc, ◌+ℤ◌, ◌-ℤ◌, unsigned_abs, bit_and, bit_or, bit_xor}
use Rattle.std.specs.Int.{int_rem_euclid}
use Rattle.std.proofs.lemmas.Int.{ints, int_rem_euclid_is}
use Rattle.std.proofs.Math.Nat.{div-eq_of_lt}
use Rattle.std.proofs.lemmas.Grind.{pow_more}
use Rattle.std.proofs.lemmas.Nat.{pow_pos, and_mod, or_mod, xor_mod, and_le_l, and_le_r}
use Rattle.std.specs.Int.Bits.{and_lt, or_lt, xor_lt, xor_add_and, xor_self}
use Rattle.std.proofs.lemmas.Bool.{true≢false, eqb-true, eq-eqb, ne_eqb}
use Rattle.c_ints.specs.Operators.{exact}
use Rattle.c_ints.specs.Range.{bytes_of, width, span, least, cut, pattern}
use Rattle.c_ints.specs.declared.operators.BinOp.{BinOp}
use Rattle.c_ints.specs.declared.operators.BinOp.TheVariants as ops
use Rattle.c_ints.specs.declared.types.IntTy.{IntTy}
use Rattle.c_ints.specs.declared.types.IntTy.TheVariants.{Char, SChar, UChar, Short, UShort, Int, UInt, Long, ULong}
use Rattle.narrow_code.specs.Right.{is_low, keeps_small, is_byte}
use Rattle.narrow_code.proofs.Memory.{never}

-- with a multiple of s it is the natural m
lifted : (z : ℤ) (s : ℕ) → 0 < s → (k : ℕ) × (m : ℕ) × (z +ℤ pos (k * s) ≡ pos m)
lifted (pos n) s lt = (0, n, omega (arith, ints))
lifted (negsuc n) s lt = (suc n, suc n * s - suc n, negative n s lt)
  where
    negative : (n s : ℕ) → 0 < s → negsuc n +ℤ pos (suc n * s) ≡ pos (suc n * s - suc n)
    negative n s lt = let h : suc n * 1 ≤ suc n * s = grind arith in omega (arith, ints, h)

-- what is one modulo the span has one pattern
rem_of : (z : ℤ) (s k m : ℕ) → 0 < s → z +ℤ pos (k * s) ≡ pos m → unsigned_abs (int_rem_euclid z (pos s)) ≡ m % s
rem_of z s k m lt e = ap unsigned_abs (int_rem_euclid_is z (pos s) s k m lt refl e)

rem_same : (y z : ℤ) (s k j : ℕ) → 0 < s → y +ℤ pos (k * s) ≡ z +ℤ pos (j * s) → unsigned_abs (int_rem_euclid y (pos s)) ≡ unsigned_abs (int_rem_euclid z (pos s))
rem_same y z s k j lt e =
    let h = lifted y s lt in
    let hy : unsigned_abs (int_rem_euclid y (pos s)) ≡ (h.1 + k * s) % s = rem_of y s (h.0 + k) (h.1 + k * s) lt (more y s h.0 h.1 k h.2) in
    let hz : unsigned_abs (int_rem_euclid z (pos s)) ≡ (h.1 + k * s) % s = rem_of z s (h.0 + j) (h.1 + k * s) lt (both y z s h.0 h.1 k j h.2 e) in
    hy ∙ sym hz
  where
    more : (y : ℤ) (s a m k : ℕ) → y +ℤ pos (a * s) ≡ pos m → y +ℤ pos ((a + k) * s) ≡ pos (m + k * s)
    more y s a m k h = omega (arith, ints)

    both : (y z : ℤ) (s a m k j : ℕ) → y +ℤ pos (a * s) ≡ pos m → y +ℤ pos (k * s) ≡ z +ℤ pos (j * s) → z +ℤ pos ((a + j) * s) ≡ pos (m + k * s)
    both y z s a m k j h e = omega (arith, ints)

-- cutting goes by multiples of the span
cut_at : (least x z : ℤ) (s : ℕ) → 0 < s → x ≡ z -ℤ least → (k : ℕ) × (j : ℕ) × (least +ℤ int_rem_euclid x (pos s) +ℤ pos (k * s) ≡ z +ℤ pos (j * s))
cut_at least (pos a) z s lt e = (a / s, 0, omega (arith, ints))
cut_at least (negsuc a) z s lt e = (0, a / s + 1, at least a z s lt e)
  where
    at : (least : ℤ) (a : ℕ) (z : ℤ) (s : ℕ) → 0 < s → negsuc a ≡ z -ℤ least → least +ℤ pos (s - 1 - a % s) +ℤ pos (0 * s) ≡ z +ℤ pos ((a / s + 1) * s)
    at least a z s lt e = let h : a % s < s = omega arith in omega (arith, ints, h)

pattern_cut : (ty : IntTy) (z : ℤ) → pattern ty (cut ty z) ≡ pattern ty z
pattern_cut ty z = let h = cut_at (least ty) (z -ℤ least ty) z (span ty) (pow_pos (width ty)) refl in rem_same (cut ty z) z (span ty) h.0 h.1 (pow_pos (width ty)) h.2

-- ---- low bytes
abbrev pub low : ℤ → ℕ
low z = pattern UChar z

-- the low byte of a pattern
pub low_of : (ty : IntTy) (z : ℤ) → pattern ty z % 256 ≡ low z
low_of Char (pos a) = omega arith
low_of Char (negsuc a) = omega arith
low_of SChar (pos a) = omega arith
low_of SChar (negsuc a) = omega arith
low_of UChar (pos a) = omega arith
low_of UChar (negsuc a) = omega arith
low_of Short (pos a) = omega arith
low_of Short (negsuc a) = omega arith
low_of UShort (pos a) = omega arith
low_of UShort (negsuc a) = omega arith
low_of Int (pos a) = omega arith
low_of Int (negsuc a) = omega arith
low_of UInt (pos a) = omega arith
low_of UInt (negsuc a) = omega arith
low_of Long (pos a) = omega arith
low_of Long (negsuc a) = omega arith
low_of ULong (pos a) = omega arith
low_of ULong (negsuc a) = omega arith

pub low_cut : (ty : IntTy) (z : ℤ) → low (cut ty z) ≡ low z
low_cut ty z = sym (low_of ty (cut ty z)) ∙ ap (λ (n : ℕ). n % 256) (pattern_cut ty z) ∙ low_of ty z

-- a number up to multiples of 256
low_near : (z : ℤ) → (k : ℕ) × (j : ℕ) × (z +ℤ pos (k * 256) ≡ pos (low z) +ℤ pos (j * 256))
low_near (pos a) = (0, a / 256, omega (arith, ints))
low_near (negsuc a) = (a / 256 + 1, 0, omega (arith, ints))

low_sum : (x y : ℤ) → low (x +ℤ y) ≡ (low x + low y) % 256
low_sum x y =
    let a = low_near x in
    let b = low_near y in
    rem_same (x +ℤ y) (pos (low x + low y)) 256 (a.0 + b.0) (a.1 + b.1) (omega arith) (added x y (low x) (low y) a.0 a.1 b.0 b.1 a.2 b.2)
  where
    added : (x y : ℤ) (m n k j i h : ℕ) → x +ℤ pos (k * 256) ≡ pos m +ℤ pos (j * 256) → y +ℤ pos (i * 256) ≡ pos n +ℤ pos (h * 256)
        → x +ℤ y +ℤ pos ((k + i) * 256) ≡ pos (m + n) +ℤ pos ((j + h) * 256)
    added x y m n k j i h e f = omega (arith, ints)

low_difference : (x y : ℤ) → low (x -ℤ y) ≡ (low x + 256 - low y) % 256
low_difference x y =
    let a = low_near x in
    let b = low_near y in
    rem_same (x -ℤ y) (pos (low x + 256 - low y)) 256 (a.0 + b.1 + 1) (a.1 + b.0) (omega arith) (taken x y (low x) (low y) a.0 a.1 b.0 b.1 a.2 b.2 (below y))
  where
    taken : (x y : ℤ) (m n k j i h : ℕ) → x +ℤ pos (k * 256) ≡ pos m +ℤ pos (j * 256) → y +ℤ pos (i * 256) ≡ pos n +ℤ pos (h * 256) → n < 256
        → x -ℤ y +ℤ pos ((k + h + 1) * 256) ≡ pos (m + 256 - n) +ℤ pos ((j + i) * 256)
    taken x y m n k j i h e f g = omega (arith, ints)

    below : (y : ℤ) → low y < 256
    below (pos a) = omega arith
    below (negsuc a) = omega arith

-- what the operators that are narrowed make of low bytes
abbrev on_low : BinOp → ℕ → ℕ → ℕ
on_low ops.Add a b = (a + b) % 256
on_low ops.Sub a b = (a + 256 - b) % 256
on_low ops.And a b = bit_and a b
on_low ops.Or a b = bit_or a b
on_low ops.Xor a b = bit_xor a b
on_low op a b = 0

low_exact : (op : BinOp) (ty : IntTy) (x y : ℤ) → is_low op ≡ true → low (exact op ty x y) ≡ on_low op (low x) (low y)
low_exact ops.Add ty x y e = low_sum x y
low_exact ops.Sub ty x y e = low_difference x y
low_exact ops.And ty x y e = and_mod (pattern ty x) (pattern ty y) 8 ∙ ap (λ (n : ℕ). bit_and n (pattern ty y % 256)) (low_of ty x) ∙ ap (bit_and (low x)) (low_of ty y)
low_exact ops.Or ty x y e = or_mod (pattern ty x) (pattern ty y) 8 ∙ ap (λ (n : ℕ). bit_or n (pattern ty y % 256)) (low_of ty x) ∙ ap (bit_or (low x)) (low_of ty y)
low_exact ops.Xor ty x y e = xor_mod (pattern ty x) (pattern ty y) 8 ∙ ap (λ (n : ℕ). bit_xor n (pattern ty y % 256)) (low_of ty x) ∙ ap (bit_xor (low x)) (low_of ty y)
low_exact _ ty x y e = never e

-- ---- one operation at both types
abbrev pub low_byte : IntTy → ℤ → ℕ
low_byte ty z = pattern ty (cut ty z) / 256 ^ 0 % 256

low_byte_is : (ty : IntTy) (z : ℤ) → low_byte ty z ≡ low z
low_byte_is ty z = let one : pattern ty (cut ty z) / 256 ^ 0 % 256 ≡ pattern ty (cut ty z) % 256 = omega arith in one ∙ low_of ty (cut ty z) ∙ low_cut ty z

value_low : (ty : IntTy) (a h : ℕ) → low (cut ty (pos (a + 256 * h))) ≡ a % 256
value_low ty a h = let e : low (pos (a + 256 * h)) ≡ a % 256 = omega arith in low_cut ty (pos (a + 256 * h)) ∙ e

-- Of values with the same low bytes each of these operators gives the same low byte, at any two types.
pub same_low : (op : BinOp) (ty other : IntTy) (a b h k i j : ℕ) → is_low op ≡ true
    → low_byte ty (exact op ty (cut ty (pos (a + 256 * h))) (cut ty (pos (b + 256 * k)))) ≡ low_byte other (exact op other (cut other (pos (a + 256 * i))) (cut other (pos (b + 256 * j))))
same_low op ty other a b h k i j e =
    let x = cut ty (pos (a + 256 * h)) in
    let y = cut ty (pos (b + 256 * k)) in
    let z = cut other (pos (a + 256 * i)) in
    let u = cut other (pos (b + 256 * j)) in
    low_byte_is ty (exact op ty x y) ∙ low_exact op ty x y e
    ∙ ap (λ (n : ℕ). on_low op n (low y)) (value_low ty a h ∙ sym (value_low other a i)) ∙ ap (on_low op (low z)) (value_low ty b k ∙ sym (value_low other b j))
    ∙ sym (low_byte_is other (exact op other z u) ∙ low_exact op other z u e)

-- ---- small values
pattern_small : (ty : IntTy) (r : ℕ) → r < 256 → pattern ty (pos r) ≡ r
pattern_small Char r h = omega arith
pattern_small SChar r h = omega arith
pattern_small UChar r h = omega arith
pattern_small Short r h = omega arith
pattern_small UShort r h = omega arith
pattern_small Int r h = omega arith
pattern_small UInt r h = omega arith
pattern_small Long r h = omega arith
pattern_small ULong r h = omega arith

pub small_pattern : (ty : IntTy) (r : ℕ) → r < 256 → pattern ty (cut ty (pos r)) ≡ r
small_pattern ty r h = pattern_cut ty (pos r) ∙ pattern_small ty r h

up : (k : ℕ) → 256 ^ suc k ≡ 256 ^ k * 256
up k = let next : suc k ≡ k + 1 = omega arith in ap (λ (n : ℕ). 256 ^ n) next ∙ pow_more 256 k

up_positive : (k : ℕ) → 0 < 256 ^ k
up_positive zero = omega arith
up_positive (suc k) = let p = up_positive k in let e = up k in omega arith

above : (r k : ℕ) → r < 256 → r / 256 ^ suc k % 256 ≡ 0
above r k h =
    let p = up_positive k in
    let m : 1 * 256 ≤ 256 ^ k * 256 = grind arith in
    let q : r / (256 ^ k * 256) ≡ 0 = div-eq_of_lt (let l : r < 256 ^ k * 256 = omega arith in l) in
    ap (λ (n : ℕ). r / n % 256) (up k) ∙ ap (λ (n : ℕ). n % 256) q

-- behind its lowest byte a small number has none
pub small_byte : (ty : IntTy) (r k : ℕ) → r < 256 → pattern ty (cut ty (pos r)) / 256 ^ suc k % 256 ≡ 0
small_byte ty r k h = ap (λ (n : ℕ). n / 256 ^ suc k % 256) (small_pattern ty r h) ∙ above r k h

-- a number of one byte without a sign is small
pub byte_number : (from : IntTy) (a : ℕ) → is_byte from ≡ true → (r : ℕ) × (r < 256) × (cut from (pos a) ≡ pos r)
byte_number Char a e = (a % 256, omega arith, omega (arith, ints))
byte_number UChar a e = (a % 256, omega arith, omega (arith, ints))
byte_number SChar a e = never e
byte_number Short a e = never e
byte_number UShort a e = never e
byte_number Int a e = never e
byte_number UInt a e = never e
byte_number Long a e = never e
byte_number ULong a e = never e

-- a small number is cut to itself by each type of two bytes or more, and by that of a byte
pub cut_small : (ty : IntTy) (r : ℕ) → r < 256 → nat_lt 1 (bytes_of ty) ≡ true → cut ty (pos r) ≡ pos r
cut_small Char r h e = never e
cut_small SChar r h e = never e
cut_small UChar r h e = never e
cut_small Short r h e = omega (arith, ints)
cut_small UShort r h e = omega (arith, ints)
cut_small Int r h e = omega (arith, ints)
cut_small UInt r h e = omega (arith, ints)
cut_small Long r h e = omega (arith, ints)
cut_small ULong r h e = omega (arith, ints)

pub cut_char : (r : ℕ) → r < 256 → cut UChar (pos r) ≡ pos r
cut_char r h = omega (arith, ints)

-- what operators on bits make of small numbers is small
pub bits_small : (op : BinOp) (ty : IntTy) (a b : ℕ) → keeps_small op ≡ true → a < 256 → b < 256 → (r : ℕ) × (r < 256) × (exact op ty (cut ty (pos a)) (cut ty (pos b)) ≡ pos r)
bits_small ops.And ty a b e h k = (bit_and a b, and_lt 8 a b h k, ap (λ (n : ℕ). pos (bit_and n (pattern ty (cut ty (pos b))))) (small_pattern ty a h) ∙ ap (λ (n : ℕ). pos (bit_and a n)) (small_pattern ty b k))
bits_small ops.Or ty a b e h k = (bit_or a b, or_lt 8 a b h k, ap (λ (n : ℕ). pos (bit_or n (pattern ty (cut ty (pos b))))) (small_pattern ty a h) ∙ ap (λ (n : ℕ). pos (bit_or a n)) (small_pattern ty b k))
bits_small ops.Xor ty a b e h k = (bit_xor a b, xor_lt 8 a b h k, ap (λ (n : ℕ). pos (bit_xor n (pattern ty (cut ty (pos b))))) (small_pattern ty a h) ∙ ap (λ (n : ℕ). pos (bit_xor a n)) (small_pattern ty b k))
bits_small _ ty a b e h k = never e

-- two numbers are equal just where they have no bit that differs
pub xor_equal : (a b : ℕ) → nat_eq (bit_xor a b) 0 ≡ nat_eq a b
xor_equal a b = by_xor (nat_eq (bit_xor a b) 0) refl
  where
    by_xor : (t : Bool) → nat_eq (bit_xor a b) 0 ≡ t → t ≡ nat_eq a b
    by_xor true e =
        let none = eqb-true (bit_xor a b) 0 e in
        let sum = xor_add_and a b in
        let left = and_le_l a b in
        let right = and_le_r a b in
        let same : a ≡ b = omega arith in
        sym (eq-eqb a b same)
    by_xor false e = sym (ne_eqb a b (λ same. absurd (true≢false (sym (ap (λ (n : ℕ). nat_eq n 0) (ap (bit_xor a) (sym same) ∙ xor_self a)) ∙ e))))

-- what bits differ in two small numbers, as a byte
pub xor_low : (n k : ℕ) → n < 256 → k < 256 → low_byte UChar (exact ops.Xor UChar (cut UChar (pos n)) (cut UChar (pos k))) ≡ bit_xor n k
xor_low n k h i =
    let small : bit_xor n k < 256 = xor_lt 8 n k h i in
    ap (λ (m : ℕ). low_byte UChar (pos (bit_xor m (pattern UChar (cut UChar (pos k)))))) (small_pattern UChar n h) ∙ ap (λ (m : ℕ). low_byte UChar (pos (bit_xor n m))) (small_pattern UChar k i)
    ∙ low_byte_is UChar (pos (bit_xor n k)) ∙ pattern_small UChar (bit_xor n k) small
