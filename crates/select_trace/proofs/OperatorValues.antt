-- The operators' values, by the numbers that the operands' and the answer's bytes make.
use Rattle.std.proofs.Common.{◌≡◌, ℕ, zero, suc, ◌+◌, ◌-◌, ◌*◌, ◌/◌, ◌%◌, ◌^◌, ◌<◌, ◌≤◌, refl, ap, sym, ◌∙◌, subst, arith, ◌⊎◌, inl, inr, ℤ, pos, negsuc, ◌+ℤ◌, ◌-ℤ◌, ◌*ℤ◌, neg_ℤ, true, false, Bool, int_div, int_rem, Some, None, IfSome, cond}
use Rattle.std.specs.Int.{int_shr}
use Rattle.std.proofs.lemmas.Int.{ints}
use Rattle.std.proofs.lemmas.Nat.{pow_pos, mod-mul-add, div-mul-add, shr_le}
use Rattle.c_ints.specs.declared.types.IntTy.{IntTy}
use Rattle.c_ints.specs.declared.operators.BinOp.{BinOp}
use Rattle.c_ints.specs.declared.operators.BinOp.TheVariants.{Mul, Div, Rem, Add, Sub, Shl, Shr}
use Rattle.c_ints.specs.Range.{width, span, cut, pattern}
use Rattle.select_trace.specs.Ints.{IsValue}
use Rattle.select_wide.specs.Single.{is_signed}
use Rattle.c_ints.specs.Operators.{divides_badly, shifts_badly}
use Rattle.select_trace.specs.Helpers.{Part, Quotient, Rest}
use Rattle.select_trace.specs.Shifts.{IsTop, GoneLeft, GoneRight}
use Rattle.select_trace.specs.SignedDivision.{HasSign, IsMagnitude, part_of, answer_sign}
use Rattle.select_trace.proofs.Ints.{Plain, Negative, stands, pattern_cut, pattern_of, mod_shift}

span_pos : (ty : IntTy) → 0 < span ty
span_pos ty = pow_pos (width ty)

-- the number and how often the span is to be added to it
pub offset : (ty : IntTy) (n : ℕ) → n < span ty → (e : ℕ) × (cut ty (pos n) +ℤ pos (e * span ty) ≡ pos n)
offset ty n lt = elim (stands ty n lt) [
  | Plain is low ↦ (0, rw is (omega (arith, ints)))
  | Negative s high is ↦ (1, rw is (negative (span ty) n lt))
]
  where
    negative : (s n : ℕ) → n < s → negsuc (s - 1 - n) +ℤ pos (1 * s) ≡ pos n
    negative s n lt = omega (arith, ints)

pub if_some : {A : Type 0} (b : Bool) (x : A) (P : A → Type 0) → (b ≡ false → P x) → IfSome (cond b None (Some x)) P
if_some true x P h = tt
if_some false x P h = h refl

pub add_value : (ty : IntTy) (l r a : ℕ) → l < span ty → r < span ty → a ≡ (l + r) % span ty → IsValue Add ty l r a
add_value ty l r a ll rl is =
    let x = offset ty l ll in
    let y = offset ty r rl in
    is ∙ sym (pattern_cut ty (cut ty (pos l) +ℤ cut ty (pos r)) ∙ pattern_of ty (cut ty (pos l) +ℤ cut ty (pos r)) (x.0 + y.0) (l + r) (both (cut ty (pos l)) (cut ty (pos r)) (span ty) x.0 y.0 l r x.1 y.1))
  where
    both : (x y : ℤ) (s e d l r : ℕ) → x +ℤ pos (e * s) ≡ pos l → y +ℤ pos (d * s) ≡ pos r → x +ℤ y +ℤ pos ((e + d) * s) ≡ pos (l + r)
    both x y s e d l r h k = omega (arith, ints)

pub sub_value : (ty : IntTy) (l r a : ℕ) → l < span ty → r < span ty → a ≡ (l + span ty - r) % span ty → IsValue Sub ty l r a
sub_value ty l r a ll rl is =
    let x = offset ty l ll in
    let y = offset ty r rl in
    is ∙ sym (mod_shift (l + span ty - r) y.0 (span ty) (span_pos ty))
    ∙ sym (pattern_cut ty (cut ty (pos l) -ℤ cut ty (pos r)) ∙ pattern_of ty (cut ty (pos l) -ℤ cut ty (pos r)) (x.0 + 1) (l + span ty - r + y.0 * span ty) (both (cut ty (pos l)) (cut ty (pos r)) (span ty) x.0 y.0 l r rl x.1 y.1))
  where
    both : (x y : ℤ) (s e d l r : ℕ) → r < s → x +ℤ pos (e * s) ≡ pos l → y +ℤ pos (d * s) ≡ pos r → x -ℤ y +ℤ pos ((e + 1) * s) ≡ pos (l + s - r + d * s)
    both x y s e d l r lt h k = omega (arith, ints)

-- ---- products
-- x * y differs from l * r by multiples of the span
product : (s l r : ℕ) (x y : ℤ) → 0 < s → l < s → r < s → ((x ≡ pos l) ⊎ (x ≡ negsuc (s - 1 - l))) → ((y ≡ pos r) ⊎ (y ≡ negsuc (s - 1 - r))) → (k : ℕ) × (m : ℕ) × (x *ℤ y +ℤ pos (k * s) ≡ pos m) × (m % s ≡ (l * r) % s)
product s l r x y ss ll rl h k = elim h [
  | inl p ↦ elim k [
    | inl q ↦ (0, l * r, rw (p, q) (plain s l r), refl)
    | inr q ↦ (l, l * r, rw (p, q) (right s l r (s - 1 - r) (omega arith)), refl)
  ]
  | inr p ↦ elim k [
    | inl q ↦ (r, l * r, rw (p, q) (left s l r (s - 1 - l) (omega arith)), refl)
    | inr q ↦ (l + r, l * r + s * s, rw (p, q) (both s l r (s - 1 - l) (s - 1 - r) (omega arith) (omega arith)), mod_shift (l * r) s s ss)
  ]
]
  where
    plain : (s l r : ℕ) → pos l *ℤ pos r +ℤ pos (0 * s) ≡ pos (l * r)
    plain s l r = omega (arith, ints)

    right : (s l r b : ℕ) → suc b + r ≡ s → pos l *ℤ negsuc b +ℤ pos (l * s) ≡ pos (l * r)
    right s l r b e = let f : l * (suc b + r) ≡ l * s = ap (λ z. l * z) e in omega (arith, ints, f)

    left : (s l r b : ℕ) → suc b + l ≡ s → negsuc b *ℤ pos r +ℤ pos (r * s) ≡ pos (l * r)
    left s l r b e = let f : r * (suc b + l) ≡ r * s = ap (λ z. r * z) e in omega (arith, ints, f)

    both : (s l r b c : ℕ) → suc b + l ≡ s → suc c + r ≡ s → negsuc b *ℤ negsuc c +ℤ pos ((l + r) * s) ≡ pos (l * r + s * s)
    both s l r b c e d =
        let f : (suc b + l) * (suc c + r) ≡ s * (suc c + r) = ap (λ z. z * (suc c + r)) e in
        let g : s * (suc c + r) ≡ s * s = ap (λ z. s * z) d in
        let i : l * (suc c + r) ≡ l * s = ap (λ z. l * z) d in
        let j : r * (suc b + l) ≡ r * s = ap (λ z. r * z) e in
        omega (arith, ints, f, g, i, j)

form : (ty : IntTy) (n : ℕ) → n < span ty → (cut ty (pos n) ≡ pos n) ⊎ (cut ty (pos n) ≡ negsuc (span ty - 1 - n))
form ty n lt = elim (stands ty n lt) [ Plain is low ↦ inl is | Negative s high is ↦ inr is ]

pub mul_value : (ty : IntTy) (l r a : ℕ) → l < span ty → r < span ty → a ≡ (l * r) % span ty → IsValue Mul ty l r a
mul_value ty l r a ll rl is =
    let h = product (span ty) l r (cut ty (pos l)) (cut ty (pos r)) (span_pos ty) ll rl (form ty l ll) (form ty r rl) in
    is ∙ sym h.3 ∙ sym (pattern_cut ty (cut ty (pos l) *ℤ cut ty (pos r)) ∙ pattern_of ty (cut ty (pos l) *ℤ cut ty (pos r)) h.0 h.1 h.2)

-- ---- division
abbrev pub exact_part : Part → ℤ → ℤ → ℤ
exact_part Quotient x y = int_div x y
exact_part Rest x y = int_rem x y

abbrev pub op_of : Part → BinOp
op_of Quotient = Div
op_of Rest = Rem

-- the exact value is the part of the magnitudes, with its sign
abbrev Exact : ℕ → ℕ → ℤ → Type 0
Exact s m z = ((s ≡ 0) × (z ≡ pos m)) ⊎ ((s ≡ 1) × (z ≡ neg_ℤ (pos m)))

plain_plain : (part : Part) (l r : ℕ) → Exact (answer_sign part 0 0) (part_of part l r) (exact_part part (pos l) (pos r))
plain_plain Quotient l r = inl (refl, refl)
plain_plain Rest l r = inl (refl, refl)

plain_minus : (part : Part) (l b : ℕ) → Exact (answer_sign part 0 1) (part_of part l (suc b)) (exact_part part (pos l) (negsuc b))
plain_minus Quotient l b = inr (refl, refl)
plain_minus Rest l b = inl (refl, refl)

minus_plain : (part : Part) (b r : ℕ) → Exact (answer_sign part 1 0) (part_of part (suc b) r) (exact_part part (negsuc b) (pos r))
minus_plain Quotient b r = inr (refl, refl)
minus_plain Rest b r = inr (refl, refl)

minus_minus : (part : Part) (b c : ℕ) → Exact (answer_sign part 1 1) (part_of part (suc b) (suc c)) (exact_part part (negsuc b) (negsuc c))
minus_minus Quotient b c = inl (refl, refl)
minus_minus Rest b c = inr (refl, refl)

pub small_mod : (a s : ℕ) → a < s → a % s ≡ a
small_mod a s lt = let e : a ≡ 0 * s + a = omega arith in ap (λ z. z % s) e ∙ mod-mul-add 0 s a lt

-- the answer's bits are the exact value's
signed_pattern : (ty : IntTy) (s m a : ℕ) (z : ℤ) → m < span ty → HasSign (span ty) s m a → Exact s m z → a ≡ pattern ty z
signed_pattern ty s m a z lt h e = elim h [
  | inl p ↦ elim e [
    | inl q ↦ p.1 ∙ sym (small_mod m (span ty) lt) ∙ sym (pattern_of ty z 0 m (rw q.1 (plain m (span ty))))
    | inr q ↦ absurd (omega (arith, p.0, q.0))
  ]
  | inr p ↦ elim e [
    | inl q ↦ absurd (omega (arith, p.0, q.0))
    | inr q ↦ p.1 ∙ sym (pattern_of ty z 1 (span ty - m) (rw q.1 (minus m (span ty) lt)))
  ]
]
  where
    plain : (m s : ℕ) → pos m +ℤ pos (0 * s) ≡ pos m
    plain m s = omega (arith, ints)

    minus : (m s : ℕ) → m < s → neg_ℤ (pos m) +ℤ pos (1 * s) ≡ pos (s - m)
    minus m s lt = omega (arith, ints)

part_small : (part : Part) (m d b : ℕ) → m < b → 0 < d → part_of part m d < b
part_small Quotient m d b lt h = omega arith
part_small Rest m d b lt h = omega arith

-- a division by 0 has no value
divisor : (ty : IntTy) (x : ℤ) (r : ℕ) → divides_badly ty x (cut ty (pos r)) ≡ false → 0 < r
divisor ty x zero h = absurd (bad ty x h)
  where
    zero_is : (ty : IntTy) → cut ty (pos 0) ≡ pos 0
    zero_is ty = elim (stands ty 0 (span_pos ty)) [ Plain is low ↦ is | Negative s high is ↦ absurd (omega (arith, high, span_pos ty)) ]

    bad : (ty : IntTy) (x : ℤ) → divides_badly ty x (cut ty (pos 0)) ≡ false → ⊥
    bad ty x h =
        let g : divides_badly ty x (pos 0) ≡ false = subst (λ (y : ℤ). divides_badly ty x y ≡ false) (zero_is ty) h in
        cc
divisor ty x (suc r) h = omega arith

put : (part : Part) (ty : IntTy) (a : ℕ) (x x1 y y1 : ℤ) → x ≡ x1 → y ≡ y1 → a ≡ pattern ty (exact_part part x1 y1) → a ≡ pattern ty (exact_part part x y)
put part ty a x x1 y y1 e d h = h ∙ ap (λ (z : ℤ). pattern ty (exact_part part z y1)) (sym e) ∙ ap (λ (z : ℤ). pattern ty (exact_part part x z)) (sym d)

-- the answer has the value, once it is shown for any divisor but 0
from_nonzero : (part : Part) (ty : IntTy) (l r a : ℕ) → (0 < r → a ≡ pattern ty (exact_part part (cut ty (pos l)) (cut ty (pos r)))) → IsValue (op_of part) ty l r a
from_nonzero Quotient ty l r a h = if_some (divides_badly ty (cut ty (pos l)) (cut ty (pos r))) _ _ (λ e. h (divisor ty (cut ty (pos l)) r e) ∙ sym (pattern_cut ty (int_div (cut ty (pos l)) (cut ty (pos r)))))
from_nonzero Rest ty l r a h = if_some (divides_badly ty (cut ty (pos l)) (cut ty (pos r))) _ _ (λ e. h (divisor ty (cut ty (pos l)) r e) ∙ sym (pattern_cut ty (int_rem (cut ty (pos l)) (cut ty (pos r)))))

pub unsigned_value : (part : Part) (ty : IntTy) (l r a : ℕ) → is_signed ty ≡ false → l < span ty → r < span ty → (0 < r → a ≡ part_of part l r) → IsValue (op_of part) ty l r a
unsigned_value part ty l r a unsigned ll rl h = from_nonzero part ty l r a (λ nonzero.
    let x : cut ty (pos l) ≡ pos l = plain ty l ll unsigned in
    let y : cut ty (pos r) ≡ pos r = plain ty r rl unsigned in
    let e = signed_pattern ty (answer_sign part 0 0) (part_of part l r) a (exact_part part (pos l) (pos r)) (part_small part l r (span ty) ll nonzero) (inl (none part, h nonzero)) (plain_plain part l r) in
    put part ty a _ _ _ _ x y e)
  where
    plain : (ty : IntTy) (n : ℕ) → n < span ty → is_signed ty ≡ false → cut ty (pos n) ≡ pos n
    plain ty n lt u = elim (stands ty n lt) [ Plain is low ↦ is | Negative s high is ↦ absurd (let e : true ≡ false = sym s ∙ u in cc) ]

    none : (part : Part) → answer_sign part 0 0 ≡ 0
    none Quotient = refl
    none Rest = refl

pub signed_value : (part : Part) (ty : IntTy) (l r a m d : ℕ) → is_signed ty ≡ true → l < span ty → r < span ty → IsMagnitude (span ty) l m → IsMagnitude (span ty) r d →
    ((s t : ℕ) → IsTop (span ty) l s → IsTop (span ty) r t → 0 < r → HasSign (span ty) (answer_sign part s t) (part_of part m d) a) → IsValue (op_of part) ty l r a
signed_value part ty l r a m d signed ll rl ml mr h = from_nonzero part ty l r a (λ nonzero. elim (stands ty l ll) [
  | Plain x lx ↦
      let left : l ≡ m = low_is (span ty) l m ml (lx signed) in
      elim (stands ty r rl) [
        | Plain y ly ↦
            let right : r ≡ d = low_is (span ty) r d mr (ly signed) in
            put part ty a _ _ _ _ x y (signed_pattern ty _ _ a (exact_part part (pos l) (pos r)) (part_small part l r (span ty) ll nonzero) (rw (← left, ← right) at (h 0 0 (inr (refl, lx signed)) (inr (refl, ly signed)) nonzero)) (plain_plain part l r))
        | Negative s hy y ↦
            let right : d ≡ suc (span ty - 1 - r) = high_is (span ty) r d mr hy rl in
            put part ty a _ _ _ _ x y (signed_pattern ty _ _ a (exact_part part (pos l) (negsuc (span ty - 1 - r))) (part_small part l (suc (span ty - 1 - r)) (span ty) ll (omega arith)) (rw (← left, right) at (h 0 1 (inr (refl, lx signed)) (inl (refl, hy)) nonzero)) (plain_minus part l (span ty - 1 - r)))
      ]
  | Negative s hx x ↦
      let left : m ≡ suc (span ty - 1 - l) = high_is (span ty) l m ml hx ll in
      let small : suc (span ty - 1 - l) < span ty = omega (arith, hx, ll) in
      elim (stands ty r rl) [
        | Plain y ly ↦
            let right : r ≡ d = low_is (span ty) r d mr (ly signed) in
            put part ty a _ _ _ _ x y (signed_pattern ty _ _ a (exact_part part (negsuc (span ty - 1 - l)) (pos r)) (part_small part (suc (span ty - 1 - l)) r (span ty) small nonzero) (rw (left, ← right) at (h 1 0 (inl (refl, hx)) (inr (refl, ly signed)) nonzero)) (minus_plain part (span ty - 1 - l) r))
        | Negative s hy y ↦
            let right : d ≡ suc (span ty - 1 - r) = high_is (span ty) r d mr hy rl in
            put part ty a _ _ _ _ x y (signed_pattern ty _ _ a (exact_part part (negsuc (span ty - 1 - l)) (negsuc (span ty - 1 - r))) (part_small part (suc (span ty - 1 - l)) (suc (span ty - 1 - r)) (span ty) small (omega arith)) (rw (left, right) at (h 1 1 (inl (refl, hx)) (inl (refl, hy)) nonzero)) (minus_minus part (span ty - 1 - l) (span ty - 1 - r)))
      ]
])
  where
    low_is : (s n m : ℕ) → IsMagnitude s n m → 2 * n < s → n ≡ m
    low_is s n m h lt = elim h [ inl x ↦ omega (arith, x.1) | inr x ↦ absurd (omega (arith, x.0)) ]

    high_is : (s n m : ℕ) → IsMagnitude s n m → s ≤ 2 * n → n < s → m ≡ suc (s - 1 - n)
    high_is s n m h ge lt = elim h [ inl x ↦ absurd (omega (arith, x.0)) | inr x ↦ omega (arith, x.1) ]

-- ---- shifts
pub shl_value : (ty : IntTy) (l r a : ℕ) → l < span ty → a < span ty → GoneLeft (span ty) l (r % 256) a → IsValue Shl ty l r a
shl_value ty l r a ll al g = if_some (shifts_badly ty (pos (r % 256))) _ _ (λ _.
    let h = shifted (span ty) l (2 ^ (r % 256)) (cut ty (pos l)) ll (form ty l ll) in
    let is : (l * 2 ^ (r % 256)) % span ty ≡ a = ap (λ z. z % span ty) (sym g.1 ∙ omega arith) ∙ mod-mul-add g.0 (span ty) a al in
    sym is ∙ sym (pattern_cut ty (cut ty (pos l) *ℤ pos (2 ^ (r % 256))) ∙ pattern_of ty (cut ty (pos l) *ℤ pos (2 ^ (r % 256))) h.0 (l * 2 ^ (r % 256)) h.1))
  where
    shifted : (s l p : ℕ) (x : ℤ) → l < s → ((x ≡ pos l) ⊎ (x ≡ negsuc (s - 1 - l))) → (k : ℕ) × (x *ℤ pos p +ℤ pos (k * s) ≡ pos (l * p))
    shifted s l p x lt h = elim h [
      | inl e ↦ (0, rw e (plain s l p))
      | inr e ↦ (p, rw e (minus s l p (s - 1 - l) (omega arith)))
    ]
      where
        plain : (s l p : ℕ) → pos l *ℤ pos p +ℤ pos (0 * s) ≡ pos (l * p)
        plain s l p = omega (arith, ints)

        minus : (s l p b : ℕ) → suc b + l ≡ s → negsuc b *ℤ pos p +ℤ pos (p * s) ≡ pos (l * p)
        minus s l p b e = let f : p * (suc b + l) ≡ p * s = ap (λ z. p * z) e in omega (arith, ints, f)

quotient_of : (n a p r : ℕ) → n ≡ a * p + r → r < p → n / p ≡ a
quotient_of n a p r e lt = ap (λ z. z / p) e ∙ div-mul-add a p r lt

-- where what comes in from above is 0
pub shr_plain : (ty : IntTy) (l i a : ℕ) → cut ty (pos l) ≡ pos l → l < span ty → GoneRight (span ty) 0 l i a → a ≡ pattern ty (int_shr (cut ty (pos l)) i)
shr_plain ty l i a plain ll g =
    let is : l / 2 ^ i ≡ a = quotient_of l a (2 ^ i) g.rest (nothing (span ty) l a (2 ^ i) g.rest g.is) g.small in
    let small : a < span ty = let le : l / 2 ^ i ≤ l = shr_le l i in omega arith in
    subst (λ (x : ℤ). a ≡ pattern ty (int_shr x i)) (sym plain)
    (sym (small_mod a (span ty) small) ∙ sym (pattern_of ty (int_shr (pos l) i) 0 a (rw is (plain_at a (span ty)))))
  where
    nothing : (b n a p r : ℕ) → n + b * 0 * p ≡ a * p + r + b * 0 → n ≡ a * p + r
    nothing b n a p r h = omega (arith, h)

    plain_at : (a s : ℕ) → pos a +ℤ pos (0 * s) ≡ pos a
    plain_at a s = omega (arith, ints)

shr_minus : (ty : IntTy) (l i a : ℕ) → cut ty (pos l) ≡ negsuc (span ty - 1 - l) → l < span ty → a < span ty → GoneRight (span ty) 1 l i a → a ≡ pattern ty (int_shr (cut ty (pos l)) i)
shr_minus ty l i a minus ll al g =
    let is : (span ty - 1 - l) / 2 ^ i ≡ span ty - 1 - a = quotient_of (span ty - 1 - l) (span ty - 1 - a) (2 ^ i) (2 ^ i - 1 - g.rest) (turned (span ty) l a (2 ^ i) g.rest ll al g.small g.is) (omega (arith, g.small)) in
    subst (λ (x : ℤ). a ≡ pattern ty (int_shr x i)) (sym minus)
    (sym (small_mod a (span ty) al) ∙ sym (pattern_of ty (int_shr (negsuc (span ty - 1 - l)) i) 1 a (rw is (minus_at a (span ty) al))))
  where
    turned : (s l a p r : ℕ) → l < s → a < s → r < p → l + s * 1 * p ≡ a * p + r + s * 1 → s - 1 - l ≡ (s - 1 - a) * p + (p - 1 - r)
    turned s l a p r ll al lt h =
        let b : ℕ = s - 1 - a in
        let e : a + 1 + b ≡ s = omega arith in
        let f : (a + 1 + b) * p ≡ s * p = ap (λ z. z * p) e in
        omega (arith, h, f, lt, ll)

    minus_at : (a s : ℕ) → a < s → negsuc (s - 1 - a) +ℤ pos (1 * s) ≡ pos a
    minus_at a s lt = omega (arith, ints)

pub shr_unsigned_value : (ty : IntTy) (l r a : ℕ) → is_signed ty ≡ false → l < span ty → GoneRight (span ty) 0 l (r % 256) a → IsValue Shr ty l r a
shr_unsigned_value ty l r a u ll g = if_some (shifts_badly ty (pos (r % 256))) _ _ (λ _.
    let plain : cut ty (pos l) ≡ pos l = elim (stands ty l ll) [ Plain is low ↦ is | Negative s high is ↦ absurd (let e : true ≡ false = sym s ∙ u in cc) ] in
    shr_plain ty l (r % 256) a plain ll g ∙ sym (pattern_cut ty (int_shr (cut ty (pos l)) (r % 256))))

pub shr_signed_value : (ty : IntTy) (l r a : ℕ) → is_signed ty ≡ true → l < span ty → a < span ty → ((s : ℕ) → IsTop (span ty) l s → GoneRight (span ty) s l (r % 256) a) → IsValue Shr ty l r a
shr_signed_value ty l r a signed ll al g = if_some (shifts_badly ty (pos (r % 256))) _ _ (λ _.
    let is : a ≡ pattern ty (int_shr (cut ty (pos l)) (r % 256)) = elim (stands ty l ll) [
      | Plain is low ↦ shr_plain ty l (r % 256) a is ll (g 0 (inr (refl, low signed)))
      | Negative s high is ↦ shr_minus ty l (r % 256) a is ll al (g 1 (inl (refl, high)))
    ] in
    is ∙ sym (pattern_cut ty (int_shr (cut ty (pos l)) (r % 256))))
