-- Shifts by constants: whole bytes, then single bits.
use Rattle.std.proofs.Common.{◌≡◌, ℕ, zero, suc, ◌+◌, ◌-◌, ◌*◌, ◌/◌, ◌%◌, ◌^◌, ◌<◌, ◌≤◌, List, [], ◌++◌, refl, ap, sym, ◌∙◌, subst, arith, ◌⊎◌, inl, inr, Bool, true, false}
use Rattle.std.specs.Prelude.{if◌then◌else◌}
use Rattle.std.proofs.lemmas.Nat.{pow-add, mul-le}
use Rattle.std.proofs.lemmas.Bool.{cases_lt}
use Rattle.select_trace.specs.Run.{Machine, Sym, run}
use Rattle.select_trace.specs.Code.{Operand, behind, copies_code, raised_code, clears_code, stores_code, sign_code, bytes_up_code, bytes_down_code, bytes_code, bit_shifts_code, in_place_code, Way, Left, Right, SignedRight}
use Rattle.select_trace.specs.Links.{Fine}
use Rattle.select_trace.specs.Ripples.{AreDistinct}
use Rattle.select_trace.specs.Copies.{Copied}
use Rattle.select_trace.specs.Fills.{Filled}
use Rattle.select_trace.specs.Values.{val}
use Rattle.select_trace.specs.Shifts.{GoneLeft, GoneRight, IsTop}
use Rattle.select_trace.specs.Constants.{Shifts}
use Rattle.c_ints.specs.declared.types.IntTy.{IntTy}
use Rattle.c_ints.specs.Range.{span}
use Rattle.select_trace.specs.Ints.{IsValue}
use Rattle.select_wide.specs.Single.{is_signed}
use Rattle.c_ints.specs.declared.operators.BinOp.TheVariants.{Shl, Shr}
use Rattle.select_trace.proofs.Vals.{run_append, val_same, val_below}
use Rattle.select_trace.proofs.Links.{nonzero}
use Rattle.select_trace.proofs.Copies.{copied}
use Rattle.select_trace.proofs.Division.{span as span_is}
use Rattle.select_trace.proofs.ShiftRight.{top_bit}
use Rattle.select_trace.proofs.Fills.{stored, cleared, Signed, sign_in, val_split, val_zero, val_fill}
use Rattle.select_trace.proofs.BitShifts.{part_of, SomeBits, some_bits}
use Rattle.select_trace.proofs.Operators.{Fits, bound}
use Rattle.select_trace.proofs.OperatorValues.{shl_value, shr_unsigned_value, shr_signed_value, small_mod}

-- ---- numbers
bits_of : (q r : ℕ) → 2 ^ (8 * q + r) ≡ 256 ^ q * 2 ^ r
bits_of q r = pow-add 2 (8 * q) r ∙ ap (λ x. x * 2 ^ r) (sym (span_is q))

-- the upper part, shifted, behind zeros
whole_left : (q r w v low high u x over : ℕ) → 256 ^ q * 256 ^ w ≡ v → (n : ℕ) → n ≡ low + 256 ^ w * high → u + 256 ^ w * over ≡ low * 2 ^ r → x ≡ 256 ^ q * u → GoneLeft v n (8 * q + r) x
whole_left q r w v low high u x over e n is gone xs = (over + high * 2 ^ r, at (256 ^ q) (256 ^ w) v (2 ^ r) (2 ^ (8 * q + r)) low high u x over n e is gone xs (bits_of q r))
  where
    at : (p b v t d low high u x over n : ℕ) → p * b ≡ v → n ≡ low + b * high → u + b * over ≡ low * t → x ≡ p * u → d ≡ p * t → x + v * (over + high * t) ≡ n * d
    at p b v t d low high u x over n e is gone xs ds =
        let f : p * (u + b * over) ≡ p * (low * t) = ap (λ z. p * z) gone in
        let g : p * b * over ≡ v * over = ap (λ z. z * over) e in
        let h : p * b * (high * t) ≡ v * (high * t) = ap (λ z. z * (high * t)) e in
        let i : n * d ≡ (low + b * high) * (p * t) = ap (λ z. z * d) is ∙ ap (λ z. (low + b * high) * z) ds in
        omega (arith, f, g, h, i, xs)

-- the lower part, shifted, with copies of s before it
whole_right : (s q r w v n low a x y fill : ℕ) → 256 ^ q * 256 ^ w ≡ v → n ≡ low + 256 ^ q * a → low < 256 ^ q → GoneRight (256 ^ w) s a r x → y ≡ x + 256 ^ w * fill → fill + s ≡ 256 ^ q * s → GoneRight v s n (8 * q + r) y
whole_right s q r w v n low a x y fill e is small g ys fs = record {
  rest = low + 256 ^ q * g.rest;
  small = below (256 ^ q) (2 ^ r) (2 ^ (8 * q + r)) low g.rest (bits_of q r) small g.small;
  is = at (256 ^ q) (256 ^ w) v (2 ^ r) (2 ^ (8 * q + r)) s n low a x y fill g.rest e is g.is ys fs (bits_of q r);
}
  where
    below : (p t d low r : ℕ) → d ≡ p * t → low < p → r < t → low + p * r < d
    below p t d low r e a b = let h : p * suc r ≤ p * t = mul-le p (suc r) p t (omega arith) b in let i : p * suc r ≡ p * r + p = omega arith in omega (arith, h, i)

    at : (p b v t d s n low a x y fill r : ℕ) → p * b ≡ v → n ≡ low + p * a → a + b * s * t ≡ x * t + r + b * s → y ≡ x + b * fill → fill + s ≡ p * s → d ≡ p * t → n + v * s * d ≡ y * d + (low + p * r) + v * s
    at p b v t d s n low a x y fill r e is g ys fs ds =
        let g2 : p * (a + b * s * t) ≡ p * (x * t + r + b * s) = ap (λ z. p * z) g in
        let f2 : b * (fill + s) ≡ b * (p * s) = ap (λ z. b * z) fs in
        let y2 : y + b * s ≡ x + v * s = let k : p * b * s ≡ v * s = ap (λ z. z * s) e in omega (arith, ys, f2, k) in
        let y3 : (y + b * s) * d ≡ (x + v * s) * d = ap (λ z. z * d) y2 in
        let v2 : p * b * s ≡ v * s = ap (λ z. z * s) e in
        let d1 : b * s * d ≡ b * s * (p * t) = ap (λ z. b * s * z) ds in
        let d2 : x * d ≡ x * (p * t) = ap (λ z. x * z) ds in
        let v3 : p * b * (s * t) ≡ v * (s * t) = ap (λ z. z * (s * t)) e in
        omega (arith, is, g2, y3, v2, d1, d2, v3)

-- ---- whole bytes up
record Raised (t u : Machine) (at : Operand) (width q : ℕ) : Type 0 where
  fine : Fine u
  low : (j : ℕ) → j < q → u.memory (at j) ≡ 0
  high : (j : ℕ) → j < width - q → u.memory (at (q + j)) ≡ t.memory (at j)
  others : (a : ℕ) → ((j : ℕ) → j < width → a ≡ at j → ⊥) → u.memory a ≡ t.memory a

raised : (clearable : Bool) (at : Operand) (width q : ℕ) → q < width → AreDistinct width at → (t : Machine) → Fine t → Raised t (run (bytes_up_code clearable at width q) t) at width q
raised clearable at width q less distinct t ok =
    subst (λ (v : Machine). Raised t v at width q) (sym (run_append (raised_code at width q) (clears_code clearable at q) t)) (record {
      fine = k.fine;
      low = k.fills;
      high = λ j lt.
          k.others (at (q + j)) (λ i li e. distinct i (q + j) (omega arith) (omega arith) (sym e))
          ∙ ap (λ n. u.memory (at n)) (let e : q + j ≡ width - 1 - (width - q - 1 - j) = omega arith in e)
          ∙ h.copies (width - q - 1 - j) (omega arith)
          ∙ ap (λ n. t.memory (at n)) (let e : width - 1 - (width - q - 1 - j) - q ≡ j = omega arith in e);
      others = λ a no. k.others a (λ j lt. no j (omega arith)) ∙ h.others a (λ j lt. no (width - 1 - j) (omega arith));
    })
  where
    u : Machine
    u = run (raised_code at width q) t

    apart2 : (i j n : ℕ) → (i ≡ j → ⊥) → i < n → j < n → AreDistinct n at → at i ≡ at j → ⊥
    apart2 i j n ne li lj d e = elim (cases_lt i j) [ inl lt ↦ d i j lt lj e | inr ge ↦ d j i (omega arith) li (sym e) ]

    h : Copied t.memory u (λ k. at (width - 1 - k)) (λ k. at (width - 1 - k - q)) (width - q)
    h = copied (λ k. at (width - 1 - k)) (λ k. at (width - 1 - k - q)) (width - q) (λ j k l m e. distinct (width - 1 - k) (width - 1 - j) (omega arith) (omega arith) (sym e))
        (λ j k l m e. distinct (width - 1 - k - q) (width - 1 - j) (omega arith) (omega arith) (sym e)) t ok (width - q) (omega arith)

    k : Filled u.memory (run (clears_code clearable at q) u) at 0 q
    k = cleared clearable at q (λ i j l m e. distinct i j l (omega arith) e) u h.fine

-- ---- whole bytes down
record Lowered (t u : Machine) (at : Operand) (width q s : ℕ) : Type 0 where
  fine : Fine u
  low : (j : ℕ) → j < width - q → u.memory (at j) ≡ t.memory (at (q + j))
  high : (j : ℕ) → j < q → u.memory (at (width - q + j)) ≡ 255 * s
  others : (a : ℕ) → ((j : ℕ) → j < width → a ≡ at j → ⊥) → u.memory a ≡ t.memory a

lowered_copies : (at : Operand) (width q : ℕ) → q < width → AreDistinct width at → (t : Machine) → Fine t → Copied t.memory (run (copies_code at (behind at q) (width - q)) t) at (behind at q) (width - q)
lowered_copies at width q less distinct t ok = copied at (behind at q) (width - q) (λ j k l m e. distinct j k l (omega arith) e) (λ j k l m e. distinct j (q + k) (omega arith) (omega arith) e) t ok (width - q) (omega arith)

lowered_from : (t u v : Machine) (at : Operand) (width q s : ℕ) → q < width → AreDistinct width at → Copied t.memory u at (behind at q) (width - q) → Filled u.memory v (behind at (width - q)) (255 * s) q → Lowered t v at width q s
lowered_from t u v at width q s less distinct h k = record {
  fine = k.fine;
  low = λ j lt. k.others (at j) (λ i li e. distinct j (width - q + i) (omega arith) (omega arith) e) ∙ h.copies j lt;
  high = k.fills;
  others = λ a no. k.others a (λ j lt. no (width - q + j) (omega arith)) ∙ h.others a (λ j lt. no j (omega arith));
}

lowered_plain : (clearable : Bool) (at : Operand) (width q : ℕ) → q < width → AreDistinct width at → (t : Machine) → Fine t → Lowered t (run (bytes_down_code clearable false at width q) t) at width q 0
lowered_plain clearable at width q less distinct t ok =
    let u : Machine = run (copies_code at (behind at q) (width - q)) t in
    let h : Copied t.memory u at (behind at q) (width - q) = lowered_copies at width q less distinct t ok in
    subst (λ (v : Machine). Lowered t v at width q 0) (sym (run_append (copies_code at (behind at q) (width - q)) (clears_code clearable (behind at (width - q)) q) t))
    (lowered_from t u _ at width q 0 less distinct h (cleared clearable (behind at (width - q)) q (λ i j l m e. distinct (width - q + i) (width - q + j) (omega arith) (omega arith) e) u h.fine))

lowered_signed : (clearable : Bool) (at : Operand) (width q : ℕ) → q < width → AreDistinct width at → (t : Machine) → Fine t → Lowered t (run (bytes_down_code clearable true at width q) t) at width q (t.memory (at (width - 1)) / 128)
lowered_signed clearable at width q less distinct t ok =
    let u : Machine = run (copies_code at (behind at q) (width - q)) t in
    let h : Copied t.memory u at (behind at q) (width - q) = lowered_copies at width q less distinct t ok in
    let x : ℕ = u.memory (at (width - q - 1)) in
    let is : x ≡ t.memory (at (width - 1)) = h.copies (width - q - 1) (omega arith) ∙ ap (λ n. t.memory (at n)) (let e : q + (width - q - 1) ≡ width - 1 = omega arith in e) in
    let w : Machine = run (sign_code (at (width - q - 1))) u in
    let s : Signed u w x = sign_in (at (width - q - 1)) u h.fine in
    let b : x < 256 = h.fine.bytes (at (width - q - 1)) in
    let f : Filled w.memory (run (stores_code (behind at (width - q)) q) w) (behind at (width - q)) (255 * (x / 128)) q = stored (behind at (width - q)) (255 * (x / 128)) q (omega arith) (λ i j l m e. distinct (width - q + i) (width - q + j) (omega arith) (omega arith) e) w s.fine s.w in
    let g : Filled u.memory (run (stores_code (behind at (width - q)) q) w) (behind at (width - q)) (255 * (t.memory (at (width - 1)) / 128)) q = record { fine = f.fine; fills = λ j lt. f.fills j lt ∙ ap (λ n. 255 * (n / 128)) is; others = λ a no. f.others a no ∙ s.same a } in
    let e : run (bytes_down_code clearable true at width q) t ≡ run (stores_code (behind at (width - q)) q) w =
    run_append (copies_code at (behind at q) (width - q)) (sign_code (at (width - q - 1)) ++ stores_code (behind at (width - q)) q) t ∙ run_append (sign_code (at (width - q - 1))) (stores_code (behind at (width - q)) q) u in
    subst (λ (v : Machine). Lowered t v at width q (t.memory (at (width - 1)) / 128)) (sym e) (lowered_from t u _ at width q (t.memory (at (width - 1)) / 128) less distinct h g)

-- ---- both
-- by whole bytes alone; by none, nothing is done
up_by : (clearable : Bool) (at : Operand) (width q : ℕ) → q < width → AreDistinct width at → (t : Machine) → Fine t → Raised t (run (bytes_code clearable Left at width q) t) at width q
up_by clearable at width zero less distinct t ok = record { fine = ok; low = λ j lt. absurd (omega arith); high = λ j lt. ap (λ n. t.memory (at n)) (let e : 0 + j ≡ j = omega arith in e); others = λ a no. refl }
up_by clearable at width (suc q) less distinct t ok = subst (λ (xs : List Sym). Raised t (run xs t) at width (suc q)) (ap (λ b. if b then [] else bytes_up_code clearable at width (suc q)) (sym (nonzero q))) (raised clearable at width (suc q) less distinct t ok)

down_by : (clearable : Bool) (at : Operand) (width q : ℕ) → q < width → AreDistinct width at → (t : Machine) → Fine t → Lowered t (run (bytes_code clearable Right at width q) t) at width q 0
down_by clearable at width zero less distinct t ok = record { fine = ok; low = λ j lt. ap (λ n. t.memory (at n)) (let e : j ≡ 0 + j = omega arith in e); high = λ j lt. absurd (omega arith); others = λ a no. refl }
down_by clearable at width (suc q) less distinct t ok = subst (λ (xs : List Sym). Lowered t (run xs t) at width (suc q) 0) (ap (λ b. if b then [] else bytes_down_code clearable false at width (suc q)) (sym (nonzero q))) (lowered_plain clearable at width (suc q) less distinct t ok)

signed_by : (clearable : Bool) (at : Operand) (width q : ℕ) → q < width → AreDistinct width at → (t : Machine) → Fine t → Lowered t (run (bytes_code clearable SignedRight at width q) t) at width q (t.memory (at (width - 1)) / 128)
signed_by clearable at width zero less distinct t ok = record { fine = ok; low = λ j lt. ap (λ n. t.memory (at n)) (let e : j ≡ 0 + j = omega arith in e); high = λ j lt. absurd (omega arith); others = λ a no. refl }
signed_by clearable at width (suc q) less distinct t ok = subst (λ (xs : List Sym). Lowered t (run xs t) at width (suc q) (t.memory (at (width - 1)) / 128)) (ap (λ b. if b then [] else bytes_down_code clearable true at width (suc q)) (sym (nonzero q))) (lowered_signed clearable at width (suc q) less distinct t ok)

pub left_by : (clearable : Bool) (at : Operand) (width count : ℕ) → count / 8 < width → AreDistinct width at → (t : Machine) → Fine t → Shifts Left 0 t (run (in_place_code clearable Left at width count) t) at width count
left_by clearable at width count less distinct t ok =
    subst (λ (x : Machine). Shifts Left 0 t x at width count) (sym (run_append (bytes_code clearable Left at width q) (bit_shifts_code Left at width q (count % 8)) t)) (record {
      fine = h.within.fine;
      gone = subst (λ (c : ℕ). GoneLeft (256 ^ width) (val (λ j. t.memory (at j)) width) c (val (λ j. v.memory (at j)) width)) (let e : 8 * q + count % 8 ≡ count = omega arith in e)
          (whole_left q (count % 8) w (256 ^ width) low high up2 (val (λ j. v.memory (at j)) width) h.gone.0 parts (val (λ j. t.memory (at j)) width) old h.gone.1 new);
      others = λ a no. h.within.others a (λ j lt. no (q + j) (omega arith)) ∙ r.others a no;
    })
  where
    q : ℕ
    q = count / 8

    w : ℕ
    w = width - q

    u : Machine
    u = run (bytes_code clearable Left at width q) t

    r : Raised t u at width q
    r = up_by clearable at width q less distinct t ok

    v : Machine
    v = run (bit_shifts_code Left at width q (count % 8)) u

    low : ℕ
    low = val (λ j. t.memory (at j)) w

    high : ℕ
    high = val (λ j. t.memory (at (w + j))) q

    up2 : ℕ
    up2 = val (λ j. v.memory (at (q + j))) w

    start : GoneLeft (256 ^ w) low 0 (val (λ j. u.memory (at (q + j))) w)
    start = (0, plain (256 ^ w) (val (λ j. u.memory (at (q + j))) w) low (val_same _ _ w (λ j lt. r.high j lt)))
      where
        plain : (b x y : ℕ) → x ≡ y → x + b * 0 ≡ y * 1
        plain b x y e = omega arith

    h : SomeBits Left 0 low u v (behind at q) w (count % 8)
    h = some_bits Left 0 low at width q less distinct u r.fine start (count % 8)

    parts : 256 ^ q * 256 ^ w ≡ 256 ^ width
    parts = sym (pow-add 256 q w) ∙ ap (λ k. 256 ^ k) (let e : q + w ≡ width = omega arith in e)

    old : val (λ j. t.memory (at j)) width ≡ low + 256 ^ w * high
    old = ap (val (λ j. t.memory (at j))) (let e : width ≡ w + q = omega arith in e) ∙ val_split (λ j. t.memory (at j)) w q

    new : val (λ j. v.memory (at j)) width ≡ 256 ^ q * up2
    new = ap (val (λ j. v.memory (at j))) (let e : width ≡ q + w = omega arith in e) ∙ val_split (λ j. v.memory (at j)) q w
        ∙ ap (λ x. x + 256 ^ q * up2) (val_zero (λ j. v.memory (at j)) q (λ j lt. h.within.others (at j) (λ i li e. distinct j (q + i) (omega arith) (omega arith) e) ∙ r.low j lt)) ∙ zero_add (256 ^ q * up2)
      where
        zero_add : (x : ℕ) → 0 + x ≡ x
        zero_add x = omega arith

-- to the right: s comes in from above
rightward : (way : Way) (s : ℕ) (at : Operand) (width q r : ℕ) → q < width → s < 2 → AreDistinct width at → (t u v : Machine) → Fine t → part_of way at q ≡ at → Lowered t u at width q s → SomeBits way s (val (λ j. u.memory (at j)) (width - q)) u v at (width - q) r →
    GoneRight (256 ^ (width - q)) s (val (λ j. u.memory (at j)) (width - q)) r (val (λ j. v.memory (at j)) (width - q)) → GoneRight (256 ^ width) s (val (λ j. t.memory (at j)) width) (8 * q + r) (val (λ j. v.memory (at j)) width)
rightward way s at width q r less ss distinct t u v ok p low h g =
    let w : ℕ = width - q in
    let parts : 256 ^ q * 256 ^ w ≡ 256 ^ width = sym (pow-add 256 q w) ∙ ap (λ k. 256 ^ k) (let e : q + w ≡ width = omega arith in e) in
    let same : val (λ j. u.memory (at j)) w ≡ val (λ j. t.memory (at (q + j))) w = val_same _ _ w (λ j lt. low.low j lt) in
    let old : val (λ j. t.memory (at j)) width ≡ val (λ j. t.memory (at j)) q + 256 ^ q * val (λ j. u.memory (at j)) w =
    ap (val (λ j. t.memory (at j))) (let e : width ≡ q + w = omega arith in e) ∙ val_split (λ j. t.memory (at j)) q w ∙ ap (λ x. val (λ j. t.memory (at j)) q + 256 ^ q * x) (sym same) in
    let new : val (λ j. v.memory (at j)) width ≡ val (λ j. v.memory (at j)) w + 256 ^ w * val (λ j. v.memory (at (w + j))) q =
    ap (val (λ j. v.memory (at j))) (let e : width ≡ w + q = omega arith in e) ∙ val_split (λ j. v.memory (at j)) w q in
    let fill : val (λ j. v.memory (at (w + j))) q + s ≡ 256 ^ q * s = val_fill (λ j. v.memory (at (w + j))) q s ss (λ j lt. h.within.others (at (w + j)) (λ i li e. distinct i (w + j) (omega arith) (omega arith) (sym e)) ∙ low.high j lt) in
    whole_right s q r w (256 ^ width) (val (λ j. t.memory (at j)) width) (val (λ j. t.memory (at j)) q) (val (λ j. u.memory (at j)) w) (val (λ j. v.memory (at j)) w) (val (λ j. v.memory (at j)) width) (val (λ j. v.memory (at (w + j))) q)
    parts old (val_below (λ j. t.memory (at j)) q (λ j lt. ok.bytes (at j))) g new fill

begin_right : (b s n : ℕ) → GoneRight b s n 0 n
begin_right b s n = record { rest = 0; small = omega arith; is = omega arith }

pub right_by : (clearable : Bool) (at : Operand) (width count : ℕ) → count / 8 < width → AreDistinct width at → (t : Machine) → Fine t → Shifts Right 0 t (run (in_place_code clearable Right at width count) t) at width count
right_by clearable at width count less distinct t ok =
    let q : ℕ = count / 8 in
    let u : Machine = run (bytes_code clearable Right at width q) t in
    let low : Lowered t u at width q 0 = down_by clearable at width q less distinct t ok in
    let v : Machine = run (bit_shifts_code Right at width q (count % 8)) u in
    let h : SomeBits Right 0 (val (λ j. u.memory (at j)) (width - q)) u v at (width - q) (count % 8) = some_bits Right 0 (val (λ j. u.memory (at j)) (width - q)) at width q less distinct u low.fine (begin_right (256 ^ (width - q)) 0 (val (λ j. u.memory (at j)) (width - q))) (count % 8) in
    subst (λ (x : Machine). Shifts Right 0 t x at width count) (sym (run_append (bytes_code clearable Right at width q) (bit_shifts_code Right at width q (count % 8)) t)) (record {
      fine = h.within.fine;
      gone = subst (λ (c : ℕ). GoneRight (256 ^ width) 0 (val (λ j. t.memory (at j)) width) c (val (λ j. v.memory (at j)) width)) (let e : 8 * q + count % 8 ≡ count = omega arith in e)
          (rightward Right 0 at width q (count % 8) less (omega arith) distinct t u v ok refl low h h.gone);
      others = λ a no. h.within.others a (λ j lt. no j (omega arith)) ∙ low.others a no;
    })

-- the number's highest bit comes in, and stays the highest
top_after : (b s n i a : ℕ) → a < b → n < b → GoneRight b s n i a → IsTop b n s → IsTop b a s
top_after b s n i a ab nb g top = elim top [
  | inl one ↦ inl (one.0, let e : n + b * 1 * 2 ^ i ≡ a * 2 ^ i + g.rest + b * 1 = subst (λ (x : ℕ). n + b * x * 2 ^ i ≡ a * 2 ^ i + g.rest + b * x) one.0 g.is in high b n a (2 ^ i) g.rest one.1 g.small e)
  | inr none ↦ inr (none.0, let e : n + b * 0 * 2 ^ i ≡ a * 2 ^ i + g.rest + b * 0 = subst (λ (x : ℕ). n + b * x * 2 ^ i ≡ a * 2 ^ i + g.rest + b * x) none.0 g.is in low b n a (2 ^ i) g.rest none.1 g.small e)
]
  where
    low : (b n a p r : ℕ) → 2 * n < b → r < p → n + b * 0 * p ≡ a * p + r + b * 0 → 2 * a < b
    low b n a p r lt rp e = let h : a * 1 ≤ a * p = mul-le a 1 a p (omega arith) (omega arith) in omega (arith, e, h, lt)

    refuted : (c q n a r b p : ℕ) → b ≡ c + 1 → p ≡ q + 1 → b * p ≡ (c + 1) * (q + 1) → n + b * 1 * p ≡ a * p + r + b * 1 → suc (2 * a) * p ≤ b * p → b ≤ 2 * n → r < p → ⊥
    refuted c q n a r b p eb ep k e h le rp = omega (arith, k, e, h)

    high : (b n a p r : ℕ) → b ≤ 2 * n → r < p → n + b * 1 * p ≡ a * p + r + b * 1 → b ≤ 2 * a
    high b n a p r le rp e = elim (cases_lt (2 * a) b) [
      | inl lt ↦
          let h : suc (2 * a) * p ≤ b * p = mul-le (suc (2 * a)) p b p lt (omega arith) in
          let eb : b ≡ b - 1 + 1 = omega arith in
          let ep : p ≡ p - 1 + 1 = omega arith in
          let k : b * p ≡ (b - 1 + 1) * (p - 1 + 1) = ap (λ z. z * p) eb ∙ ap (λ z. (b - 1 + 1) * z) ep in
          absurd (refuted (b - 1) (p - 1) n a r b p eb ep k e h le rp)
      | inr ge ↦ ge
    ]

pub signed_right_by : (clearable : Bool) (s : ℕ) (at : Operand) (width count : ℕ) → count / 8 < width → AreDistinct width at → (t : Machine) → Fine t → IsTop (256 ^ width) (val (λ j. t.memory (at j)) width) s → Shifts SignedRight s t (run (in_place_code clearable SignedRight at width count) t) at width count
signed_right_by clearable s at width count less distinct t ok top =
    subst (λ (x : Machine). Shifts SignedRight s t x at width count) (sym (run_append (bytes_code clearable SignedRight at width q) (bit_shifts_code SignedRight at width q (count % 8)) t)) (record {
      fine = h.within.fine;
      gone = (gone, top_after (256 ^ width) s _ count _ (val_below (λ j. v.memory (at j)) width (λ j lt. h.within.fine.bytes (at j))) (val_below (λ j. t.memory (at j)) width (λ j lt. ok.bytes (at j))) gone top);
      others = λ a no. h.within.others a (λ j lt. no j (omega arith)) ∙ low.others a no;
    })
  where
    q : ℕ
    q = count / 8

    u : Machine
    u = run (bytes_code clearable SignedRight at width q) t

    sign : t.memory (at (width - 1)) / 128 ≡ s
    sign = top_is _ _ _ _ (top_bit (λ j. t.memory (at j)) width (omega arith) (λ j lt. ok.bytes (at j))) (ok.bytes (at (width - 1))) top
      where
        top_is : (x b a s : ℕ) → ((128 ≤ x) × (b ≤ 2 * a)) ⊎ ((x < 128) × (2 * a < b)) → x < 256 → IsTop b a s → x / 128 ≡ s
        top_is x b a s h lt t = elim h [
          | inl hi ↦ elim t [ inl one ↦ (omega (arith, hi.0)) ∙ sym one.0 | inr none ↦ absurd (omega (arith, hi.1, none.1)) ]
          | inr lo ↦ elim t [ inl one ↦ absurd (omega (arith, lo.1, one.1)) | inr none ↦ (omega (arith, lo.0)) ∙ sym none.0 ]
        ]

    small : s < 2
    small = let b : t.memory (at (width - 1)) < 256 = ok.bytes (at (width - 1)) in omega (arith, sign)

    low : Lowered t u at width q s
    low = subst (λ (x : ℕ). Lowered t u at width q x) sign (signed_by clearable at width q less distinct t ok)

    -- the part that is left has the same highest bit
    top2 : IsTop (256 ^ (width - q)) (val (λ j. u.memory (at j)) (width - q)) s
    top2 = elim (top_bit (λ j. u.memory (at j)) (width - q) (omega arith) (λ j lt. low.fine.bytes (at j))) [
      | inl hi ↦ inl (let b : byte < 256 = low.fine.bytes (at (width - q - 1)) in sym same ∙ omega (arith, hi.0), hi.1)
      | inr lo ↦ inr (sym same ∙ omega (arith, lo.0), lo.1)
    ]
      where
        byte : ℕ
        byte = u.memory (at (width - q - 1))

        same : byte / 128 ≡ s
        same = ap (λ n. n / 128) (low.low (width - q - 1) (omega arith) ∙ ap (λ n. t.memory (at n)) (let e : q + (width - q - 1) ≡ width - 1 = omega arith in e)) ∙ sign

    v : Machine
    v = run (bit_shifts_code SignedRight at width q (count % 8)) u

    h : SomeBits SignedRight s (val (λ j. u.memory (at j)) (width - q)) u v at (width - q) (count % 8)
    h = some_bits SignedRight s (val (λ j. u.memory (at j)) (width - q)) at width q less distinct u low.fine (begin_right (256 ^ (width - q)) s (val (λ j. u.memory (at j)) (width - q)), top2) (count % 8)

    gone : GoneRight (256 ^ width) s (val (λ j. t.memory (at j)) width) count (val (λ j. v.memory (at j)) width)
    gone = subst (λ (c : ℕ). GoneRight (256 ^ width) s (val (λ j. t.memory (at j)) width) c (val (λ j. v.memory (at j)) width)) (let e : 8 * q + count % 8 ≡ count = omega arith in e)
        (rightward SignedRight s at width q (count % 8) less small distinct t u v ok refl low h h.gone.0)

-- ---- values
pub left_value : (ty : IntTy) (t u : Machine) (at : Operand) (w count : ℕ) → Fits ty w → count < 256 → Fine t → Shifts Left 0 t u at w count → IsValue Shl ty (val (λ j. t.memory (at j)) w) count (val (λ j. u.memory (at j)) w)
left_value ty t u at w count e lt ok h =
    let b : 256 ^ w ≡ span ty = bound ty w e in
    shl_value ty _ count _ (subst (λ (x : ℕ). val (λ j. t.memory (at j)) w < x) b (val_below (λ j. t.memory (at j)) w (λ j l. ok.bytes (at j)))) (subst (λ (x : ℕ). val (λ j. u.memory (at j)) w < x) b (val_below (λ j. u.memory (at j)) w (λ j l. h.fine.bytes (at j))))
    (subst (λ (x : ℕ). GoneLeft x (val (λ j. t.memory (at j)) w) (count % 256) (val (λ j. u.memory (at j)) w)) b (subst (λ (x : ℕ). GoneLeft (256 ^ w) (val (λ j. t.memory (at j)) w) x (val (λ j. u.memory (at j)) w)) (sym (small_mod count 256 lt)) h.gone))

pub right_value : (ty : IntTy) (t u : Machine) (at : Operand) (w count : ℕ) → is_signed ty ≡ false → Fits ty w → count < 256 → Fine t → Shifts Right 0 t u at w count → IsValue Shr ty (val (λ j. t.memory (at j)) w) count (val (λ j. u.memory (at j)) w)
right_value ty t u at w count s e lt ok h =
    let b : 256 ^ w ≡ span ty = bound ty w e in
    shr_unsigned_value ty _ count _ s (subst (λ (x : ℕ). val (λ j. t.memory (at j)) w < x) b (val_below (λ j. t.memory (at j)) w (λ j l. ok.bytes (at j))))
    (subst (λ (x : ℕ). GoneRight x 0 (val (λ j. t.memory (at j)) w) (count % 256) (val (λ j. u.memory (at j)) w)) b (subst (λ (x : ℕ). GoneRight (256 ^ w) 0 (val (λ j. t.memory (at j)) w) x (val (λ j. u.memory (at j)) w)) (sym (small_mod count 256 lt)) h.gone))

pub signed_right_value : (ty : IntTy) (t u : Machine) (at : Operand) (w count : ℕ) → is_signed ty ≡ true → Fits ty w → count < 256 → Fine t → ((s : ℕ) → IsTop (256 ^ w) (val (λ j. t.memory (at j)) w) s → Shifts SignedRight s t u at w count) → Fine u → IsValue Shr ty (val (λ j. t.memory (at j)) w) count (val (λ j. u.memory (at j)) w)
signed_right_value ty t u at w count s e lt ok h fu =
    let b : 256 ^ w ≡ span ty = bound ty w e in
    shr_signed_value ty _ count _ s (subst (λ (x : ℕ). val (λ j. t.memory (at j)) w < x) b (val_below (λ j. t.memory (at j)) w (λ j l. ok.bytes (at j)))) (subst (λ (x : ℕ). val (λ j. u.memory (at j)) w < x) b (val_below (λ j. u.memory (at j)) w (λ j l. fu.bytes (at j))))
    (subst (λ (y : ℕ). (s : ℕ) → IsTop y (val (λ j. t.memory (at j)) w) s → GoneRight y s (val (λ j. t.memory (at j)) w) (count % 256) (val (λ j. u.memory (at j)) w)) b
    (λ x top. subst (λ (c : ℕ). GoneRight (256 ^ w) x (val (λ j. t.memory (at j)) w) c (val (λ j. u.memory (at j)) w)) (sym (small_mod count 256 lt)) (h x top).gone.0))
