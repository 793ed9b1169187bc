-- One round of a division, in numbers.
use Rattle.std.proofs.Common.{◌≡◌, ℕ, suc, ◌+◌, ◌-◌, ◌*◌, ◌<◌, ◌≤◌, ap, sym, ◌∙◌, arith, inl, inr}
use Rattle.std.proofs.lemmas.Bool.{cases_lt}
use Rattle.std.proofs.lemmas.Nat.{same_from_place, mul-le}
use Rattle.select_trace.specs.Division.{Divides}

-- the topmost bit goes out
out : (b p s low g q bit x c : ℕ) → p * (2 * s) ≡ b → low < s → g < 2 → q < p → x + b * c ≡ (bit * s + low) * (2 * p) + g * p + q → x < b → (c ≡ bit) × (x ≡ low * (2 * p) + g * p + q)
out b p s low g q bit x c scale small gs qs e xs =
    let m : ℕ = low * (2 * p) + g * p + q in
    let top : suc low * (2 * p) ≤ s * (2 * p) = mul-le (suc low) (2 * p) s (2 * p) small (omega arith) in
    let gp : g * p ≤ 1 * p = mul-le g p 1 p (omega arith) (omega arith) in
    let below : low * (2 * p) + g * p + q < b = omega (arith, top, gp, scale) in
    let bs : bit * (p * (2 * s)) ≡ bit * b = ap (λ z. bit * z) scale in
    let is : c * b + x ≡ bit * b + m = omega (arith, bs, e) in
    same_from_place c x bit m b xs below is

finish : (n d g b p s low q r bit left1 c1 r1 c2 c3 r3 : ℕ) → p * (2 * s) ≡ b → low < s → q < p → n ≡ (q * d + r) * (2 * s) + (bit * s + low) → g < 2 → c1 ≡ bit → left1 ≡ low * (2 * p) + g * p + q →
    r1 + b * c2 ≡ 2 * r + c1 → r1 + b * c2 ≡ c3 * d + r3 → r3 < d → c3 < 2 → Divides n d g b (2 * p) s left1 r3 c3
finish n d g b p s low q r bit left1 c1 r1 c2 c3 r3 scale small qs split gs cb lb rr off rest cs = record {
  low = low;
  quotient = 2 * q + c3;
  scale = omega (arith, scale);
  low_small = small;
  quotient_small = omega arith;
  split =
      let e : c3 * d + r3 ≡ 2 * r + bit = sym off ∙ rr ∙ ap (λ z. 2 * r + z) cb in
      let e2 : (c3 * d + r3) * s ≡ (2 * r + bit) * s = ap (λ z. z * s) e in
      omega (arith, e2, split);
  rest = rest;
  left_is = omega (arith, lb);
}

pub round : (n d g b p s left r c left1 c1 r1 c2 c3 r3 : ℕ) → Divides n d g b p (2 * s) left r c → g < 2 →
    left1 + b * c1 ≡ 2 * left + c → left1 < b → r1 + b * c2 ≡ 2 * r + c1 → r1 + b * c2 ≡ c3 * d + r3 → r3 < d → c3 < 2 → Divides n d g b (2 * p) s left1 r3 c3
round n d g b p s left r c left1 c1 r1 c2 c3 r3 h gs shift small rr off rest cs = elim (cases_lt h.low s) [
  | inl lt ↦
      let e : left1 + b * c1 ≡ (0 * s + h.low) * (2 * p) + g * p + h.quotient = shift ∙ h.left_is ∙ ap (λ z. z * (2 * p) + g * p + h.quotient) (omega arith) in
      let o = out b p s h.low g h.quotient 0 left1 c1 h.scale lt gs h.quotient_small e small in
      finish n d g b p s h.low h.quotient r 0 left1 c1 r1 c2 c3 r3 h.scale lt h.quotient_small (h.split ∙ ap (λ z. (h.quotient * d + r) * (2 * s) + z) (omega arith)) gs o.0 o.1 rr off rest cs
  | inr ge ↦
      let low : ℕ = h.low - s in
      let is : h.low ≡ 1 * s + low = omega arith in
      let e : left1 + b * c1 ≡ (1 * s + low) * (2 * p) + g * p + h.quotient = shift ∙ h.left_is ∙ ap (λ z. z * (2 * p) + g * p + h.quotient) is in
      let lt : low < s = omega (arith, h.low_small) in
      let o = out b p s low g h.quotient 1 left1 c1 h.scale lt gs h.quotient_small e small in
      finish n d g b p s low h.quotient r 1 left1 c1 r1 c2 c3 r3 h.scale lt h.quotient_small (h.split ∙ ap (λ z. (h.quotient * d + r) * (2 * s) + z) is) gs o.0 o.1 rr off rest cs
]

-- after all bits, the left operand shifted once more is the quotient
pub ended : (n d g b p left r c x e : ℕ) → Divides n d g b p 1 left r c → x + b * e ≡ 2 * left + c → x < b → (n ≡ x * d + r) × (r < d)
ended n d g b p left r c x e h shift small =
    let zero : h.low ≡ 0 = omega (arith, h.low_small) in
    let pb : p ≡ b = omega (arith, h.scale) in
    let gp : g * p ≡ g * b = ap (λ z. g * z) pb in
    let low : h.low * (2 * p) ≡ 0 * (2 * p) = ap (λ z. z * (2 * p)) zero in
    let is : e * b + x ≡ g * b + h.quotient = omega (arith, gp, low, h.left_is, shift) in
    let q : x ≡ h.quotient = (same_from_place e x g h.quotient b small (rw pb at h.quotient_small) is).1 in
    (rw q (omega (arith, h.split, zero)), h.rest)
