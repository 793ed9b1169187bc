-- One bit to the right, from the highest byte on.
use Rattle.std.proofs.Common.{◌≡◌, ℕ, zero, suc, ◌+◌, ◌-◌, ◌*◌, ◌/◌, ◌%◌, ◌^◌, ◌<◌, ◌≤◌, [], ◌∷◌, refl, ap, sym, ◌∙◌, subst, arith, ◌⊎◌, inl, inr}
use Rattle.std.proofs.Math.Nat.{pow-suc}
use Rattle.std.proofs.lemmas.Nat.{mul-le}
use Rattle.std.proofs.lemmas.Bool.{cases_lt}
use Rattle.std.proofs.lemmas.Bool.Decides.{nat_tests}
use Rattle.sym_code.specs.Registers.{Registers}
use Rattle.sym_code.specs.declared.code.FileOperation.TheVariants.{Rlf, Rrf}
use Rattle.sym_code.specs.Effect.{Memory}
use Rattle.select_trace.specs.Run.{Machine, Row, going, run}
use Rattle.sym_code.specs.declared.code.Into.TheVariants.{W, File}
use Rattle.select_trace.specs.Code.{rising}
use Rattle.select_trace.specs.Links.{Fine}
use Rattle.select_trace.specs.Ripples.{total, Changes, AreDistinct, Rippled}
use Rattle.select_trace.specs.Values.{val}
use Rattle.select_trace.specs.Helpers.{Layout, Answer, ShiftRight, step_code, each, AreApart}
use Rattle.select_trace.specs.Steps.{number_of, Steps}
use Rattle.select_trace.proofs.Vals.{going_is, val_below, val_same}
use Rattle.select_trace.proofs.Ripples.{rippled}
use Rattle.select_trace.proofs.RoutineSteps.{carry_of, one_of, each_is}

-- from the highest byte on
abbrev pub downward : ℕ → ℕ → ℕ → ℕ
downward k v x = 256 * v + x

abbrev pub Halves : ℕ → ℕ → ℕ → ℕ → ℕ → Type 0
Halves k c x y d = 2 * y + d ≡ 256 * c + x

pub rrf : (r : Registers) (m : Memory) (a : ℕ) → m a < 256 → r.c < 2 → r.z < 2 → Changes carry_of (Halves 0) (going r m) (run (Row Rrf a File ∷ []) (going r m)) a
rrf r m a x c z = record {
  going = grind (arith, nat_tests);
  carry = grind (arith, nat_tests);
  zero = grind (arith, nat_tests);
  byte = grind (arith, nat_tests);
  has = grind (arith, nat_tests);
  others = λ b ne. grind (arith, nat_tests);
}

abbrev pub Halved : ℕ → ℕ → ℕ → ℕ → ℕ → Type 0
Halved c k v u d = 2 * u + d ≡ 256 ^ k * c + v

pub halved_more : (c k v u b x y d : ℕ) → Halved c k v u b → Halves k b x y d → Halved c (suc k) (downward k v x) (downward k u y) d
halved_more c k v u b x y d h s = more (256 ^ k) (256 ^ suc k) c v u b x y d (pow-suc 256 k) h s
  where
    more : (p q c v u b x y d : ℕ) → q ≡ p * 256 → 2 * u + b ≡ p * c + v → 2 * y + d ≡ 256 * b + x → 2 * (256 * u + y) + d ≡ q * c + (256 * v + x)
    more p q c v u b x y d e h s = let e2 : q * c ≡ p * 256 * c = ap (λ z. z * c) e in omega (arith, e2)

-- the lowest byte first, or the highest: the number is one
pub val_front : (f : ℕ → ℕ) (k : ℕ) → val f (suc k) ≡ f 0 + 256 * val (λ j. f (suc j)) k
val_front f zero = omega arith
val_front f (suc k) = more (256 ^ k) (256 ^ suc k) (val f (suc k)) (val (λ j. f (suc j)) k) (f 0) (f (suc k)) (pow-suc 256 k) (val_front f k)
  where
    more : (p q v w a x : ℕ) → q ≡ p * 256 → v ≡ a + 256 * w → v + q * x ≡ a + 256 * (w + p * x)
    more p q v w a x e h = let e2 : q * x ≡ p * 256 * x = ap (λ z. z * x) e in omega (arith, e2)

pub down_val : (f : ℕ → ℕ) (w k : ℕ) → k ≤ w → total downward (λ j. f (w - 1 - j)) k ≡ val (λ j. f (j + (w - k))) k
down_val f w zero le = refl
down_val f w (suc k) le =
    let first : total downward (λ j. f (w - 1 - j)) k ≡ val (λ j. f (j + (w - k))) k = down_val f w k (omega arith) in
    let moved : val (λ j. f (j + (w - k))) k ≡ val (λ j. f (suc j + (w - suc k))) k = val_same (λ j. f (j + (w - k))) (λ j. f (suc j + (w - suc k))) k (λ j lt. let e : j + (w - k) ≡ suc j + (w - suc k) = omega arith in ap f e) in
    let here : f (w - 1 - k) ≡ f (0 + (w - suc k)) = let e : w - 1 - k ≡ 0 + (w - suc k) = omega arith in ap f e in
    let front : val (λ j. f (j + (w - suc k))) (suc k) ≡ f (0 + (w - suc k)) + 256 * val (λ j. f (suc j + (w - suc k))) k = val_front (λ j. f (j + (w - suc k))) k in
    put _ _ _ _ _ _ first moved here front
  where
    put : (t v u x y z : ℕ) → t ≡ v → v ≡ u → x ≡ y → z ≡ y + 256 * u → 256 * t + x ≡ z
    put t v u x y z a b c d = omega arith

pub whole_val : (f : ℕ → ℕ) (w : ℕ) → total downward (λ j. f (w - 1 - j)) w ≡ val f w
whole_val f w = down_val f w w (omega arith) ∙ val_same (λ j. f (j + (w - w))) f w (λ j lt. let e : j + (w - w) ≡ j = omega arith in ap f e)

pub shift_right : (l : Layout) → AreApart l → (t : Machine) → Fine t →
    (2 * number_of l (run (each l ShiftRight) t) Answer + (run (each l ShiftRight) t).registers.c ≡ 256 ^ l.width * t.registers.c + number_of l t Answer) × (Steps l t (run (each l ShiftRight) t) Answer)
shift_right l apart t ok =
    let at : ℕ → ℕ = λ k. l.at Answer (l.width - 1 - k) in
    let distinct : AreDistinct l.width at = λ j k lt ltw e. apart.within Answer (l.width - 1 - k) (l.width - 1 - j) (omega arith) (omega arith) (sym e) in
    let h : Rippled carry_of downward (Halved t.registers.c) t (run (rising (step_code l ShiftRight) l.width) t) at l.width =
    rippled carry_of downward Halves (Halved t.registers.c) (step_code l ShiftRight) at l.width (λ k lt. one_of carry_of (Halves k) (step_code l ShiftRight k) (at k) (λ r m. rrf r m (at k))) distinct
    (λ k v u c x y d lt. halved_more t.registers.c k v u c x y d) t ok (start t.registers.c) l.width (omega arith) in
    let h2 : Rippled carry_of downward (Halved t.registers.c) t (run (each l ShiftRight) t) at l.width = rw (each_is l ShiftRight l.width) at h in
    let u : Machine = run (each l ShiftRight) t in
    let a : total downward (λ j. t.memory (at j)) l.width ≡ number_of l t Answer = whole_val (λ j. t.memory (l.at Answer j)) l.width in
    let b : total downward (λ j. u.memory (at j)) l.width ≡ number_of l u Answer = whole_val (λ j. u.memory (l.at Answer j)) l.width in (
      ap (λ x. 2 * x + u.registers.c) (sym b) ∙ h2.has ∙ ap (λ x. 256 ^ l.width * t.registers.c + x) a,
      record { fine = h2.fine; others = λ x no. h2.others x (λ j lt e. no (l.width - 1 - j) (omega arith) e) },
    )
  where
    start : (c : ℕ) → 2 * 0 + c ≡ 1 * c + 0
    start c = omega arith

-- the highest bit of a number is that of its highest byte
pub top_bit : (f : ℕ → ℕ) (w : ℕ) → 0 < w → ((j : ℕ) → j < w → f j < 256) → ((128 ≤ f (w - 1)) × (256 ^ w ≤ 2 * val f w)) ⊎ ((f (w - 1) < 128) × (2 * val f w < 256 ^ w))
top_bit f zero pos h = absurd (omega arith)
top_bit f (suc k) pos h =
    let e : k ≡ suc k - 1 = omega arith in
    subst (λ (x : ℕ). ((128 ≤ f x) × (256 ^ suc k ≤ 2 * val f (suc k))) ⊎ ((f x < 128) × (2 * val f (suc k) < 256 ^ suc k))) e
    (at (256 ^ k) (256 ^ suc k) (val f k) (f k) (pow-suc 256 k) (val_below f k (λ j lt. h j (omega arith))) (h k (omega arith)))
  where
    at : (p q v x : ℕ) → q ≡ p * 256 → v < p → x < 256 → ((128 ≤ x) × (q ≤ 2 * (v + p * x))) ⊎ ((x < 128) × (2 * (v + p * x) < q))
    at p q v x e vs xs = elim (cases_lt x 128) [
      | inl lt ↦ let h : p * x ≤ p * 127 = mul-le p x p 127 (omega arith) (omega arith) in inr (lt, omega (arith, h, e))
      | inr ge ↦ let h : p * 128 ≤ p * x = mul-le p 128 p x (omega arith) ge in inl (ge, omega (arith, h, e))
    ]

pub record TopOf (t u : Machine) (x : ℕ) : Type 0 where
  pub fine : Fine u
  pub carry : u.registers.c ≡ x / 128 % 2
  pub same : (a : ℕ) → u.memory a ≡ t.memory a

-- C becomes the highest bit of a byte
pub to_carry : (t : Machine) → Fine t → (a : ℕ) → TopOf t (run (Row Rlf a W ∷ []) t) (t.memory a)
to_carry t ok a = subst (λ (v : Machine). Fine v → TopOf v (run (Row Rlf a W ∷ []) v) (v.memory a)) (going_is t ok.going) (at t.registers t.memory a) ok
  where
    at : (r : Registers) (m : Memory) (a : ℕ) → Fine (going r m) → TopOf (going r m) (run (Row Rlf a W ∷ []) (going r m)) (m a)
    at r m a ok = record { fine = record { going = refl; carry = omega arith; zero = ok.zero; bytes = ok.bytes }; carry = refl; same = λ b. refl }
