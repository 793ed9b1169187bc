-- The steps of the helpers' routines.
use Rattle.std.proofs.Common.{◌≡◌, ℕ, zero, suc, ◌+◌, ◌*◌, ◌^◌, ◌<◌, List, [], ◌∷◌, ◌++◌, refl, ap, sym, ◌∙◌, subst, arith}
use Rattle.std.specs.Prelude.{if◌then◌else◌}
use Rattle.std.proofs.Math.Nat.{pow-suc}
use Rattle.std.proofs.lemmas.Bool.Decides.{nat_tests}
use Rattle.sym_code.specs.Registers.{Registers}
use Rattle.sym_code.specs.declared.code.FileOperation.TheVariants.{Rlf, Comf, Incf}
use Rattle.sym_code.specs.Effect.{Memory}
use Rattle.select_trace.specs.Run.{Machine, Sym, Row, Clrf, Flag, going, run}
use Rattle.sym_code.specs.declared.code.BitOperation.TheVariants.{Btfsc}
use Rattle.sym_code.specs.declared.code.Into.TheVariants.{W, File}
use Rattle.select_trace.specs.Code.{Operand, Chain, Sum, Difference, rising, link_code}
use Rattle.select_trace.specs.Links.{Fine, Links, EachLinks, Chained, Told, Apart, carried}
use Rattle.select_trace.specs.Ripples.{total, Changes, Rippled}
use Rattle.select_trace.specs.Helpers.{Layout, Value, Right, Remainder, Answer, Step, ShiftLeft, Clear, Invert, Increment, Add, Subtract, Compare, step_code, each_byte, each, AreApart}
use Rattle.select_trace.specs.Steps.{number_of, Steps}
use Rattle.select_trace.proofs.Vals.{going_is}
use Rattle.select_trace.proofs.Links.{nonzero, in_place}
use Rattle.select_trace.proofs.Chains.{chained, told}
use Rattle.select_trace.proofs.Ripples.{upward, val_total, rippled}

-- ---- the flags that go from byte to byte
abbrev pub carry_of : Registers → ℕ
carry_of r = r.c

abbrev pub zero_of : Registers → ℕ
zero_of r = r.z

-- ---- the code of one byte
-- x and the carry c become y and the carry d
abbrev pub Shifts : ℕ → ℕ → ℕ → ℕ → ℕ → Type 0
Shifts k c x y d = y + 256 * d ≡ 2 * x + c

abbrev pub Clears : ℕ → ℕ → ℕ → ℕ → ℕ → Type 0
Clears k c x y d = y ≡ 0

abbrev pub Inverts : ℕ → ℕ → ℕ → ℕ → ℕ → Type 0
Inverts k c x y d = y + x ≡ 255

-- to the lowest byte one is added
abbrev pub Increments : ℕ → ℕ → ℕ → ℕ → ℕ → Type 0
Increments zero c x y d = y + 256 * d ≡ x + 1
Increments (suc k) c x y d = y + 256 * d ≡ x + c

pub rlf : (r : Registers) (m : Memory) (a : ℕ) → m a < 256 → r.c < 2 → r.z < 2 → Changes carry_of (Shifts 0) (going r m) (run (Row Rlf a File ∷ []) (going r m)) a
rlf r m a x c z = record {
  going = grind (arith, nat_tests);
  carry = grind (arith, nat_tests);
  zero = grind (arith, nat_tests);
  byte = grind (arith, nat_tests);
  has = grind (arith, nat_tests);
  others = λ b ne. grind (arith, nat_tests);
}

pub clrf : (r : Registers) (m : Memory) (a : ℕ) → m a < 256 → r.c < 2 → r.z < 2 → Changes carry_of (Clears 0) (going r m) (run (Clrf a ∷ []) (going r m)) a
clrf r m a x c z = record {
  going = grind (arith, nat_tests);
  carry = grind (arith, nat_tests);
  zero = grind (arith, nat_tests);
  byte = grind (arith, nat_tests);
  has = grind (arith, nat_tests);
  others = λ b ne. grind (arith, nat_tests);
}

pub comf : (r : Registers) (m : Memory) (a : ℕ) → m a < 256 → r.c < 2 → r.z < 2 → Changes carry_of (Inverts 0) (going r m) (run (Row Comf a File ∷ []) (going r m)) a
comf r m a x c z = record {
  going = grind (arith, nat_tests);
  carry = grind (arith, nat_tests);
  zero = grind (arith, nat_tests);
  byte = grind (arith, nat_tests);
  has = grind (arith, nat_tests);
  others = λ b ne. grind (arith, nat_tests);
}

pub incf_first : (r : Registers) (m : Memory) (a : ℕ) → m a < 256 → r.c < 2 → r.z < 2 → Changes zero_of (Increments 0) (going r m) (run (Row Incf a File ∷ []) (going r m)) a
incf_first r m a x c z = record {
  going = grind (arith, nat_tests);
  carry = grind (arith, nat_tests);
  zero = grind (arith, nat_tests);
  byte = grind (arith, nat_tests);
  has = grind (arith, nat_tests);
  others = λ b ne. grind (arith, nat_tests);
}

pub incf_more : (r : Registers) (m : Memory) (a : ℕ) → m a < 256 → r.c < 2 → r.z < 2 → Changes zero_of (Increments 1) (going r m) (run (Flag Btfsc 2 ∷ Row Incf a File ∷ []) (going r m)) a
incf_more r m a x c z = record {
  going = grind (arith, nat_tests);
  carry = grind (arith, nat_tests);
  zero = grind (arith, nat_tests);
  byte = grind (arith, nat_tests);
  has = grind (arith, nat_tests);
  others = λ b ne. grind (arith, nat_tests);
}

-- ---- from a machine that stands in registers and memory to any that goes
pub one_of : (flag : Registers → ℕ) (R : ℕ → ℕ → ℕ → ℕ → Type 0) (xs : List Sym) (a : ℕ) →
    ((r : Registers) (m : Memory) → m a < 256 → r.c < 2 → r.z < 2 → Changes flag R (going r m) (run xs (going r m)) a) →
    (u : Machine) → Fine u → Changes flag R u (run xs u) a
one_of flag R xs a h u ok = subst (λ (t : Machine). Changes flag R t (run xs t) a) (going_is u ok.going) (h u.registers u.memory (ok.bytes a) ok.carry ok.zero)

pub each_is : (l : Layout) (step : Step) (k : ℕ) → rising (step_code l step) k ≡ each_byte l step k
each_is l step zero = refl
each_is l step (suc k) = ap (λ xs. xs ++ step_code l step k) (each_is l step k)

-- ---- all bytes
abbrev pub Shifted : ℕ → ℕ → ℕ → ℕ → ℕ → Type 0
Shifted c k v u d = u + 256 ^ k * d ≡ 2 * v + c

pub shifted_more : (c k v u b x y d : ℕ) → Shifted c k v u b → Shifts k b x y d → Shifted c (suc k) (upward k v x) (upward k u y) d
shifted_more c k v u b x y d h s = more (256 ^ k) (256 ^ suc k) c v u b x y d (pow-suc 256 k) h s
  where
    more : (p q c v u b x y d : ℕ) → q ≡ p * 256 → u + p * b ≡ 2 * v + c → y + 256 * d ≡ 2 * x + b → u + p * y + q * d ≡ 2 * (v + p * x) + c
    more p q c v u b x y d e h s = let s2 : p * (y + 256 * d) ≡ p * (2 * x + b) = ap (λ z. p * z) s in let e2 : q * d ≡ p * 256 * d = ap (λ z. z * d) e in omega (arith, s2, e2)

of_ripple : (flag : Registers → ℕ) (T : ℕ → ℕ → ℕ → ℕ → Type 0) (l : Layout) (step : Step) (v : Value) (t : Machine) →
    Rippled flag upward T t (run (rising (step_code l step) l.width) t) (l.at v) l.width →
    (fine : Fine (run (each l step) t)) × (T l.width (number_of l t v) (number_of l (run (each l step) t) v) (flag (run (each l step) t).registers)) × (Steps l t (run (each l step) t) v)
of_ripple flag T l step v t h =
    let h2 : Rippled flag upward T t (run (each l step) t) (l.at v) l.width = rw (each_is l step l.width) at h in
    let a : total upward (λ j. t.memory (l.at v j)) l.width ≡ number_of l t v = val_total (λ j. t.memory (l.at v j)) l.width in
    let b : total upward (λ j. (run (each l step) t).memory (l.at v j)) l.width ≡ number_of l (run (each l step) t) v = val_total (λ j. (run (each l step) t).memory (l.at v j)) l.width in
    let has : T l.width (number_of l t v) (number_of l (run (each l step) t) v) (flag (run (each l step) t).registers) = rw (a, b) at h2.has in
    (h2.fine, has, record { fine = h2.fine; others = h2.others })

-- one bit to the left
pub shift_left : (l : Layout) → AreApart l → (v : Value) (t : Machine) → Fine t →
    (number_of l (run (each l (ShiftLeft v)) t) v + 256 ^ l.width * (run (each l (ShiftLeft v)) t).registers.c ≡ 2 * number_of l t v + t.registers.c) × (Steps l t (run (each l (ShiftLeft v)) t) v)
shift_left l apart v t ok =
    let all = of_ripple carry_of (Shifted t.registers.c) l (ShiftLeft v) v t
    (rippled carry_of upward Shifts (Shifted t.registers.c) (step_code l (ShiftLeft v)) (l.at v) l.width (λ k lt. one_of carry_of (Shifts k) (step_code l (ShiftLeft v) k) (l.at v k) (λ r m. rlf r m (l.at v k))) (apart.within v)
    (λ k v u c x y d lt. shifted_more t.registers.c k v u c x y d) t ok (omega arith) l.width (omega arith)) in
    (all.1, all.2)

abbrev pub Cleared : ℕ → ℕ → ℕ → ℕ → Type 0
Cleared k v u d = u ≡ 0

cleared_more : (p u y : ℕ) → u ≡ 0 → y ≡ 0 → u + p * y ≡ 0
cleared_more p u y e s = rw (e, s) (omega arith)

-- the value becomes 0
pub clear : (l : Layout) → AreApart l → (v : Value) (t : Machine) → Fine t →
    (number_of l (run (each l (Clear v)) t) v ≡ 0) × (Steps l t (run (each l (Clear v)) t) v)
clear l apart v t ok =
    let all = of_ripple carry_of Cleared l (Clear v) v t
    (rippled carry_of upward Clears Cleared (step_code l (Clear v)) (l.at v) l.width (λ k lt. one_of carry_of (Clears k) (step_code l (Clear v) k) (l.at v k) (λ r m. clrf r m (l.at v k))) (apart.within v)
    (λ k v u c x y d lt h s. cleared_more (256 ^ k) u y h s) t ok refl l.width (omega arith)) in
    (all.1, all.2)

abbrev pub Inverted : ℕ → ℕ → ℕ → ℕ → Type 0
Inverted k v u d = u + v + 1 ≡ 256 ^ k

pub inverted_more : (p q v u x y : ℕ) → q ≡ p * 256 → u + v + 1 ≡ p → y + x ≡ 255 → u + p * y + (v + p * x) + 1 ≡ q
inverted_more p q v u x y e h s = let s2 : p * (y + x) ≡ p * 255 = ap (λ z. p * z) s in omega (arith, s2)

-- each bit becomes the other
pub invert : (l : Layout) → AreApart l → (v : Value) (t : Machine) → Fine t →
    (number_of l (run (each l (Invert v)) t) v + number_of l t v + 1 ≡ 256 ^ l.width) × (Steps l t (run (each l (Invert v)) t) v)
invert l apart v t ok =
    let all = of_ripple carry_of Inverted l (Invert v) v t
    (rippled carry_of upward Inverts Inverted (step_code l (Invert v)) (l.at v) l.width (λ k lt. one_of carry_of (Inverts k) (step_code l (Invert v) k) (l.at v k) (λ r m. comf r m (l.at v k))) (apart.within v)
    (λ k v u c x y d lt h s. inverted_more (256 ^ k) (256 ^ suc k) v u x y (pow-suc 256 k) h s) t ok refl l.width (omega arith)) in
    (all.1, all.2)

-- one is added, and Z tells whether it comes to 0
abbrev pub Incremented : ℕ → ℕ → ℕ → ℕ → Type 0
Incremented zero v u d = (v ≡ 0) × (u ≡ 0)
Incremented (suc k) v u d = u + 256 ^ suc k * d ≡ v + 1

pub incremented_more : (k v u b x y d : ℕ) → Incremented k v u b → Increments k b x y d → Incremented (suc k) (upward k v x) (upward k u y) d
incremented_more zero v u b x y d h s = omega (arith, s, h.0, h.1)
incremented_more (suc k) v u b x y d h s = more (256 ^ suc k) (256 ^ suc (suc k)) v u b x y d (pow-suc 256 (suc k)) h s
  where
    more : (p q v u b x y d : ℕ) → q ≡ p * 256 → u + p * b ≡ v + 1 → y + 256 * d ≡ x + b → u + p * y + q * d ≡ v + p * x + 1
    more p q v u b x y d e h s = let s2 : p * (y + 256 * d) ≡ p * (x + b) = ap (λ z. p * z) s in let e2 : q * d ≡ p * 256 * d = ap (λ z. z * d) e in omega (arith, s2, e2)

pub incremented_at : (k v u d : ℕ) → 0 < k → Incremented k v u d → u + 256 ^ k * d ≡ v + 1
incremented_at zero v u d lt h = absurd (omega arith)
incremented_at (suc k) v u d lt h = h

pub increment_one : (l : Layout) (v : Value) (k : ℕ) (u : Machine) → Fine u → Changes zero_of (Increments k) u (run (step_code l (Increment v) k) u) (l.at v k)
increment_one l v zero u ok = one_of zero_of (Increments 0) (step_code l (Increment v) 0) (l.at v 0) (λ r m. incf_first r m (l.at v 0)) u ok
increment_one l v (suc k) u ok =
    subst (λ (xs : List Sym). Changes zero_of (Increments 1) u (run xs u) (l.at v (suc k))) (ap (λ b. (if b then [] else Flag Btfsc 2 ∷ []) ++ Row Incf (l.at v (suc k)) File ∷ []) (sym (nonzero k)))
    (one_of zero_of (Increments 1) (Flag Btfsc 2 ∷ Row Incf (l.at v (suc k)) File ∷ []) (l.at v (suc k)) (λ r m. incf_more r m (l.at v (suc k))) u ok)

pub increment : (l : Layout) → AreApart l → 0 < l.width → (v : Value) (t : Machine) → Fine t →
    (number_of l (run (each l (Increment v)) t) v + 256 ^ l.width * (run (each l (Increment v)) t).registers.z ≡ number_of l t v + 1) × (Steps l t (run (each l (Increment v)) t) v)
increment l apart wide v t ok =
    let all = of_ripple zero_of Incremented l (Increment v) v t
    (rippled zero_of upward Increments Incremented (step_code l (Increment v)) (l.at v) l.width (λ k lt. increment_one l v k) (apart.within v)
    (λ k v u c x y d lt. incremented_more k v u c x y d) t ok (refl, refl) l.width (omega arith)) in
    (incremented_at l.width _ _ _ wide all.1, all.2)

-- ---- sums and differences of the right operand
each_links : (chain : Chain) (code other : ℕ → List Sym) (to left right : Operand) (w : ℕ) → ((k : ℕ) → code k ≡ other k) → EachLinks chain code to left right w → EachLinks chain other to left right w
each_links chain code other to left right w same h k lt u ok = subst (λ (xs : List Sym). Links chain u.memory (carried chain k u.registers.c) (run xs u) (to k) (left k) (right k)) (same k) (h k lt u ok)

add_code : (l : Layout) (k : ℕ) → link_code Sum (l.at Answer) (l.at Right) File k ≡ step_code l Add k
add_code l zero = refl
add_code l (suc k) = rw (nonzero k) refl

subtract_code : (l : Layout) (k : ℕ) → link_code Difference (l.at Remainder) (l.at Right) File k ≡ step_code l Subtract k
subtract_code l zero = refl
subtract_code l (suc k) = rw (nonzero k) refl

compare_code : (l : Layout) (k : ℕ) → link_code Difference (l.at Remainder) (l.at Right) W k ≡ step_code l Compare k
compare_code l zero = refl
compare_code l (suc k) = rw (nonzero k) refl

rising_same : (f g : ℕ → List Sym) → ((k : ℕ) → f k ≡ g k) → (k : ℕ) → rising f k ≡ rising g k
rising_same f g h zero = refl
rising_same f g h (suc k) = ap (λ xs. xs ++ f k) (rising_same f g h k) ∙ ap (λ xs. rising g k ++ xs) (h k)

between_at : (l : Layout) → AreApart l → (v u : Value) → (v ≡ u → ⊥) → Apart l.width (l.at v) (l.at u)
between_at l apart v u ne j k lt ltw = apart.between v u ne j k (omega arith) ltw

answer≢right : Answer ≡ Right → ⊥
answer≢right e = cc

remainder≢right : Remainder ≡ Right → ⊥
remainder≢right e = cc

carried_at : (chain : Chain) (k c : ℕ) → 0 < k → carried chain k c ≡ c
carried_at chain zero c lt = absurd (omega arith)
carried_at chain (suc k) c lt = refl

-- the answer becomes its sum with the right operand
pub add : (l : Layout) → AreApart l → 0 < l.width → (t : Machine) → Fine t →
    (number_of l (run (each l Add) t) Answer + 256 ^ l.width * (run (each l Add) t).registers.c ≡ number_of l t Answer + number_of l t Right) × (Steps l t (run (each l Add) t) Answer)
add l apart wide t ok =
    let h = chained Sum (step_code l Add) (l.at Answer) (l.at Answer) (l.at Right) l.width
    (each_links Sum _ (step_code l Add) (l.at Answer) (l.at Answer) (l.at Right) l.width (add_code l) (in_place Sum (l.at Answer) (l.at Right) l.width))
    (apart.within Answer) (apart.within Answer) (between_at l apart Answer Right answer≢right) t ok l.width (omega arith) in
    let h2 : Chained Sum t.memory (run (each l Add) t) (l.at Answer) (l.at Answer) (l.at Right) l.width = rw (each_is l Add l.width) at h in
    (rw (carried_at Sum l.width (run (each l Add) t).registers.c wide) at h2.adds ∙ omega arith, record { fine = h2.fine; others = h2.others })

-- the right operand is taken off the remainder
pub subtract : (l : Layout) → AreApart l → 0 < l.width → (t : Machine) → Fine t →
    (number_of l (run (each l Subtract) t) Remainder + number_of l t Right + 256 ^ l.width * (run (each l Subtract) t).registers.c ≡ number_of l t Remainder + 256 ^ l.width) × (Steps l t (run (each l Subtract) t) Remainder)
subtract l apart wide t ok =
    let h = chained Difference (step_code l Subtract) (l.at Remainder) (l.at Remainder) (l.at Right) l.width
    (each_links Difference _ (step_code l Subtract) (l.at Remainder) (l.at Remainder) (l.at Right) l.width (subtract_code l) (in_place Difference (l.at Remainder) (l.at Right) l.width))
    (apart.within Remainder) (apart.within Remainder) (between_at l apart Remainder Right remainder≢right) t ok l.width (omega arith) in
    let h2 : Chained Difference t.memory (run (each l Subtract) t) (l.at Remainder) (l.at Remainder) (l.at Right) l.width = rw (each_is l Subtract l.width) at h in
    let adds = rw (carried_at Difference l.width (run (each l Subtract) t).registers.c wide) at h2.adds in
    (omega (arith, adds), record { fine = h2.fine; others = h2.others })

-- C tells whether the right operand is at most the remainder, and no byte has changed
pub compare : (l : Layout) → 0 < l.width → (t : Machine) → Fine t →
    (fine : Fine (run (each l Compare) t)) × ((b : ℕ) → (run (each l Compare) t).memory b ≡ t.memory b) ×
    (n : ℕ) × (n < 256 ^ l.width) × (n + number_of l t Right + 256 ^ l.width * (run (each l Compare) t).registers.c ≡ number_of l t Remainder + 256 ^ l.width)
compare l wide t ok =
    let h = told (l.at Remainder) (l.at Right) t ok l.width in
    let h2 : Told t.memory (run (each l Compare) t) (l.at Remainder) (l.at Right) l.width = rw (rising_same _ _ (compare_code l) l.width, each_is l Compare l.width) at h in
    let adds = rw (carried_at Difference l.width (run (each l Compare) t).registers.c wide) at h2.adds in
    (h2.fine, h2.same, h2.number, h2.small, omega (arith, adds))
