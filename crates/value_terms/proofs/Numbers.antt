-- Laws on numbers below 256 and on bits.
use Rattle.std.proofs.Common.{◌≡◌, ℕ, ◌+◌, ◌-◌, ◌*◌, ◌/◌, ◌%◌, ◌<◌, ◌≤◌, ◌⊎◌, inl, inr, Bool, true, false, refl, sym, ap, ◌∙◌, arith}
use Rattle.std.specs.Prelude.{nat_eq, nat_le}
use Rattle.std.proofs.lemmas.Bool.{eqb-true, eq-eqb, leb-true, leb-false, agree_below, agree_below_at}
use Rattle.std.proofs.Math.Dec.{leb}
use Rattle.std.proofs.Math.Nat.{eq-zero-or-pos}
use Rattle.pic_world.specs.Bits.{truth}

pub not_eq : (x y : ℕ) → nat_eq x y ≡ false → x ≡ y → ⊥
not_eq x y h q = let k = eq-eqb x y q in absurd (cc)

pub truth_true : (x y : ℕ) → x ≡ y → 1 ≡ truth (nat_eq x y)
truth_true x y h = ap truth (sym (eq-eqb x y h))

pub truth_false : (x y : ℕ) → (x ≡ y → ⊥) → 0 ≡ truth (nat_eq x y)
truth_false x y n = by (nat_eq x y) refl
  where
    by : (b : Bool) → nat_eq x y ≡ b → 0 ≡ truth b
    by true h = absurd (n (eqb-true x y h))
    by false h = refl

pub one_small : (b : Bool) → truth b < 2
one_small true = omega arith
one_small false = omega arith

pub truth_small : (b : Bool) → truth b < 256
truth_small true = omega arith
truth_small false = omega arith

pub truth_mod : (b : Bool) → truth b % 256 ≡ truth b
truth_mod true = omega arith
truth_mod false = omega arith

pub positive : (v : ℕ) → nat_eq v 0 ≡ false → 0 < v
positive v h = by (eq-zero-or-pos v)
  where
    by : (v ≡ 0) ⊎ (0 < v) → 0 < v
    by (inl z) = absurd (not_eq v 0 h z)
    by (inr p) = p

pub not_one : (v : ℕ) → 0 < v → nat_eq v 1 ≡ false → 1 < v
not_one v p h = by (eq-zero-or-pos (v - 1))
  where
    by : (v - 1 ≡ 0) ⊎ (0 < v - 1) → 1 < v
    by (inl z) = absurd (not_eq v 1 h (omega arith))
    by (inr q) = omega arith

-- tests that say the same
same_by : (x y : Bool) (a b c d : ℕ) → nat_eq a b ≡ x → nat_eq c d ≡ y → (a ≡ b → c ≡ d) → (c ≡ d → a ≡ b) → x ≡ y
same_by true true a b c d p q f g = refl
same_by false false a b c d p q f g = refl
same_by true false a b c d p q f g = let h = eq-eqb c d (f (eqb-true a b p)) in absurd (cc)
same_by false true a b c d p q f g = let h = eq-eqb a b (g (eqb-true c d q)) in absurd (cc)

pub same_eq : (a b c d : ℕ) → (a ≡ b → c ≡ d) → (c ≡ d → a ≡ b) → truth (nat_eq a b) ≡ truth (nat_eq c d)
same_eq a b c d f g = ap truth (same_by (nat_eq a b) (nat_eq c d) a b c d refl refl f g)

-- a sum is above 255, or it isn't
pub above_by : (n : ℕ) (v : ℕ) → (256 ≤ n → v ≡ 1) → (n < 256 → v ≡ 0) → v ≡ truth (nat_le 256 n)
above_by n v f g = by (leb 256 n) refl
  where
    by : (b : Bool) → leb 256 n ≡ b → v ≡ truth b
    by true h = f (leb-true 256 n h)
    by false h = g (leb-false 256 n h)

-- ---- a bit that is compared
pub flag_zero : (v : ℕ) → v < 2 → (255 * v + 1) % 256 ≡ truth (nat_eq v 0)
flag_zero v l = by (eq-zero-or-pos v)
  where
    by : (v ≡ 0) ⊎ (0 < v) → (255 * v + 1) % 256 ≡ truth (nat_eq v 0)
    by (inl z) = let a : (255 * v + 1) % 256 ≡ 1 = omega arith in a ∙ truth_true v 0 z
    by (inr p) = let a : (255 * v + 1) % 256 ≡ 0 = omega arith in a ∙ truth_false v 0 (λ q. omega arith)

pub flag_one : (v : ℕ) → v < 2 → v ≡ truth (nat_eq v 1)
flag_one v l = by (eq-zero-or-pos v)
  where
    by : (v ≡ 0) ⊎ (0 < v) → v ≡ truth (nat_eq v 1)
    by (inl z) = z ∙ truth_false v 1 (λ q. omega arith)
    by (inr p) = let a : v ≡ 1 = omega arith in a ∙ truth_true v 1 a

-- ---- bits of a byte
pub at_each : (g h : ℕ → ℕ → ℕ) → agree_below (λ n. nat_eq (g (n / 256) (n % 256)) (h (n / 256) (n % 256))) (λ n. true) 2048 ≡ true → (b x : ℕ) → b < 8 → x < 256 → g b x ≡ h b x
at_each g h all b x hb hx =
    let d : (b * 256 + x) / 256 ≡ b = omega arith in
    let m : (b * 256 + x) % 256 ≡ x = omega arith in
    let here : nat_eq (g ((b * 256 + x) / 256) ((b * 256 + x) % 256)) (h ((b * 256 + x) / 256) ((b * 256 + x) % 256)) ≡ true =
    agree_below_at (λ n. nat_eq (g (n / 256) (n % 256)) (h (n / 256) (n % 256))) (λ n. true) 2048 (b * 256 + x) all (omega arith) in
    eqb-true _ _ (ap (λ q. nat_eq (g q x) (h q x)) (sym d) ∙ ap (λ r. nat_eq (g ((b * 256 + x) / 256) r) (h ((b * 256 + x) / 256) r)) (sym m) ∙ here)
