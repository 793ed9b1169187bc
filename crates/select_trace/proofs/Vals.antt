-- Numbers made of bytes, and runs of lists that are joined.
use Rattle.std.proofs.Common.{◌≡◌, ℕ, zero, suc, ◌+◌, ◌*◌, ◌^◌, ◌<◌, List, [], ◌∷◌, ◌++◌, refl, ap, sym, ◌∙◌, arith}
use Rattle.std.proofs.Math.Nat.{pow-suc}
use Rattle.select_trace.specs.Run.{Machine, Sym, going, run, step, Going}
use Rattle.select_trace.specs.Values.{val}

pub run_append : (xs ys : List Sym) (t : Machine) → run (xs ++ ys) t ≡ run ys (run xs t)
run_append [] ys t = refl
run_append (x ∷ xs) ys t = run_append xs ys (step x t)

pub going_is : (t : Machine) → t.mode ≡ Going → going t.registers t.memory ≡ t
going_is t e = ap (λ m. record t { mode = m }) (sym e)

pub val_same : (f g : ℕ → ℕ) (k : ℕ) → ((j : ℕ) → j < k → f j ≡ g j) → val f k ≡ val g k
val_same f g zero h = refl
val_same f g (suc k) h =
    let e : val f k ≡ val g k = val_same f g k (λ j lt. h j (omega arith)) in
    let here : f k ≡ g k = h k (omega arith) in
    ap (λ x. x + 256 ^ k * f k) e ∙ ap (λ x. val g k + 256 ^ k * x) here

pub val_below : (f : ℕ → ℕ) (k : ℕ) → ((j : ℕ) → j < k → f j < 256) → val f k < 256 ^ k
val_below f zero h = omega arith
val_below f (suc k) h = below_step (256 ^ k) (val f k) (f k) (256 ^ suc k) (pow-suc 256 k) (val_below f k (λ j lt. h j (omega arith))) (h k (omega arith))
  where
    below_step : (p v x q : ℕ) → q ≡ p * 256 → v < p → x < 256 → v + p * x < q
    below_step p v x q e lt xs = grind arith
