-- Stretches of a run of byte code, with what they cost.
use Rattle.std.proofs.Common.{◌≡◌, ℕ, zero, suc, ◌+◌, ◌-◌, ◌<◌, ◌≤◌, true, refl, ap, ◌∙◌, ⊎_elim, arith}
use Rattle.std.proofs.lemmas.Bool.{cases_lt}
use Rattle.core_code.specs.Cost.{step_most, step_least}
use Rattle.core_code.specs.Machine.{Setting, Machine, Goes, core_step, core_run, core_moment, goes_on, gone}
use Rattle.core_code.specs.Runs.{most_by, least_by}

-- of the next n steps together
unfoldable pub most_from : Setting → ℕ → Machine → ℕ
most_from g zero c = 0
most_from g (suc n) c = most_from g n c + step_most g (core_run g n c)

unfoldable pub least_from : Setting → ℕ → Machine → ℕ
least_from g zero c = 0
least_from g (suc n) c = least_from g n c + step_least g (core_run g n c)

-- The machine goes from c to d in n steps, which cost at most q instructions and at least l.
pub record Walk (g : Setting) (n : ℕ) (c d : Machine) (q l : ℕ) : Type 0 where
  pub comes : core_run g n c ≡ d
  pub most : most_from g n c ≤ q
  pub least : l ≤ least_from g n c
  pub goes : (i : ℕ) → i < n → goes_on (core_step g (core_run g i c)) ≡ true

-- ---- the first step apart from the others
pub run_first : (g : Setting) (n : ℕ) (c d : Machine) → core_step g c ≡ Goes d → core_run g (suc n) c ≡ core_run g n d
unfolding core_run
run_first g zero c d e = ap (gone c) e
run_first g (suc n) c d e = ap (λ t. gone t (core_step g t)) (run_first g n c d e)

most_first : (g : Setting) (n : ℕ) (c d : Machine) → core_step g c ≡ Goes d → most_from g (suc n) c ≡ step_most g c + most_from g n d
unfolding core_run most_from
most_first g zero c d e = omega arith
most_first g (suc n) c d e =
    let p = most_first g n c d e in
    let q = ap (step_most g) (run_first g n c d e) in
    omega arith

least_first : (g : Setting) (n : ℕ) (c d : Machine) → core_step g c ≡ Goes d → least_from g (suc n) c ≡ step_least g c + least_from g n d
unfolding core_run least_from
least_first g zero c d e = omega arith
least_first g (suc n) c d e =
    let p = least_first g n c d e in
    let q = ap (step_least g) (run_first g n c d e) in
    omega arith

goes_first : (g : Setting) (n : ℕ) (c d : Machine) → core_step g c ≡ Goes d → ((i : ℕ) → i < n → goes_on (core_step g (core_run g i d)) ≡ true) → (i : ℕ) → i < suc n → goes_on (core_step g (core_run g i c)) ≡ true
unfolding core_run
goes_first g n c d e h zero lt = ap goes_on e
goes_first g n c d e h (suc i) lt = ap (λ t. goes_on (core_step g t)) (run_first g i c d e) ∙ h i (omega arith)

-- ---- walks are put together
pub stay : (g : Setting) (c : Machine) → Walk g 0 c c 0 0
unfolding core_run most_from least_from
stay g c = record { comes = refl; most = omega arith; least = omega arith; goes = λ i lt. absurd (omega arith) }

pub walk_first : (g : Setting) (n : ℕ) (c d e : Machine) (x y q l : ℕ) → core_step g c ≡ Goes d → step_most g c ≤ x → y ≤ step_least g c → Walk g n d e q l → Walk g (suc n) c e (x + q) (y + l)
walk_first g n c d e x y q l step most least w =
    let wm = w.most in
    let wl = w.least in
    let a = most_first g n c d step in
    let b = least_first g n c d step in
    record {
      comes = run_first g n c d step ∙ w.comes;
      most = omega arith;
      least = omega arith;
      goes = goes_first g n c d step w.goes;
    }

pub run_on : (g : Setting) (i j : ℕ) (c : Machine) → core_run g (i + j) c ≡ core_run g j (core_run g i c)
unfolding core_run
run_on g i zero c = let e : i + 0 ≡ i = omega arith in ap (λ n. core_run g n c) e
run_on g i (suc j) c =
    let e : i + suc j ≡ suc (i + j) = omega arith in
    ap (λ n. core_run g n c) e ∙ ap (λ t. gone t (core_step g t)) (run_on g i j c)

pub most_on : (g : Setting) (i j : ℕ) (c : Machine) → most_from g (i + j) c ≡ most_from g i c + most_from g j (core_run g i c)
unfolding most_from
most_on g i zero c = let e : i + 0 ≡ i = omega arith in let q = ap (λ n. most_from g n c) e in omega arith
most_on g i (suc j) c =
    let e : i + suc j ≡ suc (i + j) = omega arith in
    let q = ap (λ n. most_from g n c) e in
    let p = most_on g i j c in
    let r = ap (step_most g) (run_on g i j c) in
    omega arith

pub least_on : (g : Setting) (i j : ℕ) (c : Machine) → least_from g (i + j) c ≡ least_from g i c + least_from g j (core_run g i c)
unfolding least_from
least_on g i zero c = let e : i + 0 ≡ i = omega arith in let q = ap (λ n. least_from g n c) e in omega arith
least_on g i (suc j) c =
    let e : i + suc j ≡ suc (i + j) = omega arith in
    let q = ap (λ n. least_from g n c) e in
    let p = least_on g i j c in
    let r = ap (step_least g) (run_on g i j c) in
    omega arith

goes_both : (g : Setting) (i j : ℕ) (c d : Machine) → core_run g i c ≡ d → ((k : ℕ) → k < i → goes_on (core_step g (core_run g k c)) ≡ true) → ((k : ℕ) → k < j → goes_on (core_step g (core_run g k d)) ≡ true) → (k : ℕ) → k < i + j → goes_on (core_step g (core_run g k c)) ≡ true
goes_both g i j c d e a b k lt =
    ⊎_elim (λ l. a k l)
    (λ ge.
    let s : k ≡ i + (k - i) = omega arith in
    ap (λ n. goes_on (core_step g (core_run g n c))) s
    ∙ ap (λ t. goes_on (core_step g t)) (run_on g i (k - i) c ∙ ap (core_run g (k - i)) e)
    ∙ b (k - i) (omega arith))
    (cases_lt k i)

pub walk_on : (g : Setting) (i j : ℕ) (c d e : Machine) (q l x y : ℕ) → Walk g i c d q l → Walk g j d e x y → Walk g (i + j) c e (q + x) (l + y)
walk_on g i j c d e q l x y a b =
    let am = a.most in
    let al = a.least in
    let bm = b.most in
    let bl = b.least in
    let m = most_on g i j c in
    let n = least_on g i j c in
    let r = ap (most_from g j) a.comes in
    let s = ap (least_from g j) a.comes in
    record {
      comes = run_on g i j c ∙ ap (core_run g j) a.comes ∙ b.comes;
      most = omega arith;
      least = omega arith;
      goes = goes_both g i j c d a.comes a.goes b.goes;
    }

-- other bounds that hold too
pub walk_within : (g : Setting) (n : ℕ) (c d : Machine) (q l x y : ℕ) → Walk g n c d q l → q ≤ x → y ≤ l → Walk g n c d x y
walk_within g n c d q l x y w a b = let m = w.most in let k = w.least in record { comes = w.comes; most = omega arith; least = omega arith; goes = w.goes }

-- ---- at the moments of a run
pub most_moment : (g : Setting) (n : ℕ) → most_by g n ≡ most_from g n (core_moment g 0)
unfolding most_by most_from core_run
most_moment g zero = refl
most_moment g (suc n) = ap (λ x. x + step_most g (core_moment g n)) (most_moment g n)

pub least_moment : (g : Setting) (n : ℕ) → least_by g n ≡ least_from g n (core_moment g 0)
unfolding least_by least_from core_run
least_moment g zero = refl
least_moment g (suc n) = ap (λ x. x + step_least g (core_moment g n)) (least_moment g n)
