-- The last free moment of a run.
use Rattle.std.specs.Prelude.{if◌then◌else◌, ◌&&◌, ◌||◌}
use Rattle.std.proofs.Common.{◌≡◌, ℕ, zero, suc, ◌+◌, ◌-◌, ◌≤◌, Bool, true, false, not, refl, sym, ap, ◌∙◌, subst, add-zero, arith}
use Rattle.pic_world.specs.Arrivals.{arriving}
use Rattle.pic_world.specs.Control.{is_due}
use Rattle.pic_chip.specs.Interrupts.{control_of, raised}
use Rattle.pic_chip.specs.Machine.{Machine}
use Rattle.pic_chip.specs.Run.{Setting, moment, is_handling}
use Rattle.schedule.specs.Off.{is_free, last_free}
use Rattle.schedule.specs.Watching.{IsRunAt}
use Rattle.schedule.proofs.Boundaries.{busy_is}
use Rattle.schedule.proofs.Moments.{stays, first_going}

-- the last free moment before this one
pub last_before : Setting → ℕ → ℕ
last_before g zero = 0
last_before g (suc k) = last_free g k

pub none_before : (g : Setting) → 0 ≡ last_before g 0
unfolding last_before
none_before g = refl

next_last : (g : Setting) (k : ℕ) → last_free g k ≡ (if is_free g k then k else last_before g k)
unfolding last_free last_before
next_last g zero = by_test (is_free g zero)
  where
    by_test : (b : Bool) → zero ≡ (if b then zero else zero)
    by_test true = refl
    by_test false = refl
next_last g (suc k) = refl

-- a moment that was looked at, where the run goes on
pub free_is : (g : Setting) (k : ℕ) (busy : Bool) → (moment g k).stopped ≡ false → busy ≡ is_handling (arriving g.arrivals k) (moment g k) → not busy ≡ is_free g k
free_is g k busy going h =
    ap not h ∙ ap (λ (b : Bool). not b && not (is_handling (arriving g.arrivals k) (moment g k))) (sym going)

pub last_is : (g : Setting) (k last : ℕ) (free : Bool) → last ≡ last_before g k → free ≡ is_free g k → (if free then k else last) ≡ last_free g k
last_is g k last free e f =
    ap (λ (b : Bool). if b then k else last) f ∙ ap (λ (n : ℕ). if is_free g k then k else n) e ∙ sym (next_last g k)

pub latest_is : (g : Setting) (k mask : ℕ) (chip : Machine) (inside taken busy : Bool) (last result : ℕ) → IsRunAt g k chip inside → last ≡ last_before g k
    → mask ≡ arriving g.arrivals k → taken ≡ is_due (control_of (raised mask chip.state)) → busy ≡ (inside || taken) → result ≡ (if not busy then k else last) → result ≡ last_free g k
latest_is g k mask chip inside taken busy last result at e m t b r =
    r ∙ last_is g k last (not busy) e (free_is g k busy at.going (b ∙ busy_is g k mask chip inside taken at m t))

pub last_on : (g : Setting) (k last : ℕ) → last ≡ last_free g k → last ≡ last_before g (k + 1)
unfolding last_before
last_on g k last e = let same : suc k ≡ k + 1 = omega arith in e ∙ ap (last_before g) same

-- up to n, where the loop went over all moments
pub last_at : (g : Setting) (n last : ℕ) → last ≡ last_before g (n + 1) → last ≡ last_free g n
unfolding last_before
last_at g n last e = let same : n + 1 ≡ suc n = omega arith in e ∙ ap (last_before g) same

pub last_within : (g : Setting) (n : ℕ) → last_free g n ≤ n
unfolding last_free
last_within g zero = omega arith
last_within g (suc n) = by_test (is_free g (suc n)) (last_within g n)
  where
    by_test : (b : Bool) → last_free g n ≤ n → (if b then suc n else last_free g n) ≤ suc n
    by_test true h = omega arith
    by_test false h = omega (arith, h)

-- behind the end of a run no moment is free
last_by : (g : Setting) (k : ℕ) → (moment g (suc k)).stopped ≡ true → (j : ℕ) → last_free g (k + j) ≡ last_free g k
unfolding last_free
last_by g k h zero = ap (last_free g) (add-zero k)
last_by g k h (suc j) =
    let next : k + suc j ≡ suc (k + j) = omega arith in
    let there : suc k + j ≡ suc (k + j) = omega arith in
    let stopped = ap (λ (n : ℕ). (moment g n).stopped) (sym there) ∙ stays g (suc k) h j in
    ap (last_free g) next
    ∙ ap (λ (b : Bool). if not b && not (is_handling (arriving g.arrivals (suc (k + j))) (moment g (suc (k + j)))) then suc (k + j) else last_free g (k + j)) stopped
    ∙ last_by g k h j

pub last_behind : (g : Setting) (k n last : ℕ) → k ≤ n → (moment g (suc k)).stopped ≡ true → last ≡ last_free g k → last ≡ last_free g n
last_behind g k n last before h e =
    let same : k + (n - k) ≡ n = omega (arith, before) in
    e ∙ sym (last_by g k h (n - k)) ∙ ap (last_free g) same

-- the run goes on there
pub last_going : (g : Setting) (n : ℕ) → (moment g (last_free g n)).stopped ≡ false
unfolding last_free
last_going g zero = first_going g
last_going g (suc n) = by_test (is_free g (suc n)) refl (last_going g n)
  where
    free_goes : (a b : Bool) → (not a && b) ≡ true → a ≡ false
    free_goes false b h = refl
    free_goes true b h = absurd (cc)

    by_test : (b : Bool) → is_free g (suc n) ≡ b → (moment g (last_free g n)).stopped ≡ false → (moment g (if b then suc n else last_free g n)).stopped ≡ false
    by_test true e h = free_goes (moment g (suc n)).stopped _ e
    by_test false e h = h
