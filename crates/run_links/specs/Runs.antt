-- A run of a machine, seen by its moments, and what it means that one run follows another. A moment is the point after
-- so many of the machine's own steps.
use Rattle.std.specs.Prelude.{ℕ, ◌+◌, ◌*◌, ◌≡◌, ◌<◌, ◌≤◌, ◌⊎◌, Bool, true, List, map, length, take}

-- E is the type of events.
pub record Run (E : Type 0) : Type 0 where
  -- the events so far; it stays as it is where the run goes no further
  pub trace : ℕ → List E
  -- the step that begins at this moment is not stuck; of the source: not undefined
  pub goes : ℕ → Bool
  -- nothing is left to do at this moment, as long as nothing comes from outside
  pub rests : ℕ → Bool
  -- how many instructions of the chip the steps so far take, at most and at least
  pub most : ℕ → ℕ
  pub least : ℕ → ℕ

-- xs stands at the front of ys
abbrev pub IsFrontOf : {E : Type 0} → List E → List E → Type 0
IsFrontOf xs ys = take (length xs) ys ≡ xs

-- none of the first n steps is stuck, or undefined
abbrev pub Goes : {E : Type 0} → Run E → ℕ → Type 0
Goes r n = (i : ℕ) → i < n → r.goes i ≡ true

-- what every run of a machine is: traces and costs only grow, and where it rests it stays
pub record IsRun {E : Type 0} (r : Run E) : Type 0 where
  pub grows : (i j : ℕ) → i ≤ j → IsFrontOf (r.trace i) (r.trace j)
  pub dearer : (i j : ℕ) → i ≤ j → r.most i ≤ r.most j
  pub longer : (i j : ℕ) → i ≤ j → r.least i ≤ r.least j
  pub stays : (i j : ℕ) → i ≤ j → r.rests i ≡ true → r.trace j ≡ r.trace i
  pub waits : (i j : ℕ) → i ≤ j → r.rests i ≡ true → r.goes j ≡ true

-- The first n steps of run a are followed by run b: to each moment of a belongs one of b, and these rise. At each of
-- them the traces agree, an event of a seen as `show` has it; b isn't stuck before it; and between any two of them b costs
-- at most no more than a. Costs are compared between any two moments, since a cost from the start alone would let a slow
-- start pay for a later burst.
pub record Follows {E F : Type 0} (show : E → F) (a : Run E) (b : Run F) (n : ℕ) : Type 0 where
  pub at : ℕ → ℕ
  pub starts : at 0 ≡ 0
  pub rises : (i j : ℕ) → i ≤ j → j ≤ n → at i ≤ at j
  pub goes : (k : ℕ) → k < at n → b.goes k ≡ true
  pub same : (i : ℕ) → i ≤ n → b.trace (at i) ≡ map show (a.trace i)
  pub fast : (i j : ℕ) → i ≤ j → j ≤ n → b.most (at j) + a.most i ≤ b.most (at i) + a.most j
  pub rests : a.rests n ≡ true → b.rests (at n) ≡ true

-- Between any two moments b costs at least no less than a. So it is where nothing is left out: a pass that makes code shorter
-- has a bound of its own in its place.
abbrev pub IsSlow : {E F : Type 0} (show : E → F) (a : Run E) (b : Run F) (n : ℕ) → Follows show a b n → Type 0
IsSlow show a b n link = (i j : ℕ) → i ≤ j → j ≤ n → b.least (link.at i) + a.least j ≤ b.least (link.at j) + a.least i

-- Code that takes no instruction stands for at most so many steps of the language (`nodes`, those of the program): by the
-- moment `at` of run b, fewer steps than this were counted. Or b rests there.
abbrev pub IsWithin : {F : Type 0} → Run F → ℕ → ℕ → ℕ → Type 0
IsWithin b nodes steps at = (steps < (b.least at + 1) * nodes) ⊎ (b.rests at ≡ true)

-- All moments of a run are followed, as long as it is defined.
abbrev pub IsFollowed : {E F : Type 0} → (E → F) → Run E → Run F → Type 0
IsFollowed show a b = (n : ℕ) → Goes a n → Follows show a b n
