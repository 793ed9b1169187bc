-- Laws of runs that follow one another.
use Rattle.std.specs.Prelude.{ℕ, ◌+◌, ◌*◌, ◌≡◌, ◌<◌, ◌≤◌, ◌⊎◌, true, false, map, length}
use Rattle.run_links.specs.Runs.{Run, IsFrontOf, Goes, IsRun, Follows, IsSlow, IsWithin, IsFollowed}

-- ---- links compose
abbrev pub Composes : (E F G : Type 0) → Type 0
Composes E F G = (f : E → F) (g : F → G) (a : Run E) (b : Run F) (c : Run G) (n : ℕ) (first : Follows f a b n)
    → Follows g b c (first.at n) → Follows (λ e. g (f e)) a c n

-- Counted at the least, c costs no less than b from the start to there. Between two other moments it may cost less: where it was ahead for a while.
abbrev pub LagComposes : (F G : Type 0) → Type 0
LagComposes F G = (g : F → G) (b : Run F) (c : Run G) (nodes steps m : ℕ)
    → IsWithin b nodes steps m → (second : Follows g b c m) → b.least m ≤ c.least (second.at m) → IsWithin c nodes steps (second.at m)

abbrev pub SlowComposes : (E F G : Type 0) → Type 0
SlowComposes E F G = (f : E → F) (g : F → G) (a : Run E) (b : Run F) (c : Run G) (n : ℕ) (first : Follows f a b n)
    (second : Follows g b c (first.at n)) → IsSlow f a b n first → IsSlow g b c (first.at n) second
    → (i j : ℕ) → i ≤ j → j ≤ n → c.least (second.at (first.at i)) + a.least j ≤ c.least (second.at (first.at j)) + a.least i

-- ---- what a link gives
abbrev pub HasPrefix : (E F : Type 0) → Type 0
HasPrefix E F = (f : E → F) (a : Run E) (b : Run F) (n : ℕ) → IsRun b → (link : Follows f a b n)
    → (k : ℕ) → k ≤ link.at n → IsFrontOf (b.trace k) (map f (a.trace n))

-- From moment k of b on, which lies at or behind the place of moment i of a, the place of moment j costs no more than a
-- does from i to j.
abbrev pub HasPace : (E F : Type 0) → Type 0
HasPace E F = (f : E → F) (a : Run E) (b : Run F) (n i j k : ℕ) → IsRun b → (link : Follows f a b n) → i ≤ j → j ≤ n
    → link.at i ≤ k → b.most (link.at j) + a.most i ≤ b.most k + a.most j

-- A run comes to each number of counted steps at last; or it rests before, or has an undefined step.
abbrev pub Counts : {E : Type 0} → Run E → (ℕ → ℕ) → Type 0
Counts a steps = (bound : ℕ) → (n : ℕ) × ((i : ℕ) → i < n → steps i < bound)
    × ((bound ≤ steps n) ⊎ ((a.rests n ≡ true) ⊎ ((steps n < bound) × (a.goes n ≡ false))))

-- Of a's steps none is undefined that is among the first (m + 1) * nodes and begins while its trace is no longer than
-- `long`; each moment of a lies within nodes steps for each instruction. Then a step of b isn't stuck that comes after at
-- most m instructions, while the trace is no longer than `long`.
abbrev pub IsNotStuck : (E F : Type 0) → Type 0
IsNotStuck E F = (f : E → F) (a : Run E) (b : Run F) (steps : ℕ → ℕ) (nodes m long : ℕ) → IsRun b
    → (followed : IsFollowed f a b)
    → ((n : ℕ) (d : Goes a n) → IsWithin b nodes (steps n) ((followed n d).at n))
    → Counts a steps
    → ((i : ℕ) → steps i < (m + 1) * nodes → length (a.trace i) ≤ long → a.goes i ≡ true)
    → (k : ℕ) → b.least k ≤ m → length (b.trace k) ≤ long → b.goes k ≡ true
