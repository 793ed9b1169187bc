-- What a run that follows another one has by a moment of its own: the trace is a front of the other's, and the other's next steps are
-- done in time.
use Rattle.std.proofs.Common.{◌≡◌, ℕ, zero, suc, ◌+◌, ◌-◌, ◌*◌, ◌<◌, ◌≤◌, ◌⊎◌, inl, inr, Bool, true, false, List, [], ◌∷◌, map, length, take, refl, sym, ap, ◌∙◌, subst, ⊎_elim, arith}
use Rattle.std.proofs.lemmas.Bool.{cases_lt}
use Rattle.std.proofs.lemmas.List.{length-map}
use Rattle.std.proofs.Math.Nat.{add-mul}
use Rattle.std.proofs.Math.Seq.{take-length}
use Rattle.run_links.specs.Runs.{Run, IsRun, IsFrontOf, Goes, IsFollowed, IsWithin}
use Rattle.headline_trace.specs.Carried.{step_price, IsSteady}
use Rattle.headline_trace.proofs.Events.{front_of_same, front_length}

-- ---- fronts
-- a front that is as long is the whole
pub front_whole : {E : Type 0} (xs ys : List E) → IsFrontOf xs ys → length ys ≤ length xs → xs ≡ ys
front_whole xs ys f le = let l = front_length xs ys f in let z : length xs ≡ length ys = omega arith in sym f ∙ ap (λ n. take n ys) z ∙ take-length ys

map_take : {E F : Type 0} (f : E → F) (n : ℕ) (xs : List E) → map f (take n xs) ≡ take n (map f xs)
map_take f zero xs = refl
map_take f (suc n) [] = refl
map_take f (suc n) (x ∷ xs) = ap (λ ys. f x ∷ ys) (map_take f n xs)

pub map_front : {E F : Type 0} (f : E → F) (xs ys : List E) → IsFrontOf xs ys → IsFrontOf (map f xs) (map f ys)
map_front f xs ys front = ap (λ n. take n (map f ys)) (length-map xs f) ∙ sym (map_take f (length xs) ys) ∙ ap (map f) front

-- ---- moments of one run
-- the first moment at which a number that begins at 0 and grows by at most 1 has come so far
pub record IsFirst (f : ℕ → ℕ) (long at : ℕ) : Type 0 where
  pub here : f at ≡ long
  pub before : (i : ℕ) → i < at → f i < long

module _ (f : ℕ → ℕ) (start : f 0 ≡ 0) (single : (i : ℕ) → f (suc i) ≤ f i + 1) (long : ℕ) where
  abbrev Found : ℕ → Type 0
  Found n = (at : ℕ) × (at ≤ n) × IsFirst f long at

  abbrev IsShort : ℕ → Type 0
  IsShort n = (i : ℕ) → i ≤ n → f i < long

  short_on : (n : ℕ) → IsShort n → f (suc n) < long → IsShort (suc n)
  short_on n short last i le = ⊎_elim (λ lt. short i (omega arith)) (λ ge. let z : suc n ≡ i = omega arith in subst (λ k. f k < long) z last) (cases_lt i (suc n))

  search_first : (n : ℕ) → IsShort n ⊎ Found n
  search_first zero =
      ⊎_elim
      (λ lt. inl (λ i le. let z : 0 ≡ i = omega arith in subst (λ k. f k < long) z lt))
      (λ ge. inr (0, omega arith, record { here = omega arith; before = λ i lt. absurd (omega arith) }))
      (cases_lt (f 0) long)
  search_first (suc n) =
      ⊎_elim
      (λ short.
      ⊎_elim
      (λ lt. inl (short_on n short lt))
      (λ ge. inr (suc n, omega arith, record { here = let s = single n in let l = short n (omega arith) in omega arith; before = λ i lt. short i (omega arith) }))
      (cases_lt (f (suc n)) long))
      (λ found. inr (found.0, let q = found.1 in omega arith, found.2))
      (search_first n)

  pub first_of : (n : ℕ) → long ≤ f n → Found n
  first_of n le = ⊎_elim (λ short. let q = short n (omega arith) in absurd (omega arith)) (λ found. found) (search_first n)

-- the first step that doesn't go
pub record Halts {E : Type 0} (a : Run E) (n : ℕ) : Type 0 where
  pub step : ℕ
  pub early : step < n
  pub before : Goes a step
  pub there : a.goes step ≡ false

module _ {E : Type 0} (a : Run E) where
  one_more : (n : ℕ) → Goes a n → (b : Bool) → a.goes n ≡ b → Goes a (suc n) ⊎ Halts a (suc n)
  one_more n d false e = inr (record { step = n; early = omega arith; before = d; there = e })
  one_more n d true e = inl (λ i lt. ⊎_elim (λ l. d i l) (λ ge. let q : i ≡ n = omega arith in ap a.goes q ∙ e) (cases_lt i n))

  pub goes_or_halts : (n : ℕ) → Goes a n ⊎ Halts a n
  goes_or_halts zero = inl (λ i lt. absurd (omega arith))
  goes_or_halts (suc n) = ⊎_elim (λ d. one_more n d (a.goes n) refl) (λ u. inr (record { step = u.step; early = let l = u.early in omega arith; before = u.before; there = u.there })) (goes_or_halts n)

times_mono : (x y k : ℕ) → x ≤ y → x * k ≤ y * k
times_mono x y k le = let q : y ≡ x + (y - x) = omega arith in let p = ap (λ z. z * k) q ∙ add-mul x (y - x) k in omega arith

dear : (c m nodes : ℕ) → (m + 1) * nodes < (c + 1) * nodes → m < c
dear c m nodes lt = ⊎_elim (λ l. l) (λ ge. let p = times_mono (c + 1) (m + 1) nodes (omega arith) in absurd (omega arith)) (cases_lt m c)

-- ---- two runs
module _ {E F : Type 0} (show : E → F) (u : Run E) (steps : ℕ → ℕ) (nodes : ℕ) (b : Run F) (steady : IsSteady u steps) (run : IsRun b) (followed : IsFollowed show u b) (lag : (n : ℕ) (d : Goes u n) → IsWithin b nodes (steps n) ((followed n d).at n)) where
  long_at : (n : ℕ) (d : Goes u n) → length (b.trace ((followed n d).at n)) ≡ length (u.trace n)
  long_at n d = ap length ((followed n d).same n (omega arith)) ∙ length-map (u.trace n) show

  grows_long : (i j : ℕ) → i ≤ j → length (b.trace i) ≤ length (b.trace j)
  grows_long i j le = front_length (b.trace i) (b.trace j) (run.grows i j le)

  -- of two moments that with the shorter trace has a front of the other's
  pub shorter_front : (i j : ℕ) → length (b.trace i) ≤ length (b.trace j) → IsFrontOf (b.trace i) (b.trace j)
  shorter_front i j le =
      ⊎_elim
      (λ lt. let same = front_whole (b.trace j) (b.trace i) (run.grows j i (omega arith)) le in subst (λ z. IsFrontOf (b.trace i) z) (sym same) (front_of_same (b.trace i)))
      (λ ge. run.grows i j ge)
      (cases_lt j i)

  -- a front of the other's trace, up to a moment before which all of its steps go
  pub record HasFront (at : ℕ) : Type 0 where
    pub moment : ℕ
    pub goes : Goes u moment
    pub front : IsFrontOf (b.trace at) (map show (u.trace moment))

  by_moment : (at n : ℕ) (d : Goes u n) → IsFrontOf (b.trace at) (b.trace ((followed n d).at n)) → HasFront at
  by_moment at n d front = record { moment = n; goes = d; front = subst (λ z. IsFrontOf (b.trace at) z) ((followed n d).same n (omega arith)) front }

  -- By each moment that takes at most m instructions, if no step is undefined by then that may have come.
  pub has_front : (m at : ℕ) → b.least at ≤ m → ((i : ℕ) → steps i < (m + 1) * nodes → length (u.trace i) ≤ length (b.trace at) → u.goes i ≡ true) → HasFront at
  has_front m at cheap clean =
      let r = steady.counts ((m + 1) * nodes) in
      -- at an undefined step the trace is longer already
      let halted : (i : ℕ) → Goes u i → steps i < (m + 1) * nodes → u.goes i ≡ false → HasFront at =
      λ i before counted there.
      let far : length (b.trace at) < length (u.trace i) = ⊎_elim (λ l. l) (λ ge. let q = clean i counted ge in absurd (cc)) (cases_lt (length (b.trace at)) (length (u.trace i))) in
      let s = long_at i before in
      by_moment at i before (shorter_front at ((followed i before).at i) (omega arith)) in
      ⊎_elim
      (λ d.
      let link = followed r.0 d in
      let rests : b.rests (link.at r.0) ≡ true → HasFront at =
      λ still. by_moment at r.0 d (⊎_elim (λ l. run.grows at (link.at r.0) (omega arith)) (λ ge. subst (λ z. IsFrontOf z (b.trace (link.at r.0))) (sym (run.stays (link.at r.0) at ge still)) (front_of_same (b.trace (link.at r.0)))) (cases_lt at (link.at r.0))) in
      ⊎_elim
      (λ far.
      ⊎_elim
      (λ lt.
      let c = dear (b.least (link.at r.0)) m nodes (omega arith) in
      by_moment at r.0 d (⊎_elim (λ l. run.grows at (link.at r.0) (omega arith)) (λ ge. let q = run.longer (link.at r.0) at ge in absurd (omega arith)) (cases_lt at (link.at r.0))))
      rests
      (lag r.0 d))
      (λ ends. ⊎_elim (λ still. rests (link.rests still)) (λ stops. halted r.0 d stops.0 stops.1) ends)
      r.2)
      (λ h. halted h.step h.before (r.1 h.step h.early) h.there)
      (goes_or_halts u r.0)

  -- ---- pace
  -- From a moment on at which the other's trace has come to a length, its next m steps cost no more than they may.
  pub step_by : (i m long from k : ℕ) (d : Goes u i) → IsFirst (λ j. length (u.trace j)) long from → from ≤ i → steps i ≤ steps from + m
      → length (b.trace k) ≡ long → b.most ((followed i d).at i) ≤ b.most k + step_price * (m + 1)
  step_by i m long from k d first le few here = by from first le few where
    by : (from : ℕ) → IsFirst (λ j. length (u.trace j)) long from → from ≤ i → steps i ≤ steps from + m → b.most ((followed i d).at i) ≤ b.most k + step_price * (m + 1)
    by zero first le few =
        let link = followed i d in
        let f = link.fast 0 i (omega arith) (omega arith) in
        let p = steady.price 0 in let q = steady.price i in let n = steady.none_yet in
        let z = run.dearer (link.at 0) k (let s = link.starts in omega arith) in
        omega arith
    by (suc last) first le few =
        let link = followed i d in
        let before = first.before last (omega arith) in
        let s : length (b.trace (link.at last)) ≡ length (u.trace last) = ap length (link.same last (omega arith)) ∙ length-map (u.trace last) show in
        let behind : link.at last ≤ k = ⊎_elim (λ lt. let g = grows_long k (link.at last) (omega arith) in absurd (omega arith)) (λ ge. ge) (cases_lt k (link.at last)) in
        let f = link.fast last i (omega arith) (omega arith) in
        let p = steady.price last in let q = steady.price i in let o = steady.once last in
        let z = run.dearer (link.at last) k behind in
        omega arith

  -- From its beginning on its first m steps cost no more than they may.
  pub steps_first : (i m : ℕ) (d : Goes u i) → steps i ≤ m → b.most ((followed i d).at i) ≤ b.most 0 + step_price * m
  steps_first i m d few =
      let link = followed i d in
      let f = link.fast 0 i (omega arith) (omega arith) in
      let p = steady.price 0 in let q = steady.price i in let n = steady.none_yet in
      let z : b.most (link.at 0) ≡ b.most 0 = ap b.most link.starts in
      omega arith
