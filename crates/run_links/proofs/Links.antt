-- Links compose, and what they give.
use Rattle.std.proofs.Common.{◌≡◌, ℕ, zero, suc, ◌+◌, ◌-◌, ◌*◌, ◌<◌, ◌≤◌, ◌⊎◌, inl, inr, Bool, true, false, List, [], ◌∷◌, map, length, take, length-take, refl, ap, ◌∙◌, ⊎_elim, arith}
use Rattle.std.proofs.lemmas.Bool.{cases_lt}
use Rattle.std.proofs.lemmas.List.{length-map}
use Rattle.std.proofs.Math.Nat.{add-mul}
use Rattle.run_links.specs.Runs.{Run, IsFrontOf, Goes, Follows, IsSlow}
use Rattle.run_links.specs.Laws.{Composes, SlowComposes, LagComposes, HasPace, Counts, IsNotStuck}

map_map : {E F G : Type 0} (f : E → F) (g : F → G) (xs : List E) → map g (map f xs) ≡ map (λ e. g (f e)) xs
map_map f g [] = refl
map_map f g (x ∷ xs) = ap (λ ys. g (f x) ∷ ys) (map_map f g xs)

pub compose : (E F G : Type 0) → Composes E F G
compose E F G f g a b c n first second = record {
  at = λ i. second.at (first.at i);
  starts = ap second.at first.starts ∙ second.starts;
  rises = λ i j l m. second.rises (first.at i) (first.at j) (first.rises i j l m) (first.rises j n m (omega arith));
  goes = second.goes;
  same = λ i m. second.same (first.at i) (first.rises i n m (omega arith)) ∙ ap (map g) (first.same i m) ∙ map_map f g (a.trace i);
  fast = λ i j l m.
      let p = first.fast i j l m in
      let q = second.fast (first.at i) (first.at j) (first.rises i j l m) (first.rises j n m (omega arith)) in
      omega arith;
  rests = λ r. second.rests (first.rests r);
}

pub slow_composes : (E F G : Type 0) → SlowComposes E F G
slow_composes E F G f g a b c n first second one other i j l m =
    let p = one i j l m in
    let q = other (first.at i) (first.at j) (first.rises i j l m) (first.rises j n m (omega arith)) in
    omega arith

times_mono : (x y k : ℕ) → x ≤ y → x * k ≤ y * k
times_mono x y k le = let q : y ≡ x + (y - x) = omega arith in let p = ap (λ z. z * k) q ∙ add-mul x (y - x) k in omega arith

pub lag_composes : (F G : Type 0) → LagComposes F G
lag_composes F G g b c nodes steps m within second le =
    ⊎_elim
    (λ lt.
    let p = times_mono (b.least m + 1) (c.least (second.at m) + 1) nodes (omega arith) in
    inl (omega arith))
    (λ r. inr (second.rests r))
    within

-- what costs no less between any two moments costs no less from the start
pub slow_from_start : {F G : Type 0} (g : F → G) (b : Run F) (c : Run G) (m : ℕ) → b.least 0 ≡ 0 → (link : Follows g b c m) × IsSlow g b c m link → (link : Follows g b c m) × (b.least m ≤ c.least (link.at m))
slow_from_start g b c m free linked = (linked.0, let s = linked.1 0 m (omega arith) (omega arith) in omega arith)

pub pace : (E F : Type 0) → HasPace E F
pace E F f a b n i j k run link l m behind =
    let p = link.fast i j l m in
    let q = run.dearer (link.at i) k behind in
    omega arith

-- the first step that doesn't go
record Halts {E : Type 0} (a : Run E) (n : ℕ) : Type 0 where
  step : ℕ
  early : step < n
  before : Goes a step
  there : a.goes step ≡ false

module _ {E : Type 0} (a : Run E) where
  one_more : (n : ℕ) → Goes a n → (b : Bool) → a.goes n ≡ b → Goes a (suc n) ⊎ Halts a (suc n)
  one_more n d false e = inr (record { step = n; early = omega arith; before = d; there = e })
  one_more n d true e = inl (λ i lt. ⊎_elim (λ l. d i l) (λ ge. let q : i ≡ n = omega arith in ap a.goes q ∙ e) (cases_lt i n))

  walk : (n : ℕ) → Goes a n ⊎ Halts a n
  walk zero = inl (λ i lt. absurd (omega arith))
  walk (suc n) = ⊎_elim (λ d. one_more n d (a.goes n) refl) (λ u. inr (record { step = u.step; early = let l = u.early in omega arith; before = u.before; there = u.there })) (walk n)

dear : (c m nodes : ℕ) → (m + 1) * nodes < (c + 1) * nodes → m < c
dear c m nodes lt = ⊎_elim (λ l. l) (λ ge. let p = times_mono (c + 1) (m + 1) nodes (omega arith) in absurd (omega arith)) (cases_lt m c)

front_length : {E : Type 0} (xs ys : List E) → IsFrontOf xs ys → length xs ≤ length ys
front_length xs ys e = let q : length (take (length xs) ys) ≡ length xs = ap length e in let t = length-take (length xs) ys in omega arith

pub not_stuck : (E F : Type 0) → IsNotStuck E F
not_stuck E F f a b steps nodes m long run followed within reaches clean k cheap short =
    let r = reaches ((m + 1) * nodes) in
    -- at an undefined step the trace is longer already
    let halted : (i : ℕ) → Goes a i → steps i < (m + 1) * nodes → a.goes i ≡ false → b.goes k ≡ true =
    λ i before counted there.
    let link = followed i before in
    let far : long < length (a.trace i) =
    ⊎_elim (λ l. l) (λ ge. let q = clean i counted ge in absurd (cc)) (cases_lt long (length (a.trace i))) in
    ⊎_elim (λ l. link.goes k l)
    (λ ge.
    let q = front_length (b.trace (link.at i)) (b.trace k) (run.grows (link.at i) k ge) in
    let s : length (b.trace (link.at i)) ≡ length (a.trace i) = ap length (link.same i (omega arith)) ∙ length-map (a.trace i) f in
    absurd (omega arith))
    (cases_lt k (link.at i)) in
    ⊎_elim
    (λ d.
    let link = followed r.0 d in
    let rests : b.rests (link.at r.0) ≡ true → b.goes k ≡ true =
    λ still. ⊎_elim (λ l. link.goes k l) (λ ge. run.waits (link.at r.0) k ge still) (cases_lt k (link.at r.0)) in
    ⊎_elim
    (λ far.
    ⊎_elim
    (λ lt.
    let c = dear (b.least (link.at r.0)) m nodes (omega arith) in
    ⊎_elim (λ l. link.goes k l) (λ ge. let q = run.longer (link.at r.0) k ge in absurd (omega arith)) (cases_lt k (link.at r.0)))
    rests
    (within r.0 d))
    (λ ends. ⊎_elim (λ still. rests (link.rests still)) (λ stops. halted r.0 d stops.0 stops.1) ends)
    r.2)
    (λ u. halted u.step u.before (r.1 u.step u.early) u.there)
    (walk a r.0)
