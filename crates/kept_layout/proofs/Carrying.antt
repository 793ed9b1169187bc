-- A schedule that is made from the kept trace of one run is so made from that of a run that follows it.
use Rattle.std.proofs.Common.{◌≡◌, ℕ, zero, suc, ◌+◌, ◌≤◌, Bool, true, false, if◌then◌else◌, List, [], ◌∷◌, length, map, take, refl, sym, ap, ◌∙◌, ⊎_elim, arith}
use Rattle.std.proofs.lemmas.Bool.{cases_lt}
use Rattle.core_code.specs.Bytes.{Held}
use Rattle.pic_world.specs.World.{Happening, ReadOf, WriteOf, Ended, event_as}
use Rattle.run_links.specs.Runs.{Run, IsFrontOf}
use Rattle.kept_trace.specs.Kept.{is_kept, kept_events}
use Rattle.kept_layout.specs.Carrying.{IsStepwise, Carries}

rest_of : {E : Type 0} → List E → List E
rest_of [] = []
rest_of (x ∷ xs) = xs

front_short : {E : Type 0} (xs ys : List E) → IsFrontOf xs ys → length xs ≤ length ys
unfolding rest_of
front_short [] ys e = omega arith
front_short (x ∷ xs) [] e = let z = ap length e in omega (arith, z)
front_short (x ∷ xs) (y ∷ ys) e = let l = front_short xs ys (ap rest_of e) in omega (arith, l)

take_map : {A B : Type 0} (f : A → B) (k : ℕ) (xs : List A) → take k (map f xs) ≡ map f (take k xs)
take_map f zero xs = refl
take_map f (suc k) [] = refl
take_map f (suc k) (x ∷ xs) = ap (λ (ys : List _). f x ∷ ys) (take_map f k xs)

length_map : {A B : Type 0} (f : A → B) (xs : List A) → length (map f xs) ≡ length xs
length_map f [] = refl
length_map f (x ∷ xs) = ap suc (length_map f xs)

module _ (kept : List Bool) (f : Held → ℕ) where
  kept_as : (e : Happening Held) → is_kept kept (event_as f e) ≡ is_kept kept e
  kept_as (ReadOf cell byte) = refl
  kept_as (WriteOf cell byte) = refl
  kept_as Ended = refl

  kept_map : (es : List (Happening Held)) → length (kept_events kept (map (event_as f) es)) ≡ length (kept_events kept es)
  kept_map [] = refl
  kept_map (e ∷ es) =
      ap (λ (b : Bool). length (if b then event_as f e ∷ kept_events kept (map (event_as f) es) else kept_events kept (map (event_as f) es))) (kept_as e)
      ∙ by (kept_map es) (is_kept kept e)
    where
      by : length (kept_events kept (map (event_as f) es)) ≡ length (kept_events kept es) → (b : Bool)
          → length (if b then event_as f e ∷ kept_events kept (map (event_as f) es) else kept_events kept (map (event_as f) es)) ≡ length (if b then e ∷ kept_events kept es else kept_events kept es)
      by more true = ap suc more
      by more false = more

module _ (a : Run (Happening Held)) (steps : IsStepwise a) where
  reached : (n k : ℕ) → k ≤ length (a.trace n) → (i : ℕ) × (i ≤ n) × (length (a.trace i) ≡ k)
  reached zero k l = let z = ap length steps.none in (zero, omega arith, omega (arith, l, z))
  reached (suc n) k l =
      ⊎_elim
      (λ lt. let r = reached n k (omega (arith, lt)) in (r.0, omega (arith, r.1), r.2))
      (λ ge. let s = steps.single n in (suc n, omega arith, omega (arith, l, s, ge)))
      (cases_lt k (length (a.trace n) + 1))

pub carries : Carries
carries kept f a b n link steps grows s t made k l =
    let front = grows k (link.at n) l in
    let size : length (b.trace k) ≤ length (a.trace n) = (let m = front_short (b.trace k) (b.trace (link.at n)) front in let e = ap length (link.same n (omega arith)) ∙ length_map (event_as f) (a.trace n) in omega (arith, m, e)) in
    let r = reached a steps n (length (b.trace k)) size in
    let there : b.trace k ≡ map (event_as f) (a.trace r.0) =
    sym front ∙ ap (take (length (b.trace k))) (link.same n (omega arith)) ∙ take_map (event_as f) (length (b.trace k)) (a.trace n)
    ∙ ap (λ (i : ℕ). map (event_as f) (take i (a.trace n))) (sym r.2) ∙ ap (map (event_as f)) (steps.grows r.0 n r.1) in
    ap s (sym r.2) ∙ made r.0 r.1 ∙ ap t (sym (kept_map kept f (a.trace r.0)) ∙ ap (λ (es : List (Happening ℕ)). length (kept_events kept es)) (sym there))
