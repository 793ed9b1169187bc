-- A run that follows one which is led by the source is led by it, too.
use Rattle.std.proofs.Common.{◌≡◌, ℕ, ◌≤◌, List, [], ◌∷◌, map, refl, ap, ◌∙◌, arith}
use Rattle.run_links.specs.Runs.{Run, Goes, Follows, IsSlow}
use Rattle.run_links.proofs.Links.{slow_composes, lag_composes}
use Rattle.headline_trace.specs.Carried.{IsLed}

pub map_map : {E F G : Type 0} (f : E → F) (g : F → G) (xs : List E) → map g (map f xs) ≡ map (λ e. g (f e)) xs
map_map f g [] = refl
map_map f g (x ∷ xs) = ap (λ ys. g (f x) ∷ ys) (map_map f g xs)

-- two links as one
abbrev pub joined : {E F G : Type 0} (f : E → F) (g : F → G) (a : Run E) (b : Run F) (c : Run G) (n : ℕ) (first : Follows f a b n) → Follows g b c (first.at n) → Follows (λ e. g (f e)) a c n
joined f g a b c n first second = record {
  at = λ i. second.at (first.at i);
  starts = ap second.at first.starts ∙ second.starts;
  rises = λ i j l m. second.rises (first.at i) (first.at j) (first.rises i j l m) (first.rises j n m (omega arith));
  goes = second.goes;
  same = λ i m. second.same (first.at i) (first.rises i n m (omega arith)) ∙ ap (map g) (first.same i m) ∙ map_map f g (a.trace i);
  fast = λ i j l m.
      let p = first.fast i j l m in
      let q = second.fast (first.at i) (first.at j) (first.rises i j l m) (first.rises j n m (omega arith)) in
      omega arith;
  rests = λ r. second.rests (first.rests r);
}

-- A run is followed by one that follows it as far as something holds of its moments, which the first link says of those that it reaches.
pub through : {E F G : Type 0} (f : E → F) (g : F → G) (a : Run E) (b : Run F) (c : Run G) (n : ℕ) (P : ℕ → Type 0) → (link : Follows f a b n) × IsSlow f a b n link × P (link.at n)
    → ((k : ℕ) → Goes b k → P k → (link : Follows g b c k) × IsSlow g b c k link) → (link : Follows (λ e. g (f e)) a c n) × IsSlow (λ e. g (f e)) a c n link
through {E} {F} {G} f g a b c n P first on =
    let second = on (first.0.at n) first.0.goes first.2 in
    (joined f g a b c n first.0 second.0, slow_composes E F G f g a b c n first.0 second.0 first.1 second.1)

module _ {E F G : Type 0} (f : E → F) (g : F → G) (a : Run E) (b : Run F) (c : Run G) (steps : ℕ → ℕ) (nodes : ℕ) (led : IsLed f a steps nodes b)
    (on : (n : ℕ) (d : Goes a n) → (link : Follows g b c ((led.followed n d).at n)) × (b.least ((led.followed n d).at n) ≤ c.least (link.at ((led.followed n d).at n)))) where
  module _ (n : ℕ) (d : Goes a n) where
    abbrev first : Follows f a b n
    first = led.followed n d

    pub second : (link : Follows g b c (first.at n)) × (b.least (first.at n) ≤ c.least (link.at (first.at n)))
    second = on n d

    abbrev follow : Follows (λ e. g (f e)) a c n
    follow = joined f g a b c n first second.0

  abbrev pub led_on : IsLed (λ e. g (f e)) a steps nodes c
  led_on = record {
    followed = follow;
    lag = λ n d. lag_composes F G g b c nodes (steps n) ((first n d).at n) (led.lag n d) (second n d).0 (second n d).1;
  }
