-- A pass in which nothing changes asks for nothing new.
use Rattle.std.proofs.Common.{◌≡◌, ℕ, suc, ◌+◌, ◌<◌, ◌≤◌, Bool, true, false, List, [], ◌∷◌, ◌++◌, length, Option, Some, None, refl, sym, ap, ◌∙◌, subst, ⊎_elim, replicate, zero, arith}
use Rattle.std.specs.Prelude.{slice_index_or}
use Rattle.std.proofs.lemmas.List.{length-replicate}
use Rattle.std.proofs.lemmas.Bool.{both_ways, cases_lt}
use Rattle.depth_check.specs.declared.tables.Spot.{Spot}
use Rattle.depth_check.specs.declared.tables.Out.{Out}
use Rattle.depth_check.specs.Search.{Tables, unchanged, step, with_roots}
use Rattle.depth_check.specs.Found.{flag_size, size, Goes, IsSettled, IsSearch, IsOver}
use Rattle.depth_check.proofs.Growing.{goes_then}
use Rattle.depth_check.proofs.Stepping.{step_goes, roots_go}

-- the pass so far
abbrev pub IsPassed : List ℕ → Tables → Tables → ℕ → Type 0
IsPassed image t u at = Goes image t u × (u.changed ≡ false → IsSettled image u at)

pub begun : (image : List ℕ) (t u : Tables) → u ≡ with_roots t → IsPassed image t u 0
begun image t u e = subst (λ z. IsPassed image t z 0) (sym e) (
  roots_go image t,
  λ q. record { roots = subst (λ z. (with_roots z).changed ≡ false) (sym ((roots_go image t).moves.quiet q).1) q; rows = λ at lt. absurd (omega arith) },
)

pub went : (image : List ℕ) (t u v : Tables) (at : ℕ) → IsPassed image t u at → v ≡ step image u at → IsPassed image t v (at + 1)
went image t u v at p e = subst (λ z. IsPassed image t z (at + 1)) (sym e) (
  goes_then image t u (step image u at) p.0 (step_goes image u at),
  λ q.
      let b = (step_goes image u at).moves.quiet q in
      let s = p.1 b.0 in
      record {
        roots = subst (λ z. (with_roots z).changed ≡ false) (sym b.1) s.roots;
        rows = λ k lt. subst (λ z. (step image z k).changed ≡ false) (sym b.1) (⊎_elim (λ l. s.rows k l) (λ l. subst (λ z. (step image u z).changed ≡ false) (same k at l lt) q) (cases_lt k at));
      },
) where
  same : (k at : ℕ) → at ≤ k → k < at + 1 → at ≡ k
  same k at a b = omega arith

-- what else was found between two rows
pub went_on : (image : List ℕ) (t u v : Tables) (at : ℕ) → IsPassed image t u at → Goes image u v → IsPassed image t v at
went_on image t u v at p g = (
  goes_then image t u v p.0 g,
  λ q.
      let b = g.moves.quiet q in
      let s = p.1 b.0 in
      record {
        roots = subst (λ z. (with_roots z).changed ≡ false) (sym b.1) s.roots;
        rows = λ k lt. subst (λ z. (step image z k).changed ≡ false) (sym b.1) (s.rows k lt);
      },
)

-- ---- a chase
pub chased : (image : List ℕ) (t u v : Tables) (at : ℕ) → Goes image t u → v ≡ step image u at → Goes image t v
chased image t u v at g e = goes_then image t u v g (subst (Goes image u) (sym e) (step_goes image u at))

-- ---- passes until nothing changes
-- what is left to do falls with each pass
pub fewer : (image : List ℕ) (t u : Tables) → t.changed ≡ true → Goes image (unchanged t) u → size u + flag_size u.changed < size t + flag_size t.changed
fewer image t u e g = by u.changed refl where
  q : flag_size t.changed ≡ 1
  q = ap flag_size e

  least : size u ≤ size t
  least = g.moves.least

  by : (b : Bool) → u.changed ≡ b → size u + flag_size u.changed < size t + flag_size t.changed
  by false h = let z : flag_size u.changed ≡ 0 = ap flag_size h in omega (arith, q, least, z)
  by true h = ⊎_elim (λ l. absurd (cc)) (λ l. let z : flag_size u.changed ≡ 1 = ap flag_size h in omega (arith, q, l, z)) (g.moves.less h)

pub still_search : (image : List ℕ) (interrupts : Bool) (cell : ℕ) (t u : Tables) → IsSearch image interrupts cell t → Goes image (unchanged t) u → IsSearch image interrupts cell u
still_search image interrupts cell t u s g = record {
  interrupts_is = g.moves.interrupts ∙ s.interrupts_is;
  cell_is = g.moves.cell ∙ s.cell_is;
  spots = g.moves.spots ∙ s.spots;
  outs = g.moves.outs ∙ s.outs;
  under = λ c v k i.
      let w = s.under c v k i in
      g.keeps c v (k ∙ sym s.cell_is) (i ∙ sym s.interrupts_is) (record { placed = w.placed; owned = λ at y e. let o = w.owned at y e in record { spot = o.spot; is = o.is; same = o.same }; bare = w.bare; left = λ n o e. let l = w.left n o e in record { at = l.at; spot = l.spot; is = l.is; same = l.same; leaves = l.leaves; p3 = l.p3; p4 = l.p4 } });
}

-- ---- at first
pub not_over : (image : List ℕ) (t : Tables) → t.changed ≡ true → IsOver image t
not_over image t e q = absurd (both_ways t.changed q e)

none_there : {X : Type 0} (n at : ℕ) (v : X) → slice_index_or (replicate n None) at None ≡ Some v → ⊥
none_there zero at v e = cc
none_there (suc n) zero v e = cc
none_there (suc n) (suc at) v e = none_there n at v e

pub nothing_found : (image : List ℕ) (interrupts : Bool) (cell : ℕ) (changed : Bool) (spots : List (Option Spot)) (outs : List (Option Out)) → spots ≡ replicate 8192 None → outs ≡ replicate 8192 None
    → IsSearch image interrupts cell (record { interrupts = interrupts; cell = cell; spots = spots; outs = outs; changed = changed })
nothing_found image interrupts cell changed spots outs es eo = record {
  interrupts_is = refl;
  cell_is = refl;
  spots = ap length es ∙ length-replicate {A = Option Spot} 8192 None;
  outs = ap length eo ∙ length-replicate {A = Option Out} 8192 None;
  under = λ c v k i. record {
    placed = λ at s e. absurd (none_there 8192 at s (ap (λ z. slice_index_or z at None) (sym es) ∙ e));
    owned = λ at s e. absurd (none_there 8192 at s (ap (λ z. slice_index_or z at None) (sym es) ∙ e));
    bare = λ at s e. absurd (none_there 8192 at s (ap (λ z. slice_index_or z at None) (sym es) ∙ e));
    left = λ n o e. absurd (none_there 8192 n o (ap (λ z. slice_index_or z n None) (sym eo) ∙ e));
  };
}

pub one_more : {X : Type 0} (n : ℕ) (xs ys : List (Option X)) → xs ≡ replicate n None → ys ≡ xs ++ None ∷ [] → ys ≡ replicate (n + 1) None
one_more {X} n xs ys e f = f ∙ ap (λ zs. zs ++ None ∷ []) e ∙ more n where
  more : (n : ℕ) → replicate n None ++ None ∷ [] ≡ replicate {A = Option X} (n + 1) None
  more zero = refl
  more (suc n) = ap (λ ys. None ∷ ys) (more n) ∙ ap (λ k. replicate {A = Option X} k None) (one n) where
    one : (n : ℕ) → suc (n + 1) ≡ suc n + 1
    one n = omega arith

pub full : {X : Type 0} (n : ℕ) (xs : List (Option X)) → xs ≡ replicate n None → n ≡ 8192 → xs ≡ replicate 8192 None
full n xs e f = subst (λ k. xs ≡ replicate k None) f e
