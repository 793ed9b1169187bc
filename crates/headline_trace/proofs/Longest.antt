-- Where all chains of calls from one number to another are no longer than some number, one of them is the longest.
use Rattle.std.proofs.Common.{◌≡◌, ℕ, zero, suc, ◌≤◌, inl, inr, Bool, true, false, nat_eq, get_or, List, [], ◌∷◌, length, refl, sym, ap, ◌∙◌, subst, arith}
use Rattle.std.specs.List.{list_any}
use Rattle.std.proofs.lemmas.Bool.{eqb-true, eq-eqb, cases_lt, false≢true}
use Rattle.c_typed.specs.Chains.{IsChain, IsLevel}
use Rattle.headline_trace.proofs.CallChains.{any_in, in_any}
use Rattle.headline_trace.proofs.Members.{has_of, of_has}

-- a chain of exactly so many calls leads from f to g
unfoldable exactly : List (List ℕ) → ℕ → ℕ → ℕ → Bool
exactly graph zero f g = nat_eq f g
exactly graph (suc n) f g = list_any (λ h. exactly graph n h g) (get_or graph f [])

exactly_sound : (graph : List (List ℕ)) (n f g : ℕ) → exactly graph n f g ≡ true → (hs : List ℕ) × IsChain graph f hs g × (length hs ≡ n)
unfolding exactly
exactly_sound graph zero f g e = ([], eqb-true f g e, refl)
exactly_sound graph (suc n) f g e =
    let x = any_in (λ h. exactly graph n h g) (get_or graph f []) e in
    let r = exactly_sound graph n x.0 g x.2 in
    (x.0 ∷ r.0, (of_has (get_or graph f []) x.0 x.1, r.1), ap suc r.2)

exactly_complete : (graph : List (List ℕ)) (f g : ℕ) (hs : List ℕ) → IsChain graph f hs g → exactly graph (length hs) f g ≡ true
unfolding exactly
exactly_complete graph f g [] c = eq-eqb f g c
exactly_complete graph f g (h ∷ hs) c = in_any (λ k. exactly graph (length hs) k g) (get_or graph f []) h (has_of (get_or graph f []) h c.0) (exactly_complete graph h g hs c.1)

pub record HasLevelUnder (graph : List (List ℕ)) (root g : ℕ) : Type 0 where
  pub level : ℕ
  pub is : IsLevel graph root g level

one_less : (m n : ℕ) → m ≤ suc n → (m ≡ suc n → ⊥) → m ≤ n
one_less m n l other = elim (cases_lt n m) [ inl lt ↦ absurd (let e : m ≡ suc n = omega (arith, l, lt) in other e) | inr le ↦ le ]

pub level_under : (graph : List (List ℕ)) (root g most : ℕ) → ((hs : List ℕ) → IsChain graph root hs g → length hs ≤ most) → (hs : List ℕ) → IsChain graph root hs g → HasLevelUnder graph root g
level_under graph root g zero all hs c = let l = all hs c in record { level = 0; is = ((hs, c, omega (arith, l)), all) }
level_under graph root g (suc n) all hs c = by (exactly graph (suc n) root g) refl (λ less. level_under graph root g n less hs c) where
  by : (b : Bool) → exactly graph (suc n) root g ≡ b → (((ks : List ℕ) → IsChain graph root ks g → length ks ≤ n) → HasLevelUnder graph root g) → HasLevelUnder graph root g
  by true e below = record { level = suc n; is = (exactly_sound graph (suc n) root g e, all) }
  by false e below = below (λ ks k. one_less (length ks) n (all ks k) (λ same. false≢true (sym e ∙ subst (λ (m : ℕ). exactly graph m root g ≡ true) same (exactly_complete graph root g ks k))))
