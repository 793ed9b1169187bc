-- Rules that add rows of types alone, one behind the other.
use Rattle.std.proofs.Common.{◌≡◌, ℕ, Bool, true, false, List, [], ◌∷◌, Option, Some, None, Result, Ok, Err, refl, sym, subst}
use Rattle.c_typed.specs.declared.types.Qualified.{Qualified}
use Rattle.type_rules.specs.Faults.{Kind, Fault}
use Rattle.type_rules.specs.Known.{Known, Rule, tried, wanted, go_on}
use Rattle.typed_laws.specs.Tables.{at, Adds, Orderly}
use Rattle.typed_laws.specs.Going.{Goes}

module _ (known : Known) where
  pub goes_given : {A : Type 0} (P : List Qualified → A → Type 0) (x : A) (ts : List Qualified) → Orderly (at known ts) → P ts x → Goes known ts P (Ok (x, at known ts))
  unfolding Goes
  goes_given P x ts orderly holds = record { rows = ts; is = refl; adds = λ row q h. h; orderly = orderly; holds = holds }

  pub goes_broken : {A : Type 0} (P : List Qualified → A → Type 0) (ts : List Qualified) (fault : Fault) → Goes known ts P (Err fault)
  unfolding Goes
  goes_broken P ts fault = tt

  wider : {B : Type 0} (Q : List Qualified → B → Type 0) (ts us : List Qualified) (r : Result (B × Known) Fault) → Adds ts us → Goes known us Q r → Goes known ts Q r
  unfolding Goes
  wider Q ts us (Ok x) adds g = record { rows = g.rows; is = g.is; adds = λ row q h. g.adds row q (adds row q h); orderly = g.orderly; holds = g.holds }
  wider Q ts us (Err fault) adds g = tt

  pub goes_on : {A B : Type 0} (P : List Qualified → A → Type 0) (Q : List Qualified → B → Type 0) (ts : List Qualified) (r : Result (A × Known) Fault) (second : A → Rule B)
      → Goes known ts P r → ((x : A) (us : List Qualified) → Adds ts us → Orderly (at known us) → P us x → Goes known us Q (second x (at known us))) → Goes known ts Q (go_on second r)
  unfolding Goes
  goes_on P Q ts (Ok x) second g more = subst (λ k. Goes known ts Q (second x.0 k)) (sym g.is) (wider Q ts g.rows (second x.0 (at known g.rows)) g.adds (more x.0 g.rows g.adds g.orderly g.holds))
  goes_on P Q ts (Err fault) second g more = tt

  pub goes_test : {B : Type 0} (Q : List Qualified → B → Type 0) (ts : List Qualified) (b : Bool) (kind : Kind) (line : ℕ) (second : Known → Rule B)
      → (b ≡ false → Goes known ts Q (second (at known ts) (at known ts))) → Goes known ts Q (go_on second (tried ((b, kind) ∷ []) line (at known ts)))
  unfolding Goes
  goes_test Q ts true kind line second more = tt
  goes_test Q ts false kind line second more = more refl

  pub goes_wanted : {A B : Type 0} (Q : List Qualified → B → Type 0) (ts : List Qualified) (o : Option A) (kind : Kind) (line : ℕ) (second : A → Rule B)
      → ((x : A) → o ≡ Some x → Goes known ts Q (second x (at known ts))) → Goes known ts Q (go_on second (wanted kind line o (at known ts)))
  unfolding Goes
  goes_wanted Q ts None kind line second more = tt
  goes_wanted Q ts (Some x) kind line second more = more x refl

  -- what follows from what holds behind a rule
  pub goes_weaker : {A : Type 0} (P Q : List Qualified → A → Type 0) (ts : List Qualified) (r : Result (A × Known) Fault) → ((us : List Qualified) (x : A) → P us x → Q us x) → Goes known ts P r → Goes known ts Q r
  unfolding Goes
  goes_weaker P Q ts (Ok x) f g = record { rows = g.rows; is = g.is; adds = g.adds; orderly = g.orderly; holds = f g.rows x.0 g.holds }
  goes_weaker P Q ts (Err fault) f g = tt

  pub goes_more : {A : Type 0} (P Q : List Qualified → A → Type 0) (ts : List Qualified) (r : Result (A × Known) Fault) → Goes known ts P r → ((us : List Qualified) (x : A) → Adds ts us → P us x → Q us x) → Goes known ts Q r
  unfolding Goes
  goes_more P Q ts (Ok x) g f = record { rows = g.rows; is = g.is; adds = g.adds; orderly = g.orderly; holds = f g.rows x.0 g.adds g.holds }
  goes_more P Q ts (Err fault) g f = tt
