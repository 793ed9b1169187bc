-- Scopes that got enumerators: what holds of all their names still does, and all but the innermost stay.
use Rattle.std.proofs.Common.{◌≡◌, ℕ, ℤ, false, List, [], ◌∷◌, ◌++◌, refl, sym, ap, ◌∙◌, subst}
use Rattle.std.specs.Prelude.{is_some}
use Rattle.type_rules.specs.Known.{Binding, EnumeratorName, Scope}
use Rattle.type_rules.specs.Names.{innermost_in, bound_in, without_first, first_scope}
use Rattle.typed_laws.specs.Spreading.{with_enumerators, AreNew, Enumerated}
use Rattle.typed_laws.specs.Tables.{Each}
use Rattle.typed_laws.proofs.Scopes.{put_holds, bound_holds, bound_outside}

-- What each enumerator keeps is kept by all together.
pub enumerators_keep : (Q : List Scope → Type 0) → ((scopes : List Scope) (name : List ℕ) (n : ℤ) → is_some (innermost_in scopes name) ≡ false → Q scopes → Q (bound_in scopes name (EnumeratorName n)))
    → (es : List (List ℕ × ℤ)) (scopes : List Scope) → AreNew scopes es → Q scopes → Q (with_enumerators scopes es)
enumerators_keep Q one [] scopes new h = h
enumerators_keep Q one (e ∷ es) scopes new h = enumerators_keep Q one es (bound_in scopes e.0 (EnumeratorName e.1)) new.1 (one scopes e.0 e.1 new.0 h)

more_together : (es fs : List (List ℕ × ℤ)) (scopes : List Scope) → with_enumerators (with_enumerators scopes es) fs ≡ with_enumerators scopes (es ++ fs)
more_together [] fs scopes = refl
more_together (e ∷ es) fs scopes = more_together es fs (bound_in scopes e.0 (EnumeratorName e.1))

new_together : (es fs : List (List ℕ × ℤ)) (scopes : List Scope) → AreNew scopes es → AreNew (with_enumerators scopes es) fs → AreNew scopes (es ++ fs)
new_together [] fs scopes g h = h
new_together (e ∷ es) fs scopes g h = (g.0, new_together es fs (bound_in scopes e.0 (EnumeratorName e.1)) g.1 h)

pub enumerated_none : (a b : List Scope) → b ≡ a → Enumerated a b
enumerated_none a b h = ([], h, tt)

pub enumerated_on : (a b c : List Scope) → Enumerated a b → Enumerated b c → Enumerated a c
enumerated_on a b c g h = (g.0 ++ h.0, h.1 ∙ (ap (λ s. with_enumerators s h.0) g.1 ∙ more_together g.0 h.0 a), new_together g.0 h.0 a g.2 (subst (λ s. AreNew s h.0) g.1 h.2))

pub enumerated_outside : (a b : List Scope) → Enumerated a b → without_first b ≡ without_first a
enumerated_outside a b g = ap without_first g.1 ∙ enumerators_keep (λ s. without_first s ≡ without_first a) (λ scopes name n new h. bound_outside scopes name (EnumeratorName n) ∙ h) g.0 a g.2 refl

module _ (P : Binding → Type 0) where
  -- a name that is bound in the innermost scope
  pub first_bound : (scopes : List Scope) (name : List ℕ) (x : Binding) → P x → Each (λ e. P e.1) (first_scope scopes) → Each (λ e. P e.1) (first_scope (bound_in scopes name x))
  first_bound [] name x hx all = tt
  first_bound (scope ∷ scopes) name x hx all = put_holds P scope name x hx all

  module _ (numbers : (n : ℤ) → P (EnumeratorName n)) where
    pub enumerated_all : (a b : List Scope) → Enumerated a b → Each (λ scope. Each (λ e. P e.1) scope) a → Each (λ scope. Each (λ e. P e.1) scope) b
    enumerated_all a b g all = subst (Each (λ scope. Each (λ e. P e.1) scope)) (sym g.1) (enumerators_keep (Each (λ scope. Each (λ e. P e.1) scope)) (λ scopes name n new h. bound_holds P scopes name (EnumeratorName n) (numbers n) h) g.0 a g.2 all)

    pub enumerated_first : (a b : List Scope) → Enumerated a b → Each (λ e. P e.1) (first_scope a) → Each (λ e. P e.1) (first_scope b)
    enumerated_first a b g all = subst (λ s. Each (λ e. P e.1) (first_scope s)) (sym g.1) (enumerators_keep (λ s. Each (λ e. P e.1) (first_scope s)) (λ scopes name n new h. first_bound scopes name (EnumeratorName n) (numbers n) h) g.0 a g.2 all)

-- what holds of the innermost scope
pub first_of : (P : Scope → Type 0) → P [] → (scopes : List Scope) → Each P scopes → P (first_scope scopes)
first_of P none [] all = none
first_of P none (scope ∷ scopes) all = all.0
