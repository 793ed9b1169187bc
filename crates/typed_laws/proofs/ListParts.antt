-- One part of a list, and others behind it.
use Rattle.std.proofs.Common.{◌≡◌, Result, Ok, Err, refl, sym, ap, ◌∙◌}
use Rattle.type_rules.specs.Faults.{Fault}
use Rattle.type_rules.specs.Known.{Known, Rule, given, go_on}
use Rattle.typed_laws.specs.Firsts.{outcome}
use Rattle.typed_laws.proofs.Firsts.{and_then}

pub outcome_given : {A B : Type 0} (f : A → B) (r : Result (A × Known) Fault) → outcome (go_on (λ x. given (f x)) r) ≡ outcome r
outcome_given f (Ok x) = refl
outcome_given f (Err fault) = refl

-- one part, and others behind it
pub chain : {A B : Type 0} (r : Result (A × Known) Fault) (second last : A → Rule B) (rest : Known → Result Known Fault) → ((x : A) (k : Known) → outcome (second x k) ≡ rest k) → ((x : A) (k : Known) → outcome (last x k) ≡ Ok k)
    → outcome (go_on second r) ≡ and_then (outcome (go_on last r)) rest
chain (Ok x) second last rest h l = h x.0 x.1 ∙ ap (λ o. and_then o rest) (sym (l x.0 x.1))
chain (Err fault) second last rest h l = refl

-- one part from which something is made that is handed on
pub chain_to : {A B : Type 0} (r : Result (B × Known) Fault) (made : B → A) (second last : A → Rule A) → ((x : A) (k : Known) → last x k ≡ Ok (x, k)) → go_on (λ x. second (made x)) r ≡ and_then (go_on (λ x. last (made x)) r) (λ s. second s.0 s.1)
chain_to (Ok x) made second last l = ap (λ o. and_then o (λ s. second s.0 s.1)) (sym (l (made x.0) x.1))
chain_to (Err fault) made second last l = refl

-- one part that hands something on, and others behind it
pub chain_on : {A : Type 0} (r : Result (A × Known) Fault) (second last : A → Rule A) → ((x : A) (k : Known) → last x k ≡ Ok (x, k)) → go_on second r ≡ and_then (go_on last r) (λ s. second s.0 s.1)
chain_on (Ok x) second last l = ap (λ o. and_then o (λ s. second s.0 s.1)) (sym (l x.0 x.1))
chain_on (Err fault) second last l = refl
