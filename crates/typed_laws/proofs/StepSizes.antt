-- Rules one behind the other, and what they declare.
use Rattle.std.proofs.Common.{◌≡◌, ℕ, zero, suc, ◌≤◌, List, [], ◌∷◌, length, Option, Some, None, Result, Ok, Err, refl, ap, arith}
use Rattle.type_rules.specs.Faults.{Kind, Fault, Tests, first_broken}
use Rattle.type_rules.specs.Known.{Known, Rule, told, tried, wanted, go_on}
use Rattle.type_rules.specs.Rows.{changed_at}
use Rattle.type_rules.specs.Terms.{Term}
use Rattle.typed_laws.specs.Weights.{Met, held, Costs, nothing, IsTerm}

pub met_given : {A : Type 0} (P : A → Known → Type 0) (x : A) (k : Known) → P x k → Met P (Ok (x, k))
unfolding Met
met_given P x k h = h

pub met_broken : {A : Type 0} (P : A → Known → Type 0) (fault : Fault) → Met P (Err fault)
unfolding Met
met_broken P fault = tt

pub met_on : {A B : Type 0} (P : A → Known → Type 0) (Q : B → Known → Type 0) (r : Result (A × Known) Fault) (second : A → Rule B) → Met P r → ((x : A) (k : Known) → P x k → Met Q (second x k)) → Met Q (go_on second r)
unfolding Met
met_on P Q (Ok x) second h more = more x.0 x.1 h
met_on P Q (Err fault) second h more = tt

-- what follows from what holds behind a rule
pub met_weaker : {A : Type 0} (P Q : A → Known → Type 0) (r : Result (A × Known) Fault) → ((x : A) (k : Known) → P x k → Q x k) → Met P r → Met Q r
unfolding Met
met_weaker P Q (Ok x) f h = f x.0 x.1 h
met_weaker P Q (Err fault) f h = tt

-- tests, and nothing behind them
told_met : (P : Known → Known → Type 0) (found : Option Kind) (line : ℕ) (known : Known) → P known known → Met P (told found line known)
unfolding Met
told_met P None line known h = h
told_met P (Some kind) line known h = tt

pub met_tests : (P : Known → Known → Type 0) (tests : Tests) (line : ℕ) (known : Known) → P known known → Met P (tried tests line known)
met_tests P tests line known h = told_met P (first_broken tests) line known h

met_told : {B : Type 0} (Q : B → Known → Type 0) (found : Option Kind) (line : ℕ) (known : Known) (second : Known → Rule B) → Met Q (second known known) → Met Q (go_on second (told found line known))
unfolding Met
met_told Q None line known second h = h
met_told Q (Some kind) line known second h = tt

pub met_tried : {B : Type 0} (Q : B → Known → Type 0) (tests : Tests) (line : ℕ) (known : Known) (second : Known → Rule B) → Met Q (second known known) → Met Q (go_on second (tried tests line known))
met_tried Q tests line known second h = met_told Q (first_broken tests) line known second h

pub met_wanted : {A B : Type 0} (Q : B → Known → Type 0) (kind : Kind) (line : ℕ) (found : Option A) (known : Known) (second : A → Rule B) → ((x : A) → found ≡ Some x → Met Q (second x known)) → Met Q (go_on second (wanted kind line found known))
unfolding Met
met_wanted Q kind line None known second more = tt
met_wanted Q kind line (Some x) known second more = more x refl

-- ---- what there is more room for

pub term_more : (h m n : ℕ) (r : Result (Term × Known) Fault) → m ≤ n → Met (IsTerm h m) r → Met (IsTerm h n) r
term_more h m n r le = met_weaker (IsTerm h m) (IsTerm h n) r (λ t k g. record { form_light = omega arith; listed_light = omega arith; within = g.within })

pub costs_more : {A : Type 0} (h m n : ℕ) (weight : A → ℕ) (r : Result (A × Known) Fault) → m ≤ n → Met (Costs h m weight) r → Met (Costs h n weight) r
costs_more h m n weight r le = met_weaker (Costs h m weight) (Costs h n weight) r (λ x k g. record { light = omega arith; within = g.within })

-- ---- rules that declare nothing

pub kept : {A : Type 0} (h : ℕ) (x : A) (k : Known) → held k ≤ h → Costs h 0 nothing x k
kept h x k within = record { light = omega arith; within = within }

pub met_kept : {A : Type 0} (h : ℕ) (x : A) (k : Known) → held k ≤ h → Met (Costs h 0 nothing) (Ok (x, k))
met_kept h x k within = met_given (Costs h 0 nothing) x k (kept h x k within)

pub only_kept : {A : Type 0} (h n : ℕ) (weight : A → ℕ) (r : Result (A × Known) Fault) → Met (Costs h n weight) r → Met (Costs h 0 nothing) r
only_kept h n weight r = met_weaker (Costs h n weight) (Costs h 0 nothing) r (λ x k g. kept h x k g.within)

-- ---- lists

pub changed_length : {A : Type 0} (xs : List A) (n : ℕ) (change : A → A) → length (changed_at xs n change) ≡ length xs
changed_length [] n change = refl
changed_length (x ∷ xs) zero change = refl
changed_length (x ∷ xs) (suc n) change = ap suc (changed_length xs n change)
