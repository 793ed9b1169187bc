-- Rules one behind the other.
use Rattle.std.proofs.Common.{◌≡◌, Result, Ok, Err, refl, ap, ◌∙◌}
use Rattle.type_rules.specs.Faults.{Fault}
use Rattle.type_rules.specs.Known.{Known, Rule, given, go_on, ◌>>=◌}
use Rattle.type_rules.specs.Terms.{Term, Operand, Form, ValueForm, PlaceForm, FunctionForm, TypeForm, used, indexed, value_in}
use Rattle.check_expr.specs.Folds.{bare}
use Rattle.check_expr.specs.Views.{unlisted}

pub last_given : {A : Type 0} (r : Result (A × Known) Fault) → go_on (λ a. given a) r ≡ r
last_given (Ok x) = refl
last_given (Err e) = refl

pub same_behind : {A B : Type 0} (f g : A → Rule B) → ((a : A) (k : Known) → f a k ≡ g a k) → (r : Result (A × Known) Fault) → go_on f r ≡ go_on g r
same_behind f g e (Ok x) = e x.0 x.1
same_behind f g e (Err x) = refl

pub grouped : {A B C : Type 0} (f : A → Rule B) (g : B → Rule C) (r : Result (A × Known) Fault) → go_on g (go_on f r) ≡ go_on (λ a. f a >>= g) r
grouped f g (Ok x) = refl
grouped f g (Err x) = refl

-- the same of what is seen of a result
pub deeper : {A B C D : Type 0} (see : Result (C × Known) Fault → D) (f : A → Rule B) (g : B → Rule C) (h : A → Rule C) → ((a : A) (k : Known) → see (go_on g (f a k)) ≡ see (h a k)) → (r : Result (A × Known) Fault) → see (go_on g (go_on f r)) ≡ see (go_on h r)
deeper see f g h e (Ok x) = e x.0 x.1
deeper see f g h e (Err x) = refl

pub both_deeper : {A B B' C : Type 0} (f : A → Rule B) (g : B → Rule C) (f' : A → Rule B') (g' : B' → Rule C) → ((a : A) (k : Known) → go_on g (f a k) ≡ go_on g' (f' a k)) → (r : Result (A × Known) Fault) → go_on g (go_on f r) ≡ go_on g' (go_on f' r)
both_deeper f g f' g' e (Ok x) = e x.0 x.1
both_deeper f g f' g' e (Err x) = refl

pub both_bare : {B B' C : Type 0} (f : Term → Rule B) (g : B → Rule C) (f' : Term → Rule B') (g' : B' → Rule C) → ((t : Term) (k : Known) → go_on g (f (bare t) k) ≡ go_on g' (f' t k)) → (r : Result (Term × Known) Fault) → go_on g (go_on f (unlisted r)) ≡ go_on g' (go_on f' r)
both_bare f g f' g' e (Ok x) = e x.0 x.1
both_bare f g f' g' e (Err x) = refl

pub three_deep : {A B B' C C' : Type 0} (f : A → Rule B) (g : B → Rule B') (h : B' → Rule C) (f' : A → Rule C') (g' : C' → Rule C) → ((a : A) (k : Known) → go_on h (go_on g (f a k)) ≡ go_on g' (f' a k)) → (r : Result (A × Known) Fault) → go_on h (go_on g (go_on f r)) ≡ go_on g' (go_on f' r)
three_deep f g h f' g' e (Ok x) = e x.0 x.1
three_deep f g h f' g' e (Err x) = refl

-- ---- what doesn't look at what stands between commas

pub unseen : {B : Type 0} (f : Term → Rule B) → ((t : Term) (k : Known) → f (bare t) k ≡ f t k) → (r : Result (Term × Known) Fault) → go_on f (unlisted r) ≡ go_on f r
unseen f e (Ok x) = e x.0 x.1
unseen f e (Err x) = refl

value_bare : (form : Form) (t : Term) (k : Known) → value_in (bare t) form k ≡ value_in t form k
value_bare (ValueForm value) t k = refl
value_bare (PlaceForm place reach) t k = refl
value_bare (FunctionForm number b) t k = refl
value_bare TypeForm t k = refl

pub used_bare : (t : Term) (k : Known) → used (bare t) k ≡ used t k
used_bare t k = same_behind _ _ (λ _ k. value_bare t.form t k) _

pub indexed_bare : (t : Term) (k : Known) → indexed (bare t) k ≡ indexed t k
indexed_bare t k = value_bare t.form t k

-- with the value of a term
pub used_deeper : {B D : Type 0} (see : Result (B × Known) Fault → D) (f : Operand → Rule B) (t : Term) (k : Known) → see (go_on f (used (bare t) k)) ≡ see (go_on f (used t k))
used_deeper see f t k = ap (λ r. see (go_on f r)) (used_bare t k)

pub both_used : {B B' C : Type 0} (f : Operand → Rule B) (g : B → Rule C) (f' : Operand → Rule B') (g' : B' → Rule C) → ((a : Operand) (k : Known) → go_on g (f a k) ≡ go_on g' (f' a k)) → (t : Term) (k : Known) → go_on g (go_on f (used (bare t) k)) ≡ go_on g' (go_on f' (used t k))
both_used f g f' g' e t k = ap (λ r. go_on g (go_on f r)) (used_bare t k) ∙ both_deeper f g f' g' e (used t k)
