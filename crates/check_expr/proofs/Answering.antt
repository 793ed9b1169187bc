-- From a rule, one call at a time, to what the whole says: the call goes on, is refused, or is the last.
use Rattle.std.proofs.Common.{◌≡◌, ℕ, ◌+◌, ◌<◌, ◌≤◌, List, [], ◌∷◌, ◌++◌, length, drop, map, Result, Ok, Err, sym, ap, subst, ◌∙◌}
use Rattle.std.proofs.Math.ListN.{get_or}
use Rattle.std.proofs.lemmas.List.{drop_more, drop_all, map-append}
use Rattle.type_rules.specs.Faults.{Fault}
use Rattle.type_rules.specs.Known.{Known, Rule, go_on, ◌>>=◌}
use Rattle.check_expr.proofs.Runs.{grouped}
use Rattle.type_rules.specs.Terms.{Term}
use Rattle.c_terms.specs.Terms.{term_of}
use Rattle.c_terms.specs.declared.term.Term as checked
use Rattle.check_expr.specs.Views.{unlisted}
use Rattle.c_tables.specs.Answers.{Refuses, Answers}
use Rattle.c_tables.specs.declared.error.CheckError.{CheckError}
use Rattle.c_tables.specs.declared.error.CheckError.TheVariants as errors

pub goes : {A B : Type 0} (f : A → Rule B) (r : Result (A × Known) Fault) (a : A) (k : Known) (said : Result (B × Known) Fault) → r ≡ Ok (a, k) → go_on f r ≡ said → f a k ≡ said
goes f r a k said e p = sym (ap (go_on f) e) ∙ p

pub stops : {A B : Type 0} (f : A → Rule B) (r : Result (A × Known) Fault) (said : Result (B × Known) Fault) (e : CheckError) → Refuses e r → go_on f r ≡ said → Refuses e said
stops f r said errors.NoMemory h p = tt
stops f r said (errors.Kind kind line) h p = sym p ∙ ap (go_on f) h

pub ends : {A B : Type 0} (view : A → B) (result : Result A CheckError) (after : Known) (first said : Result (B × Known) Fault) → Answers view result after first → first ≡ said → Answers view result after said
ends view result after first said h p = subst (Answers view result after) p h

pub refuses_as : {B : Type 0} (first said : Result B Fault) (e : CheckError) → Refuses e first → first ≡ said → Refuses e said
refuses_as first said e h p = subst (λ r. Refuses e r) p h

-- A term that the checker has is one without a list, so the same is answered where the list isn't asked for.
pub refuses_bare : (said : Result (Term × Known) Fault) (e : CheckError) → Refuses e said → Refuses e (unlisted said)
refuses_bare said errors.NoMemory h = tt
refuses_bare said (errors.Kind kind line) h = ap unlisted h

pub answers_bare : (result : Result checked.Term CheckError) (after : Known) (said : Result (Term × Known) Fault) → Answers term_of result after said → Answers term_of result after (unlisted said)
answers_bare (Ok x) after said h = ap unlisted h
answers_bare (Err e) after said h = refuses_bare said e h

-- a refusal that is handed on
pub refused_as : {B : Type 0} (said : Result B Fault) (e e' : CheckError) → e' ≡ e → Refuses e said → Refuses e' said
refused_as said e e' same h = subst (λ x. Refuses x said) (sym same) h

-- ---- lists

pub next_of : {A B C : Type 0} (F : List B → C) (f : A → B) (xs : List A) (i : ℕ) (x : A) (b : B) (said : C) → i < length xs → x ≡ get_or xs i x → f x ≡ b → F (map f (drop i xs)) ≡ said → F (b ∷ map f (drop (i + 1) xs)) ≡ said
next_of F f xs i x b said lt is same p = sym (ap (λ l. F (map f l)) (drop_more xs i x lt) ∙ ap (λ y. F (f y ∷ map f (drop (i + 1) xs))) (sym is) ∙ ap (λ y. F (y ∷ map f (drop (i + 1) xs))) same) ∙ p

pub none_left : {A B C : Type 0} (F : List B → C) (f : A → B) (xs : List A) (i : ℕ) (said : C) → length xs ≤ i → F (map f (drop i xs)) ≡ said → F [] ≡ said
none_left F f xs i said le p = sym (ap (λ l. F (map f l)) (drop_all i xs le)) ∙ p

-- the last of a list that is taken off, and the list that a push leaves
pub last_of : {A B C : Type 0} (F : List B → C) (f : A → B) (xs ys : List A) (y : A) (said : C) → xs ≡ ys ++ y ∷ [] → F (map f xs) ≡ said → F (map f ys ++ f y ∷ []) ≡ said
last_of F f xs ys y said e p = sym (ap (λ l. F (map f l)) e ∙ ap F (map-append f ys (y ∷ []))) ∙ p

pub pushed : {A B R C : Type 0} (F : List B → R → Known → C) (f : A → B) (xs ys : List A) (y : A) (rest : R) (k : Known) (said : C) → ys ≡ xs ++ y ∷ [] → F (map f xs ++ f y ∷ []) rest k ≡ said → F (map f ys) rest k ≡ said
pushed F f xs ys y rest k said e p = ap (λ l. F (map f l) rest k) e ∙ ap (λ l. F l rest k) (map-append f xs (y ∷ [])) ∙ p

-- two rules and a third, taken together the other way round
pub in_parts : {A B C : Type 0} (f : A → Rule B) (g : B → Rule C) (r : Result (A × Known) Fault) {said : Result (C × Known) Fault} → go_on g (go_on f r) ≡ said → go_on (λ a. f a >>= g) r ≡ said
in_parts f g r p = sym (grouped f g r) ∙ p
