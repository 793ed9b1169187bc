-- From a rule, one call at a time, to what the whole says: the call goes on, is refused, or is the last.
use Rattle.std.proofs.Common.{◌≡◌, ℕ, ◌+◌, ◌<◌, ◌≤◌, List, [], ◌∷◌, length, drop, map, get_or, Result, Ok, sym, ap, subst, ◌∙◌}
use Rattle.std.proofs.lemmas.List.{drop_more, drop_all}
use Rattle.type_rules.specs.Faults.{Fault}
use Rattle.type_rules.specs.Known.{Known, Rule, go_on}
use Rattle.c_tables.specs.Answers.{Refuses, Answers}
use Rattle.c_tables.specs.declared.error.CheckError.{CheckError}
use Rattle.c_tables.specs.declared.error.CheckError.TheVariants as errors

pub goes : {A B : Type 0} (f : A → Rule B) (r : Result (A × Known) Fault) (a : A) (k : Known) (said : Result (B × Known) Fault) → r ≡ Ok (a, k) → go_on f r ≡ said → f a k ≡ said
goes f r a k said e p = sym (ap (go_on f) e) ∙ p

pub stops : {A B : Type 0} (f : A → Rule B) (r : Result (A × Known) Fault) (said : Result (B × Known) Fault) (e : CheckError) → Refuses e r → go_on f r ≡ said → Refuses e said
stops f r said errors.NoMemory h p = tt
stops f r said (errors.Kind kind line) h p = sym p ∙ ap (go_on f) h

pub ends : {A B : Type 0} (view : A → B) (result : Result A CheckError) (after : Known) (first said : Result (B × Known) Fault) → Answers view result after first → first ≡ said → Answers view result after said
ends view result after first said h p = subst (Answers view result after) p h

pub refuses_as : {B : Type 0} (first said : Result B Fault) (e : CheckError) → Refuses e first → first ≡ said → Refuses e said
refuses_as first said e h p = subst (λ r. Refuses e r) p h

pub no_memory : {B : Type 0} (said : Result B Fault) (e : CheckError) → e ≡ errors.NoMemory → Refuses e said
no_memory said e same = subst (λ x. Refuses x said) (sym same) tt

-- ---- lists

pub next_of : {A B C : Type 0} (F : List B → C) (f : A → B) (xs : List A) (i : ℕ) (x : A) (b : B) (said : C) → i < length xs → x ≡ get_or xs i x → f x ≡ b → F (map f (drop i xs)) ≡ said → F (b ∷ map f (drop (i + 1) xs)) ≡ said
next_of F f xs i x b said lt is same p = sym (ap (λ l. F (map f l)) (drop_more xs i x lt) ∙ ap (λ y. F (f y ∷ map f (drop (i + 1) xs))) (sym is) ∙ ap (λ y. F (y ∷ map f (drop (i + 1) xs))) same) ∙ p

pub none_left : {A B C : Type 0} (F : List B → C) (f : A → B) (xs : List A) (i : ℕ) (said : C) → length xs ≤ i → F (map f (drop i xs)) ≡ said → F [] ≡ said
none_left F f xs i said le p = sym (ap (λ l. F (map f l)) (drop_all i xs le)) ∙ p
