-- Lists that loops make element by element: what stands before, and behind it what a rule makes of the rest.
use Rattle.std.proofs.Common.{◌≡◌, ℕ, ◌+◌, ◌<◌, ◌≤◌, List, [], ◌∷◌, ◌++◌, map, length, drop, get_or, Result, Ok, Err, refl, sym, ap, subst, ◌∙◌, append-nil, append_assoc, drop_of_length-le}
use Rattle.std.proofs.lemmas.List.{drop_more}
use Rattle.type_rules.specs.Faults.{Fault}
use Rattle.type_rules.specs.Known.{Known, Rule, given, go_on}
use Rattle.c_tables.specs.Answers.{Refuses}
use Rattle.c_tables.specs.declared.error.CheckError.{CheckError}
use Rattle.c_tables.specs.declared.error.CheckError.TheVariants as errors
use Rattle.c_check.specs.StatementViews.{behind}

-- the rest of a list, whose first element is seen
pub rest_is : {A : Type 0} (xs : List A) (i : ℕ) (x : A) → i < length xs → x ≡ get_or xs i x → drop i xs ≡ x ∷ drop (i + 1) xs
rest_is xs i x lt is = drop_more xs i x lt ∙ ap (λ y. y ∷ drop (i + 1) xs) (sym is)

pub seen_both : {A B : Type 0} (view : A → B) (xs ys : List A) → map view (xs ++ ys) ≡ map view xs ++ map view ys
seen_both view [] ys = refl
seen_both view (x ∷ xs) ys = ap (λ l. view x ∷ l) (seen_both view xs ys)

joined : {A : Type 0} (before one : List A) (said : Result (List A × Known) Fault) → go_on (λ others. given (before ++ others)) (go_on (λ others. given (one ++ others)) said) ≡ go_on (λ others. given ((before ++ one) ++ others)) said
joined before one (Ok x) = ap (λ l. Ok (l, x.1)) (sym (append_assoc before one x.0))
joined before one (Err fault) = refl

with_nothing : {A : Type 0} (said : Result (List A × Known) Fault) → go_on (λ others. given ([] ++ others)) said ≡ said
with_nothing (Ok x) = refl
with_nothing (Err fault) = refl

pub begins : {A : Type 0} (whole : Rule (List A)) (known : Known) → behind [] whole known ≡ whole known
begins whole known = with_nothing (whole known)

pub passes_on : {A B : Type 0} (second : A → Rule B) (said : Result (A × Known) Fault) (e : CheckError) → Refuses e said → Refuses e (go_on second said)
passes_on second said errors.NoMemory h = h
passes_on second said (errors.Kind kind line) h = ap (go_on second) h

module _ {X A B : Type 0} (view : B → A) (whole : List X → Rule (List A)) (xs : List X) (i : ℕ) (known : Known) (total : Result (List A × Known) Fault) where
  pub next : (old more new : List B) (x : X) (mid : Known) → i < length xs → x ≡ get_or xs i x → whole (x ∷ drop (i + 1) xs) known ≡ behind (map view more) (whole (drop (i + 1) xs)) mid → new ≡ old ++ more
      → behind (map view old) (whole (drop i xs)) known ≡ total → behind (map view new) (whole (drop (i + 1) xs)) mid ≡ total
  next old more new x mid lt is step put so_far =
      let before : List A → Result (List A × Known) Fault = λ l. behind l (whole (drop (i + 1) xs)) mid in
      ap before (ap (map view) put ∙ seen_both view old more)
      ∙ sym (joined (map view old) (map view more) (whole (drop (i + 1) xs) mid))
      ∙ ap (go_on (λ others. given (map view old ++ others))) (sym step)
      ∙ ap (λ l. behind (map view old) (whole l) known) (sym (rest_is xs i x lt is))
      ∙ so_far

  pub stops : (old : List B) (x : X) (e : CheckError) → i < length xs → x ≡ get_or xs i x → Refuses e (whole (x ∷ drop (i + 1) xs) known) → behind (map view old) (whole (drop i xs)) known ≡ total → Refuses e total
  stops old x e lt is refuses so_far =
      subst (Refuses e) (ap (λ l. behind (map view old) (whole l) known) (sym (rest_is xs i x lt is)) ∙ so_far)
      (passes_on (λ others. given (map view old ++ others)) (whole (x ∷ drop (i + 1) xs) known) e refuses)

  pub ends : (old : List B) → length xs ≤ i → whole [] known ≡ Ok ([], known) → behind (map view old) (whole (drop i xs)) known ≡ total → total ≡ Ok (map view old, known)
  ends old past nothing so_far =
      sym so_far ∙ ap (λ l. behind (map view old) (whole l) known) (drop_of_length-le xs past) ∙ ap (go_on (λ others. given (map view old ++ others))) nothing ∙ ap (λ l. Ok (l, known)) (append-nil (map view old))
