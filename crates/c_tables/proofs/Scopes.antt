-- Scopes that are open: the last in the table is the innermost of the rules.
use Rattle.std.proofs.Common.{◌≡◌, ℕ, zero, suc, ◌-◌, ◌<◌, ◌≤◌, List, [], ◌∷◌, ◌++◌, map, reverse, length, get_or, set, take, Option, Some, None, refl, sym, ap, ◌∙◌, arith, take-suc, length-set, get_or-set_same, take_all}
use Rattle.std.proofs.lemmas.List.{reverse-append}
use Rattle.type_rules.specs.Known.{Scope, Binding}
use Rattle.type_rules.specs.Names.{entry_of, with_entry, bound_in, found_in, innermost_in, or_else}
use Rattle.c_tables.proofs.Rows.{seen_more}

module _ {A : Type 0} (view : A → Scope) where
  -- a scope that is opened
  pub opened : (xs : List A) (x : A) → reverse (map view (xs ++ x ∷ [])) ≡ view x ∷ reverse (map view xs)
  opened xs x = ap reverse (seen_more view xs x) ∙ reverse-append (map view xs) (view x ∷ [])

  -- a scope that is closed
  pub closed : (xs ys : List A) (x : A) → xs ≡ ys ++ x ∷ [] → reverse (map view xs) ≡ view x ∷ reverse (map view ys)
  closed xs ys x is = ap (λ l. reverse (map view l)) is ∙ opened ys x

  -- the scopes up to one, from that one outwards
  outwards : (xs : List A) (m : ℕ) (d : A) → m < length xs → reverse (map view (take (suc m) xs)) ≡ view (get_or xs m d) ∷ reverse (map view (take m xs))
  outwards xs m d lt = ap (λ l. reverse (map view l)) (take-suc xs m d lt) ∙ opened (take m xs) (get_or xs m d)

  all_outwards : (xs : List A) (m : ℕ) (d : A) → length xs ≡ suc m → reverse (map view xs) ≡ view (get_or xs m d) ∷ reverse (map view (take m xs))
  all_outwards xs m d many = ap (λ l. reverse (map view l)) (sym (take_all (suc m) xs (omega (arith, many)))) ∙ outwards xs m d (omega (arith, many))

  before : (xs : List A) (m : ℕ) (x : A) → take m (set xs m x) ≡ take m xs
  before [] zero x = refl
  before [] (suc m) x = refl
  before (y ∷ ys) zero x = refl
  before (y ∷ ys) (suc m) x = ap (λ l. y ∷ l) (before ys m x)

  -- a name in the innermost scope
  pub bound_last : (xs : List A) (n : ℕ) (x : A) (name : List ℕ) (binding : Binding) (old : A) → n ≡ length xs → 0 < length xs → old ≡ get_or xs (n - 1) old → view x ≡ with_entry (view old) name binding
      → bound_in (reverse (map view xs)) name binding ≡ reverse (map view (set xs (n - 1) x))
  bound_last xs n x name binding old many some is put =
      let m : ℕ = n - 1 in
      let length_is : length xs ≡ suc m = omega (arith, many, some) in
      let length_after : length (set xs m x) ≡ suc m = length-set xs m x ∙ length_is in
      let own : get_or (set xs m x) m x ≡ x = get_or-set_same xs m x x (omega (arith, length_is)) in
      let after : reverse (map view (set xs m x)) ≡ view x ∷ reverse (map view (take m xs)) =
      all_outwards (set xs m x) m x length_after ∙ (λ j. view (own j) ∷ reverse (map view (before xs m x j))) in
      ap (λ l. bound_in l name binding) (all_outwards xs m old length_is ∙ (λ j. view (sym is j) ∷ reverse (map view (take m xs))))
      ∙ (λ j. sym put j ∷ reverse (map view (take m xs))) ∙ sym after

  -- what the innermost scope has
  pub last_has : (xs : List A) (name : List ℕ) (x : A) → 0 < length xs → x ≡ get_or xs (length xs - 1) x → entry_of (view x) name ≡ innermost_in (reverse (map view xs)) name
  last_has xs name x some is =
      let m : ℕ = length xs - 1 in
      sym (ap (λ l. innermost_in l name) (all_outwards xs m x (omega (arith, some)) ∙ (λ j. view (sym is j) ∷ reverse (map view (take m xs)))))

  pub none_has : (xs : List A) (name : List ℕ) → length xs ≤ 0 → None ≡ innermost_in (reverse (map view xs)) name
  none_has [] name none = refl
  none_has (x ∷ xs) name none = absurd (omega arith)

  -- from one scope outwards: it has the name, or those round it decide
  pub found_here : (xs : List A) (m : ℕ) (x : A) (name : List ℕ) (b : Binding) (whole : Option Binding) → m < length xs → x ≡ get_or xs m x → Some b ≡ entry_of (view x) name
      → found_in (reverse (map view (take (suc m) xs))) name ≡ whole → Some b ≡ whole
  found_here xs m x name b whole lt is has so_far =
      ap (λ o. or_else o (found_in (reverse (map view (take m xs))) name)) (has ∙ ap (λ y. entry_of (view y) name) is)
      ∙ sym (ap (λ l. found_in l name) (outwards xs m x lt)) ∙ so_far

  pub found_outwards : (xs : List A) (m : ℕ) (x : A) (name : List ℕ) (whole : Option Binding) → m < length xs → x ≡ get_or xs m x → None ≡ entry_of (view x) name
      → found_in (reverse (map view (take (suc m) xs))) name ≡ whole → found_in (reverse (map view (take m xs))) name ≡ whole
  found_outwards xs m x name whole lt is has so_far =
      ap (λ o. or_else o (found_in (reverse (map view (take m xs))) name)) (has ∙ ap (λ y. entry_of (view y) name) is)
      ∙ sym (ap (λ l. found_in l name) (outwards xs m x lt)) ∙ so_far
