-- What one number, and one row after the other, add to the marks and to the stack of a search.
use Rattle.std.proofs.Common.{◌≡◌, ℕ, ◌+◌, ◌<◌, ◌≤◌, inl, inr, Bool, true, false, not, cond, List, [], ◌∷◌, ◌++◌, length, get_or, set, take, refl, sym, ap, ◌∙◌, subst, arith}
use Rattle.std.specs.List.{Contains}
use Rattle.std.proofs.lemmas.Bool.{cases_eq}
use Rattle.std.proofs.lemmas.List.{length-set, get_or-set_same, get_or-set_other, length_push, take_more}
use Rattle.std.proofs.lemmas.List.Elements.{Contains-append_left, Contains-append_right, Contains-append_cases, Contains-push, Contains-push_cases}
use Rattle.std.proofs.lemmas.List.Sums.{sum_by-set}
use Rattle.call_graph.specs.Search.{Found, unmarked}

pub in_none : {A : Type 0} (g : A) → Contains [] g → ⊥
in_none g c = let lt : c.0 < 0 = c.1 in omega arith

-- what stands in a list of one number
pub one_is : (n g : ℕ) → Contains (n ∷ []) g → n ≡ g
one_is n g c = elim (Contains-push_cases [] n g c) [ inl i ↦ absurd (in_none g i) | inr e ↦ e ]

pub found_none : (marks : List Bool) (stack : List ℕ) → Found [] marks stack marks stack
found_none marks stack = record {
  size = refl;
  kept = λ g h. h;
  found = λ g lt c. absurd (in_none g c);
  only = λ g h. inl h;
  waits = λ g w. w;
  marked = λ g w. inl w;
  measure = refl;
}

-- one row behind another
pub found_more : (r1 r2 : List ℕ) (a b c : List Bool) (s t u : List ℕ) → Found r1 a s b t → Found r2 b t c u → Found (r1 ++ r2) a s c u
found_more r1 r2 a b c s t u f1 f2 = record {
  size = f2.size ∙ f1.size;
  kept = λ g h. f2.kept g (f1.kept g h);
  found = λ g lt con. elim (Contains-append_cases r1 r2 g con) [ inl l ↦ f2.kept g (f1.found g lt l) | inr r ↦ f2.found g (let z = f1.size in omega arith) r ];
  only = λ g h. elim (f2.only g h) [ inl o ↦ (elim (f1.only g o) [ inl p ↦ inl p | inr q ↦ inr (Contains-append_left r1 r2 g q.0, f2.waits g q.1) ]) | inr q ↦ inr (Contains-append_right r1 r2 g q.0, q.1) ];
  waits = λ g w. f2.waits g (f1.waits g w);
  marked = λ g w. elim (f2.marked g w) [ inl o ↦ (elim (f1.marked g o) [ inl p ↦ inl p | inr q ↦ inr (Contains-append_left r1 r2 g q.0, f2.kept g q.1) ]) | inr q ↦ inr (Contains-append_right r1 r2 g q.0, q.1) ];
  measure = f2.measure ∙ f1.measure;
}

pub marked_already : (n : ℕ) (marks : List Bool) (stack : List ℕ) → get_or marks n false ≡ true → Found (n ∷ []) marks stack marks stack
marked_already n marks stack is = record {
  size = refl;
  kept = λ g h. h;
  found = λ g lt c. subst (λ (k : ℕ). get_or marks k false ≡ true) (one_is n g c) is;
  only = λ g h. inl h;
  waits = λ g w. w;
  marked = λ g w. inl w;
  measure = refl;
}

pub marked_outside : (n : ℕ) (marks : List Bool) (stack : List ℕ) → length marks ≤ n → Found (n ∷ []) marks stack marks stack
marked_outside n marks stack past = record {
  size = refl;
  kept = λ g h. h;
  found = λ g lt c. absurd (let e = one_is n g c in omega arith);
  only = λ g h. inl h;
  waits = λ g w. w;
  marked = λ g w. inl w;
  measure = refl;
}

pub one_less : (marks : List Bool) (n : ℕ) → n < length marks → get_or marks n false ≡ false → unmarked (set marks n true) + 1 ≡ unmarked marks
one_less marks n lt is =
    let e : unmarked (set marks n true) + 1 ≡ unmarked marks + 0 = ap (λ (b : Bool). unmarked (set marks n true) + (cond (not b) 1 0)) (sym is) ∙ sum_by-set (λ (b : Bool). cond (not b) 1 0) marks n true false lt in
    omega (arith, e)

pub marked_newly : (n : ℕ) (marks : List Bool) (stack : List ℕ) → n < length marks → get_or marks n false ≡ false → Found (n ∷ []) marks stack (set marks n true) (stack ++ n ∷ [])
marked_newly n marks stack lt is =
    let here : get_or (set marks n true) n false ≡ true = get_or-set_same marks n true false lt in
    record {
      size = length-set marks n true;
      kept = λ g h. elim (cases_eq g n) [ inl e ↦ subst (λ (k : ℕ). get_or (set marks n true) k false ≡ true) (sym e) here | inr ne ↦ get_or-set_other marks n g true false ne ∙ h ];
      found = λ g l c. subst (λ (k : ℕ). get_or (set marks n true) k false ≡ true) (one_is n g c) here;
      only = λ g h. elim (cases_eq g n) [ inl e ↦ inr (subst (λ (k : ℕ). Contains (n ∷ []) k × Contains (stack ++ n ∷ []) k) (sym e) (Contains-push [] n, Contains-push stack n)) | inr ne ↦ inl (sym (get_or-set_other marks n g true false ne) ∙ h) ];
      waits = λ g w. Contains-append_left stack (n ∷ []) g w;
      marked = λ g w. elim (Contains-push_cases stack n g w) [ inl o ↦ inl o | inr e ↦ inr (subst (λ (k : ℕ). Contains (n ∷ []) k × (get_or (set marks n true) k false ≡ true)) e (Contains-push [] n, here)) ];
      measure = omega (arith, one_less marks n lt is, length_push stack n);
    }

pub row_more : (row : List ℕ) (i : ℕ) (a b c : List Bool) (s t u : List ℕ) → i < length row → Found (take i row) a s b t → Found (get_or row i 0 ∷ []) b t c u → Found (take (i + 1) row) a s c u
row_more row i a b c s t u lt f1 f2 = subst (λ (r : List ℕ). Found r a s c u) (sym (take_more row i 0 lt)) (found_more (take i row) (get_or row i 0 ∷ []) a b c s t u f1 f2)
