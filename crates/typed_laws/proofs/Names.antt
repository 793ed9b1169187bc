-- Names of functions in the file's scope, and their definitions.
use Rattle.std.proofs.Common.{◌≡◌, ℕ, suc, ◌+◌, Bool, true, false, ◌||◌, if◌then◌else◌, List, [], ◌∷◌, ◌++◌, map, Some, refl, sym, ap, ◌∙◌, arith, true≢false}
use Rattle.std.specs.Prelude.{slice_get}
use Rattle.std.specs.Str.{bytes_eq}
use Rattle.std.specs.List.{list_any}
use Rattle.std.specs.Cmp.Lexicographic.{bytes_decides, nat_list_eq_equiv}
use Rattle.std.proofs.lemmas.Bool.{false≢true}
use Rattle.std.proofs.lemmas.Option.{same_Some}
use Rattle.type_rules.specs.Declarations.{definition_from}
use Rattle.type_rules.specs.Known.{Binding, Scope}
use Rattle.type_rules.specs.Names.{entry_of, with_entry}
use Rattle.type_rules.specs.Units.{is_among, with_name}
use Rattle.typed_laws.proofs.Lists.{none_is}

pub same_bytes : (a b : List ℕ) → bytes_eq a b ≡ true → a ≡ b
same_bytes a b h = (bytes_decides a b).0 h

pub bytes_same : (a : List ℕ) → bytes_eq a a ≡ true
bytes_same a = nat_list_eq_equiv.refl a

turned : (a b : List ℕ) → bytes_eq a b ≡ bytes_eq b a
turned a b = nat_list_eq_equiv.symm a b

-- ---- a name that is put

put_by : (b : Bool) (e : List ℕ × Binding) (name m : List ℕ) (x : Binding) (es rest : Scope) → bytes_eq e.0 name ≡ b → entry_of rest m ≡ (if bytes_eq name m then Some x else entry_of es m)
    → entry_of (if b then (name, x) ∷ es else e ∷ rest) m ≡ (if bytes_eq name m then Some x else (if bytes_eq e.0 m then Some e.1 else entry_of es m))
put_by true e name m x es rest is h = by_test (bytes_eq name m) refl
  where
    by_test : (c : Bool) → bytes_eq name m ≡ c → (if c then Some x else entry_of es m) ≡ (if c then Some x else (if bytes_eq e.0 m then Some e.1 else entry_of es m))
    by_test true ec = refl
    by_test false ec = sym (ap (λ d. if d then Some e.1 else entry_of es m) (ap (λ n. bytes_eq n m) (same_bytes e.0 name is) ∙ ec))
put_by false e name m x es rest is h = by_test (bytes_eq name m) (bytes_eq e.0 m) refl refl
  where
    by_test : (c d : Bool) → bytes_eq name m ≡ c → bytes_eq e.0 m ≡ d → (if d then Some e.1 else entry_of rest m) ≡ (if c then Some x else (if d then Some e.1 else entry_of es m))
    by_test true true ec ed = absurd (true≢false (sym (ap (bytes_eq e.0) (same_bytes name m ec) ∙ ed) ∙ is))
    by_test true false ec ed = h ∙ ap (λ c. if c then Some x else entry_of es m) ec
    by_test false true ec ed = refl
    by_test false false ec ed = h ∙ ap (λ c. if c then Some x else entry_of es m) ec

-- what a scope has once a name was put
pub put_entry : (es : Scope) (name m : List ℕ) (x : Binding) → entry_of (with_entry es name x) m ≡ (if bytes_eq name m then Some x else entry_of es m)
put_entry [] name m x = refl
put_entry (e ∷ es) name m x = put_by (bytes_eq e.0 name) e name m x es (with_entry es name x) refl (put_entry es name m x)

-- ---- the number of a definition

definition_step : (d : List ℕ) (ds : List (List ℕ)) (name : List ℕ) (start n : ℕ) → ((k : ℕ) → definition_from ds name (suc start) ≡ Some n → (i : ℕ) × (n ≡ suc start + i) × (x : List ℕ) × (slice_get ds i ≡ Some x) × (x ≡ name)) → (b : Bool) → bytes_eq d name ≡ b
    → (if b then Some start else definition_from ds name (suc start)) ≡ Some n → (i : ℕ) × (n ≡ start + i) × (x : List ℕ) × (slice_get (d ∷ ds) i ≡ Some x) × (x ≡ name)
definition_step d ds name start n more true is h = let e : start ≡ n = same_Some start n h in let z : n ≡ start + 0 = omega (arith, e) in (0, z, d, refl, same_bytes d name is)
definition_step d ds name start n more false is h = let r = more 0 h in let z : n ≡ start + suc r.0 = omega (arith, r.1) in (suc r.0, z, r.2, r.3, r.4)

definition_found : (ds : List (List ℕ)) (name : List ℕ) (start n : ℕ) → definition_from ds name start ≡ Some n → (i : ℕ) × (n ≡ start + i) × (x : List ℕ) × (slice_get ds i ≡ Some x) × (x ≡ name)
definition_found [] name start n h = absurd (none_is h)
definition_found (d ∷ ds) name start n h = definition_step d ds name start n (λ k e. definition_found ds name (suc start) n e) (bytes_eq d name) refl h

-- A definition's number is that of its name.
pub definition_is : (ds : List (List ℕ)) (name : List ℕ) (n : ℕ) → definition_from ds name 0 ≡ Some n → slice_get ds n ≡ Some name
definition_is ds name n h = let r = definition_found ds name 0 n h in let z : n ≡ r.0 = omega (arith, r.1) in ap (slice_get ds) z ∙ (r.3 ∙ ap Some r.4)

-- ---- names that are defined already

among_by : (d name : List ℕ) (ds : List (List ℕ)) (b : Bool) → bytes_eq name d ≡ b → (b || list_any (bytes_eq name) ds) ≡ true → ((list_any (bytes_eq name) ds ≡ true) → (i : ℕ) × (slice_get ds i ≡ Some name)) → (i : ℕ) × (slice_get (d ∷ ds) i ≡ Some name)
among_by d name ds true is h more = (0, ap Some (sym (same_bytes name d is)))
among_by d name ds false is h more = let r = more h in (suc r.0, r.1)

pub among_is : (name : List ℕ) (ds : List (List ℕ)) → is_among name ds ≡ true → (i : ℕ) × (slice_get ds i ≡ Some name)
among_is name [] h = absurd (false≢true h)
among_is name (d ∷ ds) h = among_by d name ds (bytes_eq name d) refl h (among_is name ds)

pub named_last : (name : List ℕ) (ds : List (List ℕ)) → is_among name ds ≡ false → with_name name ds ≡ ds ++ name ∷ []
named_last name ds h = by_test (is_among name ds) h
  where
    by_test : (b : Bool) → b ≡ false → (if b then ds else ds ++ name ∷ []) ≡ ds ++ name ∷ []
    by_test true e = absurd (true≢false e)
    by_test false e = refl

pub mapped_last : {A B : Type 0} (view : A → B) (xs : List A) (x : A) → map view (xs ++ x ∷ []) ≡ map view xs ++ view x ∷ []
mapped_last view [] x = refl
mapped_last view (y ∷ ys) x = ap (λ l. view y ∷ l) (mapped_last view ys x)
