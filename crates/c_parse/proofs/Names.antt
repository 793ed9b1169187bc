-- Names of types are put behind others, and tokens are marked one by one.
use Rattle.std.proofs.Common.{◌≡◌, ℕ, suc, ◌+◌, ◌<◌, ◌≤◌, Bool, true, false, ◌||◌, if◌then◌else◌, List, [], ◌∷◌, ◌++◌, map, length, drop, refl, sym, ap, ◌∙◌, append_assoc, bytes_eq, Vec, Global}
use Rattle.std.proofs.Math.ListN.{get_or}
use Rattle.std.proofs.lemmas.List.{drop_more, drop_all}
use Rattle.std.specs.List.{list_any}
use Rattle.indexmap.specs.IndexSet.{insert_key}
use Rattle.c_token.specs.declared.token.Tok.{Tok}
use Rattle.c_pre.specs.Words.{word_of}
use Rattle.c_parse.specs.Marks as rule
use Rattle.c_parse.specs.Marks.{Marking, marked_token, known_behind, marked_from, with_names}

module _ {K : Type 0} (text : K → List ℕ) where
  seen_among : (ks : List K) (k : K) → list_any (λ x. bytes_eq (text k) (text x)) ks ≡ rule.is_among (text k) (map text ks)
  seen_among [] k = refl
  seen_among (x ∷ xs) k = ap (λ b. bytes_eq (text k) (text x) || b) (seen_among xs k)

  put_last : (ks : List K) (k : K) → map text (ks ++ k ∷ []) ≡ map text ks ++ text k ∷ []
  put_last [] k = refl
  put_last (x ∷ xs) k = ap (λ l. text x ∷ l) (put_last xs k)

  put_by : (b : Bool) (ks : List K) (k : K) → map text (if b then ks else ks ++ k ∷ []) ≡ (if b then map text ks else map text ks ++ text k ∷ [])
  put_by true ks k = refl
  put_by false ks k = put_last ks k

  name_put : (ks : List K) (k : K) → map text (insert_key (λ a b. bytes_eq (text a) (text b)) ks k) ≡ rule.with_name (text k) (map text ks)
  name_put ks k = put_by (list_any (λ x. bytes_eq (text k) (text x)) ks) ks k ∙ ap (λ b. if b then map text ks else map text ks ++ text k ∷ []) (seen_among ks k)

pub name_added : (old new : List (Vec ℕ Global)) (k : Vec ℕ Global) (name : List ℕ) → k.items ≡ name → new ≡ insert_key (λ a b. bytes_eq a.items b.items) old k → map (λ n. n.items) new ≡ rule.with_name name (map (λ n. n.items) old)
name_added old new k name is put =
    let names : List (Vec ℕ Global) → List (List ℕ) = map (λ (n : Vec ℕ Global). n.items) in
    ap names put ∙ name_put (λ (n : Vec ℕ Global). n.items) old k ∙ ap (λ n. rule.with_name n (names old)) is

pub name_known : (ks : List (Vec ℕ Global)) (name : List ℕ) → list_any (λ (k : Vec ℕ Global). bytes_eq name k.items) ks ≡ rule.is_among name (map (λ (k : Vec ℕ Global). k.items) ks)
name_known [] name = refl
name_known (k ∷ ks) name = ap (λ b. bytes_eq name k.items || b) (name_known ks name)

-- a name more is put
pub names_go_on : (text : List ℕ) (xs : List Tok) (i : ℕ) (d : Tok) (old new total : List (List ℕ)) → i < length xs → new ≡ rule.with_name (word_of text (get_or xs i d)) old → with_names text (drop i xs) old ≡ total → with_names text (drop (i + 1) xs) new ≡ total
names_go_on text xs i d old new total lt put so_far =
    ap (with_names text (drop (i + 1) xs)) put
    ∙ sym (ap (λ (l : List Tok). with_names text l old) (drop_more xs i d lt))
    ∙ so_far

pub names_end : (text : List ℕ) (xs : List Tok) (i : ℕ) (names total : List (List ℕ)) → length xs ≤ i → with_names text (drop i xs) names ≡ total → names ≡ total
names_end text xs i names total le so_far = sym (ap (λ (l : List Tok). with_names text l names) (drop_all i xs le)) ∙ so_far

-- a token more is marked
pub marked_goes_on : (text : List ℕ) (xs : List Tok) (i : ℕ) (d t : Tok) (m n : Marking) (out total : List Tok) → i < length xs → t ≡ marked_token text m (get_or xs i d) → n ≡ known_behind text m t → out ++ marked_from text m (drop i xs) ≡ total → (out ++ t ∷ []) ++ marked_from text n (drop (i + 1) xs) ≡ total
unfolding marked_from
marked_goes_on text xs i d t m n out total lt is behind so_far =
    append_assoc out (t ∷ []) (marked_from text n (drop (i + 1) xs))
    ∙ ap (λ (s : Marking). out ++ t ∷ marked_from text s (drop (i + 1) xs)) behind
    ∙ ap (λ (u : Tok). out ++ u ∷ marked_from text (known_behind text m u) (drop (i + 1) xs)) is
    ∙ sym (ap (λ (l : List Tok). out ++ marked_from text m l) (drop_more xs i d lt))
    ∙ so_far

no_more : (xs : List Tok) → xs ++ [] ≡ xs
no_more [] = refl
no_more (x ∷ xs) = ap (λ (l : List Tok). x ∷ l) (no_more xs)

pub marked_ends : (text : List ℕ) (xs : List Tok) (i : ℕ) (m : Marking) (out total : List Tok) → length xs ≤ i → out ++ marked_from text m (drop i xs) ≡ total → out ≡ total
unfolding marked_from
marked_ends text xs i m out total le so_far =
    sym (no_more out) ∙ sym (ap (λ (l : List Tok). out ++ marked_from text m l) (drop_all i xs le)) ∙ so_far

-- marking leaves as many tokens
pub as_many : (text : List ℕ) (m : Marking) (ts : List Tok) → length (marked_from text m ts) ≡ length ts
unfolding marked_from
as_many text m [] = refl
as_many text m (t ∷ ts) = ap suc (as_many text (known_behind text m (marked_token text m t)) ts)
