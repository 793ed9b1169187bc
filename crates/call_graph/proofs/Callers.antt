-- Who calls whom: rows of callers, one call after the other.
use Rattle.std.proofs.Common.{◌≡◌, ℕ, ◌+◌, ◌<◌, ◌≤◌, ◌↔◌, inl, inr, List, [], ◌∷◌, ◌++◌, length, get_or, set, take, drop, replicate, refl, sym, ap, ◌∙◌, subst, arith}
use Rattle.std.specs.Global.{Global}
use Rattle.std.specs.List.{Contains}
use Rattle.std.specs.declared.vec.Vec.{Vec}
use Rattle.std.proofs.lemmas.Bool.{cases_eq}
use Rattle.std.proofs.lemmas.List.{get_or-set_same, get_or-set_other, get_or-map, get_or-replicate, length-map, length-replicate, length-set, map-set, take_more}
use Rattle.std.proofs.lemmas.List.Elements.{Contains-append_left, Contains-append_right, Contains-append_cases, Contains-push, Contains-push_cases}
use Rattle.c_typed.specs.Chains.{Calls, IsChain, Reaches}
use Rattle.call_graph.specs.Reach.{Leads, AreCallers}
use Rattle.call_graph.specs.Rows.{rows_of}
use Rattle.call_graph.specs.Search.{CalledBy}
use Rattle.call_graph.proofs.Appends.{written_back}
use Rattle.call_graph.proofs.Marking.{in_none, one_is}
use Rattle.call_graph.proofs.Ways.{caller_within, chain_within, chain_then}

pub called_none : (n : ℕ) (rows : List (List ℕ)) → CalledBy n [] rows rows
called_none n rows = record {
  size = refl;
  kept = λ f g c. c;
  put = λ g lt c. absurd (in_none g c);
  only = λ f g c. inl c;
}

pub called_more : (n : ℕ) (r1 r2 : List ℕ) (a b c : List (List ℕ)) → CalledBy n r1 a b → CalledBy n r2 b c → CalledBy n (r1 ++ r2) a c
called_more n r1 r2 a b c f1 f2 = record {
  size = f2.size ∙ f1.size;
  kept = λ f g h. f2.kept f g (f1.kept f g h);
  put = λ g lt con. elim (Contains-append_cases r1 r2 g con) [ inl l ↦ f2.kept n g (f1.put g lt l) | inr r ↦ f2.put g (let z = f1.size in omega arith) r ];
  only = λ f g h. elim (f2.only f g h) [ inl o ↦ (elim (f1.only f g o) [ inl p ↦ inl p | inr q ↦ inr (q.0, Contains-append_left r1 r2 g q.1) ]) | inr q ↦ inr (q.0, Contains-append_right r1 r2 g q.1) ];
}

pub called_outside : (n h : ℕ) (rows : List (List ℕ)) → length rows ≤ h → CalledBy n (h ∷ []) rows rows
called_outside n h rows past = record {
  size = refl;
  kept = λ f g c. c;
  put = λ g lt c. absurd (let e = one_is h g c in omega arith);
  only = λ f g c. inl c;
}

-- a number is put behind a row
pub called_once : (n h : ℕ) (rows : List (List ℕ)) (row : List ℕ) → h < length rows → row ≡ get_or rows h [] → CalledBy n (h ∷ []) rows (set rows h (row ++ n ∷ []))
called_once n h rows row lt is =
    let new : List (List ℕ) = set rows h (row ++ n ∷ []) in
    let here : get_or new h [] ≡ get_or rows h [] ++ n ∷ [] = get_or-set_same rows h (row ++ n ∷ []) [] lt ∙ ap (λ (r : List ℕ). r ++ n ∷ []) is in
    let there : (g : ℕ) → (g ≡ h → ⊥) → get_or new g [] ≡ get_or rows g [] = λ (g : ℕ) (ne : g ≡ h → ⊥). get_or-set_other rows h g (row ++ n ∷ []) [] ne in
    let now : Contains (get_or new h []) n = subst (λ (r : List ℕ). Contains r n) (sym here) (Contains-push (get_or rows h []) n) in
    record {
      size = length-set rows h (row ++ n ∷ []);
      kept = λ f g c. elim (cases_eq g h) [
        | inl e ↦ subst (λ (k : ℕ). Contains (get_or new k []) f) (sym e) (subst (λ (r : List ℕ). Contains r f) (sym here) (Contains-append_left (get_or rows h []) (n ∷ []) f (subst (λ (k : ℕ). Calls rows k f) e c)))
        | inr ne ↦ subst (λ (r : List ℕ). Contains r f) (sym (there g ne)) c
      ];
      put = λ g l c. subst (λ (k : ℕ). Contains (get_or new k []) n) (one_is h g c) now;
      only = λ f g c. elim (cases_eq g h) [
        | inl e ↦ (let at : Contains (get_or rows h [] ++ n ∷ []) f = subst (λ (r : List ℕ). Contains r f) here (subst (λ (k : ℕ). Contains (get_or new k []) f) e c) in
            elim (Contains-push_cases (get_or rows h []) n f at) [ inl o ↦ inl (subst (λ (k : ℕ). Calls rows k f) (sym e) o) | inr same ↦ inr (sym same, subst (λ (k : ℕ). Contains (h ∷ []) k) (sym e) (Contains-push [] h)) ])
        | inr ne ↦ inl (subst (λ (r : List ℕ). Contains r f) (there g ne) c)
      ];
    }

pub row_put : (n : ℕ) (row : List ℕ) (i : ℕ) (a b c : List (List ℕ)) → i < length row → CalledBy n (take i row) a b → CalledBy n (get_or row i 0 ∷ []) b c → CalledBy n (take (i + 1) row) a c
row_put n row i a b c lt f1 f2 = subst (λ (r : List ℕ). CalledBy n r a c) (sym (take_more row i 0 lt)) (called_more n (take i row) (get_or row i 0 ∷ []) a b c f1 f2)

-- The callers among the numbers below i are known.
pub record AreKnown (graph : List (List ℕ)) (i : ℕ) (callers : List (List ℕ)) : Type 0 where
  pub size : length callers ≡ length graph
  pub sound : (f g : ℕ) → Calls callers g f → (f < i) × Calls graph f g
  pub complete : (f g : ℕ) → g < length graph → f < i → Calls graph f g → Calls callers g f

pub none_calls : (count g f : ℕ) → Calls (replicate count []) g f → ⊥
none_calls count g f c =
    let lt : g < count = let w : g < length (replicate count []) = caller_within (replicate count []) g f c in omega (arith, w, length-replicate {A = List ℕ} count []) in
    in_none f (subst (λ (r : List ℕ). Contains r f) (get_or-replicate count g [] [] lt) c)

pub known_none : (graph callers : List (List ℕ)) → callers ≡ replicate (length graph) [] → AreKnown graph 0 callers
known_none graph callers is = record {
  size = ap length is ∙ length-replicate (length graph) [];
  sound = λ f g c. absurd (none_calls (length graph) g f (subst (λ (l : List (List ℕ)). Calls l g f) is c));
  complete = λ f g lt below c. absurd (omega arith);
}

pub known_more : (graph : List (List ℕ)) (i : ℕ) (callers new : List (List ℕ)) → AreKnown graph i callers → CalledBy i (get_or graph i []) callers new → AreKnown graph (i + 1) new
known_more graph i callers new k p = record {
  size = p.size ∙ k.size;
  sound = λ f g c. elim (p.only f g c) [ inl o ↦ (let s = k.sound f g o in (omega (arith, s.0), s.1)) | inr q ↦ (omega (arith, q.0), subst (λ (j : ℕ). Calls graph j g) (sym q.0) q.1) ];
  complete = λ f g lt below c. elim (cases_eq f i) [
    | inl e ↦ subst (λ (j : ℕ). Calls new g j) (sym e) (p.put g (let z = k.size in omega arith) (subst (λ (j : ℕ). Calls graph j g) e c))
    | inr ne ↦ p.kept f g (k.complete f g lt (omega (arith, ne)) c)
  ];
}

pub known_all : (graph callers : List (List ℕ)) (i : ℕ) → length graph ≤ i → AreKnown graph i callers → AreCallers graph callers
known_all graph callers i all k = λ f g lt. (λ c. (k.sound f g c).1, λ c. k.complete f g lt (let w = caller_within graph f g c in omega arith) c)

reaches_then : (graph : List (List ℕ)) (f g h : ℕ) (hs : List ℕ) → IsChain graph f hs g → Calls graph g h → Leads graph f h
reaches_then graph f g h [] e c = (h, [], (subst (λ (k : ℕ). Calls graph k h) (sym e) c, refl))
reaches_then graph f g h (i ∷ is) w c = (i, is ++ h ∷ [], (w.0, chain_then graph i g h is w.1 c))

back : (graph callers : List (List ℕ)) → AreCallers graph callers → (f g : ℕ) (hs : List ℕ) → IsChain graph f hs g → g < length graph → Reaches callers g f
back graph callers are f g [] e lt = ([], sym e)
back graph callers are f g (h ∷ hs) c lt =
    let r = back graph callers are h g hs c.1 lt in
    (r.0 ++ f ∷ [], chain_then callers g h f r.0 r.1 ((are f h (chain_within graph h g hs c.1 lt)).1 c.0))

forth : (graph callers : List (List ℕ)) → AreCallers graph callers → length callers ≡ length graph → (g f : ℕ) (hs : List ℕ) → IsChain callers g hs f → Reaches graph f g
forth graph callers are size g f [] e = ([], sym e)
forth graph callers are size g f (h ∷ hs) c =
    let r = forth graph callers are size h f hs c.1 in
    let lt : g < length graph = let w = caller_within callers g h c.0 in omega (arith, w, size) in
    (r.0 ++ g ∷ [], chain_then graph f h g r.0 r.1 ((are h g lt).0 c.0))

-- Chains of callers are chains of calls that are read backwards.
pub leads_back : (graph callers : List (List ℕ)) → AreCallers graph callers → length callers ≡ length graph → (f g : ℕ) → g < length graph → Leads callers g f ↔ Leads graph f g
leads_back graph callers are size f g lt = (
  λ w. let r = forth graph callers are size w.0 f w.1 w.2.1 in
      let in' : g < length graph = lt in
      reaches_then graph f w.0 g r.0 r.1 ((are w.0 g in').0 w.2.0),
  λ w. let r = back graph callers are w.0 g w.1 w.2.1 lt in
      reaches_then callers g w.0 f r.0 r.1 ((are f w.0 (chain_within graph w.0 g w.1 w.2.1 lt)).1 w.2.0),
)

-- The same over the lists that the code has.
pub put_once : (n h : ℕ) (rows : List (Vec ℕ Global)) (row new : Vec ℕ Global) → h < length rows → new.items ≡ (get_or rows h row).items ++ n ∷ [] → CalledBy n (h ∷ []) (rows_of rows) (rows_of (set rows h new))
put_once n h rows row new lt put =
    let items : Vec ℕ Global → List ℕ = λ (r : Vec ℕ Global). r.items in
    let within : h < length (rows_of rows) = let e = length-map rows items in omega (arith, e) in
    let at : (get_or rows h row).items ≡ get_or (rows_of rows) h [] = sym (get_or-map items rows h row [] lt) in
    let all : rows_of (set rows h new) ≡ set (rows_of rows) h ((get_or rows h row).items ++ n ∷ []) = map-set items rows h new ∙ ap (λ (r : List ℕ). set (rows_of rows) h r) put in
    subst (λ (l : List (List ℕ)). CalledBy n (h ∷ []) (rows_of rows) l) (sym all) (called_once n h (rows_of rows) (get_or rows h row).items within at)

pub past_rows : (n h : ℕ) (rows : List (Vec ℕ Global)) → length rows ≤ h → CalledBy n (h ∷ []) (rows_of rows) (rows_of rows)
past_rows n h rows past = called_outside n h (rows_of rows) (let e = length-map rows (λ (r : Vec ℕ Global). r.items) in omega (arith, e))

pub known_on : (rows : List (Vec ℕ Global)) (i count : ℕ) (items given new : List (Vec ℕ Global)) (at : Vec ℕ Global) (row : List ℕ) → given ≡ items → count ≡ length items → i < length rows → at ≡ get_or rows i at → row ≡ at.items → AreKnown (rows_of rows) i (rows_of items) → CalledBy i row (rows_of given) (rows_of new) → AreKnown (rows_of rows) (i + 1) (rows_of (take count (new ++ drop (length new) items)))
known_on rows i count items given new at row same counted lt is called k p =
    let f : Vec ℕ Global → List ℕ = λ (r : Vec ℕ Global). r.items in
    let size : length new ≡ length items = let z = p.size in let a = length-map new f in let b = length-map given f in let e = ap length same in omega (arith, z, a, b, e) in
    let back : take count (new ++ drop (length new) items) ≡ new = written_back items new count counted size in
    let here : row ≡ get_or (rows_of rows) i [] = called ∙ (ap f is ∙ sym (get_or-map f rows i at [] lt)) in
    let q : CalledBy i (get_or (rows_of rows) i []) (rows_of items) (rows_of new) = subst (λ (r : List ℕ). CalledBy i r (rows_of items) (rows_of new)) here (subst (λ (l : List (Vec ℕ Global)). CalledBy i row (rows_of l) (rows_of new)) same p) in
    subst (λ (l : List (Vec ℕ Global)). AreKnown (rows_of rows) (i + 1) (rows_of l)) (sym back) (known_more (rows_of rows) i (rows_of items) (rows_of new) k q)

pub known_rows : (rows : List (Vec ℕ Global)) (i : ℕ) (callers : List (Vec ℕ Global)) → length rows ≤ i → AreKnown (rows_of rows) i (rows_of callers) → AreCallers (rows_of rows) (rows_of callers)
known_rows rows i callers past k = known_all (rows_of rows) (rows_of callers) i (let e = length-map rows (λ (r : Vec ℕ Global). r.items) in omega (arith, e)) k
