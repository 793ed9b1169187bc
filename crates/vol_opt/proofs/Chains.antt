-- A chain of calls leads to a function exactly where one of at most so many calls does as there are functions and helpers.
use Rattle.std.proofs.Common.{◌≡◌, ⊎_elim, ℕ, zero, suc, ◌<◌, ◌≤◌, Bool, true, false, ◌||◌, nat_eq, List, [], ◌∷◌, Option, Some, length, get_or, set, refl, sym, ap, ◌∙◌, subst, eqb-true, arith}
use Rattle.std.proofs.lemmas.Bool.{cases_lt, cases_eq, false≢true}
use Rattle.std.proofs.lemmas.List.{get_or_past, get_or-set_same, get_or-set_other, length-map}
use Rattle.std.proofs.lemmas.List.Folds.{Any-from_list_any, list_any_at}
use Rattle.std.specs.Global.{Global}
use Rattle.std.specs.List.{list_any}
use Rattle.std.specs.declared.vec.Vec.{Vec}
use Rattle.c_typed.specs.Chains.{graph_of, IsChain, Reaches}
use Rattle.c_typed.specs.Trees.{Program}
use Rattle.call_graph.specs.Reach.{AreReached}
use Rattle.call_graph.specs.Rows.{rows_of}
use Rattle.call_graph.proofs.Results.{graph_size}
use Rattle.call_graph.proofs.Ways.{reaches_cases, reaches_by, reaches_on}
use Rattle.vol_opt.specs.Kept.{reaches_within, is_under, is_handlers}
use Rattle.vol_opt.specs.Laws.{AnyChainCounts}
use Rattle.vol_opt.specs.Marks.{marked}
use Rattle.vol_opt.proofs.Levels.{left_or, right_or, either_or, or_grows}
use Rattle.vol_opt.proofs.Rounds.{found_in_time}

eq_is : (n m : ℕ) → n ≡ m → nat_eq n m ≡ true
eq_is n m e = grind arith

or_none : (a : Bool) → (a || false) ≡ a
or_none true = refl
or_none false = refl

-- ---- tests of lists
any_grows : (f g : ℕ → Bool) → ((n : ℕ) → f n ≡ true → g n ≡ true) → (xs : List ℕ) → list_any f xs ≡ true → list_any g xs ≡ true
any_grows f g h [] e = e
any_grows f g h (x ∷ xs) e = ⊎_elim (λ here. left_or (g x) (list_any g xs) (h x here)) (λ rest. right_or (g x) (list_any g xs) (any_grows f g h xs rest)) (either_or (f x) (list_any f xs) e)

any_same : (f g : ℕ → Bool) → ((n : ℕ) → g n ≡ f n) → (xs : List ℕ) → list_any g xs ≡ list_any f xs
any_same f g h [] = refl
any_same f g h (x ∷ xs) = ap (λ (b : Bool). b || list_any g xs) (h x) ∙ ap (λ (b : Bool). f x || b) (any_same f g h xs)

-- ---- chains that lead to one function
module _ (graph : List (List ℕ)) (g : ℕ) where
  reach_grows : (k f : ℕ) → reaches_within graph k f g ≡ true → reaches_within graph (suc k) f g ≡ true
  unfolding reaches_within
  reach_grows zero f e = left_or (nat_eq f g) _ e
  reach_grows (suc k) f e = or_grows (nat_eq f g) _ _ (any_grows (λ (h : ℕ). reaches_within graph k h g) (λ (h : ℕ). reaches_within graph (suc k) h g) (reach_grows k) (get_or graph f [])) e

  -- what is none of the graph calls nothing
  outside : (k f : ℕ) → length graph ≤ f → reaches_within graph k f g ≡ nat_eq f g
  unfolding reaches_within
  outside zero f past = refl
  outside (suc k) f past = ap (λ (row : List ℕ). nat_eq f g || list_any (λ (h : ℕ). reaches_within graph k h g) row) (get_or_past graph f [] past) ∙ or_none (nat_eq f g)

  settles : (k : ℕ) → ((f : ℕ) → f < length graph → reaches_within graph (suc k) f g ≡ reaches_within graph k f g) → (f : ℕ) → f < length graph → reaches_within graph (suc (suc k)) f g ≡ reaches_within graph (suc k) f g
  unfolding reaches_within
  settles k still f l =
      ap (λ (b : Bool). nat_eq f g || b)
      (any_same (λ (h : ℕ). reaches_within graph k h g) (λ (h : ℕ). reaches_within graph (suc k) h g)
      (λ h. ⊎_elim (λ lt. still h lt) (λ past. outside (suc k) h past ∙ sym (outside k h past)) (cases_lt h (length graph)))
      (get_or graph f []))

  chain_is : (k f : ℕ) → reaches_within graph k f g ≡ true → Reaches graph f g
  unfolding reaches_within
  chain_is zero f e = ([], eqb-true f g e)
  chain_is (suc k) f e =
      ⊎_elim
      (λ same. ([], eqb-true f g same))
      (λ some. let a = Any-from_list_any (λ (h : ℕ). reaches_within graph k h g) (get_or graph f []) some in reaches_on graph f a.1 g (a.0, a.2, a.3) (chain_is k a.1 a.4))
      (either_or (nat_eq f g) (list_any (λ (h : ℕ). reaches_within graph k h g) (get_or graph f [])) e)

  chain_found : (hs : List ℕ) (f : ℕ) → IsChain graph f hs g → reaches_within graph (length hs) f g ≡ true
  unfolding reaches_within
  chain_found [] f e = eq_is f g e
  chain_found (h ∷ hs) f c =
      right_or (nat_eq f g) _
      (list_any_at (λ (x : ℕ). reaches_within graph (length hs) x g) (get_or graph f []) c.0.0 h c.0.1
      (ap (λ (x : ℕ). reaches_within graph (length hs) x g) c.0.2 ∙ chain_found hs h c.1))

  pub chain_in_time : (f : ℕ) → Reaches graph f g → reaches_within graph (length graph) f g ≡ true
  chain_in_time f w =
      ⊎_elim
      (λ lt. found_in_time (length graph) (λ k i. reaches_within graph k i g) reach_grows settles (length w.0) f lt (chain_found w.0 f w.1))
      (λ past. outside (length graph) f past ∙ sym (outside (length w.0) f past) ∙ chain_found w.0 f w.1)
      (cases_lt f (length graph))

  pub under_is : (f : ℕ) → is_under graph (Some f) g ≡ true → Reaches graph f g
  under_is f e = chain_is (length graph) f e

pub any_chain : AnyChainCounts
any_chain p handler number is =
    let same : is_handlers p number ≡ is_under (graph_of p) (Some handler) number = ap (λ (o : Option ℕ). is_under (graph_of p) o number) is in
    (λ e. under_is (graph_of p) number handler (sym same ∙ e), λ w. same ∙ chain_in_time (graph_of p) number handler w)

-- ---- marks on what is reached, and on the start
both_ways : (a b : Bool) → (a ≡ true → b ≡ true) → (b ≡ true → a ≡ true) → a ≡ b
both_ways true b f g = sym (f refl)
both_ways false true f g = absurd (false≢true (g refl))
both_ways false false f g = refl

module _ (graph : List (List ℕ)) (root : ℕ) (marks : List Bool) (size : length marks ≡ length graph) (reached : AreReached graph root marks) (n : ℕ) (l : n < length graph) where
  there : get_or (set marks root true) n false ≡ true → Reaches graph root n
  there e =
      ⊎_elim
      (λ same. ([], sym same))
      (λ other. reaches_by graph root n ((reached n l).0 (sym (get_or-set_other marks root n true false other) ∙ e)))
      (cases_eq n root)

  back : Reaches graph root n → get_or (set marks root true) n false ≡ true
  back w =
      ⊎_elim
      (λ same. ap (λ (k : ℕ). get_or (set marks root true) k false) same ∙ get_or-set_same marks root true false (omega (arith, same, size)))
      (λ other.
      get_or-set_other marks root n true false other
      ∙ ⊎_elim (λ same. absurd (other (sym same))) (λ leads. (reached n l).1 leads) (reaches_cases graph root n w))
      (cases_eq n root)

  pub root_marked : get_or (set marks root true) n false ≡ is_under graph (Some root) n
  root_marked = both_ways _ _ (λ e. chain_in_time graph n root (there e)) (λ e. back (under_is graph n root e))

pub under_marked : (p : Program) (rows : List (Vec ℕ Global)) (root : ℕ) (marks now : List Bool) → rows_of rows ≡ graph_of p → length marks ≡ length rows → AreReached (rows_of rows) root marks → now ≡ marked marks (root ∷ [])
    → (n : ℕ) → n < length p.functions → get_or now n false ≡ is_under (graph_of p) (Some root) n
unfolding marked
under_marked p rows root marks now is size reached put n l =
    let known : AreReached (graph_of p) root marks = subst (λ (g : List (List ℕ)). AreReached g root marks) is reached in
    let count : length rows ≡ length (graph_of p) = sym (length-map rows (λ (v : Vec ℕ Global). v.items)) ∙ ap length is in
    ap (λ (ms : List Bool). get_or ms n false) put ∙ root_marked (graph_of p) root marks (size ∙ count) known n (let s = graph_size p in omega (arith, s, l))
