-- The longest chains where some functions call one more leaf, from the levels under a root.
use Rattle.std.proofs.Common.{◌≡◌, ℕ, ◌+◌, ◌<◌, ◌≤◌, Bool, true, false, ◌||◌, nat_eq, List, [], ◌∷◌, Option, Some, None, Result, Ok, Err, length, get_or, refl, sym, ap, ◌∙◌, subst, ⊎_elim, arith}
use Rattle.std.specs.Prelude.{if◌then◌else◌}
use Rattle.std.proofs.lemmas.Bool.{cases_lt, eqb-true, eq-eqb, false≢true, true≢false}
use Rattle.c_typed.specs.Chains.{IsChain, IsLevel, graph_of}
use Rattle.c_typed.specs.Trees.{Program}
use Rattle.call_graph.specs.Adding.{Measures, has_level, is_at_level, longest_by}
use Rattle.call_graph.specs.Answers.{TellsDepth, TellsDepthBy}
use Rattle.call_graph.specs.Copies.{IsDepth, IsDepthBy, HasDepth, HasDepthBy, root_of}
use Rattle.call_graph.specs.Levels.{HasLevel, IsLongest, IsLongestBy, leaf_calls}
use Rattle.call_graph.specs.declared.levels.Levels.{Levels}
use Rattle.call_graph.specs.declared.types.Copies.{Copies}
use Rattle.call_graph.specs.declared.types.GraphError.{GraphError}
use Rattle.call_graph.specs.declared.types.GraphError.TheVariants.{NoMemory, Roots, Recursion, Depth}
use Rattle.call_graph.proofs.Additions.{numbered}
use Rattle.pic_world.specs.declared.Root.TheVariants as root

-- ---- the leaf
one_or : (b : Bool) (n : ℕ) → n ≤ 1 → (if b then 1 else n) ≤ 1
one_or true n le = omega arith
one_or false n le = le

leaf_is_one : (deeper : List ℕ) (g : ℕ) → leaf_calls deeper g ≤ 1
leaf_is_one [] g = omega arith
leaf_is_one (f ∷ fs) g = one_or (nat_eq f g) (leaf_calls fs g) (leaf_is_one fs g)

level_same : (o : Option ℕ) (level : ℕ) → has_level o level ≡ true → o ≡ Some level
level_same None level h = absurd (false≢true h)
level_same (Some found) level h = ap Some (eqb-true found level h)

same_level : (o : Option ℕ) (level : ℕ) → o ≡ Some level → has_level o level ≡ true
same_level o level e = ap (λ x. has_level x level) e ∙ eq-eqb level level refl

-- a function with the level that calls a leaf
Leaf : List ℕ → List (Option ℕ) → ℕ → Type 0
Leaf deeper levels level = (g : ℕ) × (get_or levels g None ≡ Some level) × (leaf_calls deeper g ≡ 1)

still_one : (b : Bool) (n : ℕ) → n ≡ 1 → (if b then 1 else n) ≡ 1
still_one true n e = refl
still_one false n e = e

leaf_more : (f : ℕ) (fs : List ℕ) (levels : List (Option ℕ)) (level : ℕ) → (is_at_level fs levels level ≡ true → Leaf fs levels level)
    → (b : Bool) → has_level (get_or levels f None) level ≡ b → (b || is_at_level fs levels level) ≡ true → Leaf (f ∷ fs) levels level
unfolding Leaf
leaf_more f fs levels level rest true e h = (f, level_same (get_or levels f None) level e, ap (λ b. if b then 1 else leaf_calls fs f) (eq-eqb f f refl))
leaf_more f fs levels level rest false e h = let r = rest h in (r.0, r.1, still_one (nat_eq f r.0) (leaf_calls fs r.0) r.2)

at_level_leaf : (deeper : List ℕ) (levels : List (Option ℕ)) (level : ℕ) → is_at_level deeper levels level ≡ true → Leaf deeper levels level
at_level_leaf [] levels level h = absurd (false≢true h)
at_level_leaf (f ∷ fs) levels level h = leaf_more f fs levels level (at_level_leaf fs levels level) (has_level (get_or levels f None) level) refl h

leaf_there : (deeper : List ℕ) (levels : List (Option ℕ)) (level : ℕ) → is_at_level deeper levels level ≡ true → (g : ℕ) × (get_or levels g None ≡ Some level) × (leaf_calls deeper g ≡ 1)
unfolding Leaf
leaf_there deeper levels level h = at_level_leaf deeper levels level h

no_leaf_more : (f g : ℕ) (fs : List ℕ) (levels : List (Option ℕ)) (level : ℕ) → get_or levels g None ≡ Some level → (is_at_level fs levels level ≡ false → leaf_calls fs g ≡ 0)
    → (b : Bool) → nat_eq f g ≡ b → (c : Bool) → has_level (get_or levels f None) level ≡ c → (c || is_at_level fs levels level) ≡ false → (if b then 1 else leaf_calls fs g) ≡ 0
no_leaf_more f g fs levels level e rest b same true has h = absurd (true≢false h)
no_leaf_more f g fs levels level e rest false same false has h = rest h
no_leaf_more f g fs levels level e rest true same false has h =
    absurd (true≢false (sym (same_level (get_or levels f None) level (subst (λ (k : ℕ). get_or levels k None ≡ Some level) (sym (eqb-true f g same)) e)) ∙ has))

-- where none of these functions has the level, what has it calls no leaf
no_leaf : (deeper : List ℕ) (levels : List (Option ℕ)) (level g : ℕ) → is_at_level deeper levels level ≡ false → get_or levels g None ≡ Some level → leaf_calls deeper g ≡ 0
no_leaf [] levels level g h e = refl
no_leaf (f ∷ fs) levels level g h e = no_leaf_more f g fs levels level e (λ i. no_leaf fs levels level g i e) (nat_eq f g) refl (has_level (get_or levels f None) level) refl h

-- ---- from the levels to the longest chain
record Leveled (levels : List (Option ℕ)) (g longest count : ℕ) : Type 0 where
  level : ℕ
  is : get_or levels g None ≡ Some level
  chain : count ≤ level
  most : level ≤ longest

module _ (deeper : List ℕ) (graph : List (List ℕ)) (from : ℕ) (found : Levels) (m : Measures graph from found) where
  abbrev levels : List (Option ℕ)
  levels = found.levels.items

  -- the chain that shows a level
  shown : (g level : ℕ) (o : Option ℕ) → HasLevel graph from g o → o ≡ Some level → IsLevel graph from g level
  shown g level o h is = subst (λ (x : Option ℕ). HasLevel graph from g x) is h

  leveled : (g : ℕ) (hs : List ℕ) → g < length graph → IsChain graph from hs g → Leveled levels g found.longest (length hs)
  leveled g hs lt chain = by (get_or levels g None) refl (m.levels g lt) where
    by : (o : Option ℕ) → get_or levels g None ≡ o → HasLevel graph from g o → Leveled levels g found.longest (length hs)
    by None e h = absurd (h (hs, chain))
    by (Some level) e h =
        let most : length h.0.0 ≤ found.longest = m.longest.most g h.0.0 lt h.0.1 in
        let is : length h.0.0 ≡ level = h.0.2 in
        record { level = level; is = e; chain = h.1 hs chain; most = omega arith }

  deepest : is_at_level deeper levels found.longest ≡ true → IsLongestBy deeper graph from (found.longest + 1)
  deepest h =
      let d = leaf_there deeper levels found.longest h in
      let g : ℕ = d.0 in
      let size : length levels ≡ length graph = m.size in
      let within : g < length levels = numbered levels g found.longest d.1 in
      let lt : g < length graph = omega arith in
      let l = shown g found.longest (get_or levels g None) (m.levels g lt) d.1 in
      record {
        some = (g, l.0.0, lt, l.0.1, (let a : length l.0.0 ≡ found.longest = l.0.2 in let b : leaf_calls deeper g ≡ 1 = d.2 in omega arith));
        most = λ k hs k_lt chain. (let a = m.longest.most k hs k_lt chain in let b = leaf_is_one deeper k in omega arith);
      }

  plain : is_at_level deeper levels found.longest ≡ false → IsLongestBy deeper graph from found.longest
  plain h =
      let s = m.longest.some in
      let none : (g : ℕ) (hs : List ℕ) → g < length graph → IsChain graph from hs g → (l : Leveled levels g found.longest (length hs)) → l.level ≡ found.longest → leaf_calls deeper g ≡ 0
      = λ g hs lt chain l e. no_leaf deeper levels found.longest g h (l.is ∙ ap Some e) in
      record {
        some = (
          s.0,
          s.1,
          s.2,
          s.3,
          (
              let l = leveled s.0 s.1 s.2 s.3 in
              let a = l.chain in
              let b = l.most in
              let c : length s.1 ≡ found.longest = s.4 in
              let e = none s.0 s.1 s.2 s.3 l (omega arith) in
              omega arith),
        );
        most = λ g hs lt chain. (
            let l = leveled g hs lt chain in
            let a = l.chain in
            let b = l.most in
            let c = leaf_is_one deeper g in
            ⊎_elim (λ (less : l.level < found.longest). omega arith) (λ ge. let e = none g hs lt chain l (omega arith) in omega arith) (cases_lt l.level found.longest));
      }

  pub longest_is : IsLongestBy deeper graph from (longest_by deeper found)
  longest_is = by (is_at_level deeper levels found.longest) refl where
    by : (b : Bool) → is_at_level deeper levels found.longest ≡ b → IsLongestBy deeper graph from (if b then found.longest + 1 else found.longest)
    by true h = deepest h
    by false h = plain h

pub no_shorter : (deeper : List ℕ) (found : Levels) → found.longest ≤ longest_by deeper found
no_shorter deeper found = by (is_at_level deeper found.levels.items found.longest) where
  by : (b : Bool) → found.longest ≤ (if b then found.longest + 1 else found.longest)
  by true = omega arith
  by false = omega arith

-- ---- none of them
longest_none : (graph : List (List ℕ)) (from count : ℕ) → IsLongestBy [] graph from count → IsLongest graph from count
longest_none graph from count l =
    let s = l.some in
    let is : length s.1 + 0 ≡ count = s.4 in
    record { some = (s.0, s.1, s.2, s.3, omega arith); most = λ g hs lt chain. (let le : length hs + 0 ≤ count = l.most g hs lt chain in omega arith) }

none_longest : (graph : List (List ℕ)) (from count : ℕ) → IsLongest graph from count → IsLongestBy [] graph from count
none_longest graph from count l =
    let s = l.some in
    let is : length s.1 ≡ count = s.4 in
    record { some = (s.0, s.1, s.2, s.3, let sum : length s.1 + 0 ≡ count = omega arith in sum); most = λ g hs lt chain. (let le : length hs ≤ count = l.most g hs lt chain in let sum : length hs + 0 ≤ count = omega arith in sum) }

depth_none : (graph : List (List ℕ)) (main handler : Option ℕ) (depth : ℕ) → IsDepthBy [] graph main handler depth → IsDepth graph main handler depth
depth_none graph None handler depth d = d
depth_none graph (Some main) None depth d = longest_none graph main depth d
depth_none graph (Some main) (Some handler) depth (m, n, a, b, e) = (m, n, longest_none graph main m a, longest_none graph handler n b, e)

none_depth : (graph : List (List ℕ)) (main handler : Option ℕ) (depth : ℕ) → IsDepth graph main handler depth → IsDepthBy [] graph main handler depth
none_depth graph None handler depth d = d
none_depth graph (Some main) None depth d = none_longest graph main depth d
none_depth graph (Some main) (Some handler) depth (m, n, a, b, e) = (m, n, none_longest graph main m a, none_longest graph handler n b, e)

-- Where none of the functions calls a leaf, the depth is that of the calls alone.
pub none_deeper : (p : Program) (depth : ℕ) → HasDepthBy p [] depth → HasDepth p depth
none_deeper p depth = depth_none (graph_of p) (root_of p root.Main) (root_of p root.Isr) depth

pub deeper_none : (p : Program) (depth : ℕ) → HasDepth p depth → HasDepthBy p [] depth
deeper_none p depth = none_depth (graph_of p) (root_of p root.Main) (root_of p root.Isr) depth

pub tells_none : (p : Program) (r : Result Copies GraphError) → TellsDepthBy p [] r → TellsDepth p r
tells_none p (Ok copies) t = (none_deeper p copies.depth t.0, t.1)
tells_none p (Err NoMemory) t = t
tells_none p (Err (Roots kind)) t = t
tells_none p (Err (Recursion function)) t = t
tells_none p (Err (Depth depth)) t = (none_deeper p depth t.0, t.1)
