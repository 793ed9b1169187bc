-- The stack is within so many times what any function needs as the return stack needs addresses, and once more.
use Rattle.std.proofs.Common.{◌≡◌, ℕ, zero, suc, ◌+◌, ◌*◌, ◌-◌, ◌<◌, ◌≤◌, max, ◌⊎◌, inl, inr, ⊎_elim, List, [], ◌∷◌, ◌++◌, length, map, replicate, Option, Some, None, refl, sym, ap, ◌∙◌, subst, arith}
use Rattle.std.proofs.Math.Nat.{add-mul}
use Rattle.std.proofs.lemmas.List.{length-append, length-map}
use Rattle.std.specs.Prelude.{slice_get}
use Rattle.call_graph.specs.Copies.{IsDepth, HasDepth}
use Rattle.call_graph.specs.Levels.{IsLongest}
use Rattle.c_typed.specs.Chains.{graph_of, row_of, Calls, IsChain}
use Rattle.c_typed.specs.Trees.{FunctionTree, Program}
use Rattle.pic_world.specs.declared.Root.TheVariants.{Main}
use Rattle.source_room.proofs.Rooms.{by_depth, Sized}
use Rattle.source_room.proofs.Roomy.{depths_count}
use Rattle.source_room.proofs.Shallow.{moment_sized}
use Rattle.source_room.proofs.Ways.{rest, budget_rest}
use Rattle.source_room.specs.Depth.{function_depth, deepest_of, deepest_function}
use Rattle.source_room.specs.Laws.{StackIsWithinDepth}
use Rattle.src_rules.proofs.Bounds.{within}
use Rattle.src_rules.proofs.Distinct.{caller_calls, main_is_no_handler}
use Rattle.src_rules.proofs.Moments.{moments}
use Rattle.src_rules.specs.Laws.{entries}
use Rattle.src_rules.specs.Runs.{moment}
use Rattle.src_rules.specs.Standing.{StackStands, Stands}
use Rattle.src_rules.specs.State.{State}
use Rattle.src_values.specs.Control.{Pending, In, To, Doing, Before, Returns, Resumes}
use Rattle.src_values.specs.Objects.{or_no_function, function_at, handler_in, main_in, or_first, main_of}
use Rattle.src_values.specs.declared.objects.CopyOf.{CopyOf}

chain_on : (graph : List (List ℕ)) (root : ℕ) (hs : List ℕ) (f g : ℕ) → IsChain graph root hs f → Calls graph f g → IsChain graph root (hs ++ g ∷ []) g
chain_on graph root [] f g h c = (subst (λ x. Calls graph x g) (sym h) c, refl)
chain_on graph root (x ∷ xs) f g h c = (h.0, chain_on graph x xs f g h.1 c)

one_more : (n d : ℕ) → (n + 1) * d ≡ n * d + d
one_more n d = let a = add-mul n 1 d in let b : 1 * d ≡ d = omega arith in omega arith

times_more : (m n d : ℕ) → m ≤ n → m * d ≤ n * d
times_more m n d l = let q : n ≡ m + (n - m) = omega arith in let e = ap (λ x. x * d) q ∙ add-mul m (n - m) d in omega arith

-- ---- no function is deeper than the deepest
first_within : (a b : ℕ) → a ≤ max a b
first_within a b = omega arith

later_within : (x a b : ℕ) → x ≤ b → x ≤ max a b
later_within x a b l = omega arith

deepest_at : (fs : List FunctionTree) (n : ℕ) → n < length fs → function_depth (or_no_function (slice_get fs n)) ≤ deepest_of fs
deepest_at [] n l = absurd (omega arith)
deepest_at (f ∷ fs) zero l = first_within (function_depth f) (deepest_of fs)
deepest_at (f ∷ fs) (suc n) l = later_within (function_depth (or_no_function (slice_get fs n))) (function_depth f) (deepest_of fs) (deepest_at fs n (omega arith))

within_graph : (p : Program) (f : ℕ) → f < length p.functions → f < length (graph_of p)
within_graph p f l = let a = length-append (map (row_of (length p.functions)) p.functions) (replicate 16 []) in let b = length-map p.functions (row_of (length p.functions)) in omega arith

-- ---- chains to the copies that run
-- Calls from a root to a function, and what waits below it: at most what the deepest function needs for each call, and some more.
record Chain (p : Program) (d root more below f : ℕ) : Type 0 where
  calls : List ℕ
  chain : IsChain (graph_of p) root calls f
  few : below ≤ length calls * d + more

module _ (p : Program) (d : ℕ) (depths : (f : ℕ) → f < length p.functions → function_depth (function_at p f) ≤ d) where
  next : (root more below e f : ℕ) → e < length p.functions → Calls (graph_of p) e f → Chain p d root more below e → Chain p d root more (function_depth (function_at p e) + below) f
  next root more below e f there call m = record {
    calls = m.calls ++ f ∷ [];
    chain = chain_on (graph_of p) root m.calls e f m.chain call;
    few =
        let a = depths e there in
        let b = m.few in
        let o = one_more (length m.calls) d in
        let l : length (m.calls ++ f ∷ []) * d ≡ (length m.calls + 1) * d = ap (λ n. n * d) (length-append m.calls (f ∷ [])) in
        omega arith;
  }

  mains_chain : (k : List Pending) (c : CopyOf) → StackStands p c k → c.root ≡ Main → Chain p d (main_of p) 0 (rest p k) c.function
  unfolding rest
  mains_chain [] c st m = record { calls = []; chain = sym (ap (λ x. x.function) st); few = omega arith }
  mains_chain (In e got ∷ k) c st m = mains_chain k c st.3 m
  mains_chain (To place ∷ k) c st m = mains_chain k c st.2 m
  mains_chain (Doing t stage ∷ k) c st m = mains_chain k c st.3 m
  mains_chain (Before ss ∷ k) c st m = mains_chain k c st.2 m
  mains_chain (Returns e ∷ k) c st m = next (main_of p) 0 (rest p k) e.function c.function st.0.there (caller_calls p e c.function k st.2 st.3) (mains_chain k e st.3 (sym st.1 ∙ m))
  mains_chain (Resumes e x ∷ k) c st m = absurd (main_is_no_handler p c st.2.0 m st.2.2)

-- with a bound on main's chains
module _ (p : Program) (d : ℕ) (depths : (f : ℕ) → f < length p.functions → function_depth (function_at p f) ≤ d) (m : ℕ) (most : (g : ℕ) (hs : List ℕ) → g < length (graph_of p) → IsChain (graph_of p) (main_of p) hs g → length hs ≤ m) where
  abbrev Handlers : ℕ → ℕ → Type 0
  Handlers below f = (h : ℕ) × (handler_in p ≡ Some h) × Chain p d h ((m + 1) * d) below f

  few_below : (below f : ℕ) → f < length p.functions → Chain p d (main_of p) 0 below f → below ≤ m * d
  few_below below f there c =
      let a = times_more (length c.calls) m d (most f c.calls (within_graph p f there) c.chain) in
      let b = c.few in
      omega arith

  handler_begins : (below e : ℕ) (c : CopyOf) (h : ℕ) → e < length p.functions → handler_in p ≡ Some h → c.function ≡ h → Chain p d (main_of p) 0 below e → Handlers (function_depth (function_at p e) + below) c.function
  handler_begins below e c h there is same w =
      let a = few_below below e there w in
      let b = depths e there in
      let o = one_more m d in
      (h, is, record { calls = []; chain = sym same; few = omega arith })

  next_handlers : (below e f : ℕ) → e < length p.functions → Calls (graph_of p) e f → Handlers below e → Handlers (function_depth (function_at p e) + below) f
  next_handlers below e f there call w = (w.0, w.1, next p d depths w.0 ((m + 1) * d) below e f there call w.2)

  all_chains : (k : List Pending) (c : CopyOf) → StackStands p c k → Chain p d (main_of p) 0 (rest p k) c.function ⊎ Handlers (rest p k) c.function
  unfolding rest
  all_chains [] c st = inl (record { calls = []; chain = sym (ap (λ x. x.function) st); few = omega arith })
  all_chains (In e got ∷ k) c st = all_chains k c st.3
  all_chains (To place ∷ k) c st = all_chains k c st.2
  all_chains (Doing t stage ∷ k) c st = all_chains k c st.3
  all_chains (Before ss ∷ k) c st = all_chains k c st.2
  all_chains (Returns e ∷ k) c st =
      let call = caller_calls p e c.function k st.2 st.3 in
      ⊎_elim (λ w. inl (next p d depths (main_of p) 0 (rest p k) e.function c.function st.0.there call w)) (λ w. inr (next_handlers (rest p k) e.function c.function st.0.there call w)) (all_chains k e st.3)
  all_chains (Resumes e x ∷ k) c st = inr (handler_begins (rest p k) e.function c st.2.0 st.0.there st.2.1 (ap (λ y. y.function) st.2.2) (mains_chain p d depths k e st.4 st.1))

-- ---- with the longest chains
none_is : (h : ℕ) (o : Option ℕ) → o ≡ None → o ≡ Some h → ⊥
none_is h o e f = absurd (cc (sym e ∙ f))

main_side : (p : Program) (d depth m n below f : ℕ) (depths : (f : ℕ) → f < length p.functions → function_depth (function_at p f) ≤ d) (most : (g : ℕ) (hs : List ℕ) → g < length (graph_of p) → IsChain (graph_of p) (main_of p) hs g → length hs ≤ m) → depth ≡ m + 1 + n → f < length p.functions → Chain p d (main_of p) 0 below f → below ≤ depth * d
main_side p d depth m n below f depths most whole there w =
    let a = few_below p d depths m most below f there w in
    let b = times_more m depth d (omega arith) in
    omega arith

handler_side : (p : Program) (d depth m n below f handler : ℕ) → ((g : ℕ) (hs : List ℕ) → g < length (graph_of p) → IsChain (graph_of p) handler hs g → length hs ≤ n) → depth ≡ m + 1 + n → f < length p.functions → Chain p d handler ((m + 1) * d) below f → below ≤ depth * d
handler_side p d depth m n below f handler most whole there w =
    let a = times_more (length w.calls) n d (most f w.calls (within_graph p f there) w.chain) in
    let b = w.few in
    let e : depth * d ≡ (m + 1) * d + n * d = ap (λ x. x * d) whole ∙ add-mul (m + 1) n d in
    omega arith

same_some : (h g : ℕ) (o : Option ℕ) → o ≡ Some h → o ≡ Some g → h ≡ g
same_some h g o e f = cc (sym e ∙ f)

longest_both : (p : Program) (d depth main handler m n : ℕ) → main_of p ≡ main → handler_in p ≡ Some handler → IsLongest (graph_of p) main m → IsLongest (graph_of p) handler n → depth ≡ m + 1 + n → ((f : ℕ) → f < length p.functions → function_depth (function_at p f) ≤ d) → (k : List Pending) (c : CopyOf) → StackStands p c k → c.function < length p.functions → rest p k ≤ depth * d
longest_both p d depth main handler m n is its h g whole depths k c st there =
    let most : (f : ℕ) (hs : List ℕ) → f < length (graph_of p) → IsChain (graph_of p) (main_of p) hs f → length hs ≤ m = λ f hs l chain. h.most f hs l (subst (λ x. IsChain (graph_of p) x hs f) is chain) in
    ⊎_elim
    (λ w. main_side p d depth m n (rest p k) c.function depths most whole there w)
    (λ w. handler_side p d depth m n (rest p k) c.function w.0 (λ f hs l chain. g.most f hs l (subst (λ x. IsChain (graph_of p) x hs f) (same_some w.0 handler (handler_in p) w.1 its) chain)) whole there w.2)
    (all_chains p d depths m most k c st)

longest_main : (p : Program) (d depth main : ℕ) → main_of p ≡ main → handler_in p ≡ None → IsLongest (graph_of p) main depth → ((f : ℕ) → f < length p.functions → function_depth (function_at p f) ≤ d) → (k : List Pending) (c : CopyOf) → StackStands p c k → c.function < length p.functions → rest p k ≤ depth * d
longest_main p d depth main is its h depths k c st there =
    let most : (f : ℕ) (hs : List ℕ) → f < length (graph_of p) → IsChain (graph_of p) (main_of p) hs f → length hs ≤ depth = λ f hs l chain. h.most f hs l (subst (λ x. IsChain (graph_of p) x hs f) is chain) in
    ⊎_elim (λ w. few_below p d depths depth most (rest p k) c.function there w) (λ w. absurd (none_is w.0 (handler_in p) its w.1)) (all_chains p d depths depth most k c st)

longest_below : (p : Program) (d depth : ℕ) (main handler : Option ℕ) → main_in p ≡ main → handler_in p ≡ handler → IsDepth (graph_of p) main handler depth → ((f : ℕ) → f < length p.functions → function_depth (function_at p f) ≤ d) → (k : List Pending) (c : CopyOf) → StackStands p c k → c.function < length p.functions → rest p k ≤ depth * d
longest_below p d depth None handler is its h depths k c st there = absurd h
longest_below p d depth (Some main) None is its h depths k c st there = longest_main p d depth main (ap or_first is) its h depths k c st there
longest_below p d depth (Some main) (Some handler) is its h depths k c st there = longest_both p d depth main handler h.0 h.1 (ap or_first is) its h.2 h.3 h.4 depths k c st there

stack_within : (p : Program) (d depth : ℕ) → HasDepth p depth → ((f : ℕ) → f < length p.functions → function_depth (function_at p f) ≤ d) → (t : State) → Stands p t → Sized p t.copy t.stack → entries t.stack ≤ (depth + 1) * d
stack_within p d depth has depths t h z =
    let a = within p by_depth depths_count t.stack t.copy z in
    let b = budget_rest p t.stack t.copy in
    let f = depths t.copy.function h.reached.there in
    let i = longest_below p d depth (main_in p) (handler_in p) refl refl has depths t.stack t.copy h.stack h.reached.there in
    let o = one_more depth d in
    omega arith

pub within_depth : StackIsWithinDepth
within_depth s h o depth has n = stack_within s.program (deepest_function s.program) depth has (λ f l. deepest_at s.program.functions f l) (moment s n) (moments s h o n).0 (moment_sized s h o n)
