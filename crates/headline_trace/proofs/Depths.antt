-- Chains of calls from copies: what they reach, by how many calls, and that the return stack has room for them.
use Rattle.std.proofs.Common.{◌≡◌, ℕ, zero, suc, ◌+◌, ◌<◌, ◌≤◌, Bool, true, false, ◌&&◌, nat_lt, List, [], ◌∷◌, ◌++◌, length, Option, Some, None, is_some, refl, sym, ap, ◌∙◌, subst, arith}
use Rattle.std.specs.Prelude.{slice_get, if◌then◌else◌}
use Rattle.std.proofs.lemmas.Bool.{and_parts, ltb-true, ltb-false}
use Rattle.std.proofs.lemmas.List.{length-append}
use Rattle.std.proofs.lemmas.List.Quantifiers.{position-Some}
use Rattle.std.proofs.lemmas.Option.{slice_get_within}
use Rattle.c_ints.specs.declared.operators.BinOp.{BinOp}
use Rattle.c_ints.specs.declared.types.IntTy.{IntTy}
use Rattle.c_typed.specs.Calls.{int_helper}
use Rattle.c_typed.specs.Chains.{graph_of, number_of, Calls, IsChain, Reaches}
use Rattle.c_typed.specs.Trees.{Program}
use Rattle.c_typed.specs.declared.calls.FnId.TheVariants as callees
use Rattle.c_typed.specs.declared.calls.Helper.{Helper}
use Rattle.call_graph.specs.Copies.{IsCopy, IsDepth, root_of}
use Rattle.call_graph.specs.Levels.{IsLongest}
use Rattle.call_graph.specs.Numbers.{handler_at, copy_of, is_helper, is_copy_of}
use Rattle.call_graph.specs.declared.types.FnCopy.{FnCopy}
use Rattle.call_graph.proofs.Results.{graph_size, one_below}
use Rattle.call_graph.proofs.Ways.{chain_then, chain_joined}
use Rattle.lower_stmt.specs.Programs.{core_of, may_call, may_use, root_in, function_at, calls_function, calls_helper}
use Rattle.pic_world.specs.Roots.{same_root}
use Rattle.pic_world.specs.declared.Root.{Root}
use Rattle.pic_world.specs.declared.Root.TheVariants.{Main, Isr}
use Rattle.select_wide.specs.Links.{HasLevels, is_inside}
use Rattle.chip_trace.specs.Arriving.{depth_for}
use Rattle.program_code.specs.Translated.{HasCalls}
use Rattle.headline_trace.specs.Selection.{IsReaching, reach_of, reaches_in, level_of, level_in, is_under, highest, limit_of, ReachIsHad, LevelsAreHad, DepthIsHad}
use Rattle.headline_trace.proofs.CallChains.{leads_sound, leads_complete, called_at, helped_at, same_helper}
use Rattle.headline_trace.proofs.Entered.{at_is}
use Rattle.headline_trace.proofs.Laid.{is_there}
use Rattle.headline_trace.proofs.Statics.{some_is}

pub roots_same : (a b : Root) → same_root a b ≡ true → a ≡ b
roots_same Main Main e = refl
roots_same Isr Isr e = refl
roots_same Main Isr e = absurd (cc)
roots_same Isr Main e = absurd (cc)

under_itself : (r : Root) → is_under (is_inside r) r ≡ true
under_itself Main = refl
under_itself Isr = refl

outside_main : (r : Root) → is_under false r ≡ true → r ≡ Main
outside_main Main e = refl
outside_main Isr e = absurd (cc)

inside_isr : (r : Root) → is_under true r ≡ true → r ≡ Isr
inside_isr Main e = absurd (cc)
inside_isr Isr e = refl

-- ---- highest levels
pub at_most_highest : (inside : Bool) (list : List FnCopy) (k : ℕ) (copy : FnCopy) → slice_get list k ≡ Some copy → is_under inside copy.root ≡ true → copy.level ≤ highest inside list
unfolding highest
at_most_highest inside [] k copy is under = absurd (cc)
at_most_highest inside (x ∷ list) zero copy is under =
    let same : x ≡ copy = some_is x copy is in
    by (is_under inside x.root) (nat_lt (highest inside list) x.level) (ap (λ (y : FnCopy). is_under inside y.root) same ∙ under) refl (ap (λ (y : FnCopy). y.level) same) where
      by : (u l : Bool) → u ≡ true → nat_lt (highest inside list) x.level ≡ l → x.level ≡ copy.level → copy.level ≤ (if u && l then x.level else highest inside list)
      by true true t e level = omega arith
      by true false t e level = let h = ltb-false (highest inside list) x.level e in omega arith
      by false l t e level = absurd (cc)
at_most_highest inside (x ∷ list) (suc k) copy is under =
    by (is_under inside x.root) (nat_lt (highest inside list) x.level) refl (at_most_highest inside list k copy is under) where
      by : (u l : Bool) → nat_lt (highest inside list) x.level ≡ l → copy.level ≤ highest inside list → copy.level ≤ (if u && l then x.level else highest inside list)
      by true true e below = let h = ltb-true (highest inside list) x.level e in omega arith
      by true false e below = below
      by false l e below = below

pub highest_within : (inside : Bool) (most : ℕ) (list : List FnCopy) → ((k : ℕ) (copy : FnCopy) → slice_get list k ≡ Some copy → is_under inside copy.root ≡ true → copy.level ≤ most) → highest inside list ≤ most
unfolding highest
highest_within inside most [] all = omega arith
highest_within inside most (x ∷ list) all =
    by (is_under inside x.root) (nat_lt (highest inside list) x.level) refl (highest_within inside most list (λ k copy is under. all (suc k) copy is under)) where
      by : (u l : Bool) → is_under inside x.root ≡ u → highest inside list ≤ most → (if u && l then x.level else highest inside list) ≤ most
      by true true e below = all 0 x refl e
      by true false e below = below
      by false l e below = below

-- ---- longest chains
pub record IsBounded (graph : List (List ℕ)) (n depth : ℕ) : Type 0 where
  pub most : ℕ
  pub longest : IsLongest graph n most
  pub within : most ≤ depth

main_bounded : (graph : List (List ℕ)) (depth : ℕ) (a b : Option ℕ) → IsDepth graph a b depth → (n : ℕ) → a ≡ Some n → IsBounded graph n depth
main_bounded graph depth None b d n e = absurd d
main_bounded graph depth (Some x) None d n e = record { most = depth; longest = subst (λ k. IsLongest graph k depth) (some_is x n e) d; within = omega arith }
main_bounded graph depth (Some x) (Some y) (m, k, l, r, is) n e = record { most = m; longest = subst (λ i. IsLongest graph i m) (some_is x n e) l; within = omega arith }

isr_bounded : (graph : List (List ℕ)) (depth : ℕ) (a b : Option ℕ) → IsDepth graph a b depth → (n : ℕ) → b ≡ Some n → IsBounded graph n depth
isr_bounded graph depth None b d n e = absurd d
isr_bounded graph depth (Some x) None d n e = absurd (cc)
isr_bounded graph depth (Some x) (Some y) (m, k, l, r, is) n e = record { most = k; longest = subst (λ i. IsLongest graph i k) (some_is y n e) r; within = omega arith }

record AreBounded (graph : List (List ℕ)) (a : Option ℕ) (n depth : ℕ) : Type 0 where
  main : ℕ
  is : a ≡ Some main
  outer : ℕ
  inner : ℕ
  longest : IsLongest graph main outer
  other : IsLongest graph n inner
  within : outer + 1 + inner ≤ depth

both_bounded : (graph : List (List ℕ)) (depth : ℕ) (a b : Option ℕ) → IsDepth graph a b depth → (n : ℕ) → b ≡ Some n → AreBounded graph a n depth
both_bounded graph depth None b d n e = absurd d
both_bounded graph depth (Some x) None d n e = absurd (cc)
both_bounded graph depth (Some x) (Some y) (m, k, l, r, is) n e =
    record { main = x; is = refl; outer = m; inner = k; longest = l; other = subst (λ i. IsLongest graph i k) (some_is y n e) r; within = omega arith }

module _ (p : Program) (copies : List FnCopy) (has : HasCalls p copies) where
  abbrev graph : List (List ℕ)
  graph = graph_of p

  abbrev number : FnCopy → ℕ
  number copy = number_of (length p.functions) copy.function

  copy_is : (c : ℕ) (copy : FnCopy) → slice_get copies c ≡ Some copy → IsCopy p copy
  copy_is c copy is = (has.known.exact copy).0 (c, slice_get_within copies c copy is, at_is copies c copy copy is)

  in_graph : (copy : FnCopy) → IsCopy p copy → number copy < length graph
  in_graph copy is = let size = graph_size p in let below = one_below (length p.functions) copy.function is.one in omega arith

  pub bounded : (r : Root) (n : ℕ) → root_of p r ≡ Some n → IsBounded graph n has.depth
  bounded Main n e = main_bounded graph has.depth (root_of p Main) (root_of p Isr) has.exact n e
  bounded Isr n e = isr_bounded graph has.depth (root_of p Main) (root_of p Isr) has.exact n e

  -- a chain from a copy on is no longer than the return stack
  short : (copy : FnCopy) → IsCopy p copy → (g : ℕ) (hs : List ℕ) → g < length graph → IsChain graph (number copy) hs g → length hs ≤ 8
  short copy is g hs lt chain =
      let before = is.level.0 in
      let b = bounded copy.root is.number is.entered in
      let most = b.longest.most g (before.0 ++ hs) lt (chain_joined graph is.number (number copy) g before.0 hs before.1 chain) in
      let long = length-append before.0 hs in
      let within = b.within in
      let shallow = has.shallow in
      omega arith

  level_within : (copy : FnCopy) → IsCopy p copy → (n most : ℕ) → root_of p copy.root ≡ Some n → IsLongest graph n most → copy.level ≤ most
  level_within copy is n most e longest =
      let before = is.level.0 in
      let same : is.number ≡ n = some_is is.number n (sym is.entered ∙ e) in
      let bound = longest.most (number copy) before.0 (in_graph copy is) (subst (λ k. IsChain graph k before.0 (number copy)) same before.1) in
      let long = before.2 in
      omega arith

  -- a call goes up
  rises : (a b : FnCopy) → IsCopy p a → IsCopy p b → a.root ≡ b.root → Calls graph (number a) (number b) → a.level < b.level
  rises a b x y same calls =
      let before = x.level.0 in
      let chain = chain_then graph x.number (number a) (number b) before.0 before.1 calls in
      let root : x.number ≡ y.number = some_is x.number y.number (sym x.entered ∙ ap (root_of p) same ∙ y.entered) in
      let most = y.level.1 (before.0 ++ number b ∷ []) (subst (λ k. IsChain graph k (before.0 ++ number b ∷ []) (number b)) root chain) in
      let long = length-append before.0 (number b ∷ []) in
      let here = before.2 in
      omega arith

  -- what a call is between
  record IsCall (c d : ℕ) : Type 0 where
    caller : FnCopy
    from : slice_get copies c ≡ Some caller
    called : FnCopy
    to : slice_get copies d ≡ Some called
    same : caller.root ≡ called.root
    calls : Calls graph (number caller) (number called)

  calls_by : (c d : ℕ) (a b : Option FnCopy) → slice_get copies c ≡ a → slice_get copies d ≡ b → may_call p a b ≡ true → IsCall c d
  calls_by c d None b from to e = absurd (cc)
  calls_by c d (Some a) None from to e = absurd (cc)
  calls_by c d (Some a) (Some b) from to e =
      let parts = and_parts (same_root a.root b.root) (calls_function (function_at p a.function) b.function) e in
      record { caller = a; from = from; called = b; to = to; same = roots_same a.root b.root parts.0; calls = called_at p a.function b.function parts.1 }

  uses_by : (c d : ℕ) (h : Helper) (a : Option FnCopy) → slice_get copies c ≡ a → may_use p copies a (Some h) ≡ true → copy_of copies (root_in a) h ≡ Some d → IsCall c d
  uses_by c d h None from e at = absurd (cc)
  uses_by c d h (Some a) from e at =
      let found = position-Some (is_copy_of a.root h) copies d a at in
      let b = is_there copies d found.0 in
      let test : is_copy_of a.root h b.0 ≡ true = sym (ap (is_copy_of a.root h) (at_is copies d b.0 a b.1)) ∙ found.1 in
      let parts = and_parts (same_root b.0.root a.root) (is_helper h b.0.function) test in
      let uses = and_parts (calls_helper (function_at p a.function) h) (is_some (copy_of copies a.root h)) e in
      record {
        caller = a;
        from = from;
        called = b.0;
        to = b.1;
        same = sym (roots_same b.0.root a.root parts.0);
        calls = subst (λ k. Calls graph (number a) k) (sym (same_helper (length p.functions) h b.0.function parts.1)) (helped_at p a.function h uses.0);
      }

  call_is : (c d : ℕ) → (core_of p copies).calls c d ≡ true → IsCall c d
  unfolding core_of
  call_is c d e = calls_by c d (slice_get copies c) (slice_get copies d) refl refl e

  use_is : (c d : ℕ) (op : BinOp) (ty : IntTy) (h : Helper) → (core_of p copies).helped c op ty ≡ true → int_helper op false ty ≡ Some h → copy_of copies ((core_of p copies).root c) h ≡ Some d → IsCall c d
  unfolding core_of
  use_is c d op ty h e is at = uses_by c d h (slice_get copies c) refl (sym (ap (may_use p copies (slice_get copies c)) is) ∙ e) at

  -- ---- what reaches what
  reach_pair : (c d : ℕ) (a b : FnCopy) → slice_get copies c ≡ Some a → slice_get copies d ≡ Some b → (hs : List ℕ) → length hs ≤ 8 → IsChain graph (number a) hs (number b) → reaches_in p copies c d ≡ true
  unfolding reaches_in
  reach_pair c d a b from to hs le chain =
      ap (λ (o : Option FnCopy). reach_of p o (slice_get copies d)) from ∙ ap (reach_of p (Some a)) to ∙ leads_complete graph 8 (number a) (number b) hs le chain

  reached_by : (c d : ℕ) → IsCall c d → reaches_in p copies c d ≡ true
  reached_by c d i = reach_pair c d i.caller i.called i.from i.to (number i.called ∷ []) (omega arith) (i.calls, refl)

  record IsReached (c d : ℕ) : Type 0 where
    one : FnCopy
    from : slice_get copies c ≡ Some one
    two : FnCopy
    to : slice_get copies d ≡ Some two
    way : Reaches graph (number one) (number two)

  reached_of : (c d : ℕ) (a b : Option FnCopy) → slice_get copies c ≡ a → slice_get copies d ≡ b → reach_of p a b ≡ true → IsReached c d
  reached_of c d None b from to e = absurd (cc)
  reached_of c d (Some a) None from to e = absurd (cc)
  reached_of c d (Some a) (Some b) from to e = record { one = a; from = from; two = b; to = to; way = leads_sound graph 8 (number a) (number b) e }

  reached_is : (c d : ℕ) → reaches_in p copies c d ≡ true → IsReached c d
  unfolding reaches_in
  reached_is c d e = reached_of c d (slice_get copies c) (slice_get copies d) refl refl e

  -- chains between copies are chains of the graph
  pub reach_sound : (c d : ℕ) (a b : FnCopy) → slice_get copies c ≡ Some a → slice_get copies d ≡ Some b → reaches_in p copies c d ≡ true → Reaches graph (number a) (number b)
  reach_sound c d a b from to e =
      let r = reached_is c d e in
      let x : r.one ≡ a = some_is r.one a (sym r.from ∙ from) in
      let y : r.two ≡ b = some_is r.two b (sym r.to ∙ to) in
      subst (λ (z : FnCopy). Reaches graph (number a) (number z)) y (subst (λ (z : FnCopy). Reaches graph (number z) (number r.two)) x r.way)

  reach_on : (c d e : ℕ) → reaches_in p copies c d ≡ true → reaches_in p copies d e ≡ true → reaches_in p copies c e ≡ true
  reach_on c d e first next =
      let r = reached_is c d first in
      let s = reached_is d e next in
      let way = reach_sound c d r.one s.one r.from s.from first in
      let chain = chain_joined graph (number r.one) (number s.one) (number s.two) way.0 s.way.0 way.1 s.way.1 in
      let from = copy_is c r.one r.from in
      let to = copy_is e s.two s.to in
      reach_pair c e r.one s.two r.from s.to (way.0 ++ s.way.0) (short r.one from (number s.two) (way.0 ++ s.way.0) (in_graph s.two to) chain) chain

  -- ---- levels
  rising : (c d : ℕ) → IsCall c d → level_in copies c < level_in copies d
  rising c d i =
      let up = rises i.caller i.called (copy_is c i.caller i.from) (copy_is d i.called i.to) i.same i.calls in
      let from : level_in copies c ≡ i.caller.level = ap level_of i.from in
      let to : level_in copies d ≡ i.called.level = ap level_of i.to in
      omega arith

  limited : (c : ℕ) → c < length copies → level_in copies c ≤ limit_of copies (is_inside ((core_of p copies).root c))
  unfolding core_of
  limited c lt =
      let x = is_there copies c lt in
      let most = at_most_highest (is_inside x.0.root) copies c x.0 x.1 (under_itself x.0.root) in
      let here : level_in copies c ≡ x.0.level = ap level_of x.1 in
      subst (λ (o : Option FnCopy). level_of o ≤ highest (is_inside (root_in o)) copies) (sym x.1) most

  outer_within : (n most : ℕ) → root_of p Main ≡ Some n → IsLongest graph n most → highest false copies ≤ most
  outer_within n most e longest = highest_within false most copies (λ k copy is under. level_within copy (copy_is k copy is) n most (ap (root_of p) (outside_main copy.root under) ∙ e) longest)

  inner_within : (n most : ℕ) → root_of p Isr ≡ Some n → IsLongest graph n most → highest true copies ≤ most
  inner_within n most e longest = highest_within true most copies (λ k copy is under. level_within copy (copy_is k copy is) n most (ap (root_of p) (inside_isr copy.root under) ∙ e) longest)

  outer_shallow : highest false copies ≤ 8
  outer_shallow =
      highest_within false 8 copies (λ k copy is under.
      let x = copy_is k copy is in
      let b = bounded copy.root x.number x.entered in
      let level = level_within copy x x.number b.most x.entered b.longest in
      let within = b.within in
      let shallow = has.shallow in
      omega arith)

  depth_is : (h : Option ℕ) → handler_at copies ≡ h → depth_for h (limit_of copies) ≤ 8
  depth_is None e = outer_shallow
  depth_is (Some c) e =
      let there = is_there copies c (inside c e) in
      let root = under_root c there.0 there.1 e in
      let x = copy_is c there.0 there.1 in
      let b = both_bounded graph has.depth (root_of p Main) (root_of p Isr) has.exact x.number (sym (ap (root_of p) root) ∙ x.entered) in
      let outer = outer_within b.main b.outer b.is b.longest in
      let inner = inner_within x.number b.inner (sym (ap (root_of p) root) ∙ x.entered) b.other in
      let within = b.within in
      let shallow = has.shallow in
      omega arith
    where
      isr : (r : Root) → same_root r Isr ≡ true → r ≡ Isr
      isr Main e = absurd (cc)
      isr Isr e = refl

      any : FnCopy
      any = record { function = callees.User 0; root = Main; level = 0 }

      inside : (c : ℕ) → handler_at copies ≡ Some c → c < length copies
      inside c e = (position-Some (λ (x : FnCopy). same_root x.root Isr) copies c any e).0

      under_root : (c : ℕ) (copy : FnCopy) → slice_get copies c ≡ Some copy → handler_at copies ≡ Some c → copy.root ≡ Isr
      under_root c copy is e =
          let at = position-Some (λ (x : FnCopy). same_root x.root Isr) copies c copy e in
          isr copy.root (sym (ap (λ (x : FnCopy). same_root x.root Isr) (at_is copies c copy copy is)) ∙ at.1)

  reach_is : IsReaching p copies
  reach_is = record {
    on = reach_on;
    called = λ c d e. reached_by c d (call_is c d e);
    routine = λ c d op ty h e is at. reached_by c d (use_is c d op ty h e is at);
  }

  levels_are : HasLevels (core_of p copies) copies (limit_of copies) (level_in copies)
  levels_are = record {
    calls = λ c d e. rising c d (call_is c d e);
    helpers = λ c d op ty h e is at. rising c d (use_is c d op ty h e is at);
    within = limited;
  }

pub reach_had : ReachIsHad
reach_had p copies has = reach_is p copies has

pub levels_had : LevelsAreHad
levels_had p copies has = levels_are p copies has

pub depth_had : DepthIsHad
depth_had p copies has = depth_is p copies has (handler_at copies) refl
