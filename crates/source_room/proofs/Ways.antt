-- The stack is within the longest ways along calls, main's and the handler's.
use Rattle.std.proofs.Common.{◌≡◌, ℕ, ◌+◌, ◌<◌, ◌≤◌, List, [], ◌∷◌, length, sym, ap, ◌∙◌, arith}
use Rattle.c_typed.specs.Trees.{Program}
use Rattle.pic_world.specs.declared.Root.TheVariants.{Main}
use Rattle.source_room.proofs.Rooms.{depth_sizes, by_depth, Sized}
use Rattle.source_room.proofs.Roomy.{depths_count}
use Rattle.source_room.proofs.Shallow.{moment_sized}
use Rattle.source_room.specs.Depth.{function_depth}
use Rattle.source_room.specs.Laws.{AreWays, handlers_way, StackIsWithinWays}
use Rattle.src_rules.proofs.Bounds.{budget, within}
use Rattle.src_rules.proofs.Distinct.{caller_calls, main_is_no_handler}
use Rattle.src_rules.proofs.Moments.{moments}
use Rattle.src_rules.specs.Laws.{entries}
use Rattle.src_rules.specs.Runs.{moment}
use Rattle.src_rules.specs.Standing.{StackStands, Stands}
use Rattle.src_rules.specs.State.{State}
use Rattle.src_values.specs.Control.{Pending, In, To, Doing, Before, Returns, Resumes}
use Rattle.src_values.specs.Objects.{function_at, handler_in, main_of}
use Rattle.src_values.specs.declared.objects.CopyOf.{CopyOf}

-- what the copies that wait need
unfoldable pub rest : Program → List Pending → ℕ
rest p [] = 0
rest p (In e got ∷ k) = rest p k
rest p (To place ∷ k) = rest p k
rest p (Doing t stage ∷ k) = rest p k
rest p (Before ss ∷ k) = rest p k
rest p (Returns d ∷ k) = function_depth (function_at p d.function) + rest p k
rest p (Resumes d x ∷ k) = function_depth (function_at p d.function) + rest p k

pub budget_rest : (p : Program) (k : List Pending) (c : CopyOf) → budget p depth_sizes c k ≤ function_depth (function_at p c.function) + rest p k
unfolding budget rest
budget_rest p [] c = omega arith
budget_rest p (In e got ∷ k) c = budget_rest p k c
budget_rest p (To place ∷ k) c = budget_rest p k c
budget_rest p (Doing t stage ∷ k) c = budget_rest p k c
budget_rest p (Before ss ∷ k) c = budget_rest p k c
budget_rest p (Returns d ∷ k) c = let i = budget_rest p k d in omega arith
budget_rest p (Resumes d x ∷ k) c = let i = budget_rest p k d in omega arith

module _ (p : Program) (way : ℕ → ℕ) (ways : AreWays p way) where
  -- the copies below main's
  mains_way : (k : List Pending) (c : CopyOf) → StackStands p c k → c.function < length p.functions → c.root ≡ Main → rest p k + way c.function ≤ way (main_of p)
  unfolding rest
  mains_way [] c st there m = let e : way c.function ≡ way (main_of p) = ap (λ x. way x.function) st in omega arith
  mains_way (In e got ∷ k) c st there m = mains_way k c st.3 there m
  mains_way (To place ∷ k) c st there m = mains_way k c st.2 there m
  mains_way (Doing t stage ∷ k) c st there m = mains_way k c st.3 there m
  mains_way (Before ss ∷ k) c st there m = mains_way k c st.2 there m
  mains_way (Returns d ∷ k) c st there m =
      let i = mains_way k d st.3 st.0.there (sym st.1 ∙ m) in
      let a = ways.called d.function c.function st.0.there there (caller_calls p d c.function k st.2 st.3) in
      omega arith
  mains_way (Resumes d x ∷ k) c st there m = absurd (main_is_no_handler p c st.2.0 m st.2.2)

  -- the copies below any
  all_ways : (k : List Pending) (c : CopyOf) → StackStands p c k → c.function < length p.functions → rest p k + way c.function ≤ way (main_of p) + handlers_way way (handler_in p)
  unfolding rest
  all_ways [] c st there = let e : way c.function ≡ way (main_of p) = ap (λ x. way x.function) st in omega arith
  all_ways (In e got ∷ k) c st there = all_ways k c st.3 there
  all_ways (To place ∷ k) c st there = all_ways k c st.2 there
  all_ways (Doing t stage ∷ k) c st there = all_ways k c st.3 there
  all_ways (Before ss ∷ k) c st there = all_ways k c st.2 there
  all_ways (Returns d ∷ k) c st there =
      let i = all_ways k d st.3 st.0.there in
      let a = ways.called d.function c.function st.0.there there (caller_calls p d c.function k st.2 st.3) in
      omega arith
  all_ways (Resumes d x ∷ k) c st there =
      let i = mains_way k d st.4 st.0.there st.1 in
      let a = ways.own d.function st.0.there in
      let e : way c.function ≡ way st.2.0 = ap (λ y. way y.function) st.2.2 in
      let g : handlers_way way (handler_in p) ≡ way st.2.0 = ap (handlers_way way) st.2.1 in
      omega arith

  stack_within : (t : State) → Stands p t → Sized p t.copy t.stack → entries t.stack ≤ way (main_of p) + handlers_way way (handler_in p)
  stack_within t h z =
      let a = within p by_depth depths_count t.stack t.copy z in
      let b = budget_rest p t.stack t.copy in
      let i = all_ways t.stack t.copy h.stack h.reached.there in
      let o = ways.own t.copy.function h.reached.there in
      omega arith

pub within_ways : StackIsWithinWays
within_ways s h o way ways n = stack_within s.program way ways (moment s n) (moments s h o n).0 (moment_sized s h o n)
