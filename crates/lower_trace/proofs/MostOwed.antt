-- A micro-step that doesn't count costs no more than the state before it owes.
use Rattle.std.proofs.Common.{◌≡◌, ℕ, ◌≤◌, List, [], ◌∷◌, length, Some, None, refl, ap, arith}
use Rattle.std.specs.Prelude.{if◌then◌else◌, nat_lt}
use Rattle.c_typed.specs.Trees as tree
use Rattle.c_typed.specs.Trees.{Expression, Place, Item, Statement, Statements, Arms, LastArm, Program}
use Rattle.c_typed.specs.Types.{type_bytes}
use Rattle.src_rules.proofs.Fallen.{unmet, none_left}
use Rattle.src_rules.proofs.Weighing.{some_none}
use Rattle.src_rules.specs.Standing.{ComparesOf, FocusStands}
use Rattle.src_values.specs.Control as control
use Rattle.src_values.specs.Control.{Focus, Got, Nothing, Chosen, One, At, AtWith, Args, Called, Stage, Tests, Begins, Steps, Turns, Picks, InArm, Chooses, Items, Pending, In, To, Doing, Before, Returns, Resumes, read_type, line_at}
use Rattle.src_values.specs.Counting.{counted_line, found_counts_in, found_counts_to, found_counts, value_counts_in, value_counts_to, value_counts, statement_counts, past_counts, blank_counts, label_counts}
use Rattle.src_values.specs.Data.{Datum}
use Rattle.src_values.specs.Values.{written_bytes}
use Rattle.src_values.specs.declared.objects.CopyOf.{CopyOf}
use Rattle.lower_trace.proofs.Prices.{fetch_room, step_room, eval_most, given_most_in, given_most_to, given_most_for, given_most, found_most_in, found_most_to, found_most, begin_most, past_most_for, past_most, skimmed_most, skim_most, wrote_most, copied_most, copy_most, spell_most, counted_room, blank_most, handed_most, left_most, compared_most, most_at}
use Rattle.lower_trace.proofs.Burdens.{if_any, bulk, burden, end_burden_for, end_burden, value_burden_in, value_burden, leave_burden, call_burden, found_burden_in, place_burden_at, fetched_burden, skimmed_burden, stored_burden, copy_burden, compared_burden, load}
use Rattle.lower_trace.proofs.PaidAccesses.{joins_owed}

no_line : (line : ℕ) → Some line ≡ None → ⊥
no_line line e = some_none line e

module _ (p : Program) where
  eval_owes : (e : Expression) → eval_most e ≤ burden p.sizes e
  unfolding burden
  eval_owes (tree.Constant value line) = omega arith
  eval_owes _ = omega arith

  in_owes : (e : Expression) (got : Got) (v : Datum) → value_counts_in e got v ≡ None → given_most_in p.sizes e got ≤ value_burden_in p.sizes e got
  in_owes (tree.Convert operand ty line) Nothing v u = omega arith
  in_owes (tree.Binary op left right ty line) Nothing v u = omega arith
  in_owes (tree.Offset op left right size ty line) Nothing v u = omega arith
  in_owes (tree.Difference left right size line) Nothing v u = omega arith
  in_owes (tree.Logical op left right line) Nothing v u = omega arith
  in_owes (tree.Conditional condition chosen otherwise ty line) Chosen v u = omega arith
  in_owes (tree.Update op place value operation size ty line) (At spot) v u = omega arith
  in_owes (tree.Call function arguments ty line) (Args before more) v u = omega arith
  in_owes (tree.Cast operand ty line) Nothing v u = absurd (no_line line u)
  in_owes (tree.Unary op operand ty line) Nothing v u = absurd (no_line line u)
  in_owes (tree.Binary op left right ty line) (One x) v u = absurd (no_line line u)
  in_owes (tree.Offset op left right size ty line) (One x) v u = absurd (no_line line u)
  in_owes (tree.Difference left right size line) (One x) v u = absurd (no_line line u)
  in_owes (tree.Logical op left right line) (One x) v u = absurd (no_line line u)
  in_owes (tree.Conditional condition chosen otherwise ty line) Nothing v u = absurd (no_line line u)
  in_owes (tree.Comma left right ty line) Nothing v u = absurd (no_line line u)
  in_owes (tree.Assign place value ty line) (At spot) v u = absurd (no_line line u)
  in_owes (tree.Update op place value operation size ty line) (AtWith spot x) v u = absurd (no_line line u)
  in_owes (tree.Step op place operation size ty line) (At spot) v u = absurd (no_line line u)
  in_owes _ _ v u = omega arith

  to_owes : (place : Place) → value_counts_to place ≡ None → given_most_to place ≡ 0
  to_owes (tree.Deref pointer ty line) u = absurd (no_line line u)
  to_owes _ u = refl

  for_owes : (c : CopyOf) (t : Statement) (stage : Stage) (k : List Pending) → given_most_for p.sizes t stage ≤ value_burden p c (Doing t stage ∷ k)
  unfolding value_burden
  for_owes c (tree.If chain otherwise line) (Picks (tree.OneArm condition chosen at) more) k = let j = joins_owed p.sizes chain more otherwise in omega arith
  for_owes c (tree.Loop shape first condition each body line) Begins k = omega arith
  for_owes c (tree.Loop shape first condition each body line) Steps k = omega arith
  for_owes c (tree.Loop shape first (Some condition) each body line) Tests k = omega arith
  for_owes c (tree.Return (Some e) line) Tests k = omega arith
  for_owes c _ _ k = omega arith

  value_owes : (v : Datum) (k : List Pending) (c : CopyOf) → value_counts v k ≡ None → given_most p.sizes k ≤ value_burden p c k
  unfolding value_burden
  value_owes v [] c u = omega arith
  value_owes v (In e got ∷ k) c u = let a = in_owes e got v u in omega arith
  value_owes v (To place ∷ k) c u = let a = to_owes place u in omega arith
  value_owes v (Doing t stage ∷ k) c u = for_owes c t stage k
  value_owes v (Before ss ∷ k) c u = omega arith
  value_owes v (Returns d ∷ k) c u = omega arith
  value_owes v (Resumes d x ∷ k) c u = omega arith

  found_in_owes : (e : Expression) (got : Got) → found_counts_in p e got ≡ None → found_most_in e got ≤ found_burden_in p.sizes e got
  found_in_owes (tree.Address place ty line) Nothing u = omega arith
  found_in_owes (tree.StructAssign place from size line) (At to) u = absurd (no_line line u)
  found_in_owes (tree.Step op place operation size ty line) Nothing u = omega arith
  found_in_owes _ _ u = omega arith

  found_to_owes : (place : Place) → found_counts_to place ≡ None → found_most_to place ≡ 0
  found_to_owes (tree.Member whole member offset ty line) u = absurd (no_line line u)
  found_to_owes _ u = refl

  found_owes : (k : List Pending) (c : CopyOf) → found_counts p k ≡ None → found_most k ≤ place_burden_at p c k
  found_owes [] c u = omega arith
  found_owes (In e got ∷ k) c u = let a = found_in_owes e got u in omega arith
  found_owes (To place ∷ k) c u = let a = found_to_owes place u in omega arith
  found_owes (Doing t stage ∷ k) c u = omega arith
  found_owes (Before ss ∷ k) c u = omega arith
  found_owes (Returns d ∷ k) c u = omega arith
  found_owes (Resumes d x ∷ k) c u = omega arith

  begin_owes : (t : Statement) → statement_counts t ≡ None → begin_most t ≡ 0
  begin_owes (tree.Declare local line) u = refl
  begin_owes (tree.InitScalar local e line) u = refl
  begin_owes (tree.InitList local all line) u = refl
  begin_owes (tree.Block ss line) u = absurd (no_line line u)
  begin_owes (tree.Empty line) u = absurd (no_line line u)
  begin_owes (tree.Expr e line) u = absurd (no_line line u)
  begin_owes (tree.If chain otherwise line) u = absurd (no_line line u)
  begin_owes (tree.Loop shape first condition each body line) u = absurd (no_line line u)
  begin_owes (tree.Switch e cases default ss line) u = absurd (no_line line u)
  begin_owes (tree.Break line) u = absurd (no_line line u)
  begin_owes (tree.Continue line) u = absurd (no_line line u)
  begin_owes (tree.Return e line) u = absurd (no_line line u)

  past_for_owes : (t : Statement) (stage : Stage) → past_most_for t stage ≤ end_burden_for p.sizes t stage
  past_for_owes (tree.Loop shape first condition each body line) Turns = omega arith
  past_for_owes (tree.Switch e cases default ss line) Turns = omega arith
  past_for_owes (tree.If chain otherwise line) (InArm more) = omega arith
  past_for_owes _ _ = omega arith

  past_owes : (k : List Pending) (c : CopyOf) → past_counts p c k ≡ None → past_most k ≤ end_burden p c k
  unfolding end_burden
  past_owes [] c u = absurd (some_none _ u)
  past_owes (In e got ∷ k) c u = omega arith
  past_owes (To place ∷ k) c u = omega arith
  past_owes (Doing t stage ∷ k) c u = let a = past_for_owes t stage in omega arith
  past_owes (Before ss ∷ k) c u = omega arith
  past_owes (Returns d ∷ k) c u = absurd (some_none _ u)
  past_owes (Resumes d x ∷ k) c u = absurd (some_none _ u)

  fetch_owes : (k : List Pending) (c : CopyOf) → 27 ≤ fetched_burden p c k
  fetch_owes (In e got ∷ k) c = omega arith
  fetch_owes _ c = omega arith

  skim_owes : (k : List Pending) (c : CopyOf) → skimmed_most p.sizes k ≤ skimmed_burden p c k
  skim_owes (In (tree.Read place ty line) got ∷ k) c = omega arith
  skim_owes _ c = omega arith

  write_owes : (k : List Pending) (c : CopyOf) → wrote_most k ≤ stored_burden p c 28 k
  write_owes (In e got ∷ k) c = omega arith
  write_owes _ c = omega arith

  copy_owes : (k : List Pending) (c : CopyOf) → copied_most k ≤ copy_burden p c k
  copy_owes (In e got ∷ k) c = omega arith
  copy_owes (Doing t (Items (tree.Struct offset from size) rest) ∷ k) c = omega arith
  copy_owes _ c = omega arith

  handed_owes : (k : List Pending) (c : CopyOf) → handed_most p.sizes k ≤ call_burden p c k
  unfolding value_burden
  handed_owes (In (tree.Call function arguments ty line) Called ∷ k) c = omega arith
  handed_owes _ c = omega arith

  leave_owes : (k : List Pending) (c : CopyOf) → left_most p.sizes k ≤ leave_burden p c k
  unfolding value_burden
  leave_owes (Returns d ∷ k) c = handed_owes k d
  leave_owes _ c = omega arith

  compare_owes : (k : List Pending) (c : CopyOf) (ty : _) (labels : _) → ComparesOf k ty labels → 4 ≤ compared_burden p c k
  compare_owes (Doing (tree.Switch e cases default ss line) Chooses ∷ k) c ty labels h = omega arith
  compare_owes _ c ty labels h = absurd h

  compared_line : (labels : _) → label_counts labels ≡ None → compared_most labels ≡ 4
  compared_line [] u = refl
  compared_line (label ∷ labels) u = absurd (some_none label.line u)

  blank_owes : (at left : ℕ) (k : List Pending) → blank_counts p at left k ≡ None → blank_most p at left k ≡ 0
  blank_owes at left (Doing t stage ∷ k) u = ap counted_room u
  blank_owes at left _ u = refl

  pub most_owed : (x : Focus) (k : List Pending) (c : CopyOf) → FocusStands p c x k → counted_line p c x k ≡ None → most_at p x k ≤ load p c x k
  unfolding counted_line
  most_owed (control.Eval e) k c f u = let a = eval_owes e in omega arith
  most_owed (control.Find place) k c f u = omega arith
  most_owed (control.Holds v) k c f u = value_owes v k c u
  most_owed (control.Found spot) k c f u = found_owes k c u
  most_owed (control.Run t) k c f u = let a = begin_owes t u in omega arith
  most_owed control.Past k c f u = past_owes k c u
  most_owed (control.Fetch spot read) k c f u = let e = ap (λ b. if b then fetch_room else 27) (unmet (nat_lt (length read) (type_bytes p.sizes (read_type k))) (line_at k) u) in let g = ap (λ b. if b then bulk p c k else fetched_burden p c k) (unmet (nat_lt (length read) (type_bytes p.sizes (read_type k))) (line_at k) u) in let a = fetch_owes k c in omega arith
  most_owed (control.Skim spot left byte) k c f u = let e = ap (λ j. skim_most p.sizes j k) (none_left left (line_at k) u) in let g = ap (λ j. if_any j (bulk p c k) (skimmed_burden p c k)) (none_left left (line_at k) u) in let a = skim_owes k c in omega arith
  most_owed (control.Write spot v at) k c f u = let e = ap (λ b. if b then step_room else wrote_most k) (unmet (nat_lt at (written_bytes spot v)) (line_at k) u) in let g = ap (λ b. if b then bulk p c k else stored_burden p c 28 k) (unmet (nat_lt at (written_bytes spot v)) (line_at k) u) in let a = write_owes k c in omega arith
  most_owed (control.PutBit register number v old) k c f u = absurd (some_none (line_at k) u)
  most_owed (control.CopyRead to from left) k c f u = let e = ap (λ j. copy_most j k) (none_left left (line_at k) u) in let g = ap (λ j. if_any j (bulk p c k) (copy_burden p c k)) (none_left left (line_at k) u) in let a = copy_owes k c in omega arith
  most_owed (control.CopyWrite to from byte left) k c f u = absurd (some_none (line_at k) u)
  most_owed (control.Spell spot text left) k c f u = let e = ap (λ j. spell_most j) (none_left left (line_at k) u) in omega arith
  most_owed (control.Blank at left) k c f u = let e = blank_owes at left k u in omega arith
  most_owed control.Calls k c f u = absurd (some_none (line_at k) u)
  most_owed (control.Leaves v) k c f u = leave_owes k c
  most_owed (control.Compares v labels) k c f u = let e = compared_line labels u in let a = compare_owes k c f.0 labels f.1 in omega arith
  most_owed control.Over k c f u = omega arith
