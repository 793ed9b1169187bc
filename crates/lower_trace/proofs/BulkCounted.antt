-- Where the next micro-step counts, what is owed is no less than what stands for the functions under way.
use Rattle.std.proofs.Common.{◌≡◌, ℕ, zero, suc, ◌≤◌, Bool, true, false, List, [], ◌∷◌, length, Option, Some, None, refl, sym, ap, arith}
use Rattle.std.proofs.lemmas.Bool.{false≢true}
use Rattle.std.specs.Prelude.{if◌then◌else◌, is_some, nat_lt, not}
use Rattle.c_typed.specs.Trees as tree
use Rattle.c_typed.specs.Trees.{Expression, Place, Statement, Program}
use Rattle.c_typed.specs.Types.{type_bytes, place_type}
use Rattle.src_rules.specs.Standing.{ComparesOf, Spells, BlanksOf, FocusStands}
use Rattle.src_rules.specs.Step.{is_some_line}
use Rattle.src_values.specs.Control as control
use Rattle.src_values.specs.Control.{Focus, Got, Nothing, Chosen, Stage, Chooses, Items, Blanks, Pending, In, To, Doing, Before, Returns, Resumes, read_type, line_at}
use Rattle.src_values.specs.Counting.{any_left, is_operator, counted_if, counted_line, found_counts_in, found_counts, value_counts_in, value_counts}
use Rattle.src_values.specs.Data.{Datum}
use Rattle.src_values.specs.Values.{written_bytes}
use Rattle.src_values.specs.declared.objects.CopyOf.{CopyOf}
use Rattle.lower_trace.proofs.Burdens.{if_any, bulk, either, hands_on, leads_on, value_burden, place_burden_at, stored_burden, skimmed_burden, copy_burden, fetched_burden, compared_burden, load}
use Rattle.lower_trace.proofs.PaidExpressions.{bulk_end}

module _ (p : Program) where
  -- what is handed on or leads on doesn't count
  handed_free : (e : Expression) (got : Got) (v : Datum) → hands_on e got ≡ true → value_counts_in e got v ≡ None
  handed_free (tree.Convert operand ty line) Nothing v h = refl
  handed_free (tree.Conditional condition chosen otherwise ty line) Chosen v h = refl
  handed_free _ _ v h = absurd (false≢true h)

  unless : (b : Bool) (line : ℕ) → not b ≡ true → counted_if b line ≡ None
  unless true line h = absurd (false≢true h)
  unless false line h = refl

  led_free : (e : Expression) (got : Got) → leads_on p e got ≡ true → found_counts_in p e got ≡ None
  led_free (tree.Read place ty line) Nothing h = refl
  led_free (tree.Address place ty line) Nothing h = unless (is_operator p (place_type place).ty ty) line h
  led_free _ _ h = absurd (false≢true h)

  not_both : {A : Type 0} (o : Option ℕ) → o ≡ None → is_some_line o ≡ true → A
  not_both (Some line) e h = absurd (false≢true (sym (ap is_some e)))
  not_both None e h = absurd (false≢true h)

  value_in_counts : (b : Bool) (e : Expression) (got : Got) (v : Datum) (k : List Pending) (c : CopyOf) → hands_on e got ≡ b → is_some_line (value_counts_in e got v) ≡ true → bulk p c k ≤ value_burden p c (In e got ∷ k)
  unfolding value_burden
  value_in_counts true e got v k c is h = not_both (value_counts_in e got v) (handed_free e got v is) h
  value_in_counts false e got v k c is h = let d = ap (λ b. either b (value_burden p c k) (bulk p c k)) is in omega arith

  found_in_counts : (b : Bool) (e : Expression) (got : Got) (k : List Pending) (c : CopyOf) → leads_on p e got ≡ b → is_some_line (found_counts_in p e got) ≡ true → bulk p c k ≤ place_burden_at p c (In e got ∷ k)
  found_in_counts true e got k c is h = not_both (found_counts_in p e got) (led_free e got is) h
  found_in_counts false e got k c is h = let d = ap (λ b. either b (value_burden p c k) (bulk p c k)) is in omega arith

  value_counted : (v : Datum) (k : List Pending) (c : CopyOf) → is_some_line (value_counts v k) ≡ true → bulk p c k ≤ value_burden p c k
  unfolding value_burden bulk
  value_counted v [] c h = omega arith
  value_counted v (In e got ∷ k) c h = value_in_counts (hands_on e got) e got v k c refl h
  value_counted v (To place ∷ k) c h = omega arith
  value_counted v (Doing t stage ∷ k) c h = absurd (false≢true h)
  value_counted v (Before ss ∷ k) c h = omega arith
  value_counted v (Returns d ∷ k) c h = omega arith
  value_counted v (Resumes d x ∷ k) c h = omega arith

  found_counted : (k : List Pending) (c : CopyOf) → is_some_line (found_counts p k) ≡ true → bulk p c k ≤ place_burden_at p c k
  unfolding bulk
  found_counted [] c h = absurd (false≢true h)
  found_counted (In e got ∷ k) c h = found_in_counts (leads_on p e got) e got k c refl h
  found_counted (To place ∷ k) c h = omega arith
  found_counted (Doing t stage ∷ k) c h = absurd (false≢true h)
  found_counted (Before ss ∷ k) c h = absurd (false≢true h)
  found_counted (Returns d ∷ k) c h = absurd (false≢true h)
  found_counted (Resumes d x ∷ k) c h = absurd (false≢true h)

  met_more : (b : Bool) (line x y : ℕ) → is_some_line (counted_if b line) ≡ true → x ≤ (if b then x else y)
  met_more true line x y h = omega arith
  met_more false line x y h = absurd (false≢true h)

  any_more : (left line x y : ℕ) → is_some_line (any_left left line) ≡ true → x ≤ if_any left x y
  any_more zero line x y h = absurd (false≢true h)
  any_more (suc left) line x y h = omega arith

  doing_more : (t : Statement) (stage : Stage) (k : List Pending) (c : CopyOf) → bulk p c (Doing t stage ∷ k) ≤ stored_burden p c 0 (Doing t stage ∷ k)
  unfolding bulk
  doing_more t stage k c = let d = bulk_end p c k in omega arith

  spelled_more : (k : List Pending) (c : CopyOf) (start : _) (text : List ℕ) (size : ℕ) → Spells p c k start text size → bulk p c k ≤ stored_burden p c 0 k
  spelled_more (Doing t stage ∷ k) c start text size h = doing_more t stage k c
  spelled_more [] c start text size h = absurd h
  spelled_more (In e got ∷ k) c start text size h = absurd h
  spelled_more (To place ∷ k) c start text size h = absurd h
  spelled_more (Before ss ∷ k) c start text size h = absurd h
  spelled_more (Returns d ∷ k) c start text size h = absurd h
  spelled_more (Resumes d x ∷ k) c start text size h = absurd h

  blanked_more : (k : List Pending) (c : CopyOf) (size : ℕ) → BlanksOf p c k size → bulk p c k ≤ stored_burden p c 0 k
  blanked_more (Doing t stage ∷ k) c size h = doing_more t stage k c
  blanked_more [] c size h = absurd h
  blanked_more (In e got ∷ k) c size h = absurd h
  blanked_more (To place ∷ k) c size h = absurd h
  blanked_more (Before ss ∷ k) c size h = absurd h
  blanked_more (Returns d ∷ k) c size h = absurd h
  blanked_more (Resumes d x ∷ k) c size h = absurd h

  compared_more : (k : List Pending) (c : CopyOf) (ty : _) (labels : _) → ComparesOf k ty labels → bulk p c k ≤ compared_burden p c k
  unfolding bulk
  compared_more (Doing t stage ∷ k) c ty labels h = let d = bulk_end p c k in omega arith
  compared_more [] c ty labels h = absurd h
  compared_more (In e got ∷ k) c ty labels h = absurd h
  compared_more (To place ∷ k) c ty labels h = absurd h
  compared_more (Before ss ∷ k) c ty labels h = absurd h
  compared_more (Returns d ∷ k) c ty labels h = absurd h
  compared_more (Resumes d x ∷ k) c ty labels h = absurd h

  pub bulk_counted : (x : Focus) (k : List Pending) (c : CopyOf) → FocusStands p c x k → is_some_line (counted_line p c x k) ≡ true → bulk p c k ≤ load p c x k
  unfolding counted_line
  bulk_counted (control.Eval e) k c f u = absurd (false≢true u)
  bulk_counted (control.Find place) k c f u = absurd (false≢true u)
  bulk_counted (control.Holds v) k c f u = value_counted v k c u
  bulk_counted (control.Found spot) k c f u = found_counted k c u
  bulk_counted (control.Run t) k c f u = let d = bulk_end p c k in omega arith
  bulk_counted control.Past k c f u = bulk_end p c k
  bulk_counted (control.Fetch spot read) k c f u = met_more (nat_lt (length read) (type_bytes p.sizes (read_type k))) (line_at k) (bulk p c k) (fetched_burden p c k) u
  bulk_counted (control.Skim spot left byte) k c f u = any_more left (line_at k) (bulk p c k) (skimmed_burden p c k) u
  bulk_counted (control.Write spot v at) k c f u = met_more (nat_lt at (written_bytes spot v)) (line_at k) (bulk p c k) (stored_burden p c 28 k) u
  bulk_counted (control.PutBit register number v old) k c f u = omega arith
  bulk_counted (control.CopyRead to from left) k c f u = any_more left (line_at k) (bulk p c k) (copy_burden p c k) u
  bulk_counted (control.CopyWrite to from byte left) k c f u = omega arith
  bulk_counted (control.Spell spot text left) k c f u = spelled_more k c f.start f.whole f.size f.node
  bulk_counted (control.Blank at left) k c f u = blanked_more k c f.0 f.1
  bulk_counted control.Calls k c f u = omega arith
  bulk_counted (control.Leaves v) k c f u = absurd (false≢true u)
  bulk_counted (control.Compares v labels) k c f u = compared_more k c f.0 labels f.1
  bulk_counted control.Over k c f u = omega arith
