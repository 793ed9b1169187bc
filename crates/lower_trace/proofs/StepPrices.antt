-- Bounds of what a micro-step may cost byte code: one that counts no more than `step_room`, and one that doesn't no more than 600.
use Rattle.std.proofs.Common.{◌≡◌, ℕ, zero, suc, ◌+◌, ◌-◌, ◌*◌, ◌<◌, ◌≤◌, Bool, true, false, if◌then◌else◌, List, [], ◌∷◌, length, Option, Some, None, ap, arith}
use Rattle.std.proofs.lemmas.Bool.{false≢true}
use Rattle.std.specs.List.{All}
use Rattle.std.specs.Prelude.{nat_eq, nat_lt}
use Rattle.c_typed.specs.Room.{room}
use Rattle.c_typed.specs.Trees as tree
use Rattle.c_typed.specs.Trees.{Expression, Place, Statement, Arms, LastArm, Program}
use Rattle.c_typed.specs.Types.{type_bytes, type_of, value_bytes, form_of}
use Rattle.c_typed.specs.Words.{convert_words, address_words, computed_words, struct_words}
use Rattle.c_typed.specs.declared.expression.PlaceForm.{PlaceForm}
use Rattle.c_typed.specs.declared.expression.PlaceForm.TheVariants as forms
use Rattle.c_typed.specs.declared.statement.LoopForm.{LoopForm}
use Rattle.c_typed.specs.declared.statement.LoopForm.TheVariants.{While, Do, For}
use Rattle.c_typed.specs.declared.statement.TCase.{TCase}
use Rattle.c_typed.specs.declared.types.Ty.{Ty}
use Rattle.lower_stmt.specs.Labels.{has}
use Rattle.src_rules.proofs.Weighing.{some_none}
use Rattle.src_rules.specs.Parts.{IsExpressionOf}
use Rattle.src_rules.specs.Standing.{IsReached, FocusStands, StackStands, WaitsIn, WaitsTo, WaitsForPlace}
use Rattle.src_rules.specs.Step.{is_some_line}
use Rattle.src_values.specs.Control as control
use Rattle.src_values.specs.Control.{Focus, Got, Nothing, Chosen, One, At, AtWith, Args, Called, Stage, Tests, Begins, Steps, Turns, Picks, InArm, Items, Pending, In, To, Doing, Before, Returns, Resumes, read_type, line_at}
use Rattle.src_values.specs.Counting.{counted_if, any_left, counted_line, found_counts_in, found_counts, value_counts_in, value_counts_to, value_counts, statement_counts, past_counts, blank_counts, label_counts}
use Rattle.src_values.specs.Data.{Datum}
use Rattle.src_values.specs.Values.{written_bytes}
use Rattle.src_values.specs.declared.objects.CopyOf.{CopyOf}
use Rattle.lower_trace.specs.Lowering.{IsLowerable}
use Rattle.lower_trace.proofs.Choosing.{end_joins}
use Rattle.lower_trace.proofs.CodeLeft.{Scene, Switched, arm_count, index_in, labels_in, switch_on}
use Rattle.lower_trace.proofs.Falling.{falling}
use Rattle.lower_trace.proofs.Fitting.{StackFits}
use Rattle.lower_trace.proofs.Known.{small}
use Rattle.lower_trace.proofs.LedCalls.{scalar_few}
use Rattle.lower_trace.proofs.LedValues.{int_some}
use Rattle.lower_trace.proofs.Prices.{step_room, fetch_room, eval_most, given_most_in, given_most_for, given_most, turned_most, turn_most, found_most_in, found_most, begin_most, past_most_for, past_most, skim_end, skimmed_most, skim_most, wrote_most, copied_most, copy_most, spell_most, counted_room, blank_most, handed_most, left_most, compared_most, most_at}
use Rattle.lower_trace.proofs.Rooms.{three_parts, value_room}

-- The chain of an `if` that is under way has no more arms than a page has room for.
abbrev pub FewArms : List Pending → Type 0
FewArms (Doing (tree.If chain otherwise line) stage ∷ k) = arm_count chain ≤ 102
FewArms _ = Unit {0}

-- ---- prices of parts
convert_few : (a b : ℕ) → convert_words a b ≤ 8 + 4 * b
convert_few a b = by (nat_lt a b)
  where
    by : (t : Bool) → (if t then 8 + 4 * (b - a) else 0) ≤ 8 + 4 * b
    by true = omega arith
    by false = omega arith

address_few : (f : PlaceForm) → address_words f ≤ 8
address_few forms.Fixed = omega arith
address_few forms.Bit = omega arith
address_few forms.Computed = omega arith

computed_few : (f : PlaceForm) → computed_words f ≤ 14
computed_few forms.Fixed = omega arith
computed_few forms.Bit = omega arith
computed_few forms.Computed = omega arith

struct_end : (f : PlaceForm) → struct_words forms.Fixed f 0 ≤ 8
struct_end forms.Fixed = omega arith
struct_end forms.Bit = omega arith
struct_end forms.Computed = omega arith

turned_few : (shape : LoopForm) (step : Option Expression) → turned_most shape step ≤ 8
turned_few While step = omega arith
turned_few Do None = omega arith
turned_few Do (Some e) = omega arith
turned_few For None = omega arith
turned_few For (Some e) = omega arith

turn_few : (shape : LoopForm) → turn_most shape ≤ 4
turn_few While = omega arith
turn_few Do = omega arith
turn_few For = omega arith

joins_few : (chain more : Arms) (otherwise : LastArm) → end_joins chain more otherwise ≤ 4 * arm_count chain
joins_few chain tree.NoArm tree.NoLast = omega arith
joins_few chain tree.NoArm (tree.Last t) = omega arith
joins_few chain (tree.AndArm arm more) otherwise = omega arith

falling_few : (o : Option Switched) (ss : tree.Statements) → falling o ss ≤ 4
falling_few None ss = omega arith
falling_few (Some x) ss = by (has (labels_in x) (index_in x ss))
  where
    by : (b : Bool) → (if b then 4 else 0) ≤ 4
    by true = omega arith
    by false = omega arith

-- ---- bytes that may be left
met : (b : Bool) (line most : ℕ) → most ≤ 600 → counted_if b line ≡ None → (if b then step_room else most) ≤ 600
met true line most le e = absurd (some_none line e)
met false line most le e = le

met_or_not : (b : Bool) (most : ℕ) → most ≤ 600 → (if b then step_room else most) ≤ step_room
met_or_not true most le = omega arith
met_or_not false most le = omega arith

fetch_few : (b : Bool) (most : ℕ) → 30 ≤ most → (if b then fetch_room else 27) ≤ most
fetch_few true most le = le
fetch_few false most le = omega arith

wrote_few : (k : List Pending) → wrote_most k ≤ 28
wrote_few (In e got ∷ k) = omega arith
wrote_few _ = omega arith

begin_few : (t : Statement) → begin_most t ≤ step_room
begin_few (tree.Declare local line) = omega arith
begin_few (tree.InitScalar local e line) = omega arith
begin_few (tree.InitList local all line) = omega arith
begin_few (tree.Return None line) = omega arith
begin_few (tree.Return (Some e) line) = omega arith
begin_few _ = omega arith

begin_free : (t : Statement) → statement_counts t ≡ None → begin_most t ≤ 600
begin_free (tree.Declare local line) u = omega arith
begin_free (tree.InitScalar local e line) u = omega arith
begin_free (tree.InitList local all line) u = omega arith
begin_free (tree.Block ss line) u = absurd (some_none line u)
begin_free (tree.Empty line) u = absurd (some_none line u)
begin_free (tree.Expr e line) u = absurd (some_none line u)
begin_free (tree.If chain otherwise line) u = absurd (some_none line u)
begin_free (tree.Loop shape first condition step body line) u = absurd (some_none line u)
begin_free (tree.Switch e cases default ss line) u = absurd (some_none line u)
begin_free (tree.Break line) u = absurd (some_none line u)
begin_free (tree.Continue line) u = absurd (some_none line u)
begin_free (tree.Return e line) u = absurd (some_none line u)

room_or : (o : Option ℕ) → counted_room o ≤ step_room
room_or None = omega arith
room_or (Some line) = omega arith

blank_few : (p : Program) (at left : ℕ) (k : List Pending) → blank_most p at left k ≤ step_room
blank_few p at left (Doing t stage ∷ k) = room_or (blank_counts p at left (Doing t stage ∷ k))
blank_few p at left _ = omega arith

blank_free : (p : Program) (at left : ℕ) (k : List Pending) → blank_counts p at left k ≡ None → blank_most p at left k ≤ 600
blank_free p at left (Doing t stage ∷ k) u = let e = ap counted_room u in omega arith
blank_free p at left _ u = omega arith

-- ---- places that were found
found_in_few : (e : Expression) (got : Got) → found_most_in e got ≤ step_room
found_in_few (tree.Address place ty line) Nothing = let a = address_few (form_of place) in omega arith
found_in_few (tree.StructAssign place from size line) (At to) = omega arith
found_in_few (tree.Step op place operation size ty line) Nothing = omega arith
found_in_few _ _ = omega arith

found_in_free : (p : Program) (e : Expression) (got : Got) → found_counts_in p e got ≡ None → found_most_in e got ≤ 600
found_in_free p (tree.Address place ty line) Nothing u = let a = address_few (form_of place) in omega arith
found_in_free p (tree.StructAssign place from size line) (At to) u = absurd (some_none line u)
found_in_free p (tree.Step op place operation size ty line) Nothing u = omega arith
found_in_free p _ _ u = omega arith

found_few : (k : List Pending) → found_most k ≤ step_room
found_few (In e got ∷ k) = found_in_few e got
found_few (To (tree.Member whole member offset ty line) ∷ k) = omega arith
found_few (To _ ∷ k) = omega arith
found_few _ = omega arith

found_free : (p : Program) (k : List Pending) (place : Place) → WaitsForPlace k place → found_counts p k ≡ None → found_most k ≤ 600
found_free p (In e got ∷ k) place seeks u = found_in_free p e got u
found_free p (To (tree.Member whole member offset ty line) ∷ k) place seeks u = absurd (some_none line u)
found_free p (To _ ∷ k) place seeks u = absurd seeks
found_free p _ place seeks u = omega arith

-- ---- values that are given
module _ (p : Program) (f : ℕ) where
  in_few : (e : Expression) (got : Got) → IsExpressionOf p f e → room p.sizes e ≤ 96 → (given_most_in p.sizes e got ≤ step_room)
  unfolding room
  in_few (tree.Convert operand ty line) Nothing h le = let v = value_room p f (tree.Convert operand ty line) h in let c = convert_few (value_bytes p.sizes operand) (type_bytes p.sizes ty) in omega arith
  in_few (tree.Cast operand ty line) Nothing h le = omega arith
  in_few (tree.Unary op operand ty line) Nothing h le = omega arith
  in_few (tree.Binary op left right ty line) Nothing h le = omega arith
  in_few (tree.Binary op left right ty line) (One u) h le = omega arith
  in_few (tree.Offset op left right size ty line) Nothing h le = omega arith
  in_few (tree.Offset op left right size ty line) (One u) h le = omega arith
  in_few (tree.Difference left right size line) Nothing h le = omega arith
  in_few (tree.Difference left right size line) (One u) h le = omega arith
  in_few (tree.Logical op left right line) Nothing h le = let v = value_room p f left h.1 in let q = (three_parts (room p.sizes left) (room p.sizes right) 2).0 in omega arith
  in_few (tree.Logical op left right line) (One u) h le = omega arith
  in_few (tree.Conditional condition chosen otherwise ty line) Nothing h le = omega arith
  in_few (tree.Conditional condition chosen otherwise ty line) Chosen h le = omega arith
  in_few (tree.Comma left right ty line) Nothing h le = omega arith
  in_few (tree.Assign place value ty line) (At spot) h le = omega arith
  in_few (tree.Update op place value operation size ty line) (At spot) h le = omega arith
  in_few (tree.Update op place value operation size ty line) (AtWith spot u) h le = omega arith
  in_few (tree.Step op place operation size ty line) (At spot) h le = omega arith
  in_few (tree.Call g arguments ty line) (Args before more) h le = omega arith
  in_few _ _ h le = omega arith

  in_free : (e : Expression) (got : Got) (v : Datum) (ty : Ty) → IsExpressionOf p f e → room p.sizes e ≤ 96 → WaitsIn e got ty → value_counts_in e got v ≡ None → given_most_in p.sizes e got ≤ 600
  unfolding room
  in_free (tree.Convert operand t line) Nothing v ty h le w u = let v = value_room p f (tree.Convert operand t line) h in let c = convert_few (value_bytes p.sizes operand) (type_bytes p.sizes t) in omega arith
  in_free (tree.Cast operand t line) Nothing v ty h le w u = absurd (some_none line u)
  in_free (tree.Unary op operand t line) Nothing v ty h le w u = absurd (some_none line u)
  in_free (tree.Binary op left right t line) Nothing v ty h le w u = omega arith
  in_free (tree.Binary op left right t line) (One x) v ty h le w u = absurd (some_none line u)
  in_free (tree.Offset op left right size t line) Nothing v ty h le w u = omega arith
  in_free (tree.Offset op left right size t line) (One x) v ty h le w u = absurd (some_none line u)
  in_free (tree.Difference left right size line) Nothing v ty h le w u = omega arith
  in_free (tree.Difference left right size line) (One x) v ty h le w u = absurd (some_none line u)
  in_free (tree.Logical op left right line) Nothing v ty h le w u = let v = value_room p f left h.1 in let q = (three_parts (room p.sizes left) (room p.sizes right) 2).0 in omega arith
  in_free (tree.Logical op left right line) (One x) v ty h le w u = absurd (some_none line u)
  in_free (tree.Conditional condition chosen otherwise t line) Nothing v ty h le w u = absurd (some_none line u)
  in_free (tree.Conditional condition chosen otherwise t line) Chosen v ty h le w u = omega arith
  in_free (tree.Comma left right t line) Nothing v ty h le w u = absurd (some_none line u)
  in_free (tree.Assign place value t line) (At spot) v ty h le w u = absurd (some_none line u)
  in_free (tree.Update op place value operation size t line) (At spot) v ty h le w u = omega arith
  in_free (tree.Update op place value operation size t line) (AtWith spot x) v ty h le w u = absurd (some_none line u)
  in_free (tree.Step op place operation size t line) (At spot) v ty h le w u = absurd (some_none line u)
  in_free (tree.Call g arguments t line) (Args before more) v ty h le w u = omega arith
  in_free _ _ v ty h le w u = absurd w

to_few : (place : Place) (sizes : List ℕ) (k : List Pending) → given_most sizes (To place ∷ k) ≤ step_room
to_few (tree.Deref pointer ty line) sizes k = omega arith
to_few _ sizes k = omega arith

to_free : (place : Place) (ty : Ty) (sizes : List ℕ) (k : List Pending) → WaitsTo place ty → value_counts_to place ≡ None → given_most sizes (To place ∷ k) ≤ 600
to_free (tree.Deref pointer t line) ty sizes k w u = absurd (some_none line u)
to_free _ ty sizes k w u = absurd w

for_free : (p : Program) (c : CopyOf) (t : Statement) (stage : Stage) (k : List Pending) → StackStands p c (Doing t stage ∷ k) → FewArms (Doing t stage ∷ k) → given_most_for p.sizes t stage ≤ 600
for_free p c (tree.If chain otherwise line) (Picks (tree.OneArm condition chosen at) more) k st few = let v = scalar_few p.sizes (type_of condition) st.2.0.0.0 in let j = joins_few chain more otherwise in omega arith
for_free p c (tree.Loop shape first condition step body line) Begins k st few = omega arith
for_free p c (tree.Loop shape first condition step body line) Steps k st few = omega arith
for_free p c (tree.Loop shape first (Some condition) step body line) Tests k st few = let v = scalar_few p.sizes (type_of condition) st.0.1.0 in let t = turn_few shape in omega arith
for_free p c (tree.Return (Some e) line) Tests k st few = let v = scalar_few p.sizes _ st.0.0.1 in let e = ap (type_bytes p.sizes) st.0.0.0 in omega arith
for_free p c _ _ k st few = omega arith

-- ---- what follows a statement, and what bytes leave
past_for_free : (t : Statement) (stage : Stage) (k : List Pending) → FewArms (Doing t stage ∷ k) → past_most_for t stage ≤ 600
past_for_free (tree.Loop shape first condition step body line) Turns k few = let t = turned_few shape step in omega arith
past_for_free (tree.Switch e cases default ss line) Turns k few = omega arith
past_for_free (tree.If chain otherwise line) (InArm more) k few = omega arith
past_for_free _ _ k few = omega arith

past_free : (p : Program) (c : CopyOf) (k : List Pending) → FewArms k → past_counts p c k ≡ None → past_most k ≤ 600
past_free p c [] few u = absurd (some_none _ u)
past_free p c (In e got ∷ k) few u = omega arith
past_free p c (To place ∷ k) few u = omega arith
past_free p c (Doing t stage ∷ k) few u = past_for_free t stage k few
past_free p c (Before ss ∷ k) few u = let f = falling_few (switch_on k) ss in omega arith
past_free p c (Returns d ∷ k) few u = absurd (some_none _ u)
past_free p c (Resumes d x ∷ k) few u = absurd (some_none _ u)

past_few : (p : Program) (c : CopyOf) (k : List Pending) → is_some_line (past_counts p c k) ≡ true → past_most k ≤ step_room
past_few p c [] u = omega arith
past_few p c (In e got ∷ k) u = absurd (false≢true u)
past_few p c (To place ∷ k) u = absurd (false≢true u)
past_few p c (Doing t stage ∷ k) u = absurd (false≢true u)
past_few p c (Before ss ∷ k) u = absurd (false≢true u)
past_few p c (Returns d ∷ k) u = omega arith
past_few p c (Resumes d x ∷ k) u = omega arith

skim_end_few : (sizes : List ℕ) (place : Place) (n : ℕ) → n ≤ 96 → skim_end sizes place n ≤ 600
skim_end_few sizes place n le = by (nat_eq n 0)
  where
    by : (b : Bool) → (if b then computed_words (form_of place) else 20 + 6 * n) ≤ 600
    by true = let c = computed_few (form_of place) in omega arith
    by false = omega arith

copied_few : (k : List Pending) → copied_most k ≤ 8
copied_few (In e got ∷ k) = omega arith
copied_few (Doing t (Items (tree.Struct offset from size) rest) ∷ k) = struct_end (form_of from)
copied_few _ = omega arith

module _ (z : Scene) (given : IsLowerable z.program z.copies) (input : All (λ byte. byte < 256) z.outside.input) where
  abbrev p : Program
  p = z.program

  -- a node that waits has room within the frame
  room_few : (e : Expression) (got : Got) (k : List Pending) (c : CopyOf) → IsReached p c → StackFits z c (In e got ∷ k) → room p.sizes e ≤ 96
  room_few e got k c r fits = let f = fits.0 in let s = small z given input c r in omega arith

  value_free : (v : Datum) (k : List Pending) (c : CopyOf) → IsReached p c → FocusStands p c (control.Holds v) k → StackStands p c k → StackFits z c k → FewArms k → value_counts v k ≡ None → given_most p.sizes k ≤ 600
  value_free v [] c r f st fits few u = omega arith
  value_free v (In e got ∷ k) c r f st fits few u = in_free p c.function e got v f.0 st.0 (room_few e got k c r fits) f.1 u
  value_free v (To place ∷ k) c r f st fits few u = to_free place f.0 p.sizes k f.1 u
  value_free v (Doing t stage ∷ k) c r f st fits few u = for_free p c t stage k st few
  value_free v (Before ss ∷ k) c r f st fits few u = omega arith
  value_free v (Returns d ∷ k) c r f st fits few u = omega arith
  value_free v (Resumes d x ∷ k) c r f st fits few u = omega arith

  value_few : (v : Datum) (k : List Pending) (c : CopyOf) → IsReached p c → StackStands p c k → StackFits z c k → is_some_line (value_counts v k) ≡ true → given_most p.sizes k ≤ step_room
  value_few v [] c r st fits u = omega arith
  value_few v (In e got ∷ k) c r st fits u = in_few p c.function e got st.0 (room_few e got k c r fits)
  value_few v (To place ∷ k) c r st fits u = to_few place p.sizes k
  value_few v (Doing t stage ∷ k) c r st fits u = absurd (false≢true u)
  value_few v (Before ss ∷ k) c r st fits u = omega arith
  value_few v (Returns d ∷ k) c r st fits u = omega arith
  value_few v (Resumes d x ∷ k) c r st fits u = omega arith

  skimmed_few : (k : List Pending) (c : CopyOf) → IsReached p c → StackStands p c k → StackFits z c k → skimmed_most p.sizes k ≤ 600
  skimmed_few (In (tree.Read place ty line) got ∷ k) c r st fits =
      let e = tree.Read place ty line in
      let v = value_room p c.function e st.0 in
      let l = room_few e got k c r fits in
      skim_end_few p.sizes place (type_bytes p.sizes ty) (omega arith)
  skimmed_few _ c r st fits = omega arith

  skim_free : (left line : ℕ) (k : List Pending) (c : CopyOf) → IsReached p c → StackStands p c k → StackFits z c k → any_left left line ≡ None → skim_most p.sizes left k ≤ 600
  skim_free zero line k c r st fits u = skimmed_few k c r st fits
  skim_free (suc left) line k c r st fits u = absurd (some_none line u)

  skim_few : (left line : ℕ) (k : List Pending) → is_some_line (any_left left line) ≡ true → skim_most p.sizes left k ≤ step_room
  skim_few zero line k u = absurd (false≢true u)
  skim_few (suc left) line k u = omega arith

  copy_free : (left line : ℕ) (k : List Pending) → any_left left line ≡ None → copy_most left k ≤ 600
  copy_free zero line k u = let c = copied_few k in omega arith
  copy_free (suc left) line k u = absurd (some_none line u)

  copy_few : (left line : ℕ) (k : List Pending) → is_some_line (any_left left line) ≡ true → copy_most left k ≤ step_room
  copy_few zero line k u = absurd (false≢true u)
  copy_few (suc left) line k u = omega arith

  spell_free : (left line : ℕ) → any_left left line ≡ None → spell_most left ≤ 600
  spell_free zero line u = omega arith
  spell_free (suc left) line u = absurd (some_none line u)

  spell_few : (left : ℕ) → spell_most left ≤ step_room
  spell_few zero = omega arith
  spell_few (suc left) = omega arith

  handed_few : (k : List Pending) (d : CopyOf) → IsReached p d → StackStands p d k → StackFits z d k → handed_most p.sizes k ≤ 600
  handed_few (In (tree.Call g arguments ty line) Called ∷ k) d r st fits =
      let e = tree.Call g arguments ty line in
      let v = value_room p d.function e st.0 in
      let l = room_few e Called k d r fits in
      omega arith
  handed_few _ d r st fits = omega arith

  left_few : (k : List Pending) (c : CopyOf) → StackStands p c k → StackFits z c k → left_most p.sizes k ≤ 600
  left_few (Returns d ∷ k) c st fits = handed_few k d st.0 st.3 fits
  left_few _ c st fits = omega arith

  compared_free : (labels : List TCase) → label_counts labels ≡ None → compared_most labels ≤ 600
  compared_free [] u = omega arith
  compared_free (label ∷ labels) u = absurd (some_none _ u)

  compared_few : (labels : List TCase) → compared_most labels ≤ step_room
  compared_few [] = omega arith
  compared_few (label ∷ labels) = omega arith

  eval_few : (e : Expression) → eval_most e ≤ 16
  eval_few (tree.Constant value line) = let s = (int_some value.ty).1 in omega arith
  eval_few _ = omega arith

  -- ---- each focus
  pub free_few : (x : Focus) (k : List Pending) (c : CopyOf) → IsReached p c → FocusStands p c x k → StackStands p c k → StackFits z c k → FewArms k → counted_line p c x k ≡ None → most_at p x k ≤ 600
  unfolding counted_line
  free_few (control.Eval e) k c r f st fits few u = let s = eval_few e in omega arith
  free_few (control.Find place) k c r f st fits few u = omega arith
  free_few (control.Holds v) k c r f st fits few u = value_free v k c r f st fits few u
  free_few (control.Found spot) k c r f st fits few u = found_free p k f.0 f.1 u
  free_few (control.Run t) k c r f st fits few u = begin_free t u
  free_few control.Past k c r f st fits few u = past_free p c k few u
  free_few (control.Fetch spot read) k c r f st fits few u = fetch_few (nat_lt (length read) (type_bytes p.sizes (read_type k))) 600 (omega arith)
  free_few (control.Skim spot left byte) k c r f st fits few u = skim_free left (line_at k) k c r st fits u
  free_few (control.Write spot v at) k c r f st fits few u = let w = wrote_few k in met (nat_lt at (written_bytes spot v)) (line_at k) (wrote_most k) (omega arith) u
  free_few (control.PutBit register number v old) k c r f st fits few u = absurd (some_none (line_at k) u)
  free_few (control.CopyRead to from left) k c r f st fits few u = copy_free left (line_at k) k u
  free_few (control.CopyWrite to from byte left) k c r f st fits few u = absurd (some_none (line_at k) u)
  free_few (control.Spell spot text left) k c r f st fits few u = spell_free left (line_at k) u
  free_few (control.Blank at left) k c r f st fits few u = blank_free p at left k u
  free_few control.Calls k c r f st fits few u = absurd (some_none (line_at k) u)
  free_few (control.Leaves v) k c r f st fits few u = left_few k c st fits
  free_few (control.Compares v labels) k c r f st fits few u = compared_free labels u
  free_few control.Over k c r f st fits few u = omega arith

  pub counted_few : (x : Focus) (k : List Pending) (c : CopyOf) → IsReached p c → StackStands p c k → StackFits z c k → is_some_line (counted_line p c x k) ≡ true → most_at p x k ≤ step_room
  unfolding counted_line
  counted_few (control.Eval e) k c r st fits u = absurd (false≢true u)
  counted_few (control.Find place) k c r st fits u = absurd (false≢true u)
  counted_few (control.Holds v) k c r st fits u = value_few v k c r st fits u
  counted_few (control.Found spot) k c r st fits u = found_few k
  counted_few (control.Run t) k c r st fits u = begin_few t
  counted_few control.Past k c r st fits u = past_few p c k u
  counted_few (control.Fetch spot read) k c r st fits u = fetch_few (nat_lt (length read) (type_bytes p.sizes (read_type k))) step_room (omega arith)
  counted_few (control.Skim spot left byte) k c r st fits u = skim_few left (line_at k) k u
  counted_few (control.Write spot v at) k c r st fits u = let w = wrote_few k in met_or_not (nat_lt at (written_bytes spot v)) (wrote_most k) (omega arith)
  counted_few (control.PutBit register number v old) k c r st fits u = omega arith
  counted_few (control.CopyRead to from left) k c r st fits u = copy_few left (line_at k) k u
  counted_few (control.CopyWrite to from byte left) k c r st fits u = omega arith
  counted_few (control.Spell spot text left) k c r st fits u = spell_few left
  counted_few (control.Blank at left) k c r st fits u = blank_few p at left k
  counted_few control.Calls k c r st fits u = omega arith
  counted_few (control.Leaves v) k c r st fits u = absurd (false≢true u)
  counted_few (control.Compares v labels) k c r st fits u = compared_few labels
  counted_few control.Over k c r st fits u = omega arith
