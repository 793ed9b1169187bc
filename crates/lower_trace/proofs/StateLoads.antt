-- What is owed at a state is at most 4,130 more than the words of the functions under way.
use Rattle.std.proofs.Common.{◌≡◌, ℕ, zero, suc, ◌+◌, ◌*◌, ◌≤◌, Bool, true, false, ◌&&◌, List, [], ◌∷◌, refl, ap, arith}
use Rattle.std.proofs.lemmas.Bool.{false≢true}
use Rattle.std.specs.Prelude.{nat_lt, not, length, if◌then◌else◌, nat_eq}
use Rattle.c_typed.specs.Trees as tree
use Rattle.c_typed.specs.Trees.{Expression, Place, Item, Statement, Program}
use Rattle.c_typed.specs.Types.{type_bytes, place_type, form_of, member_form}
use Rattle.c_typed.specs.Words.{words, place_words, read_words, computed_words, statement_words}
use Rattle.c_typed.specs.declared.expression.PlaceForm.{PlaceForm}
use Rattle.c_typed.specs.declared.expression.PlaceForm.TheVariants as forms
use Rattle.c_typed.specs.declared.types.Ty.{Ty}
use Rattle.src_rules.proofs.Rules.{read_rule}
use Rattle.src_rules.specs.Parts.{IsExpressionOf, IsPlaceOf}
use Rattle.src_rules.specs.Standing.{IsReached, AreLeft, listed, leaves, repeats, FocusStands, StackStands}
use Rattle.src_values.specs.Control as control
use Rattle.src_values.specs.Control.{Focus, Got, Nothing, At, Stage, Chooses, AtItem, Items, Pending, In, To, Doing, Before, Returns, Resumes, read_type}
use Rattle.src_values.specs.Counting.{is_operator}
use Rattle.src_values.specs.Values.{written_bytes}
use Rattle.src_values.specs.declared.objects.CopyOf.{CopyOf}
use Rattle.lower_trace.proofs.Spans.{body_words, locals_in, span, StageSpans, FocusSpans, Spans}
use Rattle.lower_trace.proofs.Burdens.{if_any, under, bulk, burden, place_burden, items_burden, passes, place_passes, either, found_burden_in, leads_on, copied_burden, items_left, place_burden_at, is_read, fetched_burden, skimmed_burden, stored_burden, copy_burden, compared_burden, end_burden, value_burden, load}
use Rattle.lower_trace.proofs.BurdenWords.{empty_by, burden_few, place_few}
use Rattle.lower_trace.proofs.LocalLoads.{items_few, struct_few, declared_few, statements_few, span_below, ends_few}
use Rattle.lower_trace.proofs.ValueLoads.{bulk_is, value_few, leave_few}

and_true : (a b : Bool) → (a && b) ≡ true → a ≡ true
and_true true b e = refl
and_true false b e = e

module _ (p : Program) where
  -- ---- nodes that may come to their end
  place_free : (place : Place) → place_passes place ≡ true → place_burden p.sizes place ≡ 0
  unfolding burden
  place_free (tree.Name object ty line) e = refl
  place_free (tree.Bit register number line) e = refl
  place_free (tree.Member whole member offset ty line) e = absurd (false≢true e)
  place_free (tree.Deref pointer ty line) e = absurd (false≢true e)

  passed_few : (e : Expression) → passes p e ≡ true → burden p.sizes e ≤ words p.sizes e
  unfolding burden passes words
  passed_few (tree.Constant value line) is = omega arith
  passed_few (tree.Read place ty line) is = let a = place_free place (and_true (place_passes place) (nat_eq (type_bytes p.sizes ty) 0) is) in let b = empty_by (nat_eq (type_bytes p.sizes ty) 0) (form_of place) (type_bytes p.sizes ty) in omega arith
  passed_few (tree.Address place ty line) is = let a = place_free place (and_true (place_passes place) (not (is_operator p (place_type place).ty ty)) is) in omega arith
  passed_few (tree.Convert operand ty line) is = let a = passed_few operand is in omega arith
  passed_few (tree.Cast operand ty line) is = absurd (false≢true is)
  passed_few (tree.Unary op operand ty line) is = absurd (false≢true is)
  passed_few (tree.Binary op left right ty line) is = absurd (false≢true is)
  passed_few (tree.Offset op left right size ty line) is = absurd (false≢true is)
  passed_few (tree.Difference left right size line) is = absurd (false≢true is)
  passed_few (tree.Logical op left right line) is = absurd (false≢true is)
  passed_few (tree.Conditional condition chosen otherwise ty line) is = absurd (false≢true is)
  passed_few (tree.Comma left right ty line) is = absurd (false≢true is)
  passed_few (tree.Assign place value ty line) is = absurd (false≢true is)
  passed_few (tree.StructAssign place from size line) is = absurd (false≢true is)
  passed_few (tree.Update op place value operation size ty line) is = absurd (false≢true is)
  passed_few (tree.Step op place operation size ty line) is = absurd (false≢true is)
  passed_few (tree.Call g arguments ty line) is = absurd (false≢true is)

  -- ---- places that were found
  found_few : (f : ℕ) (e : Expression) (got : Got) → IsExpressionOf p f e → 2 * found_burden_in p.sizes e got ≤ 3 * words p.sizes e + 32
  unfolding words
  found_few f (tree.Read place ty line) Nothing h = let b = empty_by (nat_eq (type_bytes p.sizes ty) 0) (form_of place) (type_bytes p.sizes ty) in omega arith
  found_few f (tree.Address place ty line) Nothing h = omega arith
  found_few f (tree.Assign place value ty line) Nothing h = let a = burden_few p f value h.2 in omega arith
  found_few f (tree.StructAssign place from size line) Nothing h = let a = place_few p f from h.2 in omega arith
  found_few f (tree.Update op place value operation size ty line) Nothing h = let a = burden_few p f value h.2 in omega arith
  found_few f (tree.Step op place operation size ty line) Nothing h = omega arith
  found_few f _ _ h = omega arith

  leads_few : (e : Expression) (got : Got) → leads_on p e got ≡ true → found_burden_in p.sizes e got ≤ words p.sizes e
  unfolding words
  leads_few (tree.Read place ty line) Nothing h = let b = empty_by (nat_eq (type_bytes p.sizes ty) 0) (form_of place) (type_bytes p.sizes ty) in omega arith
  leads_few (tree.Address place ty line) Nothing h = omega arith
  leads_few _ _ h = absurd (false≢true h)

  -- ---- lists
  copied_few : (f : ℕ) (locals : List ℕ) (t : Statement) (item : Item) (rest : List Item) → AreLeft p f t item rest → StageSpans p.sizes locals t (Items item rest) → 2 * copied_burden p.sizes (Items item rest) ≤ 3 * statement_words p.sizes locals t
  unfolding statement_words
  copied_few f locals (tree.InitList local all line) (tree.Scalar offset e) rest h s = let r = items_few p f _ rest _ h.1.2 in omega arith
  copied_few f locals (tree.InitList local all line) (tree.Struct offset from size) rest h s = let r = items_few p f _ rest _ h.1.2 in let d = struct_few (form_of from) size in omega arith
  copied_few f locals (tree.InitList local all line) (tree.Text offset text size) rest h s = let r = items_few p f _ rest _ h.1.2 in omega arith
  copied_few f locals _ item rest h s = absurd h

  left_few : (f : ℕ) (locals : List ℕ) (t : Statement) (item : Item) (rest : List Item) → AreLeft p f t item rest → StageSpans p.sizes locals t (Items item rest) → 2 * items_burden p.sizes rest ≤ 3 * statement_words p.sizes locals t
  unfolding statement_words
  left_few f locals (tree.InitList local all line) item rest h s = let r = items_few p f _ rest _ h.1.2 in omega arith
  left_few f locals _ item rest h s = absurd h

  -- ---- each focus
  module _ (small : (c : CopyOf) → IsReached p c → body_words p c ≤ 2048) where
    ends_small : (k : List Pending) (c : CopyOf) (w : ℕ) → IsReached p c → StackStands p c k → Spans p c k → 2 * w ≤ 3 * span p c k → w + end_burden p c k ≤ under p c k + 4130
    ends_small k c w r st z h = let e = ends_few p k c st z in let s = small c r in let q = bulk_is p k c in omega arith

    found_in_few : (b : Bool) (e : Expression) (got : Got) (k : List Pending) (c : CopyOf) → leads_on p e got ≡ b → IsReached p c → StackStands p c (In e got ∷ k) → Spans p c (In e got ∷ k) → place_burden_at p c (In e got ∷ k) ≤ under p c k + 4130
    found_in_few true e got k c is r st z =
        let a = leads_few e got is in
        let b = z.0 in
        let d = ap (λ b. either b (value_burden p c k) (bulk p c k)) is in
        let v = value_few p small k c r st.3 z.2 in
        omega arith
    found_in_few false e got k c is r st z =
        let a = found_few c.function e got st.0 in
        let b = z.0 in
        let d = ap (λ b. either b (value_burden p c k) (bulk p c k)) is in
        let s = small c r in let q = bulk_is p k c in
        let x = span_below p k c st.3 z.2 in
        omega arith

    stage_copies : (t : Statement) (stage : Stage) (k : List Pending) (c : CopyOf) → IsReached p c → StackStands p c (Doing t stage ∷ k) → Spans p c (Doing t stage ∷ k) → copied_burden p.sizes stage + end_burden p c k ≤ under p c k + 4130
    stage_copies t (AtItem (tree.Struct offset from size) rest) k c r st z = let b = z.0 in let a = copied_few c.function (locals_in p c) t (tree.Struct offset from size) rest st.2 (item_spans t (tree.Struct offset from size) rest c z.1) in ends_small k c _ r st.3 z.2 (omega arith)
      where
        item_spans : (t : Statement) (item : Item) (rest : List Item) (c : CopyOf) → StageSpans p.sizes (locals_in p c) t (AtItem item rest) → StageSpans p.sizes (locals_in p c) t (Items item rest)
        item_spans (tree.InitList local all line) item rest c s = s
        item_spans _ item rest c s = tt
    stage_copies t (Items (tree.Struct offset from size) rest) k c r st z = let b = z.0 in let a = copied_few c.function (locals_in p c) t (tree.Struct offset from size) rest st.2 z.1 in ends_small k c _ r st.3 z.2 (omega arith)
    stage_copies t (Items item rest) k c r st z = let b = z.0 in let a = copied_few c.function (locals_in p c) t item rest st.2 z.1 in ends_small k c _ r st.3 z.2 (omega arith)
    stage_copies t _ k c r st z = let a = ends_small k c 0 r st.3 z.2 (omega arith) in omega arith

    stage_left : (t : Statement) (stage : Stage) (k : List Pending) (c : CopyOf) → IsReached p c → StackStands p c (Doing t stage ∷ k) → Spans p c (Doing t stage ∷ k) → items_left p.sizes stage + end_burden p c k ≤ under p c k + 4130
    stage_left t (Items item rest) k c r st z = let b = z.0 in let a = left_few c.function (locals_in p c) t item rest st.2 z.1 in ends_small k c _ r st.3 z.2 (omega arith)
    stage_left t _ k c r st z = let a = ends_small k c 0 r st.3 z.2 (omega arith) in omega arith

    places_few : (k : List Pending) (c : CopyOf) → IsReached p c → StackStands p c k → Spans p c k → place_burden_at p c k ≤ under p c k + 4130
    unfolding bulk under
    places_few [] c r st z = omega arith
    places_few (In e got ∷ k) c r st z = found_in_few (leads_on p e got) e got k c refl r st z
    places_few (To place ∷ k) c r st z = let q = bulk_is p k c in omega arith
    places_few (Doing t stage ∷ k) c r st z = stage_copies t stage k c r st z
    places_few (Before ss ∷ k) c r st z = omega arith
    places_few (Returns d ∷ k) c r st z = omega arith
    places_few (Resumes d x ∷ k) c r st z = omega arith

    eval_few : (b : Bool) (e : Expression) (k : List Pending) (c : CopyOf) → passes p e ≡ b → IsReached p c → IsExpressionOf p c.function e → words p.sizes e ≤ span p c k → StackStands p c k → Spans p c k → load p c (control.Eval e) k ≤ under p c k + 4130
    eval_few true e k c is r h w st z =
        let a = passed_few e is in
        let d = ap (λ b. either b (value_burden p c k) (bulk p c k)) is in
        let v = value_few p small k c r st z in
        omega arith
    eval_few false e k c is r h w st z =
        let a = burden_few p c.function e h in
        let d = ap (λ b. either b (value_burden p c k) (bulk p c k)) is in
        let s = small c r in let q = bulk_is p k c in
        let x = span_below p k c st z in
        omega arith

    find_few : (b : Bool) (place : Place) (k : List Pending) (c : CopyOf) → place_passes place ≡ b → IsReached p c → IsPlaceOf p c.function place → place_words p.sizes place ≤ span p c k → StackStands p c k → Spans p c k → load p c (control.Find place) k ≤ under p c k + 4130
    find_few true place k c is r h w st z =
        let a = place_free place is in
        let d = ap (λ b. either b (place_burden_at p c k) (bulk p c k)) is in
        let v = places_few k c r st z in
        omega arith
    find_few false place k c is r h w st z =
        let a = place_few p c.function place h in
        let d = ap (λ b. either b (place_burden_at p c k) (bulk p c k)) is in
        let s = small c r in let q = bulk_is p k c in
        let x = span_below p k c st z in
        omega arith

    skim_by : (b : Bool) (form : PlaceForm) (n : ℕ) → (form ≡ forms.Bit → n ≤ 1) → (if b then computed_words form else 20 + 6 * n) ≤ read_words form n + 20
    skim_by true forms.Fixed n h = omega arith
    skim_by true forms.Bit n h = omega arith
    skim_by true forms.Computed n h = omega arith
    skim_by false forms.Fixed n h = omega arith
    skim_by false forms.Computed n h = omega arith
    skim_by false forms.Bit n h = let d = h refl in omega arith

    no_bit : (form : PlaceForm) → member_form form ≡ forms.Bit → ⊥
    no_bit forms.Fixed e = cc
    no_bit forms.Bit e = cc
    no_bit forms.Computed e = cc

    -- a bit has a byte
    bit_byte : (f : ℕ) (place : Place) (ty : Ty) (line : ℕ) → IsExpressionOf p f (tree.Read place ty line) → form_of place ≡ forms.Bit → type_bytes p.sizes ty ≤ 1
    bit_byte f (tree.Name object q line) ty at h e = absurd (cc)
    bit_byte f (tree.Bit register number line) ty at h e = let r = ap (type_bytes p.sizes) (read_rule p (tree.Bit register number line) ty at h.0).0 in omega arith
    bit_byte f (tree.Member whole number offset q line) ty at h e = absurd (no_bit (form_of whole) e)
    bit_byte f (tree.Deref pointer q line) ty at h e = absurd (cc)

    fetched_few : (b : Bool) (e : Expression) (got : Got) (k : List Pending) (c : CopyOf) → is_read e ≡ b → IsReached p c → StackStands p c (In e got ∷ k) → Spans p c (In e got ∷ k) → fetched_burden p c (In e got ∷ k) ≤ under p c k + 4130
    fetched_few true e got k c is r st z = let d = ap (λ b. either b (value_burden p c k) (bulk p c k)) is in let v = value_few p small k c r st.3 z.2 in omega arith
    fetched_few false e got k c is r st z = let q = bulk_is p k c in let d = ap (λ b. either b (value_burden p c k) (bulk p c k)) is in omega arith

    fetch_few : (k : List Pending) (c : CopyOf) → IsReached p c → StackStands p c k → Spans p c k → fetched_burden p c k ≤ under p c k + 4130
    unfolding bulk under
    fetch_few (In e got ∷ k) c r st z = fetched_few (is_read e) e got k c refl r st z
    fetch_few _ c r st z = omega arith

    skimmed_few : (k : List Pending) (c : CopyOf) → IsReached p c → StackStands p c k → Spans p c k → skimmed_burden p c k ≤ under p c k + 4130
    unfolding bulk under words
    skimmed_few (In (tree.Read place ty line) got ∷ k) c r st z = let a = skim_by (nat_eq (type_bytes p.sizes ty) 0) (form_of place) (type_bytes p.sizes ty) (λ e. bit_byte c.function place ty line st.0 e) in let b = z.0 in let v = value_few p small k c r st.3 z.2 in omega arith
    skimmed_few _ c r st z = omega arith

    stored_few : (own : ℕ) (k : List Pending) (c : CopyOf) → own ≤ 28 → IsReached p c → StackStands p c k → Spans p c k → stored_burden p c own k ≤ under p c k + 4130
    unfolding bulk under
    stored_few own (In e got ∷ k) c l r st z = let v = value_few p small k c r st.3 z.2 in omega arith
    stored_few own (Doing t stage ∷ k) c l r st z = stage_left t stage k c r st z
    stored_few own _ c l r st z = omega arith

    copy_few : (k : List Pending) (c : CopyOf) → IsReached p c → StackStands p c k → Spans p c k → copy_burden p c k ≤ under p c k + 4130
    unfolding bulk under
    copy_few (In e got ∷ k) c r st z = let v = value_few p small k c r st.3 z.2 in omega arith
    copy_few (Doing t stage ∷ k) c r st z = stage_copies t stage k c r st z
    copy_few _ c r st z = omega arith

    compared_few : (k : List Pending) (c : CopyOf) → IsReached p c → StackStands p c k → Spans p c k → compared_burden p c k ≤ under p c k + 4130
    unfolding bulk under statement_words
    compared_few (Doing (tree.Switch e cases default ss line) stage ∷ k) c r st z =
        let a = statements_few p c.function (locals_in p c) false true (repeats k) ss st.0.4 in
        let b = z.0 in
        ends_small k c _ r st.3 z.2 (omega arith)
    compared_few (Doing t stage ∷ k) c r st z = let a = ends_small k c 0 r st.3 z.2 (omega arith) in omega arith
    compared_few _ c r st z = omega arith

    if_few : (b : Bool) (x y n : ℕ) → x ≤ n → y ≤ n → (if b then x else y) ≤ n
    if_few true x y n h g = h
    if_few false x y n h g = g

    any_few : (left x y n : ℕ) → x ≤ n → y ≤ n → if_any left x y ≤ n
    any_few zero x y n h g = g
    any_few (suc left) x y n h g = h

    -- What a state owes.
    pub load_few : (x : Focus) (k : List Pending) (c : CopyOf) → IsReached p c → FocusStands p c x k → StackStands p c k → FocusSpans p c x k → Spans p c k → load p c x k ≤ under p c k + 4130
    load_few (control.Eval e) k c r f st s z = eval_few (passes p e) e k c refl r f.0 s st z
    load_few (control.Find place) k c r f st s z = find_few (place_passes place) place k c refl r f.0 s st z
    load_few (control.Holds v) k c r f st s z = let a = value_few p small k c r st z in omega arith
    load_few (control.Found spot) k c r f st s z = places_few k c r st z
    load_few (control.Run t) k c r f st s z = let a = declared_few p c.function (locals_in p c) (listed k) (leaves k) (repeats k) t f.0 in ends_small k c _ r st z (omega arith)
    load_few control.Past k c r f st s z = let a = ends_small k c 0 r st z (omega arith) in omega arith
    load_few (control.Fetch spot read) k c r f st s z = if_few (nat_lt (length read) (type_bytes p.sizes (read_type k))) (bulk p c k) (fetched_burden p c k) (under p c k + 4130) (let q = bulk_is p k c in omega arith) (fetch_few k c r st z)
    load_few (control.Skim spot left byte) k c r f st s z = any_few left (bulk p c k) (skimmed_burden p c k) (under p c k + 4130) (let q = bulk_is p k c in omega arith) (skimmed_few k c r st z)
    load_few (control.Write spot v at) k c r f st s z = if_few (nat_lt at (written_bytes spot v)) (bulk p c k) (stored_burden p c 28 k) (under p c k + 4130) (let q = bulk_is p k c in omega arith) (stored_few 28 k c (omega arith) r st z)
    load_few (control.PutBit register number v old) k c r f st s z = let q = bulk_is p k c in omega arith
    load_few (control.CopyRead to from left) k c r f st s z = any_few left (bulk p c k) (copy_burden p c k) (under p c k + 4130) (let q = bulk_is p k c in omega arith) (copy_few k c r st z)
    load_few (control.CopyWrite to from byte left) k c r f st s z = let q = bulk_is p k c in omega arith
    load_few (control.Spell spot text left) k c r f st s z = stored_few 0 k c (omega arith) r st z
    load_few (control.Blank at left) k c r f st s z = stored_few 0 k c (omega arith) r st z
    load_few control.Calls k c r f st s z = let q = bulk_is p k c in omega arith
    load_few (control.Leaves v) k c r f st s z = let a = leave_few p small k c r st z in omega arith
    load_few (control.Compares v labels) k c r f st s z = compared_few k c r st z
    load_few control.Over k c r f st s z = let q = bulk_is p k c in omega arith
