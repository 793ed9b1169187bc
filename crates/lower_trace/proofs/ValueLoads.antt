-- What is owed where a value is given, a place is found or a function is left, is at most 4,096 more than the words of the functions under way.
use Rattle.std.proofs.Common.{◌≡◌, ℕ, ◌+◌, ◌-◌, ◌*◌, ◌≤◌, Bool, true, false, List, [], ◌∷◌, Some, None, refl, ap, arith}
use Rattle.std.proofs.Math.Nat.{max-le}
use Rattle.std.proofs.lemmas.Bool.{false≢true}
use Rattle.std.specs.Prelude.{max, if◌then◌else◌}
use Rattle.c_typed.specs.Trees as tree
use Rattle.c_typed.specs.Trees.{Expression, Expressions, Place, Statement, VariableTree, Program}
use Rattle.c_typed.specs.Words.{words, arguments_words, statement_words}
use Rattle.src_rules.specs.Parts.{IsExpressionOf, AreArgumentsOf}
use Rattle.src_rules.specs.Standing.{IsReached, IsSplit, GotStands, listed, leaves, repeats, StackStands}
use Rattle.src_values.specs.Control.{Got, Nothing, Chosen, One, At, Args, Called, Stage, Tests, Pending, In, To, Doing, Before, Returns, Resumes}
use Rattle.src_values.specs.Data.{Datum}
use Rattle.src_values.specs.Objects.{function_at}
use Rattle.src_values.specs.declared.objects.CopyOf.{CopyOf}
use Rattle.lower_trace.proofs.Spans.{body_words, locals_in, span_in, span_for, span, Spans}
use Rattle.lower_trace.proofs.Burdens.{under, slack, bulk, burden, arguments_burden, either, value_burden_in, hands_on, is_return, returned_burden, handed_burden, value_burden_for, end_burden, value_burden, leave_burden, call_burden}
use Rattle.lower_trace.proofs.BurdenWords.{burden_few, arguments_few}
use Rattle.lower_trace.proofs.LocalLoads.{value_for_few, span_below, ends_few}

max_sum : (a b : ℕ) → max a b ≤ a + b
max_sum a b = max-le (omega arith) (omega arith)

module _ (p : Program) where
  -- the arguments that are left
  split_few : (f : ℕ) (all : Expressions) (vs : List VariableTree) (before : List Datum) (more : Expressions) → AreArgumentsOf p f all vs → IsSplit p all before more
      → 2 * arguments_burden p.sizes more + 2 * (arguments_words p.sizes all - arguments_words p.sizes more) ≤ 3 * arguments_words p.sizes all
  unfolding words burden
  split_few f tree.NoExpression vs before more h s = absurd s
  split_few f (tree.AndExpression e es) [] before more h s = absurd h
  split_few f (tree.AndExpression e es) (v ∷ vs) [] more h s =
      let a = arguments_few p f es vs h.2 in
      let b = ap (arguments_burden p.sizes) s in
      let d = ap (arguments_words p.sizes) s in
      omega arith
  split_few f (tree.AndExpression e es) (v ∷ vs) (x ∷ before) more h s = let a = split_few f es vs before more h.2 s.1 in omega arith

  value_in_few : (c : CopyOf) (e : Expression) (got : Got) → IsExpressionOf p c.function e → GotStands p c e got → 2 * value_burden_in p.sizes e got + 2 * span_in p.sizes e got ≤ 3 * words p.sizes e
  unfolding words burden
  value_in_few c (tree.Read place ty line) Nothing h g = omega arith
  value_in_few c (tree.Address place ty line) Nothing h g = omega arith
  value_in_few c (tree.Convert operand ty line) Nothing h g = omega arith
  value_in_few c (tree.Cast operand ty line) Nothing h g = omega arith
  value_in_few c (tree.Unary op operand ty line) Nothing h g = omega arith
  value_in_few c (tree.Binary op left right ty line) Nothing h g = let a = burden_few p c.function right h.2 in omega arith
  value_in_few c (tree.Binary op left right ty line) (One u) h g = omega arith
  value_in_few c (tree.Offset op left right size ty line) Nothing h g = let a = burden_few p c.function right h.2 in omega arith
  value_in_few c (tree.Offset op left right size ty line) (One u) h g = omega arith
  value_in_few c (tree.Difference left right size line) Nothing h g = let a = burden_few p c.function right h.2 in omega arith
  value_in_few c (tree.Difference left right size line) (One u) h g = omega arith
  value_in_few c (tree.Logical op left right line) Nothing h g = let a = burden_few p c.function right h.2 in omega arith
  value_in_few c (tree.Logical op left right line) (One u) h g = omega arith
  value_in_few c (tree.Conditional condition chosen otherwise ty line) Nothing h g = omega arith
  value_in_few c (tree.Conditional condition chosen otherwise ty line) Chosen h g = let d = max_sum (words p.sizes chosen) (words p.sizes otherwise) in omega arith
  value_in_few c (tree.Comma left right ty line) Nothing h g = omega arith
  value_in_few c (tree.Assign place value ty line) Nothing h g = omega arith
  value_in_few c (tree.Assign place value ty line) (At spot) h g = omega arith
  value_in_few c (tree.StructAssign place from size line) Nothing h g = omega arith
  value_in_few c (tree.StructAssign place from size line) (At spot) h g = omega arith
  value_in_few c (tree.Update op place value operation size ty line) Nothing h g = omega arith
  value_in_few c (tree.Update op place value operation size ty line) (At spot) h g = omega arith
  value_in_few c (tree.Step op place operation size ty line) Nothing h g = omega arith
  value_in_few c (tree.Call function arguments ty line) (Args before more) h g = let a = split_few c.function arguments (function_at p function).params before more h.3 g in omega arith
  value_in_few c _ _ h g = omega arith

  -- a value that is handed on
  handed_in : (e : Expression) (got : Got) → hands_on e got ≡ true → value_burden_in p.sizes e got + span_in p.sizes e got ≤ words p.sizes e
  unfolding words
  handed_in (tree.Convert operand ty line) Nothing e = omega arith
  handed_in (tree.Conditional condition chosen otherwise ty line) Chosen e = let d = max_sum (words p.sizes chosen) (words p.sizes otherwise) in omega arith
  handed_in _ _ e = absurd (false≢true e)

  handed_few : (e : Expression) (got : Got) → handed_burden p.sizes e got ≤ words p.sizes e
  unfolding words
  handed_few (tree.Call function arguments ty line) Called = omega arith
  handed_few _ _ = omega arith

  returned_few : (locals : List ℕ) (t : Statement) (stage : Stage) → is_return t stage ≡ true → returned_burden p.sizes t + span_for p.sizes locals t stage ≤ statement_words p.sizes locals t
  unfolding statement_words
  returned_few locals (tree.Return None line) Tests e = omega arith
  returned_few locals (tree.Return (Some x) line) Tests e = omega arith
  returned_few locals _ _ e = absurd (false≢true e)

  pub bulk_is : (k : List Pending) (c : CopyOf) → bulk p c k ≡ slack p c + under p c k
  unfolding bulk under
  bulk_is [] c = refl
  bulk_is (In e got ∷ k) c = bulk_is k c
  bulk_is (To place ∷ k) c = bulk_is k c
  bulk_is (Doing t stage ∷ k) c = bulk_is k c
  bulk_is (Before ss ∷ k) c = bulk_is k c
  bulk_is (Returns d ∷ k) c = refl
  bulk_is (Resumes d x ∷ k) c = refl

  module _ (small : (c : CopyOf) → IsReached p c → body_words p c ≤ 2048) where
    value_in : (b : Bool) (e : Expression) (got : Got) (k : List Pending) (c : CopyOf) → hands_on e got ≡ b → IsReached p c → StackStands p c (In e got ∷ k) → Spans p c (In e got ∷ k) → value_burden p c k + span p c k ≤ under p c k + 4096
        → value_burden p c (In e got ∷ k) + span p c (In e got ∷ k) ≤ under p c (In e got ∷ k) + 4096
    unfolding value_burden bulk under
    value_in true e got k c is r st z i =
        let a = handed_in e got is in
        let b = z.0 in
        let d = ap (λ b. either b (value_burden p c k) (bulk p c k)) is in
        omega arith
    value_in false e got k c is r st z i =
        let a = value_in_few c e got st.0 st.2 in
        let b = z.0 in
        let d = ap (λ b. either b (value_burden p c k) (bulk p c k)) is in
        let s = small c r in let q = bulk_is k c in
        let x = span_below p k c st.3 z.2 in
        omega arith

    value_doing : (b : Bool) (t : Statement) (stage : Stage) (k : List Pending) (c : CopyOf) → is_return t stage ≡ b → IsReached p c → StackStands p c (Doing t stage ∷ k) → Spans p c (Doing t stage ∷ k) → leave_burden p c k + body_words p c ≤ under p c k + 4096
        → value_burden p c (Doing t stage ∷ k) + span p c (Doing t stage ∷ k) ≤ under p c (Doing t stage ∷ k) + 4096
    unfolding value_burden bulk under
    value_doing true t stage k c is r st z i =
        let a = returned_few (locals_in p c) t stage is in
        let b = z.0 in
        let d = ap (λ b. if b then returned_burden p.sizes t + leave_burden p c k else value_burden_for p.sizes t stage + end_burden p c k) is in
        let x = span_below p k c st.3 z.2 in
        omega arith
    value_doing false t stage k c is r st z i =
        let a = value_for_few p c (listed k) (leaves k) (repeats k) t stage st.0 st.2 z.1 in
        let b = z.0 in
        let d = ap (λ b. if b then returned_burden p.sizes t + leave_burden p c k else value_burden_for p.sizes t stage + end_burden p c k) is in
        let e = ends_few p k c st.3 z.2 in
        let s = small c r in let q = bulk_is k c in
        omega arith

    mutual
      unfolding value_burden bulk under

      pub value_few : (k : List Pending) (c : CopyOf) → IsReached p c → StackStands p c k → Spans p c k → value_burden p c k + span p c k ≤ under p c k + 4096
      value_few [] c r st z = let s = small c r in omega arith
      value_few (In e got ∷ k) c r st z = value_in (hands_on e got) e got k c refl r st z (value_few k c r st.3 z.2)
      value_few (To place ∷ k) c r st z = let s = small c r in let q = bulk_is k c in let x = span_below p (To place ∷ k) c st z in omega arith
      value_few (Doing t stage ∷ k) c r st z = value_doing (is_return t stage) t stage k c refl r st z (leave_few k c r st.3 z.2)
      value_few (Before ss ∷ k) c r st z = let s = small c r in let q = bulk_is k c in let x = span_below p (Before ss ∷ k) c st z in omega arith
      value_few (Returns d ∷ k) c r st z = let s = small c r in let q = bulk_is k c in omega arith
      value_few (Resumes d x ∷ k) c r st z = let s = small c r in let q = bulk_is k c in omega arith

      pub leave_few : (k : List Pending) (c : CopyOf) → IsReached p c → StackStands p c k → Spans p c k → leave_burden p c k + body_words p c ≤ under p c k + 4096
      leave_few [] c r st z = omega arith
      leave_few (In e got ∷ k) c r st z = let s = small c r in let q = bulk_is k c in omega arith
      leave_few (To place ∷ k) c r st z = let s = small c r in let q = bulk_is k c in omega arith
      leave_few (Doing t stage ∷ k) c r st z = leave_few k c r st.3 z.2
      leave_few (Before ss ∷ k) c r st z = leave_few k c r st.2 z.1
      leave_few (Returns d ∷ k) c r st z = let a = call_few k d st.0 st.3 z in omega arith
      leave_few (Resumes d x ∷ k) c r st z = omega arith

      call_few : (k : List Pending) (c : CopyOf) → IsReached p c → StackStands p c k → Spans p c k → call_burden p c k ≤ under p c k + 4096
      call_few [] c r st z = omega arith
      call_few (In e got ∷ k) c r st z = let a = value_few k c r st.3 z.2 in let b = z.0 in let h = handed_few e got in omega arith
      call_few (To place ∷ k) c r st z = omega arith
      call_few (Doing t stage ∷ k) c r st z = omega arith
      call_few (Before ss ∷ k) c r st z = omega arith
      call_few (Returns d ∷ k) c r st z = omega arith
      call_few (Resumes d x ∷ k) c r st z = omega arith
