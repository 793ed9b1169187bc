-- What is owed within a function is at most one and a half times its stated words.
use Rattle.std.proofs.Common.{◌≡◌, ℕ, ◌+◌, ◌*◌, ◌≤◌, Bool, true, false, List, [], ◌∷◌, Option, Some, None, arith}
use Rattle.std.proofs.Math.Nat.{max-le}
use Rattle.std.proofs.lemmas.Bool.{false≢true}
use Rattle.std.specs.Prelude.{max}
use Rattle.c_typed.specs.Sameness.{is_scalar}
use Rattle.c_typed.specs.Trees as tree
use Rattle.c_typed.specs.Trees.{Expression, Place, Item, Statement, Statements, Arm, Arms, LastArm, Program}
use Rattle.c_typed.specs.Types.{type_bytes, type_of, form_of}
use Rattle.c_typed.specs.Words.{words, place_words, any_words, condition_words, items_words, statement_words, statements_words, arms_words, struct_words}
use Rattle.c_typed.specs.declared.expression.PlaceForm.{PlaceForm}
use Rattle.c_typed.specs.declared.expression.PlaceForm.TheVariants as forms
use Rattle.c_typed.specs.declared.statement.LoopForm.{LoopForm}
use Rattle.c_typed.specs.declared.statement.LoopForm.TheVariants.{While, Do, For}
use Rattle.c_typed.specs.declared.types.Ty.{Ty}
use Rattle.c_typed.specs.declared.types.Ty.TheVariants as types
use Rattle.src_rules.specs.Parts.{AnyIsOf, AnyConditionIsOf, AreItemsOf, AreArmsOf, IsStatementOf, AreStatementsOf}
use Rattle.src_rules.specs.Standing.{listed, leaves, repeats, StageStands, StackStands}
use Rattle.src_values.specs.Control.{Got, Nothing, Chosen, One, At, Args, Stage, Tests, Begins, Steps, Turns, Picks, InArm, AtItem, Pending, In, To, Doing, Before, Returns, Resumes}
use Rattle.src_values.specs.declared.objects.CopyOf.{CopyOf}
use Rattle.lower_trace.proofs.CodeLeft.{arm_count, switch_on}
use Rattle.lower_trace.proofs.Falling.{falling}
use Rattle.lower_trace.proofs.Prices.{turn_most, turned_most}
use Rattle.lower_trace.proofs.Spans.{body_words, locals_in, span_in, span_to, span_for, span, StageSpans, Spans}
use Rattle.lower_trace.proofs.Burdens.{bulk, items_burden, declarator_burden, statements_burden, test_burden, step_burden, arms_burden, end_burden_for, end_burden, value_burden_for}
use Rattle.lower_trace.proofs.BurdenWords.{int_bytes, burden_few, place_few}
use Rattle.lower_trace.proofs.PaidAccesses.{falling_small}

-- ---- a part has no more words than its node
max_sum : (a b : ℕ) → max a b ≤ a + b
max_sum a b = max-le (omega arith) (omega arith)

pub part_few : (sizes : List ℕ) (e : Expression) (got : Got) → span_in sizes e got ≤ words sizes e
unfolding words
part_few sizes (tree.Read place ty line) Nothing = omega arith
part_few sizes (tree.Address place ty line) Nothing = omega arith
part_few sizes (tree.Convert operand ty line) Nothing = omega arith
part_few sizes (tree.Cast operand ty line) Nothing = omega arith
part_few sizes (tree.Unary op operand ty line) Nothing = omega arith
part_few sizes (tree.Binary op left right ty line) Nothing = omega arith
part_few sizes (tree.Binary op left right ty line) (One u) = omega arith
part_few sizes (tree.Offset op left right size ty line) Nothing = omega arith
part_few sizes (tree.Offset op left right size ty line) (One u) = omega arith
part_few sizes (tree.Difference left right size line) Nothing = omega arith
part_few sizes (tree.Difference left right size line) (One u) = omega arith
part_few sizes (tree.Logical op left right line) Nothing = omega arith
part_few sizes (tree.Logical op left right line) (One u) = omega arith
part_few sizes (tree.Conditional condition chosen otherwise ty line) Nothing = omega arith
part_few sizes (tree.Conditional condition chosen otherwise ty line) Chosen = let d = max_sum (words sizes chosen) (words sizes otherwise) in omega arith
part_few sizes (tree.Comma left right ty line) Nothing = omega arith
part_few sizes (tree.Assign place value ty line) Nothing = omega arith
part_few sizes (tree.Assign place value ty line) (At spot) = omega arith
part_few sizes (tree.StructAssign place from size line) Nothing = omega arith
part_few sizes (tree.StructAssign place from size line) (At spot) = omega arith
part_few sizes (tree.Update op place value operation size ty line) Nothing = omega arith
part_few sizes (tree.Update op place value operation size ty line) (At spot) = omega arith
part_few sizes (tree.Step op place operation size ty line) Nothing = omega arith
part_few sizes (tree.Call function arguments ty line) (Args before more) = omega arith
part_few sizes _ _ = omega arith

sought_few : (sizes : List ℕ) (place : Place) → span_to sizes place ≤ place_words sizes place
unfolding words
sought_few sizes (tree.Member whole member offset ty line) = omega arith
sought_few sizes (tree.Deref pointer ty line) = omega arith
sought_few sizes _ = omega arith

-- ---- statements
scalar_bytes : (sizes : List ℕ) (ty : Ty) → is_scalar ty ≡ true → 1 ≤ type_bytes sizes ty
scalar_bytes sizes types.Void e = absurd (false≢true e)
scalar_bytes sizes (types.Int i) e = (int_bytes i).0
scalar_bytes sizes (types.Pointer row) e = omega arith
scalar_bytes sizes (types.Array element length bytes) e = absurd (false≢true e)
scalar_bytes sizes (types.Struct number) e = absurd (false≢true e)

pub struct_few : (form : PlaceForm) (size : ℕ) → struct_words forms.Fixed form 0 ≤ struct_words forms.Fixed form size
struct_few forms.Fixed size = omega arith
struct_few forms.Bit size = omega arith
struct_few forms.Computed size = omega arith

pub items_few : (p : Program) (f size : ℕ) (all : List Item) (before : ℕ) → AreItemsOf p f size before all → 2 * items_burden p.sizes all ≤ 3 * items_words p.sizes all
items_few p f size [] before h = omega arith
items_few p f size (tree.Scalar offset e ∷ rest) before h = let d = burden_few p f e h.1.1 in omega arith
items_few p f size (tree.Struct offset from bytes ∷ rest) before h = let d = place_few p f from h.1.2 in let s = struct_few (form_of from) bytes in let r = items_few p f size rest _ h.2 in omega arith
items_few p f size (tree.Text offset text bytes ∷ rest) before h = let r = items_few p f size rest _ h.2 in omega arith

pub declared_few : (p : Program) (f : ℕ) (locals : List ℕ) (d l r : Bool) (t : Statement) → IsStatementOf p f d l r t → 2 * declarator_burden p.sizes t ≤ 3 * statement_words p.sizes locals t
unfolding statement_words
declared_few p f locals d l r (tree.InitScalar local e line) h = let b = burden_few p f e h.1.value in omega arith
declared_few p f locals d l r (tree.InitList local all line) h = let b = items_few p f _ all 0 h.1.fit in omega arith
declared_few p f locals d l r _ h = omega arith

pub statements_few : (p : Program) (f : ℕ) (locals : List ℕ) (d l r : Bool) (ss : Statements) → AreStatementsOf p f d l r ss → 2 * statements_burden p.sizes ss ≤ 3 * statements_words p.sizes locals ss
unfolding statements_burden statement_words
statements_few p f locals d l r tree.NoStatement h = omega arith
statements_few p f locals d l r (tree.AndStatement t ts) h = let a = declared_few p f locals d l r t h.0 in let b = statements_few p f locals d l r ts h.1 in omega arith

step_few : (p : Program) (f : ℕ) (o : Option Expression) → AnyIsOf p f o → 2 * step_burden p.sizes o ≤ 3 * any_words p.sizes o + 8
step_few p f None h = omega arith
step_few p f (Some e) h = let d = burden_few p f e h in omega arith

-- a turn's end, its step and the test
turn_few : (p : Program) (f : ℕ) (shape : LoopForm) (condition each : Option Expression) → AnyConditionIsOf p f condition → AnyIsOf p f each → 2 * (turned_most shape each + (step_burden p.sizes each + test_burden p.sizes shape condition)) ≤ 3 * (condition_words p.sizes condition + any_words p.sizes each)
turn_few p f While None None c s = omega arith
turn_few p f While (Some e) None c s = let a = burden_few p f e c.1 in omega arith
turn_few p f While None (Some x) c s = let b = burden_few p f x s in omega arith
turn_few p f While (Some e) (Some x) c s = let a = burden_few p f e c.1 in let b = burden_few p f x s in omega arith
turn_few p f For None None c s = omega arith
turn_few p f For (Some e) None c s = let a = burden_few p f e c.1 in omega arith
turn_few p f For None (Some x) c s = let b = burden_few p f x s in omega arith
turn_few p f For (Some e) (Some x) c s = let a = burden_few p f e c.1 in let b = burden_few p f x s in omega arith
turn_few p f Do None None c s = omega arith
turn_few p f Do (Some e) None c s = let a = burden_few p f e c.1 in let v = scalar_bytes p.sizes (type_of e) c.0 in omega arith
turn_few p f Do None (Some x) c s = let b = burden_few p f x s in omega arith
turn_few p f Do (Some e) (Some x) c s = let a = burden_few p f e c.1 in let b = burden_few p f x s in let v = scalar_bytes p.sizes (type_of e) c.0 in omega arith

pub tests : (sizes locals : List ℕ) (chain : Arms) → 20 * arm_count chain ≤ arms_words sizes locals chain
unfolding statement_words
tests sizes locals tree.NoArm = omega arith
tests sizes locals (tree.AndArm (tree.OneArm condition chosen line) more) = let d = tests sizes locals more in omega arith

-- the body of a switch may have a jump between its segments
abbrev pub extra_for : Statement → Stage → ℕ
extra_for (tree.Switch e cases default ss line) Turns = 4
extra_for _ _ = 0

abbrev pub extra : List Pending → ℕ
extra (Doing t stage ∷ k) = extra_for t stage
extra _ = 0

falling_extra : (k : List Pending) (ss : Statements) → falling (switch_on k) ss ≤ extra k
falling_extra (Doing (tree.Switch e cases default body line) Turns ∷ k) ss = falling_small (Some (record { value = e; cases = cases; default = default; body = body })) ss
falling_extra _ ss = omega arith

module _ (p : Program) (c : CopyOf) where
  stage_few : (d l r : Bool) (t : Statement) (stage : Stage) → IsStatementOf p c.function d l r t → StageSpans p.sizes (locals_in p c) t stage
      → 2 * (end_burden_for p.sizes t stage + extra_for t stage) + 3 * span_for p.sizes (locals_in p c) t stage ≤ 3 * statement_words p.sizes (locals_in p c) t
  unfolding statement_words
  stage_few d l r (tree.Expr e line) Tests h s = omega arith
  stage_few d l r (tree.InitScalar local e line) Tests h s = omega arith
  stage_few d l r (tree.InitList local all line) (AtItem (tree.Scalar offset e) rest) h s = omega arith
  stage_few d l r (tree.InitList local all line) (AtItem (tree.Struct offset from size) rest) h s = omega arith
  stage_few d l r (tree.If chain otherwise line) (Picks (tree.OneArm condition chosen at) more) h s = let a = s.0 in omega arith
  stage_few d l r (tree.If chain otherwise line) (InArm more) h s = let a = tests p.sizes (locals_in p c) chain in omega arith
  stage_few d l r (tree.Loop shape first condition each body line) Begins h s = omega arith
  stage_few d l r (tree.Loop shape first None each body line) Tests h s = omega arith
  stage_few d l r (tree.Loop shape first (Some e) each body line) Tests h s = omega arith
  stage_few d l r (tree.Loop shape first condition each body line) Steps h s = omega arith
  stage_few d l r (tree.Loop shape first condition each body line) Turns h s = let a = turn_few p c.function shape condition each h.1 h.2 in omega arith
  stage_few d l r (tree.Switch e cases default ss line) Tests h s = omega arith
  stage_few d l r (tree.Switch e cases default ss line) Turns h s = omega arith
  stage_few d l r (tree.Return value line) Tests h s = omega arith
  stage_few d l r _ _ h s = omega arith

  -- the arms that follow one
  chain_few : (l r : Bool) (count : ℕ) (more : Arms) → AreArmsOf p c.function l r more → 2 * arms_burden p.sizes count more + 8 * arm_count more ≤ 3 * arms_words p.sizes (locals_in p c) more + 8 * count
  unfolding statement_words arms_burden
  chain_few l r count tree.NoArm h = omega arith
  chain_few l r count (tree.AndArm (tree.OneArm condition chosen line) more) h = let a = chain_few l r count more h.1 in let b = burden_few p c.function condition h.0.0.1 in omega arith

  test_few : (shape : LoopForm) (o : Option Expression) → AnyConditionIsOf p c.function o → 8 + 2 * test_burden p.sizes shape o ≤ 3 * condition_words p.sizes o
  test_few While None h = omega arith
  test_few While (Some e) h = let a = burden_few p c.function e h.1 in omega arith
  test_few For None h = omega arith
  test_few For (Some e) h = let a = burden_few p c.function e h.1 in omega arith
  test_few Do None h = omega arith
  test_few Do (Some e) h = let a = burden_few p c.function e h.1 in omega arith

  turn_small : (shape : LoopForm) → turn_most shape ≤ 4
  turn_small While = omega arith
  turn_small Do = omega arith
  turn_small For = omega arith

  pub value_for_few : (d l r : Bool) (t : Statement) (stage : Stage) → IsStatementOf p c.function d l r t → StageStands p c.function l r t stage → StageSpans p.sizes (locals_in p c) t stage
      → 2 * value_burden_for p.sizes t stage + 2 * span_for p.sizes (locals_in p c) t stage ≤ 3 * statement_words p.sizes (locals_in p c) t
  unfolding statement_words
  value_for_few d l r (tree.Expr e line) Tests h g s = omega arith
  value_for_few d l r (tree.InitScalar local e line) Tests h g s = omega arith
  value_for_few d l r (tree.InitList local all line) (AtItem (tree.Scalar offset e) rest) h g s = omega arith
  value_for_few d l r (tree.InitList local all line) (AtItem (tree.Struct offset from size) rest) h g s = omega arith
  value_for_few d l r (tree.If chain otherwise line) (Picks (tree.OneArm condition chosen at) more) h g s = let a = s.0 in let b = s.1 in let x = chain_few l r (arm_count chain) more g.1 in omega arith
  value_for_few d l r (tree.If chain otherwise line) (InArm more) h g s = omega arith
  value_for_few d l r (tree.Loop shape first condition each body line) Begins h g s = let a = test_few shape condition h.1 in omega arith
  value_for_few d l r (tree.Loop shape first None each body line) Tests h g s = omega arith
  value_for_few d l r (tree.Loop shape first (Some e) each body line) Tests h g s = let a = turn_small shape in omega arith
  value_for_few d l r (tree.Loop shape first condition each body line) Steps h g s = let a = test_few shape condition h.1 in omega arith
  value_for_few d l r (tree.Loop shape first condition each body line) Turns h g s = omega arith
  value_for_few d l r (tree.Switch e cases default ss line) Tests h g s = let a = statements_few p c.function (locals_in p c) false true r ss h.4 in omega arith
  value_for_few d l r (tree.Switch e cases default ss line) Turns h g s = omega arith
  value_for_few d l r (tree.Return value line) Tests h g s = omega arith
  value_for_few d l r _ _ h g s = omega arith

-- ---- what waits
module _ (p : Program) where
  pub span_below : (k : List Pending) (c : CopyOf) → StackStands p c k → Spans p c k → span p c k ≤ body_words p c
  span_below [] c st z = omega arith
  span_below (In e got ∷ k) c st z = let a = span_below k c st.3 z.2 in let b = z.0 in let d = part_few p.sizes e got in omega arith
  span_below (To place ∷ k) c st z = let a = span_below k c st.2 z.1 in let b = z.0 in let d = sought_few p.sizes place in omega arith
  span_below (Doing t stage ∷ k) c st z = let a = span_below k c st.3 z.2 in let b = z.0 in let d = stage_few p c (listed k) (leaves k) (repeats k) t stage st.0 z.1 in omega arith
  span_below (Before ss ∷ k) c st z = let a = span_below k c st.2 z.1 in omega arith
  span_below (Returns d ∷ k) c st z = omega arith
  span_below (Resumes d x ∷ k) c st z = omega arith

  pub ends_few : (k : List Pending) (c : CopyOf) → StackStands p c k → Spans p c k → 2 * (end_burden p c k + extra k) + 3 * span p c k ≤ 2 * bulk p c k + 3 * body_words p c
  unfolding end_burden bulk
  ends_few [] c st z = omega arith
  ends_few (In e got ∷ k) c st z = let a = span_below (In e got ∷ k) c st z in omega arith
  ends_few (To place ∷ k) c st z = let a = span_below (To place ∷ k) c st z in omega arith
  ends_few (Doing t stage ∷ k) c st z = let a = ends_few k c st.3 z.2 in let b = z.0 in let d = stage_few p c (listed k) (leaves k) (repeats k) t stage st.0 z.1 in omega arith
  ends_few (Before ss ∷ k) c st z =
      let a = ends_few k c st.2 z.1 in
      let b = z.0 in
      let d = falling_extra k ss in
      let e = statements_few p c.function (locals_in p c) true (leaves k) (repeats k) ss st.0 in
      omega arith
  ends_few (Returns d ∷ k) c st z = omega arith
  ends_few (Resumes d x ∷ k) c st z = omega arith
