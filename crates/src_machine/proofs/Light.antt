-- How much is left to do before the next step that counts, at most: so that the code's loop comes to it.
use Rattle.std.proofs.Common.{◌≡◌, ◌≤◌, ◌<◌, ℕ, zero, suc, ◌+◌, ◌*◌, Bool, false, List, [], ◌∷◌, Option, Some, None, length, refl, arith}
use Rattle.std.proofs.lemmas.Bool.{false≢true}
use Rattle.std.specs.Prelude.{slice_get}
use Rattle.c_typed.specs.TreeNodes.{nodes_in, nodes_of_all, nodes_at, nodes_in_any, items_nodes, statement_nodes, nodes_of_body, arms_nodes, functions_nodes, nodes_of}
use Rattle.c_typed.specs.Trees as tree
use Rattle.c_typed.specs.Trees.{Expression, Expressions, Place, Item, Statement, Statements, Arms, LastArm, FunctionTree, Program}
use Rattle.src_rules.proofs.Rooms.{body_nodes, cap, GotSized, StageSized, Sized, some_node}
use Rattle.src_rules.specs.Parts.{IsStatementOf, AreArmsOf, IsLastOf}
use Rattle.src_rules.specs.Standing.{StageStands}
use Rattle.src_rules.specs.Weights.{expression_weight, arguments_weight, place_weight, part_weight, items_weight, declarator_weight, statements_weight, last_weight, arms_weight, test_weight, step_weight, stage_weight}
use Rattle.src_values.specs.Control.{Got, Nothing, At, AtWith, Args, Passed, Stage, Tests, Begins, Steps, Turns, Picks, AtItem, Items, Chooses, Pending, In, To, Doing, Before, Returns, Resumes}
use Rattle.src_values.specs.Objects.{or_no_function}
use Rattle.src_values.specs.Seen.{items_in}
use Rattle.src_values.specs.declared.objects.CopyOf.{CopyOf}

-- ---- expressions
mutual
  unfolding expression_weight nodes_in

  pub expression_light : (e : Expression) → expression_weight e + 1 ≤ 8 * nodes_in e
  expression_light (tree.Constant value line) = omega arith
  expression_light (tree.Read place ty line) = let d = place_light place in omega arith
  expression_light (tree.Address place ty line) = let d = place_light place in omega arith
  expression_light (tree.Convert operand ty line) = let d = expression_light operand in omega arith
  expression_light (tree.Cast operand ty line) = let d = expression_light operand in omega arith
  expression_light (tree.Unary op operand ty line) = let d = expression_light operand in omega arith
  expression_light (tree.Binary op left right ty line) = let d = expression_light left in let f = expression_light right in omega arith
  expression_light (tree.Offset op left right size ty line) = let d = expression_light left in let f = expression_light right in omega arith
  expression_light (tree.Difference left right size line) = let d = expression_light left in let f = expression_light right in omega arith
  expression_light (tree.Logical op left right line) = let d = expression_light left in let f = expression_light right in omega arith
  expression_light (tree.Conditional condition chosen otherwise ty line) =
      let d = expression_light condition in let f = expression_light chosen in let g = expression_light otherwise in omega arith
  expression_light (tree.Comma left right ty line) = let d = expression_light left in let f = expression_light right in omega arith
  expression_light (tree.Assign place value ty line) = let d = place_light place in let f = expression_light value in omega arith
  expression_light (tree.StructAssign place from size line) = let d = place_light place in let f = place_light from in omega arith
  expression_light (tree.Update op place value operation size ty line) = let d = place_light place in let f = expression_light value in omega arith
  expression_light (tree.Step op place operation size ty line) = let d = place_light place in omega arith
  expression_light (tree.Call function arguments ty line) = let d = arguments_light arguments in omega arith

  pub arguments_light : (es : Expressions) → arguments_weight es ≤ 8 * nodes_of_all es
  arguments_light tree.NoExpression = omega arith
  arguments_light (tree.AndExpression e es) = let d = expression_light e in let f = arguments_light es in omega arith

  pub place_light : (place : Place) → place_weight place + 1 ≤ 8 * nodes_at place
  place_light (tree.Name object ty line) = omega arith
  place_light (tree.Bit register number line) = omega arith
  place_light (tree.Member whole member offset ty line) = let d = place_light whole in omega arith
  place_light (tree.Deref pointer ty line) = let d = expression_light pointer in omega arith

pub part_light : (e : Expression) (got : Got) → GotSized e got → part_weight e got ≤ 8 * nodes_in e
unfolding part_weight nodes_in
part_light (tree.Read place ty line) Nothing h = omega arith
part_light (tree.Binary op left right ty line) Nothing h = let d = expression_light right in omega arith
part_light (tree.Offset op left right size ty line) Nothing h = let d = expression_light right in omega arith
part_light (tree.Difference left right size line) Nothing h = let d = expression_light right in omega arith
part_light (tree.Logical op left right line) Nothing h = let d = expression_light right in omega arith
part_light (tree.Conditional condition chosen otherwise ty line) Nothing h = let d = expression_light chosen in let f = expression_light otherwise in omega arith
part_light (tree.Comma left right ty line) Nothing h = let d = expression_light right in omega arith
part_light (tree.Assign place value ty line) Nothing h = let d = expression_light value in omega arith
part_light (tree.Assign place value ty line) (At spot) h = omega arith
part_light (tree.StructAssign place from size line) Nothing h = let d = place_light from in omega arith
part_light (tree.StructAssign place from size line) (At spot) h = omega arith
part_light (tree.Update op place value operation size ty line) Nothing h = let d = expression_light value in omega arith
part_light (tree.Update op place value operation size ty line) (At spot) h = omega arith
part_light (tree.Update op place value operation size ty line) (AtWith spot u) h = omega arith
part_light (tree.Step op place operation size ty line) Nothing h = omega arith
part_light (tree.Step op place operation size ty line) (At spot) h = omega arith
part_light (tree.Call function arguments ty line) (Args values more) h = let d = arguments_light more in omega arith
part_light (tree.Call function arguments ty line) (Passed values) h = omega arith
part_light e _ h = let d = some_node e in omega arith

any_test_light : (o : Option Expression) → test_weight o ≤ 8 * nodes_in_any o
any_test_light None = omega arith
any_test_light (Some e) = let d = expression_light e in omega arith

any_step_light : (o : Option Expression) → step_weight o ≤ 8 * nodes_in_any o
any_step_light None = omega arith
any_step_light (Some e) = let d = expression_light e in omega arith

-- ---- lists of items, and declarators
items_light : (all : List Item) → items_weight all ≤ 8 * items_nodes all + 2 * length all + 1
items_light [] = omega arith
items_light (tree.Scalar offset value ∷ rest) = let d = expression_light value in let f = items_light rest in omega arith
items_light (tree.Struct offset from size ∷ rest) = let d = place_light from in let f = items_light rest in omega arith
items_light (tree.Text offset text size ∷ rest) = let f = items_light rest in omega arith

-- a list of a vector: shorter than 2 to the 63
abbrev pub HasShortList : Statement → Type 0
HasShortList t = length (items_in t) < 9223372036854775808

abbrev pub AreShort : Statements → Type 0
AreShort tree.NoStatement = Unit {0}
AreShort (tree.AndStatement t ts) = HasShortList t × AreShort ts

abbrev pub count_in : Statements → ℕ
count_in tree.NoStatement = 0
count_in (tree.AndStatement t ts) = 1 + count_in ts

abbrev pub IsShort : Statement → Type 0
IsShort (tree.Switch e cases default ss line) = AreShort ss × (count_in ss < 9223372036854775808)
IsShort _ = Unit {0}

pub declarator_light : (t : Statement) → HasShortList t → declarator_weight t ≤ 18446744073709551616 * statement_nodes t + 1
unfolding declarator_weight statement_nodes
declarator_light (tree.Declare local line) h = omega arith
declarator_light (tree.InitScalar local e line) h = let d = expression_light e in omega arith
declarator_light (tree.InitList local all line) h = let d = items_light all in omega arith
declarator_light _ h = omega arith

pub statements_light : (ss : Statements) → AreShort ss → statements_weight ss ≤ 18446744073709551616 * nodes_of_body ss + 2 * count_in ss + 1
unfolding statements_weight statement_nodes
statements_light tree.NoStatement h = omega arith
statements_light (tree.AndStatement t ts) h = let d = declarator_light t h.0 in let f = statements_light ts h.1 in omega arith

-- ---- what is left of a statement
-- a body is no declarator
body_light : (p : Program) (f : ℕ) (l r : Bool) (t : Statement) → IsStatementOf p f false l r t → declarator_weight t ≡ 0
unfolding declarator_weight
body_light p f l r (tree.Declare local line) h = absurd (false≢true h.0)
body_light p f l r (tree.InitScalar local e line) h = absurd (false≢true h.0)
body_light p f l r (tree.InitList local all line) h = absurd (false≢true h.0)
body_light p f l r _ h = refl

last_light : (p : Program) (f : ℕ) (l r : Bool) (last : LastArm) → IsLastOf p f l r last → last_weight last ≡ 0
last_light p f l r tree.NoLast h = refl
last_light p f l r (tree.Last t) h = body_light p f l r t h

arms_light : (p : Program) (f : ℕ) (l r : Bool) (more : Arms) (last : LastArm) → AreArmsOf p f l r more → IsLastOf p f l r last → arms_weight more last ≤ 8 * arms_nodes more
unfolding statement_nodes
arms_light p f l r tree.NoArm last h g = let d = last_light p f l r last g in omega arith
arms_light p f l r (tree.AndArm (tree.OneArm condition chosen line) more) last h g =
    let d = expression_light condition in let b = body_light p f l r chosen h.0.1 in let i = arms_light p f l r more last h.1 g in omega arith

-- the items that are left are few
abbrev pub FewAreLeft : Stage → Type 0
FewAreLeft (AtItem item rest) = length rest < 9223372036854775808
FewAreLeft (Items item rest) = length rest < 9223372036854775808
FewAreLeft _ = Unit {0}

pub stage_light : (p : Program) (f : ℕ) (d l r : Bool) (t : Statement) (stage : Stage) → IsStatementOf p f d l r t → StageStands p f l r t stage → StageSized t stage → IsShort t → FewAreLeft stage
    → stage_weight t stage ≤ 18446744073709551616 * statement_nodes t + 36893488147419103232
unfolding stage_weight statement_nodes
stage_light p f d l r (tree.InitScalar local e line) Tests st g z h few = omega arith
stage_light p f d l r (tree.InitList local all line) (AtItem item rest) st g z h few = let i = items_light rest in omega arith
stage_light p f d l r (tree.InitList local all line) (Items item rest) st g z h few = let i = items_light rest in omega arith
stage_light p f d l r (tree.If chain otherwise line) (Picks (tree.OneArm condition chosen at) more) st g z h few =
    let i = arms_light p f l r more otherwise g.1 st.2 in let b = body_light p f l r chosen g.0.1 in omega arith
stage_light p f d l r (tree.Loop shape first condition step body line) Begins st g z h few = let i = any_test_light condition in omega arith
stage_light p f d l r (tree.Loop shape first condition step body line) Steps st g z h few = let i = any_test_light condition in omega arith
stage_light p f d l r (tree.Loop shape first condition step body line) Turns st g z h few = let i = any_test_light condition in let j = any_step_light step in omega arith
stage_light p f d l r (tree.Switch e cases default ss line) Tests st g z h few = let i = statements_light ss h.0 in let j = h.1 in omega arith
stage_light p f d l r (tree.Switch e cases default ss line) Chooses st g z h few = let i = statements_light ss h.0 in let j = h.1 in omega arith
stage_light p f d l r t _ st g z h few = omega arith

-- ---- bodies of a program
among_few : (fs : List FunctionTree) (f : ℕ) → nodes_of_body (or_no_function (slice_get fs f)).body ≤ functions_nodes fs
unfolding statement_nodes
among_few [] f = omega arith
among_few (g ∷ fs) zero = omega arith
among_few (g ∷ fs) (suc f) = let i = among_few fs f in omega arith

body_few : (p : Program) (c : CopyOf) → body_nodes p c ≤ 1 + nodes_of p
body_few p c = let i = among_few p.functions c.function in omega arith

-- what is on top has no more nodes than a body
pub cap_few : (p : Program) (c : CopyOf) (k : List Pending) → Sized p c k → cap p c k ≤ 1 + nodes_of p
cap_few p c [] z = body_few p c
cap_few p c (In e got ∷ k) z = let i = cap_few p c k z.2 in let a = z.0 in omega arith
cap_few p c (To place ∷ k) z = let i = cap_few p c k z.1 in let a = z.0 in omega arith
cap_few p c (Doing t stage ∷ k) z = let i = cap_few p c k z.2 in let a = z.0 in omega arith
cap_few p c (Before ss ∷ k) z = let i = cap_few p c k z.1 in omega arith
cap_few p c (Returns d ∷ k) z = body_few p c
cap_few p c (Resumes d x ∷ k) z = body_few p c
