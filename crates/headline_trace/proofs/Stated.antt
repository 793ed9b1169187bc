-- Byte code of the statements of a sound program, and of each body, sets bytes alone.
use Rattle.std.proofs.Common.{◌≡◌, ℕ, zero, suc, ◌+◌, ◌-◌, ◌<◌, Bool, true, false, ◌&&◌, if◌then◌else◌, List, [], ◌∷◌, ◌++◌, length, Option, Some, None, refl, ap, subst, arith}
use Rattle.std.specs.Prelude.{slice_get, slice_index, slice_index_or}
use Rattle.std.specs.List.{All}
use Rattle.std.proofs.lemmas.Bool.{lt-ltb}
use Rattle.std.proofs.lemmas.Option.{slice_get_within}
use Rattle.c_ints.specs.Range.{pattern}
use Rattle.c_ints.specs.declared.types.IntTy.{IntTy}
use Rattle.c_typed.specs.Trees as tree
use Rattle.c_typed.specs.Trees.{Expression, Item, Statement, Statements, Arm, Arms, LastArm, Program, FunctionTree}
use Rattle.c_typed.specs.Types.{type_of, item_start}
use Rattle.c_typed.specs.Words.{item_bytes}
use Rattle.c_typed.specs.declared.calls.FnId.{FnId}
use Rattle.c_typed.specs.declared.calls.FnId.TheVariants.{User, Helper}
use Rattle.c_typed.specs.declared.statement.LoopForm.{LoopForm}
use Rattle.c_typed.specs.declared.statement.LoopForm.TheVariants.{While, Do, For}
use Rattle.c_typed.specs.declared.statement.TCase.{TCase}
use Rattle.call_graph.specs.declared.types.FnCopy.{FnCopy}
use Rattle.core_code.specs.Tree as core
use Rattle.core_code.specs.Tree.{Tree, Trees, many}
use Rattle.core_code.specs.declared.code.Byte.{Byte}
use Rattle.core_puts.specs.Bytes.{behind, operation_type}
use Rattle.lower_expr.specs.Lowering.{address_code}
use Rattle.core_puts.specs.Puts.{choice, test_size}
use Rattle.lower_expr.specs.Spots.{spot_of}
use Rattle.lower_expr.specs.declared.places.Spot.TheVariants.{Fixed}
use Rattle.lower_stmt.specs.Bodies.{code_of}
use Rattle.lower_stmt.specs.Declarators.{scalar_code, text_code, item_code, items_code, is_covered, rest_code}
use Rattle.lower_stmt.specs.Frames.{ground_for}
use Rattle.lower_stmt.specs.Ground.{Ground, first, temporary, result_byte, local_byte, local_bytes, width, value_code}
use Rattle.lower_stmt.specs.Jumps.{outside, in_segment}
use Rattle.lower_stmt.specs.Labels.{labels_of, has, segments_before}
use Rattle.lower_stmt.specs.Programs.{body_for, body_in}
use Rattle.lower_stmt.specs.Statements.{any_code, condition_code, once, jumps_in, loop_code, continue_code, return_code, arm_choice, segments_in, stmt_code, stmts_code, arms_code, arm_code, last_code, segments_code}
use Rattle.lower_stmt.specs.Switches.{case_code, cases_code, comparisons, Segments, no_segments, cut, joined, begun_with, nest, around, for_labels}
use Rattle.lower_stmt.specs.declared.jumps.Jumps.{Jumps}
use Rattle.pic_world.specs.declared.Root.{Root}
use Rattle.src_rules.specs.Parts.{IsExpressionOf, AnyIsOf, AnyConditionIsOf, IsItemOf, AreItemsOf, IsReturnOf, IsStatementOf, AreStatementsOf, IsArmOf, AreArmsOf, IsLastOf, IsRunnable}
use Rattle.src_values.specs.Objects.{function_at, or_no_function}
use Rattle.select_wide.specs.Links.{sets_bytes, all_set_bytes}
use Rattle.headline_trace.specs.Plain.{is_given, all_given}
use Rattle.headline_trace.proofs.Evaluated.{expression_given, place_given}
use Rattle.headline_trace.proofs.Numbers.{AreGiven, and_true, none, one, join, either, copies_given, sets_given, choice_given, pointer_given, struct_given}

-- ---- first values
index_small : (xs : List ℕ) (k : ℕ) → All (λ n. n < 256) xs → slice_index_or xs k 0 < 256
index_small [] k h = omega arith
index_small (x ∷ xs) zero h = h 0 0 (omega arith)
index_small (x ∷ xs) (suc k) h = index_small xs k (λ j d lt. h (suc j) d (omega arith))

text_given : (to : Byte) (bytes : List ℕ) (count : ℕ) → All (λ n. n < 256) bytes → AreGiven (text_code to bytes count)
unfolding text_code
text_given to bytes zero h = none
text_given to bytes (suc place) h =
    join (text_code to bytes place) (core.Set (behind to place) (slice_index bytes place) ∷ []) (text_given to bytes place h)
    (one (core.Set (behind to place) (slice_index bytes place)) (lt-ltb (slice_index bytes place) 256 (index_small bytes place h)))

rest_given : (g : Ground) (to : Byte) (items : List Item) (count : ℕ) → AreGiven (rest_code g to items count)
unfolding rest_code
rest_given g to items zero = none
rest_given g to items (suc place) =
    join _ _ (rest_given g to items place) (either (is_covered g items place) [] (core.Set (behind to place) 0 ∷ []) none (one (core.Set (behind to place) 0) refl))

-- ---- loops and switches
loop_given : (code : List Tree) → AreGiven code → AreGiven (core.Loop (many code) ∷ [])
loop_given code h = one (core.Loop (many code)) h.is

once_given : (body : List Tree) → AreGiven body → AreGiven (once body)
once_given body h = loop_given (body ++ core.Exit 0 ∷ []) (join body (core.Exit 0 ∷ []) h (one (core.Exit 0) refl))

case_given : (g : Ground) (ty : IntTy) (bytes : ℕ) (case : TCase) (segment : ℕ) → AreGiven (case_code g ty bytes case segment)
case_given g ty bytes case segment =
    join _ _ (join _ _ (sets_given (temporary g bytes) (pattern case.value.ty case.value.number) bytes) (one _ refl)) (one _ refl)

cases_given : (g : Ground) (ty : IntTy) (bytes : ℕ) (labels : List ℕ) (cases : List TCase) → AreGiven (cases_code g ty bytes labels cases)
cases_given g ty bytes labels [] = none
cases_given g ty bytes labels (case ∷ cases) = join _ _ (case_given g ty bytes case (segments_before case.target labels)) (cases_given g ty bytes labels cases)

comparisons_given : (g : Ground) (value : Expression) (cases : List TCase) (default : Option ℕ) (labels : List ℕ) (count : ℕ) → AreGiven (comparisons g value cases default labels count)
comparisons_given g value cases default labels count = join _ _ (cases_given g (operation_type (type_of value)) (width g value) labels cases) (one _ refl)

abbrev AllGiven : List (List Tree) → Type 0
AllGiven [] = Unit {0}
AllGiven (code ∷ codes) = AreGiven code × AllGiven codes

record AreParts (s : Segments) : Type 0 where
  running : AreGiven s.running
  later : AllGiven s.later

cut_given : (begins : Bool) (s : Segments) → AreParts s → AreParts (cut begins s)
cut_given true s h = record { running = none; later = (h.running, h.later) }
cut_given false s h = h

joined_given : (code : List Tree) (s : Segments) → AreGiven code → AreParts s → AreParts (joined code s)
joined_given code s c h = record { running = join code s.running c h.running; later = h.later }

nest_given : (inner : List Tree) (segments : List (List Tree)) → AreGiven inner → AllGiven segments → AreGiven (nest inner segments)
nest_given inner [] i h = i
nest_given inner (segment ∷ segments) i h =
    let code = inner ++ segment ++ core.Exit 0 ∷ [] in
    nest_given (core.Loop (many code) ∷ []) segments (loop_given code (join (inner ++ segment) (core.Exit 0 ∷ []) (join inner segment i h.0) (one (core.Exit 0) refl))) h.1

labels_given : (labels : List ℕ) (code : List Tree) → AreGiven code → AreGiven (for_labels labels code)
labels_given [] code h = none
labels_given (label ∷ labels) code h = h

continue_given : (j : Jumps) → AreGiven (continue_code j)
continue_given j = by j.again where
  by : (b : Bool) → AreGiven ((if b then core.Again j.turn else core.Exit j.turn) ∷ [])
  by true = one (core.Again j.turn) refl
  by false = one (core.Exit j.turn) refl

module _ (p : Program) (f : ℕ) (g : Ground) where
  wanted_given : (e : Expression) → IsExpressionOf p f e → AreGiven (value_code g e)
  wanted_given e h = expression_given p f g.layout g.copy g.base true e h

  any_given : (o : Option Expression) → AnyIsOf p f o → AreGiven (any_code g o)
  any_given None h = none
  any_given (Some e) h = expression_given p f g.layout g.copy g.base false e h

  condition_given : (o : Option Expression) → AnyConditionIsOf p f o → AreGiven (condition_code g o)
  condition_given None h = none
  condition_given (Some e) h = join _ _ (wanted_given e h.1) (one (core.If (first g) (test_size (width g e)) (many []) (core.Exit 0)) refl)

  scalar_given : (to : Byte) (e : Expression) → IsExpressionOf p f e → AreGiven (scalar_code g to e)
  scalar_given to e h = join _ _ (wanted_given e h) (copies_given to (first g) (width g e))

  item_given : (to : Byte) (item : Item) → IsItemOf p f item → AreGiven (item_code g to item)
  item_given to (tree.Scalar offset e) h = scalar_given (behind to offset) e h.1
  item_given to (tree.Struct offset from size) h =
      join _ _ (pointer_given (spot_of g.layout g.copy from) (address_code g.layout g.copy g.base from) (place_given p f g.layout g.copy g.base from h.2))
      (struct_given g.layout.root (Fixed (behind to offset)) (spot_of g.layout g.copy from) (first g) size)
  item_given to (tree.Text offset bytes size) h = text_given (behind to offset) bytes size h.1

  items_given : (to : Byte) (size before : ℕ) (items : List Item) → AreItemsOf p f size before items → AreGiven (items_code g to items)
  items_given to size before [] h = none
  items_given to size before (item ∷ items) h = join _ _ (item_given to item h.1) (items_given to size (item_start item + item_bytes p.sizes item) items h.2)

  looped_given : (shape : LoopForm) (begin condition step : Option Expression) (body : List Tree) → AnyIsOf p f begin → AnyConditionIsOf p f condition → AnyIsOf p f step → AreGiven body
      → AreGiven (loop_code g shape begin condition step body)
  looped_given While begin condition step body b c s h = loop_given (condition_code g condition ++ body) (join _ _ (condition_given condition c) h)
  looped_given Do begin condition step body b c s h = loop_given (once body ++ condition_code g condition) (join _ _ (once_given body h) (condition_given condition c))
  looped_given For begin condition step body b c s h =
      join _ _ (any_given begin b) (loop_given (condition_code g condition ++ once body ++ any_code g step) (join _ _ (join _ _ (condition_given condition c) (once_given body h)) (any_given step s)))

  return_given : (o : Option Expression) → IsReturnOf p f o → AreGiven (return_code g o)
  return_given None h = one core.Leave refl
  return_given (Some e) h = join _ _ (join _ _ (wanted_given e h.1) (copies_given (result_byte g) (first g) (width g e))) (one core.Leave refl)

  choice_of_given : (condition : Expression) (chosen otherwise : List Tree) → IsExpressionOf p f condition → AreGiven chosen → AreGiven otherwise → AreGiven (arm_choice g condition chosen otherwise)
  choice_of_given condition chosen otherwise h c o =
      join _ _ (wanted_given condition h) (one (choice (first g) (width g condition) chosen otherwise) (choice_given (first g) (width g condition) chosen otherwise c o))

  mutual
    unfolding stmt_code stmts_code arms_code arm_code last_code segments_code

    statement_given : (j : Jumps) (declares leaves repeats : Bool) (s : Statement) → IsStatementOf p f declares leaves repeats s → AreGiven (stmt_code g j s)
    statement_given j d w r (tree.Block ss line) h = statements_given j true w r ss h
    statement_given j d w r (tree.Empty line) h = none
    statement_given j d w r (tree.Expr e line) h = any_given (Some e) h
    statement_given j d w r (tree.Declare local line) h = none
    statement_given j d w r (tree.InitScalar local e line) h = let is = h.1 in scalar_given (local_byte g local) e is.value
    statement_given j d w r (tree.InitList local items line) h =
        let is = h.1 in join _ _ (items_given (local_byte g local) _ 0 items is.fit) (rest_given g (local_byte g local) items (local_bytes g local))
    statement_given j d w r (tree.If arms otherwise line) h = arms_given j w r (last_code g j otherwise) arms (last_given j w r otherwise h.2) h.1
    statement_given j d w r (tree.Loop shape begin condition step body line) h =
        looped_given shape begin condition step (stmt_code g (jumps_in shape) body) h.0 h.1 h.2 (statement_given (jumps_in shape) false true true body h.3)
    statement_given j d w r (tree.Switch e cases default ss line) h =
        let labels = labels_of cases default in
        let count = segments_in ss labels in
        let inner = comparisons g e cases default labels count in
        let segments = segments_code g j labels count 0 0 ss in
        join _ _ (wanted_given e h.3) (labels_given labels (around inner segments)
        (nest_given (core.Loop (many inner) ∷ []) segments.later (loop_given inner (comparisons_given g e cases default labels count)) (segments_given j labels count 0 0 false true r ss h.4).later))
    statement_given j d w r (tree.Break line) h = one (core.Exit j.leave) refl
    statement_given j d w r (tree.Continue line) h = continue_given j
    statement_given j d w r (tree.Return value line) h = return_given value h

    statements_given : (j : Jumps) (declares leaves repeats : Bool) (ss : Statements) → AreStatementsOf p f declares leaves repeats ss → AreGiven (stmts_code g j ss)
    statements_given j d w r tree.NoStatement h = none
    statements_given j d w r (tree.AndStatement s ss) h = join _ _ (statement_given j d w r s h.0) (statements_given j d w r ss h.1)

    arms_given : (j : Jumps) (leaves repeats : Bool) (otherwise : List Tree) (arms : Arms) → AreGiven otherwise → AreArmsOf p f leaves repeats arms → AreGiven (arms_code g j otherwise arms)
    arms_given j w r otherwise tree.NoArm o h = o
    arms_given j w r otherwise (tree.AndArm arm arms) o h = arm_given j w r arm (arms_code g j otherwise arms) h.0 (arms_given j w r otherwise arms o h.1)

    arm_given : (j : Jumps) (leaves repeats : Bool) (arm : Arm) (otherwise : List Tree) → IsArmOf p f leaves repeats arm → AreGiven otherwise → AreGiven (arm_code g j arm otherwise)
    arm_given j w r (tree.OneArm condition chosen line) otherwise h o =
        let c = h.0 in choice_of_given condition (stmt_code g j chosen) otherwise c.1 (statement_given j false w r chosen h.1) o

    last_given : (j : Jumps) (leaves repeats : Bool) (otherwise : LastArm) → IsLastOf p f leaves repeats otherwise → AreGiven (last_code g j otherwise)
    last_given j w r tree.NoLast h = none
    last_given j w r (tree.Last s) h = statement_given j false w r s h

    segments_given : (j : Jumps) (labels : List ℕ) (count i begun : ℕ) (declares leaves repeats : Bool) (ss : Statements) → AreStatementsOf p f declares leaves repeats ss → AreParts (segments_code g j labels count i begun ss)
    segments_given j labels count i begun d w r tree.NoStatement h = cut_given (has labels i) no_segments (record { running = none; later = tt })
    segments_given j labels count i begun d w r (tree.AndStatement s ss) h =
        let next = begun_with (has labels i) begun in
        let code = stmt_code g (in_segment j (count - next)) s in
        let behind_it = segments_code g j labels count (i + 1) next ss in
        cut_given (has labels i) (joined code behind_it)
        (joined_given code behind_it (statement_given (in_segment j (count - next)) d w r s h.0) (segments_given j labels count (i + 1) next d w r ss h.1))

-- ---- bodies
function_given : (p : Program) (copies : List FnCopy) (c : ℕ) (root : Root) (f : ℕ) (o : Option FunctionTree) → slice_get p.functions f ≡ o → IsRunnable p → AreGiven (code_of p copies c root o)
function_given p copies c root f None is runs = one core.Leave refl
function_given p copies c root f (Some function) is runs =
    let lt : f < length p.functions = slice_get_within p.functions f function is in
    let same : function_at p f ≡ function = ap or_no_function is in
    let stands = subst (λ (x : FunctionTree). AreStatementsOf p f true false false x.body) same (runs.bodies f lt) in
    join _ _ (statements_given p f (ground_for p copies c root function) outside true false false function.body stands) (one core.Leave refl)

pub body_given : (p : Program) (copies : List FnCopy) → IsRunnable p → (c : ℕ) (o : Option FnCopy) → all_given (core.trees_of (body_in p copies c o)) ≡ true
body_given p copies runs c None = refl
body_given p copies runs c (Some copy) = by copy.root copy.function where
  by : (root : Root) (f : FnId) → all_given (core.trees_of (body_for p copies c root f)) ≡ true
  by root (User f) = (function_given p copies c root f (slice_get p.functions f) refl runs).is
  by root (Helper h) = refl

-- ---- numbers that are set
halves : (a b c d : Bool) → (a ≡ true → c ≡ true) → (b ≡ true → d ≡ true) → (a && b) ≡ true → (c && d) ≡ true
halves true true c d f h e = and_true c d (f refl) (h refl)
halves true false c d f h e = absurd (cc)
halves false b c d f h e = absurd (cc)

mutual
  given_sets : (t : Tree) → is_given t ≡ true → sets_bytes t ≡ true
  given_sets (core.Set to value) e = e
  given_sets (core.Address to place) e = refl
  given_sets (core.Copy to from) e = refl
  given_sets (core.Load to pointer count) e = refl
  given_sets (core.Store pointer from count) e = refl
  given_sets (core.Unary op ty to) e = refl
  given_sets (core.Binary op ty to left right) e = refl
  given_sets (core.Convert from to place) e = refl
  given_sets (core.BitRead to register bit) e = refl
  given_sets (core.BitWrite register bit from) e = refl
  given_sets (core.Call copy) e = refl
  given_sets core.Leave e = refl
  given_sets (core.Many ts) e = all_sets ts e
  given_sets (core.If test size holds fails) e = halves (is_given holds) (is_given fails) (sets_bytes holds) (sets_bytes fails) (given_sets holds) (given_sets fails) e
  given_sets (core.Loop body) e = given_sets body e
  given_sets (core.Exit count) e = refl
  given_sets (core.Again count) e = refl

  pub all_sets : (ts : Trees) → all_given ts ≡ true → all_set_bytes ts ≡ true
  all_sets core.NoTree e = refl
  all_sets (core.AndTree t ts) e = halves (is_given t) (all_given ts) (sets_bytes t) (all_set_bytes ts) (given_sets t) (all_sets ts) e

-- Each number that an operation of a body sets fits into a byte.
pub body_sets : (p : Program) (copies : List FnCopy) → IsRunnable p → (c : ℕ) (o : Option FnCopy) → all_set_bytes (core.trees_of (body_in p copies c o)) ≡ true
body_sets p copies runs c o = all_sets (core.trees_of (body_in p copies c o)) (body_given p copies runs c o)
