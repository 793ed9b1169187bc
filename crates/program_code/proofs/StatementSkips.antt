-- In byte code of statements, and of each body, operators work on bytes of the copy's frame and on results.
use Rattle.std.proofs.Common.{◌≡◌, ℕ, zero, suc, ◌+◌, ◌*◌, ◌-◌, nat_eq, Bool, true, false, if◌then◌else◌, List, [], ◌∷◌, ◌++◌, Option, Some, None, refl}
use Rattle.std.specs.Prelude.{slice_index}
use Rattle.std.proofs.lemmas.Bool.{eq-eqb}
use Rattle.c_ints.specs.Range.{pattern}
use Rattle.c_ints.specs.declared.operators.BinOp.TheVariants as binop
use Rattle.c_ints.specs.declared.types.IntTy.{IntTy}
use Rattle.c_typed.specs.Trees as tree
use Rattle.c_typed.specs.Trees.{Expression, Item, Statement, Statements, Arm, Arms, LastArm, Program, FunctionTree}
use Rattle.c_typed.specs.Types.{type_of}
use Rattle.c_typed.specs.declared.statement.LoopForm.{LoopForm}
use Rattle.c_typed.specs.declared.statement.LoopForm.TheVariants.{While, Do, For}
use Rattle.c_typed.specs.declared.statement.TCase.{TCase}
use Rattle.call_graph.specs.declared.types.FnCopy.{FnCopy}
use Rattle.core_code.specs.Tree as core
use Rattle.core_code.specs.Tree.{Tree, many}
use Rattle.core_code.specs.declared.code.Byte.{Byte}
use Rattle.core_puts.specs.Bytes.{behind, operation_type}
use Rattle.lower_expr.specs.Lowering.{address_code}
use Rattle.core_puts.specs.Puts.{choice, test_size}
use Rattle.lower_expr.specs.Spots.{spot_of}
use Rattle.lower_expr.specs.declared.places.Spot.TheVariants.{Fixed}
use Rattle.lower_stmt.specs.Bodies.{body_code}
use Rattle.lower_stmt.specs.Declarators.{scalar_code, text_code, item_code, items_code, is_covered, rest_code}
use Rattle.lower_stmt.specs.Frames.{ground_for}
use Rattle.lower_stmt.specs.Ground.{Ground, first, temporary, result_byte, local_byte, local_bytes, width, value_code}
use Rattle.lower_stmt.specs.Jumps.{outside, in_segment}
use Rattle.lower_stmt.specs.Labels.{labels_of, has, segments_before}
use Rattle.lower_stmt.specs.Statements.{any_code, condition_code, once, jumps_in, loop_code, continue_code, return_code, arm_choice, segments_in, stmt_code, stmts_code, arms_code, arm_code, last_code, segments_code}
use Rattle.lower_stmt.specs.Switches.{case_code, cases_code, comparisons, Segments, no_segments, cut, joined, begun_with, nest, around, for_labels}
use Rattle.lower_stmt.specs.declared.jumps.Jumps.{Jumps}
use Rattle.pic_world.specs.declared.Root.{Root}
use Rattle.program_code.specs.Close.{all_close}
use Rattle.program_code.proofs.ExpressionSkips.{expression_close, place_close}
use Rattle.program_code.proofs.PutSkips.{AreClose, none, one, join, either, works, copies_close, sets_close, choice_close, pointer_close, struct_close}

module _ (g : Ground) where
  own : nat_eq g.copy g.copy ≡ true
  own = eq-eqb g.copy g.copy refl

  -- ---- first values
  text_close : (to : Byte) (bytes : List ℕ) (count : ℕ) → AreClose g.copy (text_code to bytes count)
  unfolding text_code
  text_close to bytes zero = none g.copy
  text_close to bytes (suc place) =
      join g.copy (text_code to bytes place) (core.Set (behind to place) (slice_index bytes place) ∷ []) (text_close to bytes place)
      (one g.copy (core.Set (behind to place) (slice_index bytes place)) refl)

  rest_close : (to : Byte) (items : List Item) (count : ℕ) → AreClose g.copy (rest_code g to items count)
  unfolding rest_code
  rest_close to items zero = none g.copy
  rest_close to items (suc place) =
      join g.copy _ _ (rest_close to items place) (either g.copy (is_covered g items place) [] (core.Set (behind to place) 0 ∷ []) (none g.copy) (one g.copy (core.Set (behind to place) 0) refl))

  -- ---- loops and switches
  loop_close : (code : List Tree) → AreClose g.copy code → AreClose g.copy (core.Loop (many code) ∷ [])
  loop_close code h = one g.copy (core.Loop (many code)) h.is

  once_close : (body : List Tree) → AreClose g.copy body → AreClose g.copy (once body)
  once_close body h = loop_close (body ++ core.Exit 0 ∷ []) (join g.copy body (core.Exit 0 ∷ []) h (one g.copy (core.Exit 0) refl))

  case_close : (ty : IntTy) (bytes : ℕ) (case : TCase) (segment : ℕ) → AreClose g.copy (case_code g ty bytes case segment)
  case_close ty bytes case segment =
      join g.copy _ _ (join g.copy _ _ (sets_close g.copy (temporary g bytes) (pattern case.value.ty case.value.number) bytes) (one g.copy _ (works g.copy binop.Eq ty (temporary g (2 * bytes)) (first g) (temporary g bytes) own own own))) (one g.copy _ refl)

  cases_close : (ty : IntTy) (bytes : ℕ) (labels : List ℕ) (cases : List TCase) → AreClose g.copy (cases_code g ty bytes labels cases)
  cases_close ty bytes labels [] = none g.copy
  cases_close ty bytes labels (case ∷ cases) = join g.copy _ _ (case_close ty bytes case (segments_before case.target labels)) (cases_close ty bytes labels cases)

  comparisons_close : (value : Expression) (cases : List TCase) (default : Option ℕ) (labels : List ℕ) (count : ℕ) → AreClose g.copy (comparisons g value cases default labels count)
  comparisons_close value cases default labels count = join g.copy _ _ (cases_close (operation_type (type_of value)) (width g value) labels cases) (one g.copy _ refl)

  abbrev AllClose : List (List Tree) → Type 0
  AllClose [] = Unit {0}
  AllClose (code ∷ codes) = AreClose g.copy code × AllClose codes

  record AreParts (s : Segments) : Type 0 where
    running : AreClose g.copy s.running
    later : AllClose s.later

  cut_close : (begins : Bool) (s : Segments) → AreParts s → AreParts (cut begins s)
  cut_close true s h = record { running = none g.copy; later = (h.running, h.later) }
  cut_close false s h = h

  joined_close : (code : List Tree) (s : Segments) → AreClose g.copy code → AreParts s → AreParts (joined code s)
  joined_close code s first_is h = record { running = join g.copy code s.running first_is h.running; later = h.later }

  nest_close : (inner : List Tree) (segments : List (List Tree)) → AreClose g.copy inner → AllClose segments → AreClose g.copy (nest inner segments)
  nest_close inner [] i h = i
  nest_close inner (segment ∷ segments) i h =
      let code = inner ++ segment ++ core.Exit 0 ∷ [] in
      nest_close (core.Loop (many code) ∷ []) segments (loop_close code (join g.copy (inner ++ segment) (core.Exit 0 ∷ []) (join g.copy inner segment i h.0) (one g.copy (core.Exit 0) refl))) h.1

  labels_close : (labels : List ℕ) (code : List Tree) → AreClose g.copy code → AreClose g.copy (for_labels labels code)
  labels_close [] code h = none g.copy
  labels_close (label ∷ labels) code h = h

  continue_close : (j : Jumps) → AreClose g.copy (continue_code j)
  continue_close j = by j.again where
    by : (b : Bool) → AreClose g.copy ((if b then core.Again j.turn else core.Exit j.turn) ∷ [])
    by true = one g.copy (core.Again j.turn) refl
    by false = one g.copy (core.Exit j.turn) refl

  -- ---- statements
  wanted_close : (e : Expression) → AreClose g.copy (value_code g e)
  wanted_close e = expression_close g.layout g.copy g.base true e

  any_close : (o : Option Expression) → AreClose g.copy (any_code g o)
  any_close None = none g.copy
  any_close (Some e) = expression_close g.layout g.copy g.base false e

  condition_close : (o : Option Expression) → AreClose g.copy (condition_code g o)
  condition_close None = none g.copy
  condition_close (Some e) = join g.copy _ _ (wanted_close e) (one g.copy (core.If (first g) (test_size (width g e)) (many []) (core.Exit 0)) refl)

  scalar_close : (to : Byte) (e : Expression) → AreClose g.copy (scalar_code g to e)
  scalar_close to e = join g.copy _ _ (wanted_close e) (copies_close g.copy to (first g) (width g e))

  item_close : (to : Byte) (item : Item) → AreClose g.copy (item_code g to item)
  item_close to (tree.Scalar offset e) = scalar_close (behind to offset) e
  item_close to (tree.Struct offset from size) =
      join g.copy _ _ (pointer_close g.copy (spot_of g.layout g.copy from) (address_code g.layout g.copy g.base from) (place_close g.layout g.copy g.base from))
      (struct_close g.copy g.layout.root (Fixed (behind to offset)) (spot_of g.layout g.copy from) (first g) size own)
  item_close to (tree.Text offset bytes size) = text_close (behind to offset) bytes size

  items_close : (to : Byte) (items : List Item) → AreClose g.copy (items_code g to items)
  items_close to [] = none g.copy
  items_close to (item ∷ items) = join g.copy _ _ (item_close to item) (items_close to items)

  looped_close : (shape : LoopForm) (begin condition step : Option Expression) (body : List Tree) → AreClose g.copy body → AreClose g.copy (loop_code g shape begin condition step body)
  looped_close While begin condition step body h = loop_close (condition_code g condition ++ body) (join g.copy _ _ (condition_close condition) h)
  looped_close Do begin condition step body h = loop_close (once body ++ condition_code g condition) (join g.copy _ _ (once_close body h) (condition_close condition))
  looped_close For begin condition step body h =
      join g.copy _ _ (any_close begin) (loop_close (condition_code g condition ++ once body ++ any_code g step) (join g.copy _ _ (join g.copy _ _ (condition_close condition) (once_close body h)) (any_close step)))

  return_close : (o : Option Expression) → AreClose g.copy (return_code g o)
  return_close None = one g.copy core.Leave refl
  return_close (Some e) = join g.copy _ _ (join g.copy _ _ (wanted_close e) (copies_close g.copy (result_byte g) (first g) (width g e))) (one g.copy core.Leave refl)

  choice_of_close : (condition : Expression) (chosen otherwise : List Tree) → AreClose g.copy chosen → AreClose g.copy otherwise → AreClose g.copy (arm_choice g condition chosen otherwise)
  choice_of_close condition chosen otherwise h o =
      join g.copy _ _ (wanted_close condition) (one g.copy (choice (first g) (width g condition) chosen otherwise) (choice_close g.copy (first g) (width g condition) chosen otherwise h o))

  mutual
    unfolding stmt_code stmts_code arms_code arm_code last_code segments_code

    statement_close : (j : Jumps) (s : Statement) → AreClose g.copy (stmt_code g j s)
    statement_close j (tree.Block ss line) = statements_close j ss
    statement_close j (tree.Empty line) = none g.copy
    statement_close j (tree.Expr e line) = any_close (Some e)
    statement_close j (tree.Declare local line) = none g.copy
    statement_close j (tree.InitScalar local e line) = scalar_close (local_byte g local) e
    statement_close j (tree.InitList local items line) = join g.copy _ _ (items_close (local_byte g local) items) (rest_close (local_byte g local) items (local_bytes g local))
    statement_close j (tree.If arms otherwise line) = arms_close j (last_code g j otherwise) arms (last_close j otherwise)
    statement_close j (tree.Loop shape begin condition step body line) = looped_close shape begin condition step (stmt_code g (jumps_in shape) body) (statement_close (jumps_in shape) body)
    statement_close j (tree.Switch e cases default ss line) =
        let labels = labels_of cases default in
        let count = segments_in ss labels in
        let inner = comparisons g e cases default labels count in
        let segments = segments_code g j labels count 0 0 ss in
        join g.copy _ _ (wanted_close e) (labels_close labels (around inner segments)
        (nest_close (core.Loop (many inner) ∷ []) segments.later (loop_close inner (comparisons_close e cases default labels count)) (segments_close j labels count 0 0 ss).later))
    statement_close j (tree.Break line) = one g.copy (core.Exit j.leave) refl
    statement_close j (tree.Continue line) = continue_close j
    statement_close j (tree.Return value line) = return_close value

    pub statements_close : (j : Jumps) (ss : Statements) → AreClose g.copy (stmts_code g j ss)
    statements_close j tree.NoStatement = none g.copy
    statements_close j (tree.AndStatement s ss) = join g.copy _ _ (statement_close j s) (statements_close j ss)

    arms_close : (j : Jumps) (otherwise : List Tree) (arms : Arms) → AreClose g.copy otherwise → AreClose g.copy (arms_code g j otherwise arms)
    arms_close j otherwise tree.NoArm o = o
    arms_close j otherwise (tree.AndArm arm arms) o = arm_close j arm (arms_code g j otherwise arms) (arms_close j otherwise arms o)

    arm_close : (j : Jumps) (arm : Arm) (otherwise : List Tree) → AreClose g.copy otherwise → AreClose g.copy (arm_code g j arm otherwise)
    arm_close j (tree.OneArm condition chosen line) otherwise o = choice_of_close condition (stmt_code g j chosen) otherwise (statement_close j chosen) o

    last_close : (j : Jumps) (otherwise : LastArm) → AreClose g.copy (last_code g j otherwise)
    last_close j tree.NoLast = none g.copy
    last_close j (tree.Last s) = statement_close j s

    segments_close : (j : Jumps) (labels : List ℕ) (count i begun : ℕ) (ss : Statements) → AreParts (segments_code g j labels count i begun ss)
    segments_close j labels count i begun tree.NoStatement = cut_close (has labels i) no_segments (record { running = none g.copy; later = tt })
    segments_close j labels count i begun (tree.AndStatement s ss) =
        let next = begun_with (has labels i) begun in
        let code = stmt_code g (in_segment j (count - next)) s in
        let behind_it = segments_code g j labels count (i + 1) next ss in
        cut_close (has labels i) (joined code behind_it)
        (joined_close code behind_it (statement_close (in_segment j (count - next)) s) (segments_close j labels count (i + 1) next ss))

-- ---- bodies
pub function_close : (p : Program) (copies : List FnCopy) (number : ℕ) (root : Root) (f : FunctionTree) → all_close number (core.trees_of (body_code (ground_for p copies number root f) f)) ≡ true
function_close p copies number root f =
    let g = ground_for p copies number root f in
    (join number (stmts_code g outside f.body) (core.Leave ∷ []) (statements_close g outside f.body) (one number core.Leave refl)).is
