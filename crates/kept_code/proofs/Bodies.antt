-- The code of a function names static objects that the function names, and takes the addresses that it takes.
use Rattle.std.proofs.Common.{ℕ, zero, suc, ◌+◌, ◌-◌, ◌*◌, Bool, true, false, if◌then◌else◌, List, [], ◌∷◌, ◌++◌, Option, Some, None, slice_index, refl}
use Rattle.c_ints.specs.Range.{pattern}
use Rattle.c_ints.specs.declared.types.IntTy.{IntTy}
use Rattle.c_ints.specs.declared.operators.BinOp.TheVariants.{Eq}
use Rattle.c_typed.specs.Trees as tree
use Rattle.c_typed.specs.Trees.{Expression, Place, Item, Statement, Statements, Arm, Arms, LastArm, FunctionTree}
use Rattle.c_typed.specs.Types.{type_of}
use Rattle.c_typed.specs.declared.statement.LoopForm.{LoopForm}
use Rattle.c_typed.specs.declared.statement.LoopForm.TheVariants.{While, Do, For}
use Rattle.c_typed.specs.declared.statement.TCase.{TCase}
use Rattle.core_code.specs.Tree as core
use Rattle.core_code.specs.Tree.{Tree, many}
use Rattle.core_code.specs.declared.code.Byte.{Byte}
use Rattle.core_puts.specs.Bytes.{behind, operation_type}
use Rattle.core_puts.specs.Puts.{copies, sets, test_size}
use Rattle.lower_expr.specs.Lowering.{pointer_code, address_code}
use Rattle.lower_expr.specs.Rows.{struct_row}
use Rattle.lower_expr.specs.Spots.{spot_of}
use Rattle.lower_expr.specs.declared.places.Spot.TheVariants.{Fixed}
use Rattle.lower_stmt.specs.Bodies.{body_code}
use Rattle.lower_stmt.specs.Declarators.{scalar_code, text_code, struct_code, item_code, items_code, is_covered, rest_code, list_code}
use Rattle.lower_stmt.specs.Ground.{Ground, first, temporary, local_byte, local_bytes, value_code, effect_code, result_byte, width}
use Rattle.lower_stmt.specs.Jumps.{in_segment, outside}
use Rattle.lower_stmt.specs.Labels.{labels_of, has, segments_before}
use Rattle.lower_stmt.specs.Statements.{any_code, condition_code, once, jumps_in, loop_code, return_code, segments_in, stmt_code, stmts_code, arms_code, arm_code, last_code, segments_code, continue_code}
use Rattle.lower_stmt.specs.Switches.{case_code, cases_code, otherwise_segment, comparisons, Segments, no_segments, joined, cut, begun_with, nest, around, for_labels}
use Rattle.lower_stmt.specs.declared.jumps.Jumps.{Jumps}
use Rattle.vol_opt.specs.Uses.{uses, place_uses, any_uses, item_uses, items_uses, statement_uses, statements_uses, arm_uses, arms_uses, last_uses}
use Rattle.kept_code.specs.Naming.{tree_keeps}
use Rattle.kept_code.proofs.Expressions.{Passes, front, back, expr_fine, place_fine, spot_fine}
use Rattle.kept_code.proofs.Rows.{Fine, ByteFine, join, if_fine, behind_fine, copies_fine, set_fine, sets_fine, binary_fine, if_code_fine, loop_fine, choice_fine, struct_fine}

module _ (named lent : ℕ → Bool) (g : Ground) where
  abbrev P : (Bool → List ℕ) → Type 0
  P used = Passes named lent g.layout g.copy used

  abbrev F : List Tree → Type 0
  F ts = Fine named lent ts

  abbrev B : Byte → Type 0
  B b = ByteFine named lent b

  value_is : (e : Expression) → P (λ b. uses b e) → F (value_code g e)
  value_is e h = expr_fine named lent g.layout g.copy e g.base true h

  effect_is : (e : Expression) → P (λ b. uses b e) → F (effect_code g e)
  effect_is e h = expr_fine named lent g.layout g.copy e g.base false h

  -- ---- locals
  scalar_is : (to : Byte) (e : Expression) → B to → P (λ b. uses b e) → F (scalar_code g to e)
  scalar_is to e t h = join named lent (value_code g e) (copies to (first g) (width g e)) (value_is e h) (copies_fine named lent to (first g) (width g e) t refl)

  text_is : (to : Byte) (bytes : List ℕ) (n : ℕ) → B to → F (text_code to bytes n)
  unfolding text_code
  text_is to bytes zero t = refl
  text_is to bytes (suc place) t = join named lent (text_code to bytes place) (core.Set (behind to place) (slice_index bytes place) ∷ []) (text_is to bytes place t) (set_fine named lent (behind to place) (slice_index bytes place) (behind_fine named lent to place t))

  struct_is : (to : Byte) (from : Place) (size : ℕ) → B to → P (λ b. place_uses b from) → F (struct_code g to from size)
  struct_is to from size t h =
      let spot = spot_of g.layout g.copy from in
      join named lent (pointer_code spot (address_code g.layout g.copy g.base from)) (struct_row g.layout.root (Fixed to) spot (first g) size)
      (place_fine named lent g.layout g.copy from g.base h) (struct_fine named lent g.layout.root (Fixed to) spot (first g) size t (spot_fine named lent g.layout g.copy from h.names) refl)

  item_is : (to : Byte) (item : Item) → B to → P (λ b. item_uses b item) → F (item_code g to item)
  item_is to (tree.Scalar offset e) t h = scalar_is (behind to offset) e (behind_fine named lent to offset t) h
  item_is to (tree.Struct offset from size) t h = struct_is (behind to offset) from size (behind_fine named lent to offset t) h
  item_is to (tree.Text offset bytes size) t h = text_is (behind to offset) bytes size (behind_fine named lent to offset t)

  items_are : (to : Byte) (items : List Item) → B to → P (λ b. items_uses b items) → F (items_code g to items)
  items_are to [] t h = refl
  items_are to (item ∷ items) t h =
      join named lent (item_code g to item) (items_code g to items)
      (item_is to item t (front named lent g.layout g.copy (λ b. item_uses b item) (λ b. items_uses b items) h))
      (items_are to items t (back named lent g.layout g.copy (λ b. item_uses b item) (λ b. items_uses b items) h))

  rest_is : (to : Byte) (items : List Item) (n : ℕ) → B to → F (rest_code g to items n)
  unfolding rest_code
  rest_is to items zero t = refl
  rest_is to items (suc place) t =
      join named lent (rest_code g to items place) (if is_covered g items place then [] else core.Set (behind to place) 0 ∷ []) (rest_is to items place t)
      (if_fine named lent (is_covered g items place) [] (core.Set (behind to place) 0 ∷ []) refl (set_fine named lent (behind to place) 0 (behind_fine named lent to place t)))

  list_is : (local : ℕ) (items : List Item) → P (λ b. items_uses b items) → F (list_code g local items)
  list_is local items h = join named lent (items_code g (local_byte g local) items) (rest_code g (local_byte g local) items (local_bytes g local)) (items_are (local_byte g local) items refl h) (rest_is (local_byte g local) items (local_bytes g local) refl)

  -- ---- loops
  any_is : (e : Option Expression) → P (λ b. any_uses b e) → F (any_code g e)
  any_is None h = refl
  any_is (Some e) h = effect_is e h

  condition_is : (e : Option Expression) → P (λ b. any_uses b e) → F (condition_code g e)
  unfolding tree_keeps
  condition_is None h = refl
  condition_is (Some e) h = join named lent (value_code g e) (core.If (first g) (test_size (width g e)) (many []) (core.Exit 0) ∷ []) (value_is e h) (if_code_fine named lent (first g) (test_size (width g e)) (many []) (core.Exit 0) refl refl refl)

  exit_is : (n : ℕ) → F (core.Exit n ∷ [])
  unfolding tree_keeps
  exit_is n = refl

  once_is : (body : List Tree) → F body → F (once body)
  once_is body h = loop_fine named lent (body ++ core.Exit 0 ∷ []) (join named lent body (core.Exit 0 ∷ []) h (exit_is 0))

  loop_is : (shape : LoopForm) (begin condition step : Option Expression) (body : List Tree) → P (λ b. any_uses b begin) → P (λ b. any_uses b condition) → P (λ b. any_uses b step) → F body → F (loop_code g shape begin condition step body)
  loop_is While begin condition step body x c y h = loop_fine named lent (condition_code g condition ++ body) (join named lent (condition_code g condition) body (condition_is condition c) h)
  loop_is Do begin condition step body x c y h = loop_fine named lent (once body ++ condition_code g condition) (join named lent (once body) (condition_code g condition) (once_is body h) (condition_is condition c))
  loop_is For begin condition step body x c y h =
      let inner = condition_code g condition ++ once body ++ any_code g step in
      join named lent (any_code g begin) (core.Loop (many inner) ∷ []) (any_is begin x)
      (loop_fine named lent inner (join named lent (condition_code g condition ++ once body) (any_code g step) (join named lent (condition_code g condition) (once body) (condition_is condition c) (once_is body h)) (any_is step y)))

  continue_is : (j : Jumps) → F (continue_code j)
  unfolding tree_keeps
  continue_is j = by j.again
    where
      by : (b : Bool) → F ((if b then core.Again j.turn else core.Exit j.turn) ∷ [])
      by true = refl
      by false = refl

  return_is : (e : Option Expression) → P (λ b. any_uses b e) → F (return_code g e)
  unfolding tree_keeps
  return_is None h = refl
  return_is (Some e) h =
      join named lent (value_code g e ++ copies (result_byte g) (first g) (width g e)) (core.Leave ∷ [])
      (join named lent (value_code g e) (copies (result_byte g) (first g) (width g e)) (value_is e h) (copies_fine named lent (result_byte g) (first g) (width g e) refl refl)) refl

  -- ---- switches
  case_is : (ty : IntTy) (bytes : ℕ) (case : TCase) (segment : ℕ) → F (case_code g ty bytes case segment)
  unfolding tree_keeps
  case_is ty bytes case segment =
      join named lent (sets (temporary g bytes) (pattern case.value.ty case.value.number) bytes ++ core.Binary Eq ty (temporary g (2 * bytes)) (first g) (temporary g bytes) ∷ []) (core.If (temporary g (2 * bytes)) (test_size 2) (core.Exit segment) (many []) ∷ [])
      (join named lent (sets (temporary g bytes) (pattern case.value.ty case.value.number) bytes) (core.Binary Eq ty (temporary g (2 * bytes)) (first g) (temporary g bytes) ∷ []) (sets_fine named lent (temporary g bytes) (pattern case.value.ty case.value.number) bytes refl)
      (binary_fine named lent Eq ty (temporary g (2 * bytes)) (first g) (temporary g bytes) refl refl refl))
      (if_code_fine named lent (temporary g (2 * bytes)) (test_size 2) (core.Exit segment) (many []) refl refl refl)

  cases_are : (ty : IntTy) (bytes : ℕ) (labels : List ℕ) (cases : List TCase) → F (cases_code g ty bytes labels cases)
  cases_are ty bytes labels [] = refl
  cases_are ty bytes labels (case ∷ cases) = join named lent (case_code g ty bytes case (segments_before case.target labels)) (cases_code g ty bytes labels cases) (case_is ty bytes case (segments_before case.target labels)) (cases_are ty bytes labels cases)

  comparisons_are : (value : Expression) (cases : List TCase) (default : Option ℕ) (labels : List ℕ) (count : ℕ) → F (comparisons g value cases default labels count)
  comparisons_are value cases default labels count =
      join named lent (cases_code g (operation_type (type_of value)) (width g value) labels cases) (core.Exit (otherwise_segment labels count default) ∷ []) (cases_are (operation_type (type_of value)) (width g value) labels cases) (exit_is (otherwise_segment labels count default))

  AllFine : List (List Tree) → Type 0
  AllFine [] = Unit {0}
  AllFine (s ∷ ss) = F s × AllFine ss

  record AreFine (s : Segments) : Type 0 where
    pub running : F s.running
    pub later : AllFine s.later

  cut_is : (b : Bool) (s : Segments) → AreFine s → AreFine (cut b s)
  unfolding AllFine
  cut_is true s h = record { running = refl; later = (h.running, h.later) }
  cut_is false s h = h

  joined_is : (code : List Tree) (s : Segments) → F code → AreFine s → AreFine (joined code s)
  joined_is code s c h = record { running = join named lent code s.running c h.running; later = h.later }

  none_is : AreFine no_segments
  unfolding AllFine
  none_is = record { running = refl; later = tt }

  nest_is : (segments : List (List Tree)) (inner : List Tree) → F inner → AllFine segments → F (nest inner segments)
  unfolding AllFine
  nest_is [] inner i h = i
  nest_is (segment ∷ segments) inner i h =
      nest_is segments (core.Loop (many (inner ++ segment ++ core.Exit 0 ∷ [])) ∷ [])
      (loop_fine named lent (inner ++ segment ++ core.Exit 0 ∷ []) (join named lent (inner ++ segment) (core.Exit 0 ∷ []) (join named lent inner segment i h.0) (exit_is 0))) h.1

  labels_are : (labels : List ℕ) (code : List Tree) → F code → F (for_labels labels code)
  labels_are [] code h = refl
  labels_are (label ∷ labels) code h = h

  -- ---- statements
  mutual
    unfolding stmt_code stmts_code arms_code arm_code last_code segments_code statement_uses statements_uses arm_uses arms_uses last_uses

    stmt_is : (s : Statement) (j : Jumps) → P (λ b. statement_uses b s) → F (stmt_code g j s)
    stmt_is (tree.Block statements line) j h = stmts_are statements j h
    stmt_is (tree.Empty line) j h = refl
    stmt_is (tree.Expr value line) j h = effect_is value h
    stmt_is (tree.Declare local line) j h = refl
    stmt_is (tree.InitScalar local value line) j h = scalar_is (local_byte g local) value refl h
    stmt_is (tree.InitList local items line) j h = list_is local items h
    stmt_is (tree.If arms otherwise line) j h =
        arms_are arms j (last_code g j otherwise) (front named lent g.layout g.copy (λ b. arms_uses b arms) (λ b. last_uses b otherwise) h)
        (last_is otherwise j (back named lent g.layout g.copy (λ b. arms_uses b arms) (λ b. last_uses b otherwise) h))
    stmt_is (tree.Loop shape begin condition step body line) j h =
        let heads = front named lent g.layout g.copy (λ b. any_uses b begin ++ any_uses b condition ++ any_uses b step) (λ b. statement_uses b body) h in
        let two = front named lent g.layout g.copy (λ b. any_uses b begin ++ any_uses b condition) (λ b. any_uses b step) heads in
        loop_is shape begin condition step (stmt_code g (jumps_in shape) body)
        (front named lent g.layout g.copy (λ b. any_uses b begin) (λ b. any_uses b condition) two)
        (back named lent g.layout g.copy (λ b. any_uses b begin) (λ b. any_uses b condition) two)
        (back named lent g.layout g.copy (λ b. any_uses b begin ++ any_uses b condition) (λ b. any_uses b step) heads)
        (stmt_is body (jumps_in shape) (back named lent g.layout g.copy (λ b. any_uses b begin ++ any_uses b condition ++ any_uses b step) (λ b. statement_uses b body) h))
    stmt_is (tree.Switch value cases default statements line) j h =
        let labels = labels_of cases default in
        let count = segments_in statements labels in
        let segments = segments_code g j labels count 0 0 statements in
        let compared = comparisons g value cases default labels count in
        join named lent (value_code g value) (for_labels labels (around compared segments)) (value_is value (front named lent g.layout g.copy (λ b. uses b value) (λ b. statements_uses b statements) h))
        (labels_are labels (around compared segments)
        (nest_is segments.later (core.Loop (many compared) ∷ []) (loop_fine named lent compared (comparisons_are value cases default labels count))
        (segments_are statements j labels count 0 0 (back named lent g.layout g.copy (λ b. uses b value) (λ b. statements_uses b statements) h)).later))
    stmt_is (tree.Break line) j h = exit_is j.leave
    stmt_is (tree.Continue line) j h = continue_is j
    stmt_is (tree.Return value line) j h = return_is value h

    stmts_are : (ss : Statements) (j : Jumps) → P (λ b. statements_uses b ss) → F (stmts_code g j ss)
    stmts_are tree.NoStatement j h = refl
    stmts_are (tree.AndStatement s ss) j h =
        join named lent (stmt_code g j s) (stmts_code g j ss) (stmt_is s j (front named lent g.layout g.copy (λ b. statement_uses b s) (λ b. statements_uses b ss) h))
        (stmts_are ss j (back named lent g.layout g.copy (λ b. statement_uses b s) (λ b. statements_uses b ss) h))

    arms_are : (arms : Arms) (j : Jumps) (otherwise : List Tree) → P (λ b. arms_uses b arms) → F otherwise → F (arms_code g j otherwise arms)
    arms_are tree.NoArm j otherwise h o = o
    arms_are (tree.AndArm arm arms) j otherwise h o =
        arm_is arm j (arms_code g j otherwise arms) (front named lent g.layout g.copy (λ b. arm_uses b arm) (λ b. arms_uses b arms) h)
        (arms_are arms j otherwise (back named lent g.layout g.copy (λ b. arm_uses b arm) (λ b. arms_uses b arms) h) o)

    arm_is : (arm : Arm) (j : Jumps) (otherwise : List Tree) → P (λ b. arm_uses b arm) → F otherwise → F (arm_code g j arm otherwise)
    arm_is (tree.OneArm condition chosen line) j otherwise h o =
        join named lent (value_code g condition) _ (value_is condition (front named lent g.layout g.copy (λ b. uses b condition) (λ b. statement_uses b chosen) h))
        (choice_fine named lent (first g) (width g condition) (stmt_code g j chosen) otherwise refl (stmt_is chosen j (back named lent g.layout g.copy (λ b. uses b condition) (λ b. statement_uses b chosen) h)) o)

    last_is : (last : LastArm) (j : Jumps) → P (λ b. last_uses b last) → F (last_code g j last)
    last_is tree.NoLast j h = refl
    last_is (tree.Last s) j h = stmt_is s j h

    segments_are : (ss : Statements) (j : Jumps) (labels : List ℕ) (count i begun : ℕ) → P (λ b. statements_uses b ss) → AreFine (segments_code g j labels count i begun ss)
    segments_are tree.NoStatement j labels count i begun h = cut_is (has labels i) no_segments none_is
    segments_are (tree.AndStatement s ss) j labels count i begun h =
        cut_is (has labels i) (joined (stmt_code g (in_segment j (count - begun_with (has labels i) begun)) s) (segments_code g j labels count (i + 1) (begun_with (has labels i) begun) ss))
        (joined_is (stmt_code g (in_segment j (count - begun_with (has labels i) begun)) s) (segments_code g j labels count (i + 1) (begun_with (has labels i) begun) ss)
        (stmt_is s (in_segment j (count - begun_with (has labels i) begun)) (front named lent g.layout g.copy (λ b. statement_uses b s) (λ b. statements_uses b ss) h))
        (segments_are ss j labels count (i + 1) (begun_with (has labels i) begun) (back named lent g.layout g.copy (λ b. statement_uses b s) (λ b. statements_uses b ss) h)))

  pub body_is : (f : FunctionTree) → P (λ b. statements_uses b f.body) → F (body_code g f)
  unfolding tree_keeps
  body_is f h = join named lent (stmts_code g outside f.body) (core.Leave ∷ []) (stmts_are f.body outside h) refl
