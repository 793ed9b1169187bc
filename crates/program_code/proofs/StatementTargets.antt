-- Byte code of statements, and of each body, calls only copies by their numbers in the layout.
use Rattle.std.proofs.Common.{◌≡◌, ℕ, zero, suc, ◌+◌, ◌-◌, ◌≤◌, Bool, true, false, nat_lt, if◌then◌else◌, List, [], ◌∷◌, ◌++◌, length, replicate, Option, Some, None, refl, arith}
use Rattle.std.specs.Prelude.{slice_get, slice_index, slice_set}
use Rattle.std.proofs.lemmas.Bool.{lt-ltb}
use Rattle.c_ints.specs.Range.{pattern}
use Rattle.c_ints.specs.declared.types.IntTy.{IntTy}
use Rattle.c_typed.specs.Trees as tree
use Rattle.c_typed.specs.Trees.{Expression, Item, Statement, Statements, Arm, Arms, LastArm, Program, FunctionTree}
use Rattle.c_typed.specs.Types.{type_of}
use Rattle.c_typed.specs.declared.statement.LoopForm.{LoopForm}
use Rattle.c_typed.specs.declared.statement.LoopForm.TheVariants.{While, Do, For}
use Rattle.c_typed.specs.declared.statement.TCase.{TCase}
use Rattle.call_graph.specs.declared.types.FnCopy.{FnCopy}
use Rattle.core_code.specs.Tree as core
use Rattle.core_code.specs.Tree.{Tree, many, trees_of}
use Rattle.core_code.specs.declared.code.Byte.{Byte}
use Rattle.core_puts.specs.Bytes.{behind, operation_type}
use Rattle.lower_expr.specs.Layout.{known_copy, copy_in, copy_of}
use Rattle.lower_expr.specs.Lowering.{address_code}
use Rattle.core_puts.specs.Puts.{choice, test_size}
use Rattle.lower_expr.specs.Spots.{spot_of}
use Rattle.lower_expr.specs.declared.places.Spot.TheVariants.{Fixed}
use Rattle.lower_stmt.specs.Bodies.{code_of}
use Rattle.lower_stmt.specs.Declarators.{scalar_code, text_code, item_code, items_code, is_covered, rest_code}
use Rattle.lower_stmt.specs.Frames.{function_under, marked_at, marked, layout_for, ground_for}
use Rattle.lower_stmt.specs.Ground.{Ground, first, temporary, result_byte, local_byte, local_bytes, width, value_code}
use Rattle.lower_stmt.specs.Jumps.{outside, in_segment}
use Rattle.lower_stmt.specs.Labels.{labels_of, has, segments_before}
use Rattle.lower_stmt.specs.Statements.{any_code, condition_code, once, jumps_in, loop_code, continue_code, return_code, arm_choice, segments_in, stmt_code, stmts_code, arms_code, arm_code, last_code, segments_code}
use Rattle.lower_stmt.specs.Switches.{case_code, cases_code, comparisons, Segments, no_segments, cut, joined, begun_with, nest, around, for_labels}
use Rattle.lower_stmt.specs.declared.jumps.Jumps.{Jumps}
use Rattle.pic_world.specs.declared.Root.{Root}
use Rattle.program_code.specs.Calling.{all_below}
use Rattle.program_code.proofs.ExpressionTargets.{expression_below, place_below}
use Rattle.program_code.proofs.RowTargets.{AreBelow, none, one, join, either, copies_below, sets_below, choice_below, pointer_below, struct_below}

text_below : (limit : ℕ) (to : Byte) (bytes : List ℕ) (count : ℕ) → AreBelow limit (text_code to bytes count)
unfolding text_code
text_below limit to bytes zero = none limit
text_below limit to bytes (suc place) =
    join limit (text_code to bytes place) (core.Set (behind to place) (slice_index bytes place) ∷ []) (text_below limit to bytes place)
    (one limit (core.Set (behind to place) (slice_index bytes place)) refl)

rest_below : (limit : ℕ) (g : Ground) (to : Byte) (items : List Item) (count : ℕ) → AreBelow limit (rest_code g to items count)
unfolding rest_code
rest_below limit g to items zero = none limit
rest_below limit g to items (suc place) =
    join limit _ _ (rest_below limit g to items place) (either limit (is_covered g items place) [] (core.Set (behind to place) 0 ∷ []) (none limit) (one limit (core.Set (behind to place) 0) refl))

-- ---- loops and switches
loop_below : (limit : ℕ) (code : List Tree) → AreBelow limit code → AreBelow limit (core.Loop (many code) ∷ [])
loop_below limit code h = one limit (core.Loop (many code)) h.is

once_below : (limit : ℕ) (body : List Tree) → AreBelow limit body → AreBelow limit (once body)
once_below limit body h = loop_below limit (body ++ core.Exit 0 ∷ []) (join limit body (core.Exit 0 ∷ []) h (one limit (core.Exit 0) refl))

case_below : (limit : ℕ) (g : Ground) (ty : IntTy) (bytes : ℕ) (case : TCase) (segment : ℕ) → AreBelow limit (case_code g ty bytes case segment)
case_below limit g ty bytes case segment =
    join limit _ _ (join limit _ _ (sets_below limit (temporary g bytes) (pattern case.value.ty case.value.number) bytes) (one limit _ refl)) (one limit _ refl)

cases_below : (limit : ℕ) (g : Ground) (ty : IntTy) (bytes : ℕ) (labels : List ℕ) (cases : List TCase) → AreBelow limit (cases_code g ty bytes labels cases)
cases_below limit g ty bytes labels [] = none limit
cases_below limit g ty bytes labels (case ∷ cases) = join limit _ _ (case_below limit g ty bytes case (segments_before case.target labels)) (cases_below limit g ty bytes labels cases)

comparisons_below : (limit : ℕ) (g : Ground) (value : Expression) (cases : List TCase) (default : Option ℕ) (labels : List ℕ) (count : ℕ) → AreBelow limit (comparisons g value cases default labels count)
comparisons_below limit g value cases default labels count = join limit _ _ (cases_below limit g (operation_type (type_of value)) (width g value) labels cases) (one limit _ refl)

abbrev AllOf : ℕ → List (List Tree) → Type 0
AllOf limit [] = Unit {0}
AllOf limit (code ∷ codes) = AreBelow limit code × AllOf limit codes

record AreParts (limit : ℕ) (s : Segments) : Type 0 where
  running : AreBelow limit s.running
  later : AllOf limit s.later

cut_below : (limit : ℕ) (begins : Bool) (s : Segments) → AreParts limit s → AreParts limit (cut begins s)
cut_below limit true s h = record { running = none limit; later = (h.running, h.later) }
cut_below limit false s h = h

joined_below : (limit : ℕ) (code : List Tree) (s : Segments) → AreBelow limit code → AreParts limit s → AreParts limit (joined code s)
joined_below limit code s c h = record { running = join limit code s.running c h.running; later = h.later }

nest_below : (limit : ℕ) (inner : List Tree) (segments : List (List Tree)) → AreBelow limit inner → AllOf limit segments → AreBelow limit (nest inner segments)
nest_below limit inner [] i h = i
nest_below limit inner (segment ∷ segments) i h =
    let code = inner ++ segment ++ core.Exit 0 ∷ [] in
    nest_below limit (core.Loop (many code) ∷ []) segments (loop_below limit code (join limit (inner ++ segment) (core.Exit 0 ∷ []) (join limit inner segment i h.0) (one limit (core.Exit 0) refl))) h.1

labels_below : (limit : ℕ) (labels : List ℕ) (code : List Tree) → AreBelow limit code → AreBelow limit (for_labels labels code)
labels_below limit [] code h = none limit
labels_below limit (label ∷ labels) code h = h

continue_below : (limit : ℕ) (j : Jumps) → AreBelow limit (continue_code j)
continue_below limit j = by j.again where
  by : (b : Bool) → AreBelow limit ((if b then core.Again j.turn else core.Exit j.turn) ∷ [])
  by true = one limit (core.Again j.turn) refl
  by false = one limit (core.Exit j.turn) refl

module _ (limit : ℕ) (g : Ground) (low : (function : ℕ) → nat_lt (copy_of g.layout function) limit ≡ true) where
  wanted_below : (e : Expression) → AreBelow limit (value_code g e)
  wanted_below e = expression_below limit g.layout g.copy low g.base true e

  any_below : (o : Option Expression) → AreBelow limit (any_code g o)
  any_below None = none limit
  any_below (Some e) = expression_below limit g.layout g.copy low g.base false e

  condition_below : (o : Option Expression) → AreBelow limit (condition_code g o)
  condition_below None = none limit
  condition_below (Some e) = join limit _ _ (wanted_below e) (one limit (core.If (first g) (test_size (width g e)) (many []) (core.Exit 0)) refl)

  scalar_below : (to : Byte) (e : Expression) → AreBelow limit (scalar_code g to e)
  scalar_below to e = join limit _ _ (wanted_below e) (copies_below limit to (first g) (width g e))

  item_below : (to : Byte) (item : Item) → AreBelow limit (item_code g to item)
  item_below to (tree.Scalar offset e) = scalar_below (behind to offset) e
  item_below to (tree.Struct offset from size) =
      join limit _ _ (pointer_below limit (spot_of g.layout g.copy from) (address_code g.layout g.copy g.base from) (place_below limit g.layout g.copy low g.base from))
      (struct_below limit g.layout.root (Fixed (behind to offset)) (spot_of g.layout g.copy from) (first g) size)
  item_below to (tree.Text offset bytes size) = text_below limit (behind to offset) bytes size

  items_below : (to : Byte) (items : List Item) → AreBelow limit (items_code g to items)
  items_below to [] = none limit
  items_below to (item ∷ items) = join limit _ _ (item_below to item) (items_below to items)

  looped_below : (shape : LoopForm) (begin condition step : Option Expression) (body : List Tree) → AreBelow limit body → AreBelow limit (loop_code g shape begin condition step body)
  looped_below While begin condition step body h = loop_below limit (condition_code g condition ++ body) (join limit _ _ (condition_below condition) h)
  looped_below Do begin condition step body h = loop_below limit (once body ++ condition_code g condition) (join limit _ _ (once_below limit body h) (condition_below condition))
  looped_below For begin condition step body h =
      join limit _ _ (any_below begin)
      (loop_below limit (condition_code g condition ++ once body ++ any_code g step) (join limit _ _ (join limit _ _ (condition_below condition) (once_below limit body h)) (any_below step)))

  return_below : (o : Option Expression) → AreBelow limit (return_code g o)
  return_below None = one limit core.Leave refl
  return_below (Some e) = join limit _ _ (join limit _ _ (wanted_below e) (copies_below limit (result_byte g) (first g) (width g e))) (one limit core.Leave refl)

  chosen_below : (condition : Expression) (chosen otherwise : List Tree) → AreBelow limit chosen → AreBelow limit otherwise → AreBelow limit (arm_choice g condition chosen otherwise)
  chosen_below condition chosen otherwise c o =
      join limit _ _ (wanted_below condition) (one limit (choice (first g) (width g condition) chosen otherwise) (choice_below limit (first g) (width g condition) chosen otherwise c o))

  mutual
    unfolding stmt_code stmts_code arms_code arm_code last_code segments_code

    statement_below : (j : Jumps) (s : Statement) → AreBelow limit (stmt_code g j s)
    statement_below j (tree.Block ss line) = statements_below j ss
    statement_below j (tree.Empty line) = none limit
    statement_below j (tree.Expr e line) = any_below (Some e)
    statement_below j (tree.Declare local line) = none limit
    statement_below j (tree.InitScalar local e line) = scalar_below (local_byte g local) e
    statement_below j (tree.InitList local items line) =
        join limit _ _ (items_below (local_byte g local) items) (rest_below limit g (local_byte g local) items (local_bytes g local))
    statement_below j (tree.If arms otherwise line) = arms_below j (last_code g j otherwise) arms (last_below j otherwise)
    statement_below j (tree.Loop shape begin condition step body line) =
        looped_below shape begin condition step (stmt_code g (jumps_in shape) body) (statement_below (jumps_in shape) body)
    statement_below j (tree.Switch e cases default ss line) =
        let labels = labels_of cases default in
        let count = segments_in ss labels in
        let inner = comparisons g e cases default labels count in
        let segments = segments_code g j labels count 0 0 ss in
        join limit _ _ (wanted_below e) (labels_below limit labels (around inner segments)
        (nest_below limit (core.Loop (many inner) ∷ []) segments.later (loop_below limit inner (comparisons_below limit g e cases default labels count)) (segments_below j labels count 0 0 ss).later))
    statement_below j (tree.Break line) = one limit (core.Exit j.leave) refl
    statement_below j (tree.Continue line) = continue_below limit j
    statement_below j (tree.Return value line) = return_below value

    pub statements_below : (j : Jumps) (ss : Statements) → AreBelow limit (stmts_code g j ss)
    statements_below j tree.NoStatement = none limit
    statements_below j (tree.AndStatement s ss) = join limit _ _ (statement_below j s) (statements_below j ss)

    arms_below : (j : Jumps) (otherwise : List Tree) (arms : Arms) → AreBelow limit otherwise → AreBelow limit (arms_code g j otherwise arms)
    arms_below j otherwise tree.NoArm o = o
    arms_below j otherwise (tree.AndArm arm arms) o = arm_below j arm (arms_code g j otherwise arms) (arms_below j otherwise arms o)

    arm_below : (j : Jumps) (arm : Arm) (otherwise : List Tree) → AreBelow limit otherwise → AreBelow limit (arm_code g j arm otherwise)
    arm_below j (tree.OneArm condition chosen line) otherwise o = chosen_below condition (stmt_code g j chosen) otherwise (statement_below j chosen) o

    last_below : (j : Jumps) (otherwise : LastArm) → AreBelow limit (last_code g j otherwise)
    last_below j tree.NoLast = none limit
    last_below j (tree.Last s) = statement_below j s

    segments_below : (j : Jumps) (labels : List ℕ) (count i begun : ℕ) (ss : Statements) → AreParts limit (segments_code g j labels count i begun ss)
    segments_below j labels count i begun tree.NoStatement = cut_below limit (has labels i) no_segments (record { running = none limit; later = tt })
    segments_below j labels count i begun (tree.AndStatement s ss) =
        let next = begun_with (has labels i) begun in
        let code = stmt_code g (in_segment j (count - next)) s in
        let behind_it = segments_code g j labels count (i + 1) next ss in
        cut_below limit (has labels i) (joined code behind_it)
        (joined_below limit code behind_it (statement_below (in_segment j (count - next)) s) (segments_below j labels count (i + 1) next ss))

-- ---- the copies that a layout knows
-- each number is below this one
abbrev AreLow : ℕ → List (Option ℕ) → Type 0
AreLow limit [] = Unit {0}
AreLow limit (number ∷ numbers) = (nat_lt (known_copy number) limit ≡ true) × AreLow limit numbers

none_low : (limit n : ℕ) → nat_lt 0 limit ≡ true → AreLow limit (replicate n None)
none_low limit zero some = tt
none_low limit (suc n) some = (some, none_low limit n some)

set_low : (limit : ℕ) (numbers : List (Option ℕ)) (f number : ℕ) → nat_lt number limit ≡ true → AreLow limit numbers → AreLow limit (slice_set numbers f (Some number))
set_low limit [] f number low h = tt
set_low limit (x ∷ numbers) zero number low h = (low, h.1)
set_low limit (x ∷ numbers) (suc f) number low h = (h.0, set_low limit numbers f number low h.1)

mark_low : (limit : ℕ) (o : Option ℕ) (number : ℕ) (numbers : List (Option ℕ)) → nat_lt number limit ≡ true → AreLow limit numbers → AreLow limit (marked_at o number numbers)
mark_low limit None number numbers low h = h
mark_low limit (Some f) number numbers low h = set_low limit numbers f number low h

marks_low : (limit : ℕ) (root : Root) (number : ℕ) (copies : List FnCopy) (numbers : List (Option ℕ)) → number + length copies ≤ limit → AreLow limit numbers → AreLow limit (marked root number copies numbers)
marks_low limit root number [] numbers le h = h
marks_low limit root number (copy ∷ copies) numbers le h =
    marks_low limit root (number + 1) copies (marked_at (function_under root copy) number numbers) (omega arith) (mark_low limit (function_under root copy) number numbers (lt-ltb number limit (omega arith)) h)

low_at : (limit : ℕ) (numbers : List (Option ℕ)) (f : ℕ) → nat_lt 0 limit ≡ true → AreLow limit numbers → nat_lt (copy_in (slice_get numbers f)) limit ≡ true
low_at limit [] f some h = some
low_at limit (number ∷ numbers) zero some h = h.0
low_at limit (number ∷ numbers) (suc f) some h = low_at limit numbers f some h.1

layout_low : (p : Program) (copies : List FnCopy) (root : Root) (f : FunctionTree) → nat_lt 0 (length copies) ≡ true → (function : ℕ) → nat_lt (copy_of (layout_for p copies root f) function) (length copies) ≡ true
layout_low p copies root f some function =
    low_at (length copies) (marked root 0 copies (replicate (length p.functions) None)) function some
    (marks_low (length copies) root 0 copies (replicate (length p.functions) None) (omega arith) (none_low (length copies) (length p.functions) some))

-- ---- bodies
pub body_below : (p : Program) (copies : List FnCopy) (number : ℕ) (root : Root) (o : Option FunctionTree) → nat_lt 0 (length copies) ≡ true → all_below (length copies) (trees_of (code_of p copies number root o)) ≡ true
body_below p copies number root None some = refl
body_below p copies number root (Some f) some =
    let g = ground_for p copies number root f in
    (join (length copies) _ _ (statements_below (length copies) g (layout_low p copies root f some) outside f.body) (one (length copies) core.Leave refl)).is
