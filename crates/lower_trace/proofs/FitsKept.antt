-- Each micro-step keeps that temporary bytes fit into the frames.
use Rattle.std.proofs.Common.{◌≡◌, ℕ, suc, ◌+◌, ◌≤◌, Bool, true, false, if◌then◌else◌, List, [], ◌∷◌, ◌++◌, length, length-append, Option, Some, None, refl, ap, ◌∙◌, arith}
use Rattle.c_typed.specs.Room.{room, place_room, arguments_room, arguments_bytes}
use Rattle.c_typed.specs.Trees as tree
use Rattle.c_typed.specs.Trees.{Expression, Expressions, Place, Statement}
use Rattle.c_typed.specs.Types.{type_bytes, type_of, value_bytes, place_bytes, form_of}
use Rattle.c_typed.specs.declared.expression.LogicalOp.{LogicalOp}
use Rattle.c_typed.specs.declared.types.Ty.{Ty}
use Rattle.c_typed.specs.declared.types.Ty.TheVariants as types
use Rattle.core_puts.specs.Bytes.{beyond}
use Rattle.lower_expr.specs.Layout.{value_width}
use Rattle.lower_stmt.specs.Ground.{Ground}
use Rattle.pic_world.specs.World.{World}
use Rattle.src_rules.proofs.Rules.{offset_rule, difference_rule}
use Rattle.src_rules.specs.Accesses.{fetching}
use Rattle.src_rules.specs.Expressions.{arguments, eval, find, address, takes, found_in, at_member, member_of, found_to, found_for, found}
use Rattle.src_rules.specs.Giving.{answered, used, branch, logical, truth_given, changes, take_in, deref, take_to}
use Rattle.src_rules.specs.Parts.{IsExpressionOf, AreArgumentsOf}
use Rattle.src_rules.specs.Standing.{IsSplit}
use Rattle.src_rules.specs.State.{Outcome, Went, Undefined, Idle, Lost}
use Rattle.src_values.specs.Control.{Got, Nothing, Chosen, One, At, AtWith, Args, Stage, AtItem, Pending, In, To, Doing, Before, Returns, Resumes}
use Rattle.src_values.specs.Data.{Datum, Number, Pointer, Missing}
use Rattle.src_values.specs.Memory as source
use Rattle.src_values.specs.Memory.{Setting}
use Rattle.src_values.specs.Objects.{function_at, moved}
use Rattle.src_values.specs.Values as answers
use Rattle.src_values.specs.Values.{Answer, truth_of, decides}
use Rattle.src_values.specs.declared.objects.Byte.{Byte}
use Rattle.src_values.specs.declared.objects.CopyOf.{CopyOf}
use Rattle.src_values.specs.declared.objects.Pointer as pointer
use Rattle.src_values.specs.declared.objects.Spot.{Spot}
use Rattle.lower_trace.proofs.CodeLeft.{Scene, ground_in, base, before_argument, source_in}
use Rattle.lower_trace.proofs.Fitting.{FocusFits, StackFits, frame_of, value_at, pointer_at, offset_two}
use Rattle.lower_trace.proofs.Leaving.{IsResumable}
use Rattle.lower_trace.proofs.Operations.{beyond_is}
use Rattle.lower_trace.proofs.Rooms.{read_parts, two_parts, three_parts, unary_parts, binary_parts, assign_parts, struct_parts, update_parts, pointer_is, pointer_bytes_are, value_room}

-- and one that makes an event doesn't come to the end of a function
abbrev pub KeepsFits : Scene → Outcome → Type 0
KeepsFits z (Went u None) = FocusFits z u.copy u.focus u.stack × StackFits z u.copy u.stack
KeepsFits z (Went u (Some event)) = FocusFits z u.copy u.focus u.stack × StackFits z u.copy u.stack × IsResumable u.focus
KeepsFits z (Undefined kind line) = Unit {0}
KeepsFits z Idle = Unit {0}
KeepsFits z Lost = Unit {0}

module _ (z : Scene) where
  -- the arguments that are left of a call
  abbrev pub GotSplits : Expression → Got → Type 0
  GotSplits (tree.Call function all ty line) (Args before more) = IsSplit z.program all before more
  GotSplits _ _ = Unit {0}

  pub used_fits : (v : Datum) (line : ℕ) (next : Outcome) → KeepsFits z next → KeepsFits z (used v line next)
  used_fits Missing line next h = tt
  used_fits (Number q) line next h = h
  used_fits (Pointer x) line next h = h

  pub branch_fits : (holds : Option Bool) (line : ℕ) (first second : Outcome) → KeepsFits z first → KeepsFits z second → KeepsFits z (branch holds line first second)
  branch_fits None line first second a b = tt
  branch_fits (Some true) line first second a b = a
  branch_fits (Some false) line first second a b = b

  pub either_fits : (b : Bool) (x y : Outcome) → KeepsFits z x → KeepsFits z y → KeepsFits z (if b then x else y)
  either_fits true x y h i = h
  either_fits false x y h i = i

module _ (z : Scene) (c : CopyOf) (small : frame_of z c ≤ 96) where
  abbrev g : Ground
  g = ground_in z c

  abbrev sizes : List ℕ
  sizes = z.program.sizes

  -- a node that begins, or waits
  abbrev Fits : ℕ → Expression → Type 0
  Fits b e = b + room sizes e ≤ frame_of z c

  -- ---- arguments
  call_room : (function : ℕ) (all : Expressions) (ty : Ty) (line : ℕ) → arguments_room sizes 0 all ≤ room sizes (tree.Call function all ty line)
  unfolding room
  call_room function all ty line = (three_parts (arguments_room sizes 0 all) (arguments_bytes sizes all) (type_bytes sizes ty)).0

  first_argument : (argument : Expression) (more : Expressions) (b : ℕ) → b + arguments_room sizes 0 (tree.AndExpression argument more) ≤ frame_of z c → beyond b 0 + room sizes argument ≤ frame_of z c
  unfolding room
  first_argument argument more b fits =
      let q = (two_parts (0 + room sizes argument) (arguments_room sizes (0 + value_bytes sizes argument) more)).0 in
      let e = beyond_is b 0 (omega arith) in
      omega arith

  next_argument : (f : ℕ) (es : Expressions) (params : _) (vs : List Datum) (more : Expressions) (argument : Expression) (others : Expressions) (b before : ℕ) → AreArgumentsOf z.program f es params → IsSplit z.program es vs more → more ≡ tree.AndExpression argument others
      → b + before ≤ 96 → b + arguments_room sizes before es ≤ frame_of z c → (b + before_argument g.layout (suc (length vs)) before es + room sizes argument ≤ frame_of z c) × (b + before_argument g.layout (suc (length vs)) before es ≤ 96)
  unfolding room
  next_argument f tree.NoExpression params vs more argument others b before a s is low fits = absurd s
  next_argument f (tree.AndExpression e es) [] vs more argument others b before a s is low fits = absurd a
  next_argument f (tree.AndExpression e es) (p ∷ params) [] more argument others b before a s is low fits =
      let parts = two_parts (before + room sizes e) (arguments_room sizes (before + value_bytes sizes e) es) in
      let part = parts.0 in
      let rest = parts.1 in
      let own = value_room z.program f e a.1 in
      let here = value_at z c small before e (omega arith) in
      let again : arguments_room sizes (before + value_bytes sizes e) es ≡ arguments_room sizes (before + value_bytes sizes e) (tree.AndExpression argument others) = ap (arguments_room sizes (before + value_bytes sizes e)) (s ∙ is) in
      let next = (two_parts (before + value_bytes sizes e + room sizes argument) (arguments_room sizes (before + value_bytes sizes e + value_bytes sizes argument) others)).0 in
      (omega arith, omega arith)
  next_argument f (tree.AndExpression e es) (p ∷ params) (v ∷ vs) more argument others b before a s is low fits =
      let parts = two_parts (before + room sizes e) (arguments_room sizes (before + value_bytes sizes e) es) in
      let part = parts.0 in
      let rest = parts.1 in
      let own = value_room z.program f e a.1 in
      let here = value_at z c small before e (omega arith) in
      let again = ap (λ n. arguments_room sizes n es) here in
      next_argument f es params vs more argument others b (beyond before (value_width g.layout e)) a.2 s.1 is (omega arith) (omega arith)

  arguments_fit : (function : ℕ) (all : Expressions) (ty : Ty) (line : ℕ) (before : List Datum) (v : Datum) (more : Expressions) (k : List Pending) (m : source.Memory) (w : World Byte) → IsExpressionOf z.program c.function (tree.Call function all ty line) → IsSplit z.program all before more
      → Fits (base g k) (tree.Call function all ty line) → StackFits z c k → KeepsFits z (arguments (tree.Call function all ty line) (before ++ v ∷ []) more k c m w)
  arguments_fit function all ty line before v tree.NoExpression k m w h s fits st = (tt, (fits, st))
  arguments_fit function all ty line before v (tree.AndExpression argument others) k m w h s fits st =
      let b = base g k in
      let q = call_room function all ty line in
      let n = next_argument c.function all (function_at z.program function).params before (tree.AndExpression argument others) argument others b 0 h.3 s refl (omega arith) (omega arith) in
      let n0 = n.0 in
      let n1 = n.1 in
      let count : length (before ++ v ∷ []) ≡ suc (length before) = length-append before (v ∷ []) ∙ (omega arith) in
      let same = ap (λ i. before_argument g.layout i 0 all) count in
      let at = beyond_is b (before_argument g.layout (length (before ++ v ∷ [])) 0 all) (omega arith) in
      (omega arith, (fits, st))

  -- ---- expressions begin
  pub eval_fits : (e : Expression) (k : List Pending) (m : source.Memory) (w : World Byte) → Fits (base g k) e → StackFits z c k → KeepsFits z (eval e k c m w)
  unfolding room
  eval_fits (tree.Constant value line) k m w fits st = (tt, st)
  eval_fits (tree.Read place ty line) k m w fits st = let q = (read_parts (place_room sizes place) (form_of place) (type_bytes sizes ty)).0 in (omega arith, (fits, st))
  eval_fits (tree.Address place ty line) k m w fits st = let q = (two_parts (place_room sizes place) 2).0 in (omega arith, (fits, st))
  eval_fits (tree.Convert operand ty line) k m w fits st = let q = (two_parts (room sizes operand) (value_bytes sizes operand + type_bytes sizes ty)).0 in (omega arith, (fits, st))
  eval_fits (tree.Cast operand ty line) k m w fits st = let q = (two_parts (room sizes operand) (value_bytes sizes operand + type_bytes sizes ty)).0 in (omega arith, (fits, st))
  eval_fits (tree.Unary op operand ty line) k m w fits st = let q = (unary_parts op (room sizes operand) (value_bytes sizes operand) (type_bytes sizes ty)).0 in (omega arith, (fits, st))
  eval_fits (tree.Binary op left right ty line) k m w fits st = let q = (binary_parts (room sizes left) (value_bytes sizes left) (room sizes right) (value_bytes sizes right) (type_bytes sizes ty)).0 in (omega arith, (fits, st))
  eval_fits (tree.Offset op left right size ty line) k m w fits st = let q = (binary_parts (room sizes left) (value_bytes sizes left) (room sizes right) (value_bytes sizes right) (type_bytes sizes ty)).0 in (omega arith, (fits, st))
  eval_fits (tree.Difference left right size line) k m w fits st = let q = (binary_parts (room sizes left) (value_bytes sizes left) (room sizes right) (value_bytes sizes right) 2).0 in (omega arith, (fits, st))
  eval_fits (tree.Logical op left right line) k m w fits st = let q = (three_parts (room sizes left) (room sizes right) 2).0 in (omega arith, (fits, st))
  eval_fits (tree.Conditional condition chosen otherwise ty line) k m w fits st = let q = (three_parts (room sizes condition) (room sizes chosen) (room sizes otherwise)).0 in (omega arith, (fits, st))
  eval_fits (tree.Comma left right ty line) k m w fits st = let q = (two_parts (room sizes left) (room sizes right)).0 in (omega arith, (fits, st))
  eval_fits (tree.Assign place value ty line) k m w fits st = let q = (assign_parts (place_room sizes place) (form_of place) (room sizes value) (value_bytes sizes value)).0 in (omega arith, (fits, st))
  eval_fits (tree.StructAssign place from size line) k m w fits st = let q = (struct_parts (place_room sizes place) (form_of place) (place_room sizes from) (form_of from)).0 in (omega arith, (fits, st))
  eval_fits (tree.Update op place value operation size ty line) k m w fits st =
      let q = (update_parts (place_room sizes place) (form_of place) (place_bytes sizes place) (room sizes value) (value_bytes sizes value) (type_bytes sizes operation)).0 in (omega arith, (fits, st))
  eval_fits (tree.Step op place operation size ty line) k m w fits st = let q = (update_parts (place_room sizes place) (form_of place) (place_bytes sizes place) 2 2 (type_bytes sizes operation)).0 in (omega arith, (fits, st))
  eval_fits (tree.Call function tree.NoExpression ty line) k m w fits st = (tt, (fits, st))
  eval_fits (tree.Call function (tree.AndExpression argument more) ty line) k m w fits st =
      let q = call_room function (tree.AndExpression argument more) ty line in
      (first_argument argument more (base g k) (omega arith), (fits, st))

  pub find_fits : (s : Setting) (place : Place) (k : List Pending) (m : source.Memory) (w : World Byte) → base g k + place_room sizes place ≤ frame_of z c → StackFits z c k → KeepsFits z (find s place k c m w)
  unfolding room
  find_fits s (tree.Name object ty line) k m w fits st = (tt, st)
  find_fits s (tree.Bit register number line) k m w fits st = (tt, st)
  find_fits s (tree.Member whole member offset ty line) k m w fits st = (fits, (fits, st))
  find_fits s (tree.Deref pointer ty line) k m w fits st = (fits, (fits, st))

  -- ---- a place was found
  fetching_fits : (spot : Spot) (ty : Ty) (k : List Pending) → FocusFits z c (fetching spot ty sizes) k
  fetching_fits spot types.Void k = tt
  fetching_fits spot (types.Int ty) k = tt
  fetching_fits spot (types.Pointer row) k = tt
  fetching_fits spot (types.Array element length size) k = tt
  fetching_fits spot (types.Struct number) k = tt

  takes_fits : (x : Option pointer.Pointer) (k : List Pending) (m : source.Memory) (w : World Byte) → StackFits z c k → KeepsFits z (takes x k c m w)
  takes_fits (Some x) k m w st = (tt, st)
  takes_fits None k m w st = tt

  found_in_fits : (e : Expression) (got : Got) (spot : Spot) (k : List Pending) (m : source.Memory) (w : World Byte) → Fits (base g k) e → StackFits z c k → KeepsFits z (found_in (source_in z) e got spot k c m w)
  unfolding room
  found_in_fits (tree.Read place ty line) Nothing spot k m w fits st = (fetching_fits spot ty (In (tree.Read place ty line) (At spot) ∷ k), (fits, st))
  found_in_fits (tree.Address place ty line) Nothing spot k m w fits st = takes_fits (address spot) k m w st
  found_in_fits (tree.Assign place value ty line) Nothing spot k m w fits st =
      let q = (assign_parts (place_room sizes place) (form_of place) (room sizes value) (value_bytes sizes value)).1 in
      let p = pointer_is g.layout g.copy place in
      let a = pointer_at z c small (base g k) place (omega arith) in
      (omega arith, (fits, st))
  found_in_fits (tree.StructAssign place from size line) Nothing spot k m w fits st =
      let q = (struct_parts (place_room sizes place) (form_of place) (place_room sizes from) (form_of from)).1 in
      let p = pointer_is g.layout g.copy place in
      let a = pointer_at z c small (base g k) place (omega arith) in
      (omega arith, (fits, st))
  found_in_fits (tree.StructAssign place from size line) (At to) spot k m w fits st = (tt, (fits, st))
  found_in_fits (tree.Update op place value operation size ty line) Nothing spot k m w fits st =
      let q = (update_parts (place_room sizes place) (form_of place) (place_bytes sizes place) (room sizes value) (value_bytes sizes value) (type_bytes sizes operation)).1 in
      let p = pointer_is g.layout g.copy place in
      let a = pointer_at z c small (base g k) place (omega arith) in
      (omega arith, (fits, st))
  found_in_fits (tree.Step op place operation size ty line) Nothing spot k m w fits st = (fetching_fits spot ty (In (tree.Step op place operation size ty line) (At spot) ∷ k), (fits, st))
  found_in_fits _ _ spot k m w fits st = tt

  at_member_fits : (x : Option pointer.Pointer) (line : ℕ) (k : List Pending) (m : source.Memory) (w : World Byte) → StackFits z c k → KeepsFits z (at_member x line k c m w)
  at_member_fits (Some x) line k m w st = (tt, st)
  at_member_fits None line k m w st = tt

  member_of_fits : (x : Option pointer.Pointer) (offset line : ℕ) (k : List Pending) (m : source.Memory) (w : World Byte) → StackFits z c k → KeepsFits z (member_of (source_in z) x offset line k c m w)
  member_of_fits (Some x) offset line k m w st = at_member_fits (moved z.program x _) line k m w st
  member_of_fits None offset line k m w st = tt

  found_to_fits : (place : Place) (spot : Spot) (k : List Pending) (m : source.Memory) (w : World Byte) → StackFits z c k → KeepsFits z (found_to (source_in z) place spot k c m w)
  found_to_fits (tree.Member whole member offset ty line) spot k m w st = member_of_fits (address spot) offset line k m w st
  found_to_fits _ spot k m w st = tt

  found_for_fits : (t : Statement) (stage : Stage) (spot : Spot) (k : List Pending) (m : source.Memory) (w : World Byte) → StackFits z c (Doing t stage ∷ k) → KeepsFits z (found_for (source_in z) t stage spot k c m w)
  found_for_fits (tree.InitList local all line) (AtItem (tree.Struct offset from size) rest) spot k m w st = (tt, st)
  found_for_fits _ _ spot k m w st = tt

  pub found_fits : (spot : Spot) (k : List Pending) (m : source.Memory) (w : World Byte) → StackFits z c k → KeepsFits z (found (source_in z) spot k c m w)
  found_fits spot [] m w st = tt
  found_fits spot (In e got ∷ k) m w st = found_in_fits e got spot k m w st.0 st.1
  found_fits spot (To place ∷ k) m w st = found_to_fits place spot k m w st.1
  found_fits spot (Doing t stage ∷ k) m w st = found_for_fits t stage spot k m w st
  found_fits spot (Before ss ∷ k) m w st = tt
  found_fits spot (Returns d ∷ k) m w st = tt
  found_fits spot (Resumes d x ∷ k) m w st = tt

  -- ---- values
  answered_fits : (a : Answer) (line : ℕ) (k : List Pending) (m : source.Memory) (w : World Byte) → StackFits z c k → KeepsFits z (answered a line k c m w)
  answered_fits (answers.Gives v) line k m w st = (tt, st)
  answered_fits (answers.Fails kind) line k m w st = tt
  answered_fits answers.Strays line k m w st = tt

  logical_fits : (e : Expression) (op : LogicalOp) (v : Datum) (holds : Option Bool) (right : Expression) (line : ℕ) (k : List Pending) (m : source.Memory) (w : World Byte) → base g (In e (One v) ∷ k) + room sizes right ≤ frame_of z c → Fits (base g k) e → StackFits z c k → KeepsFits z (logical e op v holds right line k c m w)
  logical_fits e op v None right line k m w here fits st = tt
  logical_fits e op v (Some holds) right line k m w here fits st = either_fits z (decides op holds) _ _ (tt, st) (here, (fits, st))

  truth_fits : (holds : Option Bool) (line : ℕ) (k : List Pending) (m : source.Memory) (w : World Byte) → StackFits z c k → KeepsFits z (truth_given holds line k c m w)
  truth_fits None line k m w st = tt
  truth_fits (Some holds) line k m w st = (tt, st)

  changes_fits : (a : Answer) (e : Expression) (spot : Spot) (keeps : Bool) (old : Datum) (line : ℕ) (k : List Pending) (m : source.Memory) (w : World Byte) → Fits (base g k) e → StackFits z c k → KeepsFits z (changes a e spot keeps old line k c m w)
  changes_fits (answers.Gives v) e spot keeps old line k m w fits st = (tt, (fits, st))
  changes_fits (answers.Fails kind) e spot keeps old line k m w fits st = tt
  changes_fits answers.Strays e spot keeps old line k m w fits st = tt

  pub take_in_fits : (e : Expression) (got : Got) (v : Datum) (k : List Pending) (m : source.Memory) (w : World Byte) → IsExpressionOf z.program c.function e → GotSplits z e got → Fits (base g k) e → StackFits z c k → KeepsFits z (take_in (source_in z) e got v k c m w)
  unfolding room
  take_in_fits (tree.Convert operand ty line) Nothing v k m w h s fits st = answered_fits _ line k m w st
  take_in_fits (tree.Cast operand ty line) Nothing v k m w h s fits st = answered_fits _ line k m w st
  take_in_fits (tree.Unary op operand ty line) Nothing v k m w h s fits st = answered_fits _ line k m w st
  take_in_fits (tree.Binary op left right ty line) Nothing v k m w h s fits st =
      let q = (binary_parts (room sizes left) (value_bytes sizes left) (room sizes right) (value_bytes sizes right) (type_bytes sizes ty)).1 in
      let e = value_at z c small (base g k) left (omega arith) in
      (omega arith, (fits, st))
  take_in_fits (tree.Binary op left right ty line) (One u) v k m w h s fits st = answered_fits _ line k m w st
  take_in_fits (tree.Offset op left right size ty line) Nothing v k m w h s fits st =
      let q = (binary_parts (room sizes left) (value_bytes sizes left) (room sizes right) (value_bytes sizes right) (type_bytes sizes ty)).1 in
      let two = offset_two z c small op (type_of left) (type_of right) size ty (offset_rule z.program op left right size ty line h.0) in
      let e = beyond_is (base g k) 2 (omega arith) in
      (omega arith, (fits, st))
  take_in_fits (tree.Offset op left right size ty line) (One u) v k m w h s fits st = answered_fits _ line k m w st
  take_in_fits (tree.Difference left right size line) Nothing v k m w h s fits st =
      let q = (binary_parts (room sizes left) (value_bytes sizes left) (room sizes right) (value_bytes sizes right) 2).1 in
      let two = pointer_bytes_are sizes (type_of left) (difference_rule z.program left right size line h.0).0 in
      let e = beyond_is (base g k) 2 (omega arith) in
      (omega arith, (fits, st))
  take_in_fits (tree.Difference left right size line) (One u) v k m w h s fits st = answered_fits _ line k m w st
  take_in_fits (tree.Logical op left right line) Nothing v k m w h s fits st =
      let q = (three_parts (room sizes left) (room sizes right) 2).1 in
      logical_fits (tree.Logical op left right line) op v (truth_of v) right line k m w (omega arith) fits st
  take_in_fits (tree.Logical op left right line) (One u) v k m w h s fits st = truth_fits (truth_of v) line k m w st
  take_in_fits (tree.Conditional condition chosen otherwise ty line) Nothing v k m w h s fits st =
      let q = three_parts (room sizes condition) (room sizes chosen) (room sizes otherwise) in
      let a = q.1 in
      let b = q.2 in
      branch_fits z (truth_of v) line _ _ (omega arith, (fits, st)) (omega arith, (fits, st))
  take_in_fits (tree.Conditional condition chosen otherwise ty line) Chosen v k m w h s fits st = (tt, st)
  take_in_fits (tree.Comma left right ty line) Nothing v k m w h s fits st = let q = (two_parts (room sizes left) (room sizes right)).1 in (omega arith, st)
  take_in_fits (tree.Assign place value ty line) (At spot) v k m w h s fits st = used_fits z v line _ (tt, (fits, st))
  take_in_fits (tree.Update op place value operation size ty line) (At spot) v k m w h s fits st = (fetching_fits spot ty (In (tree.Update op place value operation size ty line) (AtWith spot v) ∷ k), (fits, st))
  take_in_fits (tree.Update op place value operation size ty line) (AtWith spot u) v k m w h s fits st = changes_fits _ (tree.Update op place value operation size ty line) spot false v line k m w fits st
  take_in_fits (tree.Step op place operation size ty line) (At spot) v k m w h s fits st = changes_fits _ (tree.Step op place operation size ty line) spot _ v line k m w fits st
  take_in_fits (tree.Call function all ty line) (Args before more) v k m w h s fits st = arguments_fit function all ty line before v more k m w h s fits st
  take_in_fits _ _ v k m w h s fits st = tt

  deref_fits : (v : Datum) (line : ℕ) (k : List Pending) (m : source.Memory) (w : World Byte) → StackFits z c k → KeepsFits z (deref v line k c m w)
  deref_fits (Pointer x) line k m w st = (tt, st)
  deref_fits (Number q) line k m w st = tt
  deref_fits Missing line k m w st = tt

  pub take_to_fits : (place : Place) (v : Datum) (k : List Pending) (m : source.Memory) (w : World Byte) → StackFits z c k → KeepsFits z (take_to place v k c m w)
  take_to_fits (tree.Deref pointer ty line) v k m w st = deref_fits v line k m w st
  take_to_fits _ v k m w st = tt
