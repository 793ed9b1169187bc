-- Temporary bytes fit into the frames: of each node that is under way or waits there is room for all that it needs. Statements have the
-- shapes that sound programs give them.
use Rattle.std.proofs.Common.{◌≡◌, ℕ, ◌+◌, ◌<◌, ◌≤◌, inl, inr, true, List, [], ◌∷◌, length, refl, sym, ap, ◌∙◌, ⊎_elim, arith}
use Rattle.std.proofs.lemmas.Bool.{and_parts, or_cases}
use Rattle.c_ints.specs.Range.{bytes_of}
use Rattle.c_ints.specs.declared.operators.BinOp.{BinOp}
use Rattle.c_ints.specs.declared.operators.BinOp.TheVariants as binop
use Rattle.c_ints.specs.declared.types.IntTy.TheVariants as int
use Rattle.c_typed.specs.Room.{binary_room, room, place_room, arguments_room, arguments_bytes, items_room, statement_room, statements_room, arm_room, arms_room, frame_size}
use Rattle.c_typed.specs.Rules.{offset_fits, moves, integer_step_fits}
use Rattle.c_typed.specs.Sameness.{is_pointer, is_index}
use Rattle.c_typed.specs.Trees as tree
use Rattle.c_typed.specs.Trees.{Expression, Expressions, Place, Statement, Program}
use Rattle.c_typed.specs.Types.{type_bytes, type_of, value_bytes, place_bytes, form_of}
use Rattle.c_typed.specs.declared.types.Ty.{Ty}
use Rattle.c_typed.specs.declared.types.Ty.TheVariants as types
use Rattle.core_puts.specs.Bytes.{beyond, operation_type}
use Rattle.lower_expr.specs.Layout.{width, value_width}
use Rattle.lower_expr.specs.Lowering.{behind_pointer, arguments_width}
use Rattle.lower_expr.specs.Spots.{spot_of, pointer_bytes}
use Rattle.lower_stmt.specs.Ground.{Ground}
use Rattle.src_rules.proofs.Rules.{IsStep, offset_rule, difference_rule, assign_rule, update_rule, step_rule, moves_rule}
use Rattle.src_rules.proofs.Values.{same_type_is}
use Rattle.src_rules.specs.Parts.{IsExpressionOf, AreArgumentsOf}
use Rattle.src_rules.specs.Standing.{IsReached, HasType, GotStands, StackStands, IsSplit, HaveTypes}
use Rattle.src_values.specs.Control.{Focus, Eval, Find, Run, Got, One, At, AtWith, Stores, Args, Passed, Stage, Picks, InArm, AtItem, Items, Pending, In, To, Doing, Before, Returns, Resumes}
use Rattle.src_values.specs.Data as datum
use Rattle.src_values.specs.Data.{Datum}
use Rattle.src_values.specs.Objects.{function_at}
use Rattle.src_values.specs.Values.{byte_count}
use Rattle.src_values.specs.declared.objects.CopyOf.{CopyOf}
use Rattle.lower_trace.proofs.CodeLeft.{Scene, ground_in, base, above, stored, before_argument, arm_count}
use Rattle.lower_trace.proofs.Kept.{Below, ArgumentsBelow, Piled, Reached, bytes_small}
use Rattle.lower_trace.proofs.Operations.{beyond_is}
use Rattle.lower_trace.proofs.Shapes.{Shaped, AreShaped, ArmShaped, ArmsShaped}
use Rattle.lower_trace.proofs.Rooms.{read_parts, two_parts, three_parts, binary_parts, assign_parts, struct_parts, update_parts, pointer_is, pointer_few, pointer_bytes_are, value_room}

-- how many bytes the frame of a copy has
abbrev pub frame_of : Scene → CopyOf → ℕ
frame_of z c = frame_size z.program.sizes (function_at z.program c.function)

abbrev pub FocusFits : Scene → CopyOf → Focus → List Pending → Type 0
FocusFits z c (Eval e) k = base (ground_in z c) k + room z.program.sizes e ≤ frame_of z c
FocusFits z c (Find place) k = base (ground_in z c) k + place_room z.program.sizes place ≤ frame_of z c
FocusFits z c (Run t) k = ((ground_in z c).base + statement_room z.program.sizes t ≤ frame_of z c) × Shaped t
FocusFits z c _ k = Unit {0}

-- the parts of a statement that a stage holds
abbrev pub StageFits : Scene → CopyOf → Statement → Stage → Type 0
StageFits z c (tree.If chain otherwise line) (Picks arm more) = ((ground_in z c).base + arm_room z.program.sizes arm ≤ frame_of z c) × ((ground_in z c).base + arms_room z.program.sizes more ≤ frame_of z c) × ArmShaped arm × ArmsShaped more × (arm_count more < arm_count chain)
StageFits z c t (InArm more) = (ground_in z c).base + arms_room z.program.sizes more ≤ frame_of z c
StageFits z c t (AtItem item rest) = (ground_in z c).base + items_room z.program.sizes (item ∷ rest) ≤ frame_of z c
StageFits z c t (Items item rest) = (ground_in z c).base + items_room z.program.sizes (item ∷ rest) ≤ frame_of z c
StageFits z c _ _ = Unit {0}

abbrev pub StackFits : Scene → CopyOf → List Pending → Type 0
StackFits z c [] = Unit {0}
StackFits z c (In e got ∷ k) = (base (ground_in z c) k + room z.program.sizes e ≤ frame_of z c) × StackFits z c k
StackFits z c (To place ∷ k) = (base (ground_in z c) k + place_room z.program.sizes place ≤ frame_of z c) × StackFits z c k
StackFits z c (Doing t stage ∷ k) = (((ground_in z c).base + statement_room z.program.sizes t ≤ frame_of z c) × Shaped t) × StageFits z c t stage × StackFits z c k
StackFits z c (Before ss ∷ k) = (((ground_in z c).base + statements_room z.program.sizes ss ≤ frame_of z c) × AreShaped ss) × StackFits z c k
StackFits z c (Returns d ∷ k) = StackFits z d k
StackFits z c (Resumes d x ∷ k) = FocusFits z d x k × StackFits z d k

-- ---- bytes of values
pub typed_bytes : (p : Program) (ty : Ty) (v : Datum) → HasType p ty v → byte_count v ≤ type_bytes p.sizes ty
typed_bytes p ty (datum.Number q) h = let e = ap (type_bytes p.sizes) h.0 in omega (arith, e)
typed_bytes p ty (datum.Pointer x) h = let e = pointer_bytes_are p.sizes ty h.0 in omega (arith, e)
typed_bytes p ty datum.Missing h = omega arith

-- the layout of a copy has the program's sizes
pub width_is : (z : Scene) (c : CopyOf) (ty : Ty) → type_bytes z.program.sizes ty ≤ 96 → width (ground_in z c).layout ty ≡ type_bytes z.program.sizes ty
unfolding ground_in
width_is z c ty le = beyond_is 0 (type_bytes z.program.sizes ty) (omega arith) ∙ (omega arith)

-- ---- data that wait lie one above the other
module _ (z : Scene) (c : CopyOf) (small : frame_of z c ≤ 96) where
  abbrev g : Ground
  g = ground_in z c

  abbrev sizes : List ℕ
  sizes = z.program.sizes

  pub value_at : (b : ℕ) (e : Expression) → b + value_bytes sizes e ≤ 96 → beyond b (value_width g.layout e) ≡ b + value_bytes sizes e
  value_at b e le = let w = width_is z c (type_of e) (omega arith) in ap (beyond b) w ∙ beyond_is b (value_bytes sizes e) (omega arith)

  pub pointer_at : (b : ℕ) (place : Place) → b ≤ 96 → behind_pointer g.layout g.copy b place ≡ b + pointer_bytes (spot_of g.layout g.copy place)
  pointer_at b place le = let few = pointer_few (spot_of g.layout g.copy place) in beyond_is b (pointer_bytes (spot_of g.layout g.copy place)) (omega arith)

  -- where the right operand of a binary operator goes
  second_at : (b : ℕ) (left right : Expression) (t : ℕ) (u : Datum) → b + binary_room (room sizes left) (value_bytes sizes left) (room sizes right) (value_bytes sizes right) t ≤ 96 → HasType z.program (type_of left) u
      → (b + byte_count u ≤ beyond b (value_width g.layout left)) × (b ≤ beyond b (value_width g.layout left))
  second_at b left right t u le h =
      let q = (binary_parts (room sizes left) (value_bytes sizes left) (room sizes right) (value_bytes sizes right) t).2 in
      let e = value_at b left (omega arith) in
      let v = typed_bytes z.program (type_of left) u h in
      (omega arith, omega arith)

  -- the same of pointers and indices, which have two bytes
  two_at : (b : ℕ) (left : Expression) (u : Datum) → b + 2 ≤ 96 → type_bytes sizes (type_of left) ≤ 2 → HasType z.program (type_of left) u → (b + byte_count u ≤ beyond b 2) × (b ≤ beyond b 2) × (beyond b 2 ≤ b + 2)
  two_at b left u le few h =
      let e = beyond_is b 2 (omega arith) in
      let v = typed_bytes z.program (type_of left) u h in
      (omega arith, omega arith, omega arith)

  -- ---- arguments
  split_below : (f : ℕ) (es : Expressions) (params : _) (vs : List Datum) (more : Expressions) (b before : ℕ) → AreArgumentsOf z.program f es params → IsSplit z.program es vs more → b + before ≤ 96 → b + arguments_room sizes before es ≤ 96
      → ArgumentsBelow g b before es vs (beyond b (before_argument g.layout (length vs) before es)) × (before ≤ before_argument g.layout (length vs) before es) × (b + before_argument g.layout (length vs) before es ≤ 96)
  unfolding room
  split_below f tree.NoExpression params vs more b before a s low fits = absurd s
  split_below f (tree.AndExpression e es) [] vs more b before a s low fits = absurd a
  split_below f (tree.AndExpression e es) (p ∷ params) [] more b before a s low fits = (tt, omega arith, low)
  split_below f (tree.AndExpression e es) (p ∷ params) (v ∷ vs) more b before a s low fits =
      let parts = two_parts (before + room sizes e) (arguments_room sizes (before + value_bytes sizes e) es) in
      let part = parts.0 in
      let rest = parts.1 in
      let own = value_room z.program f e a.1 in
      let here = value_at before e (omega arith) in
      let again = ap (λ n. arguments_room sizes n es) here in
      let count = typed_bytes z.program (type_of e) v s.0 in
      let r = split_below f es params vs more b (beyond before (value_width g.layout e)) a.2 s.1 (omega arith) (omega arith) in
      let r1 = r.1 in
      let r2 = r.2 in
      let top = beyond_is b (before_argument g.layout (length vs) (beyond before (value_width g.layout e)) es) (omega arith) in
      let at = beyond_is b before (omega arith) in
      ((omega arith, r.0), omega arith, r2)

  all_below : (f : ℕ) (es : Expressions) (params : _) (vs : List Datum) (b before : ℕ) → AreArgumentsOf z.program f es params → HaveTypes z.program es vs → b + before ≤ 96 → b + before + arguments_bytes sizes es ≤ 96 → b + arguments_room sizes before es ≤ 96
      → ArgumentsBelow g b before es vs (beyond b (arguments_width g.layout before es)) × (before ≤ arguments_width g.layout before es) × (arguments_width g.layout before es ≡ before + arguments_bytes sizes es)
  unfolding room
  all_below f tree.NoExpression params [] b before a s low all fits = (tt, omega arith, omega arith)
  all_below f tree.NoExpression params (v ∷ vs) b before a s low all fits = absurd s
  all_below f (tree.AndExpression e es) params [] b before a s low all fits = absurd s
  all_below f (tree.AndExpression e es) [] (v ∷ vs) b before a s low all fits = absurd a
  all_below f (tree.AndExpression e es) (p ∷ params) (v ∷ vs) b before a s low all fits =
      let parts = two_parts (before + room sizes e) (arguments_room sizes (before + value_bytes sizes e) es) in
      let rest = parts.1 in
      let here = value_at before e (omega arith) in
      let again = ap (λ n. arguments_room sizes n es) here in
      let count = typed_bytes z.program (type_of e) v s.0 in
      let r = all_below f es params vs b (beyond before (value_width g.layout e)) a.2 s.1 (omega arith) (omega arith) (omega arith) in
      let r1 = r.1 in
      let r2 = r.2 in
      let top = beyond_is b (arguments_width g.layout (beyond before (value_width g.layout e)) es) (omega arith) in
      let at = beyond_is b before (omega arith) in
      ((omega arith, r.0), omega arith, omega arith)

  -- ---- nodes
  pub offset_two : (op : BinOp) (left right : Ty) (size : ℕ) (ty : Ty) → offset_fits z.program op left right size ty ≡ true → type_bytes sizes left ≡ 2
  offset_two binop.Add left right size ty e =
      ⊎_elim
      (λ h. pointer_bytes_are sizes left (moves_rule z.program left right size ty h).0)
      (λ h. index_two left (and_parts _ _ h).0)
      (or_cases (moves z.program left right size ty) (moves z.program right left size ty) e)
    where
      index_two : (t : Ty) → is_index t ≡ true → type_bytes sizes t ≡ 2
      index_two t h = ⊎_elim (λ q. ap (type_bytes sizes) (same_type_is t (types.Int int.Int) q)) (λ q. ap (type_bytes sizes) (same_type_is t (types.Int int.UInt) q)) (or_cases _ _ h)
  offset_two binop.Sub left right size ty e = pointer_bytes_are sizes left (moves_rule z.program left right size ty e).0
  offset_two _ left right size ty e = absurd (cc)

  pub step_operation : (operation ty : Ty) → IsStep z.program operation ty → (type_bytes sizes operation ≡ bytes_of (operation_type operation)) × (type_bytes sizes operation ≤ 4)
  step_operation operation ty (inl e) = int_operation ty operation e
    where
      int_operation : (ty operation : Ty) → integer_step_fits ty operation ≡ true → (type_bytes sizes operation ≡ bytes_of (operation_type operation)) × (type_bytes sizes operation ≤ 4)
      int_operation (types.Int t) (types.Int o) e = (refl, bytes_small o)
      int_operation (types.Int t) types.Void e = absurd (cc)
      int_operation (types.Int t) (types.Pointer row) e = absurd (cc)
      int_operation (types.Int t) (types.Array element length size) e = absurd (cc)
      int_operation (types.Int t) (types.Struct number) e = absurd (cc)
      int_operation _ operation e = absurd (cc)
  step_operation operation ty (inr h) = pointer_operation operation (ap is_pointer h.0 ∙ h.1)
    where
      pointer_operation : (operation : Ty) → is_pointer operation ≡ true → (type_bytes sizes operation ≡ bytes_of (operation_type operation)) × (type_bytes sizes operation ≤ 4)
      pointer_operation types.Void e = absurd (cc)
      pointer_operation (types.Int o) e = absurd (cc)
      pointer_operation (types.Pointer row) e = (refl, omega arith)
      pointer_operation (types.Array element length size) e = absurd (cc)
      pointer_operation (types.Struct number) e = absurd (cc)

  -- What waits in a node lies below its next part's value, and that within the node's room.
  pub record Lies (b : ℕ) (e : Expression) (got : Got) : Type 0 where
    pub below : Below g b e got
    pub high : b ≤ above g b e got
    pub within : above g b e got ≤ 96

  pub lies : (b : ℕ) (e : Expression) (got : Got) → b + room sizes e ≤ 96 → IsExpressionOf z.program c.function e → GotStands z.program c e got → Lies b e got
  unfolding room
  lies b (tree.Read place ty line) (At at) fits h s =
      let q = (read_parts (place_room sizes place) (form_of place) (type_bytes sizes ty)).1 in
      let p = pointer_is g.layout g.copy place in
      let a = pointer_at b place (omega arith) in
      record { below = omega arith; high = omega arith; within = omega arith }
  lies b (tree.Binary op left right ty line) (One u) fits h s =
      let q = (binary_parts (room sizes left) (value_bytes sizes left) (room sizes right) (value_bytes sizes right) (type_bytes sizes ty)).2 in
      let e = value_at b left (omega arith) in
      let v = typed_bytes z.program (type_of left) u s in
      record { below = omega arith; high = omega arith; within = omega arith }
  lies b (tree.Offset op left right size ty line) (One u) fits h s =
      let q = (binary_parts (room sizes left) (value_bytes sizes left) (room sizes right) (value_bytes sizes right) (type_bytes sizes ty)).2 in
      let few = offset_two op (type_of left) (type_of right) size ty (offset_rule z.program op left right size ty line h.0) in
      let r = two_at b left u (omega arith) (omega arith) s in
      let r0 = r.0 in
      let r1 = r.1 in
      let r2 = r.2 in
      record { below = omega arith; high = omega arith; within = omega arith }
  lies b (tree.Difference left right size line) (One u) fits h s =
      let q = (binary_parts (room sizes left) (value_bytes sizes left) (room sizes right) (value_bytes sizes right) 2).2 in
      let few = pointer_bytes_are sizes (type_of left) (difference_rule z.program left right size line h.0).0 in
      let r = two_at b left u (omega arith) (omega arith) s in
      let r0 = r.0 in
      let r1 = r.1 in
      let r2 = r.2 in
      record { below = omega arith; high = omega arith; within = omega arith }
  lies b (tree.Assign place value ty line) (At at) fits h s =
      let q = (assign_parts (place_room sizes place) (form_of place) (room sizes value) (value_bytes sizes value)).2 in
      let p = pointer_is g.layout g.copy place in
      let a = pointer_at b place (omega arith) in
      record { below = omega arith; high = omega arith; within = omega arith }
  lies b (tree.Assign place value ty line) (Stores at v) fits h s =
      let q = (assign_parts (place_room sizes place) (form_of place) (room sizes value) (value_bytes sizes value)).2 in
      let t = ap (type_bytes sizes) (assign_rule z.program place value ty line h.0).1 in
      let p = pointer_is g.layout g.copy place in
      let a = pointer_at b place (omega arith) in
      let w = width_is z c ty (omega arith) in
      let e = beyond_is (behind_pointer g.layout g.copy b place) (width g.layout ty) (omega arith) in
      record { below = omega arith; high = omega arith; within = omega arith }
  lies b (tree.StructAssign place from size line) (At at) fits h s =
      let q = (struct_parts (place_room sizes place) (form_of place) (place_room sizes from) (form_of from)).2 in
      let p = pointer_is g.layout g.copy place in
      let a = pointer_at b place (omega arith) in
      record { below = omega arith; high = omega arith; within = omega arith }
  lies b (tree.Update op place value operation size ty line) (At at) fits h s =
      let q = (update_parts (place_room sizes place) (form_of place) (place_bytes sizes place) (room sizes value) (value_bytes sizes value) (type_bytes sizes operation)).2 in
      let p = pointer_is g.layout g.copy place in
      let a = pointer_at b place (omega arith) in
      record { below = omega arith; high = omega arith; within = omega arith }
  lies b (tree.Update op place value operation size ty line) (AtWith at u) fits h s =
      let q = (update_parts (place_room sizes place) (form_of place) (place_bytes sizes place) (room sizes value) (value_bytes sizes value) (type_bytes sizes operation)).2 in
      let p = pointer_is g.layout g.copy place in
      let a = pointer_at b place (omega arith) in
      let e = value_at (behind_pointer g.layout g.copy b place) value (omega arith) in
      let v = typed_bytes z.program (type_of value) u s.1 in
      record { below = (omega arith, omega arith); high = omega arith; within = omega arith }
  lies b (tree.Update op place value operation size ty line) (Stores at v) fits h s =
      let q = (update_parts (place_room sizes place) (form_of place) (place_bytes sizes place) (room sizes value) (value_bytes sizes value) (type_bytes sizes operation)).2 in
      let t = ap (type_bytes sizes) (update_rule z.program op place value operation size ty line h.0).0 in
      let p = pointer_is g.layout g.copy place in
      let a = pointer_at b place (omega arith) in
      let e = value_at (behind_pointer g.layout g.copy b place) value (omega arith) in
      let w = width_is z c ty (omega arith) in
      let d = beyond_is (beyond (behind_pointer g.layout g.copy b place) (value_width g.layout value)) (width g.layout ty) (omega arith) in
      record { below = omega arith; high = omega arith; within = omega arith }
  lies b (tree.Step op place operation size ty line) (At at) fits h s =
      let q = (update_parts (place_room sizes place) (form_of place) (place_bytes sizes place) 2 2 (type_bytes sizes operation)).2 in
      let o = (step_operation operation ty (step_rule z.program op place operation size ty line h.0).1).0 in
      let p = pointer_is g.layout g.copy place in
      let a = pointer_at b place (omega arith) in
      let w = width_is z c operation (omega arith) in
      let e = beyond_is (behind_pointer g.layout g.copy b place) (width g.layout operation) (omega arith) in
      record { below = (omega arith, omega arith); high = omega arith; within = omega arith }
  lies b (tree.Step op place operation size ty line) (Stores at v) fits h s =
      let q = (update_parts (place_room sizes place) (form_of place) (place_bytes sizes place) 2 2 (type_bytes sizes operation)).2 in
      let r = step_rule z.program op place operation size ty line h.0 in
      let t = ap (type_bytes sizes) r.0 in
      let few = (step_operation operation ty r.1).1 in
      let p = pointer_is g.layout g.copy place in
      let a = pointer_at b place (omega arith) in
      let w = width_is z c operation (omega arith) in
      let e = beyond_is (behind_pointer g.layout g.copy b place) (width g.layout operation) (omega arith) in
      let wt = width_is z c ty (omega arith) in
      let d = beyond_is (beyond (behind_pointer g.layout g.copy b place) (width g.layout operation)) (width g.layout ty) (omega arith) in
      let d4 = beyond_is (beyond (beyond (behind_pointer g.layout g.copy b place) (width g.layout operation)) (width g.layout ty)) 4 (omega arith) in
      let o = beyond_is (beyond (behind_pointer g.layout g.copy b place) (width g.layout operation)) (width g.layout operation) (omega arith) in
      let v' = typed_bytes z.program ty v s.1 in
      record { below = (omega arith, omega arith); high = omega arith; within = omega arith }
  lies b (tree.Call function arguments ty line) (Args before more) fits h s =
      let q = (three_parts (arguments_room sizes 0 arguments) (arguments_bytes sizes arguments) (type_bytes sizes ty)).0 in
      let r = split_below c.function arguments (function_at z.program function).params before more b 0 h.3 s (omega arith) (omega arith) in
      let r2 = r.2 in
      let top = beyond_is b (before_argument g.layout (length before) 0 arguments) (omega arith) in
      record { below = r.0; high = omega arith; within = omega arith }
  lies b (tree.Call function arguments ty line) (Passed values) fits h s =
      let parts = three_parts (arguments_room sizes 0 arguments) (arguments_bytes sizes arguments) (type_bytes sizes ty) in
      let q = parts.0 in
      let q1 = parts.1 in
      let r = all_below c.function arguments (function_at z.program function).params values b 0 h.3 s (omega arith) (omega arith) (omega arith) in
      let r2 = r.2 in
      let top = beyond_is b (arguments_width g.layout 0 arguments) (omega arith) in
      record { below = r.0; high = omega arith; within = omega arith }
  lies b _ (Stores at v) fits h s = absurd s.0
  lies b _ _ fits h s = record { below = tt; high = omega arith; within = omega arith }

  -- so the frames of the copy are piled up
  pub piled : (k : List Pending) → StackStands z.program c k → StackFits z c k → Piled g k
  piled [] st f = tt
  piled (In e got ∷ k) st f =
      let f0 = f.0 in
      let l = lies (base g k) e got (omega arith) st.0 st.2 in
      (l.below, l.high, piled k st.3 f.1)
  piled (To place ∷ k) st f = piled k st.2 f.1
  piled (Doing t stage ∷ k) st f = (st.1, piled k st.3 f.2)
  piled (Before ss ∷ k) st f = (st.1, piled k st.2 f.1)
  piled (Returns d ∷ k) st f = tt
  piled (Resumes d x ∷ k) st f = tt

  -- and the next value goes to one of the first 96 bytes
  pub base_low : (k : List Pending) → g.base ≤ 96 → StackStands z.program c k → StackFits z c k → base g k ≤ 96
  base_low [] low st f = low
  base_low (In e got ∷ k) low st f = let f0 = f.0 in (lies (base g k) e got (omega arith) st.0 st.2).within
  base_low (To place ∷ k) low st f = base_low k low st.2 f.1
  base_low (Doing t stage ∷ k) low st f = low
  base_low (Before ss ∷ k) low st f = low
  base_low (Returns d ∷ k) low st f = low
  base_low (Resumes d x ∷ k) low st f = low

-- ---- all frames below
module _ (z : Scene) (small : (c : CopyOf) → IsReached z.program c → frame_of z c ≤ 96) (low : (c : CopyOf) → IsReached z.program c → (ground_in z c).base ≤ 96) where
  pub reached : (c : CopyOf) (k : List Pending) → IsReached z.program c → StackStands z.program c k → StackFits z c k → Reached z (ground_in z c) k
  reached c [] r st f = tt
  reached c (In e got ∷ k) r st f = (base_low z c (small c r) k (low c r) st.3 f.1, reached c k r st.3 f.1)
  reached c (To place ∷ k) r st f = reached c k r st.2 f.1
  reached c (Doing t stage ∷ k) r st f = reached c k r st.3 f.2
  reached c (Before ss ∷ k) r st f = reached c k r st.2 f.1
  reached c (Returns d ∷ k) r st f = (st.0, piled z d (small d st.0) k st.3 f, reached d k st.0 st.3 f)
  reached c (Resumes d x ∷ k) r st f = (st.0, base_low z d (small d st.0) k (low d st.0) st.4 f.1, piled z d (small d st.0) k st.4 f.1, reached d k st.0 st.4 f.1)
