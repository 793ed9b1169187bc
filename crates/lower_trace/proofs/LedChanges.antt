-- The laws of changes of integers, put together: `++` and `--`, and updates that need no helper.
use Rattle.std.proofs.Common.{◌≡◌, ℕ, ◌+◌, ◌*◌, ◌<◌, ◌≤◌, inl, inr, Bool, true, false, ◌||◌, if◌then◌else◌, List, ◌∷◌, refl, sym, ap, ◌∙◌, subst, arith}
use Rattle.std.proofs.lemmas.Bool.{and_parts}
use Rattle.std.specs.List.{All}
use Rattle.c_ints.specs.Conversions.{common, is_long, is_unsigned_int, is_unsigned_long, promoted}
use Rattle.c_ints.specs.Quantity.{Quantity}
use Rattle.c_ints.specs.Range.{bytes_of}
use Rattle.c_ints.specs.declared.operators.BinOp.{BinOp}
use Rattle.c_ints.specs.declared.operators.BinOp.TheVariants as ops
use Rattle.c_ints.specs.declared.types.IntTy.{IntTy}
use Rattle.c_ints.specs.declared.types.IntTy.TheVariants as int
use Rattle.c_typed.specs.Room.{place_room, room}
use Rattle.c_typed.specs.Rules.{integer_update_fits}
use Rattle.c_typed.specs.Trees as tree
use Rattle.c_typed.specs.Trees.{Expression, Place}
use Rattle.c_typed.specs.Types.{form_of, place_bytes, place_type, type_bytes, type_of, value_bytes}
use Rattle.c_typed.specs.declared.expression.StepOp.{StepOp}
use Rattle.c_typed.specs.declared.types.Ty.{Ty}
use Rattle.c_typed.specs.declared.types.Ty.TheVariants as types
use Rattle.lower_expr.specs.Layout.{width}
use Rattle.lower_expr.specs.Lowering.{shifts_by_constant}
use Rattle.lower_expr.specs.Spots.{pointer_bytes, spot_of}
use Rattle.lower_expr.specs.Lowering.{behind_pointer}
use Rattle.src_rules.proofs.Rules.{IsStep, IsUpdate, step_rule, update_rule, moves_rule}
use Rattle.src_rules.proofs.Values.{same_int_is, same_type_is}
use Rattle.src_rules.specs.Standing.{HasType}
use Rattle.src_rules.specs.State.{state}
use Rattle.src_rules.specs.Step.{act}
use Rattle.src_values.specs.Control.{Holds, At, AtWith, Pending, In}
use Rattle.src_values.specs.Data as datum
use Rattle.src_values.specs.declared.objects.Spot.{Spot}
use Rattle.lower_trace.specs.Lowering.{IsLowerable}
use Rattle.lower_trace.proofs.Changing.{IsSum}
use Rattle.lower_trace.proofs.CodeLeft.{Scene, base, ground_in}
use Rattle.lower_trace.proofs.Fitting.{pointer_at, value_at, width_is}
use Rattle.lower_trace.proofs.Increments.{step_changed}
use Rattle.lower_trace.proofs.Kept.{bytes_small}
use Rattle.lower_trace.proofs.Known.{around, small}
use Rattle.lower_trace.proofs.Leads.{Law, led_by}
use Rattle.lower_trace.proofs.LedValues.{around_in}
use Rattle.lower_trace.proofs.Operations.{beyond_is}
use Rattle.lower_trace.proofs.Rooms.{pointer_is, update_parts}
use Rattle.lower_trace.proofs.Scenes.{frame_is, scene_laws}
use Rattle.lower_trace.proofs.Updating.{update_changed}

-- ---- types of operations
common_wider : (t : IntTy) → bytes_of t ≤ bytes_of (common t int.Int)
common_wider int.Char = omega arith
common_wider int.SChar = omega arith
common_wider int.UChar = omega arith
common_wider int.Short = omega arith
common_wider int.UShort = omega arith
common_wider int.Int = omega arith
common_wider int.UInt = omega arith
common_wider int.Long = omega arith
common_wider int.ULong = omega arith

-- the common type of two has as many bytes as either, and an int's at least
common_two : (b c d : Bool) → 2 ≤ bytes_of (if b then int.ULong else if c then int.Long else if d then int.UInt else int.Int)
common_two true c d = omega arith
common_two false true d = omega arith
common_two false false true = omega arith
common_two false false false = omega arith

pub two_common : (a b : IntTy) → 2 ≤ bytes_of (common a b)
two_common a b = common_two (is_unsigned_long (promoted a) || is_unsigned_long (promoted b)) (is_long (promoted a) || is_long (promoted b)) (is_unsigned_int (promoted a) || is_unsigned_int (promoted b))

long_left : (b : Bool) → 4 ≤ bytes_of (if b then int.ULong else int.Long)
long_left true = omega arith
long_left false = omega arith

pub wider_left : (a b : IntTy) → bytes_of a ≤ bytes_of (common a b)
wider_left int.Char b = let q = two_common int.Char b in omega arith
wider_left int.SChar b = let q = two_common int.SChar b in omega arith
wider_left int.UChar b = let q = two_common int.UChar b in omega arith
wider_left int.Short b = let q = two_common int.Short b in omega arith
wider_left int.UShort b = let q = two_common int.UShort b in omega arith
wider_left int.Int b = let q = two_common int.Int b in omega arith
wider_left int.UInt b = let q = two_common int.UInt b in omega arith
wider_left int.Long b = long_left (is_unsigned_long (promoted b))
wider_left int.ULong b = omega arith

no_pointer : false ≡ true → ⊥
no_pointer e = cc

step_wider : (z : Scene) (t o : IntTy) → IsStep z.program (types.Int o) (types.Int t) → bytes_of t ≤ bytes_of o
step_wider z t o (inl e) = let c = common_wider t in let q = ap bytes_of (same_int_is o (common t int.Int) e) in omega arith
step_wider z t o (inr e) = absurd (no_pointer e.1)

module _ (z : Scene) (given : IsLowerable z.program z.copies) (input : All (λ byte. byte < 256) z.outside.input) where
  -- `++` or `--` of an integer has its value.
  step_on : (op : StepOp) (place : Place) (o : IntTy) (size line : ℕ) (spot : Spot) (x : Quantity) (k : List Pending) → Law z (Holds (datum.Number x)) (In (tree.Step op place (types.Int o) size (types.Int x.ty) line) (At spot) ∷ k)
  unfolding act room
  step_on op place o size line spot x k cp l w c known due h =
      let e = tree.Step op place (types.Int o) size (types.Int x.ty) line in
      let s = known.stands in
      let sizes = z.program.sizes in
      let g = ground_in z cp in
      let b = base g k in
      let r = step_rule z.program op place (types.Int o) size (types.Int x.ty) line s.stack.0.0 in
      let wider = step_wider z x.ty o r.1 in
      let few = bytes_small o in
      let less = small z given input cp s.reached in
      let f = frame_is z given cp s.reached in
      let fits = known.stack.0 in
      let t = subst (λ y. HasType z.program y (datum.Number x)) s.focus.1 s.focus.2 in
      let q = (update_parts (place_room sizes place) (form_of place) (place_bytes sizes place) 2 2 (bytes_of o)).2 in
      let pb = pointer_is g.layout g.copy place in
      let at = pointer_at z cp less b place (omega arith) in
      let wide = width_is z cp (types.Int o) (omega arith) in
      let bytes = ap (type_bytes sizes) r.0 in
      let place_wide = width_is z cp (place_type place).ty (omega arith) in
      let left = beyond_is (behind_pointer g.layout g.copy b place) (width g.layout (types.Int o)) (omega arith) in
      let p = pointer_bytes (spot_of g.layout g.copy place) in
      led_by z _ _ (78 + 10 * bytes_of o) 0 c _ (omega arith) (omega arith)
      (step_changed z (scene_laws z given) op place o size line spot x (b + p + bytes_of o) (b + p) (bytes_of o) k cp l w c wide (left ∙ (omega arith)) at
      (record {
        around = around_in z cp e (At spot) k (around z given input (state cp (Holds (datum.Number x)) (In e (At spot) ∷ k) l w) known);
        place = r.0;
        wide = place_wide ∙ bytes;
        range = t.1;
        wider_is = wider;
        count_is = refl;
        right_is = refl;
        left_is = refl;
        room = omega arith;
      }) due h)

  step_by : (op : StepOp) (place : Place) (operation : Ty) (size line : ℕ) (spot : Spot) (x : Quantity) (k : List Pending) → IsStep z.program operation (types.Int x.ty) → Law z (Holds (datum.Number x)) (In (tree.Step op place operation size (types.Int x.ty) line) (At spot) ∷ k)
  step_by op place (types.Int o) size line spot x k is cp l w c known due h = step_on op place o size line spot x k cp l w c known due h
  step_by op place operation size line spot x k (inr e) cp l w c known due h = absurd (no_pointer e.1)
  step_by op place operation size line spot x k (inl e) cp l w c known due h = absurd (cc)

  pub number_steps : (op : StepOp) (place : Place) (operation : Ty) (size : ℕ) (ty : Ty) (line : ℕ) (spot : Spot) (x : Quantity) (k : List Pending) → Law z (Holds (datum.Number x)) (In (tree.Step op place operation size ty line) (At spot) ∷ k)
  number_steps op place operation size ty line spot x k cp l w c known due h =
      let s = known.stands in
      let t = subst (λ y. HasType z.program y (datum.Number x)) s.focus.1 s.focus.2 in
      let r = (step_rule z.program op place operation size ty line s.stack.0.0).1 in
      subst (λ y. Law z (Holds (datum.Number x)) (In (tree.Step op place operation size y line) (At spot) ∷ k)) (sym t.0)
      (step_by op place operation size line spot x k (subst (λ y. IsStep z.program operation y) t.0 r)) cp l w c known due h

  -- ---- sums and their like
  sum_types : (op : BinOp) (t o : IntTy) (value : Ty) → IsSum op → integer_update_fits op (types.Int t) value (types.Int o) ≡ true → (value ≡ types.Int o) × (o ≡ common t o)
  sum_types ops.Add t o value p e = let q = and_parts _ _ e in (same_type_is value (types.Int o) q.0, same_int_is o (common t o) q.1)
  sum_types ops.Sub t o value p e = let q = and_parts _ _ e in (same_type_is value (types.Int o) q.0, same_int_is o (common t o) q.1)
  sum_types ops.And t o value p e = let q = and_parts _ _ e in (same_type_is value (types.Int o) q.0, same_int_is o (common t o) q.1)
  sum_types ops.Or t o value p e = let q = and_parts _ _ e in (same_type_is value (types.Int o) q.0, same_int_is o (common t o) q.1)
  sum_types ops.Xor t o value p e = let q = and_parts _ _ e in (same_type_is value (types.Int o) q.0, same_int_is o (common t o) q.1)
  sum_types _ t o value p e = absurd p

  no_shift : (op : BinOp) (right : Expression) → IsSum op → shifts_by_constant op right ≡ false
  no_shift ops.Add right p = refl
  no_shift ops.Sub right p = refl
  no_shift ops.And right p = refl
  no_shift ops.Or right p = refl
  no_shift ops.Xor right p = refl
  no_shift _ right p = absurd p

  same_int_type : (a b : IntTy) → types.Int a ≡ types.Int b → a ≡ b
  same_int_type a b e = cc

  sum_on : (op : BinOp) (place : Place) (right : Expression) (o : IntTy) (size line : ℕ) (spot : Spot) (y x : Quantity) (k : List Pending) → IsSum op → integer_update_fits op (types.Int x.ty) (type_of right) (types.Int o) ≡ true
      → Law z (Holds (datum.Number x)) (In (tree.Update op place right (types.Int o) size (types.Int x.ty) line) (AtWith spot (datum.Number y)) ∷ k)
  unfolding act room
  sum_on op place right o size line spot y x k sum rule cp l w c known due h =
      let e = tree.Update op place right (types.Int o) size (types.Int x.ty) line in
      let s = known.stands in
      let sizes = z.program.sizes in
      let g = ground_in z cp in
      let b = base g k in
      let r = update_rule z.program op place right (types.Int o) size (types.Int x.ty) line s.stack.0.0 in
      let types_are = sum_types op x.ty o (type_of right) sum rule in
      let wider = ap bytes_of types_are.1 in
      let left_wide = wider_left x.ty o in
      let few = bytes_small o in
      let less = small z given input cp s.reached in
      let f = frame_is z given cp s.reached in
      let fits = known.stack.0 in
      let t = subst (λ v. HasType z.program v (datum.Number x)) s.focus.1 s.focus.2 in
      let u = s.stack.2.1 in
      let alike = same_int_type y.ty o (sym u.0 ∙ types_are.0) in
      let q = (update_parts (place_room sizes place) (form_of place) (place_bytes sizes place) (room sizes right) (value_bytes sizes right) (bytes_of o)).2 in
      let pb = pointer_is g.layout g.copy place in
      let at = pointer_at z cp less b place (omega arith) in
      let right_bytes = ap (type_bytes sizes) types_are.0 in
      let wide = width_is z cp (type_of right) (omega arith) in
      let bytes = ap (type_bytes sizes) r.0 in
      let place_wide = width_is z cp (place_type place).ty (omega arith) in
      let left = value_at z cp less (behind_pointer g.layout g.copy b place) right (omega arith) in
      let p = pointer_bytes (spot_of g.layout g.copy place) in
      led_by z _ _ (78 + 10 * bytes_of o) 0 c _ (omega arith) (omega arith)
      (update_changed z (scene_laws z given) op place right o size line spot x y (b + p + bytes_of o) (b + p) (bytes_of o) k cp l w c sum (no_shift op right sum) alike u.1 (wide ∙ right_bytes) (left ∙ (omega arith)) at
      (record {
        around = around_in z cp e (AtWith spot (datum.Number y)) k (around z given input (state cp (Holds (datum.Number x)) (In e (AtWith spot (datum.Number y)) ∷ k) l w) known);
        place = r.0;
        wide = place_wide ∙ bytes;
        range = t.1;
        wider_is = omega arith;
        count_is = refl;
        right_is = refl;
        left_is = refl;
        room = omega arith;
      }) due h)

  sum_by : (op : BinOp) (place : Place) (right : Expression) (operation : Ty) (size line : ℕ) (spot : Spot) (y x : Quantity) (k : List Pending) → IsSum op → IsUpdate z.program op (type_of right) operation size (types.Int x.ty)
      → Law z (Holds (datum.Number x)) (In (tree.Update op place right operation size (types.Int x.ty) line) (AtWith spot (datum.Number y)) ∷ k)
  sum_by op place right operation size line spot y x k sum (inr e) cp l w c known due h = absurd (no_pointer (moves_rule z.program (types.Int x.ty) (type_of right) size (types.Int x.ty) e.1).0)
  sum_by op place right (types.Int o) size line spot y x k sum (inl e) cp l w c known due h = sum_on op place right o size line spot y x k sum e cp l w c known due h
  sum_by op place right types.Void size line spot y x k sum (inl e) cp l w c known due h = absurd (no_pointer e)
  sum_by op place right (types.Pointer row) size line spot y x k sum (inl e) cp l w c known due h = absurd (no_pointer e)
  sum_by op place right (types.Array element length bytes) size line spot y x k sum (inl e) cp l w c known due h = absurd (no_pointer e)
  sum_by op place right (types.Struct number) size line spot y x k sum (inl e) cp l w c known due h = absurd (no_pointer e)

  -- An update by a sum and its like has the place's value.
  pub number_sums : (op : BinOp) (place : Place) (right : Expression) (operation : Ty) (size : ℕ) (ty : Ty) (line : ℕ) (spot : Spot) (y x : Quantity) (k : List Pending) → IsSum op → Law z (Holds (datum.Number x)) (In (tree.Update op place right operation size ty line) (AtWith spot (datum.Number y)) ∷ k)
  number_sums op place right operation size ty line spot y x k sum cp l w c known due h =
      let s = known.stands in
      let t = subst (λ v. HasType z.program v (datum.Number x)) s.focus.1 s.focus.2 in
      let r = (update_rule z.program op place right operation size ty line s.stack.0.0).1 in
      subst (λ v. Law z (Holds (datum.Number x)) (In (tree.Update op place right operation size v line) (AtWith spot (datum.Number y)) ∷ k)) (sym t.0)
      (sum_by op place right operation size line spot y x k sum (subst (λ v. IsUpdate z.program op (type_of right) operation size v) t.0 r)) cp l w c known due h
