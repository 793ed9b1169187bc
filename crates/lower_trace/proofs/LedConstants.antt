-- The law of updates by a shift whose count is a constant, where the place's value is there.
use Rattle.c_ints.specs.Conversions.{promoted}
use Rattle.c_ints.specs.Quantity.{Quantity}
use Rattle.c_ints.specs.Range.{bytes_of}
use Rattle.c_ints.specs.declared.operators.BinOp.TheVariants as ops
use Rattle.c_ints.specs.declared.operators.BinOp.{BinOp}
use Rattle.c_ints.specs.declared.types.IntTy.TheVariants as int
use Rattle.c_ints.specs.declared.types.IntTy.{IntTy}
use Rattle.c_typed.specs.Room.{place_room, room}
use Rattle.c_typed.specs.Rules.{integer_update_fits}
use Rattle.c_typed.specs.Trees as tree
use Rattle.c_typed.specs.Trees.{Expression, Place}
use Rattle.c_typed.specs.Types.{form_of, is_constant, place_bytes, place_type, type_bytes, type_of, value_bytes}
use Rattle.c_typed.specs.declared.types.Ty.TheVariants as types
use Rattle.c_typed.specs.declared.types.Ty.{Ty}
use Rattle.lower_expr.specs.Lowering.{behind_pointer, shifts_by_constant}
use Rattle.lower_expr.specs.Rows.{is_shift}
use Rattle.lower_expr.specs.Spots.{pointer_bytes, spot_of}
use Rattle.lower_trace.proofs.CodeLeft.{Scene, base, ground_in}
use Rattle.lower_trace.proofs.ConstantUpdates.{constant_update}
use Rattle.lower_trace.proofs.Fitting.{pointer_at, value_at, width_is}
use Rattle.lower_trace.proofs.Helped.{Shifts}
use Rattle.lower_trace.proofs.Kept.{bytes_small}
use Rattle.lower_trace.proofs.Known.{around, small}
use Rattle.lower_trace.proofs.Leads.{Law, led_by}
use Rattle.lower_trace.proofs.LedCounts.{shifts_are}
use Rattle.lower_trace.proofs.LedValues.{around_in, int_some}
use Rattle.lower_trace.proofs.Rooms.{pointer_is, update_parts}
use Rattle.lower_trace.proofs.Scenes.{frame_is, scene_laws}
use Rattle.lower_trace.proofs.Written.{and_left}
use Rattle.lower_trace.specs.Lowering.{IsLowerable}
use Rattle.src_rules.proofs.Rules.{IsUpdate, moves_rule, update_rule}
use Rattle.src_rules.proofs.Values.{same_int_is}
use Rattle.src_rules.specs.Standing.{HasType}
use Rattle.src_rules.specs.State.{state}
use Rattle.src_rules.specs.Step.{act}
use Rattle.src_values.specs.Control.{AtWith, Holds, In, Pending}
use Rattle.src_values.specs.Data as datum
use Rattle.src_values.specs.declared.objects.Spot.{Spot}
use Rattle.std.proofs.Common.{List, ap, arith, false, inl, inr, nat_lt, refl, subst, sym, true, ℕ, ◌+◌, ◌-◌, ◌<◌, ◌∙◌, ◌∷◌, ◌≡◌, ◌≤◌}
use Rattle.std.proofs.lemmas.Bool.{and_parts}
use Rattle.std.specs.List.{All}

-- ---- promoted types
promoted_wider : (t : IntTy) → (bytes_of t ≤ bytes_of (promoted t)) × (nat_lt 1 (bytes_of (promoted t)) ≡ true)
promoted_wider int.Char = (omega arith, refl)
promoted_wider int.SChar = (omega arith, refl)
promoted_wider int.UChar = (omega arith, refl)
promoted_wider int.Short = (omega arith, refl)
promoted_wider int.UShort = (omega arith, refl)
promoted_wider int.Int = (omega arith, refl)
promoted_wider int.UInt = (omega arith, refl)
promoted_wider int.Long = (omega arith, refl)
promoted_wider int.ULong = (omega arith, refl)

-- a shift of a place is done in the promoted type of it
shift_operation : (op : BinOp) (t o : IntTy) (value : Ty) → Shifts op → integer_update_fits op (types.Int t) value (types.Int o) ≡ true → o ≡ promoted t
shift_operation ops.Shl t o value s e = same_int_is o (promoted t) (and_parts _ _ e).0
shift_operation ops.Shr t o value s e = same_int_is o (promoted t) (and_parts _ _ e).0
shift_operation _ t o value s e = absurd s

no_pointer : false ≡ true → ⊥
no_pointer e = cc

module _ (z : Scene) (given : IsLowerable z.program z.copies) (input : All (λ byte. byte < 256) z.outside.input) where
  constant_on : (op : BinOp) (place : Place) (right : Expression) (o : IntTy) (size line : ℕ) (spot : Spot) (y x : Quantity) (k : List Pending) → shifts_by_constant op right ≡ true → integer_update_fits op (types.Int x.ty) (type_of right) (types.Int o) ≡ true
      → Law z (Holds (datum.Number x)) (In (tree.Update op place right (types.Int o) size (types.Int x.ty) line) (AtWith spot (datum.Number y)) ∷ k)
  unfolding act room
  constant_on op place right o size line spot y x k constant rule cp l w c known due h =
      let e = tree.Update op place right (types.Int o) size (types.Int x.ty) line in
      let s = known.stands in
      let sizes = z.program.sizes in
      let g = ground_in z cp in
      let b = base g k in
      let shift = shifts_are op (and_left (is_shift op) (is_constant right) constant) in
      let r = update_rule z.program op place right (types.Int o) size (types.Int x.ty) line s.stack.0.0 in
      let is = shift_operation op x.ty o (type_of right) shift rule in
      let wider = promoted_wider x.ty in
      let wider_left = wider.0 in
      let same_bytes = ap bytes_of is in
      let few = bytes_small o in
      let less = small z given input cp s.reached in
      let f = frame_is z given cp s.reached in
      let fits = known.stack.0 in
      let t = subst (λ v. HasType z.program v (datum.Number x)) s.focus.1 s.focus.2 in
      let u = s.stack.2.1 in
      let some = (int_some y.ty).0 in
      let q = (update_parts (place_room sizes place) (form_of place) (place_bytes sizes place) (room sizes right) (value_bytes sizes right) (bytes_of o)).2 in
      let pb = pointer_is g.layout g.copy place in
      let at = pointer_at z cp less b place (omega arith) in
      let right_bytes = ap (type_bytes sizes) u.0 in
      let wide = width_is z cp (type_of right) (omega arith) in
      let bytes = ap (type_bytes sizes) r.0 in
      let place_wide = width_is z cp (place_type place).ty (omega arith) in
      let left = value_at z cp less (behind_pointer g.layout g.copy b place) right (omega arith) in
      let p = pointer_bytes (spot_of g.layout g.copy place) in
      led_by z _ _ 94 0 c _ (omega arith) (omega arith)
      (constant_update z (scene_laws z given) op place right o size line spot x y (b + p + bytes_of y.ty) (b + p) (bytes_of y.ty - 1) k cp l w c shift constant (left ∙ (omega arith)) at
      (record {
        around = around_in z cp e (AtWith spot (datum.Number y)) k (around z given input (state cp (Holds (datum.Number x)) (In e (AtWith spot (datum.Number y)) ∷ k) l w) known);
        place = r.0;
        wide = place_wide ∙ bytes;
        range = t.1;
        wider_is = omega arith;
        two = ap (λ i. nat_lt 1 (bytes_of i)) is ∙ wider.1;
        bits_are = h.holds.0.2 constant;
        count_is = wide ∙ right_bytes;
        some = omega arith;
        right_is = refl;
        left_is = omega arith;
        room = omega arith;
      }) due h)

  constant_by : (op : BinOp) (place : Place) (right : Expression) (operation : Ty) (size line : ℕ) (spot : Spot) (y x : Quantity) (k : List Pending) → shifts_by_constant op right ≡ true → IsUpdate z.program op (type_of right) operation size (types.Int x.ty)
      → Law z (Holds (datum.Number x)) (In (tree.Update op place right operation size (types.Int x.ty) line) (AtWith spot (datum.Number y)) ∷ k)
  constant_by op place right operation size line spot y x k constant (inr e) cp l w c known due h = absurd (no_pointer (moves_rule z.program (types.Int x.ty) (type_of right) size (types.Int x.ty) e.1).0)
  constant_by op place right (types.Int o) size line spot y x k constant (inl e) cp l w c known due h = constant_on op place right o size line spot y x k constant e cp l w c known due h
  constant_by op place right types.Void size line spot y x k constant (inl e) cp l w c known due h = absurd (no_pointer e)
  constant_by op place right (types.Pointer row) size line spot y x k constant (inl e) cp l w c known due h = absurd (no_pointer e)
  constant_by op place right (types.Array element length bytes) size line spot y x k constant (inl e) cp l w c known due h = absurd (no_pointer e)
  constant_by op place right (types.Struct number) size line spot y x k constant (inl e) cp l w c known due h = absurd (no_pointer e)

  -- An update by a shift whose count is a constant has the place's value.
  pub constant_updates : (op : BinOp) (place : Place) (right : Expression) (operation : Ty) (size : ℕ) (ty : Ty) (line : ℕ) (spot : Spot) (y x : Quantity) (k : List Pending) → shifts_by_constant op right ≡ true → Law z (Holds (datum.Number x)) (In (tree.Update op place right operation size ty line) (AtWith spot (datum.Number y)) ∷ k)
  constant_updates op place right operation size ty line spot y x k constant cp l w c known due h =
      let s = known.stands in
      let t = subst (λ v. HasType z.program v (datum.Number x)) s.focus.1 s.focus.2 in
      let r = (update_rule z.program op place right operation size ty line s.stack.0.0).1 in
      subst (λ v. Law z (Holds (datum.Number x)) (In (tree.Update op place right operation size v line) (AtWith spot (datum.Number y)) ∷ k)) (sym t.0)
      (constant_by op place right operation size line spot y x k constant (subst (λ v. IsUpdate z.program op (type_of right) operation size v) t.0 r)) cp l w c known due h
