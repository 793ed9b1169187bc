-- The laws of updates of integers by operators that a helper computes, and by shifts, put together.
use Rattle.std.proofs.Common.{◌≡◌, ℕ, suc, ◌+◌, ◌<◌, ◌≤◌, ◌⊎◌, inl, inr, Bool, true, false, ◌&&◌, nat_lt, List, ◌∷◌, refl, sym, ap, ◌∙◌, subst, ⊎_elim, arith}
use Rattle.std.proofs.lemmas.Bool.{and_parts}
use Rattle.std.specs.List.{All}
use Rattle.c_ints.specs.Conversions.{common, promoted}
use Rattle.c_ints.specs.Quantity.{Quantity}
use Rattle.c_ints.specs.Range.{bytes_of}
use Rattle.c_ints.specs.declared.operators.BinOp.{BinOp}
use Rattle.c_ints.specs.declared.operators.BinOp.TheVariants as ops
use Rattle.c_ints.specs.declared.types.IntTy.{IntTy}
use Rattle.c_ints.specs.declared.types.IntTy.TheVariants as int
use Rattle.c_typed.specs.Room.{place_room, room}
use Rattle.c_typed.specs.Rules.{integer_update_fits}
use Rattle.c_typed.specs.Sameness.{is_promoted}
use Rattle.c_typed.specs.Trees as tree
use Rattle.c_typed.specs.Trees.{Expression, Place}
use Rattle.c_typed.specs.Types.{form_of, is_constant, place_bytes, place_type, type_bytes, type_of, value_bytes}
use Rattle.c_typed.specs.declared.types.Ty.{Ty}
use Rattle.c_typed.specs.declared.types.Ty.TheVariants as types
use Rattle.lower_expr.specs.Lowering.{behind_pointer, shifts_by_constant}
use Rattle.lower_expr.specs.Rows.{is_shift}
use Rattle.lower_expr.specs.Spots.{pointer_bytes, spot_of}
use Rattle.src_rules.proofs.Rules.{IsUpdate, moves_rule, update_rule}
use Rattle.src_rules.proofs.Values.{same_int_is, same_type_is}
use Rattle.src_rules.specs.Standing.{HasType}
use Rattle.src_rules.specs.State.{state}
use Rattle.src_rules.specs.Step.{act}
use Rattle.src_values.specs.Control.{Holds, AtWith, Pending, In}
use Rattle.src_values.specs.Data as datum
use Rattle.src_values.specs.declared.objects.Spot.{Spot}
use Rattle.lower_trace.specs.Lowering.{IsLowerable}
use Rattle.lower_trace.proofs.Changing.{IsSum}
use Rattle.lower_trace.proofs.CodeLeft.{Scene, base, ground_in}
use Rattle.lower_trace.proofs.ConstantUpdates.{constant_update}
use Rattle.lower_trace.proofs.Fitting.{pointer_at, value_at, width_is}
use Rattle.lower_trace.proofs.Helped.{IsProduct, Shifts, product_helps, product_right, shift_helps, shift_right}
use Rattle.lower_trace.proofs.HelpedUpdates.{update_product, update_shift}
use Rattle.lower_trace.proofs.HelperCopies.{update_helped}
use Rattle.lower_trace.proofs.Kept.{bytes_small}
use Rattle.lower_trace.proofs.Known.{around, resumables, small}
use Rattle.lower_trace.proofs.Leads.{Law, led_by}
use Rattle.lower_trace.proofs.LedChanges.{two_common, wider_left}
use Rattle.lower_trace.proofs.LedHelped.{bytes_more, same_int_type, value_bits}
use Rattle.lower_trace.proofs.LedValues.{around_in}
use Rattle.lower_trace.proofs.Rooms.{pointer_is, update_parts}
use Rattle.lower_trace.proofs.Scenes.{frame_is, scene_laws}
use Rattle.lower_trace.proofs.Written.{and_right}

-- ---- types of operations
no_pointer : false ≡ true → ⊥
no_pointer e = cc

-- the type of an operation has two bytes or more, and as many as the place's
pub record IsWide (t o : IntTy) : Type 0 where
  pub wider : bytes_of t ≤ bytes_of o
  pub two : nat_lt 1 (bytes_of o) ≡ true

two_there : (o : IntTy) → 2 ≤ bytes_of o → nat_lt 1 (bytes_of o) ≡ true
two_there int.Char le = absurd (omega arith)
two_there int.SChar le = absurd (omega arith)
two_there int.UChar le = absurd (omega arith)
two_there int.Short le = refl
two_there int.UShort le = refl
two_there int.Int le = refl
two_there int.UInt le = refl
two_there int.Long le = refl
two_there int.ULong le = refl

common_wide : (t o : IntTy) → o ≡ common t o → IsWide t o
common_wide t o e =
    let q = ap bytes_of e in
    let w = wider_left t o in
    let c = two_common t o in
    record { wider = omega arith; two = two_there o (omega arith) }

promoted_wide : (t o : IntTy) → o ≡ promoted t → IsWide t o
promoted_wide int.Char o e = let q = ap bytes_of e in record { wider = omega arith; two = two_there o (omega arith) }
promoted_wide int.SChar o e = let q = ap bytes_of e in record { wider = omega arith; two = two_there o (omega arith) }
promoted_wide int.UChar o e = let q = ap bytes_of e in record { wider = omega arith; two = two_there o (omega arith) }
promoted_wide int.Short o e = let q = ap bytes_of e in record { wider = omega arith; two = two_there o (omega arith) }
promoted_wide int.UShort o e = let q = ap bytes_of e in record { wider = omega arith; two = two_there o (omega arith) }
promoted_wide int.Int o e = let q = ap bytes_of e in record { wider = omega arith; two = two_there o (omega arith) }
promoted_wide int.UInt o e = let q = ap bytes_of e in record { wider = omega arith; two = two_there o (omega arith) }
promoted_wide int.Long o e = let q = ap bytes_of e in record { wider = omega arith; two = two_there o (omega arith) }
promoted_wide int.ULong o e = let q = ap bytes_of e in record { wider = omega arith; two = two_there o (omega arith) }

product_types : (op : BinOp) (t o : IntTy) (value : Ty) → IsProduct op → integer_update_fits op (types.Int t) value (types.Int o) ≡ true → (value ≡ types.Int o) × IsWide t o
product_types ops.Mul t o value p e = let q = and_parts _ _ e in (same_type_is value (types.Int o) q.0, common_wide t o (same_int_is o (common t o) q.1))
product_types ops.Div t o value p e = let q = and_parts _ _ e in (same_type_is value (types.Int o) q.0, common_wide t o (same_int_is o (common t o) q.1))
product_types ops.Rem t o value p e = let q = and_parts _ _ e in (same_type_is value (types.Int o) q.0, common_wide t o (same_int_is o (common t o) q.1))
product_types _ t o value p e = absurd p

shift_types : (op : BinOp) (t o : IntTy) (value : Ty) → Shifts op → integer_update_fits op (types.Int t) value (types.Int o) ≡ true → (is_promoted value ≡ true) × IsWide t o
shift_types ops.Shl t o value p e = let q = and_parts _ _ e in (q.1, promoted_wide t o (same_int_is o (promoted t) q.0))
shift_types ops.Shr t o value p e = let q = and_parts _ _ e in (q.1, promoted_wide t o (same_int_is o (promoted t) q.0))
shift_types _ t o value p e = absurd p

-- a comparison makes no update
pub update_kinds : (op : BinOp) (t o : IntTy) (value : Ty) → (IsSum op → ⊥) → integer_update_fits op (types.Int t) value (types.Int o) ≡ true → IsProduct op ⊎ Shifts op
update_kinds ops.Mul t o value other e = inl tt
update_kinds ops.Div t o value other e = inl tt
update_kinds ops.Rem t o value other e = inl tt
update_kinds ops.Shl t o value other e = inr tt
update_kinds ops.Shr t o value other e = inr tt
update_kinds ops.Lt t o value other e = absurd (no_pointer e)
update_kinds ops.Gt t o value other e = absurd (no_pointer e)
update_kinds ops.Le t o value other e = absurd (no_pointer e)
update_kinds ops.Ge t o value other e = absurd (no_pointer e)
update_kinds ops.Eq t o value other e = absurd (no_pointer e)
update_kinds ops.Ne t o value other e = absurd (no_pointer e)
update_kinds _ t o value other e = absurd (other tt)

module _ (z : Scene) (given : IsLowerable z.program z.copies) (input : All (λ byte. byte < 256) z.outside.input) where
  product_on : (op : BinOp) (place : Place) (right : Expression) (o : IntTy) (size line : ℕ) (spot : Spot) (y x : Quantity) (k : List Pending) → IsProduct op → integer_update_fits op (types.Int x.ty) (type_of right) (types.Int o) ≡ true
      → Law z (Holds (datum.Number x)) (In (tree.Update op place right (types.Int o) size (types.Int x.ty) line) (AtWith spot (datum.Number y)) ∷ k)
  unfolding act room
  product_on op place right o size line spot y x k product rule cp l w c known due h =
      let e = tree.Update op place right (types.Int o) size (types.Int x.ty) line in
      let here = state cp (Holds (datum.Number x)) (In e (AtWith spot (datum.Number y)) ∷ k) l w in
      let s = known.stands in
      let sizes = z.program.sizes in
      let g = ground_in z cp in
      let b = base g k in
      let r = update_rule z.program op place right (types.Int o) size (types.Int x.ty) line s.stack.0.0 in
      let types_are = product_types op x.ty o (type_of right) product rule in
      let few = bytes_small o in
      let less = small z given input cp s.reached in
      let f = frame_is z given cp s.reached in
      let fits = known.stack.0 in
      let t = subst (λ v. HasType z.program v (datum.Number x)) s.focus.1 s.focus.2 in
      let u = s.stack.2.1 in
      let alike = same_int_type y.ty o (sym u.0 ∙ types_are.0) in
      let same_bytes = ap bytes_of alike in
      let q = (update_parts (place_room sizes place) (form_of place) (place_bytes sizes place) (room sizes right) (value_bytes sizes right) (bytes_of o)).2 in
      let pb = pointer_is g.layout g.copy place in
      let at = pointer_at z cp less b place (omega arith) in
      let right_bytes = ap (type_bytes sizes) types_are.0 in
      let bytes = ap (type_bytes sizes) r.0 in
      let place_wide = width_is z cp (place_type place).ty (omega arith) in
      let left = value_at z cp less (behind_pointer g.layout g.copy b place) right (omega arith) in
      let p = pointer_bytes (spot_of g.layout g.copy place) in
      let reads = ap bytes_of (product_right op o product).0 in
      let plain : shifts_by_constant op right ≡ false = ap (λ v. v && is_constant right) (product_right op o product).1 in
      led_by z _ _ 2162 0 c _ (omega arith) (omega arith)
      (update_product z (scene_laws z given) op place right o size line spot x y (b + p + bytes_of o) (b + p) (bytes_of o) k cp l w c product alike u.1 (left ∙ (omega arith)) at
      (record {
        around = around_in z cp e (AtWith spot (datum.Number y)) k (around z given input here known);
        resumable = resumables z here known;
        place = r.0;
        wide = place_wide ∙ bytes;
        range = t.1;
        wider_is = types_are.1.wider;
        two = types_are.1.two;
        there = update_helped z given cp s.reached op place right o size (types.Int x.ty) line (product_helps op product) plain types_are.1.two known.parts.1.0.0;
        right_is = refl;
        left_is = refl;
        fits = omega arith;
        reads = omega arith;
        room = omega arith;
      }) due h)

  shift_on : (op : BinOp) (place : Place) (right : Expression) (o : IntTy) (size line : ℕ) (spot : Spot) (y x : Quantity) (k : List Pending) → Shifts op → shifts_by_constant op right ≡ false → integer_update_fits op (types.Int x.ty) (type_of right) (types.Int o) ≡ true
      → Law z (Holds (datum.Number x)) (In (tree.Update op place right (types.Int o) size (types.Int x.ty) line) (AtWith spot (datum.Number y)) ∷ k)
  unfolding act room
  shift_on op place right o size line spot y x k shift plain rule cp l w c known due h =
      let e = tree.Update op place right (types.Int o) size (types.Int x.ty) line in
      let here = state cp (Holds (datum.Number x)) (In e (AtWith spot (datum.Number y)) ∷ k) l w in
      let s = known.stands in
      let sizes = z.program.sizes in
      let g = ground_in z cp in
      let b = base g k in
      let r = update_rule z.program op place right (types.Int o) size (types.Int x.ty) line s.stack.0.0 in
      let types_are = shift_types op x.ty o (type_of right) shift rule in
      let few = bytes_small o in
      let less = small z given input cp s.reached in
      let f = frame_is z given cp s.reached in
      let fits = known.stack.0 in
      let t = subst (λ v. HasType z.program v (datum.Number x)) s.focus.1 s.focus.2 in
      let u = s.stack.2.1 in
      let more = (bytes_more y.ty).1 in
      let q = (update_parts (place_room sizes place) (form_of place) (place_bytes sizes place) (room sizes right) (value_bytes sizes right) (bytes_of o)).2 in
      let pb = pointer_is g.layout g.copy place in
      let at = pointer_at z cp less b place (omega arith) in
      let right_bytes = ap (type_bytes sizes) u.0 in
      let bytes = ap (type_bytes sizes) r.0 in
      let place_wide = width_is z cp (place_type place).ty (omega arith) in
      let left = value_at z cp less (behind_pointer g.layout g.copy b place) right (omega arith) in
      let p = pointer_bytes (spot_of g.layout g.copy place) in
      let reads = ap bytes_of (shift_right op o shift) in
      led_by z _ _ 2162 0 c _ (omega arith) (omega arith)
      (update_shift z (scene_laws z given) op place right o size line spot x y (b + p + bytes_of y.ty) (b + p) (bytes_of y.ty) k cp l w c shift plain (left ∙ (omega arith)) at
      (record {
        around = around_in z cp e (AtWith spot (datum.Number y)) k (around z given input here known);
        resumable = resumables z here known;
        place = r.0;
        wide = place_wide ∙ bytes;
        range = t.1;
        wider_is = types_are.1.wider;
        two = types_are.1.two;
        there = update_helped z given cp s.reached op place right o size (types.Int x.ty) line (shift_helps op shift) plain types_are.1.two known.parts.1.0.0;
        right_is = refl;
        left_is = refl;
        fits = omega arith;
        reads = omega arith;
        room = omega arith;
      }) due h)

  constant_on : (op : BinOp) (place : Place) (right : Expression) (o : IntTy) (size line : ℕ) (spot : Spot) (y x : Quantity) (k : List Pending) → Shifts op → shifts_by_constant op right ≡ true → integer_update_fits op (types.Int x.ty) (type_of right) (types.Int o) ≡ true
      → Law z (Holds (datum.Number x)) (In (tree.Update op place right (types.Int o) size (types.Int x.ty) line) (AtWith spot (datum.Number y)) ∷ k)
  unfolding act room
  constant_on op place right o size line spot y x k shift constant rule cp l w c known due h =
      let e = tree.Update op place right (types.Int o) size (types.Int x.ty) line in
      let here = state cp (Holds (datum.Number x)) (In e (AtWith spot (datum.Number y)) ∷ k) l w in
      let s = known.stands in
      let sizes = z.program.sizes in
      let g = ground_in z cp in
      let b = base g k in
      let r = update_rule z.program op place right (types.Int o) size (types.Int x.ty) line s.stack.0.0 in
      let types_are = shift_types op x.ty o (type_of right) shift rule in
      let few = bytes_small o in
      let less = small z given input cp s.reached in
      let f = frame_is z given cp s.reached in
      let fits = known.stack.0 in
      let t = subst (λ v. HasType z.program v (datum.Number x)) s.focus.1 s.focus.2 in
      let u = s.stack.2.1 in
      let more = bytes_more y.ty in
      let more_is = more.1 in
      let q = (update_parts (place_room sizes place) (form_of place) (place_bytes sizes place) (room sizes right) (value_bytes sizes right) (bytes_of o)).2 in
      let pb = pointer_is g.layout g.copy place in
      let at = pointer_at z cp less b place (omega arith) in
      let right_bytes = ap (type_bytes sizes) u.0 in
      let wide = width_is z cp (type_of right) (omega arith) in
      let bytes = ap (type_bytes sizes) r.0 in
      let place_wide = width_is z cp (place_type place).ty (omega arith) in
      let left = value_at z cp less (behind_pointer g.layout g.copy b place) right (omega arith) in
      let p = pointer_bytes (spot_of g.layout g.copy place) in
      led_by z _ _ 94 0 c _ (omega arith) (omega arith)
      (constant_update z (scene_laws z given) op place right o size line spot x y (b + p + suc more.0) (b + p) more.0 k cp l w c shift constant (left ∙ (omega arith)) at
      (record {
        around = around_in z cp e (AtWith spot (datum.Number y)) k (around z given input here known);
        place = r.0;
        wide = place_wide ∙ bytes;
        range = t.1;
        wider_is = types_are.1.wider;
        two = types_are.1.two;
        bits_are = value_bits right y known.parts.1.1 (and_right (is_shift op) (is_constant right) constant);
        count_is = wide ∙ right_bytes;
        some = more_is;
        right_is = refl;
        left_is = refl;
        room = omega arith;
      }) due h)

  shift_by : (constant : Bool) (op : BinOp) (place : Place) (right : Expression) (o : IntTy) (size line : ℕ) (spot : Spot) (y x : Quantity) (k : List Pending) → shifts_by_constant op right ≡ constant → Shifts op → integer_update_fits op (types.Int x.ty) (type_of right) (types.Int o) ≡ true
      → Law z (Holds (datum.Number x)) (In (tree.Update op place right (types.Int o) size (types.Int x.ty) line) (AtWith spot (datum.Number y)) ∷ k)
  shift_by true op place right o size line spot y x k is shift rule = constant_on op place right o size line spot y x k shift is rule
  shift_by false op place right o size line spot y x k is shift rule = shift_on op place right o size line spot y x k shift is rule

  int_update : (op : BinOp) (place : Place) (right : Expression) (o : IntTy) (size line : ℕ) (spot : Spot) (y x : Quantity) (k : List Pending) → (IsSum op → ⊥) → integer_update_fits op (types.Int x.ty) (type_of right) (types.Int o) ≡ true
      → Law z (Holds (datum.Number x)) (In (tree.Update op place right (types.Int o) size (types.Int x.ty) line) (AtWith spot (datum.Number y)) ∷ k)
  int_update op place right o size line spot y x k other rule cp l w c known due h =
      ⊎_elim
      (λ product. product_on op place right o size line spot y x k product rule cp l w c known due h)
      (λ shift. shift_by (shifts_by_constant op right) op place right o size line spot y x k refl shift rule cp l w c known due h)
      (update_kinds op x.ty o (type_of right) other rule)

  update_by : (op : BinOp) (place : Place) (right : Expression) (operation : Ty) (size line : ℕ) (spot : Spot) (y x : Quantity) (k : List Pending) → (IsSum op → ⊥) → IsUpdate z.program op (type_of right) operation size (types.Int x.ty)
      → Law z (Holds (datum.Number x)) (In (tree.Update op place right operation size (types.Int x.ty) line) (AtWith spot (datum.Number y)) ∷ k)
  update_by op place right operation size line spot y x k other (inr e) cp l w c known due h = absurd (no_pointer (moves_rule z.program (types.Int x.ty) (type_of right) size (types.Int x.ty) e.1).0)
  update_by op place right (types.Int o) size line spot y x k other (inl e) cp l w c known due h = int_update op place right o size line spot y x k other e cp l w c known due h
  update_by op place right types.Void size line spot y x k other (inl e) cp l w c known due h = absurd (no_pointer e)
  update_by op place right (types.Pointer row) size line spot y x k other (inl e) cp l w c known due h = absurd (no_pointer e)
  update_by op place right (types.Array element length bytes) size line spot y x k other (inl e) cp l w c known due h = absurd (no_pointer e)
  update_by op place right (types.Struct number) size line spot y x k other (inl e) cp l w c known due h = absurd (no_pointer e)

  -- An update of an integer by an operator that isn't a sum: a product or a shift.
  pub helped_updates : (op : BinOp) (place : Place) (right : Expression) (operation : Ty) (size : ℕ) (ty : Ty) (line : ℕ) (spot : Spot) (y x : Quantity) (k : List Pending) → (IsSum op → ⊥) → Law z (Holds (datum.Number x)) (In (tree.Update op place right operation size ty line) (AtWith spot (datum.Number y)) ∷ k)
  helped_updates op place right operation size ty line spot y x k other cp l w c known due h =
      let s = known.stands in
      let t = subst (λ v. HasType z.program v (datum.Number x)) s.focus.1 s.focus.2 in
      let r = (update_rule z.program op place right operation size ty line s.stack.0.0).1 in
      subst (λ v. Law z (Holds (datum.Number x)) (In (tree.Update op place right operation size v line) (AtWith spot (datum.Number y)) ∷ k)) (sym t.0)
      (update_by op place right operation size line spot y x k other (subst (λ v. IsUpdate z.program op (type_of right) operation size v) t.0 r)) cp l w c known due h
