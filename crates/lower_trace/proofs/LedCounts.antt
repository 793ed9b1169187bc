-- The laws of counts that are constants, put together: byte code stands still while the source evaluates one, and goes on where its value
-- is there.
use Rattle.c_ints.specs.Conversions.{promoted}
use Rattle.c_ints.specs.Quantity.{Quantity}
use Rattle.c_ints.specs.Range.{bytes_of, pattern}
use Rattle.c_ints.specs.declared.operators.BinOp.TheVariants as ops
use Rattle.c_ints.specs.declared.operators.BinOp.{BinOp}
use Rattle.c_ints.specs.declared.types.IntTy.{IntTy}
use Rattle.c_typed.specs.Folding.{constant_bits}
use Rattle.c_typed.specs.Room.{room}
use Rattle.c_typed.specs.Rules.{binary_fits, integers_fit}
use Rattle.c_typed.specs.Sameness.{same_int}
use Rattle.c_typed.specs.Trees as tree
use Rattle.c_typed.specs.Trees.{Expression, Place}
use Rattle.c_typed.specs.Types.{is_constant, type_bytes, type_of, value_bytes}
use Rattle.c_typed.specs.declared.types.Ty.TheVariants as types
use Rattle.c_typed.specs.declared.types.Ty.{Ty}
use Rattle.core_code.specs.Machine.{Machine}
use Rattle.lower_expr.specs.Lowering.{shifts_by_constant}
use Rattle.lower_expr.specs.Rows.{is_shift}
use Rattle.lower_trace.proofs.CodeLeft.{Scene, base, core_in, ground_in, source_in}
use Rattle.lower_trace.proofs.ConstantShifts.{constant_shift}
use Rattle.lower_trace.proofs.ConstantUpdates.{count_given}
use Rattle.lower_trace.proofs.Fitting.{value_at, width_is}
use Rattle.lower_trace.proofs.FoldedOperands.{operands_plain}
use Rattle.lower_trace.proofs.Folding.{FoldPauses, FoldState, Folds, PlainOn, fold_bits, fold_eval, fold_take, shift_begins, update_begins}
use Rattle.lower_trace.proofs.Helped.{Shifts}
use Rattle.lower_trace.proofs.Known.{Known, around, small}
use Rattle.lower_trace.proofs.Leads.{Law, Led, Meets, led_by}
use Rattle.lower_trace.proofs.LedMissing.{none_answered, none_binary}
use Rattle.lower_trace.proofs.LedOperators.{wide_int}
use Rattle.lower_trace.proofs.LedValues.{around_in, int_some, scalar_update}
use Rattle.lower_trace.proofs.Mirrors.{Mirrors}
use Rattle.lower_trace.proofs.Operations.{comes_here}
use Rattle.lower_trace.proofs.Prices.{least_at}
use Rattle.lower_trace.proofs.Rooms.{binary_parts}
use Rattle.lower_trace.proofs.Scenes.{frame_is, scene_laws}
use Rattle.lower_trace.proofs.Waiting.{CountWaits}
use Rattle.lower_trace.proofs.Written.{and_left}
use Rattle.lower_trace.specs.Lowering.{IsLowerable}
use Rattle.pic_world.specs.World.{World, arrived, is_due}
use Rattle.src_rules.proofs.Rules.{binary_rule, update_rule}
use Rattle.src_rules.proofs.Values.{same_type_is}
use Rattle.src_rules.specs.Parts.{IsExpressionOf}
use Rattle.src_rules.specs.Standing.{GotStands, HasType, WaitsIn}
use Rattle.src_rules.specs.State.{Idle, Lost, Outcome, State, Undefined, Went, state}
use Rattle.src_rules.specs.Step.{act}
use Rattle.src_values.specs.Control.{At, Eval, Focus, Found, Got, In, Nothing, One, Pending, Holds as Value, active}
use Rattle.src_values.specs.Data as datum
use Rattle.src_values.specs.Data.{Datum}
use Rattle.src_values.specs.Memory as source
use Rattle.src_values.specs.Values.{binary_answer}
use Rattle.src_values.specs.declared.objects.Byte.{Byte}
use Rattle.src_values.specs.declared.objects.CopyOf.{CopyOf}
use Rattle.src_values.specs.declared.objects.Spot.{Spot}
use Rattle.std.proofs.Common.{List, [], ap, arith, false, inr, refl, subst, sym, true, ℕ, ◌++◌, ◌+◌, ◌-◌, ◌<◌, ◌∙◌, ◌∷◌, ◌≡◌}
use Rattle.std.proofs.lemmas.Bool.{and_parts}
use Rattle.std.specs.List.{All}

-- byte code stands still
led_folds : (z : Scene) (x : Focus) (k : List Pending) (c : Machine) (o : Outcome) → least_at z.program x k ≡ 0 → Folds z c o → Led z x k c o
led_folds z x k c (Went u event) free f = record { most = 0; least = 0; on = comes_here (core_in z) (Meets z u) c (inr (inr (CountWaits f))); low = omega arith; high = omega arith }
led_folds z x k c (Undefined kind line) free f = record { most = 0; least = 0; on = tt; low = omega arith; high = omega arith }
led_folds z x k c Idle free f = record { most = 0; least = 0; on = tt; low = omega arith; high = omega arith }
led_folds z x k c Lost free f = record { most = 0; least = 0; on = tt; low = omega arith; high = omega arith }

-- ---- shifts
pub shifts_are : (op : BinOp) → is_shift op ≡ true → Shifts op
shifts_are ops.Shl e = tt
shifts_are ops.Shr e = tt
shifts_are ops.Mul e = absurd (cc)
shifts_are ops.Div e = absurd (cc)
shifts_are ops.Rem e = absurd (cc)
shifts_are ops.Add e = absurd (cc)
shifts_are ops.Sub e = absurd (cc)
shifts_are ops.And e = absurd (cc)
shifts_are ops.Or e = absurd (cc)
shifts_are ops.Xor e = absurd (cc)
shifts_are ops.Lt e = absurd (cc)
shifts_are ops.Gt e = absurd (cc)
shifts_are ops.Le e = absurd (cc)
shifts_are ops.Ge e = absurd (cc)
shifts_are ops.Eq e = absurd (cc)
shifts_are ops.Ne e = absurd (cc)

-- a shift has the type of its left operand, which is promoted
shift_types : (op : BinOp) (t : IntTy) (right ty : Ty) → Shifts op → integers_fit op (types.Int t) right ty ≡ true → (same_int (promoted t) t ≡ true) × (types.Int t ≡ ty)
shift_types ops.Shl t right ty s e = let p = and_parts _ _ e in (p.0, same_type_is (types.Int t) ty (and_parts _ _ p.1).1)
shift_types ops.Shr t right ty s e = let p = and_parts _ _ e in (p.0, same_type_is (types.Int t) ty (and_parts _ _ p.1).1)
shift_types _ t right ty s e = absurd s

-- What follows the count of a shift, whose value is there: byte code stands at the left operand's value.
abbrev AfterCount : Scene → BinOp → Expression → Expression → Ty → ℕ → Datum → Quantity → List Pending → Type 0
AfterCount z op left right ty line u q k =
    (cp : CopyOf) (l : source.Memory) (w : World Byte) (c : Machine) → Known z (state cp (Value (datum.Number q)) (In (tree.Binary op left right ty line) (One u) ∷ k) l w) → is_due (arrived z.outside w) ≡ false
    → Mirrors z (state cp (Value u) (In (tree.Binary op left right ty line) Nothing ∷ k) l w) c → Led z (Value (datum.Number q)) (In (tree.Binary op left right ty line) (One u) ∷ k) c (act (source_in z) (Value (datum.Number q)) (In (tree.Binary op left right ty line) (One u) ∷ k) cp l (arrived z.outside w))

module _ (z : Scene) (given : IsLowerable z.program z.copies) (input : All (λ byte. byte < 256) z.outside.input) where
  -- ---- a count begins
  pub known_counts : (op : BinOp) (left right : Expression) (ty : Ty) (line : ℕ) (v : Datum) (k : List Pending) → shifts_by_constant op right ≡ true → Law z (Value v) (In (tree.Binary op left right ty line) Nothing ∷ k)
  unfolding act
  known_counts op left right ty line v k constant cp l w c known due h = led_folds z _ _ c _ refl (shift_begins z k cp l w c op left right ty line v constant due h)

  pub known_updates : (op : BinOp) (place : Place) (value : Expression) (operation : Ty) (size : ℕ) (ty : Ty) (line : ℕ) (spot : Spot) (k : List Pending) → shifts_by_constant op value ≡ true → Law z (Found spot) (In (tree.Update op place value operation size ty line) Nothing ∷ k)
  unfolding act
  known_updates op place value operation size ty line spot k constant cp l w c known due h = led_folds z _ _ c _ refl (update_begins z k cp l w c op place value operation size ty line spot constant due h)

  -- ---- it is there
  shift_on : (op : BinOp) (left right : Expression) (line : ℕ) (x q : Quantity) (k : List Pending) → shifts_by_constant op right ≡ true → pattern q.ty q.number ≡ constant_bits right → integers_fit op (types.Int x.ty) (type_of right) (types.Int x.ty) ≡ true
      → AfterCount z op left right (types.Int x.ty) line (datum.Number x) q k
  unfolding act room
  shift_on op left right line x q k constant bits_are rule cp l w c known due h =
      let e = tree.Binary op left right (types.Int x.ty) line in
      let t = state cp (Value (datum.Number q)) (In e (One (datum.Number x)) ∷ k) l w in
      let s = known.stands in
      let sizes = z.program.sizes in
      let g = ground_in z cp in
      let b = base g k in
      let shift = shifts_are op (and_left (is_shift op) (is_constant right) constant) in
      let y = subst (λ r. HasType z.program r (datum.Number q)) s.focus.1 s.focus.2 in
      let u = s.stack.2 in
      let f = frame_is z given cp s.reached in
      let less = small z given input cp s.reached in
      let fits = known.stack.0 in
      let parts = (binary_parts (room sizes left) (value_bytes sizes left) (room sizes right) (value_bytes sizes right) (bytes_of x.ty)).2 in
      let left_bytes = ap (type_bytes sizes) u.0 in
      let right_bytes = ap (type_bytes sizes) y.0 in
      let some = (int_some q.ty).0 in
      let wide = width_is z cp (type_of right) (omega arith) in
      let second = value_at z cp less b left (omega arith) in
      led_by z _ _ 70 0 c _ (omega arith) (omega arith)
      (constant_shift z (scene_laws z given) op left right line x q (b + bytes_of x.ty) (bytes_of q.ty - 1) k cp l w c shift constant (around_in z cp e (One (datum.Number x)) k (around z given input t known))
      (wide_int x.ty (shift_types op x.ty (type_of right) (types.Int x.ty) shift rule).0) u.0 u.1 bits_are (wide ∙ right_bytes) (omega arith) (second ∙ (omega arith)) (omega arith) (omega arith) due h)

  shift_after : (op : BinOp) (left right : Expression) (ty : Ty) (line : ℕ) (u : Datum) (q : Quantity) (k : List Pending) → shifts_by_constant op right ≡ true → pattern q.ty q.number ≡ constant_bits right → AfterCount z op left right ty line u q k
  unfolding act
  shift_after op left right ty line datum.Missing q k constant bits_are cp l w c known due h =
      none_answered z _ _ (binary_answer z.program (active cp (Value (datum.Number q)) k) op ty datum.Missing (datum.Number q)) line k cp l (arrived z.outside w) c (none_binary z.program (active cp (Value (datum.Number q)) k) op ty datum.Missing (datum.Number q) tt)
  shift_after op left right ty line (datum.Pointer x) q k constant bits_are cp l w c known due h =
      none_answered z _ _ (binary_answer z.program (active cp (Value (datum.Number q)) k) op ty (datum.Pointer x) (datum.Number q)) line k cp l (arrived z.outside w) c (none_binary z.program (active cp (Value (datum.Number q)) k) op ty (datum.Pointer x) (datum.Number q) tt)
  shift_after op left right ty line (datum.Number x) q k constant bits_are cp l w c known due h =
      let s = known.stands in
      let u = s.stack.2 in
      let rule = subst (λ r. binary_fits z.program op r (type_of right) ty ≡ true) u.0 (binary_rule z.program op left right ty line s.stack.0.0) in
      let same = (shift_types op x.ty (type_of right) ty (shifts_are op (and_left (is_shift op) (is_constant right) constant)) rule).1 in
      subst (λ y. AfterCount z op left right y line (datum.Number x) q k) same
      (shift_on op left right line x q k constant bits_are (subst (λ y. integers_fit op (types.Int x.ty) (type_of right) y ≡ true) (sym same) rule)) cp l w c known due h

  update_after : (op : BinOp) (place : Place) (value : Expression) (operation : Ty) (size : ℕ) (ty : Ty) (line : ℕ) (spot : Spot) (q : Quantity) (k : List Pending) (cp : CopyOf) (l : source.Memory) (w : World Byte) (c : Machine) → shifts_by_constant op value ≡ true → pattern q.ty q.number ≡ constant_bits value
      → Known z (state cp (Value (datum.Number q)) (In (tree.Update op place value operation size ty line) (At spot) ∷ k) l w) → Mirrors z (state cp (Found spot) (In (tree.Update op place value operation size ty line) Nothing ∷ k) l w) c
      → Led z (Value (datum.Number q)) (In (tree.Update op place value operation size ty line) (At spot) ∷ k) c (act (source_in z) (Value (datum.Number q)) (In (tree.Update op place value operation size ty line) (At spot) ∷ k) cp l (arrived z.outside w))
  unfolding act
  update_after op place value operation size ty line spot q k cp l w c constant bits_are known h =
      led_by z _ _ 0 0 c _ (omega arith) (omega arith)
      (count_given z (scene_laws z given) op place value operation size ty line spot (datum.Number q) k cp l w c constant bits_are
      (scalar_update z op (type_of value) operation size ty (update_rule z.program op place value operation size ty line known.stands.stack.0.0).1) h)

  after : (F before : Pending) (was : Focus) (count : Expression) (q : Quantity) (k : List Pending) (cp : CopyOf) (l : source.Memory) (w : World Byte) (c : Machine) → Known z (state cp (Value (datum.Number q)) (F ∷ k) l w) → is_due (arrived z.outside w) ≡ false
      → FoldState z F before was count k [] (Value (datum.Number q)) cp l w c → Led z (Value (datum.Number q)) (F ∷ k) c (act (source_in z) (Value (datum.Number q)) (F ∷ k) cp l (arrived z.outside w))
  after (In (tree.Binary op left right ty line) (One u)) before was count q k cp l w c known due h =
      let F = In (tree.Binary op left right ty line) (One u) in
      let x = h.waits in
      shift_after op left right ty line u q k x.0 (fold_bits z F before was count k cp l w c q h ∙ ap constant_bits x.3) cp l w c known due
      (subst (λ y. Mirrors z (state cp y (In (tree.Binary op left right ty line) Nothing ∷ k) l w) c) x.2 (subst (λ y. Mirrors z (state cp was (y ∷ k) l w) c) x.1 h.stands))
  after (In (tree.Update op place value operation size ty line) (At spot)) before was count q k cp l w c known due h =
      let F = In (tree.Update op place value operation size ty line) (At spot) in
      let x = h.waits in
      update_after op place value operation size ty line spot q k cp l w c x.0 (fold_bits z F before was count k cp l w c q h ∙ ap constant_bits x.3) known
      (subst (λ y. Mirrors z (state cp y (In (tree.Update op place value operation size ty line) Nothing ∷ k) l w) c) x.2 (subst (λ y. Mirrors z (state cp was (y ∷ k) l w) c) x.1 h.stands))
  after _ before was count q k cp l w c known due h = absurd h.waits

  -- ---- it is under way
  -- the operands of an operator within it
  plain_on : (cp : CopyOf) (e : Expression) (got : Got) (q : Quantity) (ty : Ty) → IsExpressionOf z.program cp.function e → GotStands z.program cp e got → WaitsIn e got ty → HasType z.program ty (datum.Number q) → PlainOn (In e got) q
  plain_on cp (tree.Binary op left right ty line) (One (datum.Number u)) q waited e stands waits has =
      let rule = subst (λ r. binary_fits z.program op r (type_of right) ty ≡ true) stands.0 (binary_rule z.program op left right ty line e.0) in
      operands_plain op u q ty (subst (λ r. integers_fit op (types.Int u.ty) r ty ≡ true) (sym waits ∙ has.0) rule) stands.1 has.1
  plain_on cp _ _ q waited e stands waits has = tt

  within : (x : Focus) (above : List Pending) (F before : Pending) (was : Focus) (count : Expression) (k : List Pending) (cp : CopyOf) (l : source.Memory) (w : World Byte) (c : Machine) → Known z (state cp x (above ++ F ∷ k) l w) → is_due (arrived z.outside w) ≡ false
      → FoldState z F before was count k above x cp l w c → Led z x (above ++ F ∷ k) c (act (source_in z) x (above ++ F ∷ k) cp l (arrived z.outside w))
  unfolding act
  within (Eval e) above F before was count k cp l w c known due h = led_folds z _ _ c _ refl (fold_eval z F before was count k cp l w c e above h)
  within (Value (datum.Number q)) [] F before was count k cp l w c known due h = after F before was count q k cp l w c known due h
  within (Value (datum.Number q)) (In e got ∷ above) F before was count k cp l w c known due h =
      let s = known.stands in
      let f = s.focus in
      let has : HasType z.program f.0 (datum.Number q) = f.2 in
      led_folds z _ _ c _ refl (fold_take z F before was count k cp l w c e got q above has.1 (plain_on cp e got q f.0 s.stack.0 s.stack.2 f.1 has) h)
  within (Value (datum.Number q)) (_ ∷ above) F before was count k cp l w c known due h = absurd h.folded
  within _ above F before was count k cp l w c known due h = absurd h.value

  -- A state within a count, or at its end.
  pub counts_on : (t : State) (c : Machine) → Known z t → is_due (arrived z.outside t.world) ≡ false → FoldPauses z t c → Led z t.focus t.stack c (act (source_in z) t.focus t.stack t.copy t.memory (arrived z.outside t.world))
  counts_on t c known due p =
      subst (λ S. Known z (state t.copy t.focus S t.memory t.world) → Led z t.focus S c (act (source_in z) t.focus S t.copy t.memory (arrived z.outside t.world))) (sym p.stack)
      (λ k. within t.focus p.above p.frame p.before p.was p.count p.below t.copy t.memory t.world c k due p.state_is) known
