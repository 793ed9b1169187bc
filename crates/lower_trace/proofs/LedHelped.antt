-- The laws of operators on two integers that a helper computes, and of shifts, put together.
use Rattle.std.proofs.Common.{◌≡◌, ℕ, suc, ◌+◌, ◌<◌, ◌⊎◌, inl, inr, Bool, true, false, ◌&&◌, nat_lt, List, ◌∷◌, refl, sym, ap, ◌∙◌, subst, ⊎_elim, arith}
use Rattle.std.proofs.lemmas.Bool.{and_parts}
use Rattle.std.specs.List.{All}
use Rattle.c_ints.specs.Conversions.{promoted}
use Rattle.c_ints.specs.Quantity.{Quantity}
use Rattle.c_ints.specs.Range.{bytes_of, pattern}
use Rattle.c_ints.specs.declared.operators.BinOp.{BinOp}
use Rattle.c_ints.specs.declared.operators.BinOp.TheVariants as ops
use Rattle.c_ints.specs.declared.types.IntTy.{IntTy}
use Rattle.c_ints.specs.declared.types.IntTy.TheVariants as int
use Rattle.c_typed.specs.Folding.{bits, bits_of, constant_bits}
use Rattle.c_typed.specs.Room.{room}
use Rattle.c_typed.specs.Rules.{binary_fits, integers_fit}
use Rattle.c_typed.specs.Sameness.{is_promoted, same_int}
use Rattle.c_typed.specs.Trees as tree
use Rattle.c_typed.specs.Trees.{Expression}
use Rattle.c_typed.specs.Types.{is_constant, type_bytes, type_of, value_bytes}
use Rattle.c_typed.specs.declared.types.Ty.{Ty}
use Rattle.c_typed.specs.declared.types.Ty.TheVariants as types
use Rattle.lower_expr.specs.Lowering.{shifts_by_constant}
use Rattle.src_rules.proofs.Rules.{binary_rule}
use Rattle.src_rules.proofs.Values.{same_type_is}
use Rattle.src_rules.specs.Standing.{HasType}
use Rattle.src_rules.specs.State.{state}
use Rattle.src_rules.specs.Step.{act}
use Rattle.src_values.specs.Control.{Holds, One, Pending, In}
use Rattle.src_values.specs.Data as datum
use Rattle.lower_trace.specs.Lowering.{IsLowerable}
use Rattle.lower_trace.proofs.CodeLeft.{Scene, base, ground_in}
use Rattle.lower_trace.proofs.Fitting.{value_at}
use Rattle.lower_trace.proofs.Helped.{IsProduct, Shifts, product_given, product_helps, product_right, shift_given, shift_helps}
use Rattle.lower_trace.proofs.HelperCopies.{binary_helped}
use Rattle.lower_trace.proofs.Known.{around, resumables, small}
use Rattle.lower_trace.proofs.Leads.{Law, led_by}
use Rattle.lower_trace.proofs.LedValues.{around_in}
use Rattle.lower_trace.proofs.Operating.{IsPlain}
use Rattle.lower_trace.proofs.PartsOf.{IsValue}
use Rattle.lower_trace.proofs.Rooms.{binary_parts}
use Rattle.lower_trace.proofs.Scenes.{frame_is, scene_laws}

-- ---- types
-- a promoted type has two bytes or more
pub promoted_two : (ty : IntTy) → same_int (promoted ty) ty ≡ true → nat_lt 1 (bytes_of ty) ≡ true
promoted_two int.Char e = absurd (cc)
promoted_two int.SChar e = absurd (cc)
promoted_two int.UChar e = absurd (cc)
promoted_two int.Short e = refl
promoted_two int.UShort e = refl
promoted_two int.Int e = refl
promoted_two int.UInt e = refl
promoted_two int.Long e = refl
promoted_two int.ULong e = refl

-- how many bytes a type has, as a successor
pub bytes_more : (ty : IntTy) → (n : ℕ) × (bytes_of ty ≡ suc n)
bytes_more int.Char = (0, refl)
bytes_more int.SChar = (0, refl)
bytes_more int.UChar = (0, refl)
bytes_more int.Short = (1, refl)
bytes_more int.UShort = (1, refl)
bytes_more int.Int = (1, refl)
bytes_more int.UInt = (1, refl)
bytes_more int.Long = (3, refl)
bytes_more int.ULong = (3, refl)

pub same_int_type : (a b : IntTy) → types.Int a ≡ types.Int b → a ≡ b
same_int_type a b e = cc

product_types : (op : BinOp) (left right ty : Ty) → IsProduct op → integers_fit op left right ty ≡ true → (is_promoted left ≡ true) × (left ≡ right)
product_types ops.Mul left right ty p e = let a = and_parts _ _ e in (a.0, same_type_is left right (and_parts _ _ a.1).0)
product_types ops.Div left right ty p e = let a = and_parts _ _ e in (a.0, same_type_is left right (and_parts _ _ a.1).0)
product_types ops.Rem left right ty p e = let a = and_parts _ _ e in (a.0, same_type_is left right (and_parts _ _ a.1).0)
product_types _ left right ty p e = absurd p

shift_types : (op : BinOp) (left right ty : Ty) → Shifts op → integers_fit op left right ty ≡ true → (is_promoted left ≡ true) × (is_promoted right ≡ true) × (left ≡ ty)
shift_types ops.Shl left right ty p e = let a = and_parts _ _ e in let b = and_parts _ _ a.1 in (a.0, b.0, same_type_is left ty b.1)
shift_types ops.Shr left right ty p e = let a = and_parts _ _ e in let b = and_parts _ _ a.1 in (a.0, b.0, same_type_is left ty b.1)
shift_types _ left right ty p e = absurd p

-- an operator that isn't plain is a product or its like, or a shift
pub helped_kinds : (op : BinOp) → (IsPlain op → ⊥) → IsProduct op ⊎ Shifts op
helped_kinds ops.Mul other = inl tt
helped_kinds ops.Div other = inl tt
helped_kinds ops.Rem other = inl tt
helped_kinds ops.Shl other = inr tt
helped_kinds ops.Shr other = inr tt
helped_kinds _ other = absurd (other tt)

pub value_bits : (e : Expression) (q : Quantity) → IsValue e (datum.Number q) → is_constant e ≡ true → pattern q.ty q.number ≡ constant_bits e
unfolding bits
value_bits e q h is = sym (ap bits_of (h is))

module _ (z : Scene) (given : IsLowerable z.program z.copies) (input : All (λ byte. byte < 256) z.outside.input) where
  products : (op : BinOp) (left right : Expression) (ty : Ty) (line : ℕ) (x y : Quantity) (k : List Pending) → IsProduct op → Law z (Holds (datum.Number y)) (In (tree.Binary op left right ty line) (One (datum.Number x)) ∷ k)
  unfolding act room
  products op left right ty line x y k product cp l w c known due h =
      let e = tree.Binary op left right ty line in
      let t = state cp (Holds (datum.Number y)) (In e (One (datum.Number x)) ∷ k) l w in
      let s = known.stands in
      let v = subst (λ r. HasType z.program r (datum.Number y)) s.focus.1 s.focus.2 in
      let u = s.stack.2 in
      let f = frame_is z given cp s.reached in
      let less = small z given input cp s.reached in
      let fits = known.stack.0 in
      let sizes = z.program.sizes in
      let b = base (ground_in z cp) k in
      let rule = subst (λ r. binary_fits z.program op r (type_of right) ty ≡ true) u.0 (binary_rule z.program op left right ty line s.stack.0.0) in
      let is = product_types op (types.Int x.ty) (type_of right) ty product rule in
      let two = promoted_two x.ty is.0 in
      let alike = same_int_type y.ty x.ty (sym v.0 ∙ sym is.1) in
      let plain : shifts_by_constant op right ≡ false = ap (λ y. y && is_constant right) (product_right op x.ty product).1 in
      let left_bytes = ap (type_bytes sizes) u.0 in
      let right_bytes = ap (type_bytes sizes) (sym is.1) in
      let parts = (binary_parts (room sizes left) (value_bytes sizes left) (room sizes right) (value_bytes sizes right) (type_bytes sizes ty)).2 in
      let second = value_at z cp less b left (omega arith) in
      led_by z _ _ 2138 0 c _ (omega arith) (omega arith)
      (product_given z (scene_laws z given) op left right ty line x y (b + bytes_of x.ty) k cp l w c product (around_in z cp e (One (datum.Number x)) k (around z given input t known)) (resumables z t known) two u.0 alike u.1 v.1
      (binary_helped z given cp s.reached op left right ty line x.ty (product_helps op product) plain two u.0 known.parts.1.0.0) (second ∙ (omega arith)) (omega arith) (omega arith) due h)

  -- ---- shifts
  shift_on : (op : BinOp) (left right : Expression) (line : ℕ) (x y : Quantity) (k : List Pending) → Shifts op → shifts_by_constant op right ≡ false → integers_fit op (types.Int x.ty) (type_of right) (types.Int x.ty) ≡ true
      → Law z (Holds (datum.Number y)) (In (tree.Binary op left right (types.Int x.ty) line) (One (datum.Number x)) ∷ k)
  unfolding act room
  shift_on op left right line x y k shift plain rule cp l w c known due h =
      let e = tree.Binary op left right (types.Int x.ty) line in
      let t = state cp (Holds (datum.Number y)) (In e (One (datum.Number x)) ∷ k) l w in
      let s = known.stands in
      let v = subst (λ r. HasType z.program r (datum.Number y)) s.focus.1 s.focus.2 in
      let u = s.stack.2 in
      let f = frame_is z given cp s.reached in
      let less = small z given input cp s.reached in
      let fits = known.stack.0 in
      let sizes = z.program.sizes in
      let b = base (ground_in z cp) k in
      let is = shift_types op (types.Int x.ty) (type_of right) (types.Int x.ty) shift rule in
      let two = promoted_two x.ty is.0 in
      let left_bytes = ap (type_bytes sizes) u.0 in
      let parts = (binary_parts (room sizes left) (value_bytes sizes left) (room sizes right) (value_bytes sizes right) (type_bytes sizes (types.Int x.ty))).2 in
      let second = value_at z cp less b left (omega arith) in
      led_by z _ _ 2138 0 c _ (omega arith) (omega arith)
      (shift_given z (scene_laws z given) op left right line x y (b + bytes_of x.ty) k cp l w c shift plain (around_in z cp e (One (datum.Number x)) k (around z given input t known)) (resumables z t known) two u.0 u.1
      (binary_helped z given cp s.reached op left right (types.Int x.ty) line x.ty (shift_helps op shift) plain two u.0 known.parts.1.0.0) (second ∙ (omega arith)) (omega arith) (omega arith) due h)

  shift_by : (constant : Bool) (op : BinOp) (left right : Expression) (line : ℕ) (x y : Quantity) (k : List Pending) → shifts_by_constant op right ≡ constant → Shifts op → integers_fit op (types.Int x.ty) (type_of right) (types.Int x.ty) ≡ true
      → Law z (Holds (datum.Number y)) (In (tree.Binary op left right (types.Int x.ty) line) (One (datum.Number x)) ∷ k)
  shift_by true op left right line x y k is shift rule cp l w c known due h = absurd (let no : true ≡ false = sym is ∙ h.holds.0.1 in cc)
  shift_by false op left right line x y k is shift rule cp l w c known due h = shift_on op left right line x y k shift is rule cp l w c known due h

  shift_laws : (op : BinOp) (left right : Expression) (ty : Ty) (line : ℕ) (x y : Quantity) (k : List Pending) → Shifts op → Law z (Holds (datum.Number y)) (In (tree.Binary op left right ty line) (One (datum.Number x)) ∷ k)
  shift_laws op left right ty line x y k shift cp l w c known due h =
      let s = known.stands in
      let u = s.stack.2 in
      let rule = subst (λ r. binary_fits z.program op r (type_of right) ty ≡ true) u.0 (binary_rule z.program op left right ty line s.stack.0.0) in
      let is = (shift_types op (types.Int x.ty) (type_of right) ty shift rule).2 in
      subst (λ r. Law z (Holds (datum.Number y)) (In (tree.Binary op left right r line) (One (datum.Number x)) ∷ k)) is
      (shift_by (shifts_by_constant op right) op left right line x y k refl shift (subst (λ r. integers_fit op (types.Int x.ty) (type_of right) r ≡ true) (sym is) rule)) cp l w c known due h

  -- Both operands are there, and a product or a shift is asked for.
  pub helped_binaries : (op : BinOp) (left right : Expression) (ty : Ty) (line : ℕ) (x y : Quantity) (k : List Pending) → (IsPlain op → ⊥) → Law z (Holds (datum.Number y)) (In (tree.Binary op left right ty line) (One (datum.Number x)) ∷ k)
  helped_binaries op left right ty line x y k other cp l w c known due h =
      ⊎_elim
      (λ product. products op left right ty line x y k product cp l w c known due h)
      (λ shift. shift_laws op left right ty line x y k shift cp l w c known due h)
      (helped_kinds op other)
