-- The laws of operators whose last operand is there, put together: of one operand, and those that need no helper.
use Rattle.std.proofs.Common.{◌≡◌, ℕ, ◌+◌, ◌*◌, ◌<◌, ◌≤◌, Bool, true, false, ◌&&◌, if◌then◌else◌, nat_lt, List, ◌∷◌, refl, sym, ap, ◌∙◌, subst, arith}
use Rattle.std.proofs.Math.Nat.{le-max_right}
use Rattle.std.proofs.lemmas.Bool.{and_parts}
use Rattle.std.specs.List.{All}
use Rattle.c_ints.specs.Conversions.{promoted}
use Rattle.c_ints.specs.Operators.{compares, type_of as result_type, unary_type}
use Rattle.c_ints.specs.Range.{bytes_of}
use Rattle.c_ints.specs.declared.operators.BinOp.{BinOp}
use Rattle.c_ints.specs.declared.operators.BinOp.TheVariants as ops
use Rattle.c_ints.specs.declared.operators.UnOp.{UnOp}
use Rattle.c_ints.specs.declared.operators.UnOp.TheVariants as unop
use Rattle.c_ints.specs.Quantity.{Quantity}
use Rattle.c_ints.specs.declared.types.IntTy.{IntTy}
use Rattle.c_ints.specs.declared.types.IntTy.TheVariants as int
use Rattle.c_typed.specs.Room.{room}
use Rattle.c_typed.specs.Rules.{binary_fits, integers_fit}
use Rattle.c_typed.specs.Sameness.{is_pointer, is_promoted, same_int, same_type}
use Rattle.c_typed.specs.Trees as tree
use Rattle.c_typed.specs.Trees.{Expression}
use Rattle.c_typed.specs.Types.{type_bytes, type_of, value_bytes}
use Rattle.c_typed.specs.declared.types.Ty.{Ty}
use Rattle.c_typed.specs.declared.types.Ty.TheVariants as types
use Rattle.core_code.specs.Machine.{Machine}
use Rattle.lower_expr.specs.Layout.{value_width}
use Rattle.core_puts.specs.Puts.{test_size}
use Rattle.pic_world.specs.World.{World, arrived, is_due}
use Rattle.src_rules.proofs.Rules.{unary_rule, binary_rule}
use Rattle.src_rules.proofs.Values.{same_int_is, same_type_is}
use Rattle.src_rules.specs.Standing.{HasType}
use Rattle.src_rules.specs.State.{state}
use Rattle.src_rules.specs.Step.{act}
use Rattle.src_values.specs.Control.{Holds, Nothing, One, Pending, In}
use Rattle.src_values.specs.Data as datum
use Rattle.src_values.specs.Data.{Datum}
use Rattle.src_values.specs.Memory as source
use Rattle.src_values.specs.Values.{byte_count, unary_answer}
use Rattle.src_values.specs.declared.objects.Byte.{Byte}
use Rattle.src_values.specs.declared.objects.CopyOf.{CopyOf}
use Rattle.lower_trace.specs.Lowering.{IsLowerable}
use Rattle.lower_trace.proofs.Choosing.{bang_given}
use Rattle.lower_trace.proofs.CodeLeft.{Scene, ground_in, source_in}
use Rattle.lower_trace.proofs.Computing.{unary_given, binary_given}
use Rattle.lower_trace.proofs.Fitting.{width_is}
use Rattle.lower_trace.proofs.Kept.{bytes_small}
use Rattle.lower_trace.proofs.Known.{Known, around}
use Rattle.lower_trace.proofs.Leads.{Led, Law, led_by, led_nowhere}
use Rattle.lower_trace.proofs.LedValues.{IsTested, around_in, number_tested, pointer_tested, small_test}
use Rattle.lower_trace.proofs.Mirrors.{Mirrors}
use Rattle.lower_trace.proofs.Operating.{IsPlain, IsSigned}
use Rattle.lower_trace.proofs.Rests.{plus_given}
use Rattle.lower_trace.proofs.Rooms.{binary_parts, value_room}
use Rattle.lower_trace.proofs.Scenes.{frame_is, scene_laws}

-- ---- promoted types
pub wide_int : (ty : IntTy) → same_int (promoted ty) ty ≡ true → nat_lt 1 (bytes_of ty) ≡ true
wide_int int.Char e = absurd (cc)
wide_int int.SChar e = absurd (cc)
wide_int int.UChar e = absurd (cc)
wide_int int.Short e = refl
wide_int int.UShort e = refl
wide_int int.Int e = refl
wide_int int.UInt e = refl
wide_int int.Long e = refl
wide_int int.ULong e = refl

pointer_plain : (ty : Ty) → is_pointer ty ≡ true → is_promoted ty ≡ true → ⊥
pointer_plain types.Void p e = cc
pointer_plain (types.Int ty) p e = cc
pointer_plain (types.Pointer row) p e = cc
pointer_plain (types.Array element length size) p e = cc
pointer_plain (types.Struct number) p e = cc

-- the operand of an operator of one operand
record IsOperand (from ty : Ty) (q : Quantity) : Type 0 where
  is : ty ≡ types.Int q.ty
  same : promoted q.ty ≡ q.ty
  wide : nat_lt 1 (bytes_of q.ty) ≡ true

operand_is : (from ty : Ty) (q : Quantity) → (is_promoted from && same_type from ty) ≡ true → from ≡ types.Int q.ty → IsOperand from ty q
operand_is from ty q e is =
    let p = and_parts (is_promoted from) (same_type from ty) e in
    let int : same_int (promoted q.ty) q.ty ≡ true = subst (λ t. is_promoted t ≡ true) is p.0 in
    record { is = sym (same_type_is from ty p.1) ∙ is; same = same_int_is (promoted q.ty) q.ty int; wide = wide_int q.ty int }

module _ (z : Scene) (given : IsLowerable z.program z.copies) (input : All (λ byte. byte < 256) z.outside.input) where
  tests_all : (part : Expression) (v : Datum) (cp : CopyOf) → IsTested z (type_of part) v → test_size (value_width (ground_in z cp).layout part) ≡ byte_count v
  tests_all part v cp t =
      let few = t.few in
      let all = t.all in
      let w = width_is z cp (type_of part) (omega arith) in
      ap test_size w ∙ small_test (type_bytes z.program.sizes (type_of part)) (omega arith) ∙ sym all

  signed_on : (op : UnOp) (operand : Expression) (ty : Ty) (line : ℕ) (q : Quantity) (k : List Pending) (cp : CopyOf) (l : source.Memory) (w : World Byte) (c : Machine) → Known z (state cp (Holds (datum.Number q)) (In (tree.Unary op operand ty line) Nothing ∷ k) l w) → is_due (arrived z.outside w) ≡ false
      → IsSigned op → (unary_type op q.ty ≡ promoted q.ty) → (is_promoted (type_of operand) && same_type (type_of operand) ty) ≡ true → HasType z.program (type_of operand) (datum.Number q)
      → Mirrors z (state cp (Holds (datum.Number q)) (In (tree.Unary op operand ty line) Nothing ∷ k) l w) c → Led z (Holds (datum.Number q)) (In (tree.Unary op operand ty line) Nothing ∷ k) c (act (source_in z) (Holds (datum.Number q)) (In (tree.Unary op operand ty line) Nothing ∷ k) cp l (arrived z.outside w))
  unfolding act
  signed_on op operand ty line q k cp l w c known due signed kind rule t h =
      let e = tree.Unary op operand ty line in
      let s = known.stands in
      let f = frame_is z given cp s.reached in
      let fits = known.stack.0 in
      let o = operand_is (type_of operand) ty q rule t.0 in
      let value = value_room z.program cp.function e s.stack.0 in
      let bytes = ap (type_bytes z.program.sizes) o.is in
      let result = ap bytes_of (kind ∙ o.same) in
      let small_type = bytes_small q.ty in
      led_by z _ _ (10 * bytes_of q.ty) 0 c _ (omega arith) (omega arith)
      (unary_given z (scene_laws z given) op operand ty line q k cp l w c (around_in z cp e Nothing k (around z given input (state cp (Holds (datum.Number q)) (In e Nothing ∷ k) l w) known)) signed o.is o.wide t.1 (omega arith) (omega arith) due h)

  bang_on : (operand : Expression) (ty : Ty) (line : ℕ) (v : Datum) (k : List Pending) (cp : CopyOf) (l : source.Memory) (w : World Byte) (c : Machine) → Known z (state cp (Holds v) (In (tree.Unary unop.Bang operand ty line) Nothing ∷ k) l w) → is_due (arrived z.outside w) ≡ false
      → HasType z.program (type_of operand) v → IsTested z (type_of operand) v
      → Mirrors z (state cp (Holds v) (In (tree.Unary unop.Bang operand ty line) Nothing ∷ k) l w) c → Led z (Holds v) (In (tree.Unary unop.Bang operand ty line) Nothing ∷ k) c (act (source_in z) (Holds v) (In (tree.Unary unop.Bang operand ty line) Nothing ∷ k) cp l (arrived z.outside w))
  unfolding act room
  bang_on operand ty line v k cp l w c known due t tested h =
      let e = tree.Unary unop.Bang operand ty line in
      let s = known.stands in
      let f = frame_is z given cp s.reached in
      let fits = known.stack.0 in
      let all = tested.all in
      let part = le-max_right (room z.program.sizes operand) (value_bytes z.program.sizes operand + 2) in
      led_by z _ _ (4 * byte_count v + 28) 0 c _ (omega arith) (omega arith)
      (bang_given z (scene_laws z given) operand ty line v (type_of operand) k cp l w c (around_in z cp e Nothing k (around z given input (state cp (Holds v) (In e Nothing ∷ k) l w) known)) t tested.some (tests_all operand v cp tested) (omega arith) (omega arith) due h)

  -- An operator of one operand takes it.
  pub unaries : (op : UnOp) (operand : Expression) (ty : Ty) (line : ℕ) (v : Datum) (k : List Pending) → Law z (Holds v) (In (tree.Unary op operand ty line) Nothing ∷ k)
  unfolding act unary_answer
  unaries op operand ty line datum.Missing k cp l w c known due h = led_nowhere z _ _ c _ (λ q l. tt)
  unaries unop.Bang operand ty line (datum.Number q) k cp l w c known due h =
      let f = known.stands.focus in
      let t = subst (λ y. HasType z.program y (datum.Number q)) f.1 f.2 in
      bang_on operand ty line (datum.Number q) k cp l w c known due t (number_tested z (type_of operand) q t) h
  unaries unop.Bang operand ty line (datum.Pointer x) k cp l w c known due h =
      let f = known.stands.focus in
      let t = subst (λ y. HasType z.program y (datum.Pointer x)) f.1 f.2 in
      bang_on operand ty line (datum.Pointer x) k cp l w c known due t (pointer_tested z (type_of operand) x t) h
  unaries unop.Plus operand ty line (datum.Number q) k cp l w c known due h =
      let f = known.stands.focus in
      let t = subst (λ y. HasType z.program y (datum.Number q)) f.1 f.2 in
      let o = operand_is (type_of operand) ty q (unary_rule z.program unop.Plus operand ty line known.stands.stack.0.0) t.0 in
      led_by z _ _ 0 0 c _ (omega arith) (omega arith) (plus_given z operand ty line q k cp l w c o.same t.1 h)
  unaries unop.Minus operand ty line (datum.Number q) k cp l w c known due h =
      let f = known.stands.focus in
      signed_on unop.Minus operand ty line q k cp l w c known due tt refl (unary_rule z.program unop.Minus operand ty line known.stands.stack.0.0) (subst (λ y. HasType z.program y (datum.Number q)) f.1 f.2) h
  unaries unop.Not operand ty line (datum.Number q) k cp l w c known due h =
      let f = known.stands.focus in
      signed_on unop.Not operand ty line q k cp l w c known due tt refl (unary_rule z.program unop.Not operand ty line known.stands.stack.0.0) (subst (λ y. HasType z.program y (datum.Number q)) f.1 f.2) h
  unaries unop.Plus operand ty line (datum.Pointer x) k cp l w c known due h =
      let f = known.stands.focus in
      let t = subst (λ y. HasType z.program y (datum.Pointer x)) f.1 f.2 in
      absurd (pointer_plain (type_of operand) t.0 (and_parts _ _ (unary_rule z.program unop.Plus operand ty line known.stands.stack.0.0)).0)
  unaries unop.Minus operand ty line (datum.Pointer x) k cp l w c known due h =
      let f = known.stands.focus in
      let t = subst (λ y. HasType z.program y (datum.Pointer x)) f.1 f.2 in
      absurd (pointer_plain (type_of operand) t.0 (and_parts _ _ (unary_rule z.program unop.Minus operand ty line known.stands.stack.0.0)).0)
  unaries unop.Not operand ty line (datum.Pointer x) k cp l w c known due h =
      let f = known.stands.focus in
      let t = subst (λ y. HasType z.program y (datum.Pointer x)) f.1 f.2 in
      absurd (pointer_plain (type_of operand) t.0 (and_parts _ _ (unary_rule z.program unop.Not operand ty line known.stands.stack.0.0)).0)

  -- ---- two integers, and no helper
  -- the result has no more bytes than an int, or than the left operand
  result_few : (op : BinOp) (ty : IntTy) → bytes_of (result_type op ty) ≤ bytes_of ty + 2
  result_few op ty = by (compares op)
    where
      by : (b : Bool) → bytes_of (if b then int.Int else ty) ≤ bytes_of ty + 2
      by true = omega arith
      by false = omega arith

  -- the operands of such an operator have one type
  plain_types : (op : BinOp) (left right ty : Ty) → IsPlain op → integers_fit op left right ty ≡ true → left ≡ right
  plain_types ops.Add left right ty p e = same_type_is left right (and_parts _ _ (and_parts _ _ e).1).0
  plain_types ops.Sub left right ty p e = same_type_is left right (and_parts _ _ (and_parts _ _ e).1).0
  plain_types ops.And left right ty p e = same_type_is left right (and_parts _ _ (and_parts _ _ e).1).0
  plain_types ops.Or left right ty p e = same_type_is left right (and_parts _ _ (and_parts _ _ e).1).0
  plain_types ops.Xor left right ty p e = same_type_is left right (and_parts _ _ (and_parts _ _ e).1).0
  plain_types ops.Lt left right ty p e = same_type_is left right (and_parts _ _ (and_parts _ _ e).1).0
  plain_types ops.Gt left right ty p e = same_type_is left right (and_parts _ _ (and_parts _ _ e).1).0
  plain_types ops.Le left right ty p e = same_type_is left right (and_parts _ _ (and_parts _ _ e).1).0
  plain_types ops.Ge left right ty p e = same_type_is left right (and_parts _ _ (and_parts _ _ e).1).0
  plain_types ops.Eq left right ty p e = same_type_is left right (and_parts _ _ (and_parts _ _ e).1).0
  plain_types ops.Ne left right ty p e = same_type_is left right (and_parts _ _ (and_parts _ _ e).1).0
  plain_types _ left right ty p e = absurd p

  same_int_type : (a b : IntTy) → types.Int a ≡ types.Int b → a ≡ b
  same_int_type a b e = cc

  -- Both operands are there, and neither a product nor a shift is asked for.
  pub plain_binaries : (op : BinOp) (left right : Expression) (ty : Ty) (line : ℕ) (x y : Quantity) (k : List Pending) → IsPlain op → Law z (Holds (datum.Number y)) (In (tree.Binary op left right ty line) (One (datum.Number x)) ∷ k)
  unfolding act room
  plain_binaries op left right ty line x y k plain cp l w c known due h =
      let e = tree.Binary op left right ty line in
      let s = known.stands in
      let g = s.focus in
      let t = subst (λ r. HasType z.program r (datum.Number y)) g.1 g.2 in
      let u = s.stack.2 in
      let f = frame_is z given cp s.reached in
      let fits = known.stack.0 in
      let rule = subst (λ r. binary_fits z.program op r (type_of right) ty ≡ true) u.0 (binary_rule z.program op left right ty line s.stack.0.0) in
      let same = plain_types op (types.Int x.ty) (type_of right) ty plain rule in
      let alike = same_int_type y.ty x.ty (sym t.0 ∙ sym same) in
      let sizes = z.program.sizes in
      let parts = (binary_parts (room sizes left) (value_bytes sizes left) (room sizes right) (value_bytes sizes right) (type_bytes sizes ty)).2 in
      let left_bytes = ap (type_bytes sizes) u.0 in
      let right_bytes = ap (type_bytes sizes) (sym same) in
      let few = result_few op x.ty in
      let small_type = bytes_small x.ty in
      led_by z _ _ (10 * bytes_of x.ty + 30) 0 c _ (omega arith) (omega arith)
      (binary_given z (scene_laws z given) op left right ty line x y k cp l w c (around_in z cp e (One (datum.Number x)) k (around z given input (state cp (Holds (datum.Number y)) (In e (One (datum.Number x)) ∷ k) l w) known)) plain u.0 alike u.1 t.1 (omega arith) (omega arith) due h)
