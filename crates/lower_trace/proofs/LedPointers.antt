-- The laws of pointers, put together: they are moved, subtracted and compared, and addresses are taken.
use Rattle.std.proofs.Common.{◌≡◌, ℕ, ◌+◌, ◌<◌, ◌≤◌, Bool, true, false, ◌&&◌, if◌then◌else◌, nat_eq, List, ◌∷◌, refl, sym, ap, ◌∙◌, subst, ⊎_elim, arith}
use Rattle.std.proofs.lemmas.Bool.{and_parts, false≢true, or_cases}
use Rattle.std.specs.List.{All}
use Rattle.c_ints.specs.Operators.{compares}
use Rattle.c_ints.specs.Quantity.{Quantity}
use Rattle.c_ints.specs.Range.{bytes_of}
use Rattle.c_ints.specs.declared.operators.BinOp.{BinOp}
use Rattle.c_ints.specs.declared.operators.BinOp.TheVariants as ops
use Rattle.c_ints.specs.declared.types.IntTy.{IntTy}
use Rattle.c_ints.specs.declared.types.IntTy.TheVariants as int
use Rattle.c_typed.specs.Fits.{rule_holds}
use Rattle.c_typed.specs.Room.{room}
use Rattle.c_typed.specs.Rules.{binary_fits, counts_in, moves, offset_fits, point_alike}
use Rattle.c_typed.specs.Sameness.{is_index, is_plain_int, is_pointer, pointed, same_type}
use Rattle.c_typed.specs.Trees as tree
use Rattle.c_typed.specs.Trees.{Expression, Program}
use Rattle.c_typed.specs.Types.{type_bytes, type_of, value_bytes}
use Rattle.c_typed.specs.declared.types.Ty.{Ty}
use Rattle.c_typed.specs.declared.types.Ty.TheVariants as types
use Rattle.pic_world.specs.World.{World}
use Rattle.src_rules.proofs.Rules.{binary_rule, moves_rule, offset_rule}
use Rattle.src_rules.specs.Parts.{Obeys}
use Rattle.src_rules.specs.Standing.{HasType, IsPointer, IsThere}
use Rattle.src_rules.specs.State.{state}
use Rattle.src_rules.specs.Step.{act}
use Rattle.src_values.specs.Control.{Holds, One, Pending, In}
use Rattle.src_values.specs.Data as datum
use Rattle.src_values.specs.Data.{Datum}
use Rattle.src_values.specs.Memory as source
use Rattle.src_values.specs.Objects.{object_bytes}
use Rattle.src_values.specs.declared.objects.Byte.{Byte}
use Rattle.src_values.specs.declared.objects.CopyOf.{CopyOf}
use Rattle.src_values.specs.declared.objects.Object.{Object}
use Rattle.src_values.specs.declared.objects.Object.TheVariants as objects
use Rattle.src_values.specs.declared.objects.Pointer.{Pointer}
use Rattle.src_values.specs.declared.objects.Pointer.TheVariants.{Into, Null}
use Rattle.lower_trace.specs.Lowering.{IsLowerable}
use Rattle.lower_trace.proofs.CodeLeft.{Scene, core_in, number}
use Rattle.lower_trace.proofs.Known.{Known, around, resumables}
use Rattle.lower_trace.proofs.Leads.{Law, led_by}
use Rattle.lower_trace.proofs.LedValues.{around_in}
use Rattle.lower_trace.proofs.Living.{lives_all}
use Rattle.lower_trace.proofs.Offsets.{offset_given}
use Rattle.lower_trace.proofs.PointerDistances.{difference_given}
use Rattle.lower_trace.proofs.PointerSums.{PointsThere, mover}
use Rattle.lower_trace.proofs.PointerTests.{IsTest, pointers_given}
use Rattle.lower_trace.proofs.Rooms.{binary_parts, pointer_bytes_are}
use Rattle.lower_trace.proofs.Scenes.{frame_is, scene_laws, static_small}
use Rattle.lower_trace.proofs.TurnedOffsets.{turned_given}
use Rattle.lower_trace.proofs.TypeSizes.{element_size, object_some}

-- ---- types
-- an index has two bytes
pub index_two : (ty : IntTy) → is_index (types.Int ty) ≡ true → bytes_of ty ≡ 2
index_two int.Char e = absurd (cc)
index_two int.SChar e = absurd (cc)
index_two int.UChar e = absurd (cc)
index_two int.Short e = absurd (cc)
index_two int.UShort e = absurd (cc)
index_two int.Int e = refl
index_two int.UInt e = refl
index_two int.Long e = absurd (cc)
index_two int.ULong e = absurd (cc)

pub points_there : (p : Program) (x : Pointer) → IsPointer p x → PointsThere p x
points_there p Null h = tt
points_there p (Into o f) h = h.0

pub record PointsTo (ty : Ty) : Type 0 where
  pub target : ℕ
  pub is : ty ≡ types.Pointer target

pub points_to : (ty : Ty) → is_pointer ty ≡ true → PointsTo ty
points_to types.Void e = absurd (false≢true e)
points_to (types.Int ty) e = absurd (false≢true e)
points_to (types.Pointer row) e = record { target = row; is = refl }
points_to (types.Array element count size) e = absurd (false≢true e)
points_to (types.Struct number) e = absurd (false≢true e)

-- an integer is no pointer
pub no_pointer : (ty : Ty) (i : IntTy) → ty ≡ types.Int i → is_pointer ty ≡ true → ⊥
no_pointer ty i is e = false≢true (sym (ap is_pointer is) ∙ e)

in_room : (one : Bool) (b frame : ℕ) → b + 6 ≤ frame → b + (if one then 4 else 6) ≤ frame
in_room true b frame le = omega (arith, le)
in_room false b frame le = le

test_of : (op : BinOp) → compares op ≡ true → IsTest op
test_of ops.Lt e = tt
test_of ops.Gt e = tt
test_of ops.Le e = tt
test_of ops.Ge e = tt
test_of ops.Eq e = tt
test_of ops.Ne e = tt
test_of ops.Add e = false≢true e
test_of ops.Sub e = false≢true e
test_of ops.Mul e = false≢true e
test_of ops.Div e = false≢true e
test_of ops.Rem e = false≢true e
test_of ops.And e = false≢true e
test_of ops.Or e = false≢true e
test_of ops.Xor e = false≢true e
test_of ops.Shl e = false≢true e
test_of ops.Shr e = false≢true e

-- two pointers are compared, and that alone
pointers_rule : (p : Program) (op : BinOp) (row : ℕ) (left right ty : Ty) → left ≡ types.Pointer row → binary_fits p op left right ty ≡ true → compares op ≡ true
pointers_rule p op row left right ty is e =
    (and_parts (compares op) (point_alike (pointed p (types.Pointer row)) (pointed p right) && is_plain_int ty) (subst (λ y. binary_fits p op y right ty ≡ true) is e)).0

-- what two pointers that are subtracted count in
difference_counts : (p : Program) (left right : Expression) (size line : ℕ) → Obeys p (tree.Difference left right size line) → counts_in p (pointed p (type_of left)) size ≡ true
unfolding rule_holds
difference_counts p left right size line h = (and_parts (point_alike (pointed p (type_of left)) (pointed p (type_of right))) _ h.1).1

-- Where a difference divides, its helper is there.
abbrev pub DifferencesDivide : Scene → Type 0
DifferencesDivide z =
    (left right : Expression) (size line : ℕ) (u v : Datum) (k : List Pending) (cp : CopyOf) (l : source.Memory) (w : World Byte) → Known z (state cp (Holds v) (In (tree.Difference left right size line) (One u) ∷ k) l w) → nat_eq size 1 ≡ false
    → (core_in z).program.helped (number z cp) ops.Div int.Int ≡ true

module _ (z : Scene) (given : IsLowerable z.program z.copies) (input : All (λ byte. byte < 256) z.outside.input) where
  abbrev p : Program
  p = z.program

  abbrev sizes : List ℕ
  sizes = z.program.sizes

  pub element : (ty : Ty) (size : ℕ) → counts_in p (pointed p ty) size ≡ true → (1 ≤ size) × (size < 2199023255552)
  element ty size e = element_size p given.typed given.same given.sound ty size e

  pub some : (o : Object) → IsThere p o → 0 < object_bytes p o
  some o there = object_some p given.typed given.same given.sound o there

  -- no object has more bytes than a region
  bounded : (o : Object) → IsThere p o → object_bytes p o ≤ 32767
  bounded (objects.Fixed n) there = let few = static_small z given n there in omega (arith, few)
  bounded (objects.Variable c n) there =
      let fits = (scene_laws z given).fits (objects.Variable c n) there in
      let few = (scene_laws z given).small (number z c) in
      omega (arith, fits, few)

  -- ---- a pointer is moved
  offset_on : (minus : Bool) (left right : Expression) (size : ℕ) (ty : Ty) (line : ℕ) (x : Pointer) (q : Quantity) (k : List Pending) → moves p (type_of left) (type_of right) size ty ≡ true → Law z (Holds (datum.Number q)) (In (tree.Offset (mover minus) left right size ty line) (One (datum.Pointer x)) ∷ k)
  unfolding act room
  offset_on minus left right size ty line x q k rule cp l w c known due h =
      let e = tree.Offset (mover minus) left right size ty line in
      let s = known.stands in
      let t = subst (λ r. HasType p r (datum.Number q)) s.focus.1 s.focus.2 in
      let u = s.stack.2 in
      let f = frame_is z given cp s.reached in
      let fits = known.stack.0 in
      let a = and_parts (is_index (type_of right)) (counts_in p (pointed p (type_of left)) size && same_type (type_of left) ty) rule in
      let b = and_parts (counts_in p (pointed p (type_of left)) size) (same_type (type_of left) ty) a.1 in
      let two = index_two q.ty (subst (λ r. is_index r ≡ true) t.0 a.0) in
      let counted = element (type_of left) size b.0 in
      let parts = (binary_parts (room sizes left) (value_bytes sizes left) (room sizes right) (value_bytes sizes right) (type_bytes sizes ty)).2 in
      let left_bytes = pointer_bytes_are sizes (type_of left) u.0 in
      let right_bytes = ap (type_bytes sizes) t.0 in
      led_by z _ _ 1632 0 c _ (omega arith) (omega arith)
      (offset_given z (scene_laws z given) minus left right size ty line x q k cp l w c (around_in z cp e (One (datum.Pointer x)) k (around z given input (state cp (Holds (datum.Number q)) (In e (One (datum.Pointer x)) ∷ k) l w) known))
      u.0 two t.1 counted.0 counted.1 (points_there p x u.1) (in_room (nat_eq size 1) _ _ (omega arith)) due h)

  offset_by : (op : BinOp) (left right : Expression) (size : ℕ) (ty : Ty) (line : ℕ) (x : Pointer) (q : Quantity) (k : List Pending) → offset_fits p op (type_of left) (type_of right) size ty ≡ true → Law z (Holds (datum.Number q)) (In (tree.Offset op left right size ty line) (One (datum.Pointer x)) ∷ k)
  offset_by ops.Add left right size ty line x q k rule cp l w c known due h =
      ⊎_elim
      (λ m. offset_on false left right size ty line x q k m cp l w c known due h)
      (λ m. absurd (false≢true (sym (moves_rule p (type_of right) (type_of left) size ty m).1 ∙ known.stands.stack.2.0)))
      (or_cases (moves p (type_of left) (type_of right) size ty) (moves p (type_of right) (type_of left) size ty) rule)
  offset_by ops.Sub left right size ty line x q k rule cp l w c known due h = offset_on true left right size ty line x q k rule cp l w c known due h
  offset_by _ left right size ty line x q k rule cp l w c known due h = absurd (false≢true rule)

  -- A pointer is moved by an integer that follows it.
  pub pointer_offsets : (op : BinOp) (left right : Expression) (size : ℕ) (ty : Ty) (line : ℕ) (x : Pointer) (q : Quantity) (k : List Pending) → Law z (Holds (datum.Number q)) (In (tree.Offset op left right size ty line) (One (datum.Pointer x)) ∷ k)
  pointer_offsets op left right size ty line x q k cp l w c known due h =
      offset_by op left right size ty line x q k (offset_rule p op left right size ty line known.stands.stack.0.0) cp l w c known due h

  turned_on : (left right : Expression) (size : ℕ) (ty : Ty) (line : ℕ) (q : Quantity) (x : Pointer) (k : List Pending) → moves p (type_of right) (type_of left) size ty ≡ true → Law z (Holds (datum.Pointer x)) (In (tree.Offset ops.Add left right size ty line) (One (datum.Number q)) ∷ k)
  unfolding act room
  turned_on left right size ty line q x k rule cp l w c known due h =
      let e = tree.Offset ops.Add left right size ty line in
      let s = known.stands in
      let t = subst (λ r. HasType p r (datum.Pointer x)) s.focus.1 s.focus.2 in
      let u = s.stack.2 in
      let f = frame_is z given cp s.reached in
      let fits = known.stack.0 in
      let a = and_parts (is_index (type_of left)) (counts_in p (pointed p (type_of right)) size && same_type (type_of right) ty) rule in
      let b = and_parts (counts_in p (pointed p (type_of right)) size) (same_type (type_of right) ty) a.1 in
      let two = index_two q.ty (subst (λ r. is_index r ≡ true) u.0 a.0) in
      let counted = element (type_of right) size b.0 in
      let parts = (binary_parts (room sizes left) (value_bytes sizes left) (room sizes right) (value_bytes sizes right) (type_bytes sizes ty)).2 in
      let left_bytes = ap (type_bytes sizes) u.0 in
      let right_bytes = pointer_bytes_are sizes (type_of right) t.0 in
      led_by z _ _ 1632 0 c _ (omega arith) (omega arith)
      (turned_given z (scene_laws z given) left right size ty line x q k cp l w c (around_in z cp e (One (datum.Number q)) k (around z given input (state cp (Holds (datum.Pointer x)) (In e (One (datum.Number q)) ∷ k) l w) known))
      (ap is_pointer u.0) two u.1 counted.0 counted.1 (points_there p x t.1) (in_room (nat_eq size 1) _ _ (omega arith)) due h)

  turned_by : (op : BinOp) (left right : Expression) (size : ℕ) (ty : Ty) (line : ℕ) (q : Quantity) (x : Pointer) (k : List Pending) → offset_fits p op (type_of left) (type_of right) size ty ≡ true → Law z (Holds (datum.Pointer x)) (In (tree.Offset op left right size ty line) (One (datum.Number q)) ∷ k)
  turned_by ops.Add left right size ty line q x k rule cp l w c known due h =
      ⊎_elim
      (λ m. absurd (no_pointer (type_of left) q.ty known.stands.stack.2.0 (moves_rule p (type_of left) (type_of right) size ty m).0))
      (λ m. turned_on left right size ty line q x k m cp l w c known due h)
      (or_cases (moves p (type_of left) (type_of right) size ty) (moves p (type_of right) (type_of left) size ty) rule)
  turned_by ops.Sub left right size ty line q x k rule cp l w c known due h = absurd (no_pointer (type_of left) q.ty known.stands.stack.2.0 (moves_rule p (type_of left) (type_of right) size ty rule).0)
  turned_by _ left right size ty line q x k rule cp l w c known due h = absurd (false≢true rule)

  -- a pointer is moved by an integer that stands before it
  pub turned_offsets : (op : BinOp) (left right : Expression) (size : ℕ) (ty : Ty) (line : ℕ) (q : Quantity) (x : Pointer) (k : List Pending) → Law z (Holds (datum.Pointer x)) (In (tree.Offset op left right size ty line) (One (datum.Number q)) ∷ k)
  turned_offsets op left right size ty line q x k cp l w c known due h =
      turned_by op left right size ty line q x k (offset_rule p op left right size ty line known.stands.stack.0.0) cp l w c known due h

  -- ---- two pointers
  -- A pointer is taken from one that stands there.
  pub pointer_differences : DifferencesDivide z → (left right : Expression) (size line : ℕ) (x y : Pointer) (k : List Pending) → Law z (Holds (datum.Pointer y)) (In (tree.Difference left right size line) (One (datum.Pointer x)) ∷ k)
  unfolding act room
  pointer_differences divide left right size line x y k cp l w c known due h =
      let e = tree.Difference left right size line in
      let st = state cp (Holds (datum.Pointer y)) (In e (One (datum.Pointer x)) ∷ k) l w in
      let s = known.stands in
      let t = subst (λ r. HasType p r (datum.Pointer y)) s.focus.1 s.focus.2 in
      let u = s.stack.2 in
      let f = frame_is z given cp s.reached in
      let fits = known.stack.0 in
      let counted = element (type_of left) size (difference_counts p left right size line s.stack.0.0) in
      let parts = (binary_parts (room sizes left) (value_bytes sizes left) (room sizes right) (value_bytes sizes right) 2).2 in
      let left_bytes = pointer_bytes_are sizes (type_of left) u.0 in
      let right_bytes = pointer_bytes_are sizes (type_of right) t.0 in
      led_by z _ _ 2250 0 c _ (omega arith) (omega arith)
      (difference_given z (scene_laws z given) bounded x y size left right line k cp l w c (around_in z cp e (One (datum.Pointer x)) k (around z given input st known)) (resumables z st known) counted.0
      (λ many. divide left right size line (datum.Pointer x) (datum.Pointer y) k cp l w known many) u.1 t.1 (omega arith) due h)

  -- Two pointers are compared.
  pub pointer_binaries : (op : BinOp) (left right : Expression) (ty : Ty) (line : ℕ) (x y : Pointer) (k : List Pending) → Law z (Holds (datum.Pointer y)) (In (tree.Binary op left right ty line) (One (datum.Pointer x)) ∷ k)
  unfolding act room
  pointer_binaries op left right ty line x y k cp l w c known due h =
      let e = tree.Binary op left right ty line in
      let s = known.stands in
      let t = subst (λ r. HasType p r (datum.Pointer y)) s.focus.1 s.focus.2 in
      let u = s.stack.2 in
      let f = frame_is z given cp s.reached in
      let fits = known.stack.0 in
      let to = points_to (type_of left) u.0 in
      let test = test_of op (pointers_rule p op to.target (type_of left) (type_of right) ty to.is (binary_rule p op left right ty line s.stack.0.0)) in
      let parts = (binary_parts (room sizes left) (value_bytes sizes left) (room sizes right) (value_bytes sizes right) (type_bytes sizes ty)).2 in
      let left_bytes = pointer_bytes_are sizes (type_of left) u.0 in
      let right_bytes = pointer_bytes_are sizes (type_of right) t.0 in
      led_by z _ _ 50 0 c _ (omega arith) (omega arith)
      (pointers_given z (scene_laws z given) some op left right ty line to.target x y k cp l w c (around_in z cp e (One (datum.Pointer x)) k (around z given input (state cp (Holds (datum.Pointer y)) (In e (One (datum.Pointer x)) ∷ k) l w) known))
      test to.is u.1 t.1 (lives_all z cp k) (omega arith) due h)
