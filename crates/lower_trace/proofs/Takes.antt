-- Nodes take the values of their parts, where byte code does nothing yet or only joins.
use Rattle.std.proofs.Common.{◌≡◌, ℕ, ◌-◌, Bool, true, false, List, [], ◌∷◌, ◌++◌, None, refl, sym, ap, ◌∙◌, subst, arith}
use Rattle.c_ints.specs.declared.operators.BinOp.{BinOp}
use Rattle.c_typed.specs.Trees as tree
use Rattle.c_typed.specs.Trees.{Expression, Expressions, Place}
use Rattle.c_typed.specs.Types.{type_of}
use Rattle.c_typed.specs.Folding.{constant_bits}
use Rattle.c_typed.specs.declared.types.Ty.{Ty}
use Rattle.c_typed.specs.declared.types.Qualified.{Qualified}
use Rattle.core_code.specs.Machine.{Machine, Task}
use Rattle.core_code.specs.Tree.{Tree}
use Rattle.core_code.specs.declared.code.Byte.TheVariants.{Frame}
use Rattle.core_puts.specs.Bytes.{beyond, operation_type}
use Rattle.lower_expr.specs.Layout.{width, value_width}
use Rattle.lower_expr.specs.Lowering.{expr_code, change_code, shifts_by_constant, behind_pointer}
use Rattle.core_puts.specs.Puts.{copies}
use Rattle.lower_expr.specs.Rows.{binary_row, written_row, kept_row}
use Rattle.lower_expr.specs.Spots.{spot_of}
use Rattle.lower_expr.specs.declared.places.Spot as place
use Rattle.lower_expr.specs.declared.places.Spot.TheVariants.{Fixed, Bit, Computed}
use Rattle.lower_stmt.specs.Ground.{Ground, first, local_byte}
use Rattle.lower_stmt.specs.Ground as ground
use Rattle.pic_world.specs.World.{World, arrived, is_due, world_as}
use Rattle.pic_world.specs.declared.Root.{Root}
use Rattle.src_rules.specs.Giving.{take_in, take_to, take_for}
use Rattle.src_rules.specs.Standing.{WaitsForPlace}
use Rattle.src_rules.specs.State.{state}
use Rattle.src_values.specs.Control.{Eval, Holds as Value, Found, Write, Past, Nothing, Chosen, One, At, Stores, Tests, Fills, Pending, In, To, Doing, active}
use Rattle.src_values.specs.Data as datum
use Rattle.src_values.specs.Data.{Datum}
use Rattle.src_values.specs.Memory as source
use Rattle.src_values.specs.Objects as objects
use Rattle.src_values.specs.declared.objects.Byte as value
use Rattle.src_values.specs.declared.objects.CopyOf.{CopyOf}
use Rattle.src_values.specs.declared.objects.Spot as spot
use Rattle.src_values.specs.declared.objects.Spot.TheVariants as spots
use Rattle.lower_trace.proofs.Beginnings.{Follow, rests}
use Rattle.lower_trace.proofs.CodeLeft.{Scene, held, number, ground_in, core_in, source_in, todo, wanted, base, copies_from, writing, code_after, stack_after}
use Rattle.lower_trace.proofs.Constants.{due_below, again_below}
use Rattle.lower_trace.proofs.Flow.{arrive}
use Rattle.lower_trace.proofs.Giving.{placed_of}
use Rattle.lower_trace.proofs.Jumping.{join_then}
use Rattle.lower_trace.proofs.Mirrors.{standing, HasDatum, Mirrors, IsAt}
use Rattle.lower_trace.proofs.Places.{waits_one, copies_are}
use Rattle.lower_trace.proofs.Placed.{todo_join}

pub first_standing : (at : spot.Spot) (v : Datum) → standing at 0 v ≡ v
first_standing (spots.Bit register bit) v = refl
first_standing (spots.Memory x) v = refl
first_standing (spots.Device address) v = refl

module _ (z : Scene) where
  -- ---- left operands
  -- a shift by a constant has no code for its count
  right_code : (constant : Bool) (a b : List Tree) (r : List Task) → constant ≡ false → todo (change_code constant a ++ b) r ≡ todo a (todo b r)
  right_code true a b r e = absurd (cc)
  right_code false a b r e = todo_join a b r

  pub binary_left : (op : BinOp) (left right : Expression) (ty : Ty) (line : ℕ) (v : Datum) (k : List Pending) (cp : CopyOf) (l : source.Memory) (w : World value.Byte) (c : Machine) → shifts_by_constant op right ≡ false
      → Mirrors z (state cp (Value v) (In (tree.Binary op left right ty line) Nothing ∷ k) l w) c → Follow z 0 0 c (take_in (source_in z) (tree.Binary op left right ty line) Nothing v k cp l (arrived z.outside w))
  unfolding active
  binary_left op left right ty line v k cp l w c plain h =
      let e = tree.Binary op left right ty line in
      let g = ground_in z cp in
      let b = base g k in
      rests z cp (Value v) (Eval right) (In e Nothing ∷ k) (In e (One v) ∷ k) l l w c h refl
      (right_code (shifts_by_constant op right) (expr_code g.layout g.copy (beyond b (value_width g.layout left)) true right)
      (binary_row (shifts_by_constant op right) op (operation_type (type_of left)) (Frame g.copy b) (Frame g.copy (beyond b (value_width g.layout left))) (constant_bits right) (value_width g.layout right)) (code_after g k) plain)
      refl h.agrees ((h.value, plain), h.holds.1) tt

  pub offset_left : (op : BinOp) (left right : Expression) (size : ℕ) (ty : Ty) (line : ℕ) (v : Datum) (k : List Pending) (cp : CopyOf) (l : source.Memory) (w : World value.Byte) (c : Machine)
      → Mirrors z (state cp (Value v) (In (tree.Offset op left right size ty line) Nothing ∷ k) l w) c → Follow z 0 0 c (take_in (source_in z) (tree.Offset op left right size ty line) Nothing v k cp l (arrived z.outside w))
  unfolding active
  offset_left op left right size ty line v k cp l w c h =
      let e = tree.Offset op left right size ty line in
      rests z cp (Value v) (Eval right) (In e Nothing ∷ k) (In e (One v) ∷ k) l l w c h refl (simp todo_join) refl h.agrees (h.value, h.holds.1) tt

  pub difference_left : (left right : Expression) (size line : ℕ) (v : Datum) (k : List Pending) (cp : CopyOf) (l : source.Memory) (w : World value.Byte) (c : Machine)
      → Mirrors z (state cp (Value v) (In (tree.Difference left right size line) Nothing ∷ k) l w) c → Follow z 0 0 c (take_in (source_in z) (tree.Difference left right size line) Nothing v k cp l (arrived z.outside w))
  unfolding active
  difference_left left right size line v k cp l w c h =
      let e = tree.Difference left right size line in
      rests z cp (Value v) (Eval right) (In e Nothing ∷ k) (In e (One v) ∷ k) l l w c h refl (simp todo_join) refl h.agrees (h.value, h.holds.1) tt

  pub comma_left : (left right : Expression) (ty : Ty) (line : ℕ) (v : Datum) (k : List Pending) (cp : CopyOf) (l : source.Memory) (w : World value.Byte) (c : Machine)
      → Mirrors z (state cp (Value v) (In (tree.Comma left right ty line) Nothing ∷ k) l w) c → Follow z 0 0 c (take_in (source_in z) (tree.Comma left right ty line) Nothing v k cp l (arrived z.outside w))
  unfolding active
  comma_left left right ty line v k cp l w c h = rests z cp (Value v) (Eval right) (In (tree.Comma left right ty line) Nothing ∷ k) k l l w c h refl refl refl h.agrees h.holds.1 tt

  -- ---- the operand that a condition chose
  pub chosen_given : (condition chosen otherwise : Expression) (ty : Ty) (line : ℕ) (v : Datum) (k : List Pending) (cp : CopyOf) (l : source.Memory) (w : World value.Byte) (c : Machine) → is_due (arrived z.outside w) ≡ false
      → Mirrors z (state cp (Value v) (In (tree.Conditional condition chosen otherwise ty line) Chosen ∷ k) l w) c → Follow z 4 0 c (take_in (source_in z) (tree.Conditional condition chosen otherwise ty line) Chosen v k cp l (arrived z.outside w))
  unfolding active
  chosen_given condition chosen otherwise ty line v k cp l w c due h =
      let e = tree.Conditional condition chosen otherwise ty line in
      let T = Mirrors z (state cp (Value v) k l (arrived z.outside w)) in
      join_then (core_in z) T (number z cp) None (world_as (held z) (arrived z.outside w)) (due_below z (arrived z.outside w) due) (again_below z w) (code_after (ground_in z cp) k) (stack_after z (ground_in z cp) k) c.memory c 0 0
      (placed_of z (state cp (Value v) (In e Chosen ∷ k) l w) c h)
      (λ d pd. arrive z cp (Value v) k l w c.memory d pd h.agrees h.holds.1 h.value)

  -- ---- values that are written
  writes_first : (root : Root) (s : place.Spot) (at : spot.Spot) (n b v count : ℕ) (w : Bool) (r : List Task) → todo (written_row s root (Frame n b) (Frame n v) count ++ kept_row w s (Frame n b) (Frame n v) count) r ≡ writing z root s at (Frame n b) (Frame n v) count 0 (todo (kept_row w s (Frame n b) (Frame n v) count) r)
  writes_first root (Fixed to) at n b v count w r =
      todo_join (copies to (Frame n v) count) [] r
      ∙ ap (λ y. todo y r) (copies_are to (Frame n v) count)
      ∙ (let e : count ≡ count - 0 = omega arith in ap (λ y. todo (copies_from to (Frame n v) 0 y) r) e)
  writes_first root (Bit register bit) at n b v count w r = todo_join (written_row (Bit register bit) root (Frame n b) (Frame n v) count) [] r
  writes_first root Computed at n b v count w r = refl

  pub assign_given : (place : Place) (right : Expression) (ty : Ty) (line : ℕ) (at : spot.Spot) (v : Datum) (k : List Pending) (cp : CopyOf) (l : source.Memory) (w : World value.Byte) (c : Machine)
      → Mirrors z (state cp (Value v) (In (tree.Assign place right ty line) (At at) ∷ k) l w) c → Follow z 0 0 c (take_in (source_in z) (tree.Assign place right ty line) (At at) v k cp l (arrived z.outside w))
  unfolding active
  assign_given place right ty line at datum.Missing k cp l w c h = tt
  assign_given place right ty line at (datum.Number q) k cp l w c h =
      let e = tree.Assign place right ty line in
      let g = ground_in z cp in
      rests z cp (Value (datum.Number q)) (Write at (datum.Number q) 0) (In e (At at) ∷ k) (In e (Stores at (datum.Number q)) ∷ k) l l w c h refl
      (writes_first g.layout.root (spot_of g.layout g.copy place) at g.copy (base g k) (behind_pointer g.layout g.copy (base g k) place) (width g.layout ty) (wanted k) (code_after g k))
      refl h.agrees (h.holds.0, h.holds.1) (subst (λ y. HasDatum z g.copy (behind_pointer g.layout g.copy (base g k) place) y c.memory) (sym (first_standing at (datum.Number q))) h.value)
  assign_given place right ty line at (datum.Pointer x) k cp l w c h =
      let e = tree.Assign place right ty line in
      let g = ground_in z cp in
      rests z cp (Value (datum.Pointer x)) (Write at (datum.Pointer x) 0) (In e (At at) ∷ k) (In e (Stores at (datum.Pointer x)) ∷ k) l l w c h refl
      (writes_first g.layout.root (spot_of g.layout g.copy place) at g.copy (base g k) (behind_pointer g.layout g.copy (base g k) place) (width g.layout ty) (wanted k) (code_after g k))
      refl h.agrees (h.holds.0, h.holds.1) (subst (λ y. HasDatum z g.copy (behind_pointer g.layout g.copy (base g k) place) y c.memory) (sym (first_standing at (datum.Pointer x))) h.value)

  -- ---- places that pointers lead to
  pub deref_given : (pointer : Expression) (ty : Qualified) (line : ℕ) (v : Datum) (k : List Pending) (cp : CopyOf) (l : source.Memory) (w : World value.Byte) (c : Machine) → WaitsForPlace k (tree.Deref pointer ty line)
      → Mirrors z (state cp (Value v) (To (tree.Deref pointer ty line) ∷ k) l w) c → Follow z 0 0 c (take_to (tree.Deref pointer ty line) v k cp l (arrived z.outside w))
  unfolding active spot_of
  deref_given pointer ty line datum.Missing k cp l w c waits h = tt
  deref_given pointer ty line (datum.Number q) k cp l w c waits h = tt
  deref_given pointer ty line (datum.Pointer x) k cp l w c waits h =
      let g = ground_in z cp in
      rests z cp (Value (datum.Pointer x)) (Found (spots.Memory x)) (To (tree.Deref pointer ty line) ∷ k) k l l w c h refl refl refl h.agrees h.holds
      (λ other o. subst (λ y. IsAt z g.copy (base g k) (spot_of g.layout g.copy y) (spots.Memory x) c.memory) (waits_one k (tree.Deref pointer ty line) other waits o) (x, refl, h.value))

  -- ---- statements
  pub expression_given : (e : Expression) (line : ℕ) (v : Datum) (k : List Pending) (cp : CopyOf) (l : source.Memory) (w : World value.Byte) (c : Machine)
      → Mirrors z (state cp (Value v) (Doing (tree.Expr e line) Tests ∷ k) l w) c → Follow z 0 0 c (take_for (source_in z) (tree.Expr e line) Tests v k cp l (arrived z.outside w))
  unfolding active
  expression_given e line v k cp l w c h = rests z cp (Value v) Past (Doing (tree.Expr e line) Tests ∷ k) k l l w c h refl refl refl h.agrees h.holds tt

  scalar_code_is : (g : Ground) (local : ℕ) (e : Expression) (r : List Task) → todo (copies (local_byte g local) (first g) (ground.width g e)) r ≡ todo (copies_from (local_byte g local) (first g) 0 (ground.width g e - 0)) r
  scalar_code_is g local e r = ap (λ y. todo y r) (copies_are (local_byte g local) (first g) (ground.width g e)) ∙ (let q : ground.width g e ≡ ground.width g e - 0 = omega arith in ap (λ y. todo (copies_from (local_byte g local) (first g) 0 y) r) q)

  pub scalar_given : (local : ℕ) (e : Expression) (line : ℕ) (v : Datum) (k : List Pending) (cp : CopyOf) (l : source.Memory) (w : World value.Byte) (c : Machine)
      → Mirrors z (state cp (Value v) (Doing (tree.InitScalar local e line) Tests ∷ k) l w) c → Follow z 0 0 c (take_for (source_in z) (tree.InitScalar local e line) Tests v k cp l (arrived z.outside w))
  unfolding active
  scalar_given local e line datum.Missing k cp l w c h = tt
  scalar_given local e line (datum.Number q) k cp l w c h =
      rests z cp (Value (datum.Number q)) (Write (objects.behind (objects.local_of z.program cp local) 0) (datum.Number q) 0) (Doing (tree.InitScalar local e line) Tests ∷ k) (Doing (tree.InitScalar local e line) Fills ∷ k) l l w c h refl
      (scalar_code_is (ground_in z cp) local e (code_after (ground_in z cp) k)) refl h.agrees h.holds h.value
  scalar_given local e line (datum.Pointer x) k cp l w c h =
      rests z cp (Value (datum.Pointer x)) (Write (objects.behind (objects.local_of z.program cp local) 0) (datum.Pointer x) 0) (Doing (tree.InitScalar local e line) Tests ∷ k) (Doing (tree.InitScalar local e line) Fills ∷ k) l l w c h refl
      (scalar_code_is (ground_in z cp) local e (code_after (ground_in z cp) k)) refl h.agrees h.holds h.value
