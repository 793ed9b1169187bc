-- Nodes that wrote a bit: they have the bit, or the old value of a step.
use Rattle.c_ints.specs.declared.operators.BinOp.{BinOp}
use Rattle.c_ints.specs.declared.types.IntTy.TheVariants as int
use Rattle.c_typed.specs.Trees as tree
use Rattle.c_typed.specs.Trees.{Expression, Place}
use Rattle.c_typed.specs.declared.expression.StepOp.TheVariants as shapes
use Rattle.c_typed.specs.declared.expression.StepOp.{StepOp}
use Rattle.c_typed.specs.declared.types.Ty.{Ty}
use Rattle.core_code.specs.Bytes.{Memory}
use Rattle.core_code.specs.Machine.{Join, Machine}
use Rattle.core_code.specs.declared.code.Byte.TheVariants.{Frame}
use Rattle.core_puts.specs.Bytes.{beyond}
use Rattle.lower_expr.specs.Layout.{place_width, width}
use Rattle.core_puts.specs.Puts.{copies_if}
use Rattle.lower_expr.specs.Rows.{keeps_old}
use Rattle.lower_expr.specs.Spots.{spot_of}
use Rattle.lower_expr.specs.declared.places.Spot.TheVariants.{Bit}
use Rattle.lower_trace.proofs.Beginnings.{Follow}
use Rattle.lower_trace.proofs.BitWrites.{bit_assigned}
use Rattle.lower_trace.proofs.CodeLeft.{Scene, base, code_after, core_in, ground_in, held, number, source_in, stack_after, stored, todo, wanted, writing, writing_at}
use Rattle.lower_trace.proofs.Constants.{again_below, due_below}
use Rattle.lower_trace.proofs.Giving.{Around, placed_of}
use Rattle.lower_trace.proofs.Jumping.{join_then}
use Rattle.lower_trace.proofs.Kept.{SceneLaws, own_copy}
use Rattle.lower_trace.proofs.Mirrors.{HasDatum, Mirrors}
use Rattle.lower_trace.proofs.Operations.{Comes, comes_within}
use Rattle.lower_trace.proofs.Placed.{Placed}
use Rattle.lower_trace.proofs.Stored.{front_case, given_is, kept_at, kept_bound, kept_high}
use Rattle.lower_trace.proofs.Written.{both}
use Rattle.pic_world.specs.World.{World, arrived, is_due, world_as}
use Rattle.src_rules.specs.Accesses.{write}
use Rattle.src_rules.specs.State.{Went, state}
use Rattle.src_values.specs.Control.{Got, In, Pending, Stores, Holds as Value, Write, active}
use Rattle.src_values.specs.Data.{Datum}
use Rattle.src_values.specs.Memory as source
use Rattle.src_values.specs.Values.{answer_of, byte_count, kept_in, lowest_bit, number_of}
use Rattle.src_values.specs.declared.objects.Byte as value
use Rattle.src_values.specs.declared.objects.CopyOf.{CopyOf}
use Rattle.src_values.specs.declared.objects.Spot.TheVariants as spots
use Rattle.std.proofs.Common.{Bool, List, None, ap, arith, false, if◌then◌else◌, refl, subst, sym, true, ℕ, ◌+◌, ◌∙◌, ◌∷◌, ◌≡◌, ◌≤◌}

module _ (z : Scene) (laws : SceneLaws z) (cp : CopyOf) (l : source.Memory) where
  -- the bit was written: the operation ends, and the value comes to the front, if it is wanted
  joined_moved : (e : Expression) (got : Got) (v a : Datum) (register bit y bytes : ℕ) (k : List Pending) (w : World value.Byte) (c : Machine) → Around z cp k → base (ground_in z cp) k + bytes ≤ (core_in z).program.frame_bytes (number z cp) → y + bytes ≤ (core_in z).program.frame_bytes (number z cp)
      → base (ground_in z cp) k ≤ y → byte_count a ≤ bytes → bytes ≤ 4 → is_due (arrived z.outside w) ≡ false → (wanted k ≡ true → HasDatum z (ground_in z cp).copy y a c.memory)
      → writing_at z (ground_in z cp) (In e got ∷ k) (spots.Bit register bit) 1 ≡ Join ∷ todo (copies_if (wanted k) (Frame (ground_in z cp).copy (base (ground_in z cp) k)) (Frame (ground_in z cp).copy y) bytes) (code_after (ground_in z cp) k)
      → Mirrors z (state cp (Write (spots.Bit register bit) v 1) (In e got ∷ k) l w) c → Comes (core_in z) (Mirrors z (state cp (Value a) k l (arrived z.outside w))) 28 0 c
  unfolding active
  joined_moved e got v a register bit y bytes k w c around room from high count few due ha is h =
      let n = number z cp in
      let g = ground_in z cp in
      let b = base g k in
      let W = world_as (held z) (arrived z.outside w) in
      let T = Mirrors z (state cp (Value a) k l (arrived z.outside w)) in
      comes_within (core_in z) T (4 + 24) 0 28 0 c
      (join_then (core_in z) T n None W (due_below z (arrived z.outside w) due) (again_below z w) (todo (copies_if (wanted k) (Frame g.copy b) (Frame g.copy y) bytes) (code_after g k)) (stack_after z g k) c.memory c 24 0
      (subst (λ t. Placed (core_in z) n None t (stack_after z g k) c.memory W c) is (placed_of z (state cp (Write (spots.Bit register bit) v 1) (In e got ∷ k) l w) c h))
      (λ d pd.
      front_case z laws (wanted k) y bytes a k cp l w c.memory d refl around room from high count few due (λ want. subst (λ i. HasDatum z i y a c.memory) (own_copy z cp) (ha want)) h.agrees h.holds.1
      (subst (λ i. Placed (core_in z) n None (todo (copies_if (wanted k) (Frame i b) (Frame i y) bytes) (code_after g k)) (stack_after z g k) c.memory W d) (own_copy z cp) pd)))
      (omega arith) (omega arith)

  pub assign_bit : (sought : Place) (given_value : Expression) (ty : Ty) (line register bit : ℕ) (v : Datum) (k : List Pending) (w : World value.Byte) (c : Machine) → spot_of (ground_in z cp).layout (ground_in z cp).copy sought ≡ Bit register bit → base (ground_in z cp) k ≤ 96 → is_due (arrived z.outside w) ≡ false
      → Mirrors z (state cp (Write (spots.Bit register bit) v 1) (In (tree.Assign sought given_value ty line) (Stores (spots.Bit register bit) v) ∷ k) l w) c
      → Follow z 28 0 c (write (source_in z) (spots.Bit register bit) v 1 (In (tree.Assign sought given_value ty line) (Stores (spots.Bit register bit) v) ∷ k) cp l (arrived z.outside w))
  unfolding kept_in
  assign_bit sought given_value ty line register bit v k w c is small due h =
      comes_within (core_in z) (Mirrors z (state cp (Value (number_of int.UChar (lowest_bit v))) k l (arrived z.outside w))) 4 0 28 0 c (bit_assigned z laws sought given_value ty line register bit v k cp l w c is small due h) (omega arith) (omega arith)

  pub update_bit : (op : BinOp) (sought : Place) (given_value : Expression) (operation : Ty) (size : ℕ) (ty : Ty) (line register bit : ℕ) (v : Datum) (k : List Pending) (w : World value.Byte) (c : Machine) → spot_of (ground_in z cp).layout (ground_in z cp).copy sought ≡ Bit register bit → Around z cp k → place_width (ground_in z cp).layout sought ≡ 1
      → base (ground_in z cp) k + 1 ≤ (core_in z).program.frame_bytes (number z cp) → stored (ground_in z cp) (base (ground_in z cp) k) (tree.Update op sought given_value operation size ty line) + 1 ≤ (core_in z).program.frame_bytes (number z cp) → base (ground_in z cp) k ≤ stored (ground_in z cp) (base (ground_in z cp) k) (tree.Update op sought given_value operation size ty line) → is_due (arrived z.outside w) ≡ false
      → Mirrors z (state cp (Write (spots.Bit register bit) v 1) (In (tree.Update op sought given_value operation size ty line) (Stores (spots.Bit register bit) v) ∷ k) l w) c
      → Follow z 28 0 c (write (source_in z) (spots.Bit register bit) v 1 (In (tree.Update op sought given_value operation size ty line) (Stores (spots.Bit register bit) v) ∷ k) cp l (arrived z.outside w))
  unfolding kept_in
  update_bit op sought given_value operation size ty line register bit v k w c is around wide room from high due h =
      let g = ground_in z cp in
      let b = base g k in
      let e = tree.Update op sought given_value operation size ty line in
      let f = In e (Stores (spots.Bit register bit) v) ∷ k in
      joined_moved e (Stores (spots.Bit register bit) v) v (number_of int.UChar (lowest_bit v)) register bit (stored g b e) (place_width g.layout sought) k w c around (omega arith) (omega arith) high (omega arith) (omega arith) due (λ want. h.value)
      (ap (λ y. writing z g.layout.root y (spots.Bit register bit) (Frame g.copy b) (Frame g.copy (stored g b e)) (place_width g.layout sought) 1 (code_after g f)) is)
      h

  -- the value of a step
  pub step_value : StepOp → Datum → Datum → Datum
  step_value op u v = if keeps_old op then u else number_of int.UChar (lowest_bit v)

  step_answer : (op : StepOp) (sought : Place) (operation : Ty) (size : ℕ) (ty : Ty) (line register bit : ℕ) (u v : Datum) → (keeps_old op ≡ false → u ≡ v) → answer_of (tree.Step op sought operation size ty line) (spots.Bit register bit) u ≡ step_value op u v
  unfolding kept_in step_value
  step_answer shapes.PreIncrement sought operation size ty line register bit u v e = ap (λ t. number_of int.UChar (lowest_bit t)) (e refl)
  step_answer shapes.PreDecrement sought operation size ty line register bit u v e = ap (λ t. number_of int.UChar (lowest_bit t)) (e refl)
  step_answer shapes.PostIncrement sought operation size ty line register bit u v e = refl
  step_answer shapes.PostDecrement sought operation size ty line register bit u v e = refl

  step_has : (keeps : Bool) (n old new : ℕ) (u v : Datum) (m : Memory) → (keeps ≡ true → HasDatum z n old u m) → HasDatum z n new (number_of int.UChar (lowest_bit v)) m → HasDatum z n (kept_at z laws cp l keeps old new) (if keeps then u else number_of int.UChar (lowest_bit v)) m
  step_has true n old new u v m a b = a refl
  step_has false n old new u v m a b = b

  pub step_bit : (op : StepOp) (sought : Place) (operation : Ty) (size : ℕ) (ty : Ty) (line register bit : ℕ) (v u : Datum) (k : List Pending) (w : World value.Byte) (c : Machine) → spot_of (ground_in z cp).layout (ground_in z cp).copy sought ≡ Bit register bit → Around z cp k → place_width (ground_in z cp).layout sought ≡ 1
      → base (ground_in z cp) k + 1 ≤ (core_in z).program.frame_bytes (number z cp) → base (ground_in z cp) k ≤ stored (ground_in z cp) (base (ground_in z cp) k) (tree.Step op sought operation size ty line)
      → stored (ground_in z cp) (base (ground_in z cp) k) (tree.Step op sought operation size ty line) ≤ beyond (stored (ground_in z cp) (base (ground_in z cp) k) (tree.Step op sought operation size ty line)) (width (ground_in z cp).layout operation)
      → beyond (stored (ground_in z cp) (base (ground_in z cp) k) (tree.Step op sought operation size ty line)) (width (ground_in z cp).layout operation) + 1 ≤ (core_in z).program.frame_bytes (number z cp)
      → byte_count u ≤ 1 → (keeps_old op ≡ false → u ≡ v) → is_due (arrived z.outside w) ≡ false
      → Mirrors z (state cp (Write (spots.Bit register bit) v 1) (In (tree.Step op sought operation size ty line) (Stores (spots.Bit register bit) u) ∷ k) l w) c
      → Follow z 28 0 c (write (source_in z) (spots.Bit register bit) v 1 (In (tree.Step op sought operation size ty line) (Stores (spots.Bit register bit) u) ∷ k) cp l (arrived z.outside w))
  unfolding step_value
  step_bit op sought operation size ty line register bit v u k w c is around wide room high higher behind_room one same due h =
      let n = number z cp in
      let g = ground_in z cp in
      let b = base g k in
      let e = tree.Step op sought operation size ty line in
      let got = Stores (spots.Bit register bit) u in
      let f = In e got ∷ k in
      let new = stored g b e in
      let old = beyond new (width g.layout operation) in
      let keeps = keeps_old op in
      let count = place_width g.layout sought in
      let most = (core_in z).program.frame_bytes n in
      subst (λ t. Follow z 28 0 c (Went (state cp (Value t) k l (arrived z.outside w)) None)) (sym (step_answer op sought operation size ty line register bit u v same))
      (joined_moved e got v (step_value op u v) register bit (kept_at z laws cp l keeps old new) count k w c around (omega arith) (kept_bound z laws cp l keeps old new count most (omega arith) (omega arith)) (kept_high z laws cp l keeps old new b (omega arith) high) (value_few keeps u v count one (omega arith)) (omega arith) due
      (λ want. step_has keeps g.copy old new u v c.memory (λ i. h.holds.0.1 (both (wanted k) keeps want i)) h.value)
      (ap (λ y. writing z g.layout.root y (spots.Bit register bit) (Frame g.copy b) (Frame g.copy new) count 1 (code_after g f)) is
      ∙ ap (λ y. Join ∷ todo (copies_if (wanted k) (Frame g.copy b) y count) (code_after g k)) (given_is z laws cp l keeps g.copy old new))
      h)
    where
      value_few : (keeps : Bool) (u v : Datum) (count : ℕ) → byte_count u ≤ 1 → 1 ≤ count → byte_count (if keeps then u else number_of int.UChar (lowest_bit v)) ≤ count
      value_few true u v count a b = omega arith
      value_few false u v count a b = omega arith
