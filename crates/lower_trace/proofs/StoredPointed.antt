-- Nodes that write places to which pointers lead: assignments, updates and steps, and what each has behind the write.
use Rattle.c_ints.specs.declared.operators.BinOp.{BinOp}
use Rattle.c_typed.specs.Trees as tree
use Rattle.c_typed.specs.Trees.{Expression, Place}
use Rattle.c_typed.specs.Types.{type_bytes}
use Rattle.c_typed.specs.declared.expression.StepOp.TheVariants as shapes
use Rattle.c_typed.specs.declared.expression.StepOp.{StepOp}
use Rattle.c_typed.specs.declared.types.Ty.{Ty}
use Rattle.core_code.specs.Machine.{Machine, Task}
use Rattle.core_code.specs.declared.code.Byte.TheVariants.{Frame}
use Rattle.core_puts.specs.Bytes as lower
use Rattle.core_puts.specs.Bytes.{beyond}
use Rattle.lower_expr.specs.Layout.{place_width, width}
use Rattle.core_puts.specs.Puts.{copies_if}
use Rattle.lower_expr.specs.Rows.{keeps_old, kept_row}
use Rattle.lower_expr.specs.Spots.{pointer_bytes}
use Rattle.lower_expr.specs.declared.places.Spot.TheVariants.{Computed}
use Rattle.src_rules.specs.Runs.{one_if}
use Rattle.lower_trace.proofs.Costs.{either}
use Rattle.lower_trace.proofs.Beginnings.{Follow}
use Rattle.lower_trace.proofs.CodeLeft.{Scene, base, code_after, core_in, ground_in, number, source_in, stored, todo, wanted, writing}
use Rattle.lower_trace.proofs.FixedWrites.{IsOpen}
use Rattle.lower_trace.proofs.Giving.{Around}
use Rattle.lower_trace.proofs.Kept.{Reached, SceneLaws}
use Rattle.lower_trace.proofs.Loading.{ReachesAll}
use Rattle.lower_trace.proofs.Mirrors.{HasDatum, IsAt, Mirrors, standing}
use Rattle.lower_trace.proofs.Placing.{none_stored, pointed_written}
use Rattle.lower_trace.proofs.Pointed.{PointedPlace, pointer_at}
use Rattle.lower_trace.proofs.Stored.{end_moved, given_is, kept_at, kept_bound, kept_has, kept_high}
use Rattle.lower_trace.proofs.Written.{both}
use Rattle.lower_trace.specs.Lowering.{object_as, offset_as}
use Rattle.pic_world.specs.World.{World, arrived, is_due}
use Rattle.pic_world.specs.declared.Root.{Root}
use Rattle.src_rules.specs.Accesses.{write}
use Rattle.src_rules.specs.Standing.{stepped}
use Rattle.src_rules.specs.State.{Went, state}
use Rattle.src_values.specs.Control.{Got, In, Pending, Stores, Holds as Value, Write}
use Rattle.src_values.specs.Data.{Datum}
use Rattle.src_values.specs.Memory as source
use Rattle.src_values.specs.Values.{answer_of, byte_count, kept_in}
use Rattle.src_values.specs.declared.objects.Byte as value
use Rattle.src_values.specs.declared.objects.CopyOf.{CopyOf}
use Rattle.src_values.specs.declared.objects.Pointer.TheVariants.{Into, Null}
use Rattle.src_values.specs.declared.objects.Pointer.{Pointer}
use Rattle.src_values.specs.declared.objects.Spot.TheVariants as spots
use Rattle.std.proofs.Common.{List, None, ap, arith, false, nat_lt, refl, subst, suc, sym, zero, ℕ, ◌+◌, ◌<◌, ◌∙◌, ◌∷◌, ◌≡◌, ◌≤◌}

pub memory_spot : (i : ℕ) (y : Pointer) → (p : Pointer) × (stepped i (spots.Memory y) ≡ spots.Memory p)
memory_spot i Null = (Null, refl)
memory_spot i (Into o f) = (Into o (f + i), refl)

-- all bytes are written: no code of the write is left
left_none : (z : Scene) (root : Root) (y : Pointer) (b from count done : ℕ) (n : ℕ) (r : List Task) → 0 < count → count ≤ done → writing z root Computed (spots.Memory y) (Frame n b) (Frame n from) count done r ≡ r
left_none z root y b from count zero n r some le = absurd (omega arith)
left_none z root Null b from count (suc j) n r some le = refl
left_none z root (Into o f) b from count (suc j) n r some le = none_stored (object_as z.copies o) (offset_as z.program o + f) (Frame n (from + suc j)) (suc j) count r le

plain_memory : (x : Pointer) (done : ℕ) (v : Datum) → standing (stepped done (spots.Memory x)) done v ≡ v
plain_memory Null done v = refl
plain_memory (Into o f) done v = refl

kept_memory : (x : Pointer) (v : Datum) → kept_in (spots.Memory x) v ≡ v
unfolding kept_in
kept_memory x v = refl

-- what a node that writes through a pointer has
pub record PointedWriting (z : Scene) (cp : CopyOf) (e : Expression) (got : Got) (k : List Pending) (sought : Place) (x : Pointer) (count : ℕ) (v : Datum) : Type 0 where
  pub place : PointedPlace z cp sought x count
  pub around : Around z cp (In e got ∷ k)
  pub below : Around z cp k
  pub reached : Reached z (ground_in z cp) (In e got ∷ k)
  pub low : base (ground_in z cp) (In e got ∷ k) ≤ 96
  pub reach : ReachesAll z cp (In e got ∷ k)
  pub open_is : IsOpen z (spots.Memory x)
  pub all : byte_count v ≡ count
  pub apart : base (ground_in z cp) k + 2 ≤ stored (ground_in z cp) (base (ground_in z cp) k) e
  pub room : stored (ground_in z cp) (base (ground_in z cp) k) e + count ≤ (core_in z).program.frame_bytes (number z cp)
  pub front : base (ground_in z cp) k + count ≤ (core_in z).program.frame_bytes (number z cp)

module _ (z : Scene) (laws : SceneLaws z) (cp : CopyOf) (l : source.Memory) where
  pub pointed_assign : (sought : Place) (right : Expression) (ty : Ty) (line : ℕ) (x : Pointer) (v : Datum) (done : ℕ) (k : List Pending) (w : World value.Byte) (c : Machine) → PointedWriting z cp (tree.Assign sought right ty line) (Stores (spots.Memory x) v) k sought x (type_bytes z.program.sizes ty) v → width (ground_in z cp).layout ty ≡ type_bytes z.program.sizes ty → is_due (arrived z.outside w) ≡ false
      → Mirrors z (state cp (Write (stepped done (spots.Memory x)) v done) (In (tree.Assign sought right ty line) (Stores (spots.Memory x) v) ∷ k) l w) c
      → Follow z (either (nat_lt done (byte_count v)) 20 24) (one_if (nat_lt done (byte_count v))) c (write (source_in z) (stepped done (spots.Memory x)) v done (In (tree.Assign sought right ty line) (Stores (spots.Memory x) v) ∷ k) cp l (arrived z.outside w))
  pointed_assign sought right ty line x v done k w c p wide due h =
      let g = ground_in z cp in
      let b = base g k in
      let e = tree.Assign sought right ty line in
      let start = spots.Memory x in
      let f = In e (Stores start v) ∷ k in
      let q = p.place in
      let all = p.all in
      let room = p.room in
      let front = p.front in
      let far = p.apart in
      let few = q.few in
      let some = q.some in
      let r = code_after g f in
      let count = width g.layout ty in
      let to = memory_spot done x in
      let r_is : r ≡ todo (copies_if (wanted k) (Frame g.copy b) (Frame g.copy (stored g b e)) count) (code_after g k) =
      ap (λ y. todo (kept_row (wanted k) y (Frame g.copy b) (lower.behind (Frame g.copy b) (pointer_bytes y)) count) (code_after g k)) q.spot
      ∙ ap (λ y. todo (copies_if (wanted k) (Frame g.copy b) (Frame g.copy y) count) (code_after g k)) (sym (ap (λ y. beyond b (pointer_bytes y)) q.spot)) in
      pointed_written z laws cp f l p.around p.reached p.low g.layout.root count (stored g b e) b r
      (λ a i. ap (λ y. writing z g.layout.root y a (Frame g.copy b) (Frame g.copy (stored g b e)) count i r) q.spot)
      refl (omega arith) far p.reach x v done 24 w c q.there p.open_is (all ∙ sym wide)
      (pointer_at z g.copy b x c.memory (subst (λ y. IsAt z g.copy b y start c.memory) q.spot h.holds.0)) due
      (λ le.
      subst (λ y. Follow z 24 0 c (Went (state cp (Value y) k l (arrived z.outside w)) None)) (sym (kept_memory x v))
      (end_moved z laws e (Stores start v) (stepped done start) v v done (stored g b e) count k cp l w c p.below (omega arith) (omega arith) (omega arith) (omega arith) (omega arith) due (λ want. subst (λ y. HasDatum z g.copy (stored g b e) y c.memory) (plain_memory x done v) h.value)
      (ap (λ y. writing z g.layout.root y (stepped done start) (Frame g.copy b) (Frame g.copy (stored g b e)) count done r) q.spot
      ∙ ap (λ y. writing z g.layout.root Computed y (Frame g.copy b) (Frame g.copy (stored g b e)) count done r) to.1
      ∙ left_none z g.layout.root to.0 b (stored g b e) count done g.copy r (omega arith) le ∙ r_is)
      h))
      h

  pub pointed_update_write : (op : BinOp) (sought : Place) (right : Expression) (operation : Ty) (size : ℕ) (ty : Ty) (line : ℕ) (x : Pointer) (v : Datum) (done : ℕ) (k : List Pending) (w : World value.Byte) (c : Machine) → PointedWriting z cp (tree.Update op sought right operation size ty line) (Stores (spots.Memory x) v) k sought x (type_bytes z.program.sizes ty) v → place_width (ground_in z cp).layout sought ≡ type_bytes z.program.sizes ty → is_due (arrived z.outside w) ≡ false
      → Mirrors z (state cp (Write (stepped done (spots.Memory x)) v done) (In (tree.Update op sought right operation size ty line) (Stores (spots.Memory x) v) ∷ k) l w) c
      → Follow z (either (nat_lt done (byte_count v)) 20 24) (one_if (nat_lt done (byte_count v))) c (write (source_in z) (stepped done (spots.Memory x)) v done (In (tree.Update op sought right operation size ty line) (Stores (spots.Memory x) v) ∷ k) cp l (arrived z.outside w))
  pointed_update_write op sought right operation size ty line x v done k w c p wide due h =
      let g = ground_in z cp in
      let b = base g k in
      let e = tree.Update op sought right operation size ty line in
      let start = spots.Memory x in
      let f = In e (Stores start v) ∷ k in
      let q = p.place in
      let all = p.all in
      let room = p.room in
      let front = p.front in
      let far = p.apart in
      let few = q.few in
      let some = q.some in
      let r = code_after g f in
      let count = place_width g.layout sought in
      let to = memory_spot done x in
      pointed_written z laws cp f l p.around p.reached p.low g.layout.root count (stored g b e) b r
      (λ a i. ap (λ y. writing z g.layout.root y a (Frame g.copy b) (Frame g.copy (stored g b e)) count i r) q.spot)
      refl (omega arith) far p.reach x v done 24 w c q.there p.open_is (all ∙ sym wide)
      (pointer_at z g.copy b x c.memory (subst (λ y. IsAt z g.copy b y start c.memory) q.spot h.holds.0)) due
      (λ le.
      subst (λ y. Follow z 24 0 c (Went (state cp (Value y) k l (arrived z.outside w)) None)) (sym (kept_memory x v))
      (end_moved z laws e (Stores start v) (stepped done start) v v done (stored g b e) count k cp l w c p.below (omega arith) (omega arith) (omega arith) (omega arith) (omega arith) due (λ want. subst (λ y. HasDatum z g.copy (stored g b e) y c.memory) (plain_memory x done v) h.value)
      (ap (λ y. writing z g.layout.root y (stepped done start) (Frame g.copy b) (Frame g.copy (stored g b e)) count done r) q.spot
      ∙ ap (λ y. writing z g.layout.root Computed y (Frame g.copy b) (Frame g.copy (stored g b e)) count done r) to.1
      ∙ left_none z g.layout.root to.0 b (stored g b e) count done g.copy r (omega arith) le)
      h))
      h

  step_answer : (op : StepOp) (x : Pointer) (u : Datum) (sought : Place) (operation : Ty) (size : ℕ) (ty : Ty) (line : ℕ) → answer_of (tree.Step op sought operation size ty line) (spots.Memory x) u ≡ u
  step_answer shapes.PreIncrement x u sought operation size ty line = kept_memory x u
  step_answer shapes.PreDecrement x u sought operation size ty line = kept_memory x u
  step_answer shapes.PostIncrement x u sought operation size ty line = refl
  step_answer shapes.PostDecrement x u sought operation size ty line = refl

  pub pointed_step_write : (op : StepOp) (sought : Place) (operation : Ty) (size : ℕ) (ty : Ty) (line : ℕ) (x : Pointer) (v u : Datum) (done : ℕ) (k : List Pending) (w : World value.Byte) (c : Machine) → PointedWriting z cp (tree.Step op sought operation size ty line) (Stores (spots.Memory x) u) k sought x (type_bytes z.program.sizes ty) v → place_width (ground_in z cp).layout sought ≡ type_bytes z.program.sizes ty
      → stored (ground_in z cp) (base (ground_in z cp) k) (tree.Step op sought operation size ty line) ≤ beyond (stored (ground_in z cp) (base (ground_in z cp) k) (tree.Step op sought operation size ty line)) (width (ground_in z cp).layout operation)
      → beyond (stored (ground_in z cp) (base (ground_in z cp) k) (tree.Step op sought operation size ty line)) (width (ground_in z cp).layout operation) + type_bytes z.program.sizes ty ≤ (core_in z).program.frame_bytes (number z cp)
      → byte_count u ≤ type_bytes z.program.sizes ty → (keeps_old op ≡ false → u ≡ v) → is_due (arrived z.outside w) ≡ false
      → Mirrors z (state cp (Write (stepped done (spots.Memory x)) v done) (In (tree.Step op sought operation size ty line) (Stores (spots.Memory x) u) ∷ k) l w) c
      → Follow z (either (nat_lt done (byte_count v)) 20 24) (one_if (nat_lt done (byte_count v))) c (write (source_in z) (stepped done (spots.Memory x)) v done (In (tree.Step op sought operation size ty line) (Stores (spots.Memory x) u) ∷ k) cp l (arrived z.outside w))
  pointed_step_write op sought operation size ty line x v u done k w c p wide higher behind_room shorter same_value_is due h =
      let g = ground_in z cp in
      let b = base g k in
      let e = tree.Step op sought operation size ty line in
      let start = spots.Memory x in
      let f = In e (Stores start u) ∷ k in
      let q = p.place in
      let all = p.all in
      let room = p.room in
      let front = p.front in
      let far = p.apart in
      let few = q.few in
      let some = q.some in
      let r = code_after g f in
      let new = stored g b e in
      let old = beyond new (width g.layout operation) in
      let keeps = keeps_old op in
      let count = place_width g.layout sought in
      let to = memory_spot done x in
      let most = (core_in z).program.frame_bytes (number z cp) in
      pointed_written z laws cp f l p.around p.reached p.low g.layout.root count new b r
      (λ a i. ap (λ y. writing z g.layout.root y a (Frame g.copy b) (Frame g.copy new) count i r) q.spot)
      refl (omega arith) far p.reach x v done 24 w c q.there p.open_is (all ∙ sym wide)
      (pointer_at z g.copy b x c.memory (subst (λ y. IsAt z g.copy b y start c.memory) q.spot h.holds.0.0)) due
      (λ le.
      subst (λ y. Follow z 24 0 c (Went (state cp (Value y) k l (arrived z.outside w)) None)) (sym (step_answer op x u sought operation size ty line))
      (end_moved z laws e (Stores start u) (stepped done start) v u done (kept_at z laws cp l keeps old new) count k cp l w c p.below (omega arith)
      (kept_bound z laws cp l keeps old new count most (omega arith) (omega arith)) (kept_high z laws cp l keeps old new b (omega arith) (omega arith)) (omega arith) (omega arith) due
      (λ want. kept_has z laws cp l keeps g.copy old new u c.memory (λ i. h.holds.0.1 (both (wanted k) keeps want i)) (λ i. subst (λ y. HasDatum z g.copy new y c.memory) (sym (same_value_is i)) (subst (λ y. HasDatum z g.copy new y c.memory) (plain_memory x done v) h.value)))
      (ap (λ y. writing z g.layout.root y (stepped done start) (Frame g.copy b) (Frame g.copy new) count done r) q.spot
      ∙ ap (λ y. writing z g.layout.root Computed y (Frame g.copy b) (Frame g.copy new) count done r) to.1
      ∙ left_none z g.layout.root to.0 b new count done g.copy r (omega arith) le
      ∙ ap (λ y. todo (copies_if (wanted k) (Frame g.copy b) y count) (code_after g k)) (given_is z laws cp l keeps g.copy old new))
      h))
      h
