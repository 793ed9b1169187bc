-- Nodes that write fixed places: assignments, first values, updates and steps, and what each has behind the write.
use Rattle.c_ints.specs.declared.operators.BinOp.{BinOp}
use Rattle.c_typed.specs.Trees as tree
use Rattle.c_typed.specs.Trees.{Expression, Place}
use Rattle.c_typed.specs.Types.{type_bytes}
use Rattle.c_typed.specs.declared.expression.StepOp.TheVariants as shapes
use Rattle.c_typed.specs.declared.expression.StepOp.{StepOp}
use Rattle.c_typed.specs.declared.types.Ty.{Ty}
use Rattle.core_code.specs.Bytes.{Memory, with_bytes}
use Rattle.core_code.specs.Machine.{Machine}
use Rattle.core_code.specs.declared.code.Byte.TheVariants.{Frame}
use Rattle.core_code.specs.declared.code.Byte.{Byte}
use Rattle.core_puts.specs.Bytes.{beyond}
use Rattle.lower_expr.specs.Layout.{place_width, width}
use Rattle.core_puts.specs.Puts.{copies_if}
use Rattle.lower_expr.specs.Rows.{given_byte, keeps_old}
use Rattle.src_rules.specs.Runs.{one_if}
use Rattle.lower_trace.proofs.Costs.{either}
use Rattle.lower_trace.proofs.Assigning.{assigned, none_left}
use Rattle.lower_trace.proofs.Beginnings.{Follow}
use Rattle.lower_trace.proofs.CodeLeft.{Scene, base, code_after, code_at, core_in, ground_in, held, number, source_in, stack_after, stored, todo, wanted, writing}
use Rattle.lower_trace.proofs.Constants.{again_below, due_below, same_below}
use Rattle.lower_trace.proofs.FixedFetches.{FixedPlace}
use Rattle.lower_trace.proofs.FixedPlaces.{own_spot}
use Rattle.lower_trace.proofs.FixedWrites.{IsFor, IsOpen, fixed_written, move_then}
use Rattle.lower_trace.proofs.Flow.{arrive}
use Rattle.lower_trace.proofs.Giving.{Around, gives, placed_of}
use Rattle.lower_trace.proofs.Kept.{Reached, SceneLaws, own_copy}
use Rattle.lower_trace.proofs.Mirrors.{Agrees, HasDatum, HasIf, Holds, IsAt, Mirrors, at_byte, standing}
use Rattle.lower_trace.proofs.Operations.{Comes, comes_here, comes_within}
use Rattle.lower_trace.proofs.Placed.{Placed}
use Rattle.lower_trace.proofs.Written.{both}
use Rattle.pic_world.specs.World.{World, arrived, is_due, left, world_as}
use Rattle.src_rules.specs.Accesses.{write}
use Rattle.src_rules.specs.Standing.{stepped}
use Rattle.src_rules.specs.State.{Went, state}
use Rattle.src_rules.specs.Step.{start}
use Rattle.src_values.specs.Control.{Got, In, Pending, Stores, Holds as Value, Write, active}
use Rattle.src_values.specs.Data.{Datum}
use Rattle.src_values.specs.Memory as source
use Rattle.src_values.specs.Values.{answer_of, byte_count, kept_in}
use Rattle.src_values.specs.declared.objects.Byte as value
use Rattle.src_values.specs.declared.objects.CopyOf.{CopyOf}
use Rattle.src_values.specs.declared.objects.Pointer.TheVariants.{Into, Null}
use Rattle.src_values.specs.declared.objects.Spot as spot
use Rattle.src_values.specs.declared.objects.Spot.TheVariants as spots
use Rattle.std.proofs.Common.{Bool, List, None, Some, ap, arith, false, if◌then◌else◌, inl, nat_lt, refl, subst, sym, true, ℕ, ◌*◌, ◌+◌, ◌∙◌, ◌∷◌, ◌≡◌, ◌≤◌}

kept_same : (z : Scene) (start : spot.Spot) (X : Byte) (v : Datum) → at_byte z start ≡ Some X → kept_in start v ≡ v
unfolding kept_in
kept_same z (spots.Memory x) X v e = refl
kept_same z (spots.Device a) X v e = refl
kept_same z (spots.Bit register bit) X v e = absurd (cc)

-- it isn't the byte of a bit
pub plain_spot : (z : Scene) (start : spot.Spot) (X : Byte) (done : ℕ) (v : Datum) → at_byte z start ≡ Some X → standing (stepped done start) done v ≡ v
plain_spot z (spots.Memory Null) X done v e = refl
plain_spot z (spots.Memory (Into o f)) X done v e = refl
plain_spot z (spots.Device a) X done v e = refl
plain_spot z (spots.Bit register bit) X done v e = absurd (cc)

-- ---- a value that stands behind comes to the front, if it is wanted
pub front_case : (z : Scene) (laws : SceneLaws z) (want : Bool) (y bytes : ℕ) (v : Datum) (k : List Pending) (cp : CopyOf) (l : source.Memory) (w : World value.Byte) (m : Memory) (c : Machine) → wanted k ≡ want → Around z cp k → base (ground_in z cp) k + bytes ≤ (core_in z).program.frame_bytes (number z cp) → y + bytes ≤ (core_in z).program.frame_bytes (number z cp)
    → base (ground_in z cp) k ≤ y → byte_count v ≤ bytes → bytes ≤ 4 → is_due (arrived z.outside w) ≡ false → (want ≡ true → HasDatum z (number z cp) y v m) → Agrees z (active cp (Value v) k) l m → Holds z (ground_in z cp) k m
    → Placed (core_in z) (number z cp) None (todo (copies_if want (Frame (number z cp) (base (ground_in z cp) k)) (Frame (number z cp) y) bytes) (code_after (ground_in z cp) k)) (stack_after z (ground_in z cp) k) m (world_as (held z) (arrived z.outside w)) c
    → Comes (core_in z) (Mirrors z (state cp (Value v) k l (arrived z.outside w))) 24 0 c
front_case z laws true y bytes v k cp l w m c is around room from high count few due hv agrees holds p =
    let n = number z cp in
    let g = ground_in z cp in
    let b = base g k in
    let T = Mirrors z (state cp (Value v) k l (arrived z.outside w)) in
    let W = world_as (held z) (arrived z.outside w) in
    comes_within (core_in z) T (6 * bytes + 0) 0 24 0 c
    (move_then (core_in z) T n None (stack_after z g k) W (due_below z (arrived z.outside w) due) (again_below z w) (laws.small n) b y bytes (code_after g k) m c 0 0 (inl high) room from p
    (λ d pd. comes_here (core_in z) T d
    (gives z laws cp k l (arrived z.outside w) m bytes (λ j. m (Frame n (y + j))) v d around count (λ i lt. hv refl i lt)
    (subst (λ x. Placed (core_in z) n None (code_after g k) (stack_after z g k) (with_bytes m (Frame n b) bytes (λ j. m (Frame n (y + j)))) x d) (same_below z w) pd)
    agrees holds)))
    (omega arith) (omega arith)
front_case z laws false y bytes v k cp l w m c is around room from high count few due hv agrees holds p =
    let T = Mirrors z (state cp (Value v) k l (arrived z.outside w)) in
    comes_within (core_in z) T 0 0 24 0 c
    (arrive z cp (Value v) k l w m c p agrees holds (subst (λ b. HasIf b z (ground_in z cp).copy (base (ground_in z cp) k) v m) (sym is) tt))
    (omega arith) (omega arith)

-- all bytes are written, and the value stands at y
pub end_moved : (z : Scene) (laws : SceneLaws z) (e : Expression) (got : Got) (now : spot.Spot) (v u : Datum) (done y bytes : ℕ) (k : List Pending) (cp : CopyOf) (l : source.Memory) (w : World value.Byte) (c : Machine) → Around z cp k → base (ground_in z cp) k + bytes ≤ (core_in z).program.frame_bytes (number z cp) → y + bytes ≤ (core_in z).program.frame_bytes (number z cp)
    → base (ground_in z cp) k ≤ y → byte_count u ≤ bytes → bytes ≤ 4 → is_due (arrived z.outside w) ≡ false → (wanted k ≡ true → HasDatum z (ground_in z cp).copy y u c.memory)
    → code_at z (ground_in z cp) (Write now v done) (In e got ∷ k) ≡ todo (copies_if (wanted k) (Frame (ground_in z cp).copy (base (ground_in z cp) k)) (Frame (ground_in z cp).copy y) bytes) (code_after (ground_in z cp) k)
    → Mirrors z (state cp (Write now v done) (In e got ∷ k) l w) c → Comes (core_in z) (Mirrors z (state cp (Value u) k l (arrived z.outside w))) 24 0 c
unfolding active
end_moved z laws e got now v u done y bytes k cp l w c around room from high count few due hu left h =
    let n = number z cp in
    let g = ground_in z cp in
    let b = base g k in
    let W = world_as (held z) (arrived z.outside w) in
    front_case z laws (wanted k) y bytes u k cp l w c.memory c refl around room from high count few due (λ is. subst (λ i. HasDatum z i y u c.memory) (own_copy z cp) (hu is)) h.agrees h.holds.1
    (subst (λ i. Placed (core_in z) n None (todo (copies_if (wanted k) (Frame i b) (Frame i y) bytes) (code_after g k)) (stack_after z g k) c.memory W c) (own_copy z cp)
    (subst (λ x. Placed (core_in z) n None x (stack_after z g k) c.memory W c) left (placed_of z (state cp (Write now v done) (In e got ∷ k) l w) c h)))

-- ---- what a node that writes has
pub record Writing (z : Scene) (cp : CopyOf) (e : Expression) (got : Got) (k : List Pending) (sought : Place) (start : spot.Spot) (X : Byte) (count : ℕ) (v : Datum) : Type 0 where
  pub place : FixedPlace z cp sought start X count
  pub around : Around z cp (In e got ∷ k)
  pub below : Around z cp k
  pub reach : Reached z (ground_in z cp) (In e got ∷ k)
  pub low : base (ground_in z cp) (In e got ∷ k) ≤ 96
  pub front : base (ground_in z cp) k ≤ 96
  pub open_is : IsOpen z start
  pub fit : IsFor start v
  pub all : byte_count v ≡ count
  pub few : count ≤ 4
  pub room : stored (ground_in z cp) (base (ground_in z cp) k) e + count ≤ (core_in z).program.frame_bytes (number z cp)
  pub own_room : (ground_in z cp).base ≤ (core_in z).program.frame_bytes (number z cp)

module _ (z : Scene) (laws : SceneLaws z) (cp : CopyOf) (l : source.Memory) where
  pub assign_write : (sought : Place) (right : Expression) (ty : Ty) (line : ℕ) (start : spot.Spot) (X : Byte) (v : Datum) (done : ℕ) (k : List Pending) (w : World value.Byte) (c : Machine) → Writing z cp (tree.Assign sought right ty line) (Stores start v) k sought start X (type_bytes z.program.sizes ty) v → width (ground_in z cp).layout ty ≡ type_bytes z.program.sizes ty → is_due (arrived z.outside w) ≡ false
      → Mirrors z (state cp (Write (stepped done start) v done) (In (tree.Assign sought right ty line) (Stores start v) ∷ k) l w) c
      → Follow z (either (nat_lt done (byte_count v)) 6 0) (one_if (nat_lt done (byte_count v))) c (write (source_in z) (stepped done start) v done (In (tree.Assign sought right ty line) (Stores start v) ∷ k) cp l (arrived z.outside w))
  assign_write sought right ty line start X v done k w c p wide due h =
      let g = ground_in z cp in
      let b = base g k in
      let e = tree.Assign sought right ty line in
      let f = In e (Stores start v) ∷ k in
      let q = p.place in
      let few = p.front in
      let room = p.room in
      let is : at_byte z start ≡ Some X = subst (λ y. IsAt z g.copy b y start c.memory) q.spot h.holds.0 in
      fixed_written z laws cp f l p.around p.reach p.low X (width g.layout ty) (stored g b e) (code_after g f)
      (λ a i. ap (λ y. writing z g.layout.root y a (Frame g.copy b) (Frame g.copy (stored g b e)) (width g.layout ty) i (code_after g f)) q.spot)
      refl (omega arith) p.own_room start v done 0 w c is (own_spot z cp g.layout g.copy sought X start q.spot p.around.reached q.there q.found) p.open_is p.fit (λ a d. wide ∙ q.one a d) (p.all ∙ sym wide) due
      (λ le.
      subst (λ y. Follow z 0 0 c (Went (state cp (Value y) k l (arrived z.outside w)) None)) (sym (kept_same z start X v is))
      (assigned z sought right ty line start v done X (stepped done start) k cp l w c (plain_spot z start X done v is) q.spot (omega arith) le h))
      h

  pub update_write : (op : BinOp) (sought : Place) (right : Expression) (operation : Ty) (size : ℕ) (ty : Ty) (line : ℕ) (start : spot.Spot) (X : Byte) (v : Datum) (done : ℕ) (k : List Pending) (w : World value.Byte) (c : Machine) → Writing z cp (tree.Update op sought right operation size ty line) (Stores start v) k sought start X (type_bytes z.program.sizes ty) v → place_width (ground_in z cp).layout sought ≡ type_bytes z.program.sizes ty
      → base (ground_in z cp) k + type_bytes z.program.sizes ty ≤ (core_in z).program.frame_bytes (number z cp) → base (ground_in z cp) k ≤ stored (ground_in z cp) (base (ground_in z cp) k) (tree.Update op sought right operation size ty line) → is_due (arrived z.outside w) ≡ false
      → Mirrors z (state cp (Write (stepped done start) v done) (In (tree.Update op sought right operation size ty line) (Stores start v) ∷ k) l w) c
      → Follow z (either (nat_lt done (byte_count v)) 6 24) (one_if (nat_lt done (byte_count v))) c (write (source_in z) (stepped done start) v done (In (tree.Update op sought right operation size ty line) (Stores start v) ∷ k) cp l (arrived z.outside w))
  update_write op sought right operation size ty line start X v done k w c p wide ahead high due h =
      let g = ground_in z cp in
      let b = base g k in
      let e = tree.Update op sought right operation size ty line in
      let f = In e (Stores start v) ∷ k in
      let q = p.place in
      let all = p.all in
      let few = p.few in
      let room = p.room in
      let r = code_after g f in
      let count = place_width g.layout sought in
      let is : at_byte z start ≡ Some X = subst (λ y. IsAt z g.copy b y start c.memory) q.spot h.holds.0 in
      fixed_written z laws cp f l p.around p.reach p.low X count (stored g b e) r
      (λ a i. ap (λ y. writing z g.layout.root y a (Frame g.copy b) (Frame g.copy (stored g b e)) count i r) q.spot)
      refl (omega arith) p.own_room start v done 24 w c is (own_spot z cp g.layout g.copy sought X start q.spot p.around.reached q.there q.found) p.open_is p.fit (λ a d. wide ∙ q.one a d) (p.all ∙ sym wide) due
      (λ le.
      subst (λ y. Follow z 24 0 c (Went (state cp (Value y) k l (arrived z.outside w)) None)) (sym (kept_same z start X v is))
      (end_moved z laws e (Stores start v) (stepped done start) v v done (stored g b e) count k cp l w c p.below (omega arith) (omega arith) high (omega arith) (omega arith) due (λ want. subst (λ y. HasDatum z g.copy (stored g b e) y c.memory) (plain_spot z start X done v is) h.value)
      (ap (λ y. writing z g.layout.root y (stepped done start) (Frame g.copy b) (Frame g.copy (stored g b e)) count done r) q.spot ∙ none_left X (Frame g.copy (stored g b e)) done count r le)
      h))
      h

  -- the value of a step is the new one, or the old one that was kept
  step_end : (op : StepOp) (start : spot.Spot) (X : Byte) (u v : Datum) (sought : Place) (operation : Ty) (size : ℕ) (ty : Ty) (line : ℕ) → at_byte z start ≡ Some X → answer_of (tree.Step op sought operation size ty line) start u ≡ u
  step_end shapes.PreIncrement start X u v sought operation size ty line is = kept_same z start X u is
  step_end shapes.PreDecrement start X u v sought operation size ty line is = kept_same z start X u is
  step_end shapes.PostIncrement start X u v sought operation size ty line is = refl
  step_end shapes.PostDecrement start X u v sought operation size ty line is = refl

  -- where it stands
  abbrev pub kept_at : Bool → ℕ → ℕ → ℕ
  kept_at keeps old new = if keeps then old else new

  pub given_is : (keeps : Bool) (n old new : ℕ) → given_byte keeps (Frame n old) (Frame n new) ≡ Frame n (kept_at keeps old new)
  given_is true n old new = refl
  given_is false n old new = refl

  pub kept_has : (keeps : Bool) (n old new : ℕ) (u : Datum) (m : Memory) → (keeps ≡ true → HasDatum z n old u m) → (keeps ≡ false → HasDatum z n new u m) → HasDatum z n (kept_at keeps old new) u m
  kept_has true n old new u m a b = a refl
  kept_has false n old new u m a b = b refl

  pub kept_bound : (keeps : Bool) (old new bytes most : ℕ) → old + bytes ≤ most → new + bytes ≤ most → kept_at keeps old new + bytes ≤ most
  kept_bound true old new bytes most a b = a
  kept_bound false old new bytes most a b = b

  pub kept_high : (keeps : Bool) (old new low : ℕ) → low ≤ old → low ≤ new → low ≤ kept_at keeps old new
  kept_high true old new low a b = a
  kept_high false old new low a b = b

  pub step_write : (op : StepOp) (sought : Place) (operation : Ty) (size : ℕ) (ty : Ty) (line : ℕ) (start : spot.Spot) (X : Byte) (v u : Datum) (done : ℕ) (k : List Pending) (w : World value.Byte) (c : Machine) → Writing z cp (tree.Step op sought operation size ty line) (Stores start u) k sought start X (type_bytes z.program.sizes ty) v → place_width (ground_in z cp).layout sought ≡ type_bytes z.program.sizes ty
      → base (ground_in z cp) k + type_bytes z.program.sizes ty ≤ (core_in z).program.frame_bytes (number z cp) → base (ground_in z cp) k ≤ stored (ground_in z cp) (base (ground_in z cp) k) (tree.Step op sought operation size ty line)
      → stored (ground_in z cp) (base (ground_in z cp) k) (tree.Step op sought operation size ty line) ≤ beyond (stored (ground_in z cp) (base (ground_in z cp) k) (tree.Step op sought operation size ty line)) (width (ground_in z cp).layout operation)
      → beyond (stored (ground_in z cp) (base (ground_in z cp) k) (tree.Step op sought operation size ty line)) (width (ground_in z cp).layout operation) + type_bytes z.program.sizes ty ≤ (core_in z).program.frame_bytes (number z cp)
      → byte_count u ≤ type_bytes z.program.sizes ty → (keeps_old op ≡ false → u ≡ v) → is_due (arrived z.outside w) ≡ false
      → Mirrors z (state cp (Write (stepped done start) v done) (In (tree.Step op sought operation size ty line) (Stores start u) ∷ k) l w) c
      → Follow z (either (nat_lt done (byte_count v)) 6 24) (one_if (nat_lt done (byte_count v))) c (write (source_in z) (stepped done start) v done (In (tree.Step op sought operation size ty line) (Stores start u) ∷ k) cp l (arrived z.outside w))
  step_write op sought operation size ty line start X v u done k w c p wide ahead high higher behind_room shorter same_value_is due h =
      let g = ground_in z cp in
      let b = base g k in
      let e = tree.Step op sought operation size ty line in
      let f = In e (Stores start u) ∷ k in
      let q = p.place in
      let all = p.all in
      let few = p.few in
      let room = p.room in
      let r = code_after g f in
      let new = stored g b e in
      let old = beyond new (width g.layout operation) in
      let keeps = keeps_old op in
      let count = place_width g.layout sought in
      let is : at_byte z start ≡ Some X = subst (λ y. IsAt z g.copy b y start c.memory) q.spot h.holds.0.0 in
      fixed_written z laws cp f l p.around p.reach p.low X count new r
      (λ a i. ap (λ y. writing z g.layout.root y a (Frame g.copy b) (Frame g.copy new) count i r) q.spot)
      refl (omega arith) p.own_room start v done 24 w c is (own_spot z cp g.layout g.copy sought X start q.spot p.around.reached q.there q.found) p.open_is p.fit (λ a d. wide ∙ q.one a d) (p.all ∙ sym wide) due
      (λ le.
      subst (λ y. Follow z 24 0 c (Went (state cp (Value y) k l (arrived z.outside w)) None)) (sym (step_end op start X u v sought operation size ty line is))
      (end_moved z laws e (Stores start u) (stepped done start) v u done (kept_at keeps old new) count k cp l w c p.below (omega arith) (kept_bound keeps old new count ((core_in z).program.frame_bytes (number z cp)) (omega arith) (omega arith)) (kept_high keeps old new b (omega arith) high) (omega arith) (omega arith) due
      (λ want. kept_has keeps g.copy old new u c.memory (λ i. h.holds.0.1 (both (wanted k) keeps want i)) (λ i. subst (λ y. HasDatum z g.copy new y c.memory) (sym (same_value_is i)) (subst (λ y. HasDatum z g.copy new y c.memory) (plain_spot z start X done v is) h.value)))
      (ap (λ y. writing z g.layout.root y (stepped done start) (Frame g.copy b) (Frame g.copy new) count done r) q.spot ∙ none_left X (Frame g.copy new) done count r le
      ∙ ap (λ y. todo (copies_if (wanted k) (Frame g.copy b) y count) (code_after g k)) (given_is keeps g.copy old new))
      h))
      h
