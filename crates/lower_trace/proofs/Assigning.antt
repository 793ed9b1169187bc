-- Values are written to variables and static objects, as the source writes them, and the node that waits goes on.
use Rattle.std.proofs.Common.{◌≡◌, ℕ, ◌+◌, ◌-◌, ◌<◌, ◌≤◌, Bool, true, false, not, nat_lt, if◌then◌else◌, List, ◌∷◌, length, Option, Some, None, refl, sym, ap, ◌∙◌, subst, arith}
use Rattle.c_typed.specs.Trees as tree
use Rattle.c_typed.specs.Trees.{Expression, Place}
use Rattle.c_typed.specs.declared.types.Ty.{Ty}
use Rattle.core_code.specs.Bytes.{Held, Memory}
use Rattle.core_code.specs.Machine.{Machine, Task, Program, is_valid, may_hold, after_write, static_bytes}
use Rattle.core_code.specs.declared.code.Byte.{Byte}
use Rattle.core_code.specs.declared.code.Byte.TheVariants.{Static, Frame}
use Rattle.core_puts.specs.Bytes.{beyond, behind}
use Rattle.core_puts.specs.Bytes.{behind as lower_behind}
use Rattle.lower_expr.specs.Rows.{kept_row}
use Rattle.lower_expr.specs.Layout.{width}
use Rattle.lower_expr.specs.Lowering.{behind_pointer}
use Rattle.lower_expr.specs.Spots.{spot_of, pointer_bytes}
use Rattle.lower_expr.specs.declared.places.Spot.TheVariants.{Fixed}
use Rattle.lower_stmt.specs.Ground.{Ground, local_byte, first}
use Rattle.lower_stmt.specs.Ground as ground
use Rattle.pic_world.specs.World.{World, WriteOf, arrived, is_due, noted, world_as}
use Rattle.pic_world.specs.declared.Cell.TheVariants as cells
use Rattle.pic_world.specs.declared.Root.{Root}
use Rattle.pic_world.proofs.WorldLaws.{arrived_as}
use Rattle.src_rules.specs.Accesses.{after_putting, stored_in, stored_for}
use Rattle.src_rules.specs.State.{state}
use Rattle.src_values.specs.Accesses.{put_byte, put_unless, write_fault, event_at, noting}
use Rattle.src_values.specs.Control.{Write, Holds as Value, Past, Stores, Fills, Pending, In, Doing, active}
use Rattle.src_values.specs.Data as datum
use Rattle.src_values.specs.Data.{Datum}
use Rattle.src_values.specs.Memory as source
use Rattle.src_values.specs.Objects.{object_bytes, is_watched, variables_of, function_at, variable_offset}
use Rattle.src_values.specs.Values.{byte_count, byte_of, kept_in}
use Rattle.src_values.specs.declared.objects.Byte as value
use Rattle.src_values.specs.declared.objects.CopyOf.{CopyOf}
use Rattle.src_values.specs.declared.objects.Object as object
use Rattle.src_values.specs.declared.objects.Object.TheVariants as objects
use Rattle.src_values.specs.declared.objects.Pointer.{Pointer}
use Rattle.src_values.specs.declared.objects.Pointer.TheVariants.{Null, Into}
use Rattle.src_values.specs.declared.objects.Spot as spot
use Rattle.src_values.specs.declared.objects.Spot.TheVariants as spots
use Rattle.src_values.specs.declared.objects.Undef.{Undef}
use Rattle.lower_trace.proofs.Beginnings.{Follow, rests}
use Rattle.lower_trace.proofs.CodeLeft.{Scene, held, number, ground_in, core_in, source_in, todo, wanted, base, stored_at, copies_from, writing, writing_at, code_after}
use Rattle.lower_trace.proofs.Giving.{Around}
use Rattle.lower_trace.proofs.Kept.{SceneLaws, Reached}
use Rattle.lower_trace.proofs.Mirrors.{standing, Mirrors, HasDatum, HasIf, core_byte}
use Rattle.lower_trace.proofs.Operations.{Comes, own_frame, beyond_is}
use Rattle.lower_trace.proofs.Reading.{if_none, lt_of, lt_true, noted_if}
use Rattle.lower_trace.proofs.Storing.{store_goes}
use Rattle.lower_trace.proofs.Written.{nat_same}

not_false : (b : Bool) → not b ≡ false → b ≡ true
not_false true e = refl
not_false false e = absurd (cc)

-- the byte lies in the object, where a write is defined
pub writable : (z : Scene) (live : List CopyOf) (root : Root) (object : object.Object) (offset : ℕ) → write_fault z.program live root object offset ≡ None → offset < object_bytes z.program object
writable z live root object offset e = lt_of offset (object_bytes z.program object) (not_false _ (if_none (not (nat_lt offset (object_bytes z.program object))) _ _ e).0)

pub static_holds : (z : Scene) (q : Program) (n offset : ℕ) (v : Datum) (i : ℕ) (w : World Held) → i < byte_count v → q.is_watched n ≡ true → may_hold q (Static n offset) (held z (byte_of v i)) w ≡ true
static_holds z q n offset (datum.Number x) i w lt e = e
static_holds z q n offset (datum.Pointer Null) i w lt e = e
static_holds z q n offset (datum.Pointer (Into object f)) i w lt e = e
static_holds z q n offset datum.Missing i w lt e = absurd (omega arith)

module _ (z : Scene) (laws : SceneLaws z) (cp : CopyOf) (k : List Pending) (l : source.Memory) (around : Around z cp k) (reach : Reached z (ground_in z cp) k) (low : base (ground_in z cp) k ≤ 96) (X : Byte) (count from : ℕ) (r : List Task) (code_is : (a : spot.Spot) (i : ℕ) → writing_at z (ground_in z cp) k a i ≡ todo (copies_from X (Frame (ground_in z cp).copy from) i (count - i)) r) (from_is : stored_at (ground_in z cp) k ≡ from) (room : from + count ≤ (core_in z).program.frame_bytes (number z cp)) (own_room : (ground_in z cp).base ≤ (core_in z).program.frame_bytes (number z cp)) where
  variable_case : (fault : Option Undef) (i offset : ℕ) (at next : spot.Spot) (v : Datum) (done line : ℕ) (w : World value.Byte) (c : Machine) → ((y : Datum) (i : ℕ) → standing at i y ≡ y) → ((y : Datum) (i : ℕ) → standing next i y ≡ y) → done < count → done < byte_count v → i < length (variables_of (function_at z.program cp.function)) → behind X done ≡ core_byte z (objects.Variable cp i) offset → is_due (arrived z.outside w) ≡ false
      → write_fault z.program (active cp (Write at v done) k) cp.root (objects.Variable cp i) offset ≡ fault → Mirrors z (state cp (Write at v done) k l w) c
      → Follow z 6 1 c (after_putting (put_unless fault (objects.Variable cp i) offset (byte_of v done) None l (arrived z.outside w)) (Write next v (done + 1)) cp k line)
  unfolding is_valid after_write
  variable_case (Some kind) i offset at next v done line w c plain_at plain_next lt part is target due e h = tt
  variable_case None i offset at next v done line w c plain_at plain_next lt part is target due e h =
      let inside = writable z (active cp (Write at v done) k) cp.root (objects.Variable cp i) offset e in
      let below = laws.below cp i offset around.reached is inside in
      store_goes z laws cp k l around reach low (objects.Variable cp i) offset at next v done count from X r w (arrived z.outside w) c plain_at plain_next (around.reached, is) inside lt part code_is from_is target room
      (ap not (nat_same (number z cp)))
      (own_frame (core_in z).program (number z cp) (variable_offset z.program cp.function i + offset) 1 (omega arith))
      refl
      (arrived_as (held z) z.outside (arrived z.outside w))
      due h

  -- a byte goes to a variable of the own copy
  pub store_variable : (i offset : ℕ) (at next : spot.Spot) (v : Datum) (done line : ℕ) (w : World value.Byte) (c : Machine) → ((y : Datum) (i : ℕ) → standing at i y ≡ y) → ((y : Datum) (i : ℕ) → standing next i y ≡ y) → done < count → done < byte_count v → i < length (variables_of (function_at z.program cp.function)) → behind X done ≡ core_byte z (objects.Variable cp i) offset → is_due (arrived z.outside w) ≡ false
      → Mirrors z (state cp (Write at v done) k l w) c
      → Follow z 6 1 c (after_putting (put_byte (source_in z) (active cp (Write at v done) k) cp.root (spots.Memory (Into (objects.Variable cp i) offset)) (byte_of v done) l (arrived z.outside w)) (Write next v (done + 1)) cp k line)
  unfolding put_byte
  store_variable i offset at next v done line w c plain_at plain_next lt part is target due h =
      variable_case (write_fault z.program (active cp (Write at v done) k) cp.root (objects.Variable cp i) offset) i offset at next v done line w c plain_at plain_next lt part is target due refl h

  static_case : (fault : Option Undef) (i offset : ℕ) (at next : spot.Spot) (v : Datum) (done line : ℕ) (w : World value.Byte) (c : Machine) → ((y : Datum) (i : ℕ) → standing at i y ≡ y) → ((y : Datum) (i : ℕ) → standing next i y ≡ y) → done < count → done < byte_count v → i < length z.program.statics → is_watched z.program (objects.Fixed i) ≡ true → behind X done ≡ core_byte z (objects.Fixed i) offset → is_due (arrived z.outside w) ≡ false
      → write_fault z.program (active cp (Write at v done) k) cp.root (objects.Fixed i) offset ≡ fault → Mirrors z (state cp (Write at v done) k l w) c
      → Follow z 6 1 c (after_putting (put_unless fault (objects.Fixed i) offset (byte_of v done) (event_at z.program WriteOf (objects.Fixed i) offset (byte_of v done)) l (arrived z.outside w)) (Write next v (done + 1)) cp k line)
  unfolding is_valid after_write
  static_case (Some kind) i offset at next v done line w c plain_at plain_next lt part is seen target due e h = tt
  static_case None i offset at next v done line w c plain_at plain_next lt part is seen target due e h =
      let V = arrived z.outside w in
      let byte = byte_of v done in
      let inside = writable z (active cp (Write at v done) k) cp.root (objects.Fixed i) offset e in
      let size = laws.statics i is in
      let same : 0 + offset ≡ offset = omega arith in
      store_goes z laws cp k l around reach low (objects.Fixed i) offset at next v done count from X r w (noting (event_at z.program WriteOf (objects.Fixed i) offset byte) V) c plain_at plain_next is inside lt part code_is from_is target room
      refl
      (lt_true (0 + offset) (static_bytes (core_in z).program i) (omega (arith, inside, size)))
      (static_holds z (core_in z).program i (0 + offset) v done (world_as (held z) V) part (laws.watched i is ∙ seen))
      (ap (λ y. arrived z.outside (noted (WriteOf (cells.Static i y) (held z byte)) (world_as (held z) V))) same
      ∙ noted_if z true (WriteOf (cells.Static i offset) byte) V
      ∙ ap (λ b. world_as (held z) (arrived z.outside (noting (if b then Some (WriteOf (cells.Static i offset) byte) else None) V))) (sym seen))
      due h

  -- a byte goes to a static object, which is an event
  pub store_static : (i offset : ℕ) (at next : spot.Spot) (v : Datum) (done line : ℕ) (w : World value.Byte) (c : Machine) → ((y : Datum) (i : ℕ) → standing at i y ≡ y) → ((y : Datum) (i : ℕ) → standing next i y ≡ y) → done < count → done < byte_count v → i < length z.program.statics → is_watched z.program (objects.Fixed i) ≡ true → behind X done ≡ core_byte z (objects.Fixed i) offset → is_due (arrived z.outside w) ≡ false
      → Mirrors z (state cp (Write at v done) k l w) c
      → Follow z 6 1 c (after_putting (put_byte (source_in z) (active cp (Write at v done) k) cp.root (spots.Memory (Into (objects.Fixed i) offset)) (byte_of v done) l (arrived z.outside w)) (Write next v (done + 1)) cp k line)
  unfolding put_byte
  store_static i offset at next v done line w c plain_at plain_next lt part is seen target due h =
      static_case (write_fault z.program (active cp (Write at v done) k) cp.root (objects.Fixed i) offset) i offset at next v done line w c plain_at plain_next lt part is seen target due refl h

-- ---- all bytes are written
same_if : (z : Scene) (want : Bool) (n a b : ℕ) (v : Datum) (m : Memory) → a ≡ b → HasDatum z n a v m → HasIf want z n b v m
same_if z true n a b v m e h = λ i lt. ap (λ x. m (Frame n (x + i))) (sym e) ∙ h i lt
same_if z false n a b v m e h = tt

pub none_left : (X Y : Byte) (done count : ℕ) (r : List Task) → count ≤ done → todo (copies_from X Y done (count - done)) r ≡ r
none_left X Y done count r le = let e : count - done ≡ 0 = omega arith in ap (λ i. todo (copies_from X Y done i) r) e

module _ (z : Scene) where
  -- a value stands in its fixed place: the assignment has it
  pub assigned : (place : Place) (right : Expression) (ty : Ty) (line : ℕ) (at : spot.Spot) (v : Datum) (done : ℕ) (X : Byte) (now : spot.Spot) (k : List Pending) (cp : CopyOf) (l : source.Memory) (w : World value.Byte) (c : Machine) → standing now done v ≡ v → spot_of (ground_in z cp).layout (ground_in z cp).copy place ≡ Fixed X → base (ground_in z cp) k ≤ 65535 → width (ground_in z cp).layout ty ≤ done
      → Mirrors z (state cp (Write now v done) (In (tree.Assign place right ty line) (Stores at v) ∷ k) l w) c → Comes (core_in z) (Mirrors z (state cp (Value v) k l (arrived z.outside w))) 0 0 c
  unfolding active
  assigned place right ty line at v done X now k cp l w c plain fixed small le h =
      let g = ground_in z cp in
      let e = tree.Assign place right ty line in
      let b = base g k in
      let where_is : behind_pointer g.layout g.copy b place ≡ b = ap (λ s. beyond b (pointer_bytes s)) fixed ∙ beyond_is b 0 (omega arith) ∙ (omega arith) in
      rests z cp (Write now v done) (Value v) (In e (Stores at v) ∷ k) k l l w c h refl
      (ap (λ s. writing z g.layout.root s now (Frame g.copy b) (Frame g.copy (behind_pointer g.layout g.copy b place)) (width g.layout ty) done (todo (kept_row (wanted k) s (Frame g.copy b) (lower_behind (Frame g.copy b) (pointer_bytes s)) (width g.layout ty)) (code_after g k))) fixed
      ∙ none_left X (Frame g.copy (behind_pointer g.layout g.copy b place)) done (width g.layout ty) (code_after g k) le)
      refl h.agrees h.holds.1 (same_if z (wanted k) g.copy (behind_pointer g.layout g.copy b place) b v c.memory where_is (subst (λ y. HasDatum z g.copy (behind_pointer g.layout g.copy b place) y c.memory) plain h.value))

  pub assign_stored : (place : Place) (right : Expression) (ty : Ty) (line : ℕ) (x : Pointer) (v : Datum) (done : ℕ) (X : Byte) (now : spot.Spot) (k : List Pending) (cp : CopyOf) (l : source.Memory) (w : World value.Byte) (c : Machine) → standing now done v ≡ v → spot_of (ground_in z cp).layout (ground_in z cp).copy place ≡ Fixed X → base (ground_in z cp) k ≤ 65535 → width (ground_in z cp).layout ty ≤ done
      → Mirrors z (state cp (Write now v done) (In (tree.Assign place right ty line) (Stores (spots.Memory x) v) ∷ k) l w) c → Follow z 0 0 c (stored_in (tree.Assign place right ty line) (Stores (spots.Memory x) v) k cp l (arrived z.outside w))
  unfolding kept_in
  assign_stored place right ty line x v done X now k cp l w c plain fixed small le h = assigned place right ty line (spots.Memory x) v done X now k cp l w c plain fixed small le h

  pub scalar_stored : (local : ℕ) (e : Expression) (line : ℕ) (v : Datum) (done : ℕ) (now : spot.Spot) (k : List Pending) (cp : CopyOf) (l : source.Memory) (w : World value.Byte) (c : Machine) → ground.width (ground_in z cp) e ≤ done
      → Mirrors z (state cp (Write now v done) (Doing (tree.InitScalar local e line) Fills ∷ k) l w) c → Follow z 0 0 c (stored_for (source_in z) (tree.InitScalar local e line) Fills k cp l (arrived z.outside w))
  unfolding active
  scalar_stored local e line v done now k cp l w c le h =
      let g = ground_in z cp in
      rests z cp (Write now v done) Past (Doing (tree.InitScalar local e line) Fills ∷ k) k l l w c h refl
      (none_left (local_byte g local) (first g) done (ground.width g e) (code_after g k) le)
      refl h.agrees h.holds tt
