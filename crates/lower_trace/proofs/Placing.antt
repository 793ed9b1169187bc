-- Values are written where pointers lead, byte by byte, and what follows the last byte.
use Rattle.core_code.specs.Bytes as bytes
use Rattle.core_code.specs.Bytes.{with_byte}
use Rattle.core_code.specs.Machine.{Machine, StoreTo, Task, Do as Todo, after_write, may_hold, memory_with, storing}
use Rattle.core_code.specs.Tree as code
use Rattle.core_code.specs.Values.{pointer_in}
use Rattle.core_code.specs.declared.code.Byte.TheVariants.{Frame}
use Rattle.core_code.specs.declared.code.Byte.{Byte}
use Rattle.lower_expr.specs.declared.places.Spot.TheVariants.{Computed}
use Rattle.src_rules.specs.Runs.{one_if}
use Rattle.lower_trace.proofs.Costs.{either, either_within}
use Rattle.lower_trace.proofs.Assigning.{static_holds}
use Rattle.lower_trace.proofs.Beginnings.{Follow}
use Rattle.lower_trace.proofs.CodeLeft.{Scene, base, core_in, ground_in, held, number, source_in, stack_after, stored_at, writing, writing_at}
use Rattle.lower_trace.proofs.Constants.{again_below, due_below}
use Rattle.lower_trace.proofs.Converting.{not_less}
use Rattle.lower_trace.proofs.FixedFetches.{follow_within}
use Rattle.lower_trace.proofs.FixedWrites.{IsOpen}
use Rattle.lower_trace.proofs.Giving.{Around, mirrors, placed_of}
use Rattle.lower_trace.proofs.Kept.{Reached, SameTemps, SceneLaws, own_copy}
use Rattle.lower_trace.proofs.Loading.{ReachesAll}
use Rattle.lower_trace.proofs.Mirrors.{Agrees, HasDatum, Holds, Mirrors, core_byte}
use Rattle.lower_trace.proofs.NumberBytes.{pointer_back}
use Rattle.lower_trace.proofs.Operations.{Comes, comes_within, own_frame}
use Rattle.lower_trace.proofs.Placed.{Placed, ends}
use Rattle.lower_trace.proofs.Pointing.{store_byte_then, store_then}
use Rattle.lower_trace.proofs.Reading.{if_none, lt_of, not_false, noted_if}
use Rattle.lower_trace.proofs.Storing.{holds_temps, memory_object, own_temps, results_kept, store_agrees, temps_kept, value_temps}
use Rattle.lower_trace.specs.Lowering.{object_as, offset_as}
use Rattle.pic_world.proofs.WorldLaws.{arrived_as}
use Rattle.pic_world.specs.World.{World, WriteOf, arrived, is_due, noted, world_as}
use Rattle.pic_world.specs.declared.Cell.TheVariants as cells
use Rattle.pic_world.specs.declared.Root.{Root}
use Rattle.src_rules.proofs.Places.{SpotIsThere}
use Rattle.src_rules.specs.Accesses.{after_putting, stored, write, write_at}
use Rattle.src_rules.specs.Standing.{IsReached, IsThere, stepped}
use Rattle.src_rules.specs.State.{state}
use Rattle.src_values.specs.Accesses.{event_at, noting, put_byte, put_unless, write_fault}
use Rattle.src_values.specs.Control.{Pending, Write, active, callers, line_at}
use Rattle.src_values.specs.Data as datum
use Rattle.src_values.specs.Data.{Datum}
use Rattle.src_values.specs.Memory as source
use Rattle.src_values.specs.Objects.{breaks_isolation, is_alive, object_bytes}
use Rattle.src_values.specs.Values.{byte_count, byte_of, written_bytes}
use Rattle.src_values.specs.declared.objects.Byte as value
use Rattle.src_values.specs.declared.objects.CopyOf.{CopyOf}
use Rattle.src_values.specs.declared.objects.Object as object
use Rattle.src_values.specs.declared.objects.Object.TheVariants as objects
use Rattle.src_values.specs.declared.objects.Pointer.TheVariants.{Into, Null}
use Rattle.src_values.specs.declared.objects.Pointer.{Pointer}
use Rattle.src_values.specs.declared.objects.Spot as spot
use Rattle.src_values.specs.declared.objects.Spot.TheVariants as spots
use Rattle.src_values.specs.declared.objects.Undef.{Undef}
use Rattle.std.proofs.Common.{Bool, List, None, Option, Some, [], ap, arith, false, if◌then◌else◌, nat_lt, not, refl, subst, suc, sym, true, zero, ℕ, ◌+◌, ◌-◌, ◌<◌, ◌∙◌, ◌∷◌, ◌≡◌, ◌≤◌}

-- a write that is defined
pub record Writable (z : Scene) (live : List CopyOf) (root : Root) (o : object.Object) (f : ℕ) : Type 0 where
  pub inside : f < object_bytes z.program o
  pub alive : is_alive live o ≡ true
  pub free : breaks_isolation root o ≡ false

pub writable_so : (z : Scene) (live : List CopyOf) (root : Root) (o : object.Object) (f : ℕ) → write_fault z.program live root o f ≡ None → Writable z live root o f
writable_so z live root o f e =
    let a = if_none (not (nat_lt f (object_bytes z.program o))) _ _ e in
    let b = if_none (not (is_alive live o)) _ _ a.1 in
    record { inside = lt_of f (object_bytes z.program o) (not_false _ a.0); alive = not_false _ b.0; free = (if_none (breaks_isolation root o) _ _ b.1).0 }

one_stored : (x : bytes.Object) (offset : ℕ) (from : Byte) (j count : ℕ) (r : List Task) → j < count → storing x offset from (count - j) r ≡ StoreTo x offset from (suc (count - (j + 1))) ∷ r
one_stored x offset from j count r lt = let e : count - j ≡ suc (count - (j + 1)) = omega arith in ap (λ i. storing x offset from i r) e

pub none_stored : (x : bytes.Object) (offset : ℕ) (from : Byte) (j count : ℕ) (r : List Task) → count ≤ j → storing x offset from (count - j) r ≡ r
none_stored x offset from j count r le = let e : count - j ≡ 0 = omega arith in ap (λ i. storing x offset from i r) e

module _ (z : Scene) (laws : SceneLaws z) (cp : CopyOf) (k : List Pending) (l : source.Memory) (around : Around z cp k) (reached : Reached z (ground_in z cp) k) (low : base (ground_in z cp) k ≤ 96) (root : Root) (count from at_pointer : ℕ) (r : List Task) (code_is : (a : spot.Spot) (i : ℕ) → writing_at z (ground_in z cp) k a i ≡ writing z root Computed a (Frame (ground_in z cp).copy at_pointer) (Frame (ground_in z cp).copy from) count i r) (from_is : stored_at (ground_in z cp) k ≡ from) (room : from + count ≤ (core_in z).program.frame_bytes (number z cp)) (apart : at_pointer + 2 ≤ from) (reach : ReachesAll z cp k) where
  code_first : (a : spot.Spot) → writing_at z (ground_in z cp) k a 0 ≡ Todo [] (code.Store (Frame (number z cp) at_pointer) (Frame (number z cp) from) count) ∷ r
  code_first a = code_is a 0 ∙ ap (λ i. Todo [] (code.Store (Frame i at_pointer) (Frame i from) count) ∷ r) (own_copy z cp)

  pub code_later : (o : object.Object) (f j : ℕ) → writing_at z (ground_in z cp) k (spots.Memory (Into o f)) (suc j) ≡ storing (object_as z.copies o) (offset_as z.program o + f) (Frame (number z cp) (from + suc j)) (count - suc j) r
  code_later o f j = code_is (spots.Memory (Into o f)) (suc j) ∙ ap (λ i. storing (object_as z.copies o) (offset_as z.program o + f) (Frame i (from + suc j)) (count - suc j) r) (own_copy z cp)

  -- the next byte goes to its place
  stored_then : (o : object.Object) (f : ℕ) (v : Datum) (done : ℕ) (w w' : World value.Byte) (c : Machine) → IsThere z.program o → Writable z (cp ∷ callers k) cp.root o f → done < count → done < byte_count v → is_due (arrived z.outside w) ≡ false
      → may_hold (core_in z).program (core_byte z o f) (held z (byte_of v done)) (world_as (held z) (arrived z.outside w)) ≡ true
      → arrived z.outside (after_write (core_byte z o f) (held z (byte_of v done)) (world_as (held z) (arrived z.outside w))) ≡ world_as (held z) (arrived z.outside w')
      → Agrees z (cp ∷ callers k) l c.memory → Holds z (ground_in z cp) k c.memory → HasDatum z (ground_in z cp).copy (stored_at (ground_in z cp) k) v c.memory
      → Placed (core_in z) (number z cp) None (storing (object_as z.copies o) (offset_as z.program o + f) (Frame (number z cp) (from + done)) (count - done) r) (stack_after z (ground_in z cp) k) c.memory (world_as (held z) (arrived z.outside w)) c
      → Comes (core_in z) (Mirrors z (state cp (Write (spots.Memory (Into o (f + 1))) v (done + 1)) k (source.with_byte l o f (byte_of v done)) w')) 6 1 c
  unfolding active
  stored_then o f v done w w' c there ok lt part due may world agrees holds has p =
      let n = number z cp in
      let g = ground_in z cp in
      let W = world_as (held z) (arrived z.outside w) in
      let x = core_byte z o f in
      let byte = byte_of v done in
      let h = held z byte in
      let m = c.memory in
      let m' = with_byte m x h in
      let next = spots.Memory (Into o (f + 1)) in
      let U = Mirrors z (state cp (Write next v (done + 1)) k (source.with_byte l o f byte) w') in
      let holds_byte : m (Frame n (from + done)) ≡ h = ap (λ i. m (Frame i (from + done))) (sym (own_copy z cp)) ∙ ap (λ i. m (Frame g.copy (i + done))) (sym from_is) ∙ has done part in
      let kept : (d : CopyOf) → IsReached z.program d → SameTemps z d m m' = temps_kept z laws o f there ok.inside m h in
      let off_is : offset_as z.program o + f + 1 ≡ offset_as z.program o + (f + 1) = omega arith in
      let from_next : from + done + 1 ≡ from + suc done = omega arith in
      let left_is : count - (done + 1) ≡ count - suc done = omega arith in
      let one_is : suc done ≡ done + 1 = omega arith in
      let later : storing (object_as z.copies o) (offset_as z.program o + f + 1) (Frame n (from + done + 1)) (count - (done + 1)) r ≡ writing_at z g k next (done + 1) =
      ap (λ y. storing (object_as z.copies o) y (Frame n (from + done + 1)) (count - (done + 1)) r) off_is
      ∙ ap (λ y. storing (object_as z.copies o) (offset_as z.program o + (f + 1)) (Frame n y) (count - (done + 1)) r) from_next
      ∙ ap (λ y. storing (object_as z.copies o) (offset_as z.program o + (f + 1)) (Frame n (from + suc done)) y r) left_is
      ∙ sym (code_later o (f + 1) done) ∙ ap (writing_at z g k next) one_is in
      store_byte_then (core_in z) U n None (stack_after z g k) W (due_below z (arrived z.outside w) due) (again_below z w) (object_as z.copies o) (offset_as z.program o + f) (Frame n (from + done)) (count - (done + 1)) r m c (own_frame (core_in z).program n (from + done) 1 (omega arith))
      (λ s e. reach o f s ok.alive ok.free there ok.inside e)
      (ap (λ y. may_hold (core_in z).program x y W) holds_byte ∙ may)
      (subst (λ y. Placed (core_in z) n None y (stack_after z g k) m W c) (one_stored (object_as z.copies o) (offset_as z.program o + f) (Frame n (from + done)) done count r lt) p)
      (λ d pd.
      mirrors z cp (Write next v (done + 1)) k (source.with_byte l o f byte) w' m' d
      (subst (λ y. Placed (core_in z) n None y (stack_after z g k) m' (world_as (held z) (arrived z.outside w')) d) later
      (subst (λ y. Placed (core_in z) n None (storing (object_as z.copies o) (offset_as z.program o + f + 1) (Frame n (from + done + 1)) (count - (done + 1)) r) (stack_after z g k) m' y d) (ap (λ y. arrived z.outside (after_write x y W)) holds_byte ∙ world)
      (subst (λ y. Placed (core_in z) n None (storing (object_as z.copies o) (offset_as z.program o + f + 1) (Frame n (from + done + 1)) (count - (done + 1)) r) (stack_after z g k) y (arrived z.outside (after_write x (m (Frame n (from + done))) W)) d) (ap (λ y. memory_with x y m) holds_byte ∙ memory_object z o f h m) pd)))
      (store_agrees z laws o f there ok.inside m h (cp ∷ callers k) l byte refl agrees)
      (holds_temps z cp k m m' kept (results_kept z o f h m) around.reached around.piled reached holds)
      (value_temps z g (Write next v (done + 1)) k m m' around.piled low (own_temps z cp m m' (kept cp around.reached)) (results_kept z o f h m g.layout.root) has))

  -- the first one behind the pointer, or a later one
  byte_then : (o : object.Object) (f : ℕ) (v : Datum) (done : ℕ) (w w' : World value.Byte) (c : Machine) → IsThere z.program o → Writable z (cp ∷ callers k) cp.root o f → done < count → done < byte_count v → (done ≡ 0 → HasDatum z (ground_in z cp).copy at_pointer (datum.Pointer (Into o f)) c.memory) → is_due (arrived z.outside w) ≡ false
      → may_hold (core_in z).program (core_byte z o f) (held z (byte_of v done)) (world_as (held z) (arrived z.outside w)) ≡ true
      → arrived z.outside (after_write (core_byte z o f) (held z (byte_of v done)) (world_as (held z) (arrived z.outside w))) ≡ world_as (held z) (arrived z.outside w')
      → Mirrors z (state cp (Write (spots.Memory (Into o f)) v done) k l w) c
      → Comes (core_in z) (Mirrors z (state cp (Write (spots.Memory (Into o (f + 1))) v (done + 1)) k (source.with_byte l o f (byte_of v done)) w')) 20 1 c
  unfolding active
  byte_then o f v zero w w' c there ok lt part has due may world h =
      let n = number z cp in
      let g = ground_in z cp in
      let W = world_as (held z) (arrived z.outside w) in
      let X = object_as z.copies o in
      let off = offset_as z.program o + f in
      let U = Mirrors z (state cp (Write (spots.Memory (Into o (f + 1))) v (0 + 1)) k (source.with_byte l o f (byte_of v 0)) w') in
      let zero_from : from ≡ from + 0 = omega arith in
      let zero_count : count ≡ count - 0 = omega arith in
      comes_within (core_in z) U (14 + 6) 1 20 1 c
      (store_then (core_in z) U n None (stack_after z g k) W (due_below z (arrived z.outside w) due) (again_below z w) (Frame n at_pointer) (Frame n from) count (record { object = X; offset = off }) r c.memory c 6 1
      (own_frame (core_in z).program n at_pointer 2 (omega arith))
      (subst (λ y. pointer_in c.memory (Frame y at_pointer) ≡ Some (record { object = X; offset = off })) (own_copy z cp) (pointer_back z g.copy at_pointer o f c.memory (has refl)))
      (subst (λ y. Placed (core_in z) n None y (stack_after z g k) c.memory W c) (code_first (spots.Memory (Into o f))) (placed_of z (state cp (Write (spots.Memory (Into o f)) v 0) k l w) c h))
      (λ x px.
      stored_then o f v 0 w w' x there ok lt part due may world (subst (Agrees z (cp ∷ callers k) l) (sym px.memory) h.agrees) (subst (Holds z g k) (sym px.memory) h.holds) (subst (HasDatum z g.copy (stored_at g k) v) (sym px.memory) h.value)
      (subst (λ y. Placed (core_in z) n None (storing X off (Frame n (from + 0)) (count - 0) r) (stack_after z g k) y W x) (sym px.memory)
      (subst (λ y. Placed (core_in z) n None (storing X off (Frame n (from + 0)) y r) (stack_after z g k) c.memory W x) zero_count
      (subst (λ y. Placed (core_in z) n None (storing X off (Frame n y) count r) (stack_after z g k) c.memory W x) zero_from px)))))
      (omega arith) (omega arith)
  byte_then o f v (suc j) w w' c there ok lt part has due may world h =
      let n = number z cp in
      let g = ground_in z cp in
      let W = world_as (held z) (arrived z.outside w) in
      comes_within (core_in z) (Mirrors z (state cp (Write (spots.Memory (Into o (f + 1))) v (suc j + 1)) k (source.with_byte l o f (byte_of v (suc j))) w')) 6 1 20 1 c
      (stored_then o f v (suc j) w w' c there ok lt part due may world h.agrees h.holds h.value
      (subst (λ y. Placed (core_in z) n None y (stack_after z g k) c.memory W c) (code_later o f j) (placed_of z (state cp (Write (spots.Memory (Into o f)) v (suc j)) k l w) c h)))
      (omega arith) (omega arith)

  byte_case : (fault : Option Undef) (o : object.Object) (f : ℕ) (v : Datum) (done line : ℕ) (w : World value.Byte) (c : Machine) → IsThere z.program o → IsOpen z (spots.Memory (Into o f)) → done < count → done < byte_count v → (done ≡ 0 → HasDatum z (ground_in z cp).copy at_pointer (datum.Pointer (Into o f)) c.memory) → is_due (arrived z.outside w) ≡ false
      → write_fault z.program (active cp (Write (spots.Memory (Into o f)) v done) k) cp.root o f ≡ fault
      → Mirrors z (state cp (Write (spots.Memory (Into o f)) v done) k l w) c
      → Follow z 20 1 c (after_putting (put_unless fault o f (byte_of v done) (event_at z.program WriteOf o f (byte_of v done)) l (arrived z.outside w)) (Write (spots.Memory (Into o (f + 1))) v (done + 1)) cp k line)
  unfolding active after_write
  byte_case (Some kind) o f v done line w c there open_is lt part has due e h = tt
  byte_case None (objects.Fixed i) f v done line w c there open_is lt part has due e h =
      let V = arrived z.outside w in
      let byte = byte_of v done in
      let zero_off : 0 + f ≡ f = omega arith in
      byte_then (objects.Fixed i) f v done w (noting (event_at z.program WriteOf (objects.Fixed i) f byte) V) c there (writable_so z (cp ∷ callers k) cp.root (objects.Fixed i) f e) lt part has due
      (static_holds z (core_in z).program i (0 + f) v done (world_as (held z) V) part (laws.watched i there ∙ open_is))
      (ap (λ y. arrived z.outside (noted (WriteOf (cells.Static i y) (held z byte)) (world_as (held z) V))) zero_off
      ∙ noted_if z true (WriteOf (cells.Static i f) byte) V
      ∙ ap (λ b. world_as (held z) (arrived z.outside (noting (if b then Some (WriteOf (cells.Static i f) byte) else None) V))) (sym open_is))
      h
  byte_case None (objects.Variable d i) f v done line w c there open_is lt part has due e h =
      byte_then (objects.Variable d i) f v done w (arrived z.outside w) c there (writable_so z (cp ∷ callers k) cp.root (objects.Variable d i) f e) lt part has due refl (arrived_as (held z) z.outside (arrived z.outside w)) h

  memory_write : (y x : Pointer) (v : Datum) (done : ℕ) (w : World value.Byte) (c : Machine) → y ≡ x → SpotIsThere z.program (spots.Memory x) → IsOpen z (spots.Memory x) → done < count → done < byte_count v → HasDatum z (ground_in z cp).copy at_pointer (datum.Pointer x) c.memory → is_due (arrived z.outside w) ≡ false
      → Mirrors z (state cp (Write (stepped done (spots.Memory y)) v done) k l w) c → Follow z 20 1 c (write_at (source_in z) (stepped done (spots.Memory y)) v done k cp l (arrived z.outside w))
  unfolding put_byte
  memory_write Null x v done w c is there open_is lt part has due h = tt
  memory_write (Into o f) x v done w c is there open_is lt part has due h =
      let here = subst (λ t. SpotIsThere z.program (spots.Memory t)) (sym is) there in
      let free = subst (λ t. IsOpen z (spots.Memory t)) (sym is) open_is in
      byte_case (write_fault z.program (active cp (Write (spots.Memory (Into o (f + done))) v done) k) cp.root o (f + done)) o (f + done) v done (line_at k) w c here (open_on o f (f + done) free) lt part
      (λ none.
      let q : f ≡ f + done = omega arith in
      subst (λ t. HasDatum z (ground_in z cp).copy at_pointer (datum.Pointer (Into o t)) c.memory) q (subst (λ t. HasDatum z (ground_in z cp).copy at_pointer (datum.Pointer t) c.memory) (sym is) has))
      due refl h
    where
      open_on : (o : object.Object) (f t : ℕ) → IsOpen z (spots.Memory (Into o f)) → IsOpen z (spots.Memory (Into o t))
      open_on (objects.Fixed i) f t h = h
      open_on (objects.Variable d i) f t h = h

  bytes_of_memory : (x : Pointer) (v : Datum) (done : ℕ) → written_bytes (stepped done (spots.Memory x)) v ≡ byte_count v
  bytes_of_memory Null v done = refl
  bytes_of_memory (Into o f) v done = refl

  write_case : (more : Bool) (x : Pointer) (v : Datum) (done y : ℕ) (w : World value.Byte) (c : Machine) → nat_lt done (byte_count v) ≡ more → SpotIsThere z.program (spots.Memory x) → IsOpen z (spots.Memory x) → byte_count v ≡ count → HasDatum z (ground_in z cp).copy at_pointer (datum.Pointer x) c.memory → is_due (arrived z.outside w) ≡ false
      → (count ≤ done → Follow z y 0 c (stored (source_in z) k cp l (arrived z.outside w)))
      → Mirrors z (state cp (Write (stepped done (spots.Memory x)) v done) k l w) c → Follow z (either more 20 y) (one_if more) c (if nat_lt done (byte_count v) then write_at (source_in z) (stepped done (spots.Memory x)) v done k cp l (arrived z.outside w) else stored (source_in z) k cp l (arrived z.outside w))
  write_case true x v done y w c lt there open_is all has due ends h =
      let less = lt_of done (byte_count v) lt in
      rw lt (memory_write x x v done w c refl there open_is (omega arith) less has due h)
  write_case false x v done y w c lt there open_is all has due ends h =
      let le = not_less done (byte_count v) lt in
      rw lt (ends (omega arith))

  -- the next byte, or what follows
  pub pointed_written : (x : Pointer) (v : Datum) (done y : ℕ) (w : World value.Byte) (c : Machine) → SpotIsThere z.program (spots.Memory x) → IsOpen z (spots.Memory x) → byte_count v ≡ count → HasDatum z (ground_in z cp).copy at_pointer (datum.Pointer x) c.memory → is_due (arrived z.outside w) ≡ false
      → (count ≤ done → Follow z y 0 c (stored (source_in z) k cp l (arrived z.outside w)))
      → Mirrors z (state cp (Write (stepped done (spots.Memory x)) v done) k l w) c → Follow z (either (nat_lt done (byte_count v)) 20 y) (one_if (nat_lt done (byte_count v))) c (write (source_in z) (stepped done (spots.Memory x)) v done k cp l (arrived z.outside w))
  pointed_written x v done y w c there open_is all has due ends h =
      subst (λ n. Follow z (either (nat_lt done (byte_count v)) 20 y) (one_if (nat_lt done (byte_count v))) c (if nat_lt done n then write_at (source_in z) (stepped done (spots.Memory x)) v done k cp l (arrived z.outside w) else stored (source_in z) k cp l (arrived z.outside w))) (sym (bytes_of_memory x v done))
      (write_case (nat_lt done (byte_count v)) x v done y w c refl there open_is all has due ends h)

  -- the same within one bound
  pub pointed_write : (x : Pointer) (v : Datum) (done y : ℕ) (w : World value.Byte) (c : Machine) → SpotIsThere z.program (spots.Memory x) → IsOpen z (spots.Memory x) → byte_count v ≡ count → HasDatum z (ground_in z cp).copy at_pointer (datum.Pointer x) c.memory → 20 ≤ y → is_due (arrived z.outside w) ≡ false
      → (count ≤ done → Follow z y 0 c (stored (source_in z) k cp l (arrived z.outside w)))
      → Mirrors z (state cp (Write (stepped done (spots.Memory x)) v done) k l w) c → Follow z y 0 c (write (source_in z) (stepped done (spots.Memory x)) v done k cp l (arrived z.outside w))
  pointed_write x v done y w c there open_is all has few due ends h =
      follow_within z (either (nat_lt done (byte_count v)) 20 y) (one_if (nat_lt done (byte_count v))) y 0 c _ (pointed_written x v done y w c there open_is all has due ends h) (either_within (nat_lt done (byte_count v)) 20 y y few (omega arith)) (omega arith)
