-- The laws of the bytes of structures that are copied, put together: each one is read, and then written.
use Rattle.c_typed.specs.Trees as tree
use Rattle.c_typed.specs.Trees.{Item, Place}
use Rattle.core_code.specs.Machine.{Machine}
use Rattle.core_code.specs.declared.code.Byte as core
use Rattle.core_puts.specs.Bytes.{behind}
use Rattle.lower_expr.specs.Spots.{spot_of}
use Rattle.lower_expr.specs.declared.places.Spot as place
use Rattle.lower_expr.specs.declared.places.Spot.TheVariants.{Bit, Computed, Fixed}
use Rattle.lower_trace.proofs.Advancing.{IsThrough}
use Rattle.lower_stmt.specs.Ground.{local_byte}
use Rattle.lower_trace.proofs.CodeLeft.{Scene, base, core_in, ground_in, source_in}
use Rattle.lower_trace.proofs.CopyGives.{through_copy_write}
use Rattle.lower_trace.proofs.CopyEnds.{struct_object}
use Rattle.lower_trace.proofs.CopyNodes.{IsObject}
use Rattle.lower_trace.proofs.CopySites.{CopySite, assign_site, item_site}
use Rattle.lower_trace.proofs.CopyTakes.{through_copy_read}
use Rattle.lower_trace.proofs.FixedCopies.{fixed_copy_read, fixed_copy_write, paused_copy_write}
use Rattle.lower_trace.proofs.FixedWrites.{IsOpen}
use Rattle.lower_trace.proofs.Known.{Known, around, reached_below, reaches, resumables}
use Rattle.lower_trace.proofs.Leads.{Law, Led, Meets, comes_map, led_by, led_nowhere}
use Rattle.lower_trace.proofs.LedCopies.{copy_rule}
use Rattle.lower_trace.proofs.LedFetches.{memory_no_bit}
use Rattle.lower_trace.proofs.LedLists.{own_low}
use Rattle.lower_trace.proofs.Mirrors.{Mirrors}
use Rattle.lower_trace.proofs.OpenPlaces.{stepped_open, struct_open}
use Rattle.lower_trace.proofs.Pausing.{CopyPauses, Leads, Paused, Pauses, Stands}
use Rattle.lower_trace.proofs.Prices.{least_at, most_at}
use Rattle.lower_trace.proofs.Scenes.{scene_laws}
use Rattle.lower_trace.proofs.Waiting.{AreFixed, BothFixed, CopyWaits}
use Rattle.lower_trace.specs.Lowering.{IsLowerable}
use Rattle.pic_world.specs.World.{World, arrived, is_due}
use Rattle.src_rules.specs.Accesses.{after_taking, is_any}
use Rattle.src_rules.specs.Standing.{CopyStands, IsSpotOf, stepped}
use Rattle.src_rules.specs.State.{Idle, Lost, Outcome, State, Undefined, Went, state}
use Rattle.src_rules.specs.Step.{act}
use Rattle.src_values.specs.Accesses.{Breaks, Takes, Taking, put_byte, take_byte}
use Rattle.src_values.specs.Control.{Copies, CopyRead, CopyWrite, Doing, Focus, In, Items, Pending, active, line_at}
use Rattle.src_values.specs.Memory as source
use Rattle.src_values.specs.declared.objects.Byte.{Byte}
use Rattle.src_values.specs.declared.objects.CopyOf.{CopyOf}
use Rattle.src_values.specs.declared.objects.Object.TheVariants as objects
use Rattle.src_values.specs.declared.objects.Pointer.TheVariants.{Into, Null}
use Rattle.src_values.specs.declared.objects.Spot.TheVariants as spots
use Rattle.src_values.specs.declared.objects.Spot.{Spot}
use Rattle.std.proofs.Common.{List, ap, arith, false, inl, inr, refl, subst, suc, sym, ℕ, ⊎_elim, ◌<◌, ◌∙◌, ◌∷◌, ◌≡◌, ◌≤◌}
use Rattle.std.specs.List.{All}

-- ---- byte code waits where a byte was read between fixed places
abbrev FixedIn : Scene → Outcome → Type 0
FixedIn z (Went u event) = AreFixed z u.copy u.stack
FixedIn z (Undefined kind line) = Unit {0}
FixedIn z Idle = Unit {0}
FixedIn z Lost = Unit {0}

led_copies : (z : Scene) (x : Focus) (k : List Pending) (q l : ℕ) (c : Machine) (o : Outcome) → q ≤ most_at z.program x k → least_at z.program x k ≤ l → FixedIn z o → Leads z q l c o → Led z x k c o
led_copies z x k q l c (Went u event) low high fixed f =
    record {
      most = q;
      least = l;
      on = comes_map (core_in z) (Stands z u) (Meets z u) q l c (λ d h. ⊎_elim (λ m. inl m) (λ p. inr (inr (CopyWaits fixed p))) h) f;
      low = low;
      high = high;
    }
led_copies z x k q l c (Undefined kind line) low high fixed f = record { most = q; least = l; on = tt; low = low; high = high }
led_copies z x k q l c Idle low high fixed f = record { most = q; least = l; on = tt; low = low; high = high }
led_copies z x k q l c Lost low high fixed f = record { most = q; least = l; on = tt; low = low; high = high }

taken_fixed : (z : Scene) (t : Taking) (next : Byte → Focus) (cp : CopyOf) (k : List Pending) (l : source.Memory) (line : ℕ) → AreFixed z cp k → FixedIn z (after_taking t next cp k l line)
taken_fixed z (Takes byte w event) next cp k l line h = h
taken_fixed z (Breaks kind) next cp k l line h = tt

-- What is written through a pointer isn't part of a const static object.
abbrev pub CopiesAreOpen : Scene → Type 0
CopiesAreOpen z =
    (place other : Place) (size line : ℕ) (to from : Spot) (byte : Byte) (left : ℕ) (k : List Pending) (cp : CopyOf) (l : source.Memory) (w : World Byte) → spot_of (ground_in z cp).layout (ground_in z cp).copy place ≡ Computed
    → Known z (state cp (CopyWrite to from byte left) (In (tree.StructAssign place other size line) Copies ∷ k) l w) → IsOpen z to

-- a law of the byte that is read, or written, next between places of such forms
abbrev ReadsBy : Scene → place.Spot → place.Spot → Spot → Spot → ℕ → List Pending → Type 0
ReadsBy z p q to from left k =
    (b size : ℕ) (cp : CopyOf) (l : source.Memory) (w : World Byte) (c : Machine) → CopySite z cp k to from (suc left) p q b size → Known z (state cp (CopyRead to from (suc left)) k l w) → is_due (arrived z.outside w) ≡ false
    → Mirrors z (state cp (CopyRead to from (suc left)) k l w) c → Led z (CopyRead to from (suc left)) k c (act (source_in z) (CopyRead to from (suc left)) k cp l (arrived z.outside w))

abbrev WritesBy : Scene → place.Spot → place.Spot → Spot → Spot → Byte → ℕ → List Pending → Type 0
WritesBy z p q to from byte left k =
    (b size : ℕ) (cp : CopyOf) (l : source.Memory) (w : World Byte) (c : Machine) → CopySite z cp k to from (suc left) p q b size → IsOpen z to → Known z (state cp (CopyWrite to from byte left) k l w) → is_due (arrived z.outside w) ≡ false
    → Mirrors z (state cp (CopyWrite to from byte left) k l w) c → Led z (CopyWrite to from byte left) k c (act (source_in z) (CopyWrite to from byte left) k cp l (arrived z.outside w))

-- An item of a list of first values goes to a local.
listed_open : (z : Scene) (local : ℕ) (whole : List Item) (line offset : ℕ) (other : Place) (size : ℕ) (rest : List Item) (to from : Spot) (left : ℕ) (k : List Pending) (cp : CopyOf) → CopyStands z.program cp (Doing (tree.InitList local whole line) (Items (tree.Struct offset other size) rest) ∷ k) to from left → IsOpen z to
listed_open z local whole line offset other size rest to from left k cp f = subst (IsOpen z) (sym (f.written ∙ ap (stepped f.done) f.node.0)) tt

module _ (z : Scene) (given : IsLowerable z.program z.copies) (input : All (λ byte. byte < 256) z.outside.input) where
  -- ---- a byte is read
  reads_fixed : (X Y : core.Byte) (to from : Spot) (left : ℕ) (k : List Pending) → ReadsBy z (Fixed X) (Fixed Y) to from left k
  unfolding act take_byte
  reads_fixed X Y to (spots.Memory Null) left k b size cp l w c site known due h = led_nowhere z _ _ c _ (λ q n. tt)
  reads_fixed X Y to (spots.Memory (Into o f)) left k b size cp l w c site known due h =
      let from = spots.Memory (Into o f) in
      let t = state cp (CopyRead to from (suc left)) k l w in
      led_copies z _ _ 6 0 c _ (omega arith) (omega arith)
      (taken_fixed z (take_byte (source_in z) (active cp (CopyRead to from (suc left)) k) cp.root is_any from l (arrived z.outside w)) (λ byte. CopyWrite to from byte left) cp k l (line_at k) (site.fixed tt))
      (fixed_copy_read z (scene_laws z given) cp k l (around z given input t known) (reached_below z given input t known) X Y b size site.node (own_low z given input cp known.stands.reached) to o f left w c site.part site.away site.own_from due h)
  reads_fixed X Y to (spots.Device a) left k b size cp l w c site known due h = absurd site.from_object
  reads_fixed X Y to (spots.Bit r i) left k b size cp l w c site known due h = absurd site.from_object

  reads_through : (p q : place.Spot) (to from : Spot) (left : ℕ) (k : List Pending) → IsThrough p q → ReadsBy z p q to from left k
  unfolding act
  reads_through p q to (spots.Memory x) left k through b size cp l w c site known due h =
      let t = state cp (CopyRead to (spots.Memory x) (suc left)) k l w in
      led_by z _ _ 70 1 c _ (omega arith) (omega arith)
      (through_copy_read z (scene_laws z given) cp k l (around z given input t known) (resumables z t known) p q b size through site.node site.room (reaches z given input t known) (own_low z given input cp known.stands.reached) to x left w c site.part site.to_placed site.from_placed site.own_from due h)
  reads_through p q to (spots.Device a) left k through b size cp l w c site known due h = absurd site.from_object
  reads_through p q to (spots.Bit r i) left k through b size cp l w c site known due h = absurd site.from_object

  reads : (p q : place.Spot) (to from : Spot) (left : ℕ) (k : List Pending) → ReadsBy z p q to from left k
  reads (Fixed X) (Fixed Y) to from left k b size cp l w c site known due h = reads_fixed X Y to from left k b size cp l w c site known due h
  reads (Fixed X) (Bit r i) to from left k b size cp l w c site known due h = reads_through (Fixed X) (Bit r i) to from left k tt b size cp l w c site known due h
  reads (Fixed X) Computed to from left k b size cp l w c site known due h = reads_through (Fixed X) Computed to from left k tt b size cp l w c site known due h
  reads (Bit r i) q to from left k b size cp l w c site known due h = reads_through (Bit r i) q to from left k tt b size cp l w c site known due h
  reads Computed q to from left k b size cp l w c site known due h = reads_through Computed q to from left k tt b size cp l w c site known due h

  -- The byte that comes next is read.
  pub copy_reads : (to from : Spot) (left : ℕ) (k : List Pending) → Law z (CopyRead to from (suc left)) k
  copy_reads to from left (In (tree.StructAssign place other size line) Copies ∷ k) cp l w c known due h =
      let K = In (tree.StructAssign place other size line) Copies ∷ k in
      let g = ground_in z cp in
      reads (spot_of g.layout g.copy place) (spot_of g.layout g.copy other) to from left K (base g k) size cp l w c (assign_site z given input (CopyRead to from (suc left)) place other size line to from (suc left) k cp l w known known.stands.focus) known due h
  copy_reads to from left (Doing (tree.InitList local whole line) (Items (tree.Struct offset other size) rest) ∷ k) cp l w c known due h =
      let K = Doing (tree.InitList local whole line) (Items (tree.Struct offset other size) rest) ∷ k in
      let g = ground_in z cp in
      reads (Fixed (behind (local_byte g local) offset)) (spot_of g.layout g.copy other) to from left K g.base size cp l w c (item_site z given input (CopyRead to from (suc left)) local whole line offset other size rest to from (suc left) k cp l w known known.stands.focus) known due h
  copy_reads to from left _ cp l w c known due h = absurd known.stands.focus.node

  -- ---- it is written
  writes_fixed : (X Y : core.Byte) (to from : Spot) (byte : Byte) (left : ℕ) (k : List Pending) → WritesBy z (Fixed X) (Fixed Y) to from byte left k
  unfolding act put_byte
  writes_fixed X Y (spots.Memory Null) from byte left k b size cp l w c site open_is known due h = led_nowhere z _ _ c _ (λ q n. tt)
  writes_fixed X Y (spots.Memory (Into o f)) (spots.Memory (Into p e)) byte left k b size cp l w c site open_is known due h =
      let t = state cp (CopyWrite (spots.Memory (Into o f)) (spots.Memory (Into p e)) byte left) k l w in
      led_by z _ _ 6 1 c _ (omega arith) (omega arith)
      (fixed_copy_write z (scene_laws z given) cp k l (around z given input t known) (reached_below z given input t known) X Y b size site.node (own_low z given input cp known.stands.reached) o p f e byte left w c site.part site.own_to open_is site.from_placed.0 known.stands.focus.2 due h)
  writes_fixed X Y (spots.Memory (Into o f)) (spots.Memory Null) byte left k b size cp l w c site open_is known due h = absurd known.stands.focus.2
  writes_fixed X Y (spots.Memory (Into o f)) (spots.Device a) byte left k b size cp l w c site open_is known due h = absurd site.from_object
  writes_fixed X Y (spots.Memory (Into o f)) (spots.Bit r i) byte left k b size cp l w c site open_is known due h = absurd site.from_object
  writes_fixed X Y (spots.Device a) from byte left k b size cp l w c site open_is known due h = absurd site.to_object
  writes_fixed X Y (spots.Bit r i) from byte left k b size cp l w c site open_is known due h = absurd site.to_object

  writes_through : (p q : place.Spot) (to from : Spot) (byte : Byte) (left : ℕ) (k : List Pending) → IsThrough p q → WritesBy z p q to from byte left k
  unfolding act
  writes_through p q (spots.Memory x) (spots.Memory (Into o e)) byte left k through b size cp l w c site open_is known due h =
      let t = state cp (CopyWrite (spots.Memory x) (spots.Memory (Into o e)) byte left) k l w in
      led_by z _ _ 24 1 c _ (omega arith) (omega arith)
      (through_copy_write z (scene_laws z given) cp k l (around z given input t known) (resumables z t known) p q b size through site.node site.room (reaches z given input t known) (own_low z given input cp known.stands.reached) x o e byte left w c site.part site.own_to open_is site.to_placed site.from_placed.0 known.stands.focus.2 (reached_below z given input t known) due h)
  writes_through p q (spots.Memory x) (spots.Memory Null) byte left k through b size cp l w c site open_is known due h = absurd known.stands.focus.2
  writes_through p q (spots.Memory x) (spots.Device a) byte left k through b size cp l w c site open_is known due h = absurd site.from_object
  writes_through p q (spots.Memory x) (spots.Bit r i) byte left k through b size cp l w c site open_is known due h = absurd site.from_object
  writes_through p q (spots.Device a) from byte left k through b size cp l w c site open_is known due h = absurd site.to_object
  writes_through p q (spots.Bit r i) from byte left k through b size cp l w c site open_is known due h = absurd site.to_object

  writes : (p q : place.Spot) (to from : Spot) (byte : Byte) (left : ℕ) (k : List Pending) → WritesBy z p q to from byte left k
  writes (Fixed X) (Fixed Y) to from byte left k b size cp l w c site open_is known due h = writes_fixed X Y to from byte left k b size cp l w c site open_is known due h
  writes (Fixed X) (Bit r i) to from byte left k b size cp l w c site open_is known due h = writes_through (Fixed X) (Bit r i) to from byte left k tt b size cp l w c site open_is known due h
  writes (Fixed X) Computed to from byte left k b size cp l w c site open_is known due h = writes_through (Fixed X) Computed to from byte left k tt b size cp l w c site open_is known due h
  writes (Bit r i) q to from byte left k b size cp l w c site open_is known due h = writes_through (Bit r i) q to from byte left k tt b size cp l w c site open_is known due h
  writes Computed q to from byte left k b size cp l w c site open_is known due h = writes_through Computed q to from byte left k tt b size cp l w c site open_is known due h

  -- the place that an assignment writes
  no_bit : (cp : CopyOf) (sought : Place) (at : Spot) (r i : ℕ) → IsObject at → IsSpotOf z.program cp sought at → spot_of (ground_in z cp).layout (ground_in z cp).copy sought ≡ Bit r i → ⊥
  no_bit cp sought (spots.Memory x) r i object is e = memory_no_bit z cp sought x r i is e
  no_bit cp sought (spots.Device a) r i object is e = object
  no_bit cp sought (spots.Bit a n) r i object is e = object

  fixed_assigned : (place other : Place) (size line : ℕ) (to from : Spot) (byte : core.Byte) (left : ℕ) (x : Focus) (k : List Pending) (cp : CopyOf) (l : source.Memory) (w : World Byte) → spot_of (ground_in z cp).layout (ground_in z cp).copy place ≡ Fixed byte
      → Known z (state cp x (In (tree.StructAssign place other size line) Copies ∷ k) l w) → CopyStands z.program cp (In (tree.StructAssign place other size line) Copies ∷ k) to from left → IsOpen z to
  fixed_assigned place other size line to from byte left x k cp l w e known f =
      let s = known.stands.stack.0 in
      let g = ground_in z cp in
      subst (IsOpen z) (sym f.written) (stepped_open z f.done f.first (struct_open z cp g.layout g.copy place other size line byte f.first e s.0 s.1 f.node.0))

  assigned_open : CopiesAreOpen z → (p : place.Spot) (place other : Place) (size line : ℕ) (to from : Spot) (byte : Byte) (left : ℕ) (k : List Pending) (cp : CopyOf) (l : source.Memory) (w : World Byte) → spot_of (ground_in z cp).layout (ground_in z cp).copy place ≡ p
      → Known z (state cp (CopyWrite to from byte left) (In (tree.StructAssign place other size line) Copies ∷ k) l w) → IsOpen z to
  assigned_open open_is (Fixed x) place other size line to from byte left k cp l w e known = fixed_assigned place other size line to from x (suc left) (CopyWrite to from byte left) k cp l w e known known.stands.focus.0
  assigned_open open_is (Bit r i) place other size line to from byte left k cp l w e known =
      let s = known.stands.stack.0 in
      let f = known.stands.focus.0 in
      absurd (no_bit cp place f.first r i (struct_object z cp place f.first s.1 (copy_rule z.program place other size line s.0).0 f.node.0) f.node.0 e)
  assigned_open open_is Computed place other size line to from byte left k cp l w e known = open_is place other size line to from byte left k cp l w e known

  -- The byte that was read is written.
  pub copy_writes : CopiesAreOpen z → (to from : Spot) (byte : Byte) (left : ℕ) (k : List Pending) → Law z (CopyWrite to from byte left) k
  copy_writes open_is to from byte left (In (tree.StructAssign place other size line) Copies ∷ k) cp l w c known due h =
      let K = In (tree.StructAssign place other size line) Copies ∷ k in
      let g = ground_in z cp in
      writes (spot_of g.layout g.copy place) (spot_of g.layout g.copy other) to from byte left K (base g k) size cp l w c (assign_site z given input (CopyWrite to from byte left) place other size line to from (suc left) k cp l w known known.stands.focus.0)
      (assigned_open open_is (spot_of g.layout g.copy place) place other size line to from byte left k cp l w refl known) known due h
  copy_writes open_is to from byte left (Doing (tree.InitList local whole line) (Items (tree.Struct offset other size) rest) ∷ k) cp l w c known due h =
      let K = Doing (tree.InitList local whole line) (Items (tree.Struct offset other size) rest) ∷ k in
      let g = ground_in z cp in
      writes (Fixed (behind (local_byte g local) offset)) (spot_of g.layout g.copy other) to from byte left K g.base size cp l w c (item_site z given input (CopyWrite to from byte left) local whole line offset other size rest to from (suc left) k cp l w known known.stands.focus.0)
      (listed_open z local whole line offset other size rest to from (suc left) k cp known.stands.focus.0) known due h
  copy_writes open_is to from byte left _ cp l w c known due h = absurd known.stands.focus.0.node

  -- ---- it is read and written at once
  paused_fixed : (X Y : core.Byte) (to : Spot) (d : CopyOf) (i e : ℕ) (byte : Byte) (left b size : ℕ) (k : List Pending) (cp : CopyOf) (l : source.Memory) (w : World Byte) (c : Machine) → CopySite z cp k to (spots.Memory (Into (objects.Variable d i) e)) (suc left) (Fixed X) (Fixed Y) b size → IsOpen z to
      → Known z (state cp (CopyWrite to (spots.Memory (Into (objects.Variable d i) e)) byte left) k l w) → CopyPauses z to d i e byte left cp k l w c
      → Led z (CopyWrite to (spots.Memory (Into (objects.Variable d i) e)) byte left) k c (act (source_in z) (CopyWrite to (spots.Memory (Into (objects.Variable d i) e)) byte left) k cp l (arrived z.outside w))
  unfolding act put_byte
  paused_fixed X Y (spots.Memory Null) d i e byte left b size k cp l w c site open_is known x = led_nowhere z _ _ c _ (λ q n. tt)
  paused_fixed X Y (spots.Memory (Into o f)) d i e byte left b size k cp l w c site open_is known x =
      let t = state cp (CopyWrite (spots.Memory (Into o f)) (spots.Memory (Into (objects.Variable d i) e)) byte left) k l w in
      led_by z _ _ 6 1 c _ (omega arith) (omega arith)
      (paused_copy_write z (scene_laws z given) cp k l (around z given input t known) (reached_below z given input t known) X Y b size site.node (own_low z given input cp known.stands.reached) o d i f e byte left w c site.part site.away site.own_to open_is site.own_from x)
  paused_fixed X Y (spots.Device a) d i e byte left b size k cp l w c site open_is known x = absurd site.to_object
  paused_fixed X Y (spots.Bit r n) d i e byte left b size k cp l w c site open_is known x = absurd site.to_object

  paused_by : (p q : place.Spot) (to : Spot) (d : CopyOf) (i e : ℕ) (byte : Byte) (left b size : ℕ) (k : List Pending) (cp : CopyOf) (l : source.Memory) (w : World Byte) (c : Machine) → BothFixed p q → CopySite z cp k to (spots.Memory (Into (objects.Variable d i) e)) (suc left) p q b size → IsOpen z to
      → Known z (state cp (CopyWrite to (spots.Memory (Into (objects.Variable d i) e)) byte left) k l w) → CopyPauses z to d i e byte left cp k l w c
      → Led z (CopyWrite to (spots.Memory (Into (objects.Variable d i) e)) byte left) k c (act (source_in z) (CopyWrite to (spots.Memory (Into (objects.Variable d i) e)) byte left) k cp l (arrived z.outside w))
  paused_by (Fixed X) (Fixed Y) to d i e byte left b size k cp l w c fixed site open_is known x = paused_fixed X Y to d i e byte left b size k cp l w c site open_is known x
  paused_by (Fixed X) (Bit r n) to d i e byte left b size k cp l w c fixed site open_is known x = absurd fixed
  paused_by (Fixed X) Computed to d i e byte left b size k cp l w c fixed site open_is known x = absurd fixed
  paused_by (Bit r n) q to d i e byte left b size k cp l w c fixed site open_is known x = absurd fixed
  paused_by Computed q to d i e byte left b size k cp l w c fixed site open_is known x = absurd fixed

  fixed_open_by : (p q : place.Spot) (place other : Place) (size line : ℕ) (to from : Spot) (left : ℕ) (x : Focus) (k : List Pending) (cp : CopyOf) (l : source.Memory) (w : World Byte) → BothFixed p q → spot_of (ground_in z cp).layout (ground_in z cp).copy place ≡ p
      → Known z (state cp x (In (tree.StructAssign place other size line) Copies ∷ k) l w) → CopyStands z.program cp (In (tree.StructAssign place other size line) Copies ∷ k) to from left → IsOpen z to
  fixed_open_by (Fixed X) q place other size line to from left x k cp l w fixed e known f = fixed_assigned place other size line to from X left x k cp l w e known f
  fixed_open_by (Bit r i) q place other size line to from left x k cp l w fixed e known f = absurd fixed
  fixed_open_by Computed q place other size line to from left x k cp l w fixed e known f = absurd fixed

  paused_at : (to : Spot) (d : CopyOf) (i e : ℕ) (byte : Byte) (left : ℕ) (k : List Pending) (cp : CopyOf) (l : source.Memory) (w : World Byte) (c : Machine) → AreFixed z cp k → Known z (state cp (CopyWrite to (spots.Memory (Into (objects.Variable d i) e)) byte left) k l w) → CopyPauses z to d i e byte left cp k l w c
      → Led z (CopyWrite to (spots.Memory (Into (objects.Variable d i) e)) byte left) k c (act (source_in z) (CopyWrite to (spots.Memory (Into (objects.Variable d i) e)) byte left) k cp l (arrived z.outside w))
  paused_at to d i e byte left (In (tree.StructAssign place other size line) Copies ∷ k) cp l w c fixed known x =
      let from = spots.Memory (Into (objects.Variable d i) e) in
      let K = In (tree.StructAssign place other size line) Copies ∷ k in
      let g = ground_in z cp in
      paused_by (spot_of g.layout g.copy place) (spot_of g.layout g.copy other) to d i e byte left (base g k) size K cp l w c fixed (assign_site z given input (CopyWrite to from byte left) place other size line to from (suc left) k cp l w known known.stands.focus.0)
      (fixed_open_by (spot_of g.layout g.copy place) (spot_of g.layout g.copy other) place other size line to from (suc left) (CopyWrite to from byte left) k cp l w fixed refl known known.stands.focus.0) known x
  paused_at to d i e byte left (Doing (tree.InitList local whole line) (Items (tree.Struct offset other size) rest) ∷ k) cp l w c fixed known x =
      let from = spots.Memory (Into (objects.Variable d i) e) in
      let K = Doing (tree.InitList local whole line) (Items (tree.Struct offset other size) rest) ∷ k in
      let g = ground_in z cp in
      paused_by (Fixed (behind (local_byte g local) offset)) (spot_of g.layout g.copy other) to d i e byte left g.base size K cp l w c fixed (item_site z given input (CopyWrite to from byte left) local whole line offset other size rest to from (suc left) k cp l w known known.stands.focus.0)
      (listed_open z local whole line offset other size rest to from (suc left) k cp known.stands.focus.0) known x
  paused_at to d i e byte left _ cp l w c fixed known x = absurd known.stands.focus.0.node

  paused_on : (x : Focus) (k : List Pending) (cp : CopyOf) (l : source.Memory) (w : World Byte) (c : Machine) → Known z (state cp x k l w) → AreFixed z cp k → Pauses z x cp k l w c → Led z x k c (act (source_in z) x k cp l (arrived z.outside w))
  paused_on (CopyWrite to (spots.Memory (Into (objects.Variable d i) e)) byte left) k cp l w c known fixed x = paused_at to d i e byte left k cp l w c fixed known x
  paused_on _ k cp l w c known fixed x = absurd x

  -- A byte that was read between fixed places is read and written by byte code.
  pub copies_wait : (t : State) (c : Machine) → Known z t → AreFixed z t.copy t.stack → Paused z t c → Led z t.focus t.stack c (act (source_in z) t.focus t.stack t.copy t.memory (arrived z.outside t.world))
  copies_wait t c known fixed p = paused_on t.focus t.stack t.copy t.memory t.world c known fixed p
