-- Structures that are copied between fixed places. A byte of a variable is read and written by one operation; a byte of a static object is
-- read, which may be an event, and written by the next one.
use Rattle.core_code.specs.Machine.{Machine, Put, Task, Do as Todo, after_read, after_write, held_at, is_others, is_valid, may_hold, memory_with, noting_if, static_bytes}
use Rattle.core_code.specs.Tree as code
use Rattle.core_code.specs.declared.code.Byte.TheVariants.{Frame, Static}
use Rattle.core_code.specs.declared.code.Byte.{Byte}
use Rattle.core_puts.specs.Bytes.{behind, beyond}
use Rattle.lower_expr.specs.declared.places.Spot.TheVariants.{Fixed}
use Rattle.lower_trace.proofs.CodeLeft.{Scene, carrying_at, code_after, copies_from, copying, copying_at, core_in, ground_in, held, number, source_in, stack_after, todo}
use Rattle.lower_trace.proofs.Constants.{again_below, due_below, same_below}
use Rattle.lower_trace.proofs.CopyNodes.{CopyNode}
use Rattle.lower_trace.proofs.CopyWrites.{behind_next, byte_holds, byte_world, copied_arrives, put_any_then}
use Rattle.lower_trace.proofs.Fetching.{copies_step}
use Rattle.lower_trace.proofs.FixedPlaces.{IsOwnSpot}
use Rattle.lower_trace.proofs.FixedWrites.{IsOpen}
use Rattle.lower_trace.proofs.Giving.{Around, mirrors, placed_of}
use Rattle.lower_trace.proofs.Kept.{Reached, SceneLaws}
use Rattle.lower_trace.proofs.MemberPlaces.{fixed_bytes}
use Rattle.lower_trace.proofs.Members.{byte_is_so}
use Rattle.lower_trace.proofs.Mirrors.{Mirrors, core_byte}
use Rattle.lower_trace.proofs.Operations.{comes_here, comes_within, own_frame, read_then, write_then}
use Rattle.lower_trace.proofs.Pausing.{CopyPauses, Leads, Stands}
use Rattle.lower_trace.proofs.Placed.{Placed}
use Rattle.lower_trace.proofs.Placing.{writable_so}
use Rattle.lower_trace.proofs.Reading.{lt_true, noted_if, readable, set_agrees}
use Rattle.lower_trace.proofs.Written.{nat_same}
use Rattle.lower_trace.proofs.Beginnings.{Follow}
use Rattle.pic_world.proofs.WorldLaws.{arrived_again}
use Rattle.pic_world.specs.World.{ReadOf, World, WriteOf, arrived, is_due, world_as}
use Rattle.pic_world.specs.declared.Cell.TheVariants as cells
use Rattle.src_rules.specs.Accesses.{after_putting, after_taking, copy_read, copy_write, is_any}
use Rattle.src_rules.specs.Standing.{IsThere}
use Rattle.src_rules.specs.State.{state}
use Rattle.src_values.specs.Accesses.{event_at, is_unset, noting, put_byte, put_unless, read_fault, take_byte, taken_unless, write_fault}
use Rattle.src_values.specs.Control.{CopyRead, CopyWrite, Pending, active, callers, line_at}
use Rattle.src_values.specs.Memory as source
use Rattle.src_values.specs.Objects.{is_watched, object_bytes, variable_offset}
use Rattle.src_values.specs.declared.objects.Byte as value
use Rattle.src_values.specs.declared.objects.CopyOf.{CopyOf}
use Rattle.src_values.specs.declared.objects.Object as object
use Rattle.src_values.specs.declared.objects.Object.TheVariants as objects
use Rattle.src_values.specs.declared.objects.Pointer.TheVariants.{Into}
use Rattle.src_values.specs.declared.objects.Spot as spot
use Rattle.src_values.specs.declared.objects.Spot.TheVariants as spots
use Rattle.src_values.specs.declared.objects.Undef.{Undef}
use Rattle.std.proofs.Common.{List, None, Option, Some, [], ap, arith, false, inl, inr, length, nat_eq, not, refl, subst, suc, sym, true, ℕ, ◌+◌, ◌-◌, ◌<◌, ◌∙◌, ◌∷◌, ◌≡◌, ◌≤◌}
use Rattle.std.proofs.lemmas.Grind.{common_steps}

-- ---- objects that a body names
pub own_there : (z : Scene) (cp : CopyOf) (k : List Pending) (o : object.Object) (f : ℕ) → Around z cp k → IsOwnSpot z cp (spots.Memory (Into o f)) → IsThere z.program o
own_there z cp k (objects.Fixed i) f around own = own
own_there z cp k (objects.Variable d i) f around own = subst (λ x. IsThere z.program (objects.Variable x i)) (sym own.0) (around.reached, own.1)

pub record OwnByte (z : Scene) (cp : CopyOf) (o : object.Object) (f : ℕ) : Type 0 where
  pub own : is_others (number z cp) (core_byte z o f) ≡ false
  pub valid : is_valid (core_in z).program (number z cp) (core_byte z o f) ≡ true

pub own_byte : (z : Scene) (laws : SceneLaws z) (cp : CopyOf) (k : List Pending) (o : object.Object) (f : ℕ) → Around z cp k → IsOwnSpot z cp (spots.Memory (Into o f)) → f < object_bytes z.program o → (ground_in z cp).base ≤ (core_in z).program.frame_bytes (number z cp) → OwnByte z cp o f
unfolding is_valid
own_byte z laws cp k (objects.Fixed i) f around own inside room =
    let size = laws.statics i own in
    record { own = refl; valid = lt_true (0 + f) (static_bytes (core_in z).program i) (omega arith) }
own_byte z laws cp k (objects.Variable d i) f around own inside room =
    let n = number z cp in
    let same : number z d ≡ n = ap (number z) own.0 in
    let low = laws.below d i f (own_there z cp k (objects.Variable d i) f around own).0 (own_there z cp k (objects.Variable d i) f around own).1 inside in
    let q = ap (λ x. (ground_in z x).base) own.0 in
    record {
      own = ap (λ y. not (nat_eq y n)) same ∙ ap not (nat_same n);
      valid = ap (λ y. is_valid (core_in z).program n (Frame y (variable_offset z.program d.function i + f))) same ∙ own_frame (core_in z).program n (variable_offset z.program d.function i + f) 1 (omega arith);
    }

-- byte code has an operation for each byte of the first 65,535, and no object has more
counted : (size done : ℕ) → done < size → done < 65535 → done < beyond 0 size
unfolding beyond
counted size done part near = grind (arith, common_steps)

module _ (z : Scene) (laws : SceneLaws z) (cp : CopyOf) (k : List Pending) (l : source.Memory) (around : Around z cp k) (reach : Reached z (ground_in z cp) k) (X Y : Byte) (b size : ℕ) (node : CopyNode z cp k (Fixed X) (Fixed Y) b size) (room : (ground_in z cp).base ≤ (core_in z).program.frame_bytes (number z cp)) where
  -- the copy of the byte that comes next
  abbrev rest : ℕ → List Task
  rest done = todo (copies_from X Y (done + 1) (beyond 0 size - (done + 1))) (code_after (ground_in z cp) k)

  code_now : (left : ℕ) → suc left ≤ size → size - suc left < 65535 → copying_at (ground_in z cp) k (suc left) ≡ Todo [] (code.Copy (behind X (size - suc left)) (behind Y (size - suc left))) ∷ rest (size - suc left)
  code_now left part near =
      node.code (suc left) ∙ ap (λ y. todo y (code_after (ground_in z cp) k)) (copies_step X Y (size - suc left) (beyond 0 size) (counted size (size - suc left) (omega arith) near))

  -- the next byte lies behind this one
  next_there : (x : Byte) (o : object.Object) (f left : ℕ) → suc left ≤ size → IsThere z.program o → f < object_bytes z.program o → Some (core_byte z o f) ≡ Some (behind x (size - suc left)) → Some (core_byte z o (f + 1)) ≡ Some (behind x (size - left))
  next_there x o f left part there inside is =
      let e : size - suc left + 1 ≡ size - left = omega arith in
      ap Some (sym (fixed_bytes z laws o f 1 there (omega arith)) ∙ ap (λ y. behind y 1) (byte_is_so (core_byte z o f) (behind x (size - suc left)) is) ∙ behind_next x (size - suc left) ∙ ap (behind x) e)

  -- ---- a byte of a static object is read
  static_case : (fault : Option Undef) (i f : ℕ) (to : spot.Spot) (left line : ℕ) (w : World value.Byte) (c : Machine) → suc left ≤ size → size - suc left ≤ f → i < length z.program.statics → is_due (arrived z.outside w) ≡ false
      → read_fault z.program (active cp (CopyRead to (spots.Memory (Into (objects.Fixed i) f)) (suc left)) k) cp.root is_any (objects.Fixed i) f (l (objects.Fixed i) f) ≡ fault
      → Mirrors z (state cp (CopyRead to (spots.Memory (Into (objects.Fixed i) f)) (suc left)) k l w) c
      → Leads z 6 0 c (after_taking (taken_unless fault (l (objects.Fixed i) f) (arrived z.outside w) (event_at z.program ReadOf (objects.Fixed i) f (l (objects.Fixed i) f))) (λ byte. CopyWrite to (spots.Memory (Into (objects.Fixed i) f)) byte left) cp k l line)
  unfolding active held_at after_read is_valid
  static_case (Some kind) i f to left line w c part near there due e h = tt
  static_case None i f to left line w c part near there due e h =
      let n = number z cp in
      let g = ground_in z cp in
      let o = objects.Fixed i in
      let from = spots.Memory (Into o f) in
      let byte = l o f in
      let V = arrived z.outside w in
      let W = world_as (held z) V in
      let w' = noting (event_at z.program ReadOf o f byte) V in
      let done = size - suc left in
      let ok = readable z (cp ∷ callers k) cp.root is_any o f byte e in
      let size_is = laws.statics i there in
      let inside = ok.inside in
      let few = laws.fits o there in
      let reach_is = laws.reach o there in
      let same : 0 + f ≡ f = omega arith in
      let U = Stands z (state cp (CopyWrite to from byte left) k l w') in
      let there_is : c.memory (Static i (0 + f)) ≡ held z byte = set_agrees z byte (c.memory (core_byte z o f)) ok.set (h.agrees o f there ok.alive ok.inside) in
      let has = node.has to from (suc left) c.memory h.value in
      let source_is : behind Y done ≡ Static i (0 + f) = sym (byte_is_so (core_byte z o f) (behind Y done) has.1) in
      let later : Put (behind X done) (c.memory (Static i (0 + f))) ∷ rest done ≡ carrying_at z g k from byte left = ap (λ y. Put (behind X done) y ∷ rest done) there_is ∙ sym (node.carry from byte left) in
      let world : arrived z.outside (noting_if ((core_in z).program.is_watched i) (ReadOf (cells.Static i (0 + f)) (c.memory (Static i (0 + f)))) W) ≡ world_as (held z) (arrived z.outside w') =
      ap (λ y. arrived z.outside (noting_if ((core_in z).program.is_watched i) (ReadOf (cells.Static i y) (c.memory (Static i (0 + f)))) W)) same
      ∙ ap (λ y. arrived z.outside (noting_if ((core_in z).program.is_watched i) (ReadOf (cells.Static i f) y) W)) there_is
      ∙ ap (λ y. arrived z.outside (noting_if y (ReadOf (cells.Static i f) (held z byte)) W)) (laws.watched i there)
      ∙ noted_if z (is_watched z.program o) (ReadOf (cells.Static i f) byte) V in
      comes_within (core_in z) U 3 1 6 0 c
      (read_then (core_in z) U n None (stack_after z g k) W (due_below z V due) (again_below z w) (behind X done) (Static i (0 + f)) (rest done) c.memory c refl (lt_true (0 + f) (static_bytes (core_in z).program i) (omega arith))
      (subst (λ y. Placed (core_in z) n None y (stack_after z g k) c.memory W c) (code_now left part (omega arith) ∙ ap (λ y. Todo [] (code.Copy (behind X done) y) ∷ rest done) source_is) (placed_of z (state cp (CopyRead to from (suc left)) k l w) c h))
      (λ d pd. inl
      (mirrors z cp (CopyWrite to from byte left) k l w' c.memory d
      (subst (λ y. Placed (core_in z) n None y (stack_after z g k) c.memory (world_as (held z) (arrived z.outside w')) d) later
      (subst (λ y. Placed (core_in z) n None (Put (behind X done) (c.memory (Static i (0 + f))) ∷ rest done) (stack_after z g k) c.memory y d) world pd))
      h.agrees h.holds
      (node.carried to from byte left c.memory (has, tt, ok.set, tt)))))
      (omega arith) (omega arith)

  -- ---- a byte of a variable is read: byte code waits
  variable_case : (fault : Option Undef) (d : CopyOf) (i f : ℕ) (to : spot.Spot) (left line : ℕ) (w : World value.Byte) (c : Machine) → is_due (arrived z.outside w) ≡ false
      → read_fault z.program (active cp (CopyRead to (spots.Memory (Into (objects.Variable d i) f)) (suc left)) k) cp.root is_any (objects.Variable d i) f (l (objects.Variable d i) f) ≡ fault
      → Mirrors z (state cp (CopyRead to (spots.Memory (Into (objects.Variable d i) f)) (suc left)) k l w) c
      → Leads z 6 0 c (after_taking (taken_unless fault (l (objects.Variable d i) f) (arrived z.outside w) None) (λ byte. CopyWrite to (spots.Memory (Into (objects.Variable d i) f)) byte left) cp k l line)
  unfolding active
  variable_case (Some kind) d i f to left line w c due e h = tt
  variable_case None d i f to left line w c due e h =
      let o = objects.Variable d i in
      let from = spots.Memory (Into o f) in
      let byte = l o f in
      let V = arrived z.outside w in
      let ok = readable z (cp ∷ callers k) cp.root is_any o f byte e in
      comes_within (core_in z) (Stands z (state cp (CopyWrite to from byte left) k l V)) 0 0 6 0 c
      (comes_here (core_in z) (Stands z (state cp (CopyWrite to from byte left) k l V)) c
      (inr (record {
        stands = mirrors z cp (CopyRead to from (suc left)) k l V c.memory c (record { copy = h.copy; passing = h.passing; code = h.code; stack = h.stack; memory = refl; world = h.world ∙ same_below z w }) h.agrees h.holds h.value;
        same = refl;
        set = ok.set;
        inside = ok.inside;
        alive = ok.alive;
        quiet = quiet_again w due;
      })))
      (omega arith) (omega arith)
    where
      quiet_again : (w : World value.Byte) → is_due (arrived z.outside w) ≡ false → is_due (arrived z.outside (arrived z.outside w)) ≡ false
      quiet_again w due = ap is_due (arrived_again z.outside w) ∙ due

  pub fixed_copy_read : (to : spot.Spot) (o : object.Object) (f left : ℕ) (w : World value.Byte) (c : Machine) → suc left ≤ size → size - suc left ≤ f → IsOwnSpot z cp (spots.Memory (Into o f)) → is_due (arrived z.outside w) ≡ false
      → Mirrors z (state cp (CopyRead to (spots.Memory (Into o f)) (suc left)) k l w) c
      → Leads z 6 0 c (copy_read (source_in z) to (spots.Memory (Into o f)) (suc left) k cp l (arrived z.outside w))
  unfolding take_byte
  fixed_copy_read to (objects.Fixed i) f left w c part near own due h =
      static_case (read_fault z.program (active cp (CopyRead to (spots.Memory (Into (objects.Fixed i) f)) (suc left)) k) cp.root is_any (objects.Fixed i) f (l (objects.Fixed i) f)) i f to left (line_at k) w c part near own due refl h
  fixed_copy_read to (objects.Variable d i) f left w c part near own due h =
      variable_case (read_fault z.program (active cp (CopyRead to (spots.Memory (Into (objects.Variable d i) f)) (suc left)) k) cp.root is_any (objects.Variable d i) f (l (objects.Variable d i) f)) d i f to left (line_at k) w c due refl h

  -- ---- the byte is written
  -- it was read by an operation of its own
  write_case : (fault : Option Undef) (o p : object.Object) (f e : ℕ) (byte : value.Byte) (left line : ℕ) (w : World value.Byte) (c : Machine) → suc left ≤ size → IsOwnSpot z cp (spots.Memory (Into o f)) → IsOpen z (spots.Memory (Into o f)) → IsThere z.program p → e < object_bytes z.program p → is_due (arrived z.outside w) ≡ false
      → write_fault z.program (active cp (CopyWrite (spots.Memory (Into o f)) (spots.Memory (Into p e)) byte left) k) cp.root o f ≡ fault
      → Mirrors z (state cp (CopyWrite (spots.Memory (Into o f)) (spots.Memory (Into p e)) byte left) k l w) c
      → Follow z 6 1 c (after_putting (put_unless fault o f byte (event_at z.program WriteOf o f byte) l (arrived z.outside w)) (CopyRead (spots.Memory (Into o (f + 1))) (spots.Memory (Into p (e + 1))) left) cp k line)
  unfolding active
  write_case (Some kind) o p f e byte left line w c part own open_is there within due fault_is h = tt
  write_case None o p f e byte left line w c part own open_is there within due fault_is h =
      let n = number z cp in
      let g = ground_in z cp in
      let V = arrived z.outside w in
      let W = world_as (held z) V in
      let to = spots.Memory (Into o f) in
      let from = spots.Memory (Into p e) in
      let done = size - suc left in
      let w' = noting (event_at z.program WriteOf o f byte) V in
      let ok = writable_so z (cp ∷ callers k) cp.root o f fault_is in
      let o_there = own_there z cp k o f around own in
      let named = own_byte z laws cp k o f around own ok.inside room in
      let U = Mirrors z (state cp (CopyRead (spots.Memory (Into o (f + 1))) (spots.Memory (Into p (e + 1))) left) k (source.with_byte l o f byte) w') in
      let carried = node.carries to from byte left c.memory h.value in
      let has = carried.0 in
      let set = carried.2 in
      let target : behind X done ≡ core_byte z o f = sym (byte_is_so (core_byte z o f) (behind X done) has.0) in
      let next_is : done + 1 ≡ size - left = omega arith in
      let later : rest done ≡ todo (copying cp.root (Fixed X) (Fixed Y) (Frame n b) size (size - left)) (code_after g k) = ap (λ i. todo (copies_from X Y i (beyond 0 size - i)) (code_after g k)) next_is in
      comes_within (core_in z) U 3 1 6 1 c
      (put_any_then (core_in z) U n None (stack_after z g k) W (due_below z V due) (core_byte z o f) (held z byte) (rest done) c.memory c (laws.kept o f o_there ok.inside) named.own named.valid (byte_holds z o f byte W laws o_there open_is set)
      (subst (λ y. Placed (core_in z) n None y (stack_after z g k) c.memory W c) (node.carry from byte left ∙ ap (λ y. Put y (held z byte) ∷ rest done) target) (placed_of z (state cp (CopyWrite to from byte left) k l w) c h))
      (λ d pd. copied_arrives z laws cp k l around reach (Fixed X) (Fixed Y) b size node o f (spots.Memory (Into p (e + 1))) byte left c.memory w w' d o_there ok.inside h.agrees h.holds
      (next_there X o f left part o_there ok.inside has.0, next_there Y p e left part there within has.1)
      (subst (λ y. Placed (core_in z) n None y (stack_after z g k) (memory_with (core_byte z o f) (held z byte) c.memory) (world_as (held z) (arrived z.outside w')) d) later
      (subst (λ y. Placed (core_in z) n None (rest done) (stack_after z g k) (memory_with (core_byte z o f) (held z byte) c.memory) y d) (byte_world z o f byte V open_is) pd))))
      (omega arith) (omega arith)

  -- it is still to be read
  paused_case : (fault : Option Undef) (o : object.Object) (d : CopyOf) (i f e : ℕ) (byte : value.Byte) (left line : ℕ) (w : World value.Byte) (c : Machine) → suc left ≤ size → size - suc left ≤ e → IsOwnSpot z cp (spots.Memory (Into o f)) → IsOpen z (spots.Memory (Into o f)) → IsOwnSpot z cp (spots.Memory (Into (objects.Variable d i) e))
      → write_fault z.program (active cp (CopyWrite (spots.Memory (Into o f)) (spots.Memory (Into (objects.Variable d i) e)) byte left) k) cp.root o f ≡ fault
      → CopyPauses z (spots.Memory (Into o f)) d i e byte left cp k l w c
      → Follow z 6 1 c (after_putting (put_unless fault o f byte (event_at z.program WriteOf o f byte) l (arrived z.outside w)) (CopyRead (spots.Memory (Into o (f + 1))) (spots.Memory (Into (objects.Variable d i) (e + 1))) left) cp k line)
  unfolding active
  paused_case (Some kind) o d i f e byte left line w c part near own open_is from_own fault_is x = tt
  paused_case None o d i f e byte left line w c part near own open_is from_own fault_is x =
      let n = number z cp in
      let g = ground_in z cp in
      let h = x.stands in
      let due = x.quiet in
      let V = arrived z.outside w in
      let W = world_as (held z) V in
      let p = objects.Variable d i in
      let to = spots.Memory (Into o f) in
      let from = spots.Memory (Into p e) in
      let done = size - suc left in
      let w' = noting (event_at z.program WriteOf o f byte) V in
      let ok = writable_so z (cp ∷ callers k) cp.root o f fault_is in
      let o_there = own_there z cp k o f around own in
      let there = own_there z cp k p e around from_own in
      let named = own_byte z laws cp k o f around own ok.inside room in
      let source_named = own_byte z laws cp k p e around from_own x.inside room in
      let inside = x.inside in
      let few = laws.fits p there in
      let reach_is = laws.reach p there in
      let U = Mirrors z (state cp (CopyRead (spots.Memory (Into o (f + 1))) (spots.Memory (Into p (e + 1))) left) k (source.with_byte l o f byte) w') in
      let has = node.has to from (suc left) c.memory h.value in
      let target : behind X done ≡ core_byte z o f = sym (byte_is_so (core_byte z o f) (behind X done) has.0) in
      let source_is : behind Y done ≡ core_byte z p e = sym (byte_is_so (core_byte z p e) (behind Y done) has.1) in
      let holds_byte : c.memory (core_byte z p e) ≡ held z byte =
      set_agrees z (l p e) (c.memory (core_byte z p e)) (ap is_unset x.same ∙ x.set) (h.agrees p e there x.alive x.inside) ∙ ap (held z) x.same in
      let next_is : done + 1 ≡ size - left = omega arith in
      let later : rest done ≡ todo (copying cp.root (Fixed X) (Fixed Y) (Frame n b) size (size - left)) (code_after g k) = ap (λ i. todo (copies_from X Y i (beyond 0 size - i)) (code_after g k)) next_is in
      write_then (core_in z) U n None (stack_after z g k) W (due_below z V due) (again_below z w) (core_byte z o f) (core_byte z p e) (rest done) c.memory c (laws.kept o f o_there ok.inside) refl source_named.valid named.own named.valid
      (ap (λ y. may_hold (core_in z).program (core_byte z o f) y W) holds_byte ∙ byte_holds z o f byte W laws o_there open_is x.set)
      (subst (λ y. Placed (core_in z) n None y (stack_after z g k) c.memory W c) (code_now left part (omega arith) ∙ ap (λ y. Todo [] (code.Copy y (behind Y done)) ∷ rest done) target ∙ ap (λ y. Todo [] (code.Copy (core_byte z o f) y) ∷ rest done) source_is) (placed_of z (state cp (CopyRead to from (suc left)) k l w) c h))
      (λ r pr. copied_arrives z laws cp k l around reach (Fixed X) (Fixed Y) b size node o f (spots.Memory (Into p (e + 1))) byte left c.memory w w' r o_there ok.inside h.agrees h.holds
      (next_there X o f left part o_there ok.inside has.0, next_there Y p e left part there x.inside has.1)
      (subst (λ y. Placed (core_in z) n None y (stack_after z g k) (memory_with (core_byte z o f) (held z byte) c.memory) (world_as (held z) (arrived z.outside w')) r) later
      (subst (λ y. Placed (core_in z) n None (rest done) (stack_after z g k) (memory_with (core_byte z o f) (held z byte) c.memory) y r) (byte_world z o f byte V open_is)
      (subst (λ y. Placed (core_in z) n None (rest done) (stack_after z g k) (memory_with (core_byte z o f) y c.memory) (arrived z.outside (after_write (core_byte z o f) y W)) r) holds_byte pr))))

  pub fixed_copy_write : (o p : object.Object) (f e : ℕ) (byte : value.Byte) (left : ℕ) (w : World value.Byte) (c : Machine) → suc left ≤ size → IsOwnSpot z cp (spots.Memory (Into o f)) → IsOpen z (spots.Memory (Into o f)) → IsThere z.program p → e < object_bytes z.program p → is_due (arrived z.outside w) ≡ false
      → Mirrors z (state cp (CopyWrite (spots.Memory (Into o f)) (spots.Memory (Into p e)) byte left) k l w) c
      → Follow z 6 1 c (copy_write (source_in z) (spots.Memory (Into o f)) (spots.Memory (Into p e)) byte left k cp l (arrived z.outside w))
  unfolding put_byte
  fixed_copy_write o p f e byte left w c part own open_is there within due h =
      write_case (write_fault z.program (active cp (CopyWrite (spots.Memory (Into o f)) (spots.Memory (Into p e)) byte left) k) cp.root o f) o p f e byte left (line_at k) w c part own open_is there within due refl h

  pub paused_copy_write : (o : object.Object) (d : CopyOf) (i f e : ℕ) (byte : value.Byte) (left : ℕ) (w : World value.Byte) (c : Machine) → suc left ≤ size → size - suc left ≤ e → IsOwnSpot z cp (spots.Memory (Into o f)) → IsOpen z (spots.Memory (Into o f)) → IsOwnSpot z cp (spots.Memory (Into (objects.Variable d i) e))
      → CopyPauses z (spots.Memory (Into o f)) d i e byte left cp k l w c
      → Follow z 6 1 c (copy_write (source_in z) (spots.Memory (Into o f)) (spots.Memory (Into (objects.Variable d i) e)) byte left k cp l (arrived z.outside w))
  unfolding put_byte
  paused_copy_write o d i f e byte left w c part near own open_is from_own x =
      paused_case (write_fault z.program (active cp (CopyWrite (spots.Memory (Into o f)) (spots.Memory (Into (objects.Variable d i) e)) byte left) k) cp.root o f) o d i f e byte left (line_at k) w c part near own open_is from_own refl x
