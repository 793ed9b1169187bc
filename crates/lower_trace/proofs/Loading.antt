-- Places that pointers lead to are read, byte by byte.
use Rattle.core_code.specs.Bytes as bytes
use Rattle.core_code.specs.Bytes.{Held, Memory, with_byte}
use Rattle.core_code.specs.Machine.{LoadFrom, Machine, Put, Task, Do as Todo, Waiting, after_read, held_at, is_reached, loading, noting_if}
use Rattle.core_code.specs.Tree as code
use Rattle.core_code.specs.Values.{pointer_in}
use Rattle.core_code.specs.declared.code.Byte.TheVariants.{Frame, Static}
use Rattle.core_code.specs.declared.code.Byte.{Byte}
use Rattle.lower_expr.specs.declared.places.Spot.TheVariants.{Computed}
use Rattle.lower_trace.proofs.Beginnings.{Follow}
use Rattle.lower_trace.proofs.CodeLeft.{Scene, core_in, ground_in, held, number, plain_behind, putting, reading_at, source_in, stack_after}
use Rattle.lower_trace.proofs.Constants.{again_below, due_below}
use Rattle.lower_trace.proofs.Fetching.{Reads, more_before, more_length, more_there, one_written, putting_last, read_more}
use Rattle.lower_trace.proofs.Flow.{arrive}
use Rattle.lower_trace.proofs.Giving.{Around, agrees_written, holds_written, mirrors, placed_of, value_high}
use Rattle.lower_trace.proofs.Kept.{SceneLaws, own_copy}
use Rattle.lower_trace.proofs.Mirrors.{Agrees, HasDatum, HasRead, Holds, Mirrors, core_byte}
use Rattle.lower_trace.proofs.NumberBytes.{pointer_back}
use Rattle.lower_trace.proofs.Operations.{Comes, comes_within, own_frame, put_then}
use Rattle.lower_trace.proofs.Placed.{Placed}
use Rattle.lower_trace.proofs.Pointing.{load_frame_then, load_static_then, load_then}
use Rattle.lower_trace.proofs.Reading.{if_none, noted_if, readable, set_agrees}
use Rattle.lower_trace.specs.Lowering.{object_as, offset_as}
use Rattle.pic_world.specs.World.{ReadOf, World, arrived, is_due, world_as}
use Rattle.pic_world.specs.declared.Cell.TheVariants as cells
use Rattle.src_rules.specs.Accesses.{after_taking}
use Rattle.src_rules.specs.Standing.{IsThere}
use Rattle.src_rules.specs.State.{state}
use Rattle.src_values.specs.Accesses.{event_at, is_unset, noting, read_fault, take_byte, taken_unless}
use Rattle.src_values.specs.Control.{Fetch, Pending, active, callers}
use Rattle.src_values.specs.Data as datum
use Rattle.src_values.specs.Memory as source
use Rattle.src_values.specs.Objects.{breaks_isolation, is_alive, is_watched, next_byte, object_bytes, variable_offset}
use Rattle.src_values.specs.declared.objects.Byte as value
use Rattle.src_values.specs.declared.objects.Byte.TheVariants as values
use Rattle.src_values.specs.declared.objects.CopyOf.{CopyOf}
use Rattle.src_values.specs.declared.objects.Object as object
use Rattle.src_values.specs.declared.objects.Object.TheVariants as objects
use Rattle.src_values.specs.declared.objects.Pointer.TheVariants.{Into}
use Rattle.src_values.specs.declared.objects.Spot as spot
use Rattle.src_values.specs.declared.objects.Spot.TheVariants as spots
use Rattle.src_values.specs.declared.objects.Undef.{Undef}
use Rattle.std.proofs.Common.{Bool, List, None, Option, Some, [], ap, arith, false, length, nat_lt, not, refl, subst, suc, sym, true, ℕ, ◌++◌, ◌+◌, ◌-◌, ◌<◌, ◌∙◌, ◌∷◌, ◌≡◌, ◌≤◌}
use Rattle.std.specs.Prelude.{slice_index_or}

-- What a defined access leads to is reached in byte code, from where this waits.
abbrev pub ReachesAll : Scene → CopyOf → List Pending → Type 0
ReachesAll z cp k =
    (o : object.Object) (f : ℕ) (s : List Waiting) → is_alive (cp ∷ callers k) o ≡ true → breaks_isolation cp.root o ≡ false → IsThere z.program o → f < object_bytes z.program o → plain_behind s ≡ stack_after z (ground_in z cp) k
    → is_reached (core_in z).program (number z cp) s (object_as z.copies o) (offset_as z.program o + f) ≡ true

pub isolated : (z : Scene) (live : List CopyOf) (root : _) (fits : value.Byte → Bool) (o : object.Object) (offset : ℕ) (byte : value.Byte) → read_fault z.program live root fits o offset byte ≡ None → breaks_isolation root o ≡ false
isolated z live root fits o offset byte e =
    let a = if_none (not (nat_lt offset (object_bytes z.program o))) _ _ e in
    let b = if_none (is_unset byte) _ _ a.1 in
    let c = if_none (not (is_alive live o)) _ _ b.1 in
    let d = if_none (not (fits byte)) _ _ c.1 in
    (if_none (breaks_isolation root o) _ _ d.1).0

one_more : (to : Byte) (x : bytes.Object) (offset j count : ℕ) (r : List Task) → j < count → loading to x offset (count - j) r ≡ LoadFrom to x offset (suc (count - (j + 1))) ∷ r
one_more to x offset j count r lt = let e : count - j ≡ suc (count - (j + 1)) = omega arith in ap (λ i. loading to x offset i r) e

module _ (z : Scene) (laws : SceneLaws z) (cp : CopyOf) (k : List Pending) (l : source.Memory) (to count at_pointer : ℕ) (r : List Task) (reads : Reads z (ground_in z cp) k Computed to count (Frame (ground_in z cp).copy at_pointer) r) (around : Around z cp k) (room : to + count ≤ (core_in z).program.frame_bytes (number z cp)) (apart : at_pointer + 2 ≤ to) (reach : ReachesAll z cp k) where
  -- the code at the first byte, and at the others
  code_first : (at : spot.Spot) → reading_at z (ground_in z cp) k at [] ≡ Todo [] (code.Load (Frame (number z cp) to) (Frame (number z cp) at_pointer) count) ∷ r
  code_first at = reads.code at [] ∙ ap (λ i. Todo [] (code.Load (Frame i to) (Frame i at_pointer) count) ∷ r) (own_copy z cp)

  pub code_variable : (d : CopyOf) (i f : ℕ) (read : List value.Byte) (j : ℕ) → length read ≡ suc j → reading_at z (ground_in z cp) k (spots.Memory (Into (objects.Variable d i) f)) read ≡ loading (Frame (number z cp) (to + suc j)) (bytes.FrameOf (number z d)) (variable_offset z.program d.function i + f) (count - suc j) r
  code_variable d i f [] j e = absurd (omega arith)
  code_variable d i f (x ∷ more) j e =
      reads.code (spots.Memory (Into (objects.Variable d i) f)) (x ∷ more)
      ∙ ap (λ y. loading (Frame (ground_in z cp).copy (to + y)) (bytes.FrameOf (number z d)) (variable_offset z.program d.function i + f) (count - y) r) e
      ∙ ap (λ y. loading (Frame y (to + suc j)) (bytes.FrameOf (number z d)) (variable_offset z.program d.function i + f) (count - suc j) r) (own_copy z cp)

  pub code_static : (i f : ℕ) (read : List value.Byte) (j : ℕ) → length read ≡ suc j → reading_at z (ground_in z cp) k (spots.Memory (Into (objects.Fixed i) f)) read ≡ Put (Frame (number z cp) (to + j)) (held z (slice_index_or read j values.Unset)) ∷ loading (Frame (number z cp) (to + suc j)) (bytes.Fixed i) (0 + f) (count - suc j) r
  code_static i f [] j e = absurd (omega arith)
  code_static i f (x ∷ more) j e =
      reads.code (spots.Memory (Into (objects.Fixed i) f)) (x ∷ more)
      ∙ ap (λ y. putting z (Frame y to) (x ∷ more) (loading (Frame y (to + length (x ∷ more))) (bytes.Fixed i) (0 + f) (count - length (x ∷ more)) r)) (own_copy z cp)
      ∙ putting_last z (number z cp) to j (x ∷ more) (loading (Frame (number z cp) (to + length (x ∷ more))) (bytes.Fixed i) (0 + f) (count - length (x ∷ more)) r) e
      ∙ ap (λ y. Put (Frame (number z cp) (to + j)) (held z (slice_index_or (x ∷ more) j values.Unset)) ∷ loading (Frame (number z cp) (to + y)) (bytes.Fixed i) (0 + f) (count - y) r) e

  -- what a byte that is written to its place keeps
  byte_agrees : (live : List CopyOf) (m : Memory) (j : ℕ) (h : Held) → Agrees z live l m → Agrees z live l (with_byte m (Frame (number z cp) (to + j)) h)
  byte_agrees live m j h a =
      let e = reads.based in
      let q = value_high z cp k around in
      subst (λ y. Agrees z live l y) (sym (one_written m (number z cp) (to + j) h)) (agrees_written z laws cp live l m (to + j) 1 (λ i. h) around.reached (omega arith) a)

  byte_holds : (m : Memory) (j : ℕ) (h : Held) → Holds z (ground_in z cp) k m → Holds z (ground_in z cp) k (with_byte m (Frame (number z cp) (to + j)) h)
  byte_holds m j h d =
      let e = reads.based in
      subst (λ y. Holds z (ground_in z cp) k y) (sym (one_written m (number z cp) (to + j) h)) (holds_written z cp k m (to + j) 1 (λ i. h) around (omega arith) d)

  -- ---- a byte of a variable
  -- it is read and written at once
  variable_then : (T : Machine → Type 0) (d : CopyOf) (i f j : ℕ) (w : World value.Byte) (m : Memory) (c : Machine) (q e : ℕ) → j < count → IsThere z.program (objects.Variable d i) → is_alive (cp ∷ callers k) (objects.Variable d i) ≡ true → breaks_isolation cp.root (objects.Variable d i) ≡ false → f < object_bytes z.program (objects.Variable d i) → is_due (arrived z.outside w) ≡ false
      → Placed (core_in z) (number z cp) None (loading (Frame (number z cp) (to + j)) (bytes.FrameOf (number z d)) (variable_offset z.program d.function i + f) (count - j) r) (stack_after z (ground_in z cp) k) m (world_as (held z) (arrived z.outside w)) c
      → ((x : Machine) → Placed (core_in z) (number z cp) None (loading (Frame (number z cp) (to + suc j)) (bytes.FrameOf (number z d)) (variable_offset z.program d.function i + (f + 1)) (count - suc j) r) (stack_after z (ground_in z cp) k) (with_byte m (Frame (number z cp) (to + j)) (m (core_byte z (objects.Variable d i) f))) (world_as (held z) (arrived z.outside w)) x → Comes (core_in z) T q e x)
      → Comes (core_in z) T (6 + q) (1 + e) c
  variable_then T d i f j w m c q e lt there alive free inside due p next =
      let n = number z cp in
      let off_is : variable_offset z.program d.function i + f + 1 ≡ variable_offset z.program d.function i + (f + 1) = omega arith in
      let to_is : to + j + 1 ≡ to + suc j = omega arith in
      let left_is : count - (j + 1) ≡ count - suc j = omega arith in
      load_frame_then (core_in z) T n None (stack_after z (ground_in z cp) k) (world_as (held z) (arrived z.outside w)) (due_below z (arrived z.outside w) due) (again_below z w) (Frame n (to + j)) (number z d) (variable_offset z.program d.function i + f) (count - (j + 1)) r m c q e (own_frame (core_in z).program n (to + j) 1 (omega arith))
      (λ s is. reach (objects.Variable d i) f s alive free there inside is)
      (subst (λ y. Placed (core_in z) n None y (stack_after z (ground_in z cp) k) m (world_as (held z) (arrived z.outside w)) c) (one_more (Frame n (to + j)) (bytes.FrameOf (number z d)) (variable_offset z.program d.function i + f) j count r lt) p)
      (λ x px. next x
      (subst (λ y. Placed (core_in z) n None (loading (Frame n (to + suc j)) (bytes.FrameOf (number z d)) (variable_offset z.program d.function i + (f + 1)) y r) (stack_after z (ground_in z cp) k) (with_byte m (Frame n (to + j)) (m (core_byte z (objects.Variable d i) f))) (world_as (held z) (arrived z.outside w)) x) left_is
      (subst (λ y. Placed (core_in z) n None (loading (Frame n y) (bytes.FrameOf (number z d)) (variable_offset z.program d.function i + (f + 1)) (count - (j + 1)) r) (stack_after z (ground_in z cp) k) (with_byte m (Frame n (to + j)) (m (core_byte z (objects.Variable d i) f))) (world_as (held z) (arrived z.outside w)) x) to_is
      (subst (λ y. Placed (core_in z) n None (loading (Frame n (to + j + 1)) (bytes.FrameOf (number z d)) y (count - (j + 1)) r) (stack_after z (ground_in z cp) k) (with_byte m (Frame n (to + j)) (m (core_byte z (objects.Variable d i) f))) (world_as (held z) (arrived z.outside w)) x) off_is px))))

  -- and the relation holds again
  variable_arrives : (d : CopyOf) (i f : ℕ) (read : List value.Byte) (byte : value.Byte) (w : World value.Byte) (m : Memory) (c : Machine) → m (core_byte z (objects.Variable d i) f) ≡ held z byte
      → Agrees z (cp ∷ callers k) l m → Holds z (ground_in z cp) k m → HasRead z (number z cp) to read (length read) m
      → Placed (core_in z) (number z cp) None (loading (Frame (number z cp) (to + suc (length read))) (bytes.FrameOf (number z d)) (variable_offset z.program d.function i + (f + 1)) (count - suc (length read)) r) (stack_after z (ground_in z cp) k) (with_byte m (Frame (number z cp) (to + length read)) (m (core_byte z (objects.Variable d i) f))) (world_as (held z) (arrived z.outside w)) c
      → Comes (core_in z) (Mirrors z (state cp (Fetch (spots.Memory (Into (objects.Variable d i) (f + 1))) (read ++ byte ∷ [])) k l (arrived z.outside w))) 0 0 c
  unfolding active
  variable_arrives d i f read byte w m c is agrees holds has p =
      let n = number z cp in
      let j = length read in
      let at = spots.Memory (Into (objects.Variable d i) (f + 1)) in
      let read' = read ++ byte ∷ [] in
      let len : length read' ≡ suc j = more_length read byte ∙ (omega arith) in
      let x = m (core_byte z (objects.Variable d i) f) in
      let m' = with_byte m (Frame n (to + j)) x in
      arrive z cp (Fetch at read') k l w m' c
      (subst (λ y. Placed (core_in z) n None y (stack_after z (ground_in z cp) k) m' (world_as (held z) (arrived z.outside w)) c) (sym (code_variable d i (f + 1) read' j len)) p)
      (byte_agrees (cp ∷ callers k) m j x agrees) (byte_holds m j x holds)
      (reads.had at read' m'
      (subst (λ y. HasRead z y to read' (length read') m') (sym (own_copy z cp))
      (subst (λ y. HasRead z n to read' y m') (sym len)
      (read_more z n to read' m x j (λ y low. has y low ∙ ap (held z) (sym (more_before read byte y low))) (is ∙ ap (held z) (sym (more_there read byte)))))))

  variable_case : (fault : Option Undef) (d : CopyOf) (i f : ℕ) (fits : value.Byte → Bool) (read : List value.Byte) (line : ℕ) (w : World value.Byte) (c : Machine) → length read < count → IsThere z.program (objects.Variable d i) → (read ≡ [] → HasDatum z (ground_in z cp).copy at_pointer (datum.Pointer (Into (objects.Variable d i) f)) c.memory) → is_due (arrived z.outside w) ≡ false
      → read_fault z.program (active cp (Fetch (spots.Memory (Into (objects.Variable d i) f)) read) k) cp.root fits (objects.Variable d i) f (l (objects.Variable d i) f) ≡ fault
      → Mirrors z (state cp (Fetch (spots.Memory (Into (objects.Variable d i) f)) read) k l w) c
      → Follow z 30 1 c (after_taking (taken_unless fault (l (objects.Variable d i) f) (arrived z.outside w) None) (λ byte. Fetch (spots.Memory (Into (objects.Variable d i) (f + 1))) (read ++ byte ∷ [])) cp k l line)
  unfolding active
  variable_case (Some kind) d i f fits read line w c lt there has due e h = tt
  variable_case None d i f fits [] line w c lt there has due e h =
      let n = number z cp in
      let o = objects.Variable d i in
      let byte = l o f in
      let ok = readable z (cp ∷ callers k) cp.root fits o f byte e in
      let free = isolated z (cp ∷ callers k) cp.root fits o f byte e in
      let T = Mirrors z (state cp (Fetch (spots.Memory (Into o (f + 1))) ([] ++ byte ∷ [])) k l (arrived z.outside w)) in
      let W = world_as (held z) (arrived z.outside w) in
      let is = set_agrees z byte (c.memory (core_byte z o f)) ok.set (h.agrees o f there ok.alive ok.inside) in
      let zero_to : to ≡ to + 0 = omega arith in
      let zero_count : count ≡ count - 0 = omega arith in
      let vo = variable_offset z.program d.function i + f in
      comes_within (core_in z) T (14 + (6 + 0)) (1 + 0) 30 1 c
      (load_then (core_in z) T n None (stack_after z (ground_in z cp) k) W (due_below z (arrived z.outside w) due) (again_below z w) (Frame n to) (Frame n at_pointer) count (record { object = bytes.FrameOf (number z d); offset = vo }) r c.memory c (6 + 0) (1 + 0)
      (own_frame (core_in z).program n at_pointer 2 (omega arith))
      (subst (λ y. pointer_in c.memory (Frame y at_pointer) ≡ Some (record { object = bytes.FrameOf (number z d); offset = vo })) (own_copy z cp) (pointer_back z (ground_in z cp).copy at_pointer o f c.memory (has refl)))
      (subst (λ y. Placed (core_in z) n None y (stack_after z (ground_in z cp) k) c.memory W c) (code_first (spots.Memory (Into o f))) (placed_of z (state cp (Fetch (spots.Memory (Into o f)) []) k l w) c h))
      (λ x px. variable_then T d i f 0 w c.memory x 0 0 lt there ok.alive free ok.inside due
      (subst (λ y. Placed (core_in z) n None (loading (Frame n (to + 0)) (bytes.FrameOf (number z d)) vo y r) (stack_after z (ground_in z cp) k) c.memory W x) zero_count
      (subst (λ y. Placed (core_in z) n None (loading (Frame n y) (bytes.FrameOf (number z d)) vo count r) (stack_after z (ground_in z cp) k) c.memory W x) zero_to px))
      (λ y py. variable_arrives d i f [] byte w c.memory y is h.agrees h.holds (λ t low. absurd (omega arith)) py)))
      (omega arith) (omega arith)
  variable_case None d i f fits (b ∷ more) line w c lt there has due e h =
      let n = number z cp in
      let o = objects.Variable d i in
      let read = b ∷ more in
      let byte = l o f in
      let ok = readable z (cp ∷ callers k) cp.root fits o f byte e in
      let free = isolated z (cp ∷ callers k) cp.root fits o f byte e in
      let T = Mirrors z (state cp (Fetch (spots.Memory (Into o (f + 1))) (read ++ byte ∷ [])) k l (arrived z.outside w)) in
      let W = world_as (held z) (arrived z.outside w) in
      let is = set_agrees z byte (c.memory (core_byte z o f)) ok.set (h.agrees o f there ok.alive ok.inside) in
      comes_within (core_in z) T (6 + 0) (1 + 0) 30 1 c
      (variable_then T d i f (length read) w c.memory c 0 0 lt there ok.alive free ok.inside due
      (subst (λ y. Placed (core_in z) n None y (stack_after z (ground_in z cp) k) c.memory W c) (code_variable d i f read (length more) refl) (placed_of z (state cp (Fetch (spots.Memory (Into o f)) read) k l w) c h))
      (λ y py. variable_arrives d i f read byte w c.memory y is h.agrees h.holds (subst (λ t. HasRead z t to read (length read) c.memory) (own_copy z cp) (reads.has (spots.Memory (Into o f)) read c.memory h.value)) py))
      (omega arith) (omega arith)

  -- ---- a byte of a static object: it is read, which may be an event, and written by the next step
  static_last : (T : Machine → Type 0) (i f j : ℕ) (read : List value.Byte) (byte : value.Byte) (w w' : World value.Byte) (m : Memory) (c : Machine) → length read ≡ j → j < count → IsThere z.program (objects.Fixed i) → f < object_bytes z.program (objects.Fixed i) → is_due (arrived z.outside w) ≡ false
      → held_at (core_in z) (Static i (0 + f)) m (world_as (held z) (arrived z.outside w)) ≡ held z byte
      → arrived z.outside (after_read (core_in z) (Static i (0 + f)) m (world_as (held z) (arrived z.outside w))) ≡ world_as (held z) (arrived z.outside w')
      → Agrees z (cp ∷ callers k) l m → Holds z (ground_in z cp) k m → HasRead z (number z cp) to read (length read) m
      → Placed (core_in z) (number z cp) None (loading (Frame (number z cp) (to + j)) (bytes.Fixed i) (0 + f) (count - j) r) (stack_after z (ground_in z cp) k) m (world_as (held z) (arrived z.outside w)) c
      → Comes (core_in z) (Mirrors z (state cp (Fetch (spots.Memory (Into (objects.Fixed i) (f + 1))) (read ++ byte ∷ [])) k l w')) 16 1 c
  unfolding active is_alive breaks_isolation
  static_last T i f j read byte w w' m c count_is lt there inside due is world agrees holds has p =
      let n = number z cp in
      let at = spots.Memory (Into (objects.Fixed i) (f + 1)) in
      let read' = read ++ byte ∷ [] in
      let W = world_as (held z) (arrived z.outside w) in
      let U = Mirrors z (state cp (Fetch at read') k l w') in
      let len : length read' ≡ suc j = more_length read byte ∙ (omega arith) in
      let off_is : 0 + f + 1 ≡ 0 + (f + 1) = omega arith in
      let to_is : to + j + 1 ≡ to + suc j = omega arith in
      let left_is : count - (j + 1) ≡ count - suc j = omega arith in
      let last_is : slice_index_or read' j values.Unset ≡ byte = ap (λ y. slice_index_or read' y values.Unset) (sym count_is) ∙ more_there read byte in
      let later : Put (Frame n (to + j)) (held_at (core_in z) (Static i (0 + f)) m W) ∷ loading (Frame n (to + j + 1)) (bytes.Fixed i) (0 + f + 1) (count - (j + 1)) r ≡ reading_at z (ground_in z cp) k at read' =
      ap (λ y. Put (Frame n (to + j)) y ∷ loading (Frame n (to + j + 1)) (bytes.Fixed i) (0 + f + 1) (count - (j + 1)) r) (is ∙ ap (held z) (sym last_is))
      ∙ ap (λ y. Put (Frame n (to + j)) (held z (slice_index_or read' j values.Unset)) ∷ loading (Frame n y) (bytes.Fixed i) (0 + f + 1) (count - (j + 1)) r) to_is
      ∙ ap (λ y. Put (Frame n (to + j)) (held z (slice_index_or read' j values.Unset)) ∷ loading (Frame n (to + suc j)) (bytes.Fixed i) y (count - (j + 1)) r) off_is
      ∙ ap (λ y. Put (Frame n (to + j)) (held z (slice_index_or read' j values.Unset)) ∷ loading (Frame n (to + suc j)) (bytes.Fixed i) (0 + (f + 1)) y r) left_is
      ∙ sym (code_static i (f + 1) read' j len) in
      load_static_then (core_in z) U n None (stack_after z (ground_in z cp) k) W (due_below z (arrived z.outside w) due) (again_below z w) (Frame n (to + j)) i (0 + f) (count - (j + 1)) r m c (own_frame (core_in z).program n (to + j) 1 (omega arith))
      (λ s e. reach (objects.Fixed i) f s refl refl there inside e)
      (subst (λ y. Placed (core_in z) n None y (stack_after z (ground_in z cp) k) m W c) (one_more (Frame n (to + j)) (bytes.Fixed i) (0 + f) j count r lt) p)
      (λ d pd.
      mirrors z cp (Fetch at read') k l w' m d
      (subst (λ y. Placed (core_in z) n None y (stack_after z (ground_in z cp) k) m (world_as (held z) (arrived z.outside w')) d) later
      (subst (λ y. Placed (core_in z) n None (Put (Frame n (to + j)) (held_at (core_in z) (Static i (0 + f)) m W) ∷ loading (Frame n (to + j + 1)) (bytes.Fixed i) (0 + f + 1) (count - (j + 1)) r) (stack_after z (ground_in z cp) k) m y d) world pd))
      agrees holds
      (reads.had at read' m
      (subst (λ y. HasRead z y to read' (length read' - 1) m) (sym (own_copy z cp))
      (subst (λ y. HasRead z n to read' y m) (let q : length read ≡ length read' - 1 = omega arith in q)
      (λ y low. has y low ∙ ap (held z) (sym (more_before read byte y low)))))))

  static_case : (fault : Option Undef) (i f : ℕ) (fits : value.Byte → Bool) (read : List value.Byte) (line : ℕ) (w : World value.Byte) (c : Machine) → length read < count → IsThere z.program (objects.Fixed i) → (read ≡ [] → HasDatum z (ground_in z cp).copy at_pointer (datum.Pointer (Into (objects.Fixed i) f)) c.memory) → is_due (arrived z.outside w) ≡ false
      → read_fault z.program (active cp (Fetch (spots.Memory (Into (objects.Fixed i) f)) read) k) cp.root fits (objects.Fixed i) f (l (objects.Fixed i) f) ≡ fault
      → Mirrors z (state cp (Fetch (spots.Memory (Into (objects.Fixed i) f)) read) k l w) c
      → Follow z 30 1 c (after_taking (taken_unless fault (l (objects.Fixed i) f) (arrived z.outside w) (event_at z.program ReadOf (objects.Fixed i) f (l (objects.Fixed i) f))) (λ byte. Fetch (spots.Memory (Into (objects.Fixed i) (f + 1))) (read ++ byte ∷ [])) cp k l line)
  unfolding active held_at after_read
  static_case (Some kind) i f fits read line w c lt there has due e h = tt
  static_case None i f fits [] line w c lt there has due e h =
      let n = number z cp in
      let o = objects.Fixed i in
      let byte = l o f in
      let V = arrived z.outside w in
      let W = world_as (held z) V in
      let w' = noting (event_at z.program ReadOf o f byte) V in
      let ok = readable z (cp ∷ callers k) cp.root fits o f byte e in
      let T = Mirrors z (state cp (Fetch (spots.Memory (Into o (f + 1))) ([] ++ byte ∷ [])) k l w') in
      let is = set_agrees z byte (c.memory (core_byte z o f)) ok.set (h.agrees o f there ok.alive ok.inside) in
      let zero_to : to ≡ to + 0 = omega arith in
      let zero_count : count ≡ count - 0 = omega arith in
      let zero_off : 0 + f ≡ f = omega arith in
      comes_within (core_in z) T (14 + 16) 1 30 1 c
      (load_then (core_in z) T n None (stack_after z (ground_in z cp) k) W (due_below z V due) (again_below z w) (Frame n to) (Frame n at_pointer) count (record { object = bytes.Fixed i; offset = 0 + f }) r c.memory c 16 1
      (own_frame (core_in z).program n at_pointer 2 (omega arith))
      (subst (λ y. pointer_in c.memory (Frame y at_pointer) ≡ Some (record { object = bytes.Fixed i; offset = 0 + f })) (own_copy z cp) (pointer_back z (ground_in z cp).copy at_pointer o f c.memory (has refl)))
      (subst (λ y. Placed (core_in z) n None y (stack_after z (ground_in z cp) k) c.memory W c) (code_first (spots.Memory (Into o f))) (placed_of z (state cp (Fetch (spots.Memory (Into o f)) []) k l w) c h))
      (λ x px. static_last T i f 0 [] byte w w' c.memory x refl lt there ok.inside due is
      (ap (λ y. arrived z.outside (noting_if ((core_in z).program.is_watched i) (ReadOf (cells.Static i y) (c.memory (Static i (0 + f)))) W)) zero_off
      ∙ ap (λ y. arrived z.outside (noting_if ((core_in z).program.is_watched i) (ReadOf (cells.Static i f) y) W)) is
      ∙ ap (λ b. arrived z.outside (noting_if b (ReadOf (cells.Static i f) (held z byte)) W)) (laws.watched i there)
      ∙ noted_if z (is_watched z.program o) (ReadOf (cells.Static i f) byte) V)
      h.agrees h.holds (λ t low. absurd (omega arith))
      (subst (λ y. Placed (core_in z) n None (loading (Frame n (to + 0)) (bytes.Fixed i) (0 + f) y r) (stack_after z (ground_in z cp) k) c.memory W x) zero_count
      (subst (λ y. Placed (core_in z) n None (loading (Frame n y) (bytes.Fixed i) (0 + f) count r) (stack_after z (ground_in z cp) k) c.memory W x) zero_to px))))
      (omega arith) (omega arith)
  static_case None i f fits (b ∷ more) line w c lt there has due e h =
      let n = number z cp in
      let o = objects.Fixed i in
      let read = b ∷ more in
      let j = length more in
      let byte = l o f in
      let V = arrived z.outside w in
      let W = world_as (held z) V in
      let w' = noting (event_at z.program ReadOf o f byte) V in
      let ok = readable z (cp ∷ callers k) cp.root fits o f byte e in
      let T = Mirrors z (state cp (Fetch (spots.Memory (Into o (f + 1))) (read ++ byte ∷ [])) k l w') in
      let is = set_agrees z byte (c.memory (core_byte z o f)) ok.set (h.agrees o f there ok.alive ok.inside) in
      let last = held z (slice_index_or read j values.Unset) in
      let m' = with_byte c.memory (Frame n (to + j)) last in
      let zero_off : 0 + f ≡ f = omega arith in
      comes_within (core_in z) T (3 + 16) 1 30 1 c
      (put_then (core_in z) T n None (stack_after z (ground_in z cp) k) W (due_below z V due) (again_below z w) (Frame n (to + j)) last (loading (Frame n (to + suc j)) (bytes.Fixed i) (0 + f) (count - suc j) r) c.memory c 16 1 (own_frame (core_in z).program n (to + j) 1 (omega arith))
      (subst (λ y. Placed (core_in z) n None y (stack_after z (ground_in z cp) k) c.memory W c) (code_static i f read j refl) (placed_of z (state cp (Fetch (spots.Memory (Into o f)) read) k l w) c h))
      (λ x px. static_last T i f (suc j) read byte w w' m' x refl lt there ok.inside due is
      (ap (λ y. arrived z.outside (noting_if ((core_in z).program.is_watched i) (ReadOf (cells.Static i y) (c.memory (Static i (0 + f)))) W)) zero_off
      ∙ ap (λ y. arrived z.outside (noting_if ((core_in z).program.is_watched i) (ReadOf (cells.Static i f) y) W)) is
      ∙ ap (λ b. arrived z.outside (noting_if b (ReadOf (cells.Static i f) (held z byte)) W)) (laws.watched i there)
      ∙ noted_if z (is_watched z.program o) (ReadOf (cells.Static i f) byte) V)
      (byte_agrees (cp ∷ callers k) c.memory j last h.agrees) (byte_holds c.memory j last h.holds)
      (read_more z n to read c.memory last j (λ t low. subst (λ y. HasRead z y to read (length read - 1) c.memory) (own_copy z cp) (reads.has (spots.Memory (Into o f)) read c.memory h.value) t (omega arith)) refl)
      px))
      (omega arith) (omega arith)

  -- the byte that comes next, where a pointer leads
  pub fetch_pointed : (o : object.Object) (f : ℕ) (fits : value.Byte → Bool) (read : List value.Byte) (line : ℕ) (w : World value.Byte) (c : Machine) → length read < count → IsThere z.program o → (read ≡ [] → HasDatum z (ground_in z cp).copy at_pointer (datum.Pointer (Into o f)) c.memory) → is_due (arrived z.outside w) ≡ false
      → Mirrors z (state cp (Fetch (spots.Memory (Into o f)) read) k l w) c
      → Follow z 30 1 c (after_taking (take_byte (source_in z) (active cp (Fetch (spots.Memory (Into o f)) read) k) cp.root fits (spots.Memory (Into o f)) l (arrived z.outside w)) (λ byte. Fetch (next_byte (spots.Memory (Into o f))) (read ++ byte ∷ [])) cp k l line)
  unfolding take_byte
  fetch_pointed (objects.Fixed i) f fits read line w c lt there has due h =
      static_case (read_fault z.program (active cp (Fetch (spots.Memory (Into (objects.Fixed i) f)) read) k) cp.root fits (objects.Fixed i) f (l (objects.Fixed i) f)) i f fits read line w c lt there has due refl h
  fetch_pointed (objects.Variable d i) f fits read line w c lt there has due h =
      variable_case (read_fault z.program (active cp (Fetch (spots.Memory (Into (objects.Variable d i) f)) read) k) cp.root fits (objects.Variable d i) f (l (objects.Variable d i) f)) d i f fits read line w c lt there has due refl h
