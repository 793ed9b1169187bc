-- Fixed places are read, byte by byte.
use Rattle.std.proofs.Common.{◌≡◌, ℕ, zero, suc, ◌+◌, ◌-◌, ◌<◌, ◌≤◌, inl, Bool, true, false, if◌then◌else◌, List, [], ◌∷◌, ◌++◌, length, length-append, None, refl, sym, ap, ◌∙◌, subst, ⊎_elim, arith}
use Rattle.std.specs.Prelude.{slice_index_or}
use Rattle.std.proofs.lemmas.Bool.{cases_lt}
use Rattle.core_code.specs.Bytes as bytes
use Rattle.core_code.specs.Bytes.{Held, Memory, is_private, with_byte, with_bytes}
use Rattle.core_code.specs.Cost.{is_kept}
use Rattle.core_code.specs.Machine.{Machine, Task, Do as Todo, Put, is_valid, held_at, after_read}
use Rattle.core_code.specs.Tree as code
use Rattle.core_code.specs.Tree.{Tree}
use Rattle.core_code.specs.declared.code.Byte.{Byte}
use Rattle.core_code.specs.declared.code.Byte.TheVariants.{Static, Frame, Result, Device}
use Rattle.core_puts.specs.Bytes.{beyond, behind}
use Rattle.lower_expr.specs.declared.places.Spot as place
use Rattle.lower_expr.specs.declared.places.Spot.TheVariants.{Fixed}
use Rattle.lower_stmt.specs.Ground.{Ground}
use Rattle.pic_world.specs.World.{World, arrived, is_due, world_as}
use Rattle.src_rules.specs.State.{state}
use Rattle.src_values.specs.Control.{Fetch, Holds as Value, Pending, active}
use Rattle.src_values.specs.Data.{Datum}
use Rattle.src_values.specs.Values.{byte_count, byte_of}
use Rattle.src_values.specs.Memory as source
use Rattle.src_values.specs.declared.objects.Byte as value
use Rattle.src_values.specs.declared.objects.Byte.TheVariants as values
use Rattle.src_values.specs.declared.objects.CopyOf.{CopyOf}
use Rattle.src_values.specs.declared.objects.Spot as spot
use Rattle.lower_trace.proofs.CodeLeft.{Scene, held, number, ground_in, core_in, todo, wanted, base, copies_from, putting, reading, reading_at, code_after, stack_after}
use Rattle.lower_trace.proofs.Constants.{due_below, again_below}
use Rattle.lower_trace.proofs.Flow.{arrive}
use Rattle.lower_trace.proofs.Giving.{Around, placed_of, mirrors, agrees_written, holds_written, value_high}
use Rattle.lower_trace.proofs.Kept.{SceneLaws, own_copy}
use Rattle.lower_trace.proofs.Mirrors.{Mirrors, Agrees, Holds, HasIf, HasRead, HasReadAt, in_place}
use Rattle.lower_trace.proofs.Operations.{Comes, comes_within, beyond_is, own_frame, copy_then, put_then, read_sure, read_then}
use Rattle.lower_trace.proofs.Placed.{Placed}
use Rattle.lower_trace.proofs.Written.{nat_apart, and_false, on, off, byte_same}

-- ---- lists
pub more_length : (read : List value.Byte) (byte : value.Byte) → length (read ++ byte ∷ []) ≡ length read + 1
more_length read byte = length-append read (byte ∷ [])

pub more_before : (read : List value.Byte) (byte : value.Byte) (i : ℕ) → i < length read → slice_index_or (read ++ byte ∷ []) i values.Unset ≡ slice_index_or read i values.Unset
more_before [] byte i lt = absurd (omega arith)
more_before (x ∷ read) byte zero lt = refl
more_before (x ∷ read) byte (suc i) lt = more_before read byte i (omega arith)

pub more_there : (read : List value.Byte) (byte : value.Byte) → slice_index_or (read ++ byte ∷ []) (length read) values.Unset ≡ byte
more_there [] byte = refl
more_there (x ∷ read) byte = more_there read byte

-- ---- the byte that was read last
putting_more : (z : Scene) (n b : ℕ) (read : List value.Byte) (byte : value.Byte) (c : List Task) → putting z (Frame n b) (read ++ byte ∷ []) c ≡ Put (Frame n (b + length read)) (held z byte) ∷ c
putting_more z n b [] byte c = let e : b ≡ b + 0 = omega arith in ap (λ y. Put (Frame n y) (held z byte) ∷ c) e
putting_more z n b (x ∷ []) byte c = refl
putting_more z n b (x ∷ y ∷ read) byte c =
    let e : (b + 1) + length (y ∷ read) ≡ b + length (x ∷ y ∷ read) = omega arith in
    putting_more z n (b + 1) (y ∷ read) byte c ∙ ap (λ i. Put (Frame n i) (held z byte) ∷ c) e

pub putting_last : (z : Scene) (n b j : ℕ) (read : List value.Byte) (c : List Task) → length read ≡ suc j → putting z (Frame n b) read c ≡ Put (Frame n (b + j)) (held z (slice_index_or read j values.Unset)) ∷ c
putting_last z n b j [] c e = absurd (omega arith)
putting_last z n b zero (x ∷ []) c e = let q : b ≡ b + 0 = omega arith in ap (λ y. Put (Frame n y) (held z x) ∷ c) q
putting_last z n b (suc j) (x ∷ []) c e = absurd (omega arith)
putting_last z n b zero (x ∷ y ∷ read) c e = absurd (omega arith)
putting_last z n b (suc j) (x ∷ y ∷ read) c e =
    let q : (b + 1) + j ≡ b + suc j = omega arith in
    putting_last z n (b + 1) j (y ∷ read) c (omega arith) ∙ ap (λ i. Put (Frame n i) (held z (slice_index_or (y ∷ read) j values.Unset)) ∷ c) q

-- ---- copies that are left
pub copies_step : (to from : Byte) (j count : ℕ) → j < count → copies_from to from j (count - j) ≡ code.Copy (behind to j) (behind from j) ∷ copies_from to from (j + 1) (count - (j + 1))
copies_step to from j count lt = let e : count - j ≡ suc (count - (j + 1)) = omega arith in ap (copies_from to from j) e

hidden_code : (z : Scene) (from : Byte) (at : spot.Spot) (pointer to : Byte) (count : ℕ) (read : List value.Byte) (r : List Task) → is_private from ≡ true → reading z (Fixed from) at pointer to count read r ≡ todo (copies_from to from (length read) (count - length read)) r
hidden_code z from at pointer to count read r e = rw e refl

seen_code : (z : Scene) (from : Byte) (at : spot.Spot) (pointer to : Byte) (count : ℕ) (read : List value.Byte) (r : List Task) → is_private from ≡ false → reading z (Fixed from) at pointer to count read r ≡ putting z to read (todo (copies_from to from (length read) (count - length read)) r)
seen_code z from at pointer to count read r e = rw e refl

-- ---- the node that reads: which place, to where, how many bytes, and what follows
pub record Reads (z : Scene) (g : Ground) (k : List Pending) (s : place.Spot) (to count : ℕ) (pointer : Byte) (r : List Task) : Type 0 where
  pub code : (at : spot.Spot) (read : List value.Byte) → reading_at z g k at read ≡ reading z s at pointer (Frame g.copy to) count read r
  pub has : (at : spot.Spot) (read : List value.Byte) (m : Memory) → HasReadAt z g k at read m → HasRead z g.copy to read (in_place s at (length read)) m
  pub had : (at : spot.Spot) (read : List value.Byte) (m : Memory) → HasRead z g.copy to read (in_place s at (length read)) m → HasReadAt z g k at read m
  pub based : base g k ≡ to

-- one byte more stands in its place
pub read_more : (z : Scene) (n to : ℕ) (read : List value.Byte) (m : Memory) (h : Held) (j : ℕ) → HasRead z n to read j m → h ≡ held z (slice_index_or read j values.Unset) → HasRead z n to read (suc j) (with_byte m (Frame n (to + j)) h)
read_more z n to read m h j has is i lt =
    ⊎_elim
    (λ l. off (bytes.same_byte (Frame n (to + i)) (Frame n (to + j))) h (m (Frame n (to + i))) (and_false _ _ (nat_apart (to + i) (to + j) (inl (omega arith)))) ∙ has i l)
    (λ ge.
    let q : i ≡ j = omega arith in
    ap (λ x. with_byte m (Frame n (to + j)) h (Frame n (to + x))) q
    ∙ on (bytes.same_byte (Frame n (to + j)) (Frame n (to + j))) h (m (Frame n (to + j))) (byte_same (Frame n (to + j)))
    ∙ is ∙ ap (λ x. held z (slice_index_or read x values.Unset)) (sym q))
    (cases_lt i j)

pub one_written : (m : Memory) (n b : ℕ) (h : Held) → with_byte m (Frame n b) h ≡ with_bytes m (Frame n b) 1 (λ i. h)
one_written m n b h = let e : b ≡ b + 0 = omega arith in ap (λ y. with_byte m (Frame n y) h) e

no_frame : (y : Byte) (n b : ℕ) → is_private y ≡ false → bytes.same_byte y (Frame n b) ≡ false
no_frame (Static i j) n b e = refl
no_frame (Frame c j) n b e = absurd (cc)
no_frame (Result r j) n b e = refl
no_frame (Device a) n b e = refl

-- the relation where one byte more was written to its place
module _ (z : Scene) (laws : SceneLaws z) (cp : CopyOf) (k : List Pending) (l : source.Memory) (from : Byte) (to count : ℕ) (pointer : Byte) (r : List Task) (reads : Reads z (ground_in z cp) k (Fixed from) to count pointer r) (around : Around z cp k) where
  byte_agrees : (live : List CopyOf) (m : Memory) (j : ℕ) (h : Held) → Agrees z live l m → Agrees z live l (with_byte m (Frame (number z cp) (to + j)) h)
  byte_agrees live m j h a =
      let e = reads.based in
      let q = value_high z cp k around in
      subst (λ y. Agrees z live l y) (sym (one_written m (number z cp) (to + j) h)) (agrees_written z laws cp live l m (to + j) 1 (λ i. h) around.reached (omega arith) a)

  byte_holds : (m : Memory) (j : ℕ) (h : Held) → Holds z (ground_in z cp) k m → Holds z (ground_in z cp) k (with_byte m (Frame (number z cp) (to + j)) h)
  byte_holds m j h d =
      let e = reads.based in
      subst (λ y. Holds z (ground_in z cp) k y) (sym (one_written m (number z cp) (to + j) h)) (holds_written z cp k m (to + j) 1 (λ i. h) around (omega arith) d)

  -- a byte of the own frame is read and written at once
  pub fetch_hidden : (at next : spot.Spot) (read : List value.Byte) (byte : value.Byte) (y : ℕ) (w : World value.Byte) (c : Machine) → length read < count → to + count ≤ (core_in z).program.frame_bytes (number z cp)
      → behind from (length read) ≡ Frame (number z cp) y → is_kept (core_in z).program.variable_bytes (Frame (number z cp) y) ≡ true → is_private from ≡ true → y < (core_in z).program.frame_bytes (number z cp) → c.memory (Frame (number z cp) y) ≡ held z byte → is_due (arrived z.outside w) ≡ false
      → Mirrors z (state cp (Fetch at read) k l w) c → Comes (core_in z) (Mirrors z (state cp (Fetch next (read ++ byte ∷ [])) k l (arrived z.outside w))) 6 1 c
  unfolding active is_valid
  fetch_hidden at next read byte y w c lt room source_is kept hidden valid byte_is due h =
      let n = number z cp in
      let g = ground_in z cp in
      let j = length read in
      let read' = read ++ byte ∷ [] in
      let T = Mirrors z (state cp (Fetch next read') k l (arrived z.outside w)) in
      let W = world_as (held z) (arrived z.outside w) in
      let small = laws.small n in
      let len = more_length read byte in
      let there : behind (Frame g.copy to) j ≡ Frame n (to + j) = ap (λ i. Frame i (beyond to j)) (own_copy z cp) ∙ ap (Frame n) (beyond_is to j (omega arith)) in
      let R = todo (copies_from (Frame g.copy to) from (j + 1) (count - (j + 1))) r in
      let now : reading_at z g k at read ≡ Todo [] (code.Copy (Frame n (to + j)) (Frame n y)) ∷ R =
      reads.code at read ∙ hidden_code z from at pointer (Frame g.copy to) count read r hidden ∙ ap (λ ts. todo ts r) (copies_step (Frame g.copy to) from j count lt) ∙ ap (λ x. Todo [] (code.Copy x (behind from j)) ∷ R) there ∙ ap (λ x. Todo [] (code.Copy (Frame n (to + j)) x) ∷ R) source_is in
      let later : R ≡ reading_at z g k next read' =
      ap (λ i. todo (copies_from (Frame g.copy to) from i (count - i)) r) (sym len) ∙ sym (hidden_code z from next pointer (Frame g.copy to) count read' r hidden) ∙ sym (reads.code next read') in
      let m' = with_byte c.memory (Frame n (to + j)) (c.memory (Frame n y)) in
      comes_within (core_in z) T (6 + 0) (1 + 0) 6 1 c
      (copy_then (core_in z) T n None (stack_after z g k) W (due_below z (arrived z.outside w) due) (again_below z w) (Frame n (to + j)) (Frame n y) R c.memory c 0 0 1 (read_sure (core_in z).program.variable_bytes (Frame n (to + j)) (Frame n y) kept) refl (own_frame (core_in z).program n y 1 (omega arith)) (own_frame (core_in z).program n (to + j) 1 (omega arith))
      (subst (λ x. Placed (core_in z) n None x (stack_after z g k) c.memory W c) now (placed_of z (state cp (Fetch at read) k l w) c h))
      (λ d pd.
      arrive z cp (Fetch next read') k l w m' d (subst (λ x. Placed (core_in z) n None x (stack_after z g k) m' W d) later pd)
      (byte_agrees (active cp (Fetch next read') k) c.memory j (c.memory (Frame n y)) h.agrees)
      (byte_holds c.memory j (c.memory (Frame n y)) h.holds)
      (reads.had next read' m'
      (subst (λ i. HasRead z i to read' (in_place (Fixed from) next (length read')) m') (sym (own_copy z cp))
      (subst (λ b. HasRead z n to read' (if b then length read' else length read' - 1) m') (sym hidden)
      (subst (λ i. HasRead z n to read' i m') (let q : suc j ≡ length read' = omega arith in q)
      (read_more z n to read' c.memory (c.memory (Frame n y)) j
      (λ i low. (subst (λ b. HasRead z n to read (if b then length read else length read - 1) c.memory) hidden (subst (λ x. HasRead z x to read (in_place (Fixed from) at (length read)) c.memory) (own_copy z cp) (reads.has at read c.memory h.value))) i low ∙ ap (held z) (sym (more_before read byte i low)))
      (byte_is ∙ ap (held z) (sym (more_there read byte))))))))))
      (omega arith) (omega arith)

  -- A byte of a static object or of a device register is read; it is written by the next step.
  seen_last : (next : spot.Spot) (read : List value.Byte) (byte : value.Byte) (y : Byte) (w w' : World value.Byte) (m : Memory) (c : Machine) → length read < count → to + count ≤ (core_in z).program.frame_bytes (number z cp)
      → behind from (length read) ≡ y → is_private from ≡ false → is_private y ≡ false → is_valid (core_in z).program (number z cp) y ≡ true
      → held_at (core_in z) y m (world_as (held z) (arrived z.outside w)) ≡ held z byte
      → arrived z.outside (after_read (core_in z) y m (world_as (held z) (arrived z.outside w))) ≡ world_as (held z) (arrived z.outside w')
      → is_due (arrived z.outside w) ≡ false
      → Agrees z (active cp (Fetch next (read ++ byte ∷ [])) k) l m → Holds z (ground_in z cp) k m → HasRead z (number z cp) to read (length read) m
      → Placed (core_in z) (number z cp) None (todo (copies_from (Frame (ground_in z cp).copy to) from (length read) (count - length read)) r) (stack_after z (ground_in z cp) k) m (world_as (held z) (arrived z.outside w)) c
      → Comes (core_in z) (Mirrors z (state cp (Fetch next (read ++ byte ∷ [])) k l w')) 3 1 c
  unfolding is_valid
  seen_last next read byte y w w' m c lt room source_is seen public valid is world due agrees holds has p =
      let n = number z cp in
      let g = ground_in z cp in
      let j = length read in
      let read' = read ++ byte ∷ [] in
      let T = Mirrors z (state cp (Fetch next read') k l w') in
      let W = world_as (held z) (arrived z.outside w) in
      let small = laws.small n in
      let len = more_length read byte in
      let there : behind (Frame g.copy to) j ≡ Frame n (to + j) = ap (λ i. Frame i (beyond to j)) (own_copy z cp) ∙ ap (Frame n) (beyond_is to j (omega arith)) in
      let R = todo (copies_from (Frame g.copy to) from (j + 1) (count - (j + 1))) r in
      let now : todo (copies_from (Frame g.copy to) from j (count - j)) r ≡ Todo [] (code.Copy (Frame n (to + j)) y) ∷ R =
      ap (λ ts. todo ts r) (copies_step (Frame g.copy to) from j count lt) ∙ ap (λ x. Todo [] (code.Copy x (behind from j)) ∷ R) there ∙ ap (λ x. Todo [] (code.Copy (Frame n (to + j)) x) ∷ R) source_is in
      let later : Put (Frame n (to + j)) (held_at (core_in z) y m W) ∷ R ≡ reading_at z g k next read' =
      ap (λ x. Put (Frame n (to + j)) x ∷ R) is
      ∙ sym (putting_more z n to read byte R)
      ∙ ap (λ i. putting z (Frame i to) read' R) (sym (own_copy z cp))
      ∙ ap (λ i. putting z (Frame g.copy to) read' (todo (copies_from (Frame g.copy to) from i (count - i)) r)) (sym len)
      ∙ sym (seen_code z from next pointer (Frame g.copy to) count read' r seen) ∙ sym (reads.code next read') in
      read_then (core_in z) T n None (stack_after z g k) W (due_below z (arrived z.outside w) due) (again_below z w) (Frame n (to + j)) y R m c public valid
      (subst (λ x. Placed (core_in z) n None x (stack_after z g k) m W c) now p)
      (λ d pd.
      mirrors z cp (Fetch next read') k l w' m d
      (subst (λ x. Placed (core_in z) n None x (stack_after z g k) m (world_as (held z) (arrived z.outside w')) d) later
      (subst (λ x. Placed (core_in z) n None (Put (Frame n (to + j)) (held_at (core_in z) y m W) ∷ R) (stack_after z g k) m x d) world pd))
      agrees holds
      (reads.had next read' m
      (subst (λ i. HasRead z i to read' (in_place (Fixed from) next (length read')) m) (sym (own_copy z cp))
      (subst (λ b. HasRead z n to read' (if b then length read' else length read' - 1) m) (sym seen)
      (subst (λ i. HasRead z n to read' i m) (let q : j ≡ length read' - 1 = omega arith in q)
      (λ i low. has i low ∙ ap (held z) (sym (more_before read byte i low))))))))

  pub fetch_seen : (at next : spot.Spot) (read : List value.Byte) (byte : value.Byte) (y : Byte) (w w' : World value.Byte) (c : Machine) → length read < count → to + count ≤ (core_in z).program.frame_bytes (number z cp)
      → behind from (length read) ≡ y → is_private from ≡ false → is_private y ≡ false → is_valid (core_in z).program (number z cp) y ≡ true
      → ((m : Memory) → m y ≡ c.memory y → held_at (core_in z) y m (world_as (held z) (arrived z.outside w)) ≡ held z byte)
      → ((m : Memory) → m y ≡ c.memory y → arrived z.outside (after_read (core_in z) y m (world_as (held z) (arrived z.outside w))) ≡ world_as (held z) (arrived z.outside w'))
      → is_due (arrived z.outside w) ≡ false
      → Mirrors z (state cp (Fetch at read) k l w) c → Comes (core_in z) (Mirrors z (state cp (Fetch next (read ++ byte ∷ [])) k l w')) 6 1 c
  unfolding active
  fetch_seen at next [] byte y w w' c lt room source_is seen public valid is world due h =
      let n = number z cp in
      let g = ground_in z cp in
      let T = Mirrors z (state cp (Fetch next (byte ∷ [])) k l w') in
      comes_within (core_in z) T 3 1 6 1 c
      (seen_last next [] byte y w w' c.memory c lt room source_is seen public valid (is c.memory refl) (world c.memory refl) due h.agrees h.holds (λ i low. absurd (omega arith))
      (subst (λ x. Placed (core_in z) n None x (stack_after z g k) c.memory (world_as (held z) (arrived z.outside w)) c) (reads.code at [] ∙ seen_code z from at pointer (Frame g.copy to) count [] r seen) (placed_of z (state cp (Fetch at []) k l w) c h)))
      (omega arith) (omega arith)
  fetch_seen at next (x ∷ read) byte y w w' c lt room source_is seen public valid is world due h =
      let n = number z cp in
      let g = ground_in z cp in
      let all = x ∷ read in
      let j = length read in
      let T = Mirrors z (state cp (Fetch next (all ++ byte ∷ [])) k l w') in
      let W = world_as (held z) (arrived z.outside w) in
      let last = held z (slice_index_or all j values.Unset) in
      let R = todo (copies_from (Frame g.copy to) from (length all) (count - length all)) r in
      let m' = with_byte c.memory (Frame n (to + j)) last in
      let now : reading_at z g k at all ≡ Put (Frame n (to + j)) last ∷ R = reads.code at all ∙ seen_code z from at pointer (Frame g.copy to) count all r seen ∙ ap (λ i. putting z (Frame i to) all R) (own_copy z cp) ∙ putting_last z n to j all R refl in
      let other : m' y ≡ c.memory y = off (bytes.same_byte y (Frame n (to + j))) last (c.memory y) (no_frame y n (to + j) public) in
      comes_within (core_in z) T (3 + 3) 1 6 1 c
      (put_then (core_in z) T n None (stack_after z g k) W (due_below z (arrived z.outside w) due) (again_below z w) (Frame n (to + j)) last R c.memory c 3 1 (own_frame (core_in z).program n (to + j) 1 (omega arith))
      (subst (λ t. Placed (core_in z) n None t (stack_after z g k) c.memory W c) now (placed_of z (state cp (Fetch at all) k l w) c h))
      (λ d pd.
      seen_last next all byte y w w' m' d lt room source_is seen public valid (is m' other) (world m' other) due
      (byte_agrees (active cp (Fetch next (all ++ byte ∷ [])) k) c.memory j last h.agrees)
      (byte_holds c.memory j last h.holds)
      (read_more z n to all c.memory last j
      (λ i low. (subst (λ b. HasRead z n to all (if b then length all else length all - 1) c.memory) seen (subst (λ t. HasRead z t to all (in_place (Fixed from) at (length all)) c.memory) (own_copy z cp) (reads.has at all c.memory h.value))) i (omega arith))
      refl)
      pd))
      (omega arith) (omega arith)

  -- ---- all bytes were read
  no_copies : (read : List value.Byte) → length read ≡ count → todo (copies_from (Frame (ground_in z cp).copy to) from (length read) (count - length read)) r ≡ r
  no_copies read e = let q : count - length read ≡ 0 = omega arith in ap (λ i. todo (copies_from (Frame (ground_in z cp).copy to) from (length read) i) r) q

  value_read : (want : Bool) (read : List value.Byte) (v : Datum) (b : ℕ) (m : Memory) → b ≡ to → byte_count v ≤ length read → ((i : ℕ) → i < byte_count v → held z (slice_index_or read i values.Unset) ≡ held z (byte_of v i)) → HasRead z (number z cp) to read (length read) m → HasIf want z (ground_in z cp).copy b v m
  value_read true read v b m e le same has = λ i lt. ap (λ n. m (Frame n (b + i))) (own_copy z cp) ∙ ap (λ x. m (Frame (number z cp) (x + i))) e ∙ has i (omega arith) ∙ same i lt
  value_read false read v b m e le same has = tt

  -- the value goes on, to the node that read it or to the one below
  pub fixed_done : (at : spot.Spot) (read : List value.Byte) (v : Datum) (k' : List Pending) (w : World value.Byte) (c : Machine) → length read ≡ count → to + count ≤ (core_in z).program.frame_bytes (number z cp) → byte_count v ≤ count
      → ((i : ℕ) → i < byte_count v → held z (slice_index_or read i values.Unset) ≡ held z (byte_of v i))
      → r ≡ code_after (ground_in z cp) k' → stack_after z (ground_in z cp) k ≡ stack_after z (ground_in z cp) k' → base (ground_in z cp) k' ≡ to → ((m : Memory) → Holds z (ground_in z cp) k m → Holds z (ground_in z cp) k' m) → active cp (Fetch at read) k ≡ active cp (Value v) k' → is_due (arrived z.outside w) ≡ false
      → (hidden : Bool) → is_private from ≡ hidden → Mirrors z (state cp (Fetch at read) k l w) c → Comes (core_in z) (Mirrors z (state cp (Value v) k' l (arrived z.outside w))) 3 0 c
  fixed_done at read v k' w c all room le same rest stack based holds live due true hidden h =
      let n = number z cp in
      let g = ground_in z cp in
      let T = Mirrors z (state cp (Value v) k' l (arrived z.outside w)) in
      let W = world_as (held z) (arrived z.outside w) in
      comes_within (core_in z) T 0 0 3 0 c
      (arrive z cp (Value v) k' l w c.memory c
      (subst (λ s. Placed (core_in z) n None (code_after g k') s c.memory W c) stack
      (subst (λ x. Placed (core_in z) n None x (stack_after z g k) c.memory W c) (reads.code at read ∙ hidden_code z from at pointer (Frame g.copy to) count read r hidden ∙ no_copies read all ∙ rest) (placed_of z (state cp (Fetch at read) k l w) c h)))
      (subst (λ y. Agrees z y l c.memory) live h.agrees) (holds c.memory h.holds)
      (value_read (wanted k') read v (base g k') c.memory based (omega arith) same
      (subst (λ b. HasRead z n to read (if b then length read else length read - 1) c.memory) hidden (subst (λ x. HasRead z x to read (in_place (Fixed from) at (length read)) c.memory) (own_copy z cp) (reads.has at read c.memory h.value)))))
      (omega arith) (omega arith)
  fixed_done at [] v k' w c all room le same rest stack based holds live due false seen h =
      let n = number z cp in
      let g = ground_in z cp in
      let T = Mirrors z (state cp (Value v) k' l (arrived z.outside w)) in
      let W = world_as (held z) (arrived z.outside w) in
      comes_within (core_in z) T 0 0 3 0 c
      (arrive z cp (Value v) k' l w c.memory c
      (subst (λ s. Placed (core_in z) n None (code_after g k') s c.memory W c) stack
      (subst (λ x. Placed (core_in z) n None x (stack_after z g k) c.memory W c) (reads.code at [] ∙ seen_code z from at pointer (Frame g.copy to) count [] r seen ∙ no_copies [] all ∙ rest) (placed_of z (state cp (Fetch at []) k l w) c h)))
      (subst (λ y. Agrees z y l c.memory) live h.agrees) (holds c.memory h.holds)
      (value_read (wanted k') [] v (base g k') c.memory based (omega arith) same (λ i low. absurd (omega arith))))
      (omega arith) (omega arith)
  fixed_done at (x ∷ read) v k' w c all room le same rest stack based holds live due false seen h =
      let n = number z cp in
      let g = ground_in z cp in
      let every = x ∷ read in
      let j = length read in
      let T = Mirrors z (state cp (Value v) k' l (arrived z.outside w)) in
      let W = world_as (held z) (arrived z.outside w) in
      let last = held z (slice_index_or every j values.Unset) in
      let m' = with_byte c.memory (Frame n (to + j)) last in
      let now : reading_at z g k at every ≡ Put (Frame n (to + j)) last ∷ code_after g k' =
      reads.code at every ∙ seen_code z from at pointer (Frame g.copy to) count every r seen ∙ ap (λ i. putting z (Frame i to) every (todo (copies_from (Frame g.copy to) from (length every) (count - length every)) r)) (own_copy z cp) ∙ putting_last z n to j every (todo (copies_from (Frame g.copy to) from (length every) (count - length every)) r) refl ∙ ap (λ y. Put (Frame n (to + j)) last ∷ y) (no_copies every all ∙ rest) in
      comes_within (core_in z) T (3 + 0) 0 3 0 c
      (put_then (core_in z) T n None (stack_after z g k) W (due_below z (arrived z.outside w) due) (again_below z w) (Frame n (to + j)) last (code_after g k') c.memory c 0 0 (own_frame (core_in z).program n (to + j) 1 (omega arith))
      (subst (λ t. Placed (core_in z) n None t (stack_after z g k) c.memory W c) now (placed_of z (state cp (Fetch at every) k l w) c h))
      (λ d pd.
      arrive z cp (Value v) k' l w m' d (subst (λ s. Placed (core_in z) n None (code_after g k') s m' W d) stack pd)
      (byte_agrees (active cp (Value v) k') c.memory j last (subst (λ y. Agrees z y l c.memory) live h.agrees))
      (holds m' (byte_holds c.memory j last h.holds))
      (value_read (wanted k') every v (base g k') m' based (omega arith) same
      (read_more z n to every c.memory last j
      (λ i low. (subst (λ b. HasRead z n to every (if b then length every else length every - 1) c.memory) seen (subst (λ t. HasRead z t to every (in_place (Fixed from) at (length every)) c.memory) (own_copy z cp) (reads.has at every c.memory h.value))) i (omega arith))
      refl))))
      (omega arith) (omega arith)
