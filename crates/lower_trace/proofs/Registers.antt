-- Registers of the device are read and written by their names.
use Rattle.std.proofs.Common.{◌≡◌, ℕ, ◌+◌, ◌-◌, ◌<◌, ◌≤◌, Bool, true, false, not, if◌then◌else◌, List, [], ◌∷◌, ◌++◌, length, Option, Some, None, refl, sym, ap, ◌∙◌, subst, arith}
use Rattle.c_ints.specs.Quantity.{Quantity}
use Rattle.core_code.specs.Bytes as bytes
use Rattle.core_code.specs.Bytes.{Held, Memory, is_private}
use Rattle.core_code.specs.Machine.{Machine, Task, Do as Todo, is_valid, may_hold, memory_with, after_write, held_at, after_read}
use Rattle.core_code.specs.Tree as code
use Rattle.core_code.specs.declared.code.Byte.{Byte}
use Rattle.core_code.specs.declared.code.Byte.TheVariants.{Frame, Device}
use Rattle.core_puts.specs.Bytes.{beyond, behind}
use Rattle.lower_expr.specs.declared.places.Spot.TheVariants.{Fixed}
use Rattle.pic_world.specs.World.{World, Happening, WriteOf, arrived, is_due, world_as, device_value, after_device_read, after_device_write, sets_gie}
use Rattle.pic_world.specs.declared.Cell.TheVariants as cells
use Rattle.pic_world.proofs.WorldLaws.{arrived_as, value_as, gie_as, read_as, write_as}
use Rattle.src_rules.specs.Accesses.{after_taking, after_putting}
use Rattle.src_rules.specs.State.{state}
use Rattle.src_values.specs.Accesses.{take_byte, put_byte, Puts, Refuses}
use Rattle.src_values.specs.Control.{Fetch, Write, Pending, active}
use Rattle.src_values.specs.Data as datum
use Rattle.src_values.specs.Data.{Datum}
use Rattle.src_values.specs.Memory as source
use Rattle.src_values.specs.Values.{byte_count, byte_of, number_in}
use Rattle.src_values.specs.declared.objects.Byte as value
use Rattle.src_values.specs.declared.objects.Byte.TheVariants as values
use Rattle.src_values.specs.declared.objects.CopyOf.{CopyOf}
use Rattle.src_values.specs.declared.objects.Spot as spot
use Rattle.src_values.specs.declared.objects.Spot.TheVariants as spots
use Rattle.src_values.specs.declared.objects.Undef.TheVariants.{Gie}
use Rattle.lower_trace.proofs.Beginnings.{Follow}
use Rattle.lower_trace.proofs.CodeLeft.{Scene, held, number, ground_in, core_in, source_in, todo, stored_at, copies_from, writing_at, stack_after}
use Rattle.lower_trace.proofs.Constants.{due_below, again_below}
use Rattle.lower_trace.proofs.Fetching.{Reads, fetch_seen, copies_step}
use Rattle.lower_trace.proofs.Giving.{Around, placed_of, mirrors}
use Rattle.lower_trace.proofs.Kept.{SceneLaws, own_copy}
use Rattle.lower_trace.proofs.Mirrors.{standing, HasDatum, Mirrors}
use Rattle.lower_trace.proofs.Operations.{beyond_is, own_frame, write_then}
use Rattle.lower_trace.proofs.Placed.{Placed}

-- a register is read
pub fetch_register : (z : Scene) (laws : SceneLaws z) (cp : CopyOf) (k : List Pending) (l : source.Memory) (from : Byte) (to count : ℕ) (pointer : Byte) (r : List Task) (reads : Reads z (ground_in z cp) k (Fixed from) to count pointer r) (around : Around z cp k) (room : to + count ≤ (core_in z).program.frame_bytes (number z cp)) (live : List CopyOf) (fits : value.Byte → Bool) (address : ℕ) (at next : spot.Spot) (read : List value.Byte) (line : ℕ) (w : World value.Byte) (c : Machine) → length read < count → is_private from ≡ false → behind from (length read) ≡ Device address → is_valid (core_in z).program (number z cp) (Device address) ≡ true → is_due (arrived z.outside w) ≡ false
    → Mirrors z (state cp (Fetch at read) k l w) c
    → Follow z 6 1 c (after_taking (take_byte (source_in z) live cp.root fits (spots.Device address) l (arrived z.outside w)) (λ byte. Fetch next (read ++ byte ∷ [])) cp k l line)
unfolding take_byte held_at after_read
fetch_register z laws cp k l from to count pointer r reads around room live fits address at next read line w c lt seen target valid due h =
    let V = arrived z.outside w in
    fetch_seen z laws cp k l from to count pointer r reads around at next read (values.Number (device_value z.outside address V)) (Device address) w (after_device_read values.Number z.outside address V) c lt room target seen refl valid
    (λ m e. ap bytes.Number (value_as (held z) z.outside address V))
    (λ m e. ap (arrived z.outside) (read_as (held z) values.Number z.outside address V) ∙ arrived_as (held z) z.outside (after_device_read values.Number z.outside address V))
    due h

module _ (z : Scene) (laws : SceneLaws z) (cp : CopyOf) (k : List Pending) (l : source.Memory) (X : Byte) (count from : ℕ) (r : List Task) (code_is : (a : spot.Spot) (i : ℕ) → writing_at z (ground_in z cp) k a i ≡ todo (copies_from X (Frame (ground_in z cp).copy from) i (count - i)) r) (from_is : stored_at (ground_in z cp) k ≡ from) (room : from + count ≤ (core_in z).program.frame_bytes (number z cp)) where
  register_case : (sets : Bool) (event : Option (Happening value.Byte)) (address number_is : ℕ) (at next : spot.Spot) (q : Quantity) (done line : ℕ) (w : World value.Byte) (c : Machine) → ((y : Datum) (i : ℕ) → standing at i y ≡ y) → ((y : Datum) (i : ℕ) → standing next i y ≡ y) → byte_of (datum.Number q) done ≡ values.Number number_is → sets_gie address number_is (arrived z.outside w) ≡ sets → done < count → done < byte_count (datum.Number q) → behind X done ≡ Device address → is_valid (core_in z).program (number z cp) (Device address) ≡ true → is_due (arrived z.outside w) ≡ false
      → Mirrors z (state cp (Write at (datum.Number q) done) k l w) c
      → Follow z 6 1 c (after_putting (if sets then Refuses Gie else Puts l (after_device_write values.Number address number_is (arrived z.outside w)) event) (Write next (datum.Number q) (done + 1)) cp k line)
  unfolding active is_valid memory_with after_write
  register_case true event address number_is at next q done line w c plain_at plain_next byte_is gie lt part target valid due h = tt
  register_case false event address number_is at next q done line w c plain_at plain_next byte_is gie lt part target valid due h =
      let n = number z cp in
      let g = ground_in z cp in
      let v = datum.Number q in
      let V = arrived z.outside w in
      let W = world_as (held z) V in
      let w' = after_device_write values.Number address number_is V in
      let T = Mirrors z (state cp (Write next v (done + 1)) k l w') in
      let small = laws.small n in
      let source_is : behind (Frame g.copy from) done ≡ Frame n (from + done) = ap (λ i. Frame i (beyond from done)) (own_copy z cp) ∙ ap (Frame n) (beyond_is from done (omega arith)) in
      let R = todo (copies_from X (Frame g.copy from) (done + 1) (count - (done + 1))) r in
      let now : writing_at z g k at done ≡ Todo [] (code.Copy (Device address) (Frame n (from + done))) ∷ R =
      code_is at done ∙ ap (λ ts. todo ts r) (copies_step X (Frame g.copy from) done count lt) ∙ ap (λ y. Todo [] (code.Copy y (behind (Frame g.copy from) done)) ∷ R) target ∙ ap (λ y. Todo [] (code.Copy (Device address) y) ∷ R) source_is in
      let has : HasDatum z g.copy (stored_at g k) v c.memory = subst (λ y. HasDatum z g.copy (stored_at g k) y c.memory) (plain_at v done) h.value in
      let holds_byte : c.memory (Frame n (from + done)) ≡ bytes.Number number_is = ap (λ i. c.memory (Frame i (from + done))) (sym (own_copy z cp)) ∙ ap (λ i. c.memory (Frame g.copy (i + done))) (sym from_is) ∙ has done part ∙ ap (held z) byte_is in
      write_then (core_in z) T n None (stack_after z g k) W (due_below z V due) (again_below z w) (Device address) (Frame n (from + done)) R c.memory c refl refl (own_frame (core_in z).program n (from + done) 1 (omega arith)) refl valid
      (ap (λ y. may_hold (core_in z).program (Device address) y W) holds_byte ∙ ap not (gie_as (held z) address number_is V ∙ gie))
      (subst (λ y. Placed (core_in z) n None y (stack_after z g k) c.memory W c) now (placed_of z (state cp (Write at v done) k l w) c h))
      (λ d pd.
      mirrors z cp (Write next v (done + 1)) k l w' c.memory d
      (subst (λ y. Placed (core_in z) n None y (stack_after z g k) c.memory (world_as (held z) (arrived z.outside w')) d) (sym (code_is next (done + 1)))
      (subst (λ y. Placed (core_in z) n None R (stack_after z g k) c.memory y d)
      (ap (λ y. arrived z.outside (after_write (Device address) y W)) holds_byte ∙ ap (arrived z.outside) (write_as (held z) values.Number address number_is V) ∙ arrived_as (held z) z.outside w') pd))
      h.agrees h.holds (subst (λ y. HasDatum z g.copy (stored_at g k) y c.memory) (sym (plain_next v (done + 1))) has))

  -- a register is written
  pub store_register : (live : List CopyOf) (address : ℕ) (at next : spot.Spot) (q : Quantity) (done line : ℕ) (w : World value.Byte) (c : Machine) → ((y : Datum) (i : ℕ) → standing at i y ≡ y) → ((y : Datum) (i : ℕ) → standing next i y ≡ y) → done < count → done < byte_count (datum.Number q) → behind X done ≡ Device address → is_valid (core_in z).program (number z cp) (Device address) ≡ true → is_due (arrived z.outside w) ≡ false
      → Mirrors z (state cp (Write at (datum.Number q) done) k l w) c
      → Follow z 6 1 c (after_putting (put_byte (source_in z) live cp.root (spots.Device address) (byte_of (datum.Number q) done) l (arrived z.outside w)) (Write next (datum.Number q) (done + 1)) cp k line)
  unfolding put_byte
  store_register live address at next q done line w c plain_at plain_next lt part target valid due h =
      let value = number_in (byte_of (datum.Number q) done) in
      register_case (sets_gie address value (arrived z.outside w)) (Some (WriteOf (cells.Device address) (values.Number value))) address value at next q done line w c plain_at plain_next refl refl lt part target valid due h
