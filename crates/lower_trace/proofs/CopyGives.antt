-- A byte of a structure that is copied through pointers goes from its way to its place.
use Rattle.core_code.specs.Bytes.{Held, Memory, same_byte, with_byte}
use Rattle.core_code.specs.Machine.{Machine, Task, Do as Todo, after_write, may_hold, memory_with}
use Rattle.core_code.specs.Tree as code
use Rattle.core_code.specs.declared.code.Byte.TheVariants.{Frame, Result}
use Rattle.core_puts.specs.Bytes.{behind}
use Rattle.lower_expr.specs.Rows.{given, side_of}
use Rattle.lower_expr.specs.Spots.{pointer_bytes}
use Rattle.lower_expr.specs.declared.places.Spot as place
use Rattle.lower_expr.specs.declared.places.Spot.TheVariants.{Bit, Computed, Fixed}
use Rattle.lower_trace.proofs.Advancing.{IsThrough, copying_goes, second_is, third_is, trail_of, trail_parts, trails_above}
use Rattle.lower_trace.proofs.Beginnings.{Follow}
use Rattle.lower_trace.proofs.Changing.{agrees_above, holds_above}
use Rattle.lower_trace.proofs.CodeLeft.{Scene, bytes_from, code_after, copying, core_in, ground_in, held, is_seen, number, putting_if, source_in, stack_after, todo}
use Rattle.lower_trace.proofs.Constants.{again_below, due_below}
use Rattle.lower_trace.proofs.CopyNodes.{CopyNode}
use Rattle.lower_trace.proofs.CopyTakes.{OwnIf, byte_above, carries_there, carry_code, trails_pointer}
use Rattle.lower_trace.proofs.CopyWrites.{behind_next, byte_holds, byte_world, copied_arrives}
use Rattle.lower_trace.proofs.FixedCopies.{own_byte}
use Rattle.lower_trace.proofs.FixedWrites.{IsOpen}
use Rattle.lower_trace.proofs.Giving.{Around, placed_of, value_high}
use Rattle.lower_trace.proofs.Handing.{valid_frame}
use Rattle.lower_trace.proofs.Kept.{Reached, SameTemps, SceneLaws}
use Rattle.lower_trace.proofs.Loading.{ReachesAll}
use Rattle.lower_trace.proofs.MemberPlaces.{fixed_bytes}
use Rattle.lower_trace.proofs.Members.{byte_is_so}
use Rattle.lower_trace.proofs.Mirrors.{Agrees, HasCopied, HasOne, Holds, Mirrors, Trails, core_byte}
use Rattle.lower_trace.proofs.NumberBytes.{pointer_back}
use Rattle.lower_trace.proofs.Operations.{Comes, comes_within, own_frame, put_then, write_then}
use Rattle.lower_trace.proofs.Placed.{Placed}
use Rattle.lower_trace.proofs.Placing.{Writable, writable_so}
use Rattle.lower_trace.proofs.Pointing.{store_byte_then, store_then}
use Rattle.lower_trace.proofs.Returning.{Resumables}
use Rattle.lower_trace.proofs.Storing.{results_kept, temps_kept}
use Rattle.lower_trace.proofs.Written.{byte_same, on}
use Rattle.lower_trace.specs.Lowering.{object_as, offset_as}
use Rattle.pic_world.specs.World.{World, WriteOf, arrived, is_due, world_as}
use Rattle.src_rules.specs.Accesses.{after_putting, copy_write}
use Rattle.src_rules.specs.Standing.{IsPlaced, IsThere}
use Rattle.src_rules.specs.State.{state}
use Rattle.src_values.specs.Accesses.{event_at, is_unset, noting, put_byte, put_unless, write_fault}
use Rattle.src_values.specs.Control.{CopyRead, CopyWrite, Pending, active, callers, line_at}
use Rattle.src_values.specs.Memory as source
use Rattle.src_values.specs.Objects.{object_bytes}
use Rattle.src_values.specs.declared.objects.Byte as value
use Rattle.src_values.specs.declared.objects.CopyOf.{CopyOf}
use Rattle.src_values.specs.declared.objects.Object as object
use Rattle.src_values.specs.declared.objects.Pointer.TheVariants.{Into, Null}
use Rattle.src_values.specs.declared.objects.Pointer.{Pointer}
use Rattle.src_values.specs.declared.objects.Spot as spot
use Rattle.src_values.specs.declared.objects.Spot.TheVariants as spots
use Rattle.src_values.specs.declared.objects.Undef.{Undef}
use Rattle.std.proofs.Common.{Bool, List, None, Option, Some, [], ap, arith, false, refl, subst, suc, sym, true, ℕ, ◌+◌, ◌-◌, ◌<◌, ◌∙◌, ◌∷◌, ◌≡◌, ◌≤◌}

module _ (z : Scene) (laws : SceneLaws z) (cp : CopyOf) (k : List Pending) (l : source.Memory) (around : Around z cp k) (resumables : Resumables cp.root k) (p q : place.Spot) (b size : ℕ) (through : IsThrough p q) (node : CopyNode z cp k p q b size) (room : b + pointer_bytes p + pointer_bytes q + 1 ≤ (core_in z).program.frame_bytes (number z cp)) (reach : ReachesAll z cp k) (own_room : (ground_in z cp).base ≤ (core_in z).program.frame_bytes (number z cp)) where
  abbrev on_way : ℕ
  on_way = b + pointer_bytes p + pointer_bytes q

  abbrev left_code : ℕ → ℕ → List Task
  left_code i left = todo (bytes_from (Result cp.root 0) p q (Frame (number z cp) b) (i + 1) left) (code_after (ground_in z cp) k)

  -- the byte goes from its way to its place
  give_then : (u : place.Spot) (o : object.Object) (f done : ℕ) (byte : value.Byte) (r : List Task) (U : Machine → Type 0) (w : World Held) (m : Memory) (c : Machine) → is_due w ≡ false → arrived (core_in z).outside w ≡ w → b + pointer_bytes u ≤ on_way → OwnIf z cp u (spots.Memory (Into o f)) → IsThere z.program o → Writable z (cp ∷ callers k) cp.root o f → may_hold (core_in z).program (core_byte z o f) (held z byte) w ≡ true
      → Trails z (number z cp) b u (spots.Memory (Into o f)) done 0 m → m (Frame (number z cp) on_way) ≡ held z byte
      → Placed (core_in z) (number z cp) None (Todo [] (given (side_of u (Frame (number z cp) b)) (Frame (number z cp) on_way) done) ∷ r) (stack_after z (ground_in z cp) k) m w c
      → ((y : Machine) → Placed (core_in z) (number z cp) None r (stack_after z (ground_in z cp) k) (memory_with (core_byte z o f) (held z byte) m) (arrived (core_in z).outside (after_write (core_byte z o f) (held z byte) w)) y → U y)
      → Comes (core_in z) U 20 1 c
  give_then (Fixed X) o f done byte r U w m c due now fits own there ok may h is pl next =
      let n = number z cp in
      let s = stack_after z (ground_in z cp) k in
      let named = own_byte z laws cp k o f around own ok.inside own_room in
      let target : behind X done ≡ core_byte z o f = sym (byte_is_so (core_byte z o f) (behind X done) h) in
      comes_within (core_in z) U 6 1 20 1 c
      (write_then (core_in z) U n None s w due now (core_byte z o f) (Frame n on_way) r m c (laws.kept o f there ok.inside) refl (valid_frame (core_in z) n on_way (omega arith)) named.own named.valid (ap (λ y. may_hold (core_in z).program (core_byte z o f) y w) is ∙ may)
      (subst (λ y. Placed (core_in z) n None (Todo [] (code.Copy y (Frame n on_way)) ∷ r) s m w c) target pl)
      (λ y py. next y (subst (λ t. Placed (core_in z) n None r s (memory_with (core_byte z o f) t m) (arrived (core_in z).outside (after_write (core_byte z o f) t w)) y) is py)))
      (omega arith) (omega arith)
  give_then (Bit register bit) o f done byte r U w m c due now fits own there ok may h is pl next = absurd h
  give_then Computed o f done byte r U w m c due now fits own there ok may h is pl next =
      let n = number z cp in
      let s = stack_after z (ground_in z cp) k in
      let X = object_as z.copies o in
      let off = offset_as z.program o + f in
      comes_within (core_in z) U (14 + 6) 1 20 1 c
      (store_then (core_in z) U n None s w due now (Frame n b) (Frame n on_way) 1 (record { object = X; offset = off }) r m c 6 1 (own_frame (core_in z).program n b 2 (omega arith))
      (pointer_back z n b o f m (trails_pointer z n b done (Into o f) m h)) pl
      (λ y py. store_byte_then (core_in z) U n None s w due now X off (Frame n on_way) 0 r m y (own_frame (core_in z).program n on_way 1 room) (λ s' e. reach o f s' ok.alive ok.free there ok.inside e) (ap (λ t. may_hold (core_in z).program (core_byte z o f) t w) is ∙ may) py
      (λ d pd. next d (subst (λ t. Placed (core_in z) n None r s (memory_with (core_byte z o f) t m) (arrived (core_in z).outside (after_write (core_byte z o f) t w)) d) is pd))))
      (omega arith) (omega arith)

  -- a side, where its byte is done
  side_next : (u : place.Spot) (y done : ℕ) (o : object.Object) (f : ℕ) (m : Memory) → IsThere z.program o → f < object_bytes z.program o → Trails z (number z cp) y u (spots.Memory (Into o f)) done 0 m → Trails z (number z cp) y u (spots.Memory (Into o (f + 1))) (done + 1) 1 m
  side_next (Fixed x) y done o f m there inside h = ap Some (sym (fixed_bytes z laws o f 1 there (omega arith)) ∙ ap (λ t. behind t 1) (byte_is_so (core_byte z o f) (behind x done) h) ∙ behind_next x done)
  side_next (Bit register bit) y done o f m there inside h = absurd h
  side_next Computed y done o f m there inside h = (Into o f, refl, trails_pointer z (number z cp) y done (Into o f) m h, tt)

  side_kept : (u : place.Spot) (y done lag : ℕ) (at : spot.Spot) (m m' : Memory) → (ground_in z cp).base ≤ y → SameTemps z cp m m' → Trails z (number z cp) y u at done lag m → Trails z (number z cp) y u at done lag m'
  side_kept (Fixed x) y done lag at m m' high s h = h
  side_kept (Bit register bit) y done lag at m m' high s h = h
  side_kept Computed y done lag at m m' high s h = (h.0, h.1, λ i lt. s (y + i) (omega arith) ∙ h.2 i lt, h.3)

  -- the step, where the byte stands on its way
  give_arrives : (o e_o : object.Object) (f e : ℕ) (byte : value.Byte) (left : ℕ) (w : World value.Byte) (m : Memory) (c : Machine) → suc left ≤ size → OwnIf z cp p (spots.Memory (Into o f)) → IsOpen z (spots.Memory (Into o f)) → IsThere z.program o → IsThere z.program e_o → e < object_bytes z.program e_o → Writable z (cp ∷ callers k) cp.root o f → is_unset byte ≡ false → Reached z (ground_in z cp) k → is_due (arrived z.outside w) ≡ false
      → Agrees z (cp ∷ callers k) l m → Holds z (ground_in z cp) k m → Trails z (number z cp) b p (spots.Memory (Into o f)) (size - suc left) 0 m → Trails z (number z cp) (b + pointer_bytes p) q (spots.Memory (Into e_o e)) (size - suc left) 0 m → HasOne true cp.root m → m (Frame (number z cp) on_way) ≡ held z byte
      → Placed (core_in z) (number z cp) None (Todo [] (given (side_of p (Frame (number z cp) b)) (Frame (number z cp) on_way) (size - suc left)) ∷ left_code (size - suc left) left) (stack_after z (ground_in z cp) k) m (world_as (held z) (arrived z.outside w)) c
      → Comes (core_in z) (Mirrors z (state cp (CopyRead (spots.Memory (Into o (f + 1))) (spots.Memory (Into e_o (e + 1))) left) k (source.with_byte l o f byte) (noting (event_at z.program WriteOf o f byte) (arrived z.outside w)))) 20 1 c
  give_arrives o e_o f e byte left w m c part own open_is there from_there within ok set reached due agrees holds hp hq one is pl =
      let n = number z cp in
      let g = ground_in z cp in
      let V = arrived z.outside w in
      let W = world_as (held z) V in
      let root = cp.root in
      let done = size - suc left in
      let w' = noting (event_at z.program WriteOf o f byte) V in
      let from' = spots.Memory (Into e_o (e + 1)) in
      let to' = spots.Memory (Into o (f + 1)) in
      let U = Mirrors z (state cp (CopyRead to' from' left) k (source.with_byte l o f byte) w') in
      let m' = with_byte m (core_byte z o f) (held z byte) in
      let kept : SameTemps z cp m m' = temps_kept z laws o f there ok.inside m (held z byte) cp around.reached in
      let high = value_high z cp k around in
      let based = node.based in
      let next_is : suc done ≡ size - left = omega arith in
      let plus_is : done + 1 ≡ suc done = omega arith in
      let count : left ≡ size - suc done = omega arith in
      let later : left_code done left ≡ todo (copying root p q (Frame n b) size (size - left)) (code_after g k) =
      ap (λ y. todo (bytes_from (Result root 0) p q (Frame n b) y left) (code_after g k)) plus_is
      ∙ ap (λ y. todo (bytes_from (Result root 0) p q (Frame n b) (suc done) y) (code_after g k)) count
      ∙ ap (λ y. todo y (code_after g k)) (sym (copying_goes root p q (Frame n b) size done through))
      ∙ ap (λ y. todo (copying root p q (Frame n b) size y) (code_after g k)) next_is in
      let copied : HasCopied z root n b p q to' from' (size - left) m' =
      subst (λ y. HasCopied z root n b p q to' from' y m') next_is
      (trail_of z root n b p q to' from' (suc done) 1 true m' through
      (subst (λ y. Trails z n b p to' y 1 m') plus_is (side_kept p b (done + 1) 1 to' m m' (omega arith) kept (side_next p b done o f m there ok.inside hp)))
      (subst (λ y. Trails z n y q from' (suc done) 1 m') (sym (second_is z laws cp k l around resumables p q b size through node.based room))
      (subst (λ y. Trails z n (b + pointer_bytes p) q from' y 1 m') plus_is (side_kept q (b + pointer_bytes p) (done + 1) 1 from' m m' (omega arith) kept (side_next q (b + pointer_bytes p) done e_o e m from_there within hq))))
      (results_kept z o f (held z byte) m root 0 ∙ one.0, results_kept z o f (held z byte) m root 1 ∙ one.1)) in
      give_then p o f done byte (left_code done left) U W m c (due_below z V due) (again_below z w) (omega arith) own there ok (byte_holds z o f byte W laws there open_is set) hp is pl
      (λ d pd. copied_arrives z laws cp k l around reached p q b size node o f from' byte left m w w' d there ok.inside agrees holds copied
      (subst (λ y. Placed (core_in z) n None y (stack_after z g k) (memory_with (core_byte z o f) (held z byte) m) (world_as (held z) (arrived z.outside w')) d) later
      (subst (λ y. Placed (core_in z) n None (left_code done left) (stack_after z g k) (memory_with (core_byte z o f) (held z byte) m) y d) (byte_world z o f byte V open_is) pd)))

  -- the byte is written on its way first, if its read was an operation of its own
  seen_case : (seen : Bool) (o e_o : object.Object) (f e : ℕ) (byte : value.Byte) (left : ℕ) (w : World value.Byte) (c : Machine) → is_seen q (spots.Memory (Into e_o e)) ≡ seen → suc left ≤ size → OwnIf z cp p (spots.Memory (Into o f)) → IsOpen z (spots.Memory (Into o f)) → IsThere z.program o → IsThere z.program e_o → e < object_bytes z.program e_o → Writable z (cp ∷ callers k) cp.root o f → Reached z (ground_in z cp) k → is_due (arrived z.outside w) ≡ false
      → Mirrors z (state cp (CopyWrite (spots.Memory (Into o f)) (spots.Memory (Into e_o e)) byte left) k l w) c
      → Comes (core_in z) (Mirrors z (state cp (CopyRead (spots.Memory (Into o (f + 1))) (spots.Memory (Into e_o (e + 1))) left) k (source.with_byte l o f byte) (noting (event_at z.program WriteOf o f byte) (arrived z.outside w)))) 24 1 c
  unfolding active
  seen_case true o e_o f e byte left w c seen part own open_is there from_there within ok reached due h =
      let n = number z cp in
      let g = ground_in z cp in
      let V = arrived z.outside w in
      let W = world_as (held z) V in
      let root = cp.root in
      let done = size - suc left in
      let to = spots.Memory (Into o f) in
      let from = spots.Memory (Into e_o e) in
      let carried = node.carries to from byte left c.memory h.value in
      let parts = trail_parts z root n b p q to from done 0 true c.memory through carried.0 in
      let U = Mirrors z (state cp (CopyRead (spots.Memory (Into o (f + 1))) (spots.Memory (Into e_o (e + 1))) left) k (source.with_byte l o f byte) (noting (event_at z.program WriteOf o f byte) V)) in
      let m = with_byte c.memory (Frame n on_way) (held z byte) in
      let above = byte_above z laws cp k l around resumables p q b size through node room reach own_room c.memory (held z byte) in
      let high = value_high z cp k around in
      let based = node.based in
      let hq = subst (λ y. Trails z n y q from done 0 c.memory) (second_is z laws cp k l around resumables p q b size through node.based room) parts.1 in
      comes_within (core_in z) U (3 + 20) 1 24 1 c
      (put_then (core_in z) U n None (stack_after z g k) W (due_below z V due) (again_below z w) (Frame n on_way) (held z byte) (Todo [] (given (side_of p (Frame n b)) (Frame n on_way) done) ∷ left_code done left) c.memory c 20 1 (own_frame (core_in z).program n on_way 1 room)
      (subst (λ y. Placed (core_in z) n None y (stack_after z g k) c.memory W c) (carry_code z laws cp k l around resumables p q b size through node room reach own_room from byte left part ∙ ap (λ t. putting_if t z (Frame n on_way) (byte ∷ []) (Todo [] (given (side_of p (Frame n b)) (Frame n on_way) done) ∷ left_code done left)) seen)
      (placed_of z (state cp (CopyWrite to from byte left) k l w) c h))
      (λ y py. give_arrives o e_o f e byte left w m y part own open_is there from_there within ok carried.2 reached due
      (agrees_above z laws cp (cp ∷ callers k) l c.memory m on_way around.reached (omega arith) above h.agrees)
      (holds_above z cp k c.memory m on_way around (omega arith) above h.holds)
      (trails_above z n p b done 0 on_way to c.memory m (omega arith) above parts.0) (trails_above z n q (b + pointer_bytes p) done 0 on_way from c.memory m (omega arith) above hq)
      (above (Result root 0) tt ∙ parts.2.0, above (Result root 1) tt ∙ parts.2.1)
      (on (same_byte (Frame n on_way) (Frame n on_way)) (held z byte) (c.memory (Frame n on_way)) (byte_same (Frame n on_way))) py))
      (omega arith) (omega arith)
  seen_case false o e_o f e byte left w c seen part own open_is there from_there within ok reached due h =
      let n = number z cp in
      let g = ground_in z cp in
      let V = arrived z.outside w in
      let W = world_as (held z) V in
      let root = cp.root in
      let done = size - suc left in
      let to = spots.Memory (Into o f) in
      let from = spots.Memory (Into e_o e) in
      let carried = node.carries to from byte left c.memory h.value in
      let parts = trail_parts z root n b p q to from done 0 true c.memory through carried.0 in
      let U = Mirrors z (state cp (CopyRead (spots.Memory (Into o (f + 1))) (spots.Memory (Into e_o (e + 1))) left) k (source.with_byte l o f byte) (noting (event_at z.program WriteOf o f byte) V)) in
      comes_within (core_in z) U 20 1 24 1 c
      (give_arrives o e_o f e byte left w c.memory c part own open_is there from_there within ok carried.2 reached due h.agrees h.holds parts.0
      (subst (λ y. Trails z n y q from done 0 c.memory) (second_is z laws cp k l around resumables p q b size through node.based room) parts.1) parts.2
      (carries_there z n b p q from byte on_way c.memory through (third_is z laws cp k l around resumables p q b size through node.based room) carried.1 seen)
      (subst (λ y. Placed (core_in z) n None y (stack_after z g k) c.memory W c) (carry_code z laws cp k l around resumables p q b size through node room reach own_room from byte left part ∙ ap (λ t. putting_if t z (Frame n on_way) (byte ∷ []) (Todo [] (given (side_of p (Frame n b)) (Frame n on_way) done) ∷ left_code done left)) seen)
      (placed_of z (state cp (CopyWrite to from byte left) k l w) c h)))
      (omega arith) (omega arith)

  write_case : (fault : Option Undef) (o e_o : object.Object) (f e : ℕ) (byte : value.Byte) (left line : ℕ) (w : World value.Byte) (c : Machine) → suc left ≤ size → OwnIf z cp p (spots.Memory (Into o f)) → IsOpen z (spots.Memory (Into o f)) → IsThere z.program o → IsThere z.program e_o → e < object_bytes z.program e_o → Reached z (ground_in z cp) k → is_due (arrived z.outside w) ≡ false
      → write_fault z.program (active cp (CopyWrite (spots.Memory (Into o f)) (spots.Memory (Into e_o e)) byte left) k) cp.root o f ≡ fault
      → Mirrors z (state cp (CopyWrite (spots.Memory (Into o f)) (spots.Memory (Into e_o e)) byte left) k l w) c
      → Follow z 24 1 c (after_putting (put_unless fault o f byte (event_at z.program WriteOf o f byte) l (arrived z.outside w)) (CopyRead (spots.Memory (Into o (f + 1))) (spots.Memory (Into e_o (e + 1))) left) cp k line)
  unfolding active
  write_case (Some kind) o e_o f e byte left line w c part own open_is there from_there within reached due fault_is h = tt
  write_case None o e_o f e byte left line w c part own open_is there from_there within reached due fault_is h =
      seen_case (is_seen q (spots.Memory (Into e_o e))) o e_o f e byte left w c refl part own open_is there from_there within (writable_so z (cp ∷ callers k) cp.root o f fault_is) reached due h

  -- the byte that was read is written
  pub through_copy_write : (x : Pointer) (e_o : object.Object) (e : ℕ) (byte : value.Byte) (left : ℕ) (w : World value.Byte) (c : Machine) → suc left ≤ size → OwnIf z cp p (spots.Memory x) → IsOpen z (spots.Memory x) → IsPlaced z.program (spots.Memory x) → IsThere z.program e_o → e < object_bytes z.program e_o → Reached z (ground_in z cp) k → is_due (arrived z.outside w) ≡ false
      → Mirrors z (state cp (CopyWrite (spots.Memory x) (spots.Memory (Into e_o e)) byte left) k l w) c
      → Follow z 24 1 c (copy_write (source_in z) (spots.Memory x) (spots.Memory (Into e_o e)) byte left k cp l (arrived z.outside w))
  unfolding put_byte
  through_copy_write Null e_o e byte left w c part own open_is placed from_there within reached due h = tt
  through_copy_write (Into o f) e_o e byte left w c part own open_is placed from_there within reached due h =
      write_case (write_fault z.program (active cp (CopyWrite (spots.Memory (Into o f)) (spots.Memory (Into e_o e)) byte left) k) cp.root o f) o e_o f e byte left (line_at k) w c part own open_is placed.0 from_there within reached due refl h
