-- A byte of a structure that is copied through pointers is read on its way.
use Rattle.core_code.specs.Bytes as bytes
use Rattle.core_code.specs.Bytes.{Memory, is_private, same_byte, with_byte}
use Rattle.core_code.specs.Machine.{Machine, Put, Task, Do as Todo, after_read, held_at, is_valid, noting_if, static_bytes}
use Rattle.core_code.specs.Tree as code
use Rattle.core_code.specs.declared.code.Byte.TheVariants.{Device, Frame, Result, Static}
use Rattle.core_code.specs.declared.code.Byte.{Byte}
use Rattle.core_puts.specs.Bytes.{behind, beyond}
use Rattle.lower_expr.specs.Rows.{given, side_of, taken}
use Rattle.lower_expr.specs.Spots.{pointer_bytes}
use Rattle.lower_expr.specs.declared.places.Spot as place
use Rattle.lower_expr.specs.declared.places.Spot.TheVariants.{Bit, Computed, Fixed}
use Rattle.lower_trace.proofs.Advancing.{IsThrough, between_is, ready_then, second_is, third_is, trail_of, trails_above}
use Rattle.lower_trace.proofs.Changing.{OnlyAbove, above_written, agrees_above, holds_above}
use Rattle.lower_trace.proofs.CodeLeft.{Scene, between, bytes_from, carrying, carrying_at, code_after, core_in, ground_in, held, is_seen, number, putting_if, source_in, stack_after, todo}
use Rattle.lower_trace.proofs.Constants.{again_below, due_below, same_below}
use Rattle.lower_trace.proofs.CopyNodes.{CopyNode}
use Rattle.lower_trace.proofs.Fetching.{one_written}
use Rattle.lower_trace.proofs.FixedCopies.{own_byte}
use Rattle.lower_trace.proofs.FixedPlaces.{IsOwnSpot}
use Rattle.lower_trace.proofs.Giving.{Around, mirrors, placed_of, value_high}
use Rattle.lower_trace.proofs.Kept.{SceneLaws}
use Rattle.lower_trace.proofs.Loading.{ReachesAll, isolated}
use Rattle.lower_trace.proofs.Members.{byte_is_so}
use Rattle.lower_trace.proofs.Mirrors.{Carries, HasDatum, Mirrors, Trails, core_byte}
use Rattle.lower_trace.proofs.NumberBytes.{pointer_back}
use Rattle.lower_trace.proofs.Operations.{Comes, comes_here, comes_within, copy_then, own_frame, read_sure, read_then}
use Rattle.lower_trace.proofs.Placed.{Placed}
use Rattle.lower_trace.proofs.Pointing.{load_frame_then, load_static_then, load_then}
use Rattle.lower_trace.proofs.Reading.{lt_true, noted_if, readable, set_agrees}
use Rattle.lower_trace.proofs.Returning.{Resumables}
use Rattle.lower_trace.proofs.Written.{byte_same, on}
use Rattle.lower_trace.proofs.Beginnings.{Follow}
use Rattle.pic_world.specs.World.{ReadOf, World, arrived, is_due, world_as}
use Rattle.pic_world.specs.declared.Cell.TheVariants as cells
use Rattle.pic_world.specs.declared.Root.{Root}
use Rattle.src_rules.specs.Accesses.{after_taking, copy_read, is_any}
use Rattle.src_rules.specs.Standing.{IsPlaced, IsThere, stepped}
use Rattle.src_rules.specs.State.{state}
use Rattle.src_values.specs.Accesses.{event_at, noting, read_fault, take_byte, taken_unless}
use Rattle.src_values.specs.Control.{CopyRead, CopyWrite, Pending, active, callers, line_at}
use Rattle.src_values.specs.Data as datum
use Rattle.src_values.specs.Memory as source
use Rattle.src_values.specs.Objects.{breaks_isolation, is_alive, is_watched, object_bytes, variable_offset}
use Rattle.src_values.specs.declared.objects.Byte as value
use Rattle.src_values.specs.declared.objects.CopyOf.{CopyOf}
use Rattle.src_values.specs.declared.objects.Object.TheVariants as objects
use Rattle.src_values.specs.declared.objects.Pointer.TheVariants.{Into, Null}
use Rattle.src_values.specs.declared.objects.Pointer.{Pointer}
use Rattle.src_values.specs.declared.objects.Spot as spot
use Rattle.src_values.specs.declared.objects.Spot.TheVariants as spots
use Rattle.src_values.specs.declared.objects.Undef.{Undef}
use Rattle.std.proofs.Common.{List, None, Option, Some, [], ap, arith, false, if◌then◌else◌, refl, subst, suc, sym, true, ℕ, ◌+◌, ◌-◌, ◌<◌, ◌∙◌, ◌∷◌, ◌≡◌, ◌≤◌}

-- a fixed place is one of the copy's own
abbrev pub OwnIf : Scene → CopyOf → place.Spot → spot.Spot → Type 0
OwnIf z cp (Fixed x) at = IsOwnSpot z cp at
OwnIf z cp (Bit register bit) at = Unit {0}
OwnIf z cp Computed at = Unit {0}

private_behind : (x : Byte) (i : ℕ) → is_private (behind x i) ≡ is_private x
private_behind (Static o y) i = refl
private_behind (Frame c y) i = refl
private_behind (Result r y) i = refl
private_behind (Device y) i = refl

-- the pointer that leads to a side
pub trails_pointer : (z : Scene) (n b done : ℕ) (y : Pointer) (m : Memory) → Trails z n b Computed (spots.Memory y) done 0 m → HasDatum z n b (datum.Pointer y) m
trails_pointer z n b done y m h = subst (λ x. HasDatum z n b (datum.Pointer x) m) (same_pointer y h.0 h.1) h.2
  where
    pointer_or : Pointer → spot.Spot → Pointer
    pointer_or d (spots.Memory x) = x
    pointer_or d _ = d

    same_pointer : (y x : Pointer) → spots.Memory y ≡ stepped 0 (spots.Memory x) → x ≡ y
    same_pointer y Null e = sym (ap (pointer_or y) e)
    same_pointer y (Into o f) e = let q : f ≡ f + 0 = omega arith in ap (Into o) q ∙ sym (ap (pointer_or y) e)

unseen_variable : (z : Scene) (n b done : ℕ) (d : CopyOf) (i f : ℕ) (u : place.Spot) (m : Memory) → Trails z n b u (spots.Memory (Into (objects.Variable d i) f)) done 0 m → is_seen u (spots.Memory (Into (objects.Variable d i) f)) ≡ false
unseen_variable z n b done d i f (Fixed y) m h = let e : is_private y ≡ true = sym (private_behind y done) ∙ ap is_private (sym (byte_is_so (core_byte z (objects.Variable d i) f) (behind y done) h)) in ap (λ x. if x then false else true) e
unseen_variable z n b done d i f (Bit register bit) m h = refl
unseen_variable z n b done d i f Computed m h = refl

seen_static : (z : Scene) (n b done i f : ℕ) (u : place.Spot) (m : Memory) → Trails z n b u (spots.Memory (Into (objects.Fixed i) f)) done 0 m → is_seen u (spots.Memory (Into (objects.Fixed i) f)) ≡ true
seen_static z n b done i f (Fixed y) m h = let e : is_private y ≡ false = sym (private_behind y done) ∙ ap is_private (sym (byte_is_so (core_byte z (objects.Fixed i) f) (behind y done) h)) in ap (λ x. if x then false else true) e
seen_static z n b done i f (Bit register bit) m h = absurd h
seen_static z n b done i f Computed m h = refl

pub carrying_through : (z : Scene) (root : Root) (p q : place.Spot) (at : Byte) (size : ℕ) (from : spot.Spot) (byte : value.Byte) (i : ℕ) (c : List Task) → IsThrough p q
    → carrying z root p q at size from byte i c ≡ putting_if (is_seen q from) z (between p q at) (byte ∷ []) (Todo [] (given (side_of p at) (between p q at) i) ∷ todo (bytes_from (Result root 0) p q at (i + 1) (size - (i + 1))) c)
carrying_through z root (Fixed x) (Fixed y) at size from byte i c through = absurd through
carrying_through z root (Fixed x) (Bit register bit) at size from byte i c through = refl
carrying_through z root (Fixed x) Computed at size from byte i c through = refl
carrying_through z root (Bit register bit) q at size from byte i c through = refl
carrying_through z root Computed q at size from byte i c through = refl

pub carries_of : (z : Scene) (n b : ℕ) (p q : place.Spot) (from : spot.Spot) (byte : value.Byte) (t : ℕ) (m : Memory) → IsThrough p q → beyond (beyond b (pointer_bytes p)) (pointer_bytes q) ≡ t → (is_seen q from ≡ false → m (Frame n t) ≡ held z byte) → Carries z n b p q from byte m
carries_of z n b (Fixed x) (Fixed y) from byte t m through e h = absurd through
carries_of z n b (Fixed x) (Bit register bit) from byte t m through e h = λ f. ap (λ y. m (Frame n y)) e ∙ h f
carries_of z n b (Fixed x) Computed from byte t m through e h = λ f. ap (λ y. m (Frame n y)) e ∙ h f
carries_of z n b (Bit register bit) q from byte t m through e h = λ f. ap (λ y. m (Frame n y)) e ∙ h f
carries_of z n b Computed q from byte t m through e h = λ f. ap (λ y. m (Frame n y)) e ∙ h f

pub carries_there : (z : Scene) (n b : ℕ) (p q : place.Spot) (from : spot.Spot) (byte : value.Byte) (t : ℕ) (m : Memory) → IsThrough p q → beyond (beyond b (pointer_bytes p)) (pointer_bytes q) ≡ t → Carries z n b p q from byte m → is_seen q from ≡ false → m (Frame n t) ≡ held z byte
carries_there z n b (Fixed x) (Fixed y) from byte t m through e h f = absurd through
carries_there z n b (Fixed x) (Bit register bit) from byte t m through e h f = ap (λ y. m (Frame n y)) (sym e) ∙ h f
carries_there z n b (Fixed x) Computed from byte t m through e h f = ap (λ y. m (Frame n y)) (sym e) ∙ h f
carries_there z n b (Bit register bit) q from byte t m through e h f = ap (λ y. m (Frame n y)) (sym e) ∙ h f
carries_there z n b Computed q from byte t m through e h f = ap (λ y. m (Frame n y)) (sym e) ∙ h f

module _ (z : Scene) (laws : SceneLaws z) (cp : CopyOf) (k : List Pending) (l : source.Memory) (around : Around z cp k) (resumables : Resumables cp.root k) (p q : place.Spot) (b size : ℕ) (through : IsThrough p q) (node : CopyNode z cp k p q b size) (room : b + pointer_bytes p + pointer_bytes q + 1 ≤ (core_in z).program.frame_bytes (number z cp)) (reach : ReachesAll z cp k) (own_room : (ground_in z cp).base ≤ (core_in z).program.frame_bytes (number z cp)) where
  abbrev way : ℕ
  way = b + pointer_bytes p + pointer_bytes q

  abbrev to_give : ℕ → ℕ → List Task
  to_give i left = Todo [] (given (side_of p (Frame (number z cp) b)) (Frame (number z cp) way) i) ∷ todo (bytes_from (Result cp.root 0) p q (Frame (number z cp) b) (i + 1) left) (code_after (ground_in z cp) k)

  abbrev to_take : ℕ → ℕ → List Task
  to_take i left = Todo [] (taken (Frame (number z cp) way) (side_of q (Frame (number z cp) (b + pointer_bytes p))) i) ∷ to_give i left

  -- what is left where the byte was read
  pub carry_code : (from : spot.Spot) (byte : value.Byte) (left : ℕ) → suc left ≤ size → carrying_at z (ground_in z cp) k from byte left ≡ putting_if (is_seen q from) z (Frame (number z cp) way) (byte ∷ []) (to_give (size - suc left) left)
  carry_code from byte left part =
      let n = number z cp in
      let i = size - suc left in
      let r = code_after (ground_in z cp) k in
      let count : size - (i + 1) ≡ left = omega arith in
      node.carry from byte left ∙ carrying_through z cp.root p q (Frame n b) size from byte i r through
      ∙ ap (λ y. putting_if (is_seen q from) z y (byte ∷ []) (Todo [] (given (side_of p (Frame n b)) y i) ∷ todo (bytes_from (Result cp.root 0) p q (Frame n b) (i + 1) (size - (i + 1))) r)) (between_is z laws cp k l around resumables p q b size through node.based room)
      ∙ ap (λ y. putting_if (is_seen q from) z (Frame n way) (byte ∷ []) (Todo [] (given (side_of p (Frame n b)) (Frame n way) i) ∷ todo (bytes_from (Result cp.root 0) p q (Frame n b) (i + 1) y) r)) count

  pub byte_above : (m : Memory) (h : bytes.Held) → OnlyAbove (number z cp) way m (with_byte m (Frame (number z cp) way) h)
  byte_above m h = subst (OnlyAbove (number z cp) way m) (sym (one_written m (number z cp) way h)) (above_written (number z cp) way way 1 m (λ i. h) (omega arith))

  -- ---- a byte of a variable: it is read and written on its way at once
  take_variable : (u : place.Spot) (d : CopyOf) (i f done : ℕ) (r : List Task) (T : Machine → Type 0) (w : World bytes.Held) (m : Memory) (c : Machine) (x e : ℕ) → is_due w ≡ false → arrived (core_in z).outside w ≡ w → b + pointer_bytes p + pointer_bytes u ≤ way → OwnIf z cp u (spots.Memory (Into (objects.Variable d i) f)) → IsThere z.program (objects.Variable d i) → is_alive (cp ∷ callers k) (objects.Variable d i) ≡ true → breaks_isolation cp.root (objects.Variable d i) ≡ false → f < object_bytes z.program (objects.Variable d i)
      → Trails z (number z cp) (b + pointer_bytes p) u (spots.Memory (Into (objects.Variable d i) f)) done 0 m
      → Placed (core_in z) (number z cp) None (Todo [] (taken (Frame (number z cp) way) (side_of u (Frame (number z cp) (b + pointer_bytes p))) done) ∷ r) (stack_after z (ground_in z cp) k) m w c
      → ((y : Machine) → Placed (core_in z) (number z cp) None r (stack_after z (ground_in z cp) k) (with_byte m (Frame (number z cp) way) (m (core_byte z (objects.Variable d i) f))) w y → Comes (core_in z) T x e y)
      → Comes (core_in z) T (20 + x) (1 + e) c
  take_variable (Fixed Y) d i f done r T w m c x e due now fits own there alive free inside h pl next =
      let n = number z cp in
      let s = stack_after z (ground_in z cp) k in
      let o = objects.Variable d i in
      let source_is : behind Y done ≡ core_byte z o f = sym (byte_is_so (core_byte z o f) (behind Y done) h) in
      let sure = read_sure (core_in z).program.variable_bytes (Frame n way) (core_byte z o f) (laws.kept o f there inside) in
      comes_within (core_in z) T (6 + x) (1 + e) (20 + x) (1 + e) c
      (copy_then (core_in z) T n None s w due now (Frame n way) (core_byte z o f) r m c x e 1 sure refl (own_byte z laws cp k o f around own inside own_room).valid (own_frame (core_in z).program n way 1 room)
      (subst (λ y. Placed (core_in z) n None (Todo [] (code.Copy (Frame n way) y) ∷ r) s m w c) source_is pl) next)
      (omega arith) (omega arith)
  take_variable (Bit register bit) d i f done r T w m c x e due now fits own there alive free inside h pl next = absurd h
  take_variable Computed d i f done r T w m c x e due now fits own there alive free inside h pl next =
      let n = number z cp in
      let s = stack_after z (ground_in z cp) k in
      let o = objects.Variable d i in
      let off = variable_offset z.program d.function i + f in
      comes_within (core_in z) T (14 + (6 + x)) (1 + e) (20 + x) (1 + e) c
      (load_then (core_in z) T n None s w due now (Frame n way) (Frame n (b + pointer_bytes p)) 1 (record { object = bytes.FrameOf (number z d); offset = off }) r m c (6 + x) (1 + e) (own_frame (core_in z).program n (b + pointer_bytes p) 2 (omega arith))
      (pointer_back z n (b + pointer_bytes p) o f m (trails_pointer z n (b + pointer_bytes p) done (Into o f) m h)) pl
      (λ y py. load_frame_then (core_in z) T n None s w due now (Frame n way) (number z d) off 0 r m y x e (own_frame (core_in z).program n way 1 room) (λ s' is. reach o f s' alive free there inside is) py next))
      (omega arith) (omega arith)

  variable_case : (fault : Option Undef) (d : CopyOf) (i f : ℕ) (to : spot.Spot) (left line : ℕ) (w : World value.Byte) (c : Machine) → suc left ≤ size → IsPlaced z.program to → IsPlaced z.program (spots.Memory (Into (objects.Variable d i) f)) → OwnIf z cp q (spots.Memory (Into (objects.Variable d i) f)) → is_due (arrived z.outside w) ≡ false
      → read_fault z.program (active cp (CopyRead to (spots.Memory (Into (objects.Variable d i) f)) (suc left)) k) cp.root is_any (objects.Variable d i) f (l (objects.Variable d i) f) ≡ fault
      → Mirrors z (state cp (CopyRead to (spots.Memory (Into (objects.Variable d i) f)) (suc left)) k l w) c
      → Follow z 70 1 c (after_taking (taken_unless fault (l (objects.Variable d i) f) (arrived z.outside w) None) (λ byte. CopyWrite to (spots.Memory (Into (objects.Variable d i) f)) byte left) cp k l line)
  unfolding active
  variable_case (Some kind) d i f to left line w c part target placed own due fault_is h = tt
  variable_case None d i f to left line w c part target placed own due fault_is h =
      let n = number z cp in
      let g = ground_in z cp in
      let o = objects.Variable d i in
      let from = spots.Memory (Into o f) in
      let byte = l o f in
      let V = arrived z.outside w in
      let W = world_as (held z) V in
      let done = size - suc left in
      let ok = readable z (cp ∷ callers k) cp.root is_any o f byte fault_is in
      let free = isolated z (cp ∷ callers k) cp.root is_any o f byte fault_is in
      let T = Mirrors z (state cp (CopyWrite to from byte left) k l V) in
      let all : done + suc left ≡ size = omega arith in
      comes_within (core_in z) T (40 + (20 + 0)) (1 + 0) 70 1 c
      (ready_then z laws cp k l around resumables p q b size through node.based room done left to from (code_after g k) T W c.memory c (20 + 0) (1 + 0) all (due_below z V due) (again_below z w) target placed (node.has to from (suc left) c.memory h.value) h.agrees h.holds
      (subst (λ y. Placed (core_in z) n None y (stack_after z g k) c.memory W c) (node.code (suc left)) (placed_of z (state cp (CopyRead to from (suc left)) k l w) c h))
      (λ y m hp hq one agrees holds py.
      let byte_is : m (core_byte z o f) ≡ held z byte = set_agrees z byte (m (core_byte z o f)) ok.set (agrees o f placed.0 ok.alive ok.inside) in
      let m' = with_byte m (Frame n way) (m (core_byte z o f)) in
      let above = byte_above m (m (core_byte z o f)) in
      let high = value_high z cp k around in
      let based = node.based in
      let on_way : m' (Frame n way) ≡ held z byte = on (same_byte (Frame n way) (Frame n way)) (m (core_byte z o f)) (m (Frame n way)) (byte_same (Frame n way)) ∙ byte_is in
      take_variable q d i f done (to_give done left) T W m y 0 0 (due_below z V due) (again_below z w) (omega arith) own placed.0 ok.alive free ok.inside hq py
      (λ e pe. comes_here (core_in z) T e
      (mirrors z cp (CopyWrite to from byte left) k l V m' e
      (subst (λ x. Placed (core_in z) n None (carrying_at z g k from byte left) (stack_after z g k) m' x e) (sym (again_world w))
      (subst (λ x. Placed (core_in z) n None x (stack_after z g k) m' W e) (sym (carry_code from byte left part ∙ ap (λ t. putting_if t z (Frame n way) (byte ∷ []) (to_give done left)) (unseen_variable z n (b + pointer_bytes p) done d i f q m hq))) pe))
      (agrees_above z laws cp (cp ∷ callers k) l m m' way around.reached (omega arith) above agrees)
      (holds_above z cp k m m' way around (omega arith) above holds)
      (node.carried to from byte left m' (
        trail_of z cp.root n b p q to from done 0 true m' through (trails_above z n p b done 0 way to m m' (omega arith) above hp) (subst (λ x. Trails z n x q from done 0 m') (sym (second_is z laws cp k l around resumables p q b size through node.based room)) (trails_above z n q (b + pointer_bytes p) done 0 way from m m' (omega arith) above hq))
            (above (Result cp.root 0) tt ∙ one.0, above (Result cp.root 1) tt ∙ one.1),
        carries_of z n b p q from byte way m' through (third_is z laws cp k l around resumables p q b size through node.based room) (λ no. on_way),
        ok.set,
        tt,
      ))))))
      (omega arith) (omega arith)
    where
      again_world : (w : World value.Byte) → world_as (held z) (arrived z.outside (arrived z.outside w)) ≡ world_as (held z) (arrived z.outside w)
      again_world w = sym (same_below z w)

  -- ---- a byte of a static object: it is read, which may be an event, and written on its way by the next step
  take_static : (u : place.Spot) (i f done : ℕ) (r : List Task) (U : Machine → Type 0) (w : World bytes.Held) (m : Memory) (c : Machine) → is_due w ≡ false → arrived (core_in z).outside w ≡ w → b + pointer_bytes p + pointer_bytes u ≤ way → IsThere z.program (objects.Fixed i) → f < object_bytes z.program (objects.Fixed i)
      → Trails z (number z cp) (b + pointer_bytes p) u (spots.Memory (Into (objects.Fixed i) f)) done 0 m
      → Placed (core_in z) (number z cp) None (Todo [] (taken (Frame (number z cp) way) (side_of u (Frame (number z cp) (b + pointer_bytes p))) done) ∷ r) (stack_after z (ground_in z cp) k) m w c
      → ((y : Machine) → Placed (core_in z) (number z cp) None (Put (Frame (number z cp) way) (held_at (core_in z) (Static i (0 + f)) m w) ∷ r) (stack_after z (ground_in z cp) k) m (arrived (core_in z).outside (after_read (core_in z) (Static i (0 + f)) m w)) y → U y)
      → Comes (core_in z) U 30 1 c
  unfolding is_valid is_alive breaks_isolation
  take_static (Fixed Y) i f done r U w m c due now fits there inside h pl next =
      let n = number z cp in
      let s = stack_after z (ground_in z cp) k in
      let size_is = laws.statics i there in
      let source_is : behind Y done ≡ Static i (0 + f) = sym (byte_is_so (core_byte z (objects.Fixed i) f) (behind Y done) h) in
      comes_within (core_in z) U 3 1 30 1 c
      (read_then (core_in z) U n None s w due now (Frame n way) (Static i (0 + f)) r m c refl (lt_true (0 + f) (static_bytes (core_in z).program i) (omega arith))
      (subst (λ y. Placed (core_in z) n None (Todo [] (code.Copy (Frame n way) y) ∷ r) s m w c) source_is pl) next)
      (omega arith) (omega arith)
  take_static (Bit register bit) i f done r U w m c due now fits there inside h pl next = absurd h
  take_static Computed i f done r U w m c due now fits there inside h pl next =
      let n = number z cp in
      let s = stack_after z (ground_in z cp) k in
      let o = objects.Fixed i in
      comes_within (core_in z) U (14 + 16) 1 30 1 c
      (load_then (core_in z) U n None s w due now (Frame n way) (Frame n (b + pointer_bytes p)) 1 (record { object = bytes.Fixed i; offset = 0 + f }) r m c 16 1 (own_frame (core_in z).program n (b + pointer_bytes p) 2 (omega arith))
      (pointer_back z n (b + pointer_bytes p) o f m (trails_pointer z n (b + pointer_bytes p) done (Into o f) m h)) pl
      (λ y py. load_static_then (core_in z) U n None s w due now (Frame n way) i (0 + f) 0 r m y (own_frame (core_in z).program n way 1 room) (λ s' is. reach o f s' refl refl there inside is) py next))
      (omega arith) (omega arith)

  static_case : (fault : Option Undef) (i f : ℕ) (to : spot.Spot) (left line : ℕ) (w : World value.Byte) (c : Machine) → suc left ≤ size → IsPlaced z.program to → IsPlaced z.program (spots.Memory (Into (objects.Fixed i) f)) → is_due (arrived z.outside w) ≡ false
      → read_fault z.program (active cp (CopyRead to (spots.Memory (Into (objects.Fixed i) f)) (suc left)) k) cp.root is_any (objects.Fixed i) f (l (objects.Fixed i) f) ≡ fault
      → Mirrors z (state cp (CopyRead to (spots.Memory (Into (objects.Fixed i) f)) (suc left)) k l w) c
      → Follow z 70 1 c (after_taking (taken_unless fault (l (objects.Fixed i) f) (arrived z.outside w) (event_at z.program ReadOf (objects.Fixed i) f (l (objects.Fixed i) f))) (λ byte. CopyWrite to (spots.Memory (Into (objects.Fixed i) f)) byte left) cp k l line)
  unfolding active held_at after_read
  static_case (Some kind) i f to left line w c part target placed due fault_is h = tt
  static_case None i f to left line w c part target placed due fault_is h =
      let n = number z cp in
      let g = ground_in z cp in
      let o = objects.Fixed i in
      let from = spots.Memory (Into o f) in
      let byte = l o f in
      let V = arrived z.outside w in
      let W = world_as (held z) V in
      let w' = noting (event_at z.program ReadOf o f byte) V in
      let done = size - suc left in
      let ok = readable z (cp ∷ callers k) cp.root is_any o f byte fault_is in
      let same : 0 + f ≡ f = omega arith in
      let T = Mirrors z (state cp (CopyWrite to from byte left) k l w') in
      let all : done + suc left ≡ size = omega arith in
      let is_watched_there = laws.watched i placed.0 in
      comes_within (core_in z) T (40 + 30) 1 70 1 c
      (ready_then z laws cp k l around resumables p q b size through node.based room done left to from (code_after g k) T W c.memory c 30 1 all (due_below z V due) (again_below z w) target placed (node.has to from (suc left) c.memory h.value) h.agrees h.holds
      (subst (λ y. Placed (core_in z) n None y (stack_after z g k) c.memory W c) (node.code (suc left)) (placed_of z (state cp (CopyRead to from (suc left)) k l w) c h))
      (λ y m hp hq one agrees holds py.
      let there_is : m (Static i (0 + f)) ≡ held z byte = set_agrees z byte (m (core_byte z o f)) ok.set (agrees o f placed.0 ok.alive ok.inside) in
      let world : arrived z.outside (noting_if ((core_in z).program.is_watched i) (ReadOf (cells.Static i (0 + f)) (m (Static i (0 + f)))) W) ≡ world_as (held z) (arrived z.outside w') =
      ap (λ t. arrived z.outside (noting_if ((core_in z).program.is_watched i) (ReadOf (cells.Static i t) (m (Static i (0 + f)))) W)) same
      ∙ ap (λ t. arrived z.outside (noting_if ((core_in z).program.is_watched i) (ReadOf (cells.Static i f) t) W)) there_is
      ∙ ap (λ t. arrived z.outside (noting_if t (ReadOf (cells.Static i f) (held z byte)) W)) is_watched_there
      ∙ noted_if z (is_watched z.program o) (ReadOf (cells.Static i f) byte) V in
      let later : Put (Frame n way) (m (Static i (0 + f))) ∷ to_give done left ≡ carrying_at z g k from byte left =
      ap (λ t. Put (Frame n way) t ∷ to_give done left) there_is
      ∙ sym (carry_code from byte left part ∙ ap (λ t. putting_if t z (Frame n way) (byte ∷ []) (to_give done left)) (seen_static z n (b + pointer_bytes p) done i f q m hq)) in
      take_static q i f done (to_give done left) T W m y (due_below z V due) (again_below z w) (omega arith) placed.0 ok.inside hq py
      (λ e pe.
      mirrors z cp (CopyWrite to from byte left) k l w' m e
      (subst (λ t. Placed (core_in z) n None t (stack_after z g k) m (world_as (held z) (arrived z.outside w')) e) later
      (subst (λ t. Placed (core_in z) n None (Put (Frame n way) (m (Static i (0 + f))) ∷ to_give done left) (stack_after z g k) m t e) world pe))
      agrees holds
      (node.carried to from byte left m (
        trail_of z cp.root n b p q to from done 0 true m through hp (subst (λ t. Trails z n t q from done 0 m) (sym (second_is z laws cp k l around resumables p q b size through node.based room)) hq) one,
        carries_of z n b p q from byte way m through (third_is z laws cp k l around resumables p q b size through node.based room) (λ no. absurd (let e2 = sym (seen_static z n (b + pointer_bytes p) done i f q m hq) ∙ no in cc)),
        ok.set,
        tt,
      )))))
      (omega arith) (omega arith)

  -- the byte that comes next is read
  pub through_copy_read : (to : spot.Spot) (x : Pointer) (left : ℕ) (w : World value.Byte) (c : Machine) → suc left ≤ size → IsPlaced z.program to → IsPlaced z.program (spots.Memory x) → OwnIf z cp q (spots.Memory x) → is_due (arrived z.outside w) ≡ false
      → Mirrors z (state cp (CopyRead to (spots.Memory x) (suc left)) k l w) c → Follow z 70 1 c (copy_read (source_in z) to (spots.Memory x) (suc left) k cp l (arrived z.outside w))
  unfolding take_byte
  through_copy_read to Null left w c part target placed own due h = tt
  through_copy_read to (Into (objects.Fixed i) f) left w c part target placed own due h =
      static_case (read_fault z.program (active cp (CopyRead to (spots.Memory (Into (objects.Fixed i) f)) (suc left)) k) cp.root is_any (objects.Fixed i) f (l (objects.Fixed i) f)) i f to left (line_at k) w c part target placed due refl h
  through_copy_read to (Into (objects.Variable d i) f) left w c part target placed own due h =
      variable_case (read_fault z.program (active cp (CopyRead to (spots.Memory (Into (objects.Variable d i) f)) (suc left)) k) cp.root is_any (objects.Variable d i) f (l (objects.Variable d i) f)) d i f to left (line_at k) w c part target placed own due refl h
