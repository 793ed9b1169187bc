-- Structures that are copied through pointers: before a byte, the pointers go on to it.
use Rattle.c_ints.specs.Operators.{cut_to}
use Rattle.c_ints.specs.Range.{cut}
use Rattle.c_ints.specs.declared.operators.BinOp.TheVariants as ops
use Rattle.c_ints.specs.declared.types.IntTy.TheVariants as int
use Rattle.core_code.specs.Bytes as bytes
use Rattle.core_code.specs.Bytes.{Memory, with_byte, with_bytes}
use Rattle.core_code.specs.Machine as core_machine
use Rattle.core_code.specs.Machine.{Machine, Task, Do as Todo, Waiting, extent, is_own}
use Rattle.core_code.specs.Operands.{fits_together}
use Rattle.core_code.specs.Tree as code
use Rattle.core_code.specs.Values as core
use Rattle.core_code.specs.Values.{binary_value, value_in}
use Rattle.core_code.specs.declared.code.Byte.TheVariants.{Frame, Result}
use Rattle.core_code.specs.declared.code.Byte.{Byte}
use Rattle.core_puts.specs.Bytes.{beyond}
use Rattle.lower_expr.specs.Rows.{advance, advances, given, side_of, taken}
use Rattle.lower_expr.specs.Spots.{pointer_bytes}
use Rattle.lower_expr.specs.declared.places.Spot as place
use Rattle.lower_expr.specs.declared.places.Spot.TheVariants.{Bit, Computed, Fixed}
use Rattle.lower_trace.proofs.Changing.{OnlyAbove, above_same, above_written, agrees_above, datum_above, holds_above, lower_above, above_then}
use Rattle.lower_trace.proofs.CodeLeft.{Scene, base, between, bytes_from, copying, core_in, ground_in, number, stack_after, todo}
use Rattle.lower_trace.proofs.CopyNodes.{byte_code, structure_is}
use Rattle.lower_trace.proofs.Giving.{Around, agrees_same, value_high}
use Rattle.lower_trace.proofs.Handing.{own_result}
use Rattle.lower_trace.proofs.Kept.{SameFrame, SceneLaws}
use Rattle.lower_trace.proofs.Mirrors.{Agrees, HasCopied, HasDatum, HasOne, Holds, Trail, Trails, core_byte}
use Rattle.lower_trace.proofs.Moving.{binary_any_then, moved_so, pointer_value, set_result_then}
use Rattle.lower_trace.proofs.Operating.{itself}
use Rattle.lower_trace.proofs.Operations.{Comes, beyond_is, comes_within, own_frame}
use Rattle.lower_trace.proofs.Placed.{Placed, todo_join}
use Rattle.lower_trace.proofs.Returning.{Resumables, holds_frames, others_then, set_others}
use Rattle.lower_trace.proofs.Scaling.{uint}
use Rattle.lower_trace.proofs.Written.{and_false, both, byte_same, bytes_clear, bytes_there, off, on, root_same}
use Rattle.lower_trace.specs.Lowering.{object_as, offset_as}
use Rattle.pic_world.specs.Roots.{same_root}
use Rattle.pic_world.specs.World.{World, arrived, is_due}
use Rattle.pic_world.specs.declared.Root.{Root}
use Rattle.src_rules.specs.Standing.{IsPlaced, IsThere}
use Rattle.src_values.specs.Control.{Pending, callers}
use Rattle.src_values.specs.Data as datum
use Rattle.src_values.specs.Memory as source
use Rattle.src_values.specs.Objects.{moved, object_bytes}
use Rattle.src_values.specs.declared.objects.CopyOf.{CopyOf}
use Rattle.src_values.specs.declared.objects.Object as object
use Rattle.src_values.specs.declared.objects.Object.TheVariants as objects
use Rattle.src_values.specs.declared.objects.Pointer.TheVariants.{Into, Null}
use Rattle.src_values.specs.declared.objects.Pointer.{Pointer}
use Rattle.src_values.specs.declared.objects.Spot as spot
use Rattle.src_values.specs.declared.objects.Spot.TheVariants as spots
use Rattle.std.proofs.Common.{Bool, List, None, Some, [], ap, arith, false, inr, nat_eq, nat_le, option_map, pos, refl, subst, suc, sym, true, zero, ℕ, ◌++◌, ◌+ℤ◌, ◌+◌, ◌-◌, ◌∙◌, ◌∷◌, ◌≡◌, ◌≤◌}
use Rattle.std.proofs.lemmas.Grind.{common_steps}
use Rattle.std.proofs.lemmas.Int.{ints}
use Rattle.std.specs.Prelude.{int_lt}

-- ---- the number 1 in the results
cut_one : cut_to int.UInt (pos 1) ≡ uint 1
cut_one = let e : cut int.UInt (pos 1) ≡ pos 1 = omega (arith, ints) in ap (λ t. record { ty = int.UInt; number = t }) e

one_value : (root : Root) (m : Memory) → HasOne true root m → value_in int.UInt m (Result root 0) ≡ Some (core.Number (uint 1))
unfolding value_in core.pointer_in
one_value root m h =
    ap (λ x. core.or_number (core.joined x (m (Result root 1))) (option_map (λ i. core.Number (cut_to int.UInt (pos i))) (core.with_low x (core.with_low (m (Result root 1)) (Some 0))))) h.0
    ∙ ap (λ x. core.or_number (core.joined (bytes.Number 1) x) (option_map (λ i. core.Number (cut_to int.UInt (pos i))) (core.with_low (bytes.Number 1) (core.with_low x (Some 0))))) h.1
    ∙ ap (λ t. Some (core.Number t)) cut_one

own_two : (q : core_machine.Program) (n : ℕ) (r : Root) → q.root n ≡ r → is_own q n (Result r 0) 2 ≡ true
unfolding is_own
own_two q n r e = both (same_root r (q.root n)) (nat_le (0 + 2) 4) (ap (same_root r) e ∙ root_same r) refl

-- ---- a pointer goes on by a byte of its object
moved_one : (z : Scene) (o : object.Object) (f : ℕ) → f + 1 ≤ object_bytes z.program o → moved z.program (Into o f) (pos 1) ≡ Some (Into o (f + 1))
unfolding moved
moved_one z o f le =
    let low : int_lt (pos f +ℤ pos 1) (pos 0) ≡ false = not_below f in
    let high : int_lt (pos (object_bytes z.program o)) (pos f +ℤ pos 1) ≡ false = not_above (object_bytes z.program o) f le in
    rw (low, high) refl
  where
    not_below : (f : ℕ) → int_lt (pos f +ℤ pos 1) (pos 0) ≡ false
    not_below f = grind (ints, arith, common_steps)

    not_above : (size f : ℕ) → f + 1 ≤ size → int_lt (pos size) (pos f +ℤ pos 1) ≡ false
    not_above size f le = grind (ints, arith, common_steps)

offset_of : ℕ → Pointer → ℕ
offset_of d Null = d
offset_of d (Into o f) = f

-- a side is the same, if its pointer is
pub trails_above : (z : Scene) (n : ℕ) (p : place.Spot) (b done lag low : ℕ) (at : spot.Spot) (m m' : Memory) → b + pointer_bytes p ≤ low → OnlyAbove n low m m' → Trails z n b p at done lag m → Trails z n b p at done lag m'
trails_above z n (Fixed x) b done lag low at m m' le s h = h
trails_above z n (Bit register bit) b done lag low at m m' le s h = h
trails_above z n Computed b done lag low at m m' le s h = (h.0, h.1, datum_above z n b low (datum.Pointer h.0) m m' le s h.2, h.3)

pub trails_far : (z : Scene) (n : ℕ) (p : place.Spot) (b done lag : ℕ) (at : spot.Spot) (m m' : Memory) → ((t : ℕ) → b ≤ t → m' (Frame n t) ≡ m (Frame n t)) → Trails z n b p at done lag m → Trails z n b p at done lag m'
trails_far z n (Fixed x) b done lag at m m' s h = h
trails_far z n (Bit register bit) b done lag at m m' s h = h
trails_far z n Computed b done lag at m m' s h = (h.0, h.1, λ i lt. s (b + i) (omega arith) ∙ h.2 i lt, h.3)

module _ (z : Scene) (laws : SceneLaws z) (n : ℕ) (root : Root) (root_is : (core_in z).program.root n ≡ root) (T : Machine → Type 0) (s : List Waiting) (w : World bytes.Held) (due : is_due w ≡ false) (now : arrived (core_in z).outside w ≡ w) where
  advance_then : (o : object.Object) (f b : ℕ) (r : List Task) (m : Memory) (c : Machine) (q l : ℕ) → IsThere z.program o → f + 1 ≤ object_bytes z.program o → b + 2 ≤ (core_in z).program.frame_bytes n → HasDatum z n b (datum.Pointer (Into o f)) m → HasOne true root m
      → Placed (core_in z) n None (Todo [] (code.Binary ops.Add int.UInt (Frame n b) (Frame n b) (Result root 0)) ∷ r) s m w c
      → ((d : Machine) (m' : Memory) → OnlyAbove n b m m' → ((t : ℕ) → b + 2 ≤ t → m' (Frame n t) ≡ m (Frame n t)) → HasDatum z n b (datum.Pointer (Into o (f + 1))) m' → Placed (core_in z) n None r s m' w d → Comes (core_in z) T q l d)
      → Comes (core_in z) T (20 + q) l c
  unfolding fits_together binary_value extent offset_of
  advance_then o f b r m c q l there le room hx one p next =
      let mv = λ (s' : List Waiting). moved_so z laws (extent (core_in z).program n s') o f (pos 1) (pos 1) 0 0 (Into o (f + 1)) (λ t. refl) there refl (moved_one z o f le) in
      let same : (s' : List Waiting) → (mv s').offset ≡ f + 1 = λ s'. sym (ap (offset_of 0) (mv s').is) in
      let result = core.Pointer (record { object = object_as z.copies o; offset = offset_as z.program o + (f + 1) }) in
      let gives : (s' : List Waiting) → core.moved (extent (core_in z).program n s') (object_as z.copies o) (pos (offset_as z.program o + f) +ℤ pos 1) ≡ Some result =
      λ s'. (mv s').core_is ∙ ap (λ t. Some (core.Pointer (record { object = object_as z.copies o; offset = offset_as z.program o + t }))) (same s') in
      let m' = with_bytes m (Frame n b) 2 (core.byte_of result) in
      binary_any_then (core_in z) T n s w due now ops.Add int.UInt (Frame n b) (Frame n b) (Result root 0) (core.Pointer (record { object = object_as z.copies o; offset = offset_as z.program o + f })) (core.Number (uint 1)) result r m c q l 20
      (λ before. both _ _ (itself n b 2) refl) (λ i. refl) (own_frame (core_in z).program n b 2 room) (own_two (core_in z).program n root root_is)
      (pointer_value z n b o f m hx) (one_value root m one) (λ s' e. gives s') (own_frame (core_in z).program n b 2 room) (λ i. omega arith) p
      (λ d pd. next d m' (above_written n b b 2 m (core.byte_of result) (omega arith)) (λ t ge. bytes_clear m n b 2 (core.byte_of result) (Frame n t) (inr (inr (omega arith)))) (λ j few. bytes_there m n b 2 (core.byte_of result) j few) pd)

  -- one side of a copy
  side_then : (p : place.Spot) (b done : ℕ) (at : spot.Spot) (r : List Task) (m : Memory) (c : Machine) (q l : ℕ) → IsPlaced z.program at → b + pointer_bytes p ≤ (core_in z).program.frame_bytes n → Trails z n b p at done 1 m → HasOne true root m
      → Placed (core_in z) n None (todo (advance (side_of p (Frame n b)) (Result root 0)) r) s m w c
      → ((d : Machine) (m' : Memory) → OnlyAbove n b m m' → ((t : ℕ) → b + pointer_bytes p ≤ t → m' (Frame n t) ≡ m (Frame n t)) → Trails z n b p at done 0 m' → Placed (core_in z) n None r s m' w d → Comes (core_in z) T q l d)
      → Comes (core_in z) T (20 + q) l c
  side_then (Fixed x) b done at r m c q l placed room h one p next = comes_within (core_in z) T q l (20 + q) l c (next c m (above_same n b m) (λ t ge. refl) h p) (omega arith) (omega arith)
  side_then (Bit register bit) b done at r m c q l placed room h one p next = absurd h
  side_then Computed b done at r m c q l placed room (Null, e, hx, go) one p next = absurd go
  side_then Computed b done at r m c q l placed room (Into o f, e, hx, go) one p next =
      let inside : IsPlaced z.program (spots.Memory (Into o (f + 1))) = subst (IsPlaced z.program) e placed in
      let stays : f + 1 ≡ f + 1 + 0 = omega arith in
      advance_then o f b r m c q l inside.0 inside.1 room hx one p
      (λ d m' above far hy pd. next d m' above far (Into o (f + 1), e ∙ ap (λ i. spots.Memory (Into o i)) stays, hy, tt) pd)

  -- both sides
  pub sides_then : (p q : place.Spot) (b done : ℕ) (to from : spot.Spot) (r : List Task) (m : Memory) (c : Machine) (x l : ℕ) → IsPlaced z.program to → IsPlaced z.program from → b + pointer_bytes p + pointer_bytes q ≤ (core_in z).program.frame_bytes n → Trails z n b p to done 1 m → Trails z n (b + pointer_bytes p) q from done 1 m → HasOne true root m
      → Placed (core_in z) n None (todo (advance (side_of p (Frame n b)) (Result root 0) ++ advance (side_of q (Frame n (b + pointer_bytes p))) (Result root 0)) r) s m w c
      → ((d : Machine) (m' : Memory) → OnlyAbove n b m m' → Trails z n b p to done 0 m' → Trails z n (b + pointer_bytes p) q from done 0 m' → HasOne true root m' → Placed (core_in z) n None r s m' w d → Comes (core_in z) T x l d)
      → Comes (core_in z) T (40 + x) l c
  sides_then p q b done to from r m c x l target source room hp hq one pl next =
      let b2 = b + pointer_bytes p in
      comes_within (core_in z) T (20 + (20 + x)) l (40 + x) l c
      (side_then p b done to (todo (advance (side_of q (Frame n b2)) (Result root 0)) r) m c (20 + x) l target (omega arith) hp one
      (subst (λ y. Placed (core_in z) n None y s m w c) (todo_join (advance (side_of p (Frame n b)) (Result root 0)) (advance (side_of q (Frame n b2)) (Result root 0)) r) pl)
      (λ d1 m1 above1 far1 hp1 p1.
      let one1 : HasOne true root m1 = (above1 (Result root 0) tt ∙ one.0, above1 (Result root 1) tt ∙ one.1) in
      side_then q b2 done from r m1 d1 x l source room (trails_far z n q b2 done 1 from m m1 far1 hq) one1 p1
      (λ d2 m2 above2 far2 hq2 p2. next d2 m2 (above_then n b m m1 m2 above1 (lower_above n b b2 m1 m2 (omega arith) above2))
      (trails_above z n p b done 0 b2 to m1 m2 (omega arith) above2 hp1) hq2 (above2 (Result root 0) tt ∙ one1.0, above2 (Result root 1) tt ∙ one1.1) p2)))
      (omega arith) (omega arith)

-- ---- a byte that comes next
-- One of the places isn't fixed.
abbrev pub IsThrough : place.Spot → place.Spot → Type 0
IsThrough (Fixed x) (Fixed y) = ⊥
IsThrough p q = Unit {0}

pub trail_parts : (z : Scene) (root : Root) (n b : ℕ) (p q : place.Spot) (to from : spot.Spot) (done lag : ℕ) (one : Bool) (m : Memory) → IsThrough p q → Trail z root n b p q to from done lag one m → Trails z n b p to done lag m × Trails z n (beyond b (pointer_bytes p)) q from done lag m × HasOne one root m
trail_parts z root n b (Fixed x) (Fixed y) to from done lag one m through h = absurd through
trail_parts z root n b (Fixed x) (Bit register bit) to from done lag one m through h = h
trail_parts z root n b (Fixed x) Computed to from done lag one m through h = h
trail_parts z root n b (Bit register bit) q to from done lag one m through h = h
trail_parts z root n b Computed q to from done lag one m through h = h

pub trail_of : (z : Scene) (root : Root) (n b : ℕ) (p q : place.Spot) (to from : spot.Spot) (done lag : ℕ) (one : Bool) (m : Memory) → IsThrough p q → Trails z n b p to done lag m → Trails z n (beyond b (pointer_bytes p)) q from done lag m → HasOne one root m → Trail z root n b p q to from done lag one m
trail_of z root n b (Fixed x) (Fixed y) to from done lag one m through h i j = absurd through
trail_of z root n b (Fixed x) (Bit register bit) to from done lag one m through h i j = (h, i, j)
trail_of z root n b (Fixed x) Computed to from done lag one m through h i j = (h, i, j)
trail_of z root n b (Bit register bit) q to from done lag one m through h i j = (h, i, j)
trail_of z root n b Computed q to from done lag one m through h i j = (h, i, j)

pub copying_begins : (root : Root) (p q : place.Spot) (at : Byte) (size : ℕ) (r : List Task) → IsThrough p q
    → todo (copying root p q at size 0) r ≡ Todo [] (code.Set (Result root 0) 1) ∷ Todo [] (code.Set (Result root 1) 0) ∷ todo (bytes_from (Result root 0) p q at 0 size) r
copying_begins root (Fixed x) (Fixed y) at size r through = absurd through
copying_begins root (Fixed x) (Bit register bit) at size r through = ap (λ y. Todo [] (code.Set (Result root 0) 1) ∷ Todo [] (code.Set (Result root 1) 0) ∷ y) (structure_is (Result root 0) (Fixed x) (Bit register bit) at size r)
copying_begins root (Fixed x) Computed at size r through = ap (λ y. Todo [] (code.Set (Result root 0) 1) ∷ Todo [] (code.Set (Result root 1) 0) ∷ y) (structure_is (Result root 0) (Fixed x) Computed at size r)
copying_begins root (Bit register bit) q at size r through = ap (λ y. Todo [] (code.Set (Result root 0) 1) ∷ Todo [] (code.Set (Result root 1) 0) ∷ y) (structure_is (Result root 0) (Bit register bit) q at size r)
copying_begins root Computed q at size r through = ap (λ y. Todo [] (code.Set (Result root 0) 1) ∷ Todo [] (code.Set (Result root 1) 0) ∷ y) (structure_is (Result root 0) Computed q at size r)

pub copying_goes : (root : Root) (p q : place.Spot) (at : Byte) (size done : ℕ) → IsThrough p q → copying root p q at size (suc done) ≡ bytes_from (Result root 0) p q at (suc done) (size - suc done)
copying_goes root (Fixed x) (Fixed y) at size done through = absurd through
copying_goes root (Fixed x) (Bit register bit) at size done through = refl
copying_goes root (Fixed x) Computed at size done through = refl
copying_goes root (Bit register bit) q at size done through = refl
copying_goes root Computed q at size done through = refl

advances_none : (p q : place.Spot) (at from one : Byte) → advances (side_of p at) (side_of q from) one 0 ≡ []
advances_none p q at from one = refl

advances_more : (p q : place.Spot) (at from one : Byte) (i : ℕ) → advances (side_of p at) (side_of q from) one (suc i) ≡ advance (side_of p at) one ++ advance (side_of q from) one
advances_more p q at from one i = rw (not_zero i) refl
  where
    not_zero : (i : ℕ) → nat_eq (suc i) 0 ≡ false
    not_zero i = grind (arith, common_steps)

module _ (z : Scene) (laws : SceneLaws z) (cp : CopyOf) (k : List Pending) (l : source.Memory) (around : Around z cp k) (resumables : Resumables cp.root k) (p q : place.Spot) (b size : ℕ) (through : IsThrough p q) (based : base (ground_in z cp) k ≡ b) (room : b + pointer_bytes p + pointer_bytes q + 1 ≤ (core_in z).program.frame_bytes (number z cp)) where
  abbrev temporary : ℕ
  temporary = b + pointer_bytes p + pointer_bytes q

  -- what is left of the byte of this number, and what follows it
  abbrev of_byte : ℕ → ℕ → List Task → List Task
  of_byte i left r =
      Todo [] (taken (Frame (number z cp) temporary) (side_of q (Frame (number z cp) (b + pointer_bytes p))) i)
      ∷ Todo [] (given (side_of p (Frame (number z cp) b)) (Frame (number z cp) temporary) i) ∷ todo (bytes_from (Result cp.root 0) p q (Frame (number z cp) b) (i + 1) left) r

  pub second_is : beyond b (pointer_bytes p) ≡ b + pointer_bytes p
  second_is = let small = laws.small (number z cp) in beyond_is b (pointer_bytes p) (omega arith)

  pub third_is : beyond (beyond b (pointer_bytes p)) (pointer_bytes q) ≡ temporary
  third_is = let small = laws.small (number z cp) in ap (λ y. beyond y (pointer_bytes q)) second_is ∙ beyond_is (b + pointer_bytes p) (pointer_bytes q) (omega arith)

  pub between_is : between p q (Frame (number z cp) b) ≡ Frame (number z cp) temporary
  between_is = ap (Frame (number z cp)) third_is

  step_code : (i left : ℕ) (r : List Task) → todo (bytes_from (Result cp.root 0) p q (Frame (number z cp) b) i (suc left)) r
      ≡ todo (advances (side_of p (Frame (number z cp) b)) (side_of q (Frame (number z cp) (b + pointer_bytes p))) (Result cp.root 0) i) (of_byte i left r)
  step_code i left r =
      let n = number z cp in
      byte_code (Result cp.root 0) p q (Frame n b) i left r
      ∙ ap (λ y. todo (advances (side_of p (Frame n b)) (side_of q (Frame n y)) (Result cp.root 0) i) (Todo [] (taken (between p q (Frame n b)) (side_of q (Frame n y)) i) ∷ Todo [] (given (side_of p (Frame n b)) (between p q (Frame n b)) i) ∷ todo (bytes_from (Result cp.root 0) p q (Frame n b) (i + 1) left) r)) second_is
      ∙ ap (λ y. todo (advances (side_of p (Frame n b)) (side_of q (Frame n (b + pointer_bytes p))) (Result cp.root 0) i) (Todo [] (taken y (side_of q (Frame n (b + pointer_bytes p))) i) ∷ Todo [] (given (side_of p (Frame n b)) y i) ∷ todo (bytes_from (Result cp.root 0) p q (Frame n b) (i + 1) left) r)) between_is

  -- all is ready for the byte of this number
  pub ready_then : (done left : ℕ) (to from : spot.Spot) (r : List Task) (T : Machine → Type 0) (w : World bytes.Held) (m : Memory) (c : Machine) (x e : ℕ) → done + suc left ≡ size → is_due w ≡ false → arrived (core_in z).outside w ≡ w → IsPlaced z.program to → IsPlaced z.program from
      → HasCopied z cp.root (number z cp) b p q to from done m → Agrees z (cp ∷ callers k) l m → Holds z (ground_in z cp) k m
      → Placed (core_in z) (number z cp) None (todo (copying cp.root p q (Frame (number z cp) b) size done) r) (stack_after z (ground_in z cp) k) m w c
      → ((d : Machine) (m' : Memory) → Trails z (number z cp) b p to done 0 m' → Trails z (number z cp) (b + pointer_bytes p) q from done 0 m' → HasOne true cp.root m' → Agrees z (cp ∷ callers k) l m' → Holds z (ground_in z cp) k m' → Placed (core_in z) (number z cp) None (of_byte done left r) (stack_after z (ground_in z cp) k) m' w d → Comes (core_in z) T x e d)
      → Comes (core_in z) T (40 + x) e c
  ready_then zero left to from r T w m c x e all due now target source has agrees holds pl next =
      let n = number z cp in
      let s = stack_after z (ground_in z cp) k in
      let root = cp.root in
      let root_is = laws.roots cp around.reached in
      let m1 = with_byte m (Result root 0) (bytes.Number 1) in
      let m2 = with_byte m1 (Result root 1) (bytes.Number 0) in
      let parts = trail_parts z root n b p q to from 0 0 false m through has in
      let count : size ≡ suc left = omega arith in
      let B = of_byte 0 left r in
      let split : todo (copying root p q (Frame n b) size 0) r ≡ Todo [] (code.Set (Result root 0) 1) ∷ Todo [] (code.Set (Result root 1) 0) ∷ B =
      copying_begins root p q (Frame n b) size r through
      ∙ ap (λ y. Todo [] (code.Set (Result root 0) 1) ∷ Todo [] (code.Set (Result root 1) 0) ∷ todo (bytes_from (Result root 0) p q (Frame n b) 0 y) r) count
      ∙ ap (λ y. Todo [] (code.Set (Result root 0) 1) ∷ Todo [] (code.Set (Result root 1) 0) ∷ y) (step_code 0 left r) in
      let one : HasOne true root m2 = (
        off (bytes.same_byte (Result root 0) (Result root 1)) (bytes.Number 0) (m1 (Result root 0)) (and_false (same_root root root) false refl) ∙ on (bytes.same_byte (Result root 0) (Result root 0)) (bytes.Number 1) (m (Result root 0)) (byte_same (Result root 0)),
        on (bytes.same_byte (Result root 1) (Result root 1)) (bytes.Number 0) (m1 (Result root 1)) (byte_same (Result root 1)),
      ) in
      let same_frames : (i : ℕ) → SameFrame i m m2 = λ i t. refl in
      comes_within (core_in z) T (4 + (4 + x)) e (40 + x) e c
      (set_result_then (core_in z) T n None s w due now root 0 1 (Todo [] (code.Set (Result root 1) 0) ∷ B) m c (4 + x) e (own_result (core_in z) n 0 root root_is (omega arith)) (subst (λ y. Placed (core_in z) n None y s m w c) split pl)
      (λ d1 p1. set_result_then (core_in z) T n None s w due now root 1 0 B m1 d1 x e (own_result (core_in z) n 1 root root_is (omega arith)) p1
      (λ d2 p2. next d2 m2 (trails_far z n p b 0 0 to m m2 (λ t ge. refl) parts.0) (subst (λ y. Trails z n y q from 0 0 m2) second_is (trails_far z n q (beyond b (pointer_bytes p)) 0 0 from m m2 (λ t ge. refl) parts.1)) one
      (agrees_same z (cp ∷ callers k) l m m2 (λ ob at th lt. untouched root m ob at) agrees)
      (holds_frames z root cp k m m2 resumables same_frames (others_then root m m1 m2 (set_others root 0 (bytes.Number 1) m) (set_others root 1 (bytes.Number 0) m1)) holds)
      p2)))
      (omega arith) (omega arith)
    where
      untouched : (root : Root) (m : Memory) (ob : object.Object) (at : ℕ) → with_byte (with_byte m (Result root 0) (bytes.Number 1)) (Result root 1) (bytes.Number 0) (core_byte z ob at) ≡ m (core_byte z ob at)
      untouched root m (objects.Fixed i) at = refl
      untouched root m (objects.Variable d i) at = refl
  ready_then (suc i) left to from r T w m c x e all due now target source has agrees holds pl next =
      let n = number z cp in
      let s = stack_after z (ground_in z cp) k in
      let root = cp.root in
      let root_is = laws.roots cp around.reached in
      let parts = trail_parts z root n b p q to from (suc i) 1 true m through has in
      let count : size - suc i ≡ suc left = omega arith in
      let split : todo (copying root p q (Frame n b) size (suc i)) r ≡ todo (advance (side_of p (Frame n b)) (Result root 0) ++ advance (side_of q (Frame n (b + pointer_bytes p))) (Result root 0)) (of_byte (suc i) left r) =
      ap (λ y. todo y r) (copying_goes root p q (Frame n b) size i through)
      ∙ ap (λ y. todo (bytes_from (Result root 0) p q (Frame n b) (suc i) y) r) count
      ∙ step_code (suc i) left r
      ∙ ap (λ y. todo y (of_byte (suc i) left r)) (advances_more p q (Frame n b) (Frame n (b + pointer_bytes p)) (Result root 0) i) in
      sides_then z laws n root root_is T s w due now p q b (suc i) to from (of_byte (suc i) left r) m c x e target source (omega arith) parts.0 (subst (λ y. Trails z n y q from (suc i) 1 m) second_is parts.1) parts.2
      (subst (λ y. Placed (core_in z) n None y s m w c) split pl)
      (λ d m' above hp hq one pd. next d m' hp hq one
      (agrees_above z laws cp (cp ∷ callers k) l m m' b around.reached (let h = value_high z cp k around in omega arith) above agrees)
      (holds_above z cp k m m' b around (omega arith) above holds) pd)
