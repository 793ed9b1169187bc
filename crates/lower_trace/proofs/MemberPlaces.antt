-- Members of places: behind a fixed place so many bytes, and behind a pointer a sum.
use Rattle.c_ints.specs.Operators.{cut_to}
use Rattle.c_ints.specs.Range.{cut}
use Rattle.c_ints.specs.declared.operators.BinOp.TheVariants as ops
use Rattle.c_ints.specs.declared.types.IntTy.TheVariants as int
use Rattle.c_typed.specs.Trees as tree
use Rattle.c_typed.specs.Trees.{Place}
use Rattle.c_typed.specs.declared.types.Qualified.{Qualified}
use Rattle.core_code.specs.Bytes as bytes
use Rattle.core_code.specs.Bytes.{Memory, with_byte, with_bytes}
use Rattle.core_code.specs.Machine as core_machine
use Rattle.core_code.specs.Machine.{Machine, Do as Todo, Waiting, extent, is_own}
use Rattle.core_code.specs.Operands.{fits_together}
use Rattle.core_code.specs.Tree as code
use Rattle.core_code.specs.Tree.{many}
use Rattle.core_code.specs.Values as core
use Rattle.core_code.specs.Values.{binary_value, value_in}
use Rattle.core_code.specs.declared.code.Byte.TheVariants.{Frame, Result, Static}
use Rattle.core_puts.specs.Bytes as lower
use Rattle.core_puts.specs.Bytes.{behind, byte_at}
use Rattle.core_puts.specs.Puts.{operator, sets}
use Rattle.lower_expr.specs.Spots.{member_spot, spot_of}
use Rattle.lower_expr.specs.declared.places.Spot as place
use Rattle.lower_expr.specs.declared.places.Spot.TheVariants.{Bit, Computed, Fixed}
use Rattle.lower_trace.proofs.Beginnings.{Follow, rests}
use Rattle.lower_trace.proofs.Changing.{above_written, agrees_above, holds_above}
use Rattle.lower_trace.proofs.CodeLeft.{Scene, base, code_after, core_in, ground_in, held, member_rest, number, source_in, stack_after, todo}
use Rattle.lower_trace.proofs.Constants.{again_below, due_below}
use Rattle.lower_trace.proofs.Flow.{arrive}
use Rattle.lower_trace.proofs.Giving.{Around, agrees_same, placed_of, value_high}
use Rattle.lower_trace.proofs.Handing.{little_is, own_result}
use Rattle.lower_trace.proofs.Kept.{SameFrame, SceneLaws, own_copy, own_root}
use Rattle.lower_trace.proofs.Members.{byte_is_so, spot_is}
use Rattle.lower_trace.proofs.Mirrors.{Agrees, HasDatum, HasValue, Holds, IsAt, Mirrors, at_byte, core_byte}
use Rattle.lower_trace.proofs.Moving.{binary_any_then, moved_so, pointer_value, set_result_then}
use Rattle.lower_trace.proofs.Operating.{itself}
use Rattle.lower_trace.proofs.Operations.{Comes, beyond_is, comes_within, own_frame}
use Rattle.lower_trace.proofs.Placed.{Placed, todo_join}
use Rattle.lower_trace.proofs.Places.{waits_one}
use Rattle.lower_trace.proofs.Returning.{Resumables, holds_frames, others_then, set_others}
use Rattle.lower_trace.proofs.Written.{and_false, both, byte_same, bytes_there, off, on, root_same, same_nat}
use Rattle.lower_trace.specs.Lowering.{object_as, offset_as}
use Rattle.pic_world.specs.Roots.{same_root}
use Rattle.pic_world.specs.World.{World, arrived, is_due, world_as}
use Rattle.pic_world.specs.declared.Root.{Root}
use Rattle.src_rules.proofs.Places.{SpotIsThere}
use Rattle.src_rules.specs.Expressions.{at_member, found_to}
use Rattle.src_rules.specs.Standing.{IsThere, WaitsForPlace}
use Rattle.src_rules.specs.State.{state}
use Rattle.src_values.specs.Control.{Found, Pending, To, active, callers}
use Rattle.src_values.specs.Data as datum
use Rattle.src_values.specs.Memory as source
use Rattle.src_values.specs.Objects.{moved, object_bytes, variable_offset}
use Rattle.src_values.specs.declared.objects.Byte as value
use Rattle.src_values.specs.declared.objects.CopyOf.{CopyOf}
use Rattle.src_values.specs.declared.objects.Object as object
use Rattle.src_values.specs.declared.objects.Object.TheVariants as objects
use Rattle.src_values.specs.declared.objects.Pointer.TheVariants.{Into, Null}
use Rattle.src_values.specs.declared.objects.Pointer.{Pointer}
use Rattle.src_values.specs.declared.objects.Spot as spot
use Rattle.src_values.specs.declared.objects.Spot.TheVariants as spots
use Rattle.std.proofs.Common.{Bool, List, None, Option, Some, [], ap, arith, false, if◌then◌else◌, nat_eq, nat_le, option_map, pos, refl, subst, suc, sym, true, unsigned_abs, zero, ℕ, ◌%◌, ◌*◌, ◌++◌, ◌+ℤ◌, ◌+◌, ◌/◌, ◌||◌, ◌∙◌, ◌∷◌, ◌≡◌, ◌≤◌}
use Rattle.std.proofs.lemmas.Grind.{common_steps}
use Rattle.std.proofs.lemmas.Int.{ints}
use Rattle.std.specs.Ordering.{int_eq}
use Rattle.std.specs.Prelude.{int_lt, unwrap_or}

-- ---- a pointer that is moved forward
some_pointer : (a b : Pointer) → Some a ≡ Some b → a ≡ b
some_pointer a b e = ap (λ x. unwrap_or x a) e

forward_case : (o : object.Object) (f n : ℕ) (out : Bool) (y : Pointer) → (if out then None else Some (Into o (unsigned_abs (pos f +ℤ pos n)))) ≡ Some y → y ≡ Into o (f + n)
forward_case o f n true y e = absurd (cc)
forward_case o f n false y e = sym (some_pointer (Into o (unsigned_abs (pos f +ℤ pos n))) y e)

size_case : (size f n : ℕ) (o : object.Object) (y : Pointer) (out : Bool) → (int_lt (pos f +ℤ pos n) (pos 0) || int_lt (pos size) (pos f +ℤ pos n)) ≡ out → (if out then None else Some (Into o (unsigned_abs (pos f +ℤ pos n)))) ≡ Some y → f + n ≤ size
size_case size f n o y true is e = absurd (cc)
size_case size f n o y false is e = at_most size (f + n) (or_right_false (int_lt (pos f +ℤ pos n) (pos 0)) (int_lt (pos size) (pos f +ℤ pos n)) is)
  where
    or_right_false : (a b : Bool) → (a || b) ≡ false → b ≡ false
    or_right_false true b e = absurd (cc)
    or_right_false false b e = e

    at_most : (size n : ℕ) → int_lt (pos size) (pos n) ≡ false → n ≤ size
    at_most size n e = grind (ints, arith, common_steps)

pub moved_forward : (z : Scene) (o : object.Object) (f n : ℕ) (y : Pointer) → moved z.program (Into o f) (pos n) ≡ Some y → (y ≡ Into o (f + n)) × (f + n ≤ object_bytes z.program o)
unfolding moved
moved_forward z o f n y e = (
  forward_case o f n (int_lt (pos f +ℤ pos n) (pos 0) || int_lt (pos (object_bytes z.program o)) (pos f +ℤ pos n)) y e,
  size_case (object_bytes z.program o) f n o y (int_lt (pos f +ℤ pos n) (pos 0) || int_lt (pos (object_bytes z.program o)) (pos f +ℤ pos n)) refl e,
)

null_forward : (z : Scene) (n : ℕ) (y : Pointer) → moved z.program Null (pos n) ≡ Some y → (y ≡ Null) × (n ≡ 0)
unfolding moved
null_forward z zero y e = (sym (some_pointer Null y e), refl)
null_forward z (suc n) y e = absurd (not_zero n y e)
  where
    no_zero : (n : ℕ) → int_eq (pos (suc n)) (pos 0) ≡ false
    no_zero n = grind (arith, common_steps)

    not_zero : (n : ℕ) (y : Pointer) → (if int_eq (pos (suc n)) (pos 0) then Some Null else None) ≡ Some y → ⊥
    not_zero n y e = let q : None ≡ Some y = ap (λ b. if b then Some Null else None) (sym (no_zero n)) ∙ e in cc

offset_of : ℕ → Pointer → ℕ
offset_of d Null = d
offset_of d (Into o f) = f

-- ---- a number in two bytes of the results
own_two : (q : core_machine.Program) (n : ℕ) (r : Root) → q.root n ≡ r → is_own q n (Result r 0) 2 ≡ true
unfolding is_own
own_two q n r e = both (same_root r (q.root n)) (nat_le (0 + 2) 4) (ap (same_root r) e ∙ root_same r) refl

two_there : (m : Memory) (root : Root) (lo hi : ℕ) → value_in int.UInt (with_byte (with_byte m (Result root 0) (bytes.Number lo)) (Result root 1) (bytes.Number hi)) (Result root 0) ≡ Some (core.Number (cut_to int.UInt (pos (lo + 256 * (hi + 256 * 0)))))
unfolding value_in core.pointer_in
two_there m root lo hi =
    let m1 = with_byte m (Result root 0) (bytes.Number lo) in
    let m2 = with_byte m1 (Result root 1) (bytes.Number hi) in
    let low : m2 (Result root 0) ≡ bytes.Number lo =
    off (bytes.same_byte (Result root 0) (Result root 1)) (bytes.Number hi) (m1 (Result root 0)) (and_false (same_root root root) false refl)
    ∙ on (bytes.same_byte (Result root 0) (Result root 0)) (bytes.Number lo) (m (Result root 0)) (byte_same (Result root 0)) in
    let high : m2 (Result root 1) ≡ bytes.Number hi = on (bytes.same_byte (Result root 1) (Result root 1)) (bytes.Number hi) (m1 (Result root 1)) (byte_same (Result root 1)) in
    ap (λ x. core.or_number (core.joined x (m2 (Result root 1))) (option_map (λ i. core.Number (cut_to int.UInt (pos i))) (core.with_low x (core.with_low (m2 (Result root 1)) (Some 0))))) low
    ∙ ap (λ x. core.or_number (core.joined (bytes.Number lo) x) (option_map (λ i. core.Number (cut_to int.UInt (pos i))) (core.with_low (bytes.Number lo) (core.with_low x (Some 0))))) high

two_bytes : (n : ℕ) → byte_at n 0 + 256 * (byte_at n 1 + 256 * 0) ≡ n % 65536
unfolding byte_at
two_bytes n = omega arith

cut_two : (n : ℕ) → cut int.UInt (pos (n % 65536)) ≡ pos (n % 65536)
cut_two n = omega (arith, ints)

-- ---- a member that was found
module _ (z : Scene) (laws : SceneLaws z) where
  at_place : (k : List Pending) (cp : CopyOf) (sought : Place) (at : spot.Spot) (m : Memory) → WaitsForPlace k sought → IsAt z (ground_in z cp).copy (base (ground_in z cp) k) (spot_of (ground_in z cp).layout (ground_in z cp).copy sought) at m → HasValue z (ground_in z cp) (Found at) k m
  at_place k cp sought at m waits is = λ other o. subst (λ y. IsAt z (ground_in z cp).copy (base (ground_in z cp) k) (spot_of (ground_in z cp).layout (ground_in z cp).copy y) at m) (waits_one k sought other waits o) is

  -- behind a fixed place
  pub fixed_bytes : (o : object.Object) (f n : ℕ) → IsThere z.program o → f + n ≤ object_bytes z.program o → lower.behind (core_byte z o f) n ≡ core_byte z o (f + n)
  fixed_bytes (objects.Fixed i) f n there le =
      let a = laws.fits (objects.Fixed i) there in
      let b = laws.reach (objects.Fixed i) there in
      ap (Static i) (beyond_is (0 + f) n (omega arith) ∙ (omega arith))
  fixed_bytes (objects.Variable d i) f n there le =
      let a = laws.fits (objects.Variable d i) there in
      let b = laws.reach (objects.Variable d i) there in
      ap (Frame (number z d)) (beyond_is (variable_offset z.program d.function i + f) n (omega arith) ∙ (omega arith))

  -- behind a pointer that stands in the frame: the offset is added to it
  sum_goes : (o : object.Object) (f offset : ℕ) (y : Pointer) (k : List Pending) (cp : CopyOf) (l : source.Memory) (w : World value.Byte) (c : Machine) (T : Machine → Type 0) → Around z cp k → Resumables cp.root k → IsThere z.program o → moved z.program (Into o f) (pos offset) ≡ Some y → base (ground_in z cp) k + 2 ≤ (core_in z).program.frame_bytes (number z cp) → is_due (arrived z.outside w) ≡ false
      → Agrees z (cp ∷ callers k) l c.memory → Holds z (ground_in z cp) k c.memory → HasDatum z (number z cp) (base (ground_in z cp) k) (datum.Pointer (Into o f)) c.memory
      → Placed (core_in z) (number z cp) None (todo (sets (Result cp.root 0) offset 2) (Todo [] (code.Binary ops.Add int.UInt (Frame (number z cp) (base (ground_in z cp) k)) (Frame (number z cp) (base (ground_in z cp) k)) (Result cp.root 0)) ∷ code_after (ground_in z cp) k)) (stack_after z (ground_in z cp) k) c.memory (world_as (held z) (arrived z.outside w)) c
      → ((d : Machine) (m' : Memory) → Agrees z (cp ∷ callers k) l m' → Holds z (ground_in z cp) k m' → HasDatum z (number z cp) (base (ground_in z cp) k) (datum.Pointer y) m' → Placed (core_in z) (number z cp) None (code_after (ground_in z cp) k) (stack_after z (ground_in z cp) k) m' (world_as (held z) (arrived z.outside w)) d → Comes (core_in z) T 0 0 d)
      → Comes (core_in z) T 28 0 c
  unfolding sets fits_together binary_value extent offset_of
  sum_goes o f offset y k cp l w c T around resumables there is room due agrees holds hx p next =
      let n = number z cp in
      let g = ground_in z cp in
      let b = base g k in
      let root = cp.root in
      let W = world_as (held z) (arrived z.outside w) in
      let no = due_below z (arrived z.outside w) due in
      let ag = again_below z w in
      let lo = byte_at offset 0 in
      let hi = byte_at offset 1 in
      let m1 = with_byte c.memory (Result root 0) (bytes.Number lo) in
      let m2 = with_byte m1 (Result root 1) (bytes.Number hi) in
      let sum = Todo [] (code.Binary ops.Add int.UInt (Frame n b) (Frame n b) (Result root 0)) ∷ code_after g k in
      let d = pos (offset % 65536) in
      let number_is : value_in int.UInt m2 (Result root 0) ≡ Some (core.Number (record { ty = int.UInt; number = d })) =
      two_there c.memory root lo hi ∙ ap (λ t. Some (core.Number (record { ty = int.UInt; number = cut int.UInt (pos t) }))) (two_bytes offset) ∙ ap (λ t. Some (core.Number (record { ty = int.UInt; number = t }))) (cut_two offset) in
      let same_frames : (i : ℕ) → SameFrame i c.memory m2 = λ i t. refl in
      let same_root_is = laws.roots cp around.reached in
      let mv = λ (s : List Waiting). moved_so z laws (extent (core_in z).program n s) o f (pos offset) d (offset / 65536) 0 y (λ t. refl) there (whole offset) is in
      let forward = moved_forward z o f offset y is in
      let same : (s : List Waiting) → (mv s).offset ≡ f + offset = λ s. ap (offset_of 0) (sym (mv s).is ∙ forward.0) in
      let result = core.Pointer (record { object = object_as z.copies o; offset = offset_as z.program o + (f + offset) }) in
      let gives : (s : List Waiting) → core.moved (extent (core_in z).program n s) (object_as z.copies o) (pos (offset_as z.program o + f) +ℤ d) ≡ Some result =
      λ s. (mv s).core_is ∙ ap (λ t. Some (core.Pointer (record { object = object_as z.copies o; offset = offset_as z.program o + t }))) (same s) in
      let m3 = with_bytes m2 (Frame n b) 2 (core.byte_of result) in
      let zero_is : lower.behind (Result root 0) 0 ≡ Result root 0 = ap (Result root) (little_is 0 (omega arith)) in
      let one_is : lower.behind (Result root 0) 1 ≡ Result root 1 = ap (Result root) (little_is 1 (omega arith)) in
      comes_within (core_in z) T (4 + (4 + (20 + 0))) 0 28 0 c
      (set_result_then (core_in z) T n None (stack_after z g k) W no ag root 0 lo (Todo [] (code.Set (Result root 1) hi) ∷ sum) c.memory c (4 + (20 + 0)) 0 (own_result (core_in z) n 0 root same_root_is (omega arith))
      (subst (λ t. Placed (core_in z) n None t (stack_after z g k) c.memory W c) (ap (λ t. Todo [] (code.Set t lo) ∷ Todo [] (code.Set (lower.behind (Result root 0) 1) hi) ∷ sum) zero_is ∙ ap (λ t. Todo [] (code.Set (Result root 0) lo) ∷ Todo [] (code.Set t hi) ∷ sum) one_is) p)
      (λ d1 p1. set_result_then (core_in z) T n None (stack_after z g k) W no ag root 1 hi sum m1 d1 (20 + 0) 0 (own_result (core_in z) n 1 root same_root_is (omega arith)) p1
      (λ d2 p2. binary_any_then (core_in z) T n (stack_after z g k) W no ag ops.Add int.UInt (Frame n b) (Frame n b) (Result root 0) (core.Pointer (record { object = object_as z.copies o; offset = offset_as z.program o + f })) (core.Number (record { ty = int.UInt; number = d })) result (code_after g k) m2 d2 0 0 20
      (λ before. both _ _ (itself n b 2) refl) (λ i. refl) (own_frame (core_in z).program n b 2 room) (own_two (core_in z).program n root same_root_is)
      (pointer_value z n b o f m2 hx) number_is (λ s e. gives s) (own_frame (core_in z).program n b 2 room) (λ i. omega arith) p2
      (λ d3 p3. next d3 m3
      (agrees_above z laws cp (cp ∷ callers k) l m2 m3 b around.reached (value_high z cp k around) (above_written n b b 2 m2 (core.byte_of result) (omega arith)) (agrees_same z (cp ∷ callers k) l c.memory m2 (λ ob at th lt. untouched root c.memory lo hi ob at) agrees))
      (holds_above z cp k m2 m3 b around (omega arith) (above_written n b b 2 m2 (core.byte_of result) (omega arith)) (holds_frames z cp.root cp k c.memory m2 resumables same_frames (others_then root c.memory m1 m2 (set_others root 0 (bytes.Number lo) c.memory) (set_others root 1 (bytes.Number hi) m1)) holds))
      (subst (λ t. HasDatum z n b (datum.Pointer t) m3) (sym forward.0) (λ i lt. bytes_there m2 n b 2 (core.byte_of result) i lt))
      p3))))
      (omega arith) (omega arith)
    where
      whole : (offset : ℕ) → pos (offset % 65536) +ℤ pos (offset / 65536 * 65536) ≡ pos offset +ℤ pos (0 * 65536)
      whole offset = omega (arith, ints)

      untouched : (root : Root) (m : Memory) (lo hi : ℕ) (ob : object.Object) (at : ℕ) → with_byte (with_byte m (Result root 0) (bytes.Number lo)) (Result root 1) (bytes.Number hi) (core_byte z ob at) ≡ m (core_byte z ob at)
      untouched root m lo hi (objects.Fixed i) at = refl
      untouched root m lo hi (objects.Variable d i) at = refl

  -- so many bytes behind the pointer, if there are any
  behind_case : (none : Bool) (whole : Place) (member offset : ℕ) (ty : Qualified) (line : ℕ) (x y : Pointer) (k : List Pending) (cp : CopyOf) (l : source.Memory) (w : World value.Byte) (c : Machine) → nat_eq offset 0 ≡ none → spot_of (ground_in z cp).layout (ground_in z cp).copy whole ≡ Computed → Around z cp k → Resumables cp.root k → WaitsForPlace k (tree.Member whole member offset ty line) → SpotIsThere z.program (spots.Memory x) → moved z.program x (pos offset) ≡ Some y → base (ground_in z cp) k + 2 ≤ (core_in z).program.frame_bytes (number z cp) → is_due (arrived z.outside w) ≡ false
      → HasDatum z (ground_in z cp).copy (base (ground_in z cp) k) (datum.Pointer x) c.memory
      → Mirrors z (state cp (Found (spots.Memory x)) (To (tree.Member whole member offset ty line) ∷ k) l w) c → Comes (core_in z) (Mirrors z (state cp (Found (spots.Memory y)) k l (arrived z.outside w))) 28 0 c
  unfolding active spot_of
  behind_case true whole member offset ty line x y k cp l w c none sp around resumables waits there is room due hx h =
      let g = ground_in z cp in
      let b = base g k in
      let place = tree.Member whole member offset ty line in
      let zero_is = same_nat offset 0 none in
      let y_is : y ≡ x = same_pointer x y (ap (λ t. moved z.program x (pos t)) (sym zero_is) ∙ is) in
      comes_within (core_in z) (Mirrors z (state cp (Found (spots.Memory y)) k l (arrived z.outside w))) 0 0 28 0 c
      (rests z cp (Found (spots.Memory x)) (Found (spots.Memory y)) (To place ∷ k) k l l w c h refl
      (ap (λ t. todo (member_rest t (Frame g.copy b) offset g.layout.root) (code_after g k)) sp ∙ ap (λ t. todo (if t then [] else (sets (Result g.layout.root 0) offset 2 ++ operator ops.Add int.UInt (Frame g.copy b) (Result g.layout.root 0) ∷ [])) (code_after g k)) none)
      refl h.agrees h.holds
      (at_place k cp place (spots.Memory y) c.memory waits (subst (λ t. IsAt z g.copy b (member_spot t offset) (spots.Memory y) c.memory) (sym sp) (y, refl, subst (λ t. HasDatum z g.copy b (datum.Pointer t) c.memory) (sym y_is) hx))))
      (omega arith) (omega arith)
    where
      same_pointer : (x y : Pointer) → moved z.program x (pos 0) ≡ Some y → y ≡ x
      same_pointer Null y e = (null_forward z 0 y e).0
      same_pointer (Into o f) y e = (moved_forward z o f 0 y e).0 ∙ (let q : f + 0 ≡ f = omega arith in ap (Into o) q)
  behind_case false whole member offset ty line Null y k cp l w c none sp around resumables waits there is room due hx h = absurd (let q = (null_forward z offset y is).1 in let r = sym (ap (λ t. nat_eq t 0) q) ∙ none in cc)
  behind_case false whole member offset ty line (Into o f) y k cp l w c none sp around resumables waits there is room due hx h =
      let g = ground_in z cp in
      let n = number z cp in
      let b = base g k in
      let place = tree.Member whole member offset ty line in
      let W = world_as (held z) (arrived z.outside w) in
      let T = Mirrors z (state cp (Found (spots.Memory y)) k l (arrived z.outside w)) in
      let now : todo (member_rest (spot_of g.layout g.copy whole) (Frame g.copy b) offset g.layout.root) (code_after g k) ≡ todo (sets (Result cp.root 0) offset 2) (Todo [] (code.Binary ops.Add int.UInt (Frame n b) (Frame n b) (Result cp.root 0)) ∷ code_after g k) =
      ap (λ t. todo (member_rest t (Frame g.copy b) offset g.layout.root) (code_after g k)) sp
      ∙ ap (λ t. todo (if t then [] else (sets (Result g.layout.root 0) offset 2 ++ operator ops.Add int.UInt (Frame g.copy b) (Result g.layout.root 0) ∷ [])) (code_after g k)) none
      ∙ todo_join (sets (Result g.layout.root 0) offset 2) (operator ops.Add int.UInt (Frame g.copy b) (Result g.layout.root 0) ∷ []) (code_after g k)
      ∙ ap (λ t. todo (sets (Result t 0) offset 2) (Todo [] (code.Binary ops.Add int.UInt (Frame g.copy b) (Frame g.copy b) (Result t 0)) ∷ code_after g k)) (own_root z cp)
      ∙ ap (λ t. todo (sets (Result cp.root 0) offset 2) (Todo [] (code.Binary ops.Add int.UInt (Frame t b) (Frame t b) (Result cp.root 0)) ∷ code_after g k)) (own_copy z cp) in
      sum_goes o f offset y k cp l w c T around resumables there is room due h.agrees h.holds (subst (λ t. HasDatum z t b (datum.Pointer (Into o f)) c.memory) (own_copy z cp) hx)
      (subst (λ t. Placed (core_in z) n None t (stack_after z g k) c.memory W c) now (placed_of z (state cp (Found (spots.Memory (Into o f))) (To place ∷ k) l w) c h))
      (λ d m' agrees holds hy pd. arrive z cp (Found (spots.Memory y)) k l w m' d pd agrees holds
      (at_place k cp place (spots.Memory y) m' waits (subst (λ t. IsAt z g.copy b (member_spot t offset) (spots.Memory y) m') (sym sp) (y, refl, subst (λ t. HasDatum z t b (datum.Pointer y) m') (sym (own_copy z cp)) hy))))

  -- by where the whole place is
  member_case : (s : place.Spot) (whole : Place) (member offset : ℕ) (ty : Qualified) (line : ℕ) (x y : Pointer) (k : List Pending) (cp : CopyOf) (l : source.Memory) (w : World value.Byte) (c : Machine) → spot_of (ground_in z cp).layout (ground_in z cp).copy whole ≡ s → Around z cp k → Resumables cp.root k → WaitsForPlace k (tree.Member whole member offset ty line) → SpotIsThere z.program (spots.Memory x) → moved z.program x (pos offset) ≡ Some y → (s ≡ Computed → base (ground_in z cp) k + 2 ≤ (core_in z).program.frame_bytes (number z cp)) → is_due (arrived z.outside w) ≡ false
      → IsAt z (ground_in z cp).copy (base (ground_in z cp) k) s (spots.Memory x) c.memory
      → Mirrors z (state cp (Found (spots.Memory x)) (To (tree.Member whole member offset ty line) ∷ k) l w) c → Comes (core_in z) (Mirrors z (state cp (Found (spots.Memory y)) k l (arrived z.outside w))) 28 0 c
  unfolding active spot_of
  member_case (Fixed byte) whole member offset ty line Null y k cp l w c sp around resumables waits there is room due at h = absurd (cc)
  member_case (Fixed byte) whole member offset ty line (Into o f) y k cp l w c sp around resumables waits there is room due at h =
      let g = ground_in z cp in
      let b = base g k in
      let place = tree.Member whole member offset ty line in
      let same_byte_is = byte_is_so (core_byte z o f) byte at in
      let mf = moved_forward z o f offset y is in
      let here : at_byte z (spots.Memory y) ≡ Some (lower.behind byte offset) = ap (λ t. at_byte z (spots.Memory t)) mf.0 ∙ ap Some (sym (fixed_bytes o f offset there mf.1)) ∙ ap (λ t. Some (lower.behind t offset)) same_byte_is in
      comes_within (core_in z) (Mirrors z (state cp (Found (spots.Memory y)) k l (arrived z.outside w))) 0 0 28 0 c
      (rests z cp (Found (spots.Memory (Into o f))) (Found (spots.Memory y)) (To place ∷ k) k l l w c h refl
      (ap (λ t. todo (member_rest t (Frame g.copy b) offset g.layout.root) (code_after g k)) sp)
      refl h.agrees h.holds
      (at_place k cp place (spots.Memory y) c.memory waits (subst (λ t. IsAt z g.copy b (member_spot t offset) (spots.Memory y) c.memory) (sym sp) here)))
      (omega arith) (omega arith)
  member_case (Bit register bit) whole member offset ty line x y k cp l w c sp around resumables waits there is room due at h = absurd (cc)
  member_case Computed whole member offset ty line x y k cp l w c sp around resumables waits there is room due at h =
      behind_case (nat_eq offset 0) whole member offset ty line x y k cp l w c refl sp around resumables waits there is (room refl) due
      (subst (λ t. HasDatum z (ground_in z cp).copy (base (ground_in z cp) k) (datum.Pointer t) c.memory) (sym (spot_is x at.0 at.1)) at.2) h

  found_or_none : (o : Option Pointer) (whole : Place) (member offset : ℕ) (ty : Qualified) (line : ℕ) (x : Pointer) (k : List Pending) (cp : CopyOf) (l : source.Memory) (w : World value.Byte) (c : Machine) → moved z.program x (pos offset) ≡ o → Around z cp k → Resumables cp.root k → WaitsForPlace k (tree.Member whole member offset ty line) → SpotIsThere z.program (spots.Memory x) → (spot_of (ground_in z cp).layout (ground_in z cp).copy whole ≡ Computed → base (ground_in z cp) k + 2 ≤ (core_in z).program.frame_bytes (number z cp)) → is_due (arrived z.outside w) ≡ false
      → Mirrors z (state cp (Found (spots.Memory x)) (To (tree.Member whole member offset ty line) ∷ k) l w) c → Follow z 28 0 c (at_member o line k cp l (arrived z.outside w))
  found_or_none None whole member offset ty line x k cp l w c is around resumables waits there room due h = tt
  found_or_none (Some y) whole member offset ty line x k cp l w c is around resumables waits there room due h =
      member_case (spot_of (ground_in z cp).layout (ground_in z cp).copy whole) whole member offset ty line x y k cp l w c refl around resumables waits there is room due (h.value whole refl) h

  pub found_member : (whole : Place) (member offset : ℕ) (ty : Qualified) (line : ℕ) (x : Pointer) (k : List Pending) (cp : CopyOf) (l : source.Memory) (w : World value.Byte) (c : Machine) → Around z cp k → Resumables cp.root k → WaitsForPlace k (tree.Member whole member offset ty line) → SpotIsThere z.program (spots.Memory x) → (spot_of (ground_in z cp).layout (ground_in z cp).copy whole ≡ Computed → base (ground_in z cp) k + 2 ≤ (core_in z).program.frame_bytes (number z cp)) → is_due (arrived z.outside w) ≡ false
      → Mirrors z (state cp (Found (spots.Memory x)) (To (tree.Member whole member offset ty line) ∷ k) l w) c → Follow z 28 0 c (found_to (source_in z) (tree.Member whole member offset ty line) (spots.Memory x) k cp l (arrived z.outside w))
  found_member whole member offset ty line x k cp l w c around resumables waits there room due h = found_or_none (moved z.program x (pos offset)) whole member offset ty line x k cp l w c refl around resumables waits there room due h
