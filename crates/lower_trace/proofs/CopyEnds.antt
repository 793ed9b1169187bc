-- Structures of no bytes, whose copy ends where it begins; and that the places of structures are objects.
use Rattle.c_ints.specs.declared.types.IntTy.TheVariants as int
use Rattle.c_typed.specs.Fits.{is_device, is_named, place_rule_holds, register_type}
use Rattle.c_typed.specs.Sameness.{is_struct, same_flag, same_type}
use Rattle.c_typed.specs.Trees as tree
use Rattle.c_typed.specs.Trees.{Place}
use Rattle.c_typed.specs.Types.{place_type}
use Rattle.c_typed.specs.declared.expression.Object.TheVariants as names
use Rattle.c_typed.specs.declared.types.Qualified.{Qualified}
use Rattle.c_typed.specs.declared.types.Ty.TheVariants as types
use Rattle.c_typed.specs.declared.types.Ty.{Ty}
use Rattle.core_code.specs.Bytes as bytes
use Rattle.core_code.specs.Bytes.{Memory, with_byte}
use Rattle.core_code.specs.Machine.{Machine, Do as Todo}
use Rattle.core_code.specs.Tree as code
use Rattle.core_code.specs.declared.code.Byte.TheVariants.{Frame, Result}
use Rattle.core_puts.specs.Bytes.{beyond}
use Rattle.lower_expr.specs.Spots.{spot_of}
use Rattle.lower_expr.specs.declared.places.Spot as place
use Rattle.lower_expr.specs.declared.places.Spot.TheVariants.{Bit, Computed, Fixed}
use Rattle.lower_trace.proofs.Advancing.{IsThrough, copying_begins}
use Rattle.lower_trace.proofs.Beginnings.{Follow, rests}
use Rattle.lower_trace.proofs.CodeLeft.{Scene, base, code_after, copies_from, copying, core_in, ground_in, held, number, source_in, stack_after, todo, wanted}
use Rattle.lower_trace.proofs.Constants.{again_below, due_below}
use Rattle.lower_trace.proofs.CopyNodes.{IsObject, assign_copied, assign_node}
use Rattle.lower_trace.proofs.Flow.{arrive}
use Rattle.lower_trace.proofs.Giving.{Around, agrees_same, placed_of}
use Rattle.lower_trace.proofs.Handing.{own_result}
use Rattle.lower_trace.proofs.Kept.{SceneLaws}
use Rattle.lower_trace.proofs.Mirrors.{HasIf, Mirrors, core_byte}
use Rattle.lower_trace.proofs.Moving.{set_result_then}
use Rattle.lower_trace.proofs.Operations.{Comes, comes_within}
use Rattle.lower_trace.proofs.Placed.{Placed}
use Rattle.lower_trace.proofs.Returning.{Resumables, holds_frames, others_then, set_others}
use Rattle.pic_world.specs.World.{World, arrived, is_due, world_as}
use Rattle.pic_world.specs.declared.Root.{Root}
use Rattle.src_rules.specs.Accesses.{copy_read}
use Rattle.src_rules.specs.Parts.{IsPlaceOf}
use Rattle.src_rules.specs.Standing.{IsSpotOf}
use Rattle.src_rules.specs.State.{state}
use Rattle.src_values.specs.Control.{Copies, CopyRead, In, Pending, Holds as Value, active}
use Rattle.src_values.specs.Data as datum
use Rattle.src_values.specs.Memory as source
use Rattle.src_values.specs.declared.objects.Byte as value
use Rattle.src_values.specs.declared.objects.CopyOf.{CopyOf}
use Rattle.src_values.specs.declared.objects.Object as object
use Rattle.src_values.specs.declared.objects.Object.TheVariants as objects
use Rattle.src_values.specs.declared.objects.Spot as spot
use Rattle.std.proofs.Common.{Bool, List, None, Some, [], ap, arith, false, if◌then◌else◌, refl, subst, suc, sym, true, zero, ℕ, ◌&&◌, ◌+◌, ◌-◌, ◌∙◌, ◌∷◌, ◌≡◌, ◌||◌}

-- ---- places of structures
no_register : (t : Ty) → is_struct t ≡ true → same_type (types.Int int.UChar) t ≡ true → ⊥
no_register types.Void s e = cc
no_register (types.Int ty) s e = cc
no_register (types.Pointer row) s e = cc
no_register (types.Array element count size) s e = cc
no_register (types.Struct number) s e = cc

register_plain : (there : Bool) (ty : Qualified) → is_named false (if there then Some register_type else None) ty ≡ true → is_struct ty.ty ≡ true → ⊥
register_plain false ty e s = cc
register_plain true ty e s = no_register ty.ty s (first_of (same_type (types.Int int.UChar) ty.ty) (same_flag false ty.constant && same_flag true ty.volatile) e)
  where
    first_of : (a b : Bool) → ((a && b) || false) ≡ true → a ≡ true
    first_of true b e = refl
    first_of false b e = absurd (cc)

pub struct_object : (z : Scene) (cp : CopyOf) (sought : Place) (at : spot.Spot) → IsPlaceOf z.program cp.function sought → is_struct (place_type sought).ty ≡ true → IsSpotOf z.program cp sought at → IsObject at
unfolding place_rule_holds
struct_object z cp (tree.Name (names.Static n) ty line) at h s is = subst IsObject (sym is) tt
struct_object z cp (tree.Name (names.Param n) ty line) at h s is = subst IsObject (sym is) tt
struct_object z cp (tree.Name (names.Local n) ty line) at h s is = subst IsObject (sym is) tt
struct_object z cp (tree.Name (names.Register a) ty line) at h s is = absurd (register_plain (is_device a) ty h s)
struct_object z cp (tree.Bit register bit line) at h s is = absurd (cc)
struct_object z cp (tree.Member whole member offset ty line) at h s is = subst IsObject (sym is.4) tt
struct_object z cp (tree.Deref pointer ty line) at h s is = subst IsObject (sym is.2) tt

-- ---- structures of no bytes
module _ (z : Scene) (laws : SceneLaws z) (cp : CopyOf) (l : source.Memory) where
  missing_there : (want : Bool) (n b : ℕ) (m : Memory) → HasIf want z n b datum.Missing m
  missing_there true n b m = λ i lt. absurd (omega arith)
  missing_there false n b m = tt

  untouched : (root : Root) (m : Memory) (ob : object.Object) (at : ℕ) → with_byte (with_byte m (Result root 0) (bytes.Number 1)) (Result root 1) (bytes.Number 0) (core_byte z ob at) ≡ m (core_byte z ob at)
  untouched root m (objects.Fixed i) at = refl
  untouched root m (objects.Variable d i) at = refl

  through_none : (p q : place.Spot) (sought other : Place) (line : ℕ) (to from : spot.Spot) (k : List Pending) (w : World value.Byte) (c : Machine) → IsThrough p q → spot_of (ground_in z cp).layout (ground_in z cp).copy sought ≡ p → spot_of (ground_in z cp).layout (ground_in z cp).copy other ≡ q → Around z cp k → Resumables cp.root k → is_due (arrived z.outside w) ≡ false
      → Mirrors z (state cp (CopyRead to from 0) (In (tree.StructAssign sought other 0 line) Copies ∷ k) l w) c
      → Comes (core_in z) (Mirrors z (state cp (Value datum.Missing) k l (arrived z.outside w))) 8 0 c
  unfolding active
  through_none p q sought other line to from k w c through ep eq around resumables due h =
      let e = tree.StructAssign sought other 0 line in
      let f = In e Copies ∷ k in
      let g = ground_in z cp in
      let n = number z cp in
      let b = base g k in
      let root = cp.root in
      let root_is = laws.roots cp around.reached in
      let r = code_after g k in
      let s = stack_after z g k in
      let W = world_as (held z) (arrived z.outside w) in
      let m = c.memory in
      let m1 = with_byte m (Result root 0) (bytes.Number 1) in
      let m2 = with_byte m1 (Result root 1) (bytes.Number 0) in
      let node = assign_node z cp sought other 0 line Copies k p q ep eq refl in
      let none : 0 - 0 ≡ 0 = omega arith in
      let T = Mirrors z (state cp (Value datum.Missing) k l (arrived z.outside w)) in
      let split = node.code 0 ∙ ap (λ y. todo (copying root p q (Frame n b) 0 y) r) none ∙ copying_begins root p q (Frame n b) 0 r through in
      comes_within (core_in z) T (4 + (4 + 0)) 0 8 0 c
      (set_result_then (core_in z) T n None s W (due_below z (arrived z.outside w) due) (again_below z w) root 0 1 (Todo [] (code.Set (Result root 1) 0) ∷ r) m c (4 + 0) 0 (own_result (core_in z) n 0 root root_is (omega arith))
      (subst (λ y. Placed (core_in z) n None y s m W c) split (placed_of z (state cp (CopyRead to from 0) f l w) c h))
      (λ d1 p1. set_result_then (core_in z) T n None s W (due_below z (arrived z.outside w) due) (again_below z w) root 1 0 r m1 d1 0 0 (own_result (core_in z) n 1 root root_is (omega arith)) p1
      (λ d2 p2. arrive z cp (Value datum.Missing) k l w m2 d2 p2
      (agrees_same z (active cp (Value datum.Missing) k) l m m2 (λ ob at th lt. untouched root m ob at) h.agrees)
      (holds_frames z root cp k m m2 resumables (λ i t. refl) (others_then root m m1 m2 (set_others root 0 (bytes.Number 1) m) (set_others root 1 (bytes.Number 0) m1)) h.holds.1)
      (missing_there (wanted k) g.copy b m2))))
      (omega arith) (omega arith)

  none_case : (p q : place.Spot) (sought other : Place) (line : ℕ) (to from : spot.Spot) (k : List Pending) (w : World value.Byte) (c : Machine) → spot_of (ground_in z cp).layout (ground_in z cp).copy sought ≡ p → spot_of (ground_in z cp).layout (ground_in z cp).copy other ≡ q → Around z cp k → Resumables cp.root k → is_due (arrived z.outside w) ≡ false
      → Mirrors z (state cp (CopyRead to from 0) (In (tree.StructAssign sought other 0 line) Copies ∷ k) l w) c
      → Comes (core_in z) (Mirrors z (state cp (Value datum.Missing) k l (arrived z.outside w))) 8 0 c
  unfolding active beyond
  none_case (Fixed x) (Fixed y) sought other line to from k w c ep eq around resumables due h =
      let e = tree.StructAssign sought other 0 line in
      let g = ground_in z cp in
      let node = assign_node z cp sought other 0 line Copies k (Fixed x) (Fixed y) ep eq refl in
      let none : 0 - 0 ≡ 0 = omega arith in
      let few : beyond 0 0 - 0 ≡ 0 = omega arith in
      comes_within (core_in z) (Mirrors z (state cp (Value datum.Missing) k l (arrived z.outside w))) 0 0 8 0 c
      (rests z cp (CopyRead to from 0) (Value datum.Missing) (In e Copies ∷ k) k l l w c h refl
      (node.code 0 ∙ ap (λ i. todo (copying cp.root (Fixed x) (Fixed y) (Frame (number z cp) (base g k)) 0 i) (code_after g k)) none ∙ ap (λ i. todo (copies_from x y 0 i) (code_after g k)) few)
      refl h.agrees h.holds.1 (missing_there (wanted k) g.copy (base g k) c.memory))
      (omega arith) (omega arith)
  none_case (Fixed x) (Bit register bit) sought other line to from k w c ep eq around resumables due h = through_none (Fixed x) (Bit register bit) sought other line to from k w c tt ep eq around resumables due h
  none_case (Fixed x) Computed sought other line to from k w c ep eq around resumables due h = through_none (Fixed x) Computed sought other line to from k w c tt ep eq around resumables due h
  none_case (Bit register bit) q sought other line to from k w c ep eq around resumables due h = through_none (Bit register bit) q sought other line to from k w c tt ep eq around resumables due h
  none_case Computed q sought other line to from k w c ep eq around resumables due h = through_none Computed q sought other line to from k w c tt ep eq around resumables due h

  -- an assignment is done, whatever the structure's size
  pub assign_ends : (sought other : Place) (size line : ℕ) (to from : spot.Spot) (k : List Pending) (w : World value.Byte) (c : Machine) → Around z cp k → Resumables cp.root k → is_due (arrived z.outside w) ≡ false
      → Mirrors z (state cp (CopyRead to from 0) (In (tree.StructAssign sought other size line) Copies ∷ k) l w) c
      → Follow z 8 0 c (copy_read (source_in z) to from 0 (In (tree.StructAssign sought other size line) Copies ∷ k) cp l (arrived z.outside w))
  assign_ends sought other zero line to from k w c around resumables due h = none_case (spot_of (ground_in z cp).layout (ground_in z cp).copy sought) (spot_of (ground_in z cp).layout (ground_in z cp).copy other) sought other line to from k w c refl refl around resumables due h
  assign_ends sought other (suc size) line to from k w c around resumables due h =
      comes_within (core_in z) (Mirrors z (state cp (Value datum.Missing) k l (arrived z.outside w))) 0 0 8 0 c (assign_copied z laws cp l sought other (suc size) line to from k w c (omega arith) h) (omega arith) (omega arith)
