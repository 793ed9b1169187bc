-- Places that were found: addresses are taken, and members are looked for.
use Rattle.c_ints.specs.declared.operators.BinOp.{BinOp}
use Rattle.c_typed.specs.Trees as tree
use Rattle.c_typed.specs.Trees.{Expression, Place}
use Rattle.c_typed.specs.Types.{place_type}
use Rattle.c_typed.specs.declared.types.Ty.{Ty}
use Rattle.core_code.specs.Bytes as bytes
use Rattle.core_code.specs.Bytes.{Held, Memory, with_bytes}
use Rattle.core_code.specs.Cost.{cost_of}
use Rattle.core_code.specs.Machine.{Machine, Setting, Task, Do as Todo, Waiting, is_valid, operate}
use Rattle.core_code.specs.Tree as code
use Rattle.core_code.specs.Tree.{Tree}
use Rattle.core_code.specs.Values as core
use Rattle.core_code.specs.declared.code.Byte.TheVariants.{Frame, Static}
use Rattle.core_code.specs.declared.code.Byte.{Byte}
use Rattle.lower_expr.specs.Layout.{place_width}
use Rattle.lower_expr.specs.Lowering.{behind_pointer, change_code, expr_code, shifts_by_constant, update_of}
use Rattle.lower_expr.specs.Rows.{address_row, update_row}
use Rattle.lower_expr.specs.Spots.{spot_of}
use Rattle.lower_expr.specs.declared.places.Spot as place
use Rattle.lower_expr.specs.declared.places.Spot.TheVariants.{Bit, Computed, Fixed}
use Rattle.lower_trace.proofs.Beginnings.{Follow, rests}
use Rattle.lower_trace.proofs.CodeLeft.{Scene, base, code_after, core_in, ground_in, held, number, plain, source_in, stack_after, todo, wanted}
use Rattle.lower_trace.proofs.Constants.{again_below, due_below, same_below}
use Rattle.lower_trace.proofs.Giving.{Around, gives, placed_of}
use Rattle.lower_trace.proofs.Kept.{SceneLaws, own_copy}
use Rattle.lower_trace.proofs.Mirrors.{HasDatum, HasIf, IsAt, Mirrors, core_byte}
use Rattle.lower_trace.proofs.Moving.{first_on}
use Rattle.lower_trace.proofs.Operations.{Comes, comes_here, comes_within, own_frame}
use Rattle.lower_trace.proofs.Placed.{Placed, todo_join}
use Rattle.lower_trace.specs.Lowering.{object_as, offset_as}
use Rattle.pic_world.specs.World.{World, arrived, is_due, world_as}
use Rattle.src_rules.specs.Expressions.{address, found_in}
use Rattle.src_rules.specs.State.{state}
use Rattle.src_values.specs.Control.{At, Eval, Find, Found, In, Nothing, Pending, Holds as Value, active}
use Rattle.src_values.specs.Data as datum
use Rattle.src_values.specs.Data.{Datum}
use Rattle.src_values.specs.Memory as source
use Rattle.src_values.specs.Values.{byte_of}
use Rattle.src_values.specs.declared.objects.Byte as value
use Rattle.src_values.specs.declared.objects.CopyOf.{CopyOf}
use Rattle.src_values.specs.declared.objects.Object as object
use Rattle.src_values.specs.declared.objects.Pointer.TheVariants.{Into, Null}
use Rattle.src_values.specs.declared.objects.Pointer.{Pointer}
use Rattle.src_values.specs.declared.objects.Spot as spot
use Rattle.src_values.specs.declared.objects.Spot.TheVariants as spots
use Rattle.std.proofs.Common.{Bool, List, None, Option, Some, [], ap, arith, false, refl, subst, sym, true, ℕ, ◌++◌, ◌+◌, ◌<◌, ◌∙◌, ◌∷◌, ◌≡◌, ◌≤◌}

-- ---- the address of a byte by its name
module _ (g : Setting) (T : Machine → Type 0) (n : ℕ) (a : Option ℕ) (s : List Waiting) (w : World Held) (due : is_due w ≡ false) (now : arrived g.outside w ≡ w) where
  pub address_then : (o : bytes.Object) (offset b : ℕ) (r : List Task) (m : Memory) (c : Machine) (q l : ℕ) → is_valid g.program n (bytes.byte_in o offset) ≡ true → b + 2 ≤ g.program.frame_bytes n
      → Placed g n a (Todo [] (code.Address (Frame n b) (bytes.byte_in o offset)) ∷ r) s m w c
      → ((d : Machine) → Placed g n a r s (with_bytes m (Frame n b) 2 (core.byte_of (core.Pointer (record { object = o; offset = offset })))) w d → Comes g T q l d) → Comes g T (8 + q) l c
  unfolding operate cost_of
  address_then (bytes.Fixed i) offset b r m c q l valid room p next =
      let own = own_frame g.program n b 2 room in
      first_on g T n a s w due now (code.Address (Frame n b) (Static i offset)) r m (with_bytes m (Frame n b) 2 (core.byte_of (core.Pointer (record { object = bytes.Fixed i; offset = offset })))) c q l 8 p
      (λ before rest s' e. rw (valid, own) refl) (λ before s'. omega arith) next
  address_then (bytes.FrameOf i) offset b r m c q l valid room p next =
      let own = own_frame g.program n b 2 room in
      first_on g T n a s w due now (code.Address (Frame n b) (Frame i offset)) r m (with_bytes m (Frame n b) 2 (core.byte_of (core.Pointer (record { object = bytes.FrameOf i; offset = offset })))) c q l 8 p
      (λ before rest s' e. rw (valid, own) refl) (λ before s'. omega arith) next

-- ---- pointers and spots
spot_pointer : Pointer → spot.Spot → Pointer
spot_pointer x (spots.Memory y) = y
spot_pointer x _ = x

byte_or : Byte → Option Byte → Byte
byte_or x (Some y) = y
byte_or x None = x

pub spot_is : (x y : Pointer) → spots.Memory x ≡ spots.Memory y → x ≡ y
unfolding spot_pointer
spot_is x y e = ap (spot_pointer x) e

pub byte_is_so : (x y : Byte) → Some x ≡ Some y → x ≡ y
unfolding byte_or
byte_is_so x y e = ap (byte_or x) e

pub if_datum : (z : Scene) (want : Bool) (n b : ℕ) (v : Datum) (m : Memory) → HasDatum z n b v m → HasIf want z n b v m
if_datum z true n b v m h = h
if_datum z false n b v m h = tt

-- what a pointer's bytes are
pointer_held : (z : Scene) (o : object.Object) (f i : ℕ) → i < 2 → core.byte_of (core.Pointer (record { object = object_as z.copies o; offset = offset_as z.program o + f })) i ≡ held z (byte_of (datum.Pointer (Into o f)) i)
pointer_held z o f i lt = refl

-- the address of a fixed place is set, and that of a computed one stands there
abbrev pub address_most : place.Spot → ℕ
address_most (Fixed byte) = 8
address_most (Bit register bit) = 0
address_most Computed = 0

module _ (z : Scene) (laws : SceneLaws z) where
  -- ---- `&`
  address_case : (s : place.Spot) (sought : Place) (ty : Ty) (line : ℕ) (x : Pointer) (k : List Pending) (cp : CopyOf) (l : source.Memory) (w : World value.Byte) (c : Machine) → spot_of (ground_in z cp).layout (ground_in z cp).copy sought ≡ s → Around z cp k
      → ((byte : Byte) → s ≡ Fixed byte → is_valid (core_in z).program (number z cp) byte ≡ true) → base (ground_in z cp) k + 2 ≤ (core_in z).program.frame_bytes (number z cp) → is_due (arrived z.outside w) ≡ false
      → IsAt z (ground_in z cp).copy (base (ground_in z cp) k) s (spots.Memory x) c.memory
      → Mirrors z (state cp (Found (spots.Memory x)) (In (tree.Address sought ty line) Nothing ∷ k) l w) c → Comes (core_in z) (Mirrors z (state cp (Value (datum.Pointer x)) k l (arrived z.outside w))) (address_most s) 0 c
  unfolding active
  address_case (Fixed byte) sought ty line Null k cp l w c e around valid room due is h = absurd (cc)
  address_case (Fixed byte) sought ty line (Into o f) k cp l w c e around valid room due is h =
      let g = ground_in z cp in
      let n = number z cp in
      let b = base g k in
      let W = world_as (held z) (arrived z.outside w) in
      let v = datum.Pointer (Into o f) in
      let T = Mirrors z (state cp (Value v) k l (arrived z.outside w)) in
      let p : bytes.Place = record { object = object_as z.copies o; offset = offset_as z.program o + f } in
      let same : core_byte z o f ≡ byte = byte_is_so (core_byte z o f) byte is in
      let now : todo (address_row (spot_of g.layout g.copy sought) (Frame g.copy b)) (code_after g k) ≡ Todo [] (code.Address (Frame n b) (core_byte z o f)) ∷ code_after g k =
      ap (λ y. todo (address_row y (Frame g.copy b)) (code_after g k)) e ∙ ap (λ y. Todo [] (code.Address (Frame g.copy b) y) ∷ code_after g k) (sym same) ∙ ap (λ i. Todo [] (code.Address (Frame i b) (core_byte z o f)) ∷ code_after g k) (own_copy z cp) in
      comes_within (core_in z) T (8 + 0) 0 8 0 c
      (address_then (core_in z) T n None (stack_after z g k) W (due_below z (arrived z.outside w) due) (again_below z w) (object_as z.copies o) (offset_as z.program o + f) b (code_after g k) c.memory c 0 0
      (ap (is_valid (core_in z).program n) same ∙ valid byte refl) room
      (subst (λ y. Placed (core_in z) n None y (stack_after z g k) c.memory W c) now (placed_of z (state cp (Found (spots.Memory (Into o f))) (In (tree.Address sought ty line) Nothing ∷ k) l w) c h))
      (λ d pd. comes_here (core_in z) T d
      (gives z laws cp k l (arrived z.outside w) c.memory 2 (core.byte_of (core.Pointer p)) v d around (omega arith) (λ i lt. pointer_held z o f i lt)
      (subst (λ y. Placed (core_in z) n None (code_after g k) (stack_after z g k) (with_bytes c.memory (Frame n b) 2 (core.byte_of (core.Pointer p))) y d) (same_below z w) pd)
      h.agrees h.holds.1)))
      (omega arith) (omega arith)
  address_case (Bit register bit) sought ty line x k cp l w c e around valid room due is h = absurd (cc)
  address_case Computed sought ty line x k cp l w c e around valid room due is h =
      let g = ground_in z cp in
      let b = base g k in
      let q = spot_is x is.0 is.1 in
      comes_within (core_in z) (Mirrors z (state cp (Value (datum.Pointer x)) k l (arrived z.outside w))) 0 0 0 0 c
      (rests z cp (Found (spots.Memory x)) (Value (datum.Pointer x)) (In (tree.Address sought ty line) Nothing ∷ k) k l l w c h refl
      (ap (λ y. todo (address_row y (Frame g.copy b)) (code_after g k)) e) refl h.agrees h.holds.1
      (if_datum z (wanted k) g.copy b (datum.Pointer x) c.memory (subst (λ y. HasDatum z g.copy b (datum.Pointer y) c.memory) (sym q) is.2)))
      (omega arith) (omega arith)

  pub found_address : (sought : Place) (ty : Ty) (line : ℕ) (at : spot.Spot) (k : List Pending) (cp : CopyOf) (l : source.Memory) (w : World value.Byte) (c : Machine) → Around z cp k
      → ((byte : Byte) → spot_of (ground_in z cp).layout (ground_in z cp).copy sought ≡ Fixed byte → is_valid (core_in z).program (number z cp) byte ≡ true) → base (ground_in z cp) k + 2 ≤ (core_in z).program.frame_bytes (number z cp) → is_due (arrived z.outside w) ≡ false
      → Mirrors z (state cp (Found at) (In (tree.Address sought ty line) Nothing ∷ k) l w) c → Follow z (address_most (spot_of (ground_in z cp).layout (ground_in z cp).copy sought)) 0 c (found_in (source_in z) (tree.Address sought ty line) Nothing at k cp l (arrived z.outside w))
  found_address sought ty line (spots.Memory x) k cp l w c around valid room due h = address_case (spot_of (ground_in z cp).layout (ground_in z cp).copy sought) sought ty line x k cp l w c refl around valid room due (h.value sought refl) h
  found_address sought ty line (spots.Device address) k cp l w c around valid room due h = tt
  found_address sought ty line (spots.Bit register bit) k cp l w c around valid room due h = tt

  -- ---- what follows a place
  pub found_struct : (to from : Place) (size line : ℕ) (at : spot.Spot) (k : List Pending) (cp : CopyOf) (l : source.Memory) (w : World value.Byte) (c : Machine)
      → Mirrors z (state cp (Found at) (In (tree.StructAssign to from size line) Nothing ∷ k) l w) c → Follow z 0 0 c (found_in (source_in z) (tree.StructAssign to from size line) Nothing at k cp l (arrived z.outside w))
  unfolding active
  found_struct to from size line at k cp l w c h =
      let e = tree.StructAssign to from size line in
      rests z cp (Found at) (Find from) (In e Nothing ∷ k) (In e (At at) ∷ k) l l w c h refl (simp todo_join) refl h.agrees (h.value to refl, h.holds.1) tt

  right_code : (constant : Bool) (a b : List Tree) (r : List Task) → constant ≡ false → todo (change_code constant a ++ b) r ≡ todo a (todo b r)
  right_code true a b r e = absurd (cc)
  right_code false a b r e = todo_join a b r

  -- the right operand of an update comes next, if it isn't a shift's count that is known
  pub found_update : (op : BinOp) (to : Place) (right : Expression) (operation : Ty) (size : ℕ) (ty : Ty) (line : ℕ) (at : spot.Spot) (k : List Pending) (cp : CopyOf) (l : source.Memory) (w : World value.Byte) (c : Machine) → shifts_by_constant op right ≡ false
      → Mirrors z (state cp (Found at) (In (tree.Update op to right operation size ty line) Nothing ∷ k) l w) c → Follow z 0 0 c (found_in (source_in z) (tree.Update op to right operation size ty line) Nothing at k cp l (arrived z.outside w))
  unfolding active
  found_update op to right operation size ty line at k cp l w c plain h =
      let e = tree.Update op to right operation size ty line in
      let g = ground_in z cp in
      let b = base g k in
      rests z cp (Found at) (Eval right) (In e Nothing ∷ k) (In e (At at) ∷ k) l l w c h refl
      (right_code (shifts_by_constant op right) (expr_code g.layout g.copy (behind_pointer g.layout g.copy b to) true right)
      (update_row (update_of (wanted k) g.layout op to right operation size) (spot_of g.layout g.copy to) g.layout.root (Frame g.copy b) (place_width g.layout to) (place_type to).ty) (code_after g k) plain)
      refl h.agrees ((h.value to refl, plain), h.holds.1) tt
