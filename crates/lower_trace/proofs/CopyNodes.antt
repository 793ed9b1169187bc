-- Structures that are copied: the code of a node that copies, how it begins, and what follows the last byte.
use Rattle.c_typed.specs.Trees as tree
use Rattle.c_typed.specs.Trees.{Item, Place}
use Rattle.core_code.specs.Bytes.{Memory}
use Rattle.core_code.specs.Machine.{Machine, Task, Do as Todo}
use Rattle.core_code.specs.declared.code.Byte.TheVariants.{Frame, Result}
use Rattle.core_code.specs.declared.code.Byte.{Byte}
use Rattle.core_puts.specs.Bytes.{behind, beyond}
use Rattle.lower_expr.specs.Rows.{advances, given, side_of, struct_row, structure_bytes, taken}
use Rattle.lower_expr.specs.Spots.{pointer_bytes, spot_of}
use Rattle.lower_expr.specs.declared.places.Spot as place
use Rattle.lower_expr.specs.declared.places.Spot.TheVariants.{Bit, Computed, Fixed}
use Rattle.lower_stmt.specs.Ground.{local_byte}
use Rattle.lower_trace.proofs.Beginnings.{Follow, rests}
use Rattle.lower_trace.proofs.CodeLeft.{Scene, base, between, bytes_from, carrying, carrying_at, code_after, copies_from, copying, copying_at, ground_in, number, source_in, todo, wanted}
use Rattle.lower_trace.proofs.Kept.{SceneLaws}
use Rattle.lower_trace.proofs.MemberPlaces.{fixed_bytes}
use Rattle.lower_trace.proofs.Members.{byte_is_so}
use Rattle.lower_trace.proofs.Mirrors.{HasCarried, HasCarriedAt, HasCopied, HasCopiedAt, HasIf, IsAt, Mirrors, Trail, Trails, at_byte, core_byte}
use Rattle.lower_trace.proofs.Placed.{todo_join}
use Rattle.lower_trace.proofs.Places.{copies_are}
use Rattle.pic_world.specs.World.{World, arrived}
use Rattle.pic_world.specs.declared.Root.{Root}
use Rattle.src_rules.specs.Accesses.{copy_read}
use Rattle.src_rules.specs.Expressions.{found_in}
use Rattle.src_rules.specs.Standing.{IsPlaced, stepped}
use Rattle.src_rules.specs.State.{state}
use Rattle.src_values.specs.Control.{At, Copies, CopyRead, Doing, Found, Got, In, Items, Pending, Holds as Value, active}
use Rattle.src_values.specs.Data as datum
use Rattle.src_values.specs.Memory as source
use Rattle.src_values.specs.declared.objects.Byte as value
use Rattle.src_values.specs.declared.objects.CopyOf.{CopyOf}
use Rattle.src_values.specs.declared.objects.Pointer.TheVariants.{Into, Null}
use Rattle.src_values.specs.declared.objects.Pointer.{Pointer}
use Rattle.src_values.specs.declared.objects.Spot as spot
use Rattle.src_values.specs.declared.objects.Spot.TheVariants as spots
use Rattle.std.proofs.Common.{Bool, List, Some, [], ap, arith, false, refl, subst, suc, sym, true, zero, ℕ, ◌++◌, ◌+◌, ◌-◌, ◌<◌, ◌∙◌, ◌∷◌, ◌≡◌, ◌≤◌}
use Rattle.std.proofs.lemmas.Grind.{common_steps}

-- ---- code
pub byte_code : (one : Byte) (p q : place.Spot) (at : Byte) (i left : ℕ) (r : List Task)
    → todo (bytes_from one p q at i (suc left)) r
    ≡ todo (advances (side_of p at) (side_of q (behind at (pointer_bytes p))) one i) (Todo [] (taken (between p q at) (side_of q (behind at (pointer_bytes p))) i) ∷ Todo [] (given (side_of p at) (between p q at) i) ∷ todo (bytes_from one p q at (i + 1) left) r)
byte_code one p q at i left r = simp todo_join

structure_between : (one : Byte) (p q : place.Spot) (at : Byte) (n left : ℕ) (r : List Task)
    → todo (structure_bytes (side_of p at) (side_of q (behind at (pointer_bytes p))) one (between p q at) n) (todo (bytes_from one p q at n left) r) ≡ todo (bytes_from one p q at 0 (n + left)) r
unfolding structure_bytes
structure_between one p q at zero left r = let e : left ≡ 0 + left = omega arith in ap (λ i. todo (bytes_from one p q at 0 i) r) e
structure_between one p q at (suc n) left r =
    let to = side_of p at in
    let from = side_of q (behind at (pointer_bytes p)) in
    let temporary = between p q at in
    let next : suc n ≡ n + 1 = omega arith in
    let count : n + suc left ≡ suc n + left = omega arith in
    let split : todo (structure_bytes to from one temporary n ++ advances to from one n ++ taken temporary from n ∷ [] ++ given to temporary n ∷ []) (todo (bytes_from one p q at (suc n) left) r)
    ≡ todo (structure_bytes to from one temporary n) (todo (advances to from one n) (Todo [] (taken temporary from n) ∷ Todo [] (given to temporary n) ∷ todo (bytes_from one p q at (suc n) left) r)) = simp todo_join in
    split
    ∙ ap (λ i. todo (structure_bytes to from one temporary n) (todo (advances to from one n) (Todo [] (taken temporary from n) ∷ Todo [] (given to temporary n) ∷ todo (bytes_from one p q at i left) r))) next
    ∙ ap (todo (structure_bytes to from one temporary n)) (sym (byte_code one p q at n left r))
    ∙ structure_between one p q at n (suc left) r
    ∙ ap (λ i. todo (bytes_from one p q at 0 i) r) count

pub structure_is : (one : Byte) (p q : place.Spot) (at : Byte) (n : ℕ) (r : List Task) → todo (structure_bytes (side_of p at) (side_of q (behind at (pointer_bytes p))) one (between p q at) n) r ≡ todo (bytes_from one p q at 0 n) r
structure_is one p q at n r = let e : n + 0 ≡ n = omega arith in structure_between one p q at n 0 r ∙ ap (λ i. todo (bytes_from one p q at 0 i) r) e

pub copying_first : (root : Root) (p q : place.Spot) (at : Byte) (size : ℕ) → struct_row root p q at size ≡ copying root p q at size 0
copying_first root (Fixed to) (Fixed from) at size = let e : beyond 0 size ≡ beyond 0 size - 0 = omega arith in copies_are to from (beyond 0 size) ∙ ap (copies_from to from 0) e
copying_first root (Fixed to) (Bit register bit) at size = refl
copying_first root (Fixed to) Computed at size = refl
copying_first root (Bit register bit) q at size = refl
copying_first root Computed q at size = refl

-- no code is left of a structure of some bytes, where all are done
beyond_few : (n : ℕ) → beyond 0 n ≤ n
unfolding beyond
beyond_few n = grind (arith, common_steps)

all_done : (root : Root) (p q : place.Spot) (at : Byte) (size : ℕ) → 0 < size → copying root p q at size size ≡ []
all_done root (Fixed to) (Fixed from) at size some = let e : beyond 0 size - size ≡ 0 = let q = beyond_few size in omega arith in ap (copies_from to from size) e
all_done root (Fixed to) (Bit register bit) at zero some = absurd (omega arith)
all_done root (Fixed to) (Bit register bit) at (suc n) some = let e : suc n - suc n ≡ 0 = omega arith in ap (bytes_from (Result root 0) (Fixed to) (Bit register bit) at (suc n)) e
all_done root (Fixed to) Computed at zero some = absurd (omega arith)
all_done root (Fixed to) Computed at (suc n) some = let e : suc n - suc n ≡ 0 = omega arith in ap (bytes_from (Result root 0) (Fixed to) Computed at (suc n)) e
all_done root (Bit register bit) q at zero some = absurd (omega arith)
all_done root (Bit register bit) q at (suc n) some = let e : suc n - suc n ≡ 0 = omega arith in ap (bytes_from (Result root 0) (Bit register bit) q at (suc n)) e
all_done root Computed q at zero some = absurd (omega arith)
all_done root Computed q at (suc n) some = let e : suc n - suc n ≡ 0 = omega arith in ap (bytes_from (Result root 0) Computed q at (suc n)) e

pub copying_done : (root : Root) (p q : place.Spot) (at : Byte) (size : ℕ) → 0 < size → copying root p q at size (size - 0) ≡ []
copying_done root p q at size some = let e : size - 0 ≡ size = omega arith in ap (copying root p q at size) e ∙ all_done root p q at size some

-- ---- the node that copies: between which places, where pointers to them stand, and how many bytes
pub record CopyNode (z : Scene) (cp : CopyOf) (k : List Pending) (p q : place.Spot) (b size : ℕ) : Type 0 where
  pub code : (left : ℕ) → copying_at (ground_in z cp) k left ≡ todo (copying cp.root p q (Frame (number z cp) b) size (size - left)) (code_after (ground_in z cp) k)
  pub carry : (from : spot.Spot) (byte : value.Byte) (left : ℕ) → carrying_at z (ground_in z cp) k from byte left ≡ carrying z cp.root p q (Frame (number z cp) b) size from byte (size - suc left) (code_after (ground_in z cp) k)
  pub has : (to from : spot.Spot) (left : ℕ) (m : Memory) → HasCopiedAt z (ground_in z cp) k to from left m → HasCopied z cp.root (number z cp) b p q to from (size - left) m
  pub had : (to from : spot.Spot) (left : ℕ) (m : Memory) → HasCopied z cp.root (number z cp) b p q to from (size - left) m → HasCopiedAt z (ground_in z cp) k to from left m
  pub carries : (to from : spot.Spot) (byte : value.Byte) (left : ℕ) (m : Memory) → HasCarriedAt z (ground_in z cp) k to from byte left m → HasCarried z cp.root (number z cp) b p q to from byte (size - suc left) m
  pub carried : (to from : spot.Spot) (byte : value.Byte) (left : ℕ) (m : Memory) → HasCarried z cp.root (number z cp) b p q to from byte (size - suc left) m → HasCarriedAt z (ground_in z cp) k to from byte left m
  pub based : base (ground_in z cp) k ≡ b

pub assign_node : (z : Scene) (cp : CopyOf) (sought other : Place) (size line : ℕ) (got : Got) (k : List Pending) (p q : place.Spot) → spot_of (ground_in z cp).layout (ground_in z cp).copy sought ≡ p → spot_of (ground_in z cp).layout (ground_in z cp).copy other ≡ q → got ≡ Copies
    → CopyNode z cp (In (tree.StructAssign sought other size line) got ∷ k) p q (base (ground_in z cp) k) size
unfolding ground_in
assign_node z cp sought other size line got k p q e f c =
    let g = ground_in z cp in
    let s = spot_of g.layout g.copy sought in
    let t = spot_of g.layout g.copy other in
    let b = base g k in
    let n = number z cp in
    let r = code_after g (In (tree.StructAssign sought other size line) got ∷ k) in
    record {
      code = λ left. ap (λ y. todo (copying cp.root y t (Frame n b) size (size - left)) r) e ∙ ap (λ y. todo (copying cp.root p y (Frame n b) size (size - left)) r) f;
      carry = λ from byte left. ap (λ y. carrying z cp.root y t (Frame n b) size from byte (size - suc left) r) e ∙ ap (λ y. carrying z cp.root p y (Frame n b) size from byte (size - suc left) r) f;
      has = λ to from left m h. subst (λ y. HasCopied z cp.root n b p y to from (size - left) m) f (subst (λ y. HasCopied z cp.root n b y t to from (size - left) m) e h);
      had = λ to from left m h. subst (λ y. HasCopied z cp.root n b y t to from (size - left) m) (sym e) (subst (λ y. HasCopied z cp.root n b p y to from (size - left) m) (sym f) h);
      carries = λ to from byte left m h. subst (λ y. HasCarried z cp.root n b p y to from byte (size - suc left) m) f (subst (λ y. HasCarried z cp.root n b y t to from byte (size - suc left) m) e h);
      carried = λ to from byte left m h. subst (λ y. HasCarried z cp.root n b y t to from byte (size - suc left) m) (sym e) (subst (λ y. HasCarried z cp.root n b p y to from byte (size - suc left) m) (sym f) h);
      based = subst (λ y. base g (In (tree.StructAssign sought other size line) y ∷ k) ≡ b) (sym c) refl;
    }

-- ---- both places are found
-- a place in an object, as structures have
abbrev pub IsObject : spot.Spot → Type 0
IsObject (spots.Memory x) = Unit {0}
IsObject (spots.Device address) = ⊥
IsObject (spots.Bit register bit) = ⊥

byte_none : (z : Scene) (laws : SceneLaws z) (at : spot.Spot) (byte : Byte) → IsObject at → IsPlaced z.program at → at_byte z at ≡ Some byte → at_byte z at ≡ Some (behind byte 0)
byte_none z laws (spots.Memory Null) byte object placed is = absurd (cc)
byte_none z laws (spots.Memory (Into o f)) byte object placed is =
    let e : core_byte z o f ≡ byte = byte_is_so (core_byte z o f) byte is in
    let zero_is : f ≡ f + 0 = omega arith in
    ap Some (ap (core_byte z o) zero_is ∙ sym (fixed_bytes z laws o f 0 placed.0 (let q = placed.1 in omega arith)) ∙ ap (λ y. behind y 0) e)
byte_none z laws (spots.Device address) byte object placed is = absurd object
byte_none z laws (spots.Bit register bit) byte object placed is = absurd object

trails_first : (z : Scene) (laws : SceneLaws z) (n b : ℕ) (p : place.Spot) (at : spot.Spot) (m : Memory) → IsObject at → IsPlaced z.program at → IsAt z n b p at m → Trails z n b p at 0 0 m
trails_first z laws n b (Fixed byte) at m object placed is = byte_none z laws at byte object placed is
trails_first z laws n b (Bit register bit) at m object placed is = subst IsObject is object
trails_first z laws n b Computed at m object placed is = (is.0, is.1 ∙ not_moved is.0, is.2, tt)
  where
    not_moved : (x : Pointer) → spots.Memory x ≡ stepped 0 (spots.Memory x)
    not_moved Null = refl
    not_moved (Into o f) = let e : f ≡ f + 0 = omega arith in ap (λ i. spots.Memory (Into o i)) e

trail_first : (z : Scene) (laws : SceneLaws z) (root : Root) (n b : ℕ) (p q : place.Spot) (to from : spot.Spot) (m : Memory) → IsObject to → IsObject from → IsPlaced z.program to → IsPlaced z.program from → IsAt z n b p to m → IsAt z n (beyond b (pointer_bytes p)) q from m
    → Trail z root n b p q to from 0 0 false m
trail_first z laws root n b (Fixed byte) (Fixed other) to from m a c d e f g = (byte_none z laws to byte a d f, byte_none z laws from other c e g)
trail_first z laws root n b (Fixed byte) (Bit register bit) to from m a c d e f g = absurd (subst IsObject g c)
trail_first z laws root n b (Fixed byte) Computed to from m a c d e f g = (byte_none z laws to byte a d f, trails_first z laws n (beyond b 0) Computed from m c e g, tt)
trail_first z laws root n b (Bit register bit) q to from m a c d e f g = absurd (subst IsObject f a)
trail_first z laws root n b Computed q to from m a c d e f g = (trails_first z laws n b Computed to m a d f, trails_first z laws n (beyond b 2) q from m c e g, tt)

pub copied_none : (z : Scene) (laws : SceneLaws z) (root : Root) (n b size : ℕ) (p q : place.Spot) (to from : spot.Spot) (m : Memory) → IsObject to → IsObject from → IsPlaced z.program to → IsPlaced z.program from → IsAt z n b p to m → IsAt z n (beyond b (pointer_bytes p)) q from m
    → HasCopied z root n b p q to from (size - size) m
copied_none z laws root n b size p q to from m a c d e f g =
    let none : 0 ≡ size - size = omega arith in
    subst (λ i. HasCopied z root n b p q to from i m) none (trail_first z laws root n b p q to from m a c d e f g)

module _ (z : Scene) (laws : SceneLaws z) (cp : CopyOf) (l : source.Memory) where
  -- an assignment begins to copy
  pub assign_copies : (sought other : Place) (size line : ℕ) (to from : spot.Spot) (k : List Pending) (w : World value.Byte) (c : Machine) → IsObject to → IsObject from → IsPlaced z.program to → IsPlaced z.program from
      → Mirrors z (state cp (Found from) (In (tree.StructAssign sought other size line) (At to) ∷ k) l w) c
      → Follow z 0 0 c (found_in (source_in z) (tree.StructAssign sought other size line) (At to) from k cp l (arrived z.outside w))
  unfolding active
  assign_copies sought other size line to from k w c a d e f h =
      let g = ground_in z cp in
      let s = tree.StructAssign sought other size line in
      let b = base g k in
      let p = spot_of g.layout g.copy sought in
      let q = spot_of g.layout g.copy other in
      let none : 0 ≡ size - size = omega arith in
      rests z cp (Found from) (CopyRead to from size) (In s (At to) ∷ k) (In s Copies ∷ k) l l w c h refl
      (ap (λ y. todo y (code_after g k)) (copying_first g.layout.root p q (Frame g.copy b) size) ∙ ap (λ i. todo (copying g.layout.root p q (Frame g.copy b) size i) (code_after g k)) none)
      refl h.agrees (tt, h.holds.1)
      (copied_none z laws g.layout.root g.copy b size p q to from c.memory a d e f h.holds.0 (h.value other refl))

  -- all bytes are copied
  pub assign_copied : (sought other : Place) (size line : ℕ) (to from : spot.Spot) (k : List Pending) (w : World value.Byte) (c : Machine) → 0 < size
      → Mirrors z (state cp (CopyRead to from 0) (In (tree.StructAssign sought other size line) Copies ∷ k) l w) c
      → Follow z 0 0 c (copy_read (source_in z) to from 0 (In (tree.StructAssign sought other size line) Copies ∷ k) cp l (arrived z.outside w))
  unfolding active
  assign_copied sought other size line to from k w c some h =
      let g = ground_in z cp in
      let s = tree.StructAssign sought other size line in
      let b = base g k in
      rests z cp (CopyRead to from 0) (Value datum.Missing) (In s Copies ∷ k) k l l w c h refl
      (ap (λ y. todo y (code_after g k)) (copying_done g.layout.root (spot_of g.layout g.copy sought) (spot_of g.layout g.copy other) (Frame g.copy b) size some))
      refl h.agrees h.holds.1 (missing_if (wanted k) g.copy b c.memory)
    where
      missing_if : (want : Bool) (n b : ℕ) (m : Memory) → HasIf want z n b datum.Missing m
      missing_if true n b m = λ i lt. absurd (omega arith)
      missing_if false n b m = tt

-- an item of a list of first values
pub item_node : (z : Scene) (cp : CopyOf) (local : ℕ) (all : List Item) (line offset : ℕ) (other : Place) (size : ℕ) (rest : List Item) (k : List Pending) (q : place.Spot) → spot_of (ground_in z cp).layout (ground_in z cp).copy other ≡ q
    → CopyNode z cp (Doing (tree.InitList local all line) (Items (tree.Struct offset other size) rest) ∷ k) (Fixed (behind (local_byte (ground_in z cp) local) offset)) q (ground_in z cp).base size
unfolding ground_in
item_node z cp local all line offset other size rest k q f =
    let g = ground_in z cp in
    let p = Fixed (behind (local_byte g local) offset) in
    let t = spot_of g.layout g.copy other in
    let n = number z cp in
    let r = code_after g (Doing (tree.InitList local all line) (Items (tree.Struct offset other size) rest) ∷ k) in
    record {
      code = λ left. ap (λ y. todo (copying cp.root p y (Frame n g.base) size (size - left)) r) f;
      carry = λ from byte left. ap (λ y. carrying z cp.root p y (Frame n g.base) size from byte (size - suc left) r) f;
      has = λ to from left m h. subst (λ y. HasCopied z cp.root n g.base p y to from (size - left) m) f h;
      had = λ to from left m h. subst (λ y. HasCopied z cp.root n g.base p y to from (size - left) m) (sym f) h;
      carries = λ to from byte left m h. subst (λ y. HasCarried z cp.root n g.base p y to from byte (size - suc left) m) f h;
      carried = λ to from byte left m h. subst (λ y. HasCarried z cp.root n g.base p y to from byte (size - suc left) m) (sym f) h;
      based = refl;
    }
