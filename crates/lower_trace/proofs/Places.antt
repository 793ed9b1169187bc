-- Places that are looked for, and what follows where one was found.
use Rattle.std.proofs.Common.{◌≡◌, ℕ, zero, suc, ◌+◌, ◌-◌, ◌<◌, ◌≤◌, Bool, true, false, if◌then◌else◌, List, [], ◌∷◌, ◌++◌, length, Some, append_assoc, append-nil, refl, sym, ap, ◌∙◌, subst, arith}
use Rattle.c_typed.specs.Trees as tree
use Rattle.c_typed.specs.Trees.{Expression, Expressions, Place}
use Rattle.c_typed.specs.declared.types.Ty.{Ty}
use Rattle.c_typed.specs.declared.types.Ty.TheVariants as types
use Rattle.core_code.specs.Bytes.{is_private}
use Rattle.core_code.specs.Machine.{Machine, Task, Do}
use Rattle.core_code.specs.Tree as code
use Rattle.core_code.specs.Tree.{Tree}
use Rattle.core_code.specs.declared.code.Byte.{Byte}
use Rattle.core_code.specs.declared.code.Byte.TheVariants.{Frame}
use Rattle.core_puts.specs.Bytes.{beyond, behind}
use Rattle.lower_expr.specs.Layout.{object_byte, width}
use Rattle.lower_expr.specs.Lowering.{address_code, behind_pointer}
use Rattle.c_typed.specs.Sameness.{is_scalar}
use Rattle.core_puts.specs.Puts.{copies}
use Rattle.lower_expr.specs.Rows.{value_row}
use Rattle.lower_expr.specs.Spots.{spot_of, pointer_bytes}
use Rattle.lower_expr.specs.declared.places.Spot as place
use Rattle.lower_expr.specs.declared.places.Spot.TheVariants.{Fixed, Bit, Computed}
use Rattle.pic_world.specs.World.{World, arrived}
use Rattle.src_rules.specs.Expressions.{find, found_in}
use Rattle.src_rules.specs.Parts.{IsPlaceOf}
use Rattle.src_rules.specs.Standing.{WaitsForPlace, SeeksIn, SeeksTo, SeeksDoing}
use Rattle.src_rules.specs.State.{state}
use Rattle.src_values.specs.Control.{Eval, Find, Found, Fetch, Got, Nothing, At, Stage, AtItem, Pending, In, To, Doing, Before, Returns, Resumes, active}
use Rattle.src_values.specs.Memory as source
use Rattle.src_values.specs.Objects as objects
use Rattle.src_values.specs.declared.objects.Byte as value
use Rattle.src_values.specs.declared.objects.CopyOf.{CopyOf}
use Rattle.src_values.specs.declared.objects.Object.TheVariants as where_is
use Rattle.src_values.specs.declared.objects.Pointer.TheVariants.{Null, Into}
use Rattle.src_values.specs.declared.objects.Spot as spot
use Rattle.src_values.specs.declared.objects.Spot.TheVariants as spots
use Rattle.lower_trace.proofs.Beginnings.{Follow, rests, bit_address, member_code}
use Rattle.lower_trace.proofs.CodeLeft.{Scene, number, ground_in, core_in, source_in, todo, base, kept_value, copies_from, putting_if, reading, code_after}
use Rattle.lower_trace.proofs.Giving.{Around}
use Rattle.lower_trace.proofs.Kept.{SceneLaws, own_copy}
use Rattle.lower_trace.proofs.Mirrors.{Mirrors, HasValue, IsAt, in_place}
use Rattle.lower_trace.proofs.Operations.{Comes, beyond_is}
use Rattle.lower_trace.proofs.Placed.{todo_join}

-- ---- what is waited for is one place
seeks_one : (e : Expression) (got : Got) (a b : Place) → SeeksIn e got a → SeeksIn e got b → a ≡ b
seeks_one (tree.Read place ty line) Nothing a b h d = h ∙ sym d
seeks_one (tree.Address place ty line) Nothing a b h d = h ∙ sym d
seeks_one (tree.Assign place value ty line) Nothing a b h d = h ∙ sym d
seeks_one (tree.StructAssign place from size line) Nothing a b h d = h ∙ sym d
seeks_one (tree.StructAssign place from size line) (At spot) a b h d = h ∙ sym d
seeks_one (tree.Update op place value operation size ty line) Nothing a b h d = h ∙ sym d
seeks_one (tree.Step op place operation size ty line) Nothing a b h d = h ∙ sym d
seeks_one _ _ a b h d = absurd h

seeks_one_to : (p a b : Place) → SeeksTo p a → SeeksTo p b → a ≡ b
seeks_one_to (tree.Member whole member offset ty line) a b h d = h ∙ sym d
seeks_one_to _ a b h d = absurd h

seeks_one_for : (t : tree.Statement) (stage : Stage) (a b : Place) → SeeksDoing t stage a → SeeksDoing t stage b → a ≡ b
seeks_one_for (tree.InitList local all line) (AtItem (tree.Struct offset from size) rest) a b h d = h ∙ sym d
seeks_one_for _ _ a b h d = absurd h

pub waits_one : (k : List Pending) (a b : Place) → WaitsForPlace k a → WaitsForPlace k b → a ≡ b
waits_one [] a b h d = absurd h
waits_one (In e got ∷ k) a b h d = seeks_one e got a b h d
waits_one (To place ∷ k) a b h d = seeks_one_to place a b h d
waits_one (Doing t stage ∷ k) a b h d = seeks_one_for t stage a b h d
waits_one (Before ss ∷ k) a b h d = absurd h
waits_one (Returns c ∷ k) a b h d = absurd h
waits_one (Resumes c x ∷ k) a b h d = absurd h

-- ---- copies of bytes, from the first one on
copies_between : (to from : Byte) (at left : ℕ) → copies to from at ++ copies_from to from at left ≡ copies to from (at + left)
unfolding copies
copies_between to from at zero = append-nil (copies to from at) ∙ (let e : at ≡ at + 0 = omega arith in ap (copies to from) e)
copies_between to from at (suc left) =
    let e : at + 1 ≡ suc at = omega arith in
    let q : suc at + left ≡ at + suc left = omega arith in
    sym (append_assoc (copies to from at) (code.Copy (behind to at) (behind from at) ∷ []) (copies_from to from (at + 1) left))
    ∙ ap (λ i. copies to from (suc at) ++ copies_from to from i left) e
    ∙ copies_between to from (suc at) left
    ∙ ap (copies to from) q

pub copies_are : (to from : Byte) (n : ℕ) → copies to from n ≡ copies_from to from 0 n
unfolding copies
copies_are to from n = let e : 0 + n ≡ n = omega arith in sym (copies_between to from 0 n ∙ ap (copies to from) e)

pub putting_none : (b : Bool) (z : Scene) (to : Byte) (c : List Task) → putting_if b z to [] c ≡ c
putting_none true z to c = refl
putting_none false z to c = refl

private_none : (b : Bool) (i : ℕ) → i < (if b then 0 else 0) → ⊥
private_none true i lt = omega arith
private_none false i lt = omega arith

pub in_place_none : (p : place.Spot) (at : spot.Spot) (i : ℕ) → i < in_place p at 0 → ⊥
in_place_none (Fixed from) at i lt = private_none (is_private from) i lt
in_place_none (Bit register bit) at i lt = omega arith
in_place_none Computed (spots.Memory (Into (where_is.Fixed n) offset)) i lt = omega arith
in_place_none Computed (spots.Memory (Into (where_is.Variable c n) offset)) i lt = omega arith
in_place_none Computed (spots.Memory Null) i lt = omega arith
in_place_none Computed (spots.Device address) i lt = omega arith
in_place_none Computed (spots.Bit register number) i lt = omega arith

-- the read of a place begins: no byte was read
reading_none : (z : Scene) (s : place.Spot) (at : spot.Spot) (n b v count : ℕ) (r : List Task) → ((from : Byte) → s ≡ Fixed from → v ≡ b) → ((register bit : ℕ) → s ≡ Bit register bit → v ≡ b) → (s ≡ Computed → v ≡ beyond b 2)
    → todo (value_row s (Frame n b) count) r ≡ reading z s at (Frame n b) (Frame n v) count [] (todo (kept_value s (Frame n b) count) r)
reading_none z (Fixed from) at n b v count r f g h =
    ap (λ y. todo y r) (copies_are (Frame n b) from count)
    ∙ ap (λ y. todo (copies_from (Frame n y) from 0 count) r) (sym (f from refl))
    ∙ (let e : count ≡ count - 0 = omega arith in ap (λ y. todo (copies_from (Frame n v) from 0 y) r) e)
    ∙ sym (putting_none (if is_private from then false else true) z (Frame n v) (todo (copies_from (Frame n v) from 0 (count - 0)) r))
reading_none z (Bit register bit) at n b v count r f g h = ap (λ y. Do [] (code.BitRead (Frame n y) register bit) ∷ r) (sym (g register bit refl))
reading_none z Computed at n b v count r f g h = ap (λ y. Do [] (code.Load (Frame n y) (Frame n b) count) ∷ todo (copies (Frame n b) (Frame n (beyond b 2)) count) r) (sym (h refl))

module _ (z : Scene) (laws : SceneLaws z) where
  -- a place was found there, that is waited for
  there : (k : List Pending) (cp : CopyOf) (sought : Place) (at : spot.Spot) (c : Machine) → WaitsForPlace k sought → IsAt z (ground_in z cp).copy (base (ground_in z cp) k) (spot_of (ground_in z cp).layout (ground_in z cp).copy sought) at c.memory → HasValue z (ground_in z cp) (Found at) k c.memory
  there k cp sought at c waits is =
      λ other o. subst (λ y. IsAt z (ground_in z cp).copy (base (ground_in z cp) k) (spot_of (ground_in z cp).layout (ground_in z cp).copy y) at c.memory) (waits_one k sought other waits o) is

  pub find_goes : (sought : Place) (k : List Pending) (cp : CopyOf) (l : source.Memory) (w : World value.Byte) (c : Machine) → Around z cp k → IsPlaceOf z.program cp.function sought → WaitsForPlace k sought
      → Mirrors z (state cp (Find sought) k l w) c → Follow z 0 0 c (find (source_in z) sought k cp l (arrived z.outside w))
  unfolding spot_of address_code active
  find_goes (tree.Name object ty line) k cp l w c around fits waits h =
      let at = objects.spot_of z.program cp object in
      rests z cp (Find (tree.Name object ty line)) (Found at) k k l l w c h refl refl refl h.agrees h.holds
      (there k cp (tree.Name object ty line) at c waits
      (laws.names cp object ty line around.reached fits ∙ ap (λ n. Some (object_byte (ground_in z cp).layout n object)) (sym (own_copy z cp))))
  find_goes (tree.Bit register number line) k cp l w c around fits waits h =
      rests z cp (Find (tree.Bit register number line)) (Found (spots.Bit register number)) k k l l w c h refl refl refl h.agrees h.holds (there k cp (tree.Bit register number line) (spots.Bit register number) c waits refl)
  find_goes (tree.Member whole member offset ty line) k cp l w c around fits waits h =
      let g = ground_in z cp in
      rests z cp (Find (tree.Member whole member offset ty line)) (Find whole) k (To (tree.Member whole member offset ty line) ∷ k) l l w c h refl
      (member_code (spot_of g.layout g.copy whole) (address_code g.layout g.copy (base g k) whole) (Frame g.copy (base g k)) offset g.layout.root (code_after g k) (λ register bit e. bit_address g.layout g.copy (base g k) whole register bit e))
      refl h.agrees h.holds tt
  find_goes (tree.Deref pointer ty line) k cp l w c around fits waits h =
      rests z cp (Find (tree.Deref pointer ty line)) (Eval pointer) k (To (tree.Deref pointer ty line) ∷ k) l l w c h refl refl refl h.agrees h.holds tt

  -- ---- a place was found: it is read, or the value for it comes next
  pub read_found : (place : Place) (ty : Ty) (line : ℕ) (at : spot.Spot) (k : List Pending) (cp : CopyOf) (l : source.Memory) (w : World value.Byte) (c : Machine) → base (ground_in z cp) k ≤ 65535
      → Mirrors z (state cp (Found at) (In (tree.Read place ty line) Nothing ∷ k) l w) c → Comes (core_in z) (Mirrors z (state cp (Fetch at []) (In (tree.Read place ty line) (At at) ∷ k) l (arrived z.outside w))) 0 0 c
  unfolding active
  read_found place ty line at k cp l w c small h =
      let g = ground_in z cp in
      let b = base g k in
      let s = spot_of g.layout g.copy place in
      let e = tree.Read place ty line in
      rests z cp (Found at) (Fetch at []) (In e Nothing ∷ k) (In e (At at) ∷ k) l l w c h refl
      (reading_none z s at g.copy b (behind_pointer g.layout g.copy b place) (width g.layout ty) (code_after g k)
      (λ from is. ap (λ x. beyond b (pointer_bytes x)) is ∙ beyond_is b 0 (omega arith) ∙ (omega arith))
      (λ register bit is. ap (λ x. beyond b (pointer_bytes x)) is ∙ beyond_is b 0 (omega arith) ∙ (omega arith))
      (λ is. ap (λ x. beyond b (pointer_bytes x)) is))
      refl h.agrees (h.value place refl, h.holds.1) (λ i lt. absurd (in_place_none s at i lt))

  pub found_read : (place : Place) (ty : Ty) (line : ℕ) (at : spot.Spot) (k : List Pending) (cp : CopyOf) (l : source.Memory) (w : World value.Byte) (c : Machine) → base (ground_in z cp) k ≤ 65535 → is_scalar ty ≡ true
      → Mirrors z (state cp (Found at) (In (tree.Read place ty line) Nothing ∷ k) l w) c → Follow z 0 0 c (found_in (source_in z) (tree.Read place ty line) Nothing at k cp l (arrived z.outside w))
  found_read place (types.Int ty) line at k cp l w c small scalar h = read_found place (types.Int ty) line at k cp l w c small h
  found_read place (types.Pointer target) line at k cp l w c small scalar h = read_found place (types.Pointer target) line at k cp l w c small h
  found_read place types.Void line at k cp l w c small scalar h = absurd (cc)
  found_read place (types.Array element length size) line at k cp l w c small scalar h = absurd (cc)
  found_read place (types.Struct number) line at k cp l w c small scalar h = absurd (cc)

  pub found_assign : (place : Place) (right : Expression) (ty : Ty) (line : ℕ) (at : spot.Spot) (k : List Pending) (cp : CopyOf) (l : source.Memory) (w : World value.Byte) (c : Machine)
      → Mirrors z (state cp (Found at) (In (tree.Assign place right ty line) Nothing ∷ k) l w) c → Follow z 0 0 c (found_in (source_in z) (tree.Assign place right ty line) Nothing at k cp l (arrived z.outside w))
  unfolding active
  found_assign place right ty line at k cp l w c h =
      let e = tree.Assign place right ty line in
      rests z cp (Found at) (Eval right) (In e Nothing ∷ k) (In e (At at) ∷ k) l l w c h refl (simp todo_join) refl h.agrees (h.value place refl, h.holds.1) tt
