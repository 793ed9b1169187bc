-- The parts of an object, in order and within it.
use Rattle.std.proofs.Common.{◌≡◌, ℕ, zero, suc, ◌+◌, ◌*◌, ◌<◌, ◌≤◌, Bool, true, false, not, ◌&&◌, if◌then◌else◌, nat_eq, nat_le, List, [], ◌∷◌, Option, Some, None, is_some, ◌⊎◌, inl, inr, refl, sym, ap, ◌∙◌, subst, true≢false, arith, add-zero}
use native.Mathlib.Nat.{mul-le-mul_left, mul_comm}
use Rattle.std.specs.Prelude.{slice_get}
use Rattle.std.proofs.lemmas.Bool.{or_left, false≢true}
use Rattle.std.proofs.lemmas.Grind.{common_steps}
use Rattle.std.proofs.lemmas.Option.{same_Some}
use Rattle.c_typed.specs.Sameness.{is_array}
use Rattle.c_typed.specs.Types.{kept}
use Rattle.c_typed.specs.declared.types.Qualified.{Qualified}
use Rattle.c_typed.specs.declared.types.Ty.{Ty}
use Rattle.c_typed.specs.declared.types.Ty.TheVariants.{Void, Int, Pointer, Array, Struct}
use Rattle.type_rules.specs.Initializers.{is_unsized}
use Rattle.type_rules.specs.Known.{Field, Shape, Known}
use Rattle.type_rules.specs.Rows.{like, or_void, target_of, bytes_of, is_complete, fields_in, fields_of}
use Rattle.type_rules.specs.Slots.{Slot, member_slot, element_slot, part_by, part}
use Rattle.typed_laws.specs.Chains.{IsSlot, IsSmall, IsNear, begin_of, upto, scalar_upto, small_by}
use Rattle.typed_laws.specs.Tables.{at, Adds, IsElement, Stands, IsMember, Orderly}
use Rattle.typed_laws.proofs.Chains.{IsPart, complete_sized, no_scalar, times_near, times_next, kept_exact, kept_below, member_next}
use Rattle.typed_laws.proofs.Lists.{none_is, numbered_at}
use Rattle.typed_laws.proofs.Meeting.{target_is}
use Rattle.typed_laws.proofs.Operating.{chosen}
use Rattle.typed_laws.proofs.Same.{same_nat}

-- a part of a type, with qualifiers and its place
abbrev pub slot_of : Ty → Bool → Bool → ℕ → Slot
slot_of ty c v offset = record { ty = record { ty = ty; constant = c; volatile = v }; offset = offset }

-- an element is no larger than all of them
pub element_small : (count e size : ℕ) → 0 < count → size ≡ kept (count * e) → size ≤ 65535 → e ≤ 65535
element_small zero e size some is small = absurd (omega (arith, some))
element_small (suc k) e size some is small =
    let exact : kept (suc k * e) ≡ suc k * e = kept_exact (suc k * e) (omega (arith, is, small)) in
    omega (arith, is, exact, small)

some_count : (n : ℕ) → nat_eq n 0 ≡ false → 0 < n
some_count zero h = absurd (true≢false h)
some_count (suc n) h = omega arith

pub none_count : (n : ℕ) → nat_eq n 0 ≡ true → n ≡ 0
none_count n h = same_nat n 0 h

module _ (known : Known) (o : Orderly known) where
  scalar_part : (ty : Ty) (c v : Bool) (offset : ℕ) (h : IsSlot known (slot_of ty c v offset)) → is_unsized ty ≡ false → ((n : ℕ) → upto known ty n ≡ scalar_upto (bytes_of known ty) n) → bytes_of known ty ≤ 65535
      → (n : ℕ) (sn : Slot) → (if nat_eq n 0 then Some (slot_of ty c v offset) else None) ≡ Some sn → IsPart known o (slot_of ty c v offset) h n sn
  scalar_part ty c v offset h sized uptos small n sn is = by_cases (chosen (nat_eq n 0) (Some (slot_of ty c v offset)) None (Some sn) is)
    where
      by_cases : ((nat_eq n 0 ≡ true) × (Some (slot_of ty c v offset) ≡ Some sn)) ⊎ ((nat_eq n 0 ≡ false) × (None ≡ Some sn)) → IsPart known o (slot_of ty c v offset) h n sn
      by_cases (inl g) = let e : n ≡ 0 = none_count n g.0 in
          subst (IsPart known o (slot_of ty c v offset) h n) (same_Some (slot_of ty c v offset) sn g.1) (record {
            slot_is = h;
            sized = sized;
            begins = λ near. sym (ap (λ k. offset + k) (uptos n ∙ ap (scalar_upto (bytes_of known ty)) e) ∙ add-zero offset);
            ends = λ near. ap (λ k. offset + k) (sym (uptos (suc n)));
            small = small;
            types = λ is all. all;
          })
      by_cases (inr g) = absurd (none_is g.1)

  array_part : (row count size : ℕ) (c v : Bool) (offset : ℕ) (h : IsSlot known (slot_of (Array row count size) c v offset)) → IsSmall known (slot_of (Array row count size) c v offset)
      → (n : ℕ) (sn : Slot) → (if not (nat_eq count 0) && nat_le count n then None else Some (element_slot known (slot_of (Array row count size) c v offset) (like (record { ty = Array row count size; constant = c; volatile = v }) (target_of known row).ty) n)) ≡ Some sn
      → IsPart known o (slot_of (Array row count size) c v offset) h n sn
  array_part row count size c v offset h small n sn is = by_cases (chosen (not (nat_eq count 0) && nat_le count n) None (Some (element_slot known (slot_of (Array row count size) c v offset) (like (record { ty = Array row count size; constant = c; volatile = v }) (target_of known row).ty) n)) (Some sn) is)
    where
      q : Qualified
      q = (h.stands).0

      there : slice_get known.targets row ≡ Some (h.stands).0
      there = (h.stands).1

      element : IsElement known (h.stands).0 count size
      element = (h.stands).2

      target : target_of known row ≡ (h.stands).0
      target = target_is known row (h.stands).0 there

      element_complete : is_complete known (target_of known row).ty ≡ true
      element_complete = ap (λ (z : Qualified). is_complete known z.ty) target ∙ element.stands

      element_stands : Stands known (target_of known row).ty
      element_stands = subst (λ (z : Qualified). Stands known z.ty) (sym target) (o.rows row (h.stands).0 there)

      exact : IsNear (offset + bytes_of known (target_of known row).ty * suc n) → kept (offset + bytes_of known (target_of known row).ty * n) ≡ offset + bytes_of known (target_of known row).ty * n
      exact near = kept_below (offset + bytes_of known (target_of known row).ty * n) (times_near offset (bytes_of known (target_of known row).ty) n near)

      few : (b : Bool) → nat_eq count 0 ≡ b → small_by b known (slot_of (Array row count size) c v offset) → bytes_of known (target_of known row).ty ≤ 65535
      few true e s = s
      few false e s = element_small count (bytes_of known (target_of known row).ty) size (some_count count e) (element.whole ∙ ap (λ (z : Qualified). kept (count * bytes_of known z.ty)) (sym target)) s

      by_cases : (((not (nat_eq count 0) && nat_le count n) ≡ true) × (None ≡ Some sn)) ⊎ (((not (nat_eq count 0) && nat_le count n) ≡ false) × (Some (element_slot known (slot_of (Array row count size) c v offset) (like (record { ty = Array row count size; constant = c; volatile = v }) (target_of known row).ty) n) ≡ Some sn))
          → IsPart known o (slot_of (Array row count size) c v offset) h n sn
      by_cases (inl g) = absurd (none_is g.1)
      by_cases (inr g) = subst (IsPart known o (slot_of (Array row count size) c v offset) h n) (same_Some _ sn g.1) (record {
        slot_is = record { stands = element_stands; whole = or_left (is_complete known (target_of known row).ty) (is_array (target_of known row).ty) element_complete };
        sized = complete_sized known (target_of known row).ty element_complete;
        begins = exact;
        ends = λ near. ap (λ k. k + bytes_of known (target_of known row).ty) (exact near) ∙ times_next offset (bytes_of known (target_of known row).ty) n;
        small = few (nat_eq count 0) refl small;
        types = λ is all. no_scalar (Array row count size) refl is (target_of known row).ty all;
      })

  struct_part : (number : ℕ) (c v : Bool) (offset : ℕ) (h : IsSlot known (slot_of (Struct number) c v offset)) → bytes_of known (Struct number) ≤ 65535
      → (n : ℕ) (sn : Slot) (found : Option (List ℕ × Field)) → slice_get (fields_of known number) n ≡ found → member_slot offset found ≡ Some sn → IsPart known o (slot_of (Struct number) c v offset) h n sn
  struct_part number c v offset h small n sn None at_n is = absurd (none_is is)
  struct_part number c v offset h small n sn (Some m) at_n is = subst (IsPart known o (slot_of (Struct number) c v offset) h n) (same_Some _ sn is) (record {
    slot_is = record { stands = (next.3).stands; whole = or_left (is_complete known ((m.1).ty).ty) (is_array ((m.1).ty).ty) (next.3).whole };
    sized = complete_sized known ((m.1).ty).ty (next.3).whole;
    begins = λ near. exact near ∙ ap (λ k. offset + k) (next.0 ∙ same_begin n);
    ends = λ near. ap (λ k. k + bytes_of known ((m.1).ty).ty) (exact near) ∙ ends_at (m.1).offset (bytes_of known ((m.1).ty).ty) (begin_of known 0 (fields_of known number) (suc n)) (next.1 ∙ same_begin (suc n));
    small = omega (arith, next.1, next.2, few);
    types = λ is all. no_scalar (Struct number) refl is ((m.1).ty).ty all;
  })
    where
      s : Shape
      s = (h.stands).0

      there : slice_get known.shapes number ≡ Some (h.stands).0
      there = (h.stands).1

      few : ((h.stands).0).size ≤ 65535
      few = subst (λ k. k ≤ 65535) (numbered_at (λ (x : Shape). x.size) known.shapes number (h.stands).0 there) small

      next : ((m.1).offset ≡ begin_of known 0 ((h.stands).0).fields n) × ((m.1).offset + bytes_of known ((m.1).ty).ty ≡ begin_of known 0 ((h.stands).0).fields (suc n)) × (begin_of known 0 ((h.stands).0).fields (suc n) ≤ ((h.stands).0).size) × IsMember known m.1 (m.1).offset
      next = member_next known 0 ((h.stands).0).fields ((h.stands).0).size n m (o.shapes number (h.stands).0 there).members few (ap (λ x. slice_get (fields_in x) n) (sym there) ∙ at_n)

      same_begin : (k : ℕ) → begin_of known 0 ((h.stands).0).fields k ≡ begin_of known 0 (fields_of known number) k
      same_begin k = ap (λ x. begin_of known 0 (fields_in x) k) (sym there)

      ends_at : (a b e : ℕ) → a + b ≡ e → (offset + a) + b ≡ offset + e
      ends_at a b e h = omega (arith, h)

      lower : (a b e : ℕ) → a + b ≡ e → IsNear (offset + e) → IsNear (offset + a)
      lower a b e h near = omega (arith, h, near)

      exact : IsNear (offset + begin_of known 0 (fields_of known number) (suc n)) → kept (offset + (m.1).offset) ≡ offset + (m.1).offset
      exact near = kept_below (offset + (m.1).offset) (lower (m.1).offset (bytes_of known ((m.1).ty).ty) (begin_of known 0 (fields_of known number) (suc n)) (next.1 ∙ same_begin (suc n)) near)

  part_by_type : (ty : Ty) (c v : Bool) (offset : ℕ) (h : IsSlot known (slot_of ty c v offset)) → IsSmall known (slot_of ty c v offset) → (n : ℕ) (sn : Slot) → part_by known (slot_of ty c v offset) ty n ≡ Some sn → IsPart known o (slot_of ty c v offset) h n sn
  part_by_type Void c v offset h small = scalar_part Void c v offset h refl (λ n. refl) small
  part_by_type (Int i) c v offset h small = scalar_part (Int i) c v offset h refl (λ n. refl) small
  part_by_type (Pointer row) c v offset h small = scalar_part (Pointer row) c v offset h refl (λ n. refl) small
  part_by_type (Array row count size) c v offset h small = array_part row count size c v offset h small
  part_by_type (Struct number) c v offset h small = λ n sn is. struct_part number c v offset h small n sn (slice_get (fields_of known number) n) refl is

  -- what part n is
  pub part_at : (slot : Slot) (h : IsSlot known slot) → IsSmall known slot → (n : ℕ) (sn : Slot) → part known (Some slot) n ≡ Some sn → IsPart known o slot h n sn
  part_at slot h small n sn is = part_by_type (slot.ty).ty (slot.ty).constant (slot.ty).volatile slot.offset h small n sn is

  -- ---- where the last part is there, all before it are

  got_below : {A : Type 0} (xs : List A) (k m : ℕ) → is_some (slice_get xs k) ≡ true → m ≤ k → is_some (slice_get xs m) ≡ true
  got_below [] k m h le = absurd (false≢true h)
  got_below (x ∷ xs) k zero h le = refl
  got_below (x ∷ xs) zero (suc m) h le = absurd (omega (arith, le))
  got_below (x ∷ xs) (suc k) (suc m) h le = got_below xs k m h (omega (arith, le))

  member_below : (offset : ℕ) (found : Option (List ℕ × Field)) → is_some (member_slot offset found) ≡ is_some found
  member_below offset None = refl
  member_below offset (Some m) = refl

  first_below : (slot : Slot) (k m : ℕ) → is_some (if nat_eq k 0 then Some slot else None) ≡ true → m ≤ k → is_some (if nat_eq m 0 then Some slot else None) ≡ true
  first_below slot k m h le = by_test (nat_eq k 0) refl h
    where
      by_test : (b : Bool) → nat_eq k 0 ≡ b → is_some (if b then Some slot else None) ≡ true → is_some (if nat_eq m 0 then Some slot else None) ≡ true
      by_test true e g = let z : k ≡ 0 = none_count k e in let w : m ≡ 0 = omega (arith, z, le) in ap (λ n. is_some (if nat_eq n 0 then Some slot else None)) w
      by_test false e g = absurd (false≢true g)

  limit_below : (count : ℕ) (k m : ℕ) (x y : Slot) → is_some (if not (nat_eq count 0) && nat_le count k then None else Some x) ≡ true → m ≤ k → is_some (if not (nat_eq count 0) && nat_le count m then None else Some y) ≡ true
  limit_below count k m x y h le = by_test (nat_eq count 0) (nat_le count k) (nat_le count m) refl refl h
    where
      below : nat_le count m ≡ true → nat_le count k ≡ false → ⊥
      below a b = grind (arith, common_steps)

      by_test : (z s t : Bool) → nat_le count k ≡ s → nat_le count m ≡ t → is_some (if not z && s then None else Some x) ≡ true → is_some (if not z && t then None else Some y) ≡ true
      by_test true s t es et g = refl
      by_test false s false es et g = refl
      by_test false true true es et g = absurd (false≢true g)
      by_test false false true es et g = absurd (below et es)

  pub parts_below : (slot : Slot) (k m : ℕ) → is_some (part known (Some slot) k) ≡ true → m ≤ k → is_some (part known (Some slot) m) ≡ true
  parts_below slot k m = by_type (slot.ty).ty
    where
      by_type : (ty : Ty) → is_some (part_by known slot ty k) ≡ true → m ≤ k → is_some (part_by known slot ty m) ≡ true
      by_type Void = first_below slot k m
      by_type (Int i) = first_below slot k m
      by_type (Pointer row) = first_below slot k m
      by_type (Array row count size) = limit_below count k m _ _
      by_type (Struct number) = λ h le. member_below slot.offset (slice_get (fields_of known number) m) ∙ got_below (fields_of known number) k m (sym (member_below slot.offset (slice_get (fields_of known number) k)) ∙ h) le

  -- ---- the parts that are there lie within a part that isn't an array without a length

  limit_is : (count k : ℕ) (x : Slot) → is_some (if not (nat_eq count 0) && nat_le count k then None else Some x) ≡ true → nat_eq count 0 ≡ false → k < count
  limit_is count k x h some = by_test (nat_eq count 0) (nat_le count k) refl refl h
    where
      above : nat_le count k ≡ false → k < count
      above e = grind (arith, common_steps)

      by_test : (z s : Bool) → nat_eq count 0 ≡ z → nat_le count k ≡ s → is_some (if not z && s then None else Some x) ≡ true → k < count
      by_test true s ez es g = absurd (true≢false (sym ez ∙ some))
      by_test false true ez es g = absurd (false≢true g)
      by_test false false ez es g = above es

  within_array : (row count size : ℕ) → Stands known (Array row count size) → size ≤ 65535 → (k : ℕ) → k < count → bytes_of known (target_of known row).ty * suc k ≤ size
  within_array row count size stands small k lt =
      let target : target_of known row ≡ stands.0 = target_is known row stands.0 stands.1 in
      let whole : size ≡ kept (count * bytes_of known (stands.0).ty) = (stands.2).whole in
      let exact : kept (count * bytes_of known (stands.0).ty) ≡ count * bytes_of known (stands.0).ty = kept_exact (count * bytes_of known (stands.0).ty) (omega (arith, whole, small)) in
      let turned : count * bytes_of known (stands.0).ty ≡ bytes_of known (stands.0).ty * count = mul_comm count (bytes_of known (stands.0).ty) in
      let less : bytes_of known (stands.0).ty * suc k ≤ bytes_of known (stands.0).ty * count = mul-le-mul_left (bytes_of known (stands.0).ty) lt in
      subst (λ (z : Qualified). bytes_of known z.ty * suc k ≤ size) (sym target) (omega (arith, whole, exact, turned, less))

  within_struct : (number : ℕ) → Stands known (Struct number) → bytes_of known (Struct number) ≤ 65535 → (k : ℕ) → is_some (slice_get (fields_of known number) k) ≡ true → begin_of known 0 (fields_of known number) (suc k) ≤ bytes_of known (Struct number)
  within_struct number stands small k h = by_found (slice_get (fields_of known number) k) refl h
    where
      s : Shape
      s = stands.0

      size_is : bytes_of known (Struct number) ≡ (stands.0).size
      size_is = numbered_at (λ (x : Shape). x.size) known.shapes number stands.0 stands.1

      by_found : (found : Option (List ℕ × Field)) → slice_get (fields_of known number) k ≡ found → is_some found ≡ true → begin_of known 0 (fields_of known number) (suc k) ≤ bytes_of known (Struct number)
      by_found None e g = absurd (false≢true g)
      by_found (Some m) e g =
          let next = member_next known 0 (stands.0).fields (stands.0).size k m (o.shapes number stands.0 stands.1).members (subst (λ n. n ≤ 65535) size_is small) (ap (λ x. slice_get (fields_in x) k) (sym stands.1) ∙ e) in
          subst (λ n. begin_of known 0 (fields_of known number) (suc k) ≤ n) (sym size_is) (subst (λ x. begin_of known 0 (fields_in x) (suc k) ≤ (stands.0).size) (sym stands.1) next.2)

  pub within_all : (slot : Slot) → IsSlot known slot → is_unsized (slot.ty).ty ≡ false → bytes_of known (slot.ty).ty ≤ 65535 → (k : ℕ) → is_some (part known (Some slot) k) ≡ true → upto known (slot.ty).ty (suc k) ≤ bytes_of known (slot.ty).ty
  within_all slot h = by_type (slot.ty).ty h.stands
    where
      by_type : (ty : Ty) → Stands known ty → is_unsized ty ≡ false → bytes_of known ty ≤ 65535 → (k : ℕ) → is_some (part_by known slot ty k) ≡ true → upto known ty (suc k) ≤ bytes_of known ty
      by_type Void stands sized small k there = omega arith
      by_type (Int i) stands sized small k there = omega arith
      by_type (Pointer row) stands sized small k there = omega arith
      by_type (Array row count size) stands sized small k there = within_array row count size stands small k (limit_is count k _ there sized)
      by_type (Struct number) stands sized small k there = within_struct number stands small k (sym (member_below slot.offset (slice_get (fields_of known number) k)) ∙ there)

-- ---- parts are the same when rows are added

pub part_same : (known : Known) (ts us : List Qualified) → Adds ts us → (slot : Slot) → Stands (at known ts) (slot.ty).ty → (n : ℕ) → part (at known us) (Some slot) n ≡ part (at known ts) (Some slot) n
part_same known ts us adds slot stands n = by_type (slot.ty).ty stands
  where
    by_type : (ty : Ty) → Stands (at known ts) ty → part_by (at known us) slot ty n ≡ part_by (at known ts) slot ty n
    by_type Void h = refl
    by_type (Int i) h = refl
    by_type (Pointer row) h = refl
    by_type (Struct number) h = refl
    by_type (Array row count size) h = ap (λ (q : Qualified). if not (nat_eq count 0) && nat_le count n then None else Some (element_slot (at known ts) slot (like slot.ty q.ty) n))
        (ap or_void (adds row h.0 h.1 ∙ sym h.1))
