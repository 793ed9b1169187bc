-- The test of a condition: Z is 1 where all bytes are 0.
use Rattle.std.proofs.Common.{◌≡◌, ◌≢◌, ◌⊎◌, inl, inr, ℕ, zero, suc, ◌+◌, ◌*◌, ◌<◌, ◌≤◌, Bool, true, false, ◌&&◌, ◌||◌, nat_eq, nat_le, if◌then◌else◌, length, Option, Some, None, refl, sym, ap, ◌∙◌, subst, arith}
use Rattle.std.specs.Prelude.{bit_or}
use Rattle.std.specs.Int.Bits.{or_zero_l, or_zero_r}
use Rattle.std.proofs.lemmas.Nat.{or_comm, or_lt}
use Rattle.pic_world.specs.Roots.{same_root}
use Rattle.pic_world.proofs.OrLaws.{or_again}
use Rattle.core_code.specs.Bytes as bytes
use Rattle.core_code.specs.Bytes.{Held, Unset, Number, Part, Object, Fixed, FrameOf, Place, byte_in, behind, same_object}
use Rattle.core_code.specs.Machine.{is_own}
use Rattle.core_code.specs.Values.{with_low, number_in, joined}
use Rattle.core_code.specs.declared.code.Byte.{Byte}
use Rattle.core_code.specs.declared.code.Byte.TheVariants.{Static, Frame, Result, Device}
use Rattle.sym_code.specs.Layout.{address_of, object, frame, lies_in, is_whole}
use Rattle.select_code.specs.Pieces.{byte_behind}
use Rattle.select_trace.proofs.Truths.{or_true, and_left, and_right, both, le_of, of_le, same_nat, other_nat}
use Rattle.select_trace.proofs.Placed as placed
use Rattle.select_trace.proofs.Slots.{good_rises}
use Rattle.select_trace.proofs.Sites.{Site, layout}
use Rattle.select_trace.proofs.Live.{IsUser, There}
use Rattle.select_trace.proofs.Memory.{Shown, InPlace}
use Rattle.select_trace.proofs.Access.{Own, own_there}

-- ---- bytes one behind the other
pub behind_more : (b : Byte) (j k : ℕ) → behind (behind b j) k ≡ behind b (j + k)
behind_more (Static n x) j k = ap (Static n) (omega arith)
behind_more (Frame n x) j k = ap (Frame n) (omega arith)
behind_more (Result r x) j k = ap (Result r) (omega arith)
behind_more (Device a) j k = refl

pub behind_none : (b : Byte) → behind b 0 ≡ b
behind_none (Static n x) = ap (Static n) (omega arith)
behind_none (Frame n x) = ap (Frame n) (omega arith)
behind_none (Result r x) = ap (Result r) (omega arith)
behind_none (Device a) = refl

module _ (s : Site) where
  pub own_part : (f n j : ℕ) (b : Byte) → is_own s.q f b n ≡ true → j < n → Own s f (behind b j)
  unfolding is_own
  own_part f n j (Frame c k) o lt = let l = le_of (k + n) (s.q.frame_bytes c) (and_right (nat_eq c f) _ o) in both _ _ (and_left _ _ o) (of_le (k + j + 1) (s.q.frame_bytes c) (omega arith))
  own_part f n j (Result r k) o lt = let l = le_of (k + n) 4 (and_right (same_root r (s.q.root f)) _ o) in both _ _ (and_left _ _ o) (of_le (k + j + 1) 4 (omega arith))
  own_part f n j (Static n' k) o lt = absurd (cc)
  own_part f n j (Device a) o lt = absurd (cc)

  static_own : (f n k : ℕ) → Own s f (Static n k) → ⊥
  unfolding is_own
  static_own f n k o = absurd (cc)

  device_own : (f a : ℕ) → Own s f (Device a) → ⊥
  unfolding is_own
  device_own f a o = absurd (cc)

  -- offsets are small
  frame_small : (c k : ℕ) → There s (Frame c k) → k < 512
  unfolding address_of
  frame_small c k h =
      let g = good_rises (address_of (layout s) (Frame c k)) (placed.good s.q (length s.copies) s.reaches (layout s) s.chosen.layout s.chosen.laid_out (Frame c k) h) in
      let z = g.1 in
      omega (arith, z)

  pub own_behind : (f : ℕ) → IsUser s f → (b : Byte) (j : ℕ) → Own s f (behind b j) → byte_behind b j ≡ behind b j
  own_behind f u (Frame c k) j o = let z = frame_small c (k + j) (own_there s f u (Frame c (k + j)) o) in ap (Frame c) (omega arith)
  own_behind f u (Result r k) j o = let z : k + j < 4 = own_there s f u (Result r (k + j)) o in ap (Result r) (omega arith)
  own_behind f u (Static n k) j o = absurd (static_own f n (k + j) o)
  own_behind f u (Device a) j o = absurd (device_own f a o)

-- ---- what the bytes say
pub or_none : (a b : ℕ) → bit_or a b ≡ 0 → (a ≡ 0) × (b ≡ 0)
or_none a b e = (second b a (or_comm b a ∙ e), second a b e)
  where
    second : (a b : ℕ) → bit_or a b ≡ 0 → b ≡ 0
    second a b e = sym (or_zero_l b) ∙ ap (λ x. bit_or x b) (sym e) ∙ or_again a b ∙ e

-- the union of W and of some bytes behind the first one
abbrev pub union : (ℕ → ℕ) → ℕ → ℕ → ℕ
union v w zero = w
union v w (suc k) = bit_or (union v w k) (v (suc k))

pub union_none : (v : ℕ → ℕ) (w k : ℕ) → union v w k ≡ 0 → (w ≡ 0) × ((j : ℕ) → 0 < j → j ≤ k → v j ≡ 0)
union_none v w zero e = (e, λ j a b. absurd (omega arith))
union_none v w (suc k) e =
    let h = or_none (union v w k) (v (suc k)) e in
    let g = union_none v w k h.0 in
    (g.0, λ j a b. by_test j a b (nat_eq j (suc k)) refl g.1 h.1)
  where
    by_test : (j : ℕ) → 0 < j → j ≤ suc k → (t : Bool) → nat_eq j (suc k) ≡ t → ((i : ℕ) → 0 < i → i ≤ k → v i ≡ 0) → v (suc k) ≡ 0 → v j ≡ 0
    by_test j a b true q g h = ap v (same_nat j (suc k) q) ∙ h
    by_test j a b false q g h = let n = other_nat j (suc k) q in g j a (omega arith)

pub union_all : (v : ℕ → ℕ) (w k : ℕ) → w ≡ 0 → ((j : ℕ) → 0 < j → j ≤ k → v j ≡ 0) → union v w k ≡ 0
union_all v w zero e f = e
union_all v w (suc k) e f = ap (bit_or (union v w k)) (f (suc k) (omega arith) (omega arith)) ∙ or_zero_r (union v w k) ∙ union_all v w k e (λ j a b. f j a (omega arith))

union_small : (v : ℕ → ℕ) (w k : ℕ) → w < 256 → ((j : ℕ) → v j < 256) → union v w k < 256
union_small v w zero a f = a
union_small v w (suc k) a f = or_lt 8 (union v w k) (v (suc k)) (union_small v w k a f) (f (suc k))

some_num : (a b : ℕ) → Some a ≡ Some b → a ≡ b
some_num a b e = cc

none_some : (a : ℕ) → ◌≡◌ {A = Option ℕ} None (Some a) → ⊥
none_some a e = absurd (cc)

-- the addresses of what is whole, and the one just behind
whole_edge : (a size offset : ℕ) → is_whole a size ≡ true → offset ≤ size → (0 < a + offset) × (a + offset < 512)
whole_edge a size offset w le = by (or_true _ _ w)
  where
    lies : (first last : ℕ) → lies_in first last a size ≡ true → (first ≤ a) × (a + size ≤ last)
    lies first last k = (le_of first a (and_left _ _ k), le_of (a + size) last (and_right (nat_le first a) _ k))

    by : ((lies_in 0x20 0x70 a size || lies_in 0xa0 0xf0 a size || lies_in 0x110 0x170 a size) ≡ true) ⊎ (lies_in 0x190 0x1f0 a size ≡ true) → (0 < a + offset) × (a + offset < 512)
    by (inr k) = let r = lies 0x190 0x1f0 k in let x = r.0 in let y = r.1 in (omega arith, omega arith)
    by (inl k) = low (or_true _ _ k)
      where
        lower : (lies_in 0x20 0x70 a size ≡ true) ⊎ (lies_in 0xa0 0xf0 a size ≡ true) → (0 < a + offset) × (a + offset < 512)
        lower (inl z) = let r = lies 0x20 0x70 z in let x = r.0 in let y = r.1 in (omega arith, omega arith)
        lower (inr z) = let r = lies 0xa0 0xf0 z in let x = r.0 in let y = r.1 in (omega arith, omega arith)

        low : ((lies_in 0x20 0x70 a size || lies_in 0xa0 0xf0 a size) ≡ true) ⊎ (lies_in 0x110 0x170 a size ≡ true) → (0 < a + offset) × (a + offset < 512)
        low (inl g) = lower (or_true _ _ g)
        low (inr g) = let r = lies 0x110 0x170 g in let x = r.0 in let y = r.1 in (omega arith, omega arith)

module _ (s : Site) where
  low_parts : (h : Held) (v : ℕ) (o : Option ℕ) (n : ℕ) → Shown s h v → with_low h o ≡ Some n → (x : ℕ) × (o ≡ Some x) × (n ≡ v + 256 * x)
  low_parts Unset v o n sh e = absurd (none_some n e)
  low_parts (Part a b c) v o n sh e = absurd (none_some n e)
  low_parts (Number k) v None n sh e = absurd (none_some n e)
  low_parts (Number k) v (Some x) n sh e = (x, refl, sym (some_num (k + 256 * x) n e) ∙ ap (λ z. z + 256 * x) (sym sh))

  -- all bytes of a number are 0, or the number isn't
  pub number_zero : (cm : bytes.Memory) (b : Byte) (k n : ℕ) (v : ℕ → ℕ) → ((j : ℕ) → j < k → Shown s (cm (behind b j)) (v j)) → number_in cm b k ≡ Some n
      → ((n ≡ 0) × ((j : ℕ) → j < k → v j ≡ 0)) ⊎ ((n ≢ 0) × ((((j : ℕ) → j < k → v j ≡ 0)) → ⊥))
  number_zero cm b zero n v sh e = inl (sym (some_num 0 n e), λ j lt. absurd (omega arith))
  number_zero cm b (suc k) n v sh e =
      let first : Shown s (cm b) (v 0) = subst (λ z. Shown s (cm z) (v 0)) (behind_none b) (sh 0 (omega arith)) in
      let p = low_parts (cm b) (v 0) (number_in cm (behind b 1) k) n first e in
      let ih = number_zero cm (behind b 1) k p.0 (λ j. v (suc j)) (λ j lt. subst (λ z. Shown s (cm z) (v (suc j))) (sym (behind_more b 1 j ∙ ap (behind b) (omega arith))) (sh (suc j) (omega arith))) p.1 in
      by_first (nat_eq (v 0) 0) refl p.0 p.2 ih
    where
      by_first : (t : Bool) → nat_eq (v 0) 0 ≡ t → (x : ℕ) → n ≡ v 0 + 256 * x
          → ((x ≡ 0) × ((j : ℕ) → j < k → v (suc j) ≡ 0)) ⊎ ((x ≢ 0) × ((((j : ℕ) → j < k → v (suc j) ≡ 0)) → ⊥))
          → ((n ≡ 0) × ((j : ℕ) → j < suc k → v j ≡ 0)) ⊎ ((n ≢ 0) × ((((j : ℕ) → j < suc k → v j ≡ 0)) → ⊥))
      by_first false q x eq ih = let z = other_nat (v 0) 0 q in inr (λ w. z (omega (arith, eq, w)), λ h. z (h 0 (omega arith)))
      by_first true q x eq (inl ih) = let z = same_nat (v 0) 0 q in let x0 = ih.0 in inl (omega (arith, eq, z, x0), λ j lt. at j lt z ih.1)
        where
          at : (j : ℕ) → j < suc k → v 0 ≡ 0 → ((i : ℕ) → i < k → v (suc i) ≡ 0) → v j ≡ 0
          at zero lt z h = z
          at (suc j) lt z h = h j (omega arith)
      by_first true q x eq (inr ih) = let x0 = ih.0 in inr (λ w. x0 (omega (arith, eq, w)), λ h. ih.1 (λ j lt. h (suc j) (omega arith)))

  -- a pointer is never null
  pub pointer_address : (o : Object) (offset : ℕ) (high : Bool) → InPlace s (Part o offset high) → (0 < address_of (layout s) (byte_in o offset)) × (address_of (layout s) (byte_in o offset) < 512)
  unfolding address_of
  pointer_address (Fixed n) offset high h =
      let l = s.chosen.layout in
      let lt : n < length (layout s).objects = (let e = l.objects in let i = h.0 in omega (arith, e, i)) in
      let z = l.sizes n h.0 in
      let le = h.1 in
      whole_edge (object (layout s) n).address (object (layout s) n).size offset (s.chosen.laid_out.objects n lt) (omega (arith, z, le))
  pointer_address (FrameOf c) offset high h =
      let l = s.chosen.layout in
      let lt : c < length (layout s).frames = (let e = l.frames in let i = h.0 in omega (arith, e, i)) in
      let z = l.frame_sizes c h.0 in
      let le = h.1 in
      whole_edge (frame (layout s) c).address (frame (layout s) c).size offset (s.chosen.laid_out.frames c lt) (omega (arith, z, le))

some_place : (x y : Place) → Some x ≡ Some y → x ≡ y
some_place x y e = cc

no_place : (y : Place) → ◌≡◌ {A = Option Place} None (Some y) → ⊥
no_place y e = absurd (cc)

same_objects : (a b : Object) → same_object a b ≡ true → a ≡ b
same_objects (Fixed n) (Fixed m) e = ap Fixed (same_nat n m e)
same_objects (FrameOf n) (FrameOf m) e = ap FrameOf (same_nat n m e)
same_objects (Fixed n) (FrameOf m) e = absurd (cc)
same_objects (FrameOf n) (Fixed m) e = absurd (cc)

-- the two bytes of a pointer
pub pointer_parts : (h g : Held) (x : Place) → joined h g ≡ Some x → (h ≡ Part x.object x.offset false) × (g ≡ Part x.object x.offset true)
pointer_parts (Part a f false) (Part b k true) x e = by_test (same_object a b && nat_eq f k) refl e
  where
    by_test : (t : Bool) → (same_object a b && nat_eq f k) ≡ t → (if t then Some (record { object = a; offset = f }) else None) ≡ Some x → (Part a f false ≡ Part x.object x.offset false) × (Part b k true ≡ Part x.object x.offset true)
    by_test true q e =
        let p : record { object = a; offset = f } ≡ x = some_place _ x e in
        let ab : a ≡ b = same_objects a b (and_left _ _ q) in
        let fk : f ≡ k = same_nat f k (and_right (same_object a b) _ q) in
        (ap (λ (z : Place). Part z.object z.offset false) p, ap (λ z. Part z k true) (sym ab) ∙ ap (λ z. Part a z true) (sym fk) ∙ ap (λ (z : Place). Part z.object z.offset true) p)
    by_test false q e = absurd (no_place x e)
pointer_parts Unset g x e = absurd (no_place x e)
pointer_parts (Number n) g x e = absurd (no_place x e)
pointer_parts (Part a f true) g x e = absurd (no_place x e)
pointer_parts (Part a f false) Unset x e = absurd (no_place x e)
pointer_parts (Part a f false) (Number n) x e = absurd (no_place x e)
pointer_parts (Part a f false) (Part b k false) x e = absurd (no_place x e)
