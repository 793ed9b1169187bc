-- What a layout says of the bytes to which pointers lead: an object or a frame has them, and in a near layout they stand below 100h.
use Rattle.std.proofs.Common.{◌≡◌, ℕ, zero, suc, ◌+◌, ◌<◌, ◌≤◌, ⊎_elim, Bool, true, false, ◌&&◌, ◌||◌, nat_lt, nat_le, List, [], ◌∷◌, length, slice_index_or, arith}
use Rattle.pic_chip.specs.Run.{Range, covers}
use Rattle.core_code.specs.Machine.{static_bytes}
use Rattle.core_code.specs.Bytes.{Part, Object, Fixed, FrameOf, byte_in}
use Rattle.core_code.specs.declared.code.Byte.TheVariants.{Static, Frame}
use Rattle.sym_code.specs.Layout.{FrameRange, no_range, no_frame, object, frame, address_of, covers_any, covers_frame, is_covered, near_ranges, near_frames, all_near, lies_in, is_whole}
use Rattle.select_trace.proofs.Truths.{or_true, or_left, or_right, and_left, and_right, both, le_of, of_le, of_lt}
use Rattle.select_trace.proofs.Owners.{holds}
use Rattle.select_trace.proofs.Placed as placed
use Rattle.select_trace.proofs.Sites.{Site, layout}
use Rattle.select_trace.proofs.Live.{There}
use Rattle.select_trace.proofs.Memory.{InPlace}

-- ---- objects and frames have their bytes
object_covers : (rs : List Range) (n k : ℕ) → k < (slice_index_or rs n no_range).size → covers_any rs ((slice_index_or rs n no_range).address + k) ≡ true
object_covers [] n k lt = absurd (omega arith)
object_covers (r ∷ rs) zero k lt = or_left (covers r (r.address + k)) _ (both _ _ (of_le r.address (r.address + k) (omega arith)) (of_lt (r.address + k) (r.address + r.size) (omega arith)))
object_covers (r ∷ rs) (suc n) k lt = or_right (covers r _) _ (object_covers rs n k lt)

frame_covers : (fs : List FrameRange) (c k : ℕ) → k < (slice_index_or fs c no_frame).size → covers_frame fs ((slice_index_or fs c no_frame).address + k) ≡ true
frame_covers [] c k lt = absurd (omega arith)
frame_covers (f ∷ fs) zero k lt = or_left (holds f (f.address + k)) _ (both _ _ (of_le f.address (f.address + k) (omega arith)) (of_lt (f.address + k) (f.address + f.size) (omega arith)))
frame_covers (f ∷ fs) (suc c) k lt = or_right (holds f _) _ (frame_covers fs c k lt)

module _ (s : Site) where
  pub static_covered : (o k : ℕ) → k < static_bytes s.q o → is_covered (layout s) (address_of (layout s) (Static o k)) ≡ true
  unfolding is_covered address_of
  static_covered o k lt =
      let there = placed.is_object s.q (length s.copies) s.reaches (layout s) s.chosen.layout s.chosen.laid_out o k lt in
      or_left (covers_any (layout s).objects _) _ (object_covers (layout s).objects o k there.1)

  pub frame_covered : (c k : ℕ) → There s (Frame c k) → is_covered (layout s) (address_of (layout s) (Frame c k)) ≡ true
  unfolding is_covered address_of
  frame_covered c k there = or_right (covers_any (layout s).objects _) _ (frame_covers (layout s).frames c k there.1)

-- ---- near layouts
object_near : (rs : List Range) (n : ℕ) → near_ranges rs ≡ true → (slice_index_or rs n no_range).address + (slice_index_or rs n no_range).size ≤ 0x100
object_near [] n near = omega arith
object_near (r ∷ rs) zero near = le_of (r.address + r.size) 0x100 (and_left _ _ near)
object_near (r ∷ rs) (suc n) near = object_near rs n (and_right (nat_le (r.address + r.size) 0x100) _ near)

frame_near : (fs : List FrameRange) (c : ℕ) → near_frames fs ≡ true → (slice_index_or fs c no_frame).address + (slice_index_or fs c no_frame).size ≤ 0x100
frame_near [] c near = omega arith
frame_near (f ∷ fs) zero near = le_of (f.address + f.size) 0x100 (and_left _ _ near)
frame_near (f ∷ fs) (suc c) near = frame_near fs c (and_right (nat_le (f.address + f.size) 0x100) _ near)

-- what is whole and ends by 100h ends before it
whole_near : (a size offset : ℕ) → is_whole a size ≡ true → a + size ≤ 0x100 → offset ≤ size → a + offset < 0x100
whole_near a size offset w near le = ⊎_elim (λ k. ⊎_elim (λ h. ⊎_elim (lower 0x20 0x70 (omega arith)) (lower 0xa0 0xf0 (omega arith)) (or_true _ _ h)) (upper 0x110 0x170 (omega arith)) (or_true _ _ k)) (upper 0x190 0x1f0 (omega arith)) (or_true _ _ w)
  where
    lower : (first last : ℕ) → last < 0x100 → lies_in first last a size ≡ true → a + offset < 0x100
    lower first last lt k = let e = le_of (a + size) last (and_right (nat_le first a) _ k) in omega (arith, e, lt, le)

    upper : (first last : ℕ) → 0x100 < first → lies_in first last a size ≡ true → a + offset < 0x100
    upper first last lt k = let e = le_of first a (and_left _ _ k) in absurd (omega (arith, e, lt, near))

module _ (s : Site) (near : all_near (layout s) ≡ true) where
  near_both : (near_ranges (layout s).objects && near_frames (layout s).frames) ≡ true
  unfolding all_near
  near_both = near

  -- a pointer's address, also where it is just past its object
  pub pointer_near : (o : Object) (offset : ℕ) (high : Bool) → InPlace s (Part o offset high) → address_of (layout s) (byte_in o offset) < 0x100
  unfolding address_of
  pointer_near (Fixed n) offset high h =
      let l = s.chosen.layout in
      let lt : n < length (layout s).objects = (let e = l.objects in let i = h.0 in omega (arith, e, i)) in
      let z = l.sizes n h.0 in
      let le = h.1 in
      whole_near (object (layout s) n).address (object (layout s) n).size offset (s.chosen.laid_out.objects n lt) (object_near (layout s).objects n (and_left _ _ near_both)) (omega (arith, z, le))
  pointer_near (FrameOf c) offset high h =
      let l = s.chosen.layout in
      let lt : c < length (layout s).frames = (let e = l.frames in let i = h.0 in omega (arith, e, i)) in
      let z = l.frame_sizes c h.0 in
      let le = h.1 in
      whole_near (frame (layout s) c).address (frame (layout s) c).size offset (s.chosen.laid_out.frames c lt) (frame_near (layout s).frames c (and_right (near_ranges (layout s).objects) _ near_both)) (omega (arith, z, le))
