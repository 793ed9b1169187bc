-- Objects and frames that may be live at the same time have no byte in common.
use Rattle.std.proofs.Common.{◌≡◌, ℕ, zero, suc, ◌+◌, ◌<◌, ◌≤◌, inl, inr, Bool, true, false, not, ◌||◌, nat_le, nat_lt, List, map, length, take, Some, refl, sym, ap, ◌∙◌, arith}
use Rattle.std.specs.Prelude.{slice_get}
use Rattle.std.proofs.lemmas.Bool.{le-leb, lt-ltb, leb-true, leb-false}
use Rattle.c_typed.specs.Chains.{graph_of, number_of, Reaches}
use Rattle.c_typed.specs.Trees.{Program}
use Rattle.call_graph.specs.declared.types.FnCopy.{FnCopy}
use Rattle.pic_chip.specs.Run.{Range}
use Rattle.pic_map.specs.MapContent as content
use Rattle.pic_map.specs.MapView.{object_of, frame_of}
use Rattle.pic_map.specs.declared.Placed.{Placed}
use Rattle.pic_world.specs.Roots.{same_root}
use Rattle.pic_world.specs.declared.Root.{Root}
use Rattle.pic_world.specs.declared.Root.TheVariants.{Main, Isr}
use Rattle.live_frames.specs.Memory.{AreDisjoint, Stands, IsLowest, regions}
use Rattle.live_frames.specs.Together.{MayBeLive}
use Rattle.ram_place.specs.Placement.{IsPlacing, IsTaken, IsTakenFor, LiveFramesAreDisjoint, FramesAreClear, ObjectsAreDisjoint}
use Rattle.sym_code.specs.Layout.{FrameRange, IsLaidOut, no_range, no_frame, object, frame, are_apart, may_meet}
use Rattle.code_place.specs.Layouts as places
use Rattle.code_place.specs.Layouts.{layout_of}
use Rattle.headline_trace.specs.Carried.{frame_of as range_of_frame}
use Rattle.headline_trace.proofs.Laid.{is_there, mapped_at, objects_long, frames_long, objects_whole, frames_whole}
use Rattle.headline_trace.proofs.Numbers.{and_true}

-- ---- runs of bytes
-- where something stands: at 20h or behind, and there if it has no byte
abbrev IsSeated : ℕ → ℕ → Type 0
IsSeated address size = (0x20 ≤ address) × (size ≡ 0 → address ≡ 0x20)

lowest_low : (taken : ℕ → Type 0) (size address : ℕ) → IsLowest taken regions size address → 0x20 ≤ address
lowest_low taken size address (inl h) = let i = h.0 in let j = i.0 in let low = j.0 in omega arith
lowest_low taken size address (inr (full, inl h)) = let i = h.0 in let j = i.0 in let low = j.0 in omega arith
lowest_low taken size address (inr (full, inr (more, inl h))) = let i = h.0 in let j = i.0 in let low = j.0 in omega arith
lowest_low taken size address (inr (full, inr (more, inr (rest, inl h)))) = let i = h.0 in let j = i.0 in let low = j.0 in omega arith
lowest_low taken size address (inr (full, inr (more, inr (rest, inr h)))) = absurd (h.1)

seated : (taken : ℕ → Type 0) (size address : ℕ) → Stands taken size address → IsSeated address size
seated taken zero address stands = let at = stands.0 refl in (omega arith, stands.0)
seated taken (suc size) address stands = (lowest_low taken (suc size) address (stands.1 (omega arith)), stands.0)

meet_at : (a m b n x : ℕ) → a ≤ x → x < a + m → b ≤ x → x < b + n → AreDisjoint a m b n → ⊥
meet_at a m b n x low high from to apart = apart x (and_true (nat_le a x) (nat_lt x (a + m)) (le-leb a x low) (lt-ltb x (a + m) high)) (and_true (nat_le b x) (nat_lt x (b + n)) (le-leb b x from) (lt-ltb x (b + n) to))

overlap : (a m b n : ℕ) → IsSeated a m → IsSeated b n → b < a + m → a < b + n → AreDisjoint a m b n → ⊥
overlap a zero b n s t x y apart = let at = s.1 refl in let low = t.0 in absurd (omega arith)
overlap a (suc m) b zero s t x y apart = let at = t.1 refl in let low = s.0 in absurd (omega arith)
overlap a (suc m) b (suc n) s t x y apart = by (nat_le a b) refl where
  by : (c : Bool) → nat_le a b ≡ c → ⊥
  by true e = let l = leb-true a b e in meet_at a (suc m) b (suc n) b (omega arith) (omega arith) (omega arith) (omega arith) apart
  by false e = let l = leb-false a b e in meet_at a (suc m) b (suc n) a (omega arith) (omega arith) (omega arith) (omega arith) apart

apart_of : (a m b n : ℕ) → IsSeated a m → IsSeated b n → AreDisjoint a m b n → are_apart a m b n ≡ true
apart_of a m b n s t apart = by (nat_le (a + m) b) (nat_le (b + n) a) refl refl where
  by : (c d : Bool) → nat_le (a + m) b ≡ c → nat_le (b + n) a ≡ d → (c || d) ≡ true
  by true d e f = refl
  by false true e f = refl
  by false false e f = let x = leb-false (a + m) b e in let y = leb-false (b + n) a f in absurd (overlap a m b n s t (omega arith) (omega arith) apart)

other_roots : (a b : Root) → (not (same_root a b)) ≡ true → a ≡ b → ⊥
other_roots Main Main e same = absurd (cc)
other_roots Isr Isr e same = absurd (cc)
other_roots Main Isr e same = let f = ap (same_root Main) same in absurd (cc)
other_roots Isr Main e same = let f = ap (same_root Isr) same in absurd (cc)

module _ (p : Program) (copies : List FnCopy) (placed : Placed) (placing : IsPlacing p copies (map object_of placed.objects.items) (map frame_of placed.frames.items)) where
  record HasObject (n : ℕ) : Type 0 where
    line : content.ObjectLine
    there : slice_get (map object_of placed.objects.items) n ≡ Some line
    is : object (layout_of placed) n ≡ content.range_of line
    seat : IsSeated line.address line.size

  has_object : (n : ℕ) → n < length (layout_of placed).objects → HasObject n
  has_object n lt =
      let long = objects_long p copies placed placing in
      let each = placing.each_object in
      let s = is_there p.statics n (omega arith) in
      let line = is_there (map object_of placed.objects.items) n (omega arith) in
      let here = placing.objects_stand n s.0 line.0 s.1 line.1 in
      let at = mapped_at object_of places.range_of placed.objects.items n no_range line.0 line.1 in
      record { line = line.0; there = line.1; is = at.2 ∙ ap content.range_of at.1; seat = seated (IsTaken (take n (map object_of placed.objects.items))) line.0.size line.0.address here.1 }

  record HasFrame (c : ℕ) : Type 0 where
    copy : FnCopy
    copied : slice_get copies c ≡ Some copy
    line : content.FrameLine
    there : slice_get (map frame_of placed.frames.items) c ≡ Some line
    is : frame (layout_of placed) c ≡ range_of_frame line
    seat : IsSeated line.address line.size
    root : (frame (layout_of placed) c).root ≡ copy.root

  has_frame : (c : ℕ) → c < length (layout_of placed).frames → HasFrame c
  has_frame c lt =
      let long = frames_long p copies placed placing in
      let each = placing.each_frame in
      let copy = is_there copies c (omega arith) in
      let line = is_there (map frame_of placed.frames.items) c (omega arith) in
      let here = placing.frames_stand c copy.0 line.0 copy.1 line.1 in
      let at = mapped_at frame_of places.frame_of placed.frames.items c no_frame line.0 line.1 in
      let is = at.2 ∙ ap range_of_frame at.1 in
      record {
        copy = copy.0;
        copied = copy.1;
        line = line.0;
        there = line.1;
        is = is;
        seat = seated (IsTakenFor p (map object_of placed.objects.items) copies (take c (map frame_of placed.frames.items)) copy.0) line.0.size line.0.address here.1;
        root = ap (λ (r : FrameRange). r.root) is ∙ ap (λ (x : content.FrameLine). x.root) here.0;
      }

  module _ (reaches : ℕ → ℕ → Bool)
      (live : (c d : ℕ) (a b : FnCopy) → slice_get copies c ≡ Some a → slice_get copies d ≡ Some b → reaches c d ≡ true → Reaches (graph_of p) (number_of (length p.functions) a.function) (number_of (length p.functions) b.function)) where
    meets : (c d : ℕ) (f : HasFrame c) (g : HasFrame d) → may_meet (layout_of placed) reaches c d ≡ true → MayBeLive (graph_of p) (length p.functions) f.copy g.copy
    meets c d f g e =
        by (not (same_root (frame (layout_of placed) c).root (frame (layout_of placed) d).root)) (reaches c d) (reaches d c) refl refl refl e where
          by : (x y z : Bool) → not (same_root (frame (layout_of placed) c).root (frame (layout_of placed) d).root) ≡ x → reaches c d ≡ y → reaches d c ≡ z → (x || y || z) ≡ true
              → MayBeLive (graph_of p) (length p.functions) f.copy g.copy
          by true y z h i j k = inl (λ same. other_roots (frame (layout_of placed) c).root (frame (layout_of placed) d).root h (f.root ∙ same ∙ sym g.root))
          by false true z h i j k = inr (inl (live c d f.copy g.copy f.copied g.copied i))
          by false false true h i j k = inr (inr (live d c g.copy f.copy g.copied f.copied j))
          by false false false h i j k = absurd (cc)

    -- The layout serves, where what may be live together is told by chains of calls.
    pub laid_out : ObjectsAreDisjoint (map object_of placed.objects.items) → FramesAreClear (map object_of placed.objects.items) (map frame_of placed.frames.items)
        → LiveFramesAreDisjoint p copies (map frame_of placed.frames.items) → IsLaidOut reaches (layout_of placed)
    laid_out objects clear frames = record {
      objects = objects_whole p copies placed placing;
      frames = frames_whole p copies placed placing;
      objects_apart = λ n m ltn ltm other. let x = has_object n ltn in let y = has_object m ltm in
          ap (λ (r : Range). are_apart r.address r.size (object (layout_of placed) m).address (object (layout_of placed) m).size) x.is
          ∙ ap (λ (r : Range). are_apart x.line.address x.line.size r.address r.size) y.is
          ∙ apart_of x.line.address x.line.size y.line.address y.line.size x.seat y.seat (objects n m x.line y.line other x.there y.there);
      frames_clear = λ n c ltn ltc. let x = has_object n ltn in let y = has_frame c ltc in
          ap (λ (r : Range). are_apart r.address r.size (frame (layout_of placed) c).address (frame (layout_of placed) c).size) x.is
          ∙ ap (λ (r : FrameRange). are_apart x.line.address x.line.size r.address r.size) y.is
          ∙ apart_of x.line.address x.line.size y.line.address y.line.size x.seat y.seat (clear n c x.line y.line x.there y.there);
      frames_apart = λ c d ltc ltd other meet. let x = has_frame c ltc in let y = has_frame d ltd in
          ap (λ (r : FrameRange). are_apart r.address r.size (frame (layout_of placed) d).address (frame (layout_of placed) d).size) x.is
          ∙ ap (λ (r : FrameRange). are_apart x.line.address x.line.size r.address r.size) y.is
          ∙ apart_of x.line.address x.line.size y.line.address y.line.size x.seat y.seat (frames c d x.copy y.copy x.line y.line other x.copied y.copied x.there y.there (meets c d x y meet));
    }
