-- Private objects as frames of main: all is whole and apart as before.
use Rattle.std.proofs.Common.{◌≡◌, ◌≢◌, ℕ, zero, suc, ◌+◌, ◌-◌, ◌<◌, ◌≤◌, Bool, true, false, not, ◌&&◌, ◌||◌, nat_le, if◌then◌else◌, List, [], ◌∷◌, ◌++◌, length, slice_index_or, refl, sym, ap, ◌∙◌, subst, ⊎_elim, arith}
use Rattle.std.proofs.lemmas.Bool.{cases_lt, leb-true, le-leb}
use Rattle.pic_chip.specs.Run.{Range}
use Rattle.pic_world.specs.Roots.{same_root}
use Rattle.sym_code.specs.Layout.{DataLayout, FrameRange, IsLaidOut, object, frame, no_range, no_frame, is_whole, lies_in, are_apart, may_meet}
use Rattle.kept_layout.specs.KeptLayout.{is_private, emptied, as_frame, emptied_from, frames_from, kept_layout}
use Rattle.kept_layout.specs.Laid.{KeptIsLaidOut}
use Rattle.kept_layout.proofs.Owners.{never, left_of, right_of}
use Rattle.kept_layout.proofs.Accesses.{object_address, frame_kept}

-- ---- sizes
le_less : (a s t b : ℕ) → s ≤ t → nat_le (a + t) b ≡ true → nat_le (a + s) b ≡ true
le_less a s t b l e = le-leb (a + s) b (omega (arith, l, leb-true (a + t) b e))

lies_less : (first behind a s t : ℕ) → s ≤ t → lies_in first behind a t ≡ true → lies_in first behind a s ≡ true
lies_less first behind a s t l e = ap (λ (b : Bool). b && nat_le (a + s) behind) (left_of (nat_le first a) (nat_le (a + t) behind) e) ∙ le_less a s t behind l (right_of (nat_le first a) (nat_le (a + t) behind) e)

or_more : (p q r t u v w x : Bool) → (p ≡ true → u ≡ true) → (q ≡ true → v ≡ true) → (r ≡ true → w ≡ true) → (t ≡ true → x ≡ true) → (p || q || r || t) ≡ true → (u || v || w || x) ≡ true
or_more true q r t true v w x a b c d e = refl
or_more true q r t false v w x a b c d e = never (sym (a refl))
or_more false q r t true v w x a b c d e = refl
or_more false true r t false true w x a b c d e = refl
or_more false true r t false false w x a b c d e = never (sym (b refl))
or_more false false r t false true w x a b c d e = refl
or_more false false true t false false true x a b c d e = refl
or_more false false true t false false false x a b c d e = never (sym (c refl))
or_more false false false t false false true x a b c d e = refl
or_more false false false t false false false x a b c d e = d e

whole_less : (a s t : ℕ) → s ≤ t → is_whole a t ≡ true → is_whole a s ≡ true
whole_less a s t l e =
    or_more (lies_in 0x20 0x70 a t) (lies_in 0xa0 0xf0 a t) (lies_in 0x110 0x170 a t) (lies_in 0x190 0x1f0 a t) (lies_in 0x20 0x70 a s) (lies_in 0xa0 0xf0 a s) (lies_in 0x110 0x170 a s) (lies_in 0x190 0x1f0 a s)
    (lies_less 0x20 0x70 a s t l) (lies_less 0xa0 0xf0 a s t l) (lies_less 0x110 0x170 a s t l) (lies_less 0x190 0x1f0 a s t l) e

or_two : (p q u v : Bool) → (p ≡ true → u ≡ true) → (q ≡ true → v ≡ true) → (p || q) ≡ true → (u || v) ≡ true
or_two true q true v a b e = refl
or_two true q false v a b e = never (sym (a refl))
or_two false q true v a b e = refl
or_two false q false v a b e = b e

apart_less : (a s t b u v : ℕ) → s ≤ t → u ≤ v → are_apart a t b v ≡ true → are_apart a s b u ≡ true
apart_less a s t b u v l m e = or_two (nat_le (a + t) b) (nat_le (b + v) a) (nat_le (a + s) b) (nat_le (b + u) a) (le_less a s t b l) (le_less b u v a m) e

apart_sym : (a s b t : ℕ) → are_apart a s b t ≡ true → are_apart b t a s ≡ true
apart_sym a s b t e = by (nat_le (a + s) b) (nat_le (b + t) a) e
  where
    by : (p q : Bool) → (p || q) ≡ true → (q || p) ≡ true
    by true true e = refl
    by true false e = refl
    by false true e = refl
    by false false e = e

abbrev apart : FrameRange → FrameRange → Bool
apart f g = are_apart f.address f.size g.address g.size

-- ---- lists
joined_length : (fs gs : List FrameRange) → length (fs ++ gs) ≡ length fs + length gs
joined_length [] gs = omega arith
joined_length (f ∷ fs) gs = let e = joined_length fs gs in omega (arith, e)

frame_behind : (fs gs : List FrameRange) (c : ℕ) → length fs ≤ c → slice_index_or (fs ++ gs) c no_frame ≡ slice_index_or gs (c - length fs) no_frame
frame_behind [] gs c l = ap (λ (k : ℕ). slice_index_or gs k no_frame) (omega arith)
frame_behind (f ∷ fs) gs zero l = absurd (omega (arith, l))
frame_behind (f ∷ fs) gs (suc c) l = frame_behind fs gs c (omega (arith, l)) ∙ ap (λ (k : ℕ). slice_index_or gs k no_frame) (omega arith)

module _ (kept : List Bool) where
  emptied_length : (i : ℕ) (rs : List Range) → length (emptied_from kept i rs) ≡ length rs
  emptied_length i [] = refl
  emptied_length i (r ∷ rs) = ap suc (emptied_length (i + 1) rs)

  size_less : (i : ℕ) (rs : List Range) (n : ℕ) → (slice_index_or (emptied_from kept i rs) n no_range).size ≤ (slice_index_or rs n no_range).size
  size_less i [] n = omega arith
  size_less i (r ∷ rs) zero = by (is_private kept i r)
    where
      by : (b : Bool) → (if b then emptied r else r).size ≤ r.size
      by true = omega arith
      by false = omega arith
  size_less i (r ∷ rs) (suc n) = size_less (i + 1) rs n

  size_none : (i : ℕ) (rs : List Range) (n j : ℕ) → i + n ≡ j → n < length rs → is_private kept j (slice_index_or rs n no_range) ≡ true → (slice_index_or (emptied_from kept i rs) n no_range).size ≡ 0
  size_none i [] n j s l p = absurd (omega (arith, l))
  size_none i (r ∷ rs) zero j s l p = ap (λ (b : Bool). (if b then emptied r else r).size) (ap (λ (k : ℕ). is_private kept k r) (omega (arith, s)) ∙ p)
  size_none i (r ∷ rs) (suc n) j s l p = size_none (i + 1) rs n j (omega (arith, s)) (omega (arith, l)) p

  -- a frame that is gained is that of a private object
  abbrev Gained : ℕ → List Range → FrameRange → Type 0
  Gained i rs f = (n : ℕ) × (n < length rs) × ((j : ℕ) → i + n ≡ j → is_private kept j (slice_index_or rs n no_range) ≡ true) × (f ≡ as_frame (slice_index_or rs n no_range))

  later : (i : ℕ) (r : Range) (rs : List Range) (f : FrameRange) → Gained (i + 1) rs f → Gained i (r ∷ rs) f
  later i r rs f g = (suc g.0, omega (arith, g.1), λ j s. g.2 j (omega (arith, s)), g.3)

  gained : (i : ℕ) (rs : List Range) (c : ℕ) → c < length (frames_from kept i rs) → Gained i rs (slice_index_or (frames_from kept i rs) c no_frame)
  gained i [] c l = absurd (omega (arith, l))
  gained i (r ∷ rs) c l = by (gained (i + 1) rs) (is_private kept i r) refl c l
    where
      by : ((c : ℕ) → c < length (frames_from kept (i + 1) rs) → Gained (i + 1) rs (slice_index_or (frames_from kept (i + 1) rs) c no_frame)) → (p : Bool) → is_private kept i r ≡ p → (c : ℕ)
          → c < length (if p then as_frame r ∷ frames_from kept (i + 1) rs else frames_from kept (i + 1) rs) → Gained i (r ∷ rs) (slice_index_or (if p then as_frame r ∷ frames_from kept (i + 1) rs else frames_from kept (i + 1) rs) c no_frame)
      by more true e zero m = (zero, omega arith, λ j s. ap (λ (k : ℕ). is_private kept k r) (omega (arith, s)) ∙ e, refl)
      by more true e (suc c) m = later i r rs _ (more c (omega (arith, m)))
      by more false e c m = later i r rs _ (more c m)

  abbrev AllApart : List Range → Type 0
  AllApart rs = (n m : ℕ) → n < length rs → m < length rs → n ≢ m → apart (as_frame (slice_index_or rs n no_range)) (as_frame (slice_index_or rs m no_range)) ≡ true

  gained_apart : (i : ℕ) (rs : List Range) → AllApart rs → (c d : ℕ) → c < d → d < length (frames_from kept i rs) → apart (slice_index_or (frames_from kept i rs) c no_frame) (slice_index_or (frames_from kept i rs) d no_frame) ≡ true
  gained_apart i [] all c d l m = absurd (omega (arith, m))
  gained_apart i (r ∷ rs) all c d l m = by (gained_apart (i + 1) rs (λ n k ln lk ne. all (suc n) (suc k) (omega (arith, ln)) (omega (arith, lk)) (λ e. ne (omega (arith, e))))) (is_private kept i r) c d l m
    where
      by : ((c d : ℕ) → c < d → d < length (frames_from kept (i + 1) rs) → apart (slice_index_or (frames_from kept (i + 1) rs) c no_frame) (slice_index_or (frames_from kept (i + 1) rs) d no_frame) ≡ true) → (p : Bool) → (c d : ℕ) → c < d
          → d < length (if p then as_frame r ∷ frames_from kept (i + 1) rs else frames_from kept (i + 1) rs)
          → apart (slice_index_or (if p then as_frame r ∷ frames_from kept (i + 1) rs else frames_from kept (i + 1) rs) c no_frame) (slice_index_or (if p then as_frame r ∷ frames_from kept (i + 1) rs else frames_from kept (i + 1) rs) d no_frame) ≡ true
      by more false c d l m = more c d l m
      by more true c zero l m = absurd (omega (arith, l))
      by more true zero (suc d) l m =
          let g = gained (i + 1) rs d (omega (arith, m)) in
          ap (apart (as_frame r)) g.3 ∙ all zero (suc g.0) (omega arith) (omega (arith, g.1)) (λ e. absurd (omega (arith, e)))
      by more true (suc c) (suc d) l m = more c d (omega (arith, l)) (omega (arith, m))

module _ (kept : List Bool) (reaches : ℕ → ℕ → Bool) (l : DataLayout) (laid : IsLaidOut reaches l) where
  abbrev k : DataLayout
  k = kept_layout kept l

  abbrev gs : List FrameRange
  gs = frames_from kept 0 l.objects

  there : (n : ℕ) → n < length k.objects → n < length l.objects
  there n m = let e = emptied_length kept 0 l.objects in omega (arith, m, e)

  -- each frame is one of a copy, or that of a private object
  old_frame : (c : ℕ) → c < length l.frames → frame k c ≡ frame l c
  old_frame c m = frame_kept l.frames gs c m

  new_there : (c : ℕ) → c < length k.frames → length l.frames ≤ c → c - length l.frames < length gs
  new_there c m n = let e = joined_length l.frames gs in omega (arith, m, n, e)

  new_frame : (c : ℕ) → c < length k.frames → length l.frames ≤ c → Gained kept 0 l.objects (slice_index_or gs (c - length l.frames) no_frame)
  new_frame c m n = gained kept 0 l.objects (c - length l.frames) (new_there c m n)

  new_is : (c : ℕ) (m : c < length k.frames) (n : length l.frames ≤ c) → frame k c ≡ as_frame (object l (new_frame c m n).0)
  new_is c m n = frame_behind l.frames gs c n ∙ (new_frame c m n).3

  whole_object : (n : ℕ) → n < length k.objects → is_whole (object k n).address (object k n).size ≡ true
  whole_object n m =
      ap (λ (a : ℕ). is_whole a (object k n).size) (object_address kept 0 l.objects n)
      ∙ whole_less (object l n).address (object k n).size (object l n).size (size_less kept 0 l.objects n) (laid.objects n (there n m))

  whole_frame : (c : ℕ) → c < length k.frames → is_whole (frame k c).address (frame k c).size ≡ true
  whole_frame c m =
      ⊎_elim
      (λ lt. ap (λ (f : FrameRange). is_whole f.address f.size) (old_frame c lt) ∙ laid.frames c lt)
      (λ ge. ap (λ (f : FrameRange). is_whole f.address f.size) (new_is c m ge) ∙ laid.objects (new_frame c m ge).0 (new_frame c m ge).1)
      (cases_lt c (length l.frames))

  object_is : (n : ℕ) → (f : ℕ → ℕ → Bool) → f (object k n).address (object k n).size ≡ f (object l n).address (object k n).size
  object_is n f = ap (λ (a : ℕ). f a (object k n).size) (object_address kept 0 l.objects n)

  objects_apart : (n m : ℕ) → n < length k.objects → m < length k.objects → n ≢ m → are_apart (object k n).address (object k n).size (object k m).address (object k m).size ≡ true
  objects_apart n m a b ne =
      object_is n (λ x s. are_apart x s (object k m).address (object k m).size) ∙ object_is m (λ x s. are_apart (object l n).address (object k n).size x s)
      ∙ apart_less (object l n).address (object k n).size (object l n).size (object l m).address (object k m).size (object l m).size (size_less kept 0 l.objects n) (size_less kept 0 l.objects m) (laid.objects_apart n m (there n a) (there m b) ne)

  -- a private object has no bytes there, and stands where its frame does
  emptied_apart : (n m : ℕ) → n < length l.objects → m < length l.objects → ((j : ℕ) → 0 + m ≡ j → is_private kept j (object l m) ≡ true) → are_apart (object l n).address (object k n).size (object l m).address (object l m).size ≡ true
  emptied_apart n m a b p =
      ⊎_elim
      (λ lt. other (λ e. absurd (omega (arith, lt, e))))
      (λ ge. ⊎_elim (λ more. other (λ e. absurd (omega (arith, more, e)))) (λ le. same (omega (arith, ge, le))) (cases_lt m n))
      (cases_lt n m)
    where
      other : n ≢ m → are_apart (object l n).address (object k n).size (object l m).address (object l m).size ≡ true
      other ne = apart_less (object l n).address (object k n).size (object l n).size (object l m).address (object l m).size (object l m).size (size_less kept 0 l.objects n) (omega arith) (laid.objects_apart n m a b ne)

      same : m ≡ n → are_apart (object l n).address (object k n).size (object l m).address (object l m).size ≡ true
      same e =
          let none = size_none kept 0 l.objects n n (omega arith) a (subst (λ (z : ℕ). is_private kept z (object l z) ≡ true) e (p m (omega arith))) in
          let at : (object l m).address ≡ (object l n).address = ap (λ (z : ℕ). (object l z).address) e in
          ap (λ (b : Bool). b || nat_le ((object l m).address + (object l m).size) (object l n).address) (le-leb ((object l n).address + (object k n).size) (object l m).address (omega (arith, none, at)))

  frames_clear : (n c : ℕ) → n < length k.objects → c < length k.frames → are_apart (object k n).address (object k n).size (frame k c).address (frame k c).size ≡ true
  frames_clear n c a m =
      object_is n (λ x s. are_apart x s (frame k c).address (frame k c).size)
      ∙ ⊎_elim
      (λ lt. ap (λ (f : FrameRange). are_apart (object l n).address (object k n).size f.address f.size) (old_frame c lt)
      ∙ apart_less (object l n).address (object k n).size (object l n).size (frame l c).address (frame l c).size (frame l c).size (size_less kept 0 l.objects n) (omega arith) (laid.frames_clear n c (there n a) lt))
      (λ ge. ap (λ (f : FrameRange). are_apart (object l n).address (object k n).size f.address f.size) (new_is c m ge)
      ∙ emptied_apart n (new_frame c m ge).0 (there n a) (new_frame c m ge).1 (new_frame c m ge).2)
      (cases_lt c (length l.frames))

  old_new : (c d : ℕ) (m : c < length l.frames) (b : d < length k.frames) (n : length l.frames ≤ d) → apart (frame k c) (frame k d) ≡ true
  old_new c d m b n =
      ap (λ (f : FrameRange). apart f (frame k d)) (old_frame c m) ∙ ap (apart (frame l c)) (new_is d b n)
      ∙ apart_sym (object l (new_frame d b n).0).address (object l (new_frame d b n).0).size (frame l c).address (frame l c).size (laid.frames_clear (new_frame d b n).0 c (new_frame d b n).1 m)

  new_new : (c d : ℕ) → c < d → c < length k.frames → d < length k.frames → length l.frames ≤ c → apart (frame k c) (frame k d) ≡ true
  new_new c d less a b n =
      ap (λ (f : FrameRange). apart f (frame k d)) (frame_behind l.frames gs c n) ∙ ap (apart (slice_index_or gs (c - length l.frames) no_frame)) (frame_behind l.frames gs d (omega (arith, less, n)))
      ∙ gained_apart kept 0 l.objects laid.objects_apart (c - length l.frames) (d - length l.frames) (omega (arith, less, n)) (new_there d b (omega (arith, less, n)))

  turned : (c d : ℕ) → apart (frame k c) (frame k d) ≡ true → apart (frame k d) (frame k c) ≡ true
  turned c d e = apart_sym (frame k c).address (frame k c).size (frame k d).address (frame k d).size e

  frames_apart : (c d : ℕ) → c < length k.frames → d < length k.frames → c ≢ d → may_meet k reaches c d ≡ true → apart (frame k c) (frame k d) ≡ true
  frames_apart c d a b ne meet =
      ⊎_elim
      (λ lc. ⊎_elim
      (λ ld. ap (λ (f : FrameRange). apart f (frame k d)) (old_frame c lc) ∙ ap (apart (frame l c)) (old_frame d ld)
      ∙ laid.frames_apart c d lc ld ne (sym (ap (λ (f : FrameRange). not (same_root f.root (frame k d).root) || reaches c d || reaches d c) (old_frame c lc) ∙ ap (λ (f : FrameRange). not (same_root (frame l c).root f.root) || reaches c d || reaches d c) (old_frame d ld)) ∙ meet))
      (λ gd. old_new c d lc b gd) (cases_lt d (length l.frames)))
      (λ gc. ⊎_elim
      (λ ld. turned d c (old_new d c ld a gc))
      (λ gd. ⊎_elim (λ less. new_new c d less a b gc) (λ ge. turned d c (new_new d c (after ge) b a gd)) (cases_lt c d)) (cases_lt d (length l.frames)))
      (cases_lt c (length l.frames))
    where
      after : d ≤ c → d < c
      after ge = ⊎_elim (λ lt. lt) (λ le. absurd (ne (omega (arith, ge, le)))) (cases_lt d c)

pub laid_out : KeptIsLaidOut
laid_out kept reaches l laid = record {
  objects = whole_object kept reaches l laid;
  frames = whole_frame kept reaches l laid;
  objects_apart = objects_apart kept reaches l laid;
  frames_clear = frames_clear kept reaches l laid;
  frames_apart = frames_apart kept reaches l laid;
}
