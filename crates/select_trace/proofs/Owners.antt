-- Whose a byte is, by the lists of a layout.
use Rattle.std.proofs.Common.{◌≡◌, ◌≢◌, ⊎_elim, ℕ, zero, suc, ◌+◌, ◌-◌, ◌<◌, ◌≤◌, Bool, true, false, not, ◌&&◌, ◌||◌, nat_lt, nat_le, List, [], ◌∷◌, Some, None, slice_get, refl, ap, ◌∙◌, arith}
use Rattle.pic_chip.specs.Run.{Range, covers, object_at}
use Rattle.pic_world.specs.declared.Cell.TheVariants as cells
use Rattle.sym_code.specs.Layout.{FrameRange, Of, covers_any, frame_owner, are_apart}
use Rattle.select_trace.proofs.Truths.{or_true, and_left, and_right, or_right, or_left, lt_of, le_of, true_false, if_true, if_false}

some_range : (r s : Range) → Some r ≡ Some s → r ≡ s
some_range r s e = cc

some_frame : (r s : FrameRange) → Some r ≡ Some s → r ≡ s
some_frame r s e = cc

no_range_get : (k : ℕ) (r : Range) → slice_get {X = Range} [] k ≡ Some r → ⊥
no_range_get zero r e = absurd (cc)
no_range_get (suc k) r e = absurd (cc)

no_frame_get : (k : ℕ) (r : FrameRange) → slice_get {X = FrameRange} [] k ≡ Some r → ⊥
no_frame_get zero r e = absurd (cc)
no_frame_get (suc k) r e = absurd (cc)

-- the range shows its bytes, and covers this one
abbrev pub shows : Range → ℕ → Bool
shows r a = not r.constant && covers r a

pub object_none : (rs : List Range) (i a : ℕ) → ((k : ℕ) (r : Range) → slice_get rs k ≡ Some r → shows r a ≡ false) → object_at rs i a ≡ None
object_none [] i a h = refl
object_none (r ∷ rs) i a h = if_false (shows r a) (Some (cells.Static i (a - r.address))) (object_at rs (i + 1) a) (h 0 r refl) ∙ object_none rs (i + 1) a (λ k s e. h (suc k) s e)

pub object_some : (rs : List Range) (i m a : ℕ) (r : Range) → slice_get rs m ≡ Some r → shows r a ≡ true → ((k : ℕ) (s : Range) → slice_get rs k ≡ Some s → k ≢ m → shows s a ≡ false)
    → object_at rs i a ≡ Some (cells.Static (i + m) (a - r.address))
object_some [] i m a r e t h = absurd (no_range_get m r e)
object_some (s ∷ rs) i zero a r e t h =
    let q : s ≡ r = some_range s r e in
    if_true (shows s a) (Some (cells.Static i (a - s.address))) (object_at rs (i + 1) a) (ap (λ (x : Range). shows x a) q ∙ t)
    ∙ ap (λ (x : Range). Some (cells.Static i (a - x.address))) q ∙ ap (λ k. Some (cells.Static k (a - r.address))) (omega arith)
object_some (s ∷ rs) i (suc m) a r e t h =
    if_false (shows s a) (Some (cells.Static i (a - s.address))) (object_at rs (i + 1) a) (h 0 s refl (λ z. omega arith))
    ∙ object_some rs (i + 1) m a r e t (λ k x y n. h (suc k) x y (λ z. n (omega (arith, z)))) ∙ ap (λ k. Some (cells.Static k (a - r.address))) (omega arith)

pub covers_none : (rs : List Range) (a : ℕ) → ((k : ℕ) (r : Range) → slice_get rs k ≡ Some r → covers r a ≡ false) → covers_any rs a ≡ false
covers_none [] a h = refl
covers_none (r ∷ rs) a h = ap (λ b. b || covers_any rs a) (h 0 r refl) ∙ covers_none rs a (λ k s e. h (suc k) s e)

pub covers_some : (rs : List Range) (a m : ℕ) (r : Range) → slice_get rs m ≡ Some r → covers r a ≡ true → covers_any rs a ≡ true
covers_some [] a m r e c = absurd (no_range_get m r e)
covers_some (s ∷ rs) a zero r e c = or_left _ _ (ap (λ (x : Range). covers x a) (some_range s r e) ∙ c)
covers_some (s ∷ rs) a (suc m) r e c = or_right (covers s a) _ (covers_some rs a m r e c)

-- the frame has the byte at this address
abbrev pub holds : FrameRange → ℕ → Bool
holds f a = nat_le f.address a && nat_lt a (f.address + f.size)

pub frame_some : (fs : List FrameRange) (a m : ℕ) (f : FrameRange) → slice_get fs m ≡ Some f → holds f a ≡ true → ((k : ℕ) (s : FrameRange) → slice_get fs k ≡ Some s → holds s a ≡ true → s.root ≡ f.root) → frame_owner fs a ≡ Of f.root
frame_some [] a m f e c h = absurd (no_frame_get m f e)
frame_some (s ∷ fs) a m f e c h = by_test (holds s a) refl (λ k g. frame_some fs a k f g c (λ j x y z. h (suc j) x y z))
  where
    at_head : (m : ℕ) → slice_get (s ∷ fs) m ≡ Some f → holds s a ≡ false → (k : ℕ) × (slice_get fs k ≡ Some f)
    at_head zero e n = absurd (true_false (holds s a) (ap (λ (x : FrameRange). holds x a) (some_frame s f e) ∙ c) n)
    at_head (suc k) e n = (k, e)

    by_test : (b : Bool) → holds s a ≡ b → ((k : ℕ) → slice_get fs k ≡ Some f → frame_owner fs a ≡ Of f.root) → frame_owner (s ∷ fs) a ≡ Of f.root
    by_test true q go = if_true (holds s a) (Of s.root) (frame_owner fs a) q ∙ ap Of (h 0 s refl q)
    by_test false q go = let r = at_head m e q in if_false (holds s a) (Of s.root) (frame_owner fs a) q ∙ go r.0 r.1

-- ---- what is apart
pub apart_at : (x n y m a : ℕ) → are_apart x n y m ≡ true → x ≤ a → a < x + n → y ≤ a → a < y + m → ⊥
apart_at x n y m a e l h l' h' = ⊎_elim (λ f. let k = le_of (x + n) y f in omega arith) (λ f. let k = le_of (y + m) x f in omega arith) (or_true _ _ e)

pub outside : (x n a : ℕ) → ((x ≤ a) → (a < x + n) → ⊥) → (nat_le x a && nat_lt a (x + n)) ≡ false
outside x n a h = by_test (nat_le x a && nat_lt a (x + n)) refl
  where
    by_test : (b : Bool) → (nat_le x a && nat_lt a (x + n)) ≡ b → (nat_le x a && nat_lt a (x + n)) ≡ false
    by_test true q = absurd (h (le_of x a (and_left _ _ q)) (lt_of a (x + n) (and_right (nat_le x a) _ q)))
    by_test false q = q
