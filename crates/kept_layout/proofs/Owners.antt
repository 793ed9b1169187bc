-- Whose each byte is over the layout in which private objects are main's own bytes.
use Rattle.std.proofs.Common.{◌≡◌, ◌≢◌, ℕ, zero, suc, ◌+◌, ◌-◌, ◌<◌, ◌≤◌, Bool, true, false, not, ◌&&◌, ◌||◌, nat_le, nat_lt, if◌then◌else◌, List, [], ◌∷◌, ◌++◌, length, get_or, Option, Some, None, is_some, slice_index_or, refl, sym, ap, ◌∙◌, true≢false, arith}
use Rattle.std.proofs.lemmas.Bool.{leb-true, le-leb, ltb-true}
use Rattle.pic_chip.specs.Address as chip
use Rattle.pic_chip.specs.Run.{Range, covers, object_at}
use Rattle.pic_world.specs.declared.Cell.{Cell}
use Rattle.pic_world.specs.declared.Cell.TheVariants as cells
use Rattle.pic_world.specs.declared.Root.TheVariants.{Main, Isr}
use Rattle.kept_trace.specs.Kept.{is_kept_cell}
use Rattle.sym_code.specs.Layout.{DataLayout, FrameRange, IsLaidOut, Owner, Watched, Constant, Of, Nobody, object, frame, no_range, no_frame, is_whole, lies_in, are_apart, covers_any, covers_frame, frame_owner, private_owner, owner_by, owner}
use Rattle.kept_layout.specs.KeptLayout.{is_private, emptied, as_frame, emptied_from, frames_from, kept_layout, is_private_owner}

pub never : {A : Type 0} → true ≡ false → A
never e = absurd (true≢false e)

pub left_of : (a b : Bool) → (a && b) ≡ true → a ≡ true
left_of true b p = refl
left_of false b p = p

pub right_of : (a b : Bool) → (a && b) ≡ true → b ≡ true
right_of true b p = p
right_of false b p = never (sym p)

-- ---- one object at an address
abbrev covers_frame_one : FrameRange → ℕ → Bool
covers_frame_one f x = nat_le f.address x && nat_lt x (f.address + f.size)

-- where one of the objects covers the address, none behind it does
abbrev pub Alone : ℕ → List Range → Type 0
Alone x [] = Unit {0}
Alone x (r ∷ rs) = (covers r x ≡ true → covers_any rs x ≡ false) × Alone x rs

pub none_at : (x : ℕ) (i : ℕ) (rs : List Range) → covers_any rs x ≡ false → object_at rs i x ≡ None
none_at x i [] e = refl
none_at x i (r ∷ rs) e = by (none_at x (i + 1) rs) r.constant (covers r x) e
  where
    by : (covers_any rs x ≡ false → object_at rs (i + 1) x ≡ None) → (c v : Bool) → (v || covers_any rs x) ≡ false → (if not c && v then Some (cells.Static i (x - r.address)) else object_at rs (i + 1) x) ≡ None
    by more c true f = never f
    by more true false f = more f
    by more false false f = more f

abbrev pub is_private_at : List Bool → Option Cell → Bool
is_private_at kept None = false
is_private_at kept (Some cell) = not (is_kept_cell kept cell)

abbrev pub seen_at : List Bool → Option Cell → Option Cell
seen_at kept None = None
seen_at kept (Some cell) = if is_kept_cell kept cell then Some cell else None

-- nothing covers an address of an emptied object
pub never_covers : (a x : ℕ) → (nat_le a x && nat_lt x (a + 0)) ≡ false
never_covers a x = by (nat_le a x) (nat_lt x (a + 0)) refl refl
  where
    by : (b c : Bool) → nat_le a x ≡ b → nat_lt x (a + 0) ≡ c → (b && c) ≡ false
    by true true e f = absurd (omega (arith, leb-true a x e, ltb-true x (a + 0) f))
    by true false e f = refl
    by false c e f = refl

module _ (kept : List Bool) (x : ℕ) where
  none_emptied : (i : ℕ) (rs : List Range) → covers_any rs x ≡ false → covers_any (emptied_from kept i rs) x ≡ false
  none_emptied i [] e = refl
  none_emptied i (r ∷ rs) e = by (none_emptied (i + 1) rs) (covers r x) (is_private kept i r) refl e
    where
      by : (covers_any rs x ≡ false → covers_any (emptied_from kept (i + 1) rs) x ≡ false) → (v p : Bool) → covers r x ≡ v → (v || covers_any rs x) ≡ false → (covers (if p then emptied r else r) x || covers_any (emptied_from kept (i + 1) rs) x) ≡ false
      by more true p ev f = never f
      by more false true ev f = ap (λ (b : Bool). b || covers_any (emptied_from kept (i + 1) rs) x) (never_covers r.address x) ∙ more f
      by more false false ev f = ap (λ (b : Bool). b || covers_any (emptied_from kept (i + 1) rs) x) ev ∙ more f

  no_frames : (i : ℕ) (rs : List Range) → covers_any rs x ≡ false → frame_owner (frames_from kept i rs) x ≡ Nobody
  no_frames i [] e = refl
  no_frames i (r ∷ rs) e = by (no_frames (i + 1) rs) (covers r x) (is_private kept i r) refl e
    where
      by : (covers_any rs x ≡ false → frame_owner (frames_from kept (i + 1) rs) x ≡ Nobody) → (v p : Bool) → covers r x ≡ v → (v || covers_any rs x) ≡ false → frame_owner (if p then as_frame r ∷ frames_from kept (i + 1) rs else frames_from kept (i + 1) rs) x ≡ Nobody
      by more true p ev f = never f
      by more false true ev f = ap (λ (b : Bool). if b then Of Main else frame_owner (frames_from kept (i + 1) rs) x) ev ∙ more f
      by more false false ev f = more f

  -- ---- what each list says of the address, by what object is there
  pub record Sees (i : ℕ) (rs : List Range) : Type 0 where
    pub at : object_at (emptied_from kept i rs) i x ≡ seen_at kept (object_at rs i x)
    pub covered : covers_any (emptied_from kept i rs) x ≡ (if is_private_at kept (object_at rs i x) then false else covers_any rs x)
    pub frames : frame_owner (frames_from kept i rs) x ≡ (if is_private_at kept (object_at rs i x) then Of Main else Nobody)

  module _ (i : ℕ) (a size : ℕ) (rs : List Range) (more : Sees (i + 1) rs) where
    abbrev one : Bool → Range
    one c = record { constant = c; address = a; size = size }

    abbrev here : Option Cell
    here = Some (cells.Static i (x - a))

    abbrev rest : Option Cell
    rest = object_at rs (i + 1) x

    abbrev made : Bool → Bool → Range
    made c k = if not c && not k then emptied (one c) else one c

    record Says (c k : Bool) : Type 0 where
      at : object_at (made c k ∷ emptied_from kept (i + 1) rs) i x ≡ seen_at kept (object_at (one c ∷ rs) i x)
      covered : covers_any (made c k ∷ emptied_from kept (i + 1) rs) x ≡ (if is_private_at kept (object_at (one c ∷ rs) i x) then false else covers_any (one c ∷ rs) x)
      frames : frame_owner (if not c && not k then as_frame (one c) ∷ frames_from kept (i + 1) rs else frames_from kept (i + 1) rs) x ≡ (if is_private_at kept (object_at (one c ∷ rs) i x) then Of Main else Nobody)

    rest_none : covers_any rs x ≡ false → rest ≡ None
    rest_none e = none_at x (i + 1) rs e

    const_covered : (v : Bool) → (v ≡ true → covers_any rs x ≡ false) → (v || covers_any (emptied_from kept (i + 1) rs) x) ≡ (if is_private_at kept rest then false else v || covers_any rs x)
    const_covered true h = sym (ap (λ (o : Option Cell). if is_private_at kept o then false else true) (rest_none (h refl)))
    const_covered false h = more.covered

    kept_at : get_or kept i false ≡ true → (v : Bool) → (if v then here else object_at (emptied_from kept (i + 1) rs) (i + 1) x) ≡ seen_at kept (if v then here else rest)
    kept_at ek true = sym (ap (λ (b : Bool). if b then here else None) ek)
    kept_at ek false = more.at

    kept_covered : get_or kept i false ≡ true → (v : Bool) → (v || covers_any (emptied_from kept (i + 1) rs) x) ≡ (if is_private_at kept (if v then here else rest) then false else v || covers_any rs x)
    kept_covered ek true = sym (ap (λ (b : Bool). if not b then false else true) ek)
    kept_covered ek false = more.covered

    kept_frames : get_or kept i false ≡ true → (v : Bool) → (v ≡ true → covers_any rs x ≡ false) → frame_owner (frames_from kept (i + 1) rs) x ≡ (if is_private_at kept (if v then here else rest) then Of Main else Nobody)
    kept_frames ek true h = no_frames (i + 1) rs (h refl) ∙ sym (ap (λ (b : Bool). if not b then Of Main else Nobody) ek)
    kept_frames ek false h = more.frames

    private_at : get_or kept i false ≡ false → (v : Bool) → (v ≡ true → covers_any rs x ≡ false) → object_at (emptied_from kept (i + 1) rs) (i + 1) x ≡ seen_at kept (if v then here else rest)
    private_at ek true h = more.at ∙ ap (seen_at kept) (rest_none (h refl)) ∙ sym (ap (λ (b : Bool). if b then here else None) ek)
    private_at ek false h = more.at

    private_covered : get_or kept i false ≡ false → (v w : Bool) → w ≡ false → (v ≡ true → covers_any rs x ≡ false)
        → (w || covers_any (emptied_from kept (i + 1) rs) x) ≡ (if is_private_at kept (if v then here else rest) then false else v || covers_any rs x)
    private_covered ek true w ew h = ap (λ (b : Bool). b || covers_any (emptied_from kept (i + 1) rs) x) ew ∙ none_emptied (i + 1) rs (h refl) ∙ sym (ap (λ (b : Bool). if not b then false else true) ek)
    private_covered ek false w ew h = ap (λ (b : Bool). b || covers_any (emptied_from kept (i + 1) rs) x) ew ∙ more.covered

    private_frames : get_or kept i false ≡ false → (v : Bool) → (if v then Of Main else frame_owner (frames_from kept (i + 1) rs) x) ≡ (if is_private_at kept (if v then here else rest) then Of Main else Nobody)
    private_frames ek true = sym (ap (λ (b : Bool). if not b then Of Main else Nobody) ek)
    private_frames ek false = more.frames

    says : (c k : Bool) → get_or kept i false ≡ k → (covers (one c) x ≡ true → covers_any rs x ≡ false) → Says c k
    says true k ek h = record { at = more.at; covered = const_covered (covers (one true) x) h; frames = more.frames }
    says false true ek h = record { at = kept_at ek (covers (one false) x); covered = kept_covered ek (covers (one false) x); frames = kept_frames ek (covers (one false) x) h }
    says false false ek h = record {
      at = private_at ek (covers (one false) x) h;
      covered = private_covered ek (covers (one false) x) (nat_le a x && nat_lt x (a + 0)) (never_covers a x) h;
      frames = private_frames ek (covers (one false) x);
    }

  sees : (i : ℕ) (rs : List Range) → Alone x rs → Sees i rs
  sees i [] h = record { at = refl; covered = refl; frames = refl }
  sees i (r ∷ rs) h =
      let s = says i r.address r.size rs (sees (i + 1) rs h.1) r.constant (get_or kept i false) refl h.0 in
      record { at = s.at; covered = s.covered; frames = s.frames }

-- ---- objects that are apart
pub slice_covered : (x : ℕ) (rs : List Range) → covers_any rs x ≡ true → (n : ℕ) × (n < length rs) × (covers (slice_index_or rs n no_range) x ≡ true)
slice_covered x [] e = never (sym e)
slice_covered x (r ∷ rs) e = by (slice_covered x rs) (covers r x) refl e
  where
    by : (covers_any rs x ≡ true → (n : ℕ) × (n < length rs) × (covers (slice_index_or rs n no_range) x ≡ true)) → (v : Bool) → covers r x ≡ v → (v || covers_any rs x) ≡ true → (n : ℕ) × (n < length (r ∷ rs)) × (covers (slice_index_or (r ∷ rs) n no_range) x ≡ true)
    by more true ev f = (zero, omega arith, ev)
    by more false ev f = let m = more f in (suc m.0, omega (arith, m.1), m.2)

slice_frame : (x : ℕ) (fs : List FrameRange) → covers_frame fs x ≡ true → (c : ℕ) × (c < length fs) × (covers_frame_one (slice_index_or fs c no_frame) x ≡ true)
slice_frame x [] e = never (sym e)
slice_frame x (f ∷ fs) e = by (slice_frame x fs) (covers_frame_one f x) refl e
  where
    by : (covers_frame fs x ≡ true → (c : ℕ) × (c < length fs) × (covers_frame_one (slice_index_or fs c no_frame) x ≡ true)) → (v : Bool) → covers_frame_one f x ≡ v → (v || covers_frame fs x) ≡ true → (c : ℕ) × (c < length (f ∷ fs)) × (covers_frame_one (slice_index_or (f ∷ fs) c no_frame) x ≡ true)
    by more true ev g = (zero, omega arith, ev)
    by more false ev g = let m = more g in (suc m.0, omega (arith, m.1), m.2)

pub within : (a s x : ℕ) → (nat_le a x && nat_lt x (a + s)) ≡ true → (a ≤ x) × (x < a + s)
within a s x e = (leb-true a x (left_of (nat_le a x) (nat_lt x (a + s)) e), ltb-true x (a + s) (right_of (nat_le a x) (nat_lt x (a + s)) e))

pub apart_so : (a s b t x : ℕ) → are_apart a s b t ≡ true → (nat_le a x && nat_lt x (a + s)) ≡ true → (nat_le b x && nat_lt x (b + t)) ≡ true → ⊥
apart_so a s b t x e f g = by (nat_le (a + s) b) refl e
  where
    in_one : (a ≤ x) × (x < a + s)
    in_one = within a s x f

    in_other : (b ≤ x) × (x < b + t)
    in_other = within b t x g

    by : (v : Bool) → nat_le (a + s) b ≡ v → (v || nat_le (b + t) a) ≡ true → ⊥
    by true ev h = let l = leb-true (a + s) b ev in omega (arith, l, in_one.1, in_other.0)
    by false ev h = let l = leb-true (b + t) a h in omega (arith, l, in_one.0, in_other.1)

alone_from : (x : ℕ) (rs : List Range)
    → ((n m : ℕ) → n < length rs → m < length rs → n ≢ m → covers (slice_index_or rs n no_range) x ≡ true → covers (slice_index_or rs m no_range) x ≡ true → ⊥) → Alone x rs
alone_from x [] h = tt
alone_from x (r ∷ rs) h = (λ e. by e (covers_any rs x) refl, alone_from x rs (λ n m ln lm ne. h (suc n) (suc m) (omega (arith, ln)) (omega (arith, lm)) (λ e. ne (omega (arith, e)))))
  where
    by : covers r x ≡ true → (v : Bool) → covers_any rs x ≡ v → covers_any rs x ≡ false
    by e false ev = ev
    by e true ev = let m = slice_covered x rs ev in absurd (h zero (suc m.0) (omega arith) (omega (arith, m.1)) (λ z. absurd (omega (arith, z))) e m.2)

-- ---- whose each byte is
abbrev pub seen_owner : List Bool → Owner → Owner
seen_owner kept (Watched cell) = if is_kept_cell kept cell then Watched cell else Of Main
seen_owner kept o = o

frames_behind : (x : ℕ) (fs gs : List FrameRange) → covers_frame fs x ≡ false → frame_owner (fs ++ gs) x ≡ frame_owner gs x
frames_behind x [] gs e = refl
frames_behind x (f ∷ fs) gs e = by (frames_behind x fs gs) (covers_frame_one f x) e
  where
    by : (covers_frame fs x ≡ false → frame_owner (fs ++ gs) x ≡ frame_owner gs x) → (v : Bool) → (v || covers_frame fs x) ≡ false → (if v then Of f.root else frame_owner (fs ++ gs) x) ≡ frame_owner gs x
    by more true h = never h
    by more false h = more h

frames_nobody : (x : ℕ) (fs gs : List FrameRange) → frame_owner gs x ≡ Nobody → frame_owner (fs ++ gs) x ≡ frame_owner fs x
frames_nobody x [] gs e = e
frames_nobody x (f ∷ fs) gs e = ap (λ (o : Owner). if covers_frame_one f x then Of f.root else o) (frames_nobody x fs gs e)

whole_out : (a s x : ℕ) → is_whole a s ≡ true → (nat_le a x && nat_lt x (a + s)) ≡ true → (nat_le 0x70 x && nat_lt x 0x78) ≡ false
whole_out a s x e f = by (nat_le 0x70 x && nat_lt x 0x78) refl
  where
    in_one : (a ≤ x) × (x < a + s)
    in_one = within a s x f

    lies : (first behind : ℕ) → lies_in first behind a s ≡ true → (first ≤ a) × (a + s ≤ behind)
    lies first behind h = (leb-true first a (left_of (nat_le first a) (nat_le (a + s) behind) h), leb-true (a + s) behind (right_of (nat_le first a) (nat_le (a + s) behind) h))

    somewhere : (p q r t : Bool) → lies_in 0x20 0x70 a s ≡ p → lies_in 0xa0 0xf0 a s ≡ q → lies_in 0x110 0x170 a s ≡ r → lies_in 0x190 0x1f0 a s ≡ t → (p || q || r || t) ≡ true → (0x70 ≤ x) → (x < 0x78) → ⊥
    somewhere true q r t ep eq er et h low high = let l = lies 0x20 0x70 ep in omega (arith, l.0, l.1, in_one.0, in_one.1, low, high)
    somewhere false true r t ep eq er et h low high = let l = lies 0xa0 0xf0 eq in omega (arith, l.0, l.1, in_one.0, in_one.1, low, high)
    somewhere false false true t ep eq er et h low high = let l = lies 0x110 0x170 er in omega (arith, l.0, l.1, in_one.0, in_one.1, low, high)
    somewhere false false false true ep eq er et h low high = let l = lies 0x190 0x1f0 et in omega (arith, l.0, l.1, in_one.0, in_one.1, low, high)
    somewhere false false false false ep eq er et h low high = never (sym h)

    by : (v : Bool) → (nat_le 0x70 x && nat_lt x 0x78) ≡ v → (nat_le 0x70 x && nat_lt x 0x78) ≡ false
    by false ev = ev
    by true ev = absurd (somewhere (lies_in 0x20 0x70 a s) (lies_in 0xa0 0xf0 a s) (lies_in 0x110 0x170 a s) (lies_in 0x190 0x1f0 a s) refl refl refl refl e
        (leb-true 0x70 x (left_of (nat_le 0x70 x) (nat_lt x 0x78) ev)) (ltb-true x 0x78 (right_of (nat_le 0x70 x) (nat_lt x 0x78) ev)))

-- ---- the layout
module _ (kept : List Bool) (reaches : ℕ → ℕ → Bool) (l : DataLayout) (laid : IsLaidOut reaches l) where
  abbrev gained : List FrameRange
  gained = frames_from kept 0 l.objects

  pub all_alone : (x : ℕ) → Alone x l.objects
  all_alone x = alone_from x l.objects (λ n m ln lm ne e f. apart_so (object l n).address (object l n).size (object l m).address (object l m).size x (laid.objects_apart n m ln lm ne) e f)

  no_frame_at : (x : ℕ) → covers_any l.objects x ≡ true → covers_frame l.frames x ≡ false
  no_frame_at x e = by (covers_frame l.frames x) refl
    where
      by : (v : Bool) → covers_frame l.frames x ≡ v → covers_frame l.frames x ≡ false
      by false ev = ev
      by true ev =
          let m = slice_covered x l.objects e in
          let f = slice_frame x l.frames ev in
          absurd (apart_so (object l m.0).address (object l m.0).size (frame l f.0).address (frame l f.0).size x (laid.frames_clear m.0 f.0 m.1 f.1) m.2 f.2)

  out_of_common : (x : ℕ) → covers_any l.objects x ≡ true → (nat_le 0x70 x && nat_lt x 0x78) ≡ false
  out_of_common x e = let m = slice_covered x l.objects e in whole_out (object l m.0).address (object l m.0).size x (laid.objects m.0 m.1) m.2

  private_here : (x : ℕ) → covers_any l.objects x ≡ true → frame_owner gained x ≡ Of Main → private_owner (kept_layout kept l) x ≡ Of Main
  private_here x e f = by (nat_le 0x70 x) (nat_lt x 0x74) (nat_le 0x74 x) (nat_lt x 0x78) refl refl refl refl
    where
      all : frame_owner (l.frames ++ gained) x ≡ Of Main
      all = frames_behind x l.frames gained (no_frame_at x e) ∙ f

      by : (p q r t : Bool) → nat_le 0x70 x ≡ p → nat_lt x 0x74 ≡ q → nat_le 0x74 x ≡ r → nat_lt x 0x78 ≡ t
          → (if p && q then Of Main else if r && t then Of Isr else frame_owner (l.frames ++ gained) x) ≡ Of Main
      by true true r t ep eq er et = refl
      by false q true true ep eq er et = never (sym (le-leb 0x70 x (omega (arith, leb-true 0x74 x er))) ∙ ep)
      by true false true true ep eq er et = never (sym (ap (λ (b : Bool). b && nat_lt x 0x78) ep ∙ et) ∙ out_of_common x e)
      by false q false t ep eq er et = all
      by false q true false ep eq er et = all
      by true false false t ep eq er et = all
      by true false true false ep eq er et = all

  frames_same : (x : ℕ) → frame_owner gained x ≡ Nobody → private_owner (kept_layout kept l) x ≡ private_owner l x
  frames_same x f = ap (λ (o : Owner). if nat_le 0x70 x && nat_lt x 0x74 then Of Main else if nat_le 0x74 x && nat_lt x 0x78 then Of Isr else o) (frames_nobody x l.frames gained f)

  seen_frame : (x : ℕ) (fs : List FrameRange) → seen_owner kept (frame_owner fs x) ≡ frame_owner fs x
  seen_frame x [] = refl
  seen_frame x (f ∷ fs) = by (seen_frame x fs) (covers_frame_one f x)
    where
      by : seen_owner kept (frame_owner fs x) ≡ frame_owner fs x → (v : Bool) → seen_owner kept (if v then Of f.root else frame_owner fs x) ≡ (if v then Of f.root else frame_owner fs x)
      by more true = refl
      by more false = more

  seen_own : (x : ℕ) → seen_owner kept (private_owner l x) ≡ private_owner l x
  seen_own x = by (nat_le 0x70 x && nat_lt x 0x74) (nat_le 0x74 x && nat_lt x 0x78)
    where
      by : (p q : Bool) → seen_owner kept (if p then Of Main else if q then Of Isr else frame_owner l.frames x) ≡ (if p then Of Main else if q then Of Isr else frame_owner l.frames x)
      by true q = refl
      by false true = refl
      by false false = seen_frame x l.frames

  some_covers : (x : ℕ) (cell : Cell) → object_at l.objects 0 x ≡ Some cell → covers_any l.objects x ≡ true
  some_covers x cell e = by (covers_any l.objects x) refl
    where
      by : (v : Bool) → covers_any l.objects x ≡ v → covers_any l.objects x ≡ true
      by true ev = ev
      by false ev = never (sym (ap (λ (o : Option Cell). is_some o) (sym (none_at x 0 l.objects ev) ∙ e)))

  owner_at : (x : ℕ) → Sees kept x 0 l.objects → (at : Option Cell) → object_at l.objects 0 x ≡ at → owner_by (kept_layout kept l) x (seen_at kept at) ≡ seen_owner kept (owner_by l x at)
  owner_at x s None e =
      let covered : covers_any (emptied_from kept 0 l.objects) x ≡ covers_any l.objects x = s.covered ∙ ap (λ (o : Option Cell). if is_private_at kept o then false else covers_any l.objects x) e in
      let owned : private_owner (kept_layout kept l) x ≡ private_owner l x = frames_same x (s.frames ∙ ap (λ (o : Option Cell). if is_private_at kept o then Of Main else Nobody) e) in
      ap (λ (b : Bool). if b then Constant else private_owner (kept_layout kept l) x) covered
      ∙ ap (λ (o : Owner). if covers_any l.objects x then Constant else o) (owned ∙ sym (seen_own x))
      ∙ by (covers_any l.objects x)
    where
      by : (b : Bool) → (if b then Constant else seen_owner kept (private_owner l x)) ≡ seen_owner kept (if b then Constant else private_owner l x)
      by true = refl
      by false = refl
  owner_at x s (Some cell) e = by (is_kept_cell kept cell) refl
    where
      by : (b : Bool) → is_kept_cell kept cell ≡ b → owner_by (kept_layout kept l) x (if b then Some cell else None) ≡ (if b then Watched cell else Of Main)
      by true eb = refl
      by false eb =
          let private : is_private_at kept (object_at l.objects 0 x) ≡ true = ap (is_private_at kept) e ∙ ap not eb in
          ap (λ (b : Bool). if b then Constant else private_owner (kept_layout kept l) x) (s.covered ∙ ap (λ (b : Bool). if b then false else covers_any l.objects x) private)
          ∙ private_here x (some_covers x cell e) (s.frames ∙ ap (λ (b : Bool). if b then Of Main else Nobody) private)

  pub owner_seen : (k : ℕ) → owner (kept_layout kept l) k ≡ seen_owner kept (owner l k)
  unfolding owner
  owner_seen k =
      let x = chip.address_of k in
      let s = sees kept x 0 l.objects (all_alone x) in
      ap (owner_by (kept_layout kept l) x) s.at ∙ owner_at x s (object_at l.objects 0 x) refl

  -- ---- results and main's saved context
  not_private_frame : (x : ℕ) (fs : List FrameRange) → is_private_owner kept (frame_owner fs x) ≡ false
  not_private_frame x [] = refl
  not_private_frame x (f ∷ fs) = by (not_private_frame x fs) (covers_frame_one f x)
    where
      by : is_private_owner kept (frame_owner fs x) ≡ false → (v : Bool) → is_private_owner kept (if v then Of f.root else frame_owner fs x) ≡ false
      by more true = refl
      by more false = more

  pub private_of_none : (x : ℕ) → is_private_owner kept (owner_by l x None) ≡ false
  private_of_none x = by (covers_any l.objects x) (nat_le 0x70 x && nat_lt x 0x74) (nat_le 0x74 x && nat_lt x 0x78)
    where
      by : (v p q : Bool) → is_private_owner kept (if v then Constant else if p then Of Main else if q then Of Isr else frame_owner l.frames x) ≡ false
      by true p q = refl
      by false true q = refl
      by false false true = refl
      by false false false = not_private_frame x l.frames

  pub common_clear : (x : ℕ) → (nat_le 0x70 x && nat_lt x 0x78) ≡ true → is_private_owner kept (owner_by l x (object_at l.objects 0 x)) ≡ false
  common_clear x e = ap (λ (o : Option Cell). is_private_owner kept (owner_by l x o)) (none_at x 0 l.objects (uncovered (covers_any l.objects x) refl)) ∙ private_of_none x
    where
      uncovered : (v : Bool) → covers_any l.objects x ≡ v → covers_any l.objects x ≡ false
      uncovered false ev = ev
      uncovered true ev = never (sym e ∙ out_of_common x ev)
