-- What stands at addresses of data memory: device registers, and general bytes and their owners.
use Rattle.std.proofs.Common.{◌≡◌, ◌≢◌, ℕ, suc, ◌+◌, ◌-◌, ◌/◌, ◌%◌, ◌<◌, ◌≤◌, Bool, true, false, List, [], ◌∷◌, length, Option, Some, None, refl, ap, ◌∙◌, ◌⊎◌, inl, inr, ⊎_elim, arith}
use Rattle.std.specs.Prelude.{not, ◌&&◌, ◌||◌, nat_eq, nat_lt, nat_le, if◌then◌else◌, slice_index_or}
use Rattle.std.proofs.lemmas.Bool.{agree_below, agree_below_at, eqb-true, eq-eqb, ltb-true, leb-true, cases_lt, lt-ltb, le-ltb}
use Rattle.pic_chip.specs.Address as chip
use Rattle.pic_chip.specs.Address.{Place, Pcl, Status, Fsr, Pclath, Intcon, Pir1, Pie1, General, Device, Nothing, place}
use Rattle.pic_chip.specs.Run.{Range, covers, object_at, cell_at}
use Rattle.pic_world.specs.Registers.{is_register, lowest}
use Rattle.pic_world.specs.declared.Cell.{Cell}
use Rattle.pic_world.specs.declared.Cell.TheVariants as cells
use Rattle.pic_world.specs.declared.Root.{Root}
use Rattle.pic_world.specs.declared.Root.TheVariants.{Main, Isr}
use Rattle.pic_map.proofs.Lowest.{high_is_none}
use Rattle.sym_code.specs.Layout.{DataLayout, FrameRange, Owner, Watched, Constant, Of, Nobody, owner, owner_by, private_owner, frame_owner, covers_any, IsLaidOut, no_range, no_frame, is_whole, lies_in}
use Rattle.chip_trace.proofs.Effects.{reads_silently}

-- ---- device registers
-- the place of a register by its lowest address
abbrev pub port : ℕ → Place
port a = if nat_eq a 0x0b then Intcon else if nat_eq a 0x0c then Pir1 else if nat_eq a 0x8c then Pie1 else Device a

abbrev same_place : Place → Place → Bool
same_place Intcon Intcon = true
same_place Pir1 Pir1 = true
same_place Pie1 Pie1 = true
same_place (Device a) (Device b) = nat_eq a b
same_place _ _ = false

same_places : (p q : Place) → same_place p q ≡ true → p ≡ q
same_places Intcon Intcon e = refl
same_places Pir1 Pir1 e = refl
same_places Pie1 Pie1 e = refl
same_places (Device a) (Device b) e = ap Device (eqb-true a b e)
same_places Intcon Pcl e = absurd (cc)
same_places Intcon Status e = absurd (cc)
same_places Intcon Fsr e = absurd (cc)
same_places Intcon Pclath e = absurd (cc)
same_places Intcon Pir1 e = absurd (cc)
same_places Intcon Pie1 e = absurd (cc)
same_places Intcon (General k) e = absurd (cc)
same_places Intcon (Device a) e = absurd (cc)
same_places Intcon Nothing e = absurd (cc)
same_places Pir1 Pcl e = absurd (cc)
same_places Pir1 Status e = absurd (cc)
same_places Pir1 Fsr e = absurd (cc)
same_places Pir1 Pclath e = absurd (cc)
same_places Pir1 Intcon e = absurd (cc)
same_places Pir1 Pie1 e = absurd (cc)
same_places Pir1 (General k) e = absurd (cc)
same_places Pir1 (Device a) e = absurd (cc)
same_places Pir1 Nothing e = absurd (cc)
same_places Pie1 Pcl e = absurd (cc)
same_places Pie1 Status e = absurd (cc)
same_places Pie1 Fsr e = absurd (cc)
same_places Pie1 Pclath e = absurd (cc)
same_places Pie1 Intcon e = absurd (cc)
same_places Pie1 Pir1 e = absurd (cc)
same_places Pie1 (General k) e = absurd (cc)
same_places Pie1 (Device a) e = absurd (cc)
same_places Pie1 Nothing e = absurd (cc)
same_places (Device b) Pcl e = absurd (cc)
same_places (Device b) Status e = absurd (cc)
same_places (Device b) Fsr e = absurd (cc)
same_places (Device b) Pclath e = absurd (cc)
same_places (Device b) Intcon e = absurd (cc)
same_places (Device b) Pir1 e = absurd (cc)
same_places (Device b) Pie1 e = absurd (cc)
same_places (Device b) (General k) e = absurd (cc)
same_places (Device b) Nothing e = absurd (cc)
same_places Pcl q e = absurd (cc)
same_places Status q e = absurd (cc)
same_places Fsr q e = absurd (cc)
same_places Pclath q e = absurd (cc)
same_places (General k) q e = absurd (cc)
same_places Nothing q e = absurd (cc)

implied : (a b : Bool) → (not a || b) ≡ true → a ≡ true → b ≡ true
implied true b h e = h
implied false b h e = absurd (cc)

differs : (b : Bool) → b ≡ true → b ≡ false → ⊥
differs true e f = cc
differs false e f = cc

pub register_low : (a : ℕ) → is_register a ≡ true → lowest a ≡ a → a < 256
register_low a r l = ⊎_elim (λ lt. lt) (λ ge. absurd (differs (is_register a) r (high_is_none a ge l))) (cases_lt a 256)

both_true : (a b : Bool) → a ≡ true → b ≡ true → (a && b) ≡ true
both_true true b e f = f
both_true false b e f = absurd (cc)

pub register_place : (a : ℕ) → is_register a ≡ true → lowest a ≡ a → place (a / 128) (a % 128) ≡ port a
register_place a r l =
    let test : ℕ → Bool = λ n. not (is_register n && nat_eq (lowest n) n) || same_place (place (n / 128) (n % 128)) (port n) in
    let all : agree_below test (λ n. true) 256 ≡ true = refl in
    same_places (place (a / 128) (a % 128)) (port a) (implied (is_register a && nat_eq (lowest a) a) _ (agree_below_at test (λ n. true) 256 a all (register_low a r l)) (both_true (is_register a) (nat_eq (lowest a) a) r (eq-eqb (lowest a) a l)))

-- ---- general bytes
pub general_plain : (k : ℕ) → k < 368 → is_register (chip.address_of k) ≡ false
general_plain k h = agree_below_at (λ n. is_register (chip.address_of n)) (λ n. false) 368 k refl h

-- ---- owners
abbrev is_shown : Owner → Bool
is_shown (Watched cell) = true
is_shown _ = false

either_hidden : (r : Root) (o : Owner) (b : Bool) → is_shown o ≡ false → is_shown (if b then Of r else o) ≡ false
either_hidden r o true e = refl
either_hidden r o false e = e

frame_hidden : (fs : List FrameRange) (a : ℕ) → is_shown (frame_owner fs a) ≡ false
frame_hidden [] a = refl
frame_hidden (f ∷ fs) a = either_hidden f.root (frame_owner fs a) (nat_le f.address a && nat_lt a (f.address + f.size)) (frame_hidden fs a)

private_hidden : (l : DataLayout) (a : ℕ) (x y : Bool) → is_shown (if x then Of Main else if y then Of Isr else frame_owner l.frames a) ≡ false
private_hidden l a true y = refl
private_hidden l a false true = refl
private_hidden l a false false = frame_hidden l.frames a

hidden : (l : DataLayout) (a : ℕ) → is_shown (owner_by l a None) ≡ false
hidden l a = choose (covers_any l.objects a) where
  choose : (b : Bool) → is_shown (if b then Constant else private_owner l a) ≡ false
  choose true = refl
  choose false = private_hidden l a (nat_le 0x70 a && nat_lt a 0x74) (nat_le 0x74 a && nat_lt a 0x78)

pub shown_cell : (l : DataLayout) (k : ℕ) (cell : Cell) → owner l k ≡ Watched cell → object_at l.objects 0 (chip.address_of k) ≡ Some cell
unfolding owner
shown_cell l k cell e = by (object_at l.objects 0 (chip.address_of k)) e where
  by : (x : Option Cell) → owner_by l (chip.address_of k) x ≡ Watched cell → x ≡ Some cell
  by (Some c) f = ap Some (same_cell c f) where
    same_cell : (c : Cell) → Watched c ≡ Watched cell → c ≡ cell
    same_cell c f = cc
  by None f = absurd (differs (is_shown (owner_by l (chip.address_of k) None)) (ap is_shown f) (hidden l (chip.address_of k)))

pub silent_cell : (l : DataLayout) (i : Bool) (k : ℕ) → reads_silently i (owner l k) ≡ true → object_at l.objects 0 (chip.address_of k) ≡ None
unfolding owner
silent_cell l i k e = by (object_at l.objects 0 (chip.address_of k)) e where
  by : (x : Option Cell) → reads_silently i (owner_by l (chip.address_of k) x) ≡ true → x ≡ None
  by None f = refl
  by (Some c) f = absurd (cc)

-- what an access to a general byte shows
pub cell_of : (ranges : List Range) (k : ℕ) (x : Option Cell) → k < 368 → object_at ranges 0 (chip.address_of k) ≡ x → cell_at ranges (chip.address_of k) ≡ x
cell_of ranges k x h e = ap (λ b. if b then Some (cells.Device (chip.address_of k)) else object_at ranges 0 (chip.address_of k)) (general_plain k h) ∙ e

-- ---- where objects and frames are
-- a byte of data that isn't in the regions
abbrev is_clear : ℕ → Bool
is_clear a = (nat_le 0x78 a && nat_lt a 0x80) || nat_le 0x1f0 a

split_and : (a b : Bool) → (a && b) ≡ true → (a ≡ true) × (b ≡ true)
split_and true b e = (refl, e)
split_and false b e = absurd (cc)

or_cases : (a b : Bool) → (a || b) ≡ true → (a ≡ true) ⊎ (b ≡ true)
or_cases true b e = inl refl
or_cases false b e = inr e

inside_range : (first behind address size a : ℕ) → lies_in first behind address size ≡ true → address ≤ a → a < address + size → (first ≤ a) × (a < behind)
inside_range first behind address size a e le lt =
    let x = split_and (nat_le first address) (nat_le (address + size) behind) e in
    let p = leb-true first address x.0 in let q = leb-true (address + size) behind x.1 in (omega arith, omega arith)

-- a byte of a whole range stands in a region
abbrev Regions : ℕ → Type 0
Regions a = ((0x20 ≤ a) × (a < 0x70)) ⊎ (((0xa0 ≤ a) × (a < 0xf0)) ⊎ (((0x110 ≤ a) × (a < 0x170)) ⊎ ((0x190 ≤ a) × (a < 0x1f0))))

in_region : (address size a : ℕ) → is_whole address size ≡ true → address ≤ a → a < address + size → Regions a
in_region address size a e le lt =
    ⊎_elim
    (λ f. ⊎_elim
    (λ g. ⊎_elim (λ h. inl (inside_range 0x20 0x70 address size a h le lt)) (λ h. inr (inl (inside_range 0xa0 0xf0 address size a h le lt))) (or_cases (lies_in 0x20 0x70 address size) _ g))
    (λ g. inr (inr (inl (inside_range 0x110 0x170 address size a g le lt))))
    (or_cases (lies_in 0x20 0x70 address size || lies_in 0xa0 0xf0 address size) _ f))
    (λ f. inr (inr (inr (inside_range 0x190 0x1f0 address size a f le lt))))
    (or_cases (lies_in 0x20 0x70 address size || lies_in 0xa0 0xf0 address size || lies_in 0x110 0x170 address size) _ e)

no_region : (a : ℕ) → ((0x78 ≤ a) × (a < 0x80)) ⊎ ((0x1f0 ≤ a) ⊎ (a < 0x20)) → Regions a → ⊥
no_region a (inl c) (inl r) = let x = c.0 in let y = r.1 in omega arith
no_region a (inl c) (inr (inl r)) = let x = c.1 in let y = r.0 in omega arith
no_region a (inl c) (inr (inr (inl r))) = let x = c.1 in let y = r.0 in omega arith
no_region a (inl c) (inr (inr (inr r))) = let x = c.1 in let y = r.0 in omega arith
no_region a (inr (inl c)) (inl r) = let y = r.1 in omega arith
no_region a (inr (inl c)) (inr (inl r)) = let y = r.1 in omega arith
no_region a (inr (inl c)) (inr (inr (inl r))) = let y = r.1 in omega arith
no_region a (inr (inl c)) (inr (inr (inr r))) = let y = r.1 in omega arith
no_region a (inr (inr c)) (inl r) = let y = r.0 in omega arith
no_region a (inr (inr c)) (inr (inl r)) = let y = r.0 in omega arith
no_region a (inr (inr c)) (inr (inr (inl r))) = let y = r.0 in omega arith
no_region a (inr (inr c)) (inr (inr (inr r))) = let y = r.0 in omega arith

module _ (a : ℕ) (clear : ((0x78 ≤ a) × (a < 0x80)) ⊎ ((0x1f0 ≤ a) ⊎ (a < 0x20))) where
  apart : (address size : ℕ) → is_whole address size ≡ true → (b : Bool) → (nat_le address a && nat_lt a (address + size)) ≡ b → b ≡ false
  apart address size w true e =
      let x = split_and (nat_le address a) (nat_lt a (address + size)) e in
      absurd (no_region a clear (in_region address size a w (leb-true address a x.0) (ltb-true a (address + size) x.1)))
  apart address size w false e = refl

  off : (x : Bool) → (not x && false) ≡ false
  off true = refl
  off false = refl

  none_at : (rs : List Range) (i : ℕ) → ((n : ℕ) → n < length rs → is_whole (slice_index_or rs n no_range).address (slice_index_or rs n no_range).size ≡ true) → object_at rs i a ≡ None
  none_at [] i w = refl
  none_at (r ∷ rs) i w =
      let e : covers r a ≡ false = apart r.address r.size (w 0 (omega arith)) (covers r a) refl in
      ap (λ b. if not r.constant && b then Some (cells.Static i (a - r.address)) else object_at rs (i + 1) a) e
      ∙ ap (λ b. if b then Some (cells.Static i (a - r.address)) else object_at rs (i + 1) a) (off r.constant)
      ∙ none_at rs (i + 1) (λ n lt. w (suc n) (omega arith))

  covers_none : (rs : List Range) → ((n : ℕ) → n < length rs → is_whole (slice_index_or rs n no_range).address (slice_index_or rs n no_range).size ≡ true) → covers_any rs a ≡ false
  covers_none [] w = refl
  covers_none (r ∷ rs) w =
      ap (λ b. b || covers_any rs a) (apart r.address r.size (w 0 (omega arith)) (covers r a) refl) ∙ covers_none rs (λ n lt. w (suc n) (omega arith))

  frames_none : (fs : List FrameRange) → ((n : ℕ) → n < length fs → is_whole (slice_index_or fs n no_frame).address (slice_index_or fs n no_frame).size ≡ true) → frame_owner fs a ≡ Nobody
  frames_none [] w = refl
  frames_none (f ∷ fs) w =
      ap (λ b. if b then Of f.root else frame_owner fs a) (apart f.address f.size (w 0 (omega arith)) (nat_le f.address a && nat_lt a (f.address + f.size)) refl)
      ∙ frames_none fs (λ n lt. w (suc n) (omega arith))

-- what an access there shows
pub clear_cell : (reaches : ℕ → ℕ → Bool) (l : DataLayout) (a : ℕ) → IsLaidOut reaches l → ((0x78 ≤ a) × (a < 0x80)) ⊎ ((0x1f0 ≤ a) ⊎ (a < 0x20)) → object_at l.objects 0 a ≡ None
clear_cell reaches l a laid clear = none_at a clear l.objects 0 laid.objects

high : (a c d : ℕ) → 0x78 ≤ a → d ≤ 0x78 → (nat_le c a && nat_lt a d) ≡ false
high a c d ge le = by (nat_le c a) (nat_lt a d) refl where
  by : (x y : Bool) → nat_lt a d ≡ y → (x && y) ≡ false
  by true false e = refl
  by false y e = refl
  by true true e = let lt = ltb-true a d e in absurd (omega arith)

owner_none : (a : ℕ) → ((0x78 ≤ a) × (a < 0x80)) ⊎ ((0x1f0 ≤ a) ⊎ (a < 0x20)) → 0x78 ≤ a → (reaches : ℕ → ℕ → Bool) (l : DataLayout) → IsLaidOut reaches l → owner_by l a (object_at l.objects 0 a) ≡ Nobody
owner_none a clear ge reaches l laid =
    ap (owner_by l a) (none_at a clear l.objects 0 laid.objects)
    ∙ ap (λ b. if b then Constant else private_owner l a) (covers_none a clear l.objects laid.objects)
    ∙ ap (λ b. if b then Of Main else if nat_le 0x74 a && nat_lt a 0x78 then Of Isr else frame_owner l.frames a) (high a 0x70 0x74 ge (omega arith))
    ∙ ap (λ b. if b then Of Isr else frame_owner l.frames a) (high a 0x74 0x78 ge (omega arith))
    ∙ frames_none a clear l.frames laid.frames

-- the bytes of the saved context are nobody's
pub saved_nobody : (reaches : ℕ → ℕ → Bool) (l : DataLayout) (k : ℕ) → IsLaidOut reaches l → 0x58 ≤ k → k < 0x60 → owner l k ≡ Nobody
unfolding owner
saved_nobody reaches l k laid low high' =
    let e : chip.address_of k ≡ k + 0x20 = ap (λ b. if b then k + 0x20 else if nat_lt k 176 then k + 0x40 else if nat_lt k 272 then k + 0x60 else k + 0x80) (lt-ltb k 96 (omega arith)) in
    ap (λ a. owner_by l a (object_at l.objects 0 a)) e ∙ owner_none (k + 0x20) (inl (omega arith, omega arith)) (omega arith) reaches l laid

-- a number of somebody's is that of a byte that is there
pub somebodys_number : (reaches : ℕ → ℕ → Bool) (l : DataLayout) (k : ℕ) → IsLaidOut reaches l → owner l k ≢ Nobody → k < 368
unfolding owner
somebodys_number reaches l k laid ne = ⊎_elim (λ lt. lt) (λ ge. absurd (ne (far ge))) (cases_lt k 368) where
  far : 368 ≤ k → owner_by l (chip.address_of k) (object_at l.objects 0 (chip.address_of k)) ≡ Nobody
  far ge =
      let e : chip.address_of k ≡ k + 0x80 =
      ap (λ b. if b then k + 0x20 else if nat_lt k 176 then k + 0x40 else if nat_lt k 272 then k + 0x60 else k + 0x80) (le-ltb k 96 (omega arith))
      ∙ ap (λ b. if b then k + 0x40 else if nat_lt k 272 then k + 0x60 else k + 0x80) (le-ltb k 176 (omega arith))
      ∙ ap (λ b. if b then k + 0x60 else k + 0x80) (le-ltb k 272 (omega arith)) in
      ap (λ a. owner_by l a (object_at l.objects 0 a)) e ∙ owner_none (k + 0x80) (inr (inl (omega arith))) (omega arith) reaches l laid
