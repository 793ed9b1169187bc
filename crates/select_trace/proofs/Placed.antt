-- What a layout gives: where the bytes of objects, frames and results stand, that they are apart, and who may access them.
use Rattle.std.proofs.Common.{◌≡◌, ◌≢◌, ℕ, ◌+◌, ◌-◌, ◌<◌, ◌≤◌, Bool, true, false, not, ◌&&◌, nat_eq, nat_lt, nat_le, if◌then◌else◌, [], length, Some, None, slice_get, refl, sym, ap, ◌∙◌, arith}
use Rattle.std.proofs.lemmas.List.{get_or_past}
use Rattle.std.proofs.lemmas.Option.{get_or_from_slice_get, slice_get_within, slice_get-get_or}
use Rattle.pic_chip.specs.Address as chip
use Rattle.pic_chip.specs.Run.{Range, covers, object_at}
use Rattle.pic_world.specs.Roots.{same_root}
use Rattle.pic_world.specs.declared.Cell.TheVariants as cells
use Rattle.pic_world.specs.declared.Root.{Root}
use Rattle.pic_world.specs.declared.Root.TheVariants.{Main, Isr}
use Rattle.core_code.specs.Machine.{Program, static_bytes}
use Rattle.core_code.specs.declared.code.Byte.{Byte}
use Rattle.core_code.specs.declared.code.Byte.TheVariants.{Static, Frame, Result, Device}
use Rattle.sym_code.specs.Layout.{DataLayout, FrameRange, no_range, no_frame, object, frame, result_address, address_of, general_at, Watched, Constant, Of, covers_any, frame_owner, private_owner, owner_by, owner, may_meet, IsLaidOut, IsOf}
use Rattle.select_trace.proofs.Truths.{and_left, and_right, both, or_left, lt_of, of_lt, le_of, of_le, same_nat, true_false, if_true, if_false, and_false_right}
use Rattle.select_trace.proofs.Slots.{within, is_good, slot_at, range_in, good_slot, whole_good, whole_plain, result_good}
use Rattle.select_trace.proofs.Owners.{shows, object_none, object_some, covers_none, covers_some, holds, frame_some, apart_at, outside}

-- the number of the general byte where a byte stands
abbrev pub slot : DataLayout → Byte → ℕ
slot l b = slot_at (address_of l b)

pub other_root : (a b : Root) → same_root a b ≡ false → a ≢ b
other_root Main Main e q = absurd (cc)
other_root Main Isr e q = absurd (cc)
other_root Isr Main e q = absurd (cc)
other_root Isr Isr e q = absurd (cc)

pub same_roots : (a b : Root) → same_root a b ≡ true → a ≡ b
same_roots Main Main e = refl
same_roots Main Isr e = absurd (cc)
same_roots Isr Main e = absurd (cc)
same_roots Isr Isr e = refl

pub root_self : (a : Root) → same_root a a ≡ true
root_self Main = refl
root_self Isr = refl

module _ (q : Program) (copies : ℕ) (reaches : ℕ → ℕ → Bool) (l : DataLayout) (of : IsOf q.first q.is_watched copies q.frame_bytes q.root l) (out : IsLaidOut reaches l) where
  -- a byte that stands somewhere
  abbrev pub IsThere : Byte → Type 0
  IsThere (Static n k) = k < static_bytes q n
  IsThere (Frame c k) = (c < copies) × (k < (frame l c).size)
  IsThere (Result r k) = k < 4
  IsThere (Device a) = ⊥

  pub object_in : (n k : ℕ) → k < static_bytes q n → n < length q.first
  object_in n k lt = by_test (nat_lt n (length q.first)) refl
    where
      by_test : (b : Bool) → nat_lt n (length q.first) ≡ b → n < length q.first
      by_test true e = lt_of n (length q.first) e
      by_test false e =
          let past : length q.first ≤ n = not_lt n (length q.first) e in
          let none : static_bytes q n ≡ 0 = ap length (get_or_past q.first n [] past) in
          absurd (omega (arith, lt, none))
        where
          not_lt : (a b : ℕ) → nat_lt a b ≡ false → b ≤ a
          not_lt a b e = by_le (nat_le b a) refl
            where
              by_le : (t : Bool) → nat_le b a ≡ t → b ≤ a
              by_le true f = le_of b a f
              by_le false f = absurd (true_false (nat_lt a b) (of_lt a b (above f)) e)
                where
                  above : nat_le b a ≡ false → a < b
                  above f = grind arith

  pub is_object : (n k : ℕ) → k < static_bytes q n → (n < length l.objects) × (k < (object l n).size)
  is_object n k lt =
      let h = object_in n k lt in
      let o = of.objects in
      let s = of.sizes n h in
      (omega (arith, h, o), omega (arith, s, lt))

  is_frame : (c : ℕ) → c < copies → c < length l.frames
  is_frame c lt = let f = of.frames in omega (arith, f, lt)

  -- ---- addresses
  pub good : (b : Byte) → IsThere b → is_good (address_of l b) ≡ true
  unfolding address_of
  good (Static n k) h = let i = is_object n k h in let w = out.objects n i.0 in let z = i.1 in whole_good (object l n).address (object l n).size ((object l n).address + k) w (omega arith) (omega arith)
  good (Frame c k) h = let w = out.frames c (is_frame c h.0) in let z = h.1 in whole_good (frame l c).address (frame l c).size ((frame l c).address + k) w (omega arith) (omega arith)
  good (Result r k) h = result_good r k h
  good (Device a) h = absurd h

  pub stands_in : (b : Byte) → IsThere b → general_at (address_of l b) ≡ Some (slot l b)
  stands_in b h = (good_slot (address_of l b) (good b h)).0

  back : (b : Byte) → IsThere b → chip.address_of (slot l b) ≡ address_of l b
  back b h = (good_slot (address_of l b) (good b h)).1

  same_address : (b c : Byte) → IsThere b → IsThere c → slot l b ≡ slot l c → address_of l b ≡ address_of l c
  same_address b c h k e = sym (back b h) ∙ ap chip.address_of e ∙ back c k

  -- ---- two bytes at one place
  pub statics : (n k m j : ℕ) → k < static_bytes q n → j < static_bytes q m → slot l (Static n k) ≡ slot l (Static m j) → (n ≡ m) × (k ≡ j)
  unfolding address_of
  statics n k m j h i e = by_test (nat_eq n m) refl
    where
      same : (object l n).address + k ≡ (object l m).address + j
      same = same_address (Static n k) (Static m j) h i e

      by_test : (b : Bool) → nat_eq n m ≡ b → (n ≡ m) × (k ≡ j)
      by_test true t =
          let z = same_nat n m t in
          let s : (object l n).address + k ≡ (object l n).address + j = same ∙ ap (λ x. (object l x).address + j) (sym z) in
          (z, omega (arith, s))
      by_test false t =
          let x = is_object n k h in
          let y = is_object m j i in
          let x1 = x.1 in
          let y1 = y.1 in
          let ne : n ≢ m = (λ z. true_false (nat_eq n m) (grind (arith, z)) t) in
          absurd (apart_at (object l n).address (object l n).size (object l m).address (object l m).size ((object l n).address + k) (out.objects_apart n m x.0 y.0 ne) (omega arith) (omega arith) (let s = same in omega (arith, s)) (let s = same in omega (arith, s, y1)))

  pub static_frame : (n k c j : ℕ) → k < static_bytes q n → c < copies → j < (frame l c).size → slot l (Static n k) ≢ slot l (Frame c j)
  unfolding address_of
  static_frame n k c j h i t e =
      let s : (object l n).address + k ≡ (frame l c).address + j = same_address (Static n k) (Frame c j) h (i, t) e in
      let x = is_object n k h in
      let x1 = x.1 in
      apart_at (object l n).address (object l n).size (frame l c).address (frame l c).size ((object l n).address + k) (out.frames_clear n c x.0 (is_frame c i)) (omega arith) (omega arith) (omega (arith, s)) (omega (arith, s, t))

  pub frames : (c j d k : ℕ) → c < copies → d < copies → c ≢ d → may_meet l reaches c d ≡ true → j < (frame l c).size → k < (frame l d).size → slot l (Frame c j) ≢ slot l (Frame d k)
  unfolding address_of
  frames c j d k h i ne meet x y e =
      let s : (frame l c).address + j ≡ (frame l d).address + k = same_address (Frame c j) (Frame d k) (h, x) (i, y) e in
      apart_at (frame l c).address (frame l c).size (frame l d).address (frame l d).size ((frame l c).address + j) (out.frames_apart c d (is_frame c h) (is_frame d i) ne meet) (omega arith) (omega arith) (omega (arith, s)) (omega (arith, s, y))

  pub in_frame : (c j k : ℕ) → c < copies → j < (frame l c).size → k < (frame l c).size → slot l (Frame c j) ≡ slot l (Frame c k) → j ≡ k
  unfolding address_of
  in_frame c j k h x y e = let s : (frame l c).address + j ≡ (frame l c).address + k = same_address (Frame c j) (Frame c k) (h, x) (h, y) e in omega (arith, s)

  result_place : (r s : Root) (j k : ℕ) → j < 4 → k < 4 → result_address r + j ≡ result_address s + k → (r ≡ s) × (j ≡ k)
  result_place Main Main j k x y e = (refl, omega (arith, e))
  result_place Isr Isr j k x y e = (refl, omega (arith, e))
  result_place Main Isr j k x y e = absurd (omega (arith, x, y, e))
  result_place Isr Main j k x y e = absurd (omega (arith, x, y, e))

  result_within : (r : Root) (j : ℕ) → j < 4 → within 0x70 0x78 (result_address r + j) ≡ true
  result_within Main j x = range_in 0x70 0x78 (0x70 + j) (omega arith) (omega arith)
  result_within Isr j x = range_in 0x70 0x78 (0x74 + j) (omega arith) (omega arith)

  pub results : (r s : Root) (j k : ℕ) → j < 4 → k < 4 → slot l (Result r j) ≡ slot l (Result s k) → (r ≡ s) × (j ≡ k)
  unfolding address_of
  results r s j k x y e = result_place r s j k x y (same_address (Result r j) (Result s k) x y e)

  pub result_static : (r : Root) (j n k : ℕ) → j < 4 → k < static_bytes q n → slot l (Result r j) ≢ slot l (Static n k)
  unfolding address_of
  result_static r j n k x h e =
      let s : result_address r + j ≡ (object l n).address + k = same_address (Result r j) (Static n k) x h e in
      let i = is_object n k h in
      let z = i.1 in
      true_false (within 0x70 0x78 (result_address r + j)) (result_within r j x)
      (ap (within 0x70 0x78) s ∙ whole_plain (object l n).address (object l n).size ((object l n).address + k) (out.objects n i.0) (omega arith) (omega arith))

  pub result_frame : (r : Root) (j c k : ℕ) → j < 4 → c < copies → k < (frame l c).size → slot l (Result r j) ≢ slot l (Frame c k)
  unfolding address_of
  result_frame r j c k x h y e =
      let s : result_address r + j ≡ (frame l c).address + k = same_address (Result r j) (Frame c k) x (h, y) e in
      true_false (within 0x70 0x78 (result_address r + j)) (result_within r j x)
      (ap (within 0x70 0x78) s ∙ whole_plain (frame l c).address (frame l c).size ((frame l c).address + k) (out.frames c (is_frame c h)) (omega arith) (omega arith))

  -- ---- owners
  range_of : (k : ℕ) (r : Range) → slice_get l.objects k ≡ Some r → (object l k ≡ r) × (k < length l.objects)
  range_of k r e = (get_or_from_slice_get l.objects k r no_range e, slice_get_within l.objects k r e)

  frame_of : (k : ℕ) (r : FrameRange) → slice_get l.frames k ≡ Some r → (frame l k ≡ r) × (k < length l.frames)
  frame_of k r e = (get_or_from_slice_get l.frames k r no_frame e, slice_get_within l.frames k r e)

  covers_other : (a n k : ℕ) (r : Range) → n < length l.objects → covers (object l n) a ≡ true → slice_get l.objects k ≡ Some r → k ≢ n → covers r a ≡ false
  covers_other a n k r lt c e ne =
      let x = range_of k r e in
      let o = object l n in
      ap (λ (z : Range). covers z a) (sym x.0)
      ∙ outside (object l k).address (object l k).size a (λ u v. apart_at (object l k).address (object l k).size o.address o.size a (out.objects_apart k n x.1 lt ne) u v (le_of o.address a (and_left _ _ c)) (lt_of a (o.address + o.size) (and_right (nat_le o.address a) _ c)))

  pub watched : (n k : ℕ) → k < static_bytes q n → q.is_watched n ≡ true → owner l (slot l (Static n k)) ≡ Watched (cells.Static n k)
  unfolding owner address_of
  watched n k h w =
      let a = address_of l (Static n k) in
      let i = is_object n k h in
      let i1 = i.1 in
      let o = object l n in
      let c : covers o (o.address + k) ≡ true = both _ _ (of_le o.address (o.address + k) (omega arith)) (of_lt (o.address + k) (o.address + o.size) (omega arith)) in
      let v : o.constant ≡ false = of.constants n (object_in n k h) ∙ ap not w in
      let s : shows o (o.address + k) ≡ true = both (not o.constant) (covers o (o.address + k)) (ap not v) c in
      ap (λ x. owner_by l x (object_at l.objects 0 x)) (back (Static n k) h)
      ∙ ap (owner_by l a) (object_some l.objects 0 n (o.address + k) o (slice_get-get_or l.objects n no_range i.0) s (λ m r e ne. and_false_right (not r.constant) (covers r (o.address + k)) (covers_other (o.address + k) n m r i.0 c e ne)))
      ∙ ap Watched (cell 0 n (o.address + k - o.address) k (omega arith))
    where
      cell : (z n j k : ℕ) → j ≡ k → cells.Static (0 + n) j ≡ cells.Static n k
      cell z n j k e = ap (λ x. cells.Static x j) (let u : 0 + n ≡ n = omega arith in u) ∙ ap (cells.Static n) e

  pub constant : (n k : ℕ) → k < static_bytes q n → q.is_watched n ≡ false → owner l (slot l (Static n k)) ≡ Constant
  unfolding owner address_of
  constant n k h w =
      let a = address_of l (Static n k) in
      let i = is_object n k h in
      let i1 = i.1 in
      let o = object l n in
      let x = o.address + k in
      let c : covers o x ≡ true = both _ _ (of_le o.address x (omega arith)) (of_lt x (o.address + o.size) (omega arith)) in
      let v : o.constant ≡ true = of.constants n (object_in n k h) ∙ ap not w in
      let none : object_at l.objects 0 x ≡ None = object_none l.objects 0 x (λ m r e. hidden m r e v c i.0) in
      ap (λ y. owner_by l y (object_at l.objects 0 y)) (back (Static n k) h)
      ∙ ap (owner_by l a) none
      ∙ if_true (covers_any l.objects x) Constant (private_owner l x) (covers_some l.objects x n o (slice_get-get_or l.objects n no_range i.0) c)
    where
      hidden : (m : ℕ) (r : Range) → slice_get l.objects m ≡ Some r → (object l n).constant ≡ true → covers (object l n) ((object l n).address + k) ≡ true → n < length l.objects → shows r ((object l n).address + k) ≡ false
      hidden m r e v c lt = by_test (nat_eq m n) refl
        where
          by_test : (b : Bool) → nat_eq m n ≡ b → shows r ((object l n).address + k) ≡ false
          by_test true t =
              let z : object l n ≡ r = ap (object l) (sym (same_nat m n t)) ∙ (range_of m r e).0 in
              ap (λ b. not b && covers r ((object l n).address + k)) (ap (λ (y : Range). y.constant) (sym z) ∙ v)
          by_test false t = and_false_right (not r.constant) (covers r ((object l n).address + k)) (covers_other ((object l n).address + k) n m r lt c e (λ z. true_false (nat_eq m n) (grind (arith, z)) t))

  no_object : (a : ℕ) → ((n : ℕ) → n < length l.objects → (object l n).address ≤ a → a < (object l n).address + (object l n).size → ⊥) → (object_at l.objects 0 a ≡ None) × (covers_any l.objects a ≡ false)
  no_object a h =
      let c : (m : ℕ) (r : Range) → slice_get l.objects m ≡ Some r → covers r a ≡ false = (λ m r e. let x = range_of m r e in
      ap (λ (z : Range). covers z a) (sym x.0) ∙ outside (object l m).address (object l m).size a (h m x.1)) in
      (object_none l.objects 0 a (λ m r e. and_false_right (not r.constant) (covers r a) (c m r e)), covers_none l.objects a c)

  private_by : (k a : ℕ) → chip.address_of k ≡ a → (object_at l.objects 0 a ≡ None) × (covers_any l.objects a ≡ false) → owner l k ≡ private_owner l a
  unfolding owner
  private_by k a e h = ap (λ y. owner_by l y (object_at l.objects 0 y)) e ∙ ap (owner_by l a) h.0 ∙ if_false (covers_any l.objects a) Constant (private_owner l a) h.1

  pub frames_own : (c k : ℕ) → c < copies → k < (frame l c).size → owner l (slot l (Frame c k)) ≡ Of (q.root c)
  unfolding address_of
  frames_own c k h x =
      let f = frame l c in
      let a = f.address + k in
      let cl = is_frame c h in
      let none = no_object a (λ n i u v. apart_at (object l n).address (object l n).size f.address f.size a (out.frames_clear n c i cl) u v (omega arith) (omega arith)) in
      let plain = whole_plain f.address f.size a (out.frames c cl) (omega arith) (omega arith) in
      private_by (slot l (Frame c k)) a (back (Frame c k) (h, x)) none
      ∙ beyond a plain
      ∙ frame_some l.frames a c f (slice_get-get_or l.frames c no_frame cl) (both _ _ (of_le f.address a (omega arith)) (of_lt a (f.address + f.size) (omega arith))) (λ m s e t. one_root m s e t cl x)
      ∙ ap Of (of.roots c h)
    where
      beyond : (a : ℕ) → within 0x70 0x78 a ≡ false → private_owner l a ≡ frame_owner l.frames a
      beyond a p =
          if_false (nat_le 0x70 a && nat_lt a 0x74) (Of Main) (if nat_le 0x74 a && nat_lt a 0x78 then Of Isr else frame_owner l.frames a) (outside 0x70 4 a (λ u v. true_false (within 0x70 0x78 a) (range_in 0x70 0x78 a u (omega arith)) p))
          ∙ if_false (nat_le 0x74 a && nat_lt a 0x78) (Of Isr) (frame_owner l.frames a) (outside 0x74 4 a (λ u v. true_false (within 0x70 0x78 a) (range_in 0x70 0x78 a (omega arith) v) p))

      one_root : (m : ℕ) (s : FrameRange) → slice_get l.frames m ≡ Some s → holds s ((frame l c).address + k) ≡ true → c < length l.frames → k < (frame l c).size → s.root ≡ (frame l c).root
      one_root m s e t cl x =
          let y = frame_of m s e in
          let t' : holds (frame l m) ((frame l c).address + k) ≡ true = ap (λ (z : FrameRange). holds z ((frame l c).address + k)) y.0 ∙ t in
          ap (λ (z : FrameRange). z.root) (sym y.0) ∙ by_test (nat_eq m c) refl (same_root (frame l m).root (frame l c).root) refl y.1 (le_of _ _ (and_left _ _ t')) (lt_of _ _ (and_right (nat_le (frame l m).address ((frame l c).address + k)) _ t'))
        where
          by_test : (b : Bool) → nat_eq m c ≡ b → (d : Bool) → same_root (frame l m).root (frame l c).root ≡ d → m < length l.frames → (frame l m).address ≤ (frame l c).address + k → (frame l c).address + k < (frame l m).address + (frame l m).size → (frame l m).root ≡ (frame l c).root
          by_test true u d v w i j = ap (λ z. (frame l z).root) (same_nat m c u)
          by_test false u true v w i j = same_roots (frame l m).root (frame l c).root v
          by_test false u false v w i j =
              absurd (apart_at (frame l m).address (frame l m).size (frame l c).address (frame l c).size ((frame l c).address + k)
              (out.frames_apart m c w cl (λ z. true_false (nat_eq m c) (grind (arith, z)) u) (or_left _ _ (or_left _ _ (ap not v)))) i j (omega arith) (omega arith))

  pub results_own : (r : Root) (k : ℕ) → k < 4 → owner l (slot l (Result r k)) ≡ Of r
  unfolding address_of
  results_own r k x =
      let a = result_address r + k in
      private_by (slot l (Result r k)) a (back (Result r k) x) (no_object a (λ n i u v. true_false (within 0x70 0x78 a) (result_within r k x) (whole_plain (object l n).address (object l n).size a (out.objects n i) u v)))
      ∙ by_root r
    where
      by_root : (r : Root) → private_owner l (result_address r + k) ≡ Of r
      by_root Main = if_true (nat_le 0x70 (0x70 + k) && nat_lt (0x70 + k) 0x74) (Of Main) (if nat_le 0x74 (0x70 + k) && nat_lt (0x70 + k) 0x78 then Of Isr else frame_owner l.frames (0x70 + k)) (range_in 0x70 0x74 (0x70 + k) (omega arith) (omega arith))
      by_root Isr =
          if_false (nat_le 0x70 (0x74 + k) && nat_lt (0x74 + k) 0x74) (Of Main) (if nat_le 0x74 (0x74 + k) && nat_lt (0x74 + k) 0x78 then Of Isr else frame_owner l.frames (0x74 + k)) (outside 0x70 4 (0x74 + k) (λ u v. omega (arith, v)))
          ∙ if_true (nat_le 0x74 (0x74 + k) && nat_lt (0x74 + k) 0x78) (Of Isr) (frame_owner l.frames (0x74 + k)) (range_in 0x74 0x78 (0x74 + k) (omega arith) (omega arith))
