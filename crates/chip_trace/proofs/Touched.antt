-- An instruction that isn't stuck touches what it may.
use Rattle.std.proofs.Common.{◌≡◌, ℕ, zero, suc, ◌+◌, ◌*◌, ◌/◌, ◌%◌, ◌<◌, ◌≤◌, ◌⊎◌, inl, inr, Bool, true, false, List, [], ◌∷◌, Option, Some, None, refl, sym, ap, ◌∙◌, subst, ⊎_elim, arith}
use Rattle.std.specs.Prelude.{◌-◌, not, ◌&&◌, ◌||◌, nat_eq, nat_lt, nat_le, if◌then◌else◌, length, slice_index_or}
use Rattle.std.proofs.lemmas.Bool.{agree_below, agree_below_at, leb-true, ltb-true, eqb-true, lt-ltb, le-leb}
use Rattle.pic_isa.specs.declared.Ins.{Ins}
use Rattle.pic_isa.specs.declared.Ins.TheVariants as isa
use Rattle.pic_chip.specs.Act.{Act, effect}
use Rattle.pic_chip.specs.Address as chip
use Rattle.pic_chip.specs.Address.{Place, Status, Pclath, Fsr, General, operand}
use Rattle.pic_chip.specs.Run.{Range, covers, object_at}
use Rattle.pic_chip.specs.State.{State}
use Rattle.pic_world.specs.Registers.{is_register, lowest}
use Rattle.pic_world.specs.declared.Cell.{Cell}
use Rattle.pic_world.specs.declared.Cell.TheVariants as cells
use Rattle.sym_code.specs.Effect.{Setting, Memory, Thread, Access, Pointer, Event, Silent, Denied, Port, Shared, Effect, Stuck, general_access, pointed_access, access_of, access_by, is_selected, file_to_w, file_to_file, store, change, test, file_bit, bits, literal_value, effect_of}
use Rattle.sym_code.specs.Layout.{DataLayout, FrameRange, IsLaidOut, is_whole, lies_in, no_range, no_frame, object, general_at, covers_any, covers_frame, is_covered, Owner, Watched, Constant, Of, Nobody, frame_owner, private_owner, owner_by, owner, general_in, address_of}
use Rattle.sym_code.specs.Registers.{Registers, pointer}
use Rattle.core_code.specs.declared.code.Byte.TheVariants as bytes
use Rattle.sym_code.specs.declared.code.Operand.{Operand}
use Rattle.sym_code.specs.declared.code.Operand.TheVariants as operands
use Rattle.sym_code.specs.declared.code.Register.TheVariants as registers
use Rattle.pic_world.specs.declared.Root.TheVariants.{Main, Isr}
use Rattle.chip_trace.proofs.Relations.{Sees, low_of, Ground, Means, page_row}
use Rattle.chip_trace.proofs.Sound.{both}
use Rattle.chip_trace.proofs.Effects.{IsAccess, access_sound, reads_silently}
use Rattle.chip_trace.proofs.Operands.{place_for, is_allowed, leads_to}
use Rattle.pic_world.specs.Bits.{bit, set_bit, clear_bit}
use Rattle.code_place.specs.Instructions.{file_row, bit_row, literal_row, plain_row, bank_row, bit_set}
use Rattle.sym_code.specs.Programs.{Program, Position, block_of, fetched, is_word}
use Rattle.chip_trace.proofs.Addresses.{port}
use Rattle.sym_code.specs.Touching.{is_file}
use Rattle.sym_code.specs.declared.code.BankBit.{BankBit}
use Rattle.sym_code.specs.declared.code.BankBit.TheVariants.{Rp0, Rp1, Irp}
use Rattle.sym_code.specs.declared.code.BitOperation.{BitOperation}
use Rattle.sym_code.specs.declared.code.BitOperation.TheVariants.{Bcf, Bsf, Btfsc, Btfss}
use Rattle.sym_code.specs.declared.code.FileOperation.{FileOperation}
use Rattle.sym_code.specs.declared.code.FileOperation.TheVariants as file
use Rattle.sym_code.specs.declared.code.Into.TheVariants as into
use Rattle.sym_code.specs.declared.code.LiteralOperation.{LiteralOperation}
use Rattle.sym_code.specs.declared.code.LiteralOperation.TheVariants.{Addlw, Andlw, Iorlw, Movlw, Retlw, Sublw, Xorlw}
use Rattle.sym_code.specs.declared.code.PageBit.{PageBit}
use Rattle.sym_code.specs.declared.code.PageBit.TheVariants.{Low, High}
use Rattle.sym_code.specs.declared.code.PlainOperation.{PlainOperation}
use Rattle.sym_code.specs.declared.code.PlainOperation.TheVariants.{Clrw, Nop, Retfie, Return}
use Rattle.sym_code.specs.declared.code.Sym.{Sym}
use Rattle.sym_code.specs.declared.code.Sym.TheVariants as syms
use Rattle.chip_trace.specs.Keeping.{file_of, device_in, IsNamed, IsTouched, Touches}

-- ---- owners
shown_covered : (rs : List Range) (i a : ℕ) (cell : Cell) → object_at rs i a ≡ Some cell → covers_any rs a ≡ true
shown_covered [] i a cell e = absurd (cc)
shown_covered (r ∷ rs) i a cell e = by (not r.constant) (covers r a) e (shown_covered rs (i + 1) a cell) where
  by : (c b : Bool) → (if c && b then Some (cells.Static i (a - r.address)) else object_at rs (i + 1) a) ≡ Some cell → (object_at rs (i + 1) a ≡ Some cell → covers_any rs a ≡ true) → (b || covers_any rs a) ≡ true
  by c true f more = refl
  by true false f more = more f
  by false false f more = more f

framed_covered : (fs : List FrameRange) (a : ℕ) → frame_owner fs a ≡ Nobody ⊎ (covers_frame fs a ≡ true)
framed_covered [] a = inl refl
framed_covered (f ∷ fs) a = by (nat_le f.address a && nat_lt a (f.address + f.size)) (framed_covered fs a) where
  by : (b : Bool) → (frame_owner fs a ≡ Nobody) ⊎ (covers_frame fs a ≡ true) → ((if b then Of f.root else frame_owner fs a) ≡ Nobody) ⊎ ((b || covers_frame fs a) ≡ true)
  by true more = inr refl
  by false more = more

or_right : (a b : Bool) → b ≡ true → (a || b) ≡ true
or_right true b e = refl
or_right false b e = e

or_left : (a b : Bool) → a ≡ true → (a || b) ≡ true
or_left true b e = refl
or_left false b e = absurd (cc)

both_true : (a b : Bool) → (a && b) ≡ true → (a ≡ true) × (b ≡ true)
both_true true b e = (refl, e)
both_true false b e = absurd (cc)

-- a byte that somebody has is one of an object, of a frame, or a result
pub somebodys : (l : DataLayout) (k : ℕ) → (owner l k ≡ Nobody → ⊥) → (is_covered l (chip.address_of k) ≡ true) ⊎ ((0x70 ≤ chip.address_of k) × (chip.address_of k < 0x78))
unfolding owner is_covered
somebodys l k has = by (object_at l.objects 0 (chip.address_of k)) refl has where
  private : (b c : Bool) → (nat_le 0x70 (chip.address_of k) && nat_lt (chip.address_of k) 0x74) ≡ b → (nat_le 0x74 (chip.address_of k) && nat_lt (chip.address_of k) 0x78) ≡ c
      → ((if b then Of Main else if c then Of Isr else frame_owner l.frames (chip.address_of k)) ≡ Nobody → ⊥)
      → ((covers_any l.objects (chip.address_of k) || covers_frame l.frames (chip.address_of k)) ≡ true) ⊎ ((0x70 ≤ chip.address_of k) × (chip.address_of k < 0x78))
  private true c e f h = let q = both_true _ _ e in let x = leb-true 0x70 (chip.address_of k) q.0 in let y = ltb-true (chip.address_of k) 0x74 q.1 in inr (x, omega (arith, y))
  private false true e f h = let q = both_true _ _ f in let x = leb-true 0x74 (chip.address_of k) q.0 in let y = ltb-true (chip.address_of k) 0x78 q.1 in inr (omega (arith, x), y)
  private false false e f h = ⊎_elim (λ n. absurd (h n)) (λ c. inl (or_right (covers_any l.objects (chip.address_of k)) _ c)) (framed_covered l.frames (chip.address_of k))

  constant : (b : Bool) → covers_any l.objects (chip.address_of k) ≡ b → ((if b then Constant else private_owner l (chip.address_of k)) ≡ Nobody → ⊥)
      → ((covers_any l.objects (chip.address_of k) || covers_frame l.frames (chip.address_of k)) ≡ true) ⊎ ((0x70 ≤ chip.address_of k) × (chip.address_of k < 0x78))
  constant true e h = inl (or_left _ _ e)
  constant false e h = private (nat_le 0x70 (chip.address_of k) && nat_lt (chip.address_of k) 0x74) (nat_le 0x74 (chip.address_of k) && nat_lt (chip.address_of k) 0x78) refl refl h

  by : (o : Option Cell) → object_at l.objects 0 (chip.address_of k) ≡ o → (owner_by l (chip.address_of k) o ≡ Nobody → ⊥)
      → ((covers_any l.objects (chip.address_of k) || covers_frame l.frames (chip.address_of k)) ≡ true) ⊎ ((0x70 ≤ chip.address_of k) × (chip.address_of k < 0x78))
  by (Some cell) e h = inl (or_left _ _ (shown_covered l.objects 0 (chip.address_of k) cell e))
  by None e h = constant (covers_any l.objects (chip.address_of k)) refl h

-- ---- what lies in a region
module _ (a : ℕ) where
  -- an address of a region, whose low seven bits are below 70h
  InRegion : Type 0
  InRegion = (a < 512) × (a % 128 < 0x70)

  in_one : (first behind address size : ℕ) → (behind ≤ 512) → ((b : ℕ) → first ≤ b → b < behind → b % 128 < 0x70) → (nat_le first address && nat_le (address + size) behind) ≡ true → (nat_le address a && nat_lt a (address + size)) ≡ true → InRegion
  unfolding InRegion
  in_one first behind address size top low e c =
      let p = both_true _ _ e in let q = both_true _ _ c in
      let x1 = leb-true first address p.0 in let x2 = leb-true (address + size) behind p.1 in let x3 = leb-true address a q.0 in let x4 = ltb-true a (address + size) q.1 in
      (omega (arith, x2, x4, top), low a (omega (arith, x1, x3)) (omega (arith, x2, x4)))

  in_whole : (address size : ℕ) → is_whole address size ≡ true → (nat_le address a && nat_lt a (address + size)) ≡ true → InRegion
  in_whole address size e c =
      by (lies_in 0x20 0x70 address size) (lies_in 0xa0 0xf0 address size) (lies_in 0x110 0x170 address size) (lies_in 0x190 0x1f0 address size) refl refl refl refl e where
        by : (p q r s : Bool) → lies_in 0x20 0x70 address size ≡ p → lies_in 0xa0 0xf0 address size ≡ q → lies_in 0x110 0x170 address size ≡ r → lies_in 0x190 0x1f0 address size ≡ s → (p || q || r || s) ≡ true → InRegion
        by true q r s e1 e2 e3 e4 h = in_one 0x20 0x70 address size (omega arith) (λ b l u. omega (arith, l, u)) e1 c
        by false true r s e1 e2 e3 e4 h = in_one 0xa0 0xf0 address size (omega arith) (λ b l u. omega (arith, l, u)) e2 c
        by false false true s e1 e2 e3 e4 h = in_one 0x110 0x170 address size (omega arith) (λ b l u. omega (arith, l, u)) e3 c
        by false false false true e1 e2 e3 e4 h = in_one 0x190 0x1f0 address size (omega arith) (λ b l u. omega (arith, l, u)) e4 c
        by false false false false e1 e2 e3 e4 h = absurd (cc)

  in_objects : (rs : List Range) → ((n : ℕ) → n < length rs → is_whole (slice_index_or rs n no_range).address (slice_index_or rs n no_range).size ≡ true) → covers_any rs a ≡ true → InRegion
  in_objects [] whole e = absurd (cc)
  in_objects (r ∷ rs) whole e = by (covers r a) refl e (in_objects rs (λ n lt. whole (suc n) (omega (arith, lt)))) where
    by : (b : Bool) → covers r a ≡ b → (b || covers_any rs a) ≡ true → (covers_any rs a ≡ true → InRegion) → InRegion
    by true f h more = in_whole r.address r.size (whole 0 (omega arith)) f
    by false f h more = more h

  in_frames : (fs : List FrameRange) → ((n : ℕ) → n < length fs → is_whole (slice_index_or fs n no_frame).address (slice_index_or fs n no_frame).size ≡ true) → covers_frame fs a ≡ true → InRegion
  in_frames [] whole e = absurd (cc)
  in_frames (r ∷ rs) whole e = by (nat_le r.address a && nat_lt a (r.address + r.size)) refl e (in_frames rs (λ n lt. whole (suc n) (omega (arith, lt)))) where
    by : (b : Bool) → (nat_le r.address a && nat_lt a (r.address + r.size)) ≡ b → (b || covers_frame rs a) ≡ true → (covers_frame rs a ≡ true → InRegion) → InRegion
    by true f h more = in_whole r.address r.size (whole 0 (omega arith)) f
    by false f h more = more h

  pub covered_low : (reaches : ℕ → ℕ → Bool) (l : DataLayout) → IsLaidOut reaches l → is_covered l a ≡ true → (a < 512) × (a % 128 < 0x70)
  unfolding is_covered InRegion
  covered_low reaches l laid e = by (covers_any l.objects a) refl e where
    by : (b : Bool) → covers_any l.objects a ≡ b → (b || covers_frame l.frames a) ≡ true → (a < 512) × (a % 128 < 0x70)
    by true f h = in_objects l.objects laid.objects f
    by false f h = in_frames l.frames laid.frames h

-- there a byte's number leads back
is_back : ℕ → Option ℕ → Bool
is_back a None = true
is_back a (Some k) = nat_eq (chip.address_of k) a

back_test : ℕ → Bool
back_test a = nat_le 0x70 (a % 128) || is_back a (general_at a)

back_all : agree_below back_test (λ a. true) 512 ≡ true
unfolding back_test is_back general_at
back_all = refl

address_back : (a k : ℕ) → a < 512 → a % 128 < 0x70 → general_at a ≡ Some k → chip.address_of k ≡ a
unfolding back_test is_back
address_back a k lt low e = eqb-true (chip.address_of k) a (back (general_at a) e (or_right' (nat_le 0x70 (a % 128)) _ (agree_below_at back_test (λ n. true) 512 a back_all lt) (leb_false (a % 128) low))) where
  back : (o : Option ℕ) → o ≡ Some k → is_back a o ≡ true → nat_eq (chip.address_of k) a ≡ true
  back (Some j) q h = subst (λ z. nat_eq (chip.address_of z) a ≡ true) (same j k q) h where
    same : (x y : ℕ) → Some x ≡ Some y → x ≡ y
    same x y z = cc
  back None q h = absurd (cc)

  leb_false : (x : ℕ) → x < 0x70 → nat_le 0x70 x ≡ false
  leb_false x l = by (nat_le 0x70 x) refl where
    by : (b : Bool) → nat_le 0x70 x ≡ b → nat_le 0x70 x ≡ false
    by true f = absurd (let z = leb-true 0x70 x f in omega (arith, z, l))
    by false f = f

  or_right' : (p q : Bool) → (p || q) ≡ true → p ≡ false → q ≡ true
  or_right' true q h f = absurd (cc)
  or_right' false q h f = h

-- ---- operands
silent_has : (i : Bool) (o : Owner) → reads_silently i o ≡ true → o ≡ Nobody → ⊥
silent_has true o h e = let z : reads_silently true Nobody ≡ true = ap (reads_silently true) (sym e) ∙ h in absurd (cc)
silent_has false o h e = let z : reads_silently false Nobody ≡ true = ap (reads_silently false) (sym e) ∙ h in absurd (cc)

watched_has : (o : Owner) (cell : Cell) → o ≡ Watched cell → o ≡ Nobody → ⊥
watched_has o cell e f = let z : Watched cell ≡ Nobody = sym e ∙ f in absurd (cc)

-- the byte of an access has an owner
access_has : (l : DataLayout) (i w : Bool) (y : Access) (k : ℕ) → IsAccess l i w y → is_allowed y ≡ true → place_for y ≡ General k → owner l k ≡ Nobody → ⊥
access_has l i w Pointer k a al e = absurd (cc)
access_has l i w (Event (Port p)) k a al e = ports (nat_eq p 0x0b) (nat_eq p 0x0c) (nat_eq p 0x8c) e where
  ports : (x y z : Bool) → (if x then chip.Intcon else if y then chip.Pir1 else if z then chip.Pie1 else chip.Device p) ≡ General k → owner l k ≡ Nobody → ⊥
  ports true y z f = absurd (cc)
  ports false true z f = absurd (cc)
  ports false false true f = absurd (cc)
  ports false false false f = absurd (cc)
access_has l i w (Event (Shared j cell)) k a al e = subst (λ z. owner l z ≡ Nobody → ⊥) (number j k e) (watched_has (owner l j) cell a) where
  number : (x y : ℕ) → General x ≡ General y → x ≡ y
  number x y z = cc
access_has l i w (Silent j) k a al e = subst (λ z. owner l z ≡ Nobody → ⊥) (number j k e) (by w a) where
  number : (x y : ℕ) → General x ≡ General y → x ≡ y
  number x y z = cc

  by : (b : Bool) → IsAccess l i b (Silent j) → owner l j ≡ Nobody → ⊥
  by true h = silent_has i (owner l j) h.0
  by false h = silent_has i (owner l j) h
access_has l i w Denied k a al e = absurd (cc)

port_touched : (q : Program) (direct : Bool) (a : ℕ) → IsNamed q a → IsTouched q direct (port a)
port_touched q direct a n = by (nat_eq a 0x0b) refl (nat_eq a 0x0c) refl (nat_eq a 0x8c) refl where
  by : (x : Bool) → nat_eq a 0x0b ≡ x → (y : Bool) → nat_eq a 0x0c ≡ y → (z : Bool) → nat_eq a 0x8c ≡ z → IsTouched q direct (if x then chip.Intcon else if y then chip.Pir1 else if z then chip.Pie1 else chip.Device a)
  by true e y f z h = subst (IsNamed q) (eqb-true a 0x0b e) n
  by false e true f z h = subst (IsNamed q) (eqb-true a 0x0c f) n
  by false e false f true h = subst (IsNamed q) (eqb-true a 0x8c h) n
  by false e false f false h = n

touched_access : (q : Program) (direct : Bool) (y : Access) → is_allowed y ≡ true → ((k : ℕ) → place_for y ≡ General k → IsTouched q direct (General k)) → ((a : ℕ) → y ≡ Event (Port a) → IsNamed q a) → IsTouched q direct (place_for y)
touched_access q direct Pointer al g n = tt
touched_access q direct (Event (Port a)) al g n = port_touched q direct a (n a refl)
touched_access q direct (Event (Shared k cell)) al g n = g k refl
touched_access q direct (Silent k) al g n = g k refl
touched_access q direct Denied al g n = absurd (cc)

-- no register among general bytes
by_no_port : (i w : Bool) (k : ℕ) (o : Owner) (a : ℕ) → access_by i w k o ≡ Event (Port a) → ⊥
by_no_port i w k (Watched cell) a e = absurd (cc)
by_no_port true false k Constant a e = absurd (cc)
by_no_port false false k Constant a e = absurd (cc)
by_no_port true true k Constant a e = absurd (cc)
by_no_port false true k Constant a e = absurd (cc)
by_no_port false w k (Of Main) a e = absurd (cc)
by_no_port true w k (Of Main) a e = absurd (cc)
by_no_port false w k (Of Isr) a e = absurd (cc)
by_no_port true w k (Of Isr) a e = absurd (cc)
by_no_port i w k Nobody a e = absurd (cc)

no_port : (l : DataLayout) (i w b : Bool) (o : Option ℕ) (a : ℕ) → (if b then general_access l i w o else Denied) ≡ Event (Port a) → ⊥
no_port l i w false o a e = absurd (cc)
no_port l i w true None a e = absurd (cc)
no_port l i w true (Some k) a e = by_no_port i w k (owner l k) a e

-- ---- what an operand touches
same_number : (x y : ℕ) → General x ≡ General y → x ≡ y
same_number x y z = cc

by_number : (i w : Bool) (j k : ℕ) (o : Owner) → is_allowed (access_by i w j o) ≡ true → place_for (access_by i w j o) ≡ General k → j ≡ k
by_number i w j k (Watched cell) al e = same_number j k e
by_number i false j k Constant al e = by i al e where
  by : (b : Bool) → is_allowed (access_by b false j Constant) ≡ true → place_for (access_by b false j Constant) ≡ General k → j ≡ k
  by true a f = same_number j k f
  by false a f = same_number j k f
by_number i true j k Constant al e = by i al where
  by : (b : Bool) → is_allowed (access_by b true j Constant) ≡ true → j ≡ k
  by true a = absurd (cc)
  by false a = absurd (cc)
by_number false w j k (Of Main) al e = same_number j k e
by_number true w j k (Of Main) al e = absurd (cc)
by_number false w j k (Of Isr) al e = absurd (cc)
by_number true w j k (Of Isr) al e = same_number j k e
by_number i w j k Nobody al e = absurd (cc)

general_number : (l : DataLayout) (i w : Bool) (o : Option ℕ) (k : ℕ) → is_allowed (general_access l i w o) ≡ true → place_for (general_access l i w o) ≡ General k → o ≡ Some k
general_number l i w None k al e = absurd (cc)
general_number l i w (Some j) k al e = ap Some (by_number i w j k (owner l j) al e)

no_indf : (b : ℕ) → general_in (chip.place b 0) ≡ None
no_indf b = by (nat_lt b 2) refl where
  last : (x : Bool) (a : ℕ) → general_in (if x then chip.Device a else chip.Nothing) ≡ None
  last true a = refl
  last false a = refl

  by : (x : Bool) → nat_lt b 2 ≡ x → general_in (chip.place b 0) ≡ None
  by true e = rw e (last (is_register (0x80 * b + 0)) (lowest (0x80 * b + 0)))
  by false e = rw e (last (is_register (0x80 * b + 0)) (lowest (0x80 * b + 0)))

not_indf : (a k : ℕ) → general_at a ≡ Some k → not (nat_eq (a % 128) 0) ≡ true
unfolding general_at
not_indf a k e = by (nat_eq (a % 128) 0) refl where
  by : (b : Bool) → nat_eq (a % 128) 0 ≡ b → not (nat_eq (a % 128) 0) ≡ true
  by false f = ap not f
  by true f = let z : general_in (chip.place (a / 128) (a % 128)) ≡ None = ap (λ v. general_in (chip.place (a / 128) v)) (eqb-true (a % 128) 0 f) ∙ no_indf (a / 128) in let q : Some k ≡ None = sym e ∙ z in absurd (cc)

module _ (reaches : ℕ → ℕ → Bool) (g : Setting) (banked : g.banked ≡ true) (laid : IsLaidOut reaches g.program.layout) (s : State) (r : Registers) (sees : Sees s r) (i w : Bool) where
  abbrev l : DataLayout
  l = g.program.layout

  General' : Operand → Type 0
  General' x = (k : ℕ) → place_for (access_of g i w r x) ≡ General k → IsTouched g.program (not (nat_eq (low_of l x) 0)) (General k)

  -- by name
  named_touched : (a : ℕ) (b : Bool) → is_allowed (if b then general_access l i w (general_at a) else Denied) ≡ true → (k : ℕ) → place_for (if b then general_access l i w (general_at a) else Denied) ≡ General k
      → (owner l k ≡ Nobody → ⊥) → IsTouched g.program (not (nat_eq (a % 128) 0)) (General k)
  named_touched a false al k e has = absurd (cc)
  named_touched a true al k e has =
      ⊎_elim inl (λ (h : (0x70 ≤ chip.address_of k) × (chip.address_of k < 0x78)). let lt = h.1 in inr (not_indf a k (general_number l i w (general_at a) k al e), h.0, omega (arith, lt))) (somebodys l k has)

  -- by FSR
  pointed_touched : (b : Bool) → is_covered l (pointer r) ≡ b → is_allowed (if b then general_access l i w (general_at (pointer r)) else Denied) ≡ true → (k : ℕ) → place_for (if b then general_access l i w (general_at (pointer r)) else Denied) ≡ General k
      → is_covered l (chip.address_of k) ≡ true
  pointed_touched false c al k e = absurd (cc)
  pointed_touched true c al k e =
      let low = covered_low (pointer r) reaches l laid c in
      ap (is_covered l) (address_back (pointer r) k low.0 low.1 (general_number l i w (general_at (pointer r)) k al e)) ∙ c

  general_touched : (x : Operand) → is_allowed (access_of g i w r x) ≡ true → General' x
  unfolding access_of address_of General'
  general_touched (operands.Byte (bytes.Device a)) al k e = device (is_register a) (nat_eq (lowest a) a) (is_selected g r a) e where
    ports : (x y z : Bool) → (if x then chip.Intcon else if y then chip.Pir1 else if z then chip.Pie1 else chip.Device a) ≡ General k → IsTouched g.program (not (nat_eq (a % 128) 0)) (General k)
    ports true y z f = absurd (cc)
    ports false true z f = absurd (cc)
    ports false false true f = absurd (cc)
    ports false false false f = absurd (cc)

    device : (x y z : Bool) → place_for (if x && y && z then Event (Port a) else Denied) ≡ General k → IsTouched g.program (not (nat_eq (a % 128) 0)) (General k)
    device true true true f = ports (nat_eq a 0x0b) (nat_eq a 0x0c) (nat_eq a 0x8c) f
    device true true false f = absurd (cc)
    device true false z f = absurd (cc)
    device false y z f = absurd (cc)
  general_touched (operands.Byte (bytes.Static n o)) al k e =
      named_touched (address_of l (bytes.Static n o)) _ al k e (access_has l i w (access_of g i w r (operands.Byte (bytes.Static n o))) k (access_sound g i w r (operands.Byte (bytes.Static n o))) al e)
  general_touched (operands.Byte (bytes.Frame n o)) al k e =
      named_touched (address_of l (bytes.Frame n o)) _ al k e (access_has l i w (access_of g i w r (operands.Byte (bytes.Frame n o))) k (access_sound g i w r (operands.Byte (bytes.Frame n o))) al e)
  general_touched (operands.Byte (bytes.Result n o)) al k e =
      named_touched (address_of l (bytes.Result n o)) _ al k e (access_has l i w (access_of g i w r (operands.Byte (bytes.Result n o))) k (access_sound g i w r (operands.Byte (bytes.Result n o))) al e)
  general_touched (operands.Register registers.Indf) al k e = inl (pointed_touched _ refl al k e)
  general_touched (operands.Register registers.Fsr) al k e = absurd (cc)
  general_touched (operands.Register registers.Status) al k e = absurd (cc)
  general_touched (operands.Register registers.Pclath) al k e = absurd (cc)
  general_touched (operands.Saved cell) al k e = absurd (cc)

  port_named : (x : Operand) (a : ℕ) → access_of g i w r x ≡ Event (Port a) → device_in x ≡ Some a
  unfolding access_of
  port_named (operands.Byte (bytes.Device b)) a e = ap Some (by (is_register b && nat_eq (lowest b) b && is_selected g r b) e) where
    by : (y : Bool) → (if y then Event (Port b) else Denied) ≡ Event (Port a) → b ≡ a
    by true f = same f where
      same : Event (Port b) ≡ Event (Port a) → b ≡ a
      same z = cc
    by false f = absurd (cc)
  port_named (operands.Byte (bytes.Static n o)) a e = absurd (no_port l i w (is_selected g r (address_of l (bytes.Static n o))) _ a e)
  port_named (operands.Byte (bytes.Frame n o)) a e = absurd (no_port l i w (is_selected g r (address_of l (bytes.Frame n o))) _ a e)
  port_named (operands.Byte (bytes.Result n o)) a e = absurd (no_port l i w (is_selected g r (address_of l (bytes.Result n o))) _ a e)
  port_named (operands.Register registers.Indf) a e = absurd (no_port l i w (is_covered l (pointer r)) _ a e)
  port_named (operands.Register registers.Fsr) a e = absurd (cc)
  port_named (operands.Register registers.Status) a e = absurd (cc)
  port_named (operands.Register registers.Pclath) a e = absurd (cc)
  port_named (operands.Saved cell) a e = absurd (cc)

  pub operand_touched : (x : Operand) → is_allowed (access_of g i w r x) ≡ true → ((a : ℕ) → device_in x ≡ Some a → IsNamed g.program a) → Touches g.program (low_of l x) s
  unfolding General'
  operand_touched x al named = record {
    place = place_for (access_of g i w r x);
    leads = leads_to g banked s r sees i w x (access_of g i w r x) refl al;
    touched = touched_access g.program (not (nat_eq (low_of l x) 0)) (access_of g i w r x) al (general_touched x al) (λ a e. named a (port_named x a e));
  }

-- ---- a byte of an object
covered_at : (rs : List Range) (n o : ℕ) → o < (slice_index_or rs n no_range).size → covers_any rs ((slice_index_or rs n no_range).address + o) ≡ true
covered_at [] n o lt = absurd (omega arith)
covered_at (r ∷ rs) zero o lt = or_left (covers r (r.address + o)) (covers_any rs (r.address + o)) (both (nat_le r.address (r.address + o)) (nat_lt (r.address + o) (r.address + r.size)) (le-leb r.address (r.address + o) (omega arith)) (lt-ltb (r.address + o) (r.address + r.size) (omega arith)))
covered_at (r ∷ rs) (suc n) o lt = or_right (covers r ((slice_index_or rs n no_range).address + o)) (covers_any rs ((slice_index_or rs n no_range).address + o)) (covered_at rs n o lt)

pub object_covered : (l : DataLayout) (n o : ℕ) → o < (object l n).size → is_covered l ((object l n).address + o) ≡ true
unfolding is_covered
object_covered l n o lt = or_left (covers_any l.objects ((object l n).address + o)) (covers_frame l.frames ((object l n).address + o)) (covered_at l.objects n o lt)

-- ---- an operand that leads to a place that may be touched
pub at_place : (l : Program) (s : State) (a : ℕ) (p : Place) → ((next : Place → Act) → effect (operand a next) s ≡ effect (next p) s) → IsTouched l (not (nat_eq a 0)) p → (f : ℕ) → Some a ≡ Some f → Touches l f s
at_place l s a p leads t f e = subst (λ z. Touches l z s) (number a f e) (record { place = p; leads = leads; touched = t }) where
  number : (a b : ℕ) → Some a ≡ Some b → a ≡ b
  number a b q = cc

-- a select of a bank, and one of a page
pub bank_touches : (q : Program) (s : State) (b : ℕ) (on : Bool) (f : ℕ) → file_of (bit_set 3 b on) ≡ Some f → Touches q f s
bank_touches q s b true f e = at_place q s 3 Status (λ next. refl) tt f e
bank_touches q s b false f e = at_place q s 3 Status (λ next. refl) tt f e

set_touches : (l : Program) (s : State) (b : ℕ) (on : Bool) (f : ℕ) → file_of (bit_set 0x0a b on) ≡ Some f → Touches l f s
set_touches l s b true f q = at_place l s 10 Pclath (λ next. refl) tt f q
set_touches l s b false f q = at_place l s 10 Pclath (λ next. refl) tt f q

pub select_touches : (l : Program) (s : State) (which : PageBit) (pg f : ℕ) → file_of (page_row which pg) ≡ Some f → Touches l f s
select_touches l s Low pg f q = set_touches l s 3 (nat_eq (pg % 2) 1) f q
select_touches l s High pg f q = set_touches l s 4 (nat_eq (pg / 2 % 2) 1) f q

-- ---- a symbolic instruction
module _ (reaches : ℕ → ℕ → Bool) (g : Setting) (h : Ground) (banked : g.banked ≡ true) (laid : IsLaidOut reaches g.program.layout) (i : Bool) (th : Thread) (p : Position) (m : Memory) (s : State) (sees : Sees s th.registers) where
  abbrev ll : DataLayout
  ll = g.program.layout

  abbrev IsGoing : Effect → Type 0
  IsGoing y = y ≡ Stuck → ⊥

  -- what isn't stuck is allowed
  w_allowed : (op : FileOperation) (y : Access) → IsGoing (file_to_w g.program p th m op y) → is_allowed y ≡ true
  w_allowed op Pointer e = refl
  w_allowed op (Event b) e = refl
  w_allowed op (Silent k) e = refl
  w_allowed op Denied e = absurd (e refl)

  f_allowed : (op : FileOperation) (y : Access) → IsGoing (file_to_file g.program p th m op y) → is_allowed y ≡ true
  f_allowed op Pointer e = refl
  f_allowed op (Event b) e = refl
  f_allowed op (Silent k) e = refl
  f_allowed op Denied e = absurd (e refl)

  store_allowed : (r : Registers) (v : ℕ) (y : Access) → IsGoing (store g.program p th r v y) → is_allowed y ≡ true
  store_allowed r v Pointer e = refl
  store_allowed r v (Event b) e = refl
  store_allowed r v (Silent k) e = refl
  store_allowed r v Denied e = absurd (e refl)

  change_allowed : (f : ℕ → ℕ) (y : Access) → IsGoing (change g.program p th m f y) → is_allowed y ≡ true
  change_allowed f Pointer e = refl
  change_allowed f (Event b) e = refl
  change_allowed f (Silent k) e = refl
  change_allowed f Denied e = absurd (e refl)

  test_allowed : (f : ℕ → Bool) (y : Access) → IsGoing (test g.program p th m f y) → is_allowed y ≡ true
  test_allowed f Pointer e = refl
  test_allowed f (Event b) e = refl
  test_allowed f (Silent k) e = refl
  test_allowed f Denied e = absurd (e refl)

  by_operand : (w : Bool) (x : Operand) (f : ℕ) → ((a : ℕ) → device_in x ≡ Some a → IsNamed g.program a) → is_allowed (access_of g i w th.registers x) ≡ true → Some (low_of ll x) ≡ Some f → Touches g.program f s
  by_operand w x f named al e = subst (λ k. Touches g.program k s) (number (low_of ll x) f e) (operand_touched reaches g banked laid s th.registers sees i w x al named) where
    number : (a b : ℕ) → Some a ≡ Some b → a ≡ b
    number a b q = cc

  -- STATUS and PCLATH by themselves
  core : (f : ℕ) (k : ℕ) (q : Place) → ((next : Place → Act) → effect (operand k next) s ≡ effect (next q) s) → IsTouched g.program (not (nat_eq k 0)) q → Some k ≡ Some f → Touches g.program f s
  core f k q leads t e = subst (λ z. Touches g.program z s) (number k f e) (record { place = q; leads = leads; touched = t }) where
    number : (a b : ℕ) → Some a ≡ Some b → a ≡ b
    number a b q = cc

  in_status : (f : ℕ) → Some 3 ≡ Some f → Touches g.program f s
  in_status f e = core f 3 Status (λ next. refl) tt e

  in_pclath : (f : ℕ) → Some 10 ≡ Some f → Touches g.program f s
  in_pclath f e = core f 10 Pclath (λ next. refl) tt e

  file_named : (op : FileOperation) (k : ℕ) (d : Bool) → file_of (file_row op k d) ≡ Some k
  file_named file.Addwf k d = refl
  file_named file.Andwf k d = refl
  file_named file.Comf k d = refl
  file_named file.Decf k d = refl
  file_named file.Decfsz k d = refl
  file_named file.Incf k d = refl
  file_named file.Incfsz k d = refl
  file_named file.Iorwf k d = refl
  file_named file.Movf k d = refl
  file_named file.Rlf k d = refl
  file_named file.Rrf k d = refl
  file_named file.Subwf k d = refl
  file_named file.Swapf k d = refl
  file_named file.Xorwf k d = refl

  bit_named : (op : BitOperation) (k b : ℕ) → file_of (bit_row op k b) ≡ Some k
  bit_named Bcf k b = refl
  bit_named Bsf k b = refl
  bit_named Btfsc k b = refl
  bit_named Btfss k b = refl

  none_here : {A : Type 0} (o : Option ℕ) (f : ℕ) → o ≡ None → o ≡ Some f → A
  none_here None f e q = absurd (cc)
  none_here (Some k) f e q = absurd (cc)

  literal_none : (op : LiteralOperation) (v : ℕ) → file_of (literal_row op v) ≡ None
  literal_none Addlw v = refl
  literal_none Andlw v = refl
  literal_none Iorlw v = refl
  literal_none Movlw v = refl
  literal_none Retlw v = refl
  literal_none Sublw v = refl
  literal_none Xorlw v = refl

  plain_none : (op : PlainOperation) → file_of (plain_row op) ≡ None
  plain_none Clrw = refl
  plain_none Nop = refl
  plain_none Retfie = refl
  plain_none Return = refl

  set_named : (k b : ℕ) (on : Bool) → file_of (bit_set k b on) ≡ Some k
  set_named k b true = refl
  set_named k b false = refl

  bank_named : (which : BankBit) (on : Bool) → file_of (bank_row which on) ≡ Some 3
  bank_named Rp0 on = set_named 3 5 on
  bank_named Rp1 on = set_named 3 6 on
  bank_named Irp on = set_named 3 7 on

  page_named : (which : PageBit) (k : ℕ) → file_of (page_row which k) ≡ Some 10
  page_named Low k = set_named 0x0a 3 (nat_eq (k % 2) 1)
  page_named High k = set_named 0x0a 4 (nat_eq (k / 2 % 2) 1)

  bits_touched : (op : BitOperation) (b : ℕ) (x : Operand) (f : ℕ) → ((a : ℕ) → device_in x ≡ Some a → IsNamed g.program a) → IsGoing (file_bit g i p th m op b x) → Some (low_of ll x) ≡ Some f → Touches g.program f s
  bits_touched Bcf b x f named e q = by_operand true x f named (change_allowed (clear_bit b) (access_of g i true th.registers x) e) q
  bits_touched Bsf b x f named e q = by_operand true x f named (change_allowed (set_bit b) (access_of g i true th.registers x) e) q
  bits_touched Btfsc b x f named e q = by_operand false x f named (test_allowed (λ y. nat_eq (bit y b) 0) (access_of g i false th.registers x) e) q
  bits_touched Btfss b x f named e q = by_operand false x f named (test_allowed (λ y. nat_eq (bit y b) 1) (access_of g i false th.registers x) e) q

  bit_touched : (op : BitOperation) (b : ℕ) (x : Operand) (f : ℕ) → ((a : ℕ) → device_in x ≡ Some a → IsNamed g.program a) → IsGoing (bits g i p th m op b x) → Some (low_of ll x) ≡ Some f → Touches g.program f s
  bit_touched op b (operands.Byte y) f named e q = bits_touched op b (operands.Byte y) f named e q
  bit_touched op b (operands.Register registers.Indf) f named e q = bits_touched op b (operands.Register registers.Indf) f named e q
  bit_touched op b (operands.Register registers.Fsr) f named e q = bits_touched op b (operands.Register registers.Fsr) f named e q
  bit_touched op b (operands.Register registers.Status) f named e q = in_status f q
  bit_touched op b (operands.Register registers.Pclath) f named e q = bits_touched op b (operands.Register registers.Pclath) f named e q
  bit_touched op b (operands.Saved y) f named e q = bits_touched op b (operands.Saved y) f named e q

  -- An instruction that isn't stuck touches, on the chip, a core register, a device register, a byte of an object or of a frame, or by
  -- its own operand one of 70h to 7Fh.
  pub sym_touched : (x : Sym) → fetched g.program p ≡ Some x → is_word (Some x) ≡ true → IsGoing (effect_of g i p th m x) → (n : Ins) → Means g h p x n → (f : ℕ) → file_of n ≡ Some f → Touches g.program f s
  unfolding effect_of
  sym_touched (syms.File op x into.W) here wd e n is f q = by_operand false x f (λ a y. record { at = p; word = (syms.File op x into.W); here = here; named = y }) (w_allowed op (access_of g i false th.registers x) e) (sym (file_named op (low_of ll x) (is_file into.W)) ∙ ap file_of (sym is) ∙ q)
  sym_touched (syms.File op x into.File) here wd e n is f q = by_operand true x f (λ a y. record { at = p; word = (syms.File op x into.File); here = here; named = y }) (f_allowed op (access_of g i true th.registers x) e) (sym (file_named op (low_of ll x) (is_file into.File)) ∙ ap file_of (sym is) ∙ q)
  sym_touched (syms.Movwf x) here wd e n is f q = by_operand true x f (λ a y. record { at = p; word = (syms.Movwf x); here = here; named = y }) (store_allowed th.registers th.registers.w (access_of g i true th.registers x) e) (ap file_of (sym is) ∙ q)
  sym_touched (syms.Clrf x) here wd e n is f q = by_operand true x f (λ a y. record { at = p; word = (syms.Clrf x); here = here; named = y }) (store_allowed (record th.registers { z = 1 }) 0 (access_of g i true th.registers x) e) (ap file_of (sym is) ∙ q)
  sym_touched (syms.Bit op x b) here wd e n is f q = bit_touched op b x f (λ a y. record { at = p; word = (syms.Bit op x b); here = here; named = y }) e (sym (bit_named op (low_of ll x) b) ∙ ap file_of (sym is.0) ∙ q)
  sym_touched (syms.Literal op v) here wd e n is f q = none_here (file_of n) f (ap file_of is ∙ literal_none op (literal_value ll v)) q
  sym_touched (syms.Plain op) here wd e n is f q = none_here (file_of n) f (ap file_of is ∙ plain_none op) q
  sym_touched (syms.Call t) here wd e n is f q = none_here (file_of n) f (ap file_of is.1) q
  sym_touched (syms.Goto t) here wd e n is f q = none_here (file_of n) f (ap file_of is.1) q
  sym_touched (syms.Label x) here wd e n is f q = absurd (cc)
  sym_touched (syms.SelectBank which on) here wd e n is f q = in_status f (sym (bank_named which on) ∙ ap file_of (sym is) ∙ q)
  sym_touched (syms.SelectPage which t) here wd e n is f q = in_pclath f (sym (page_named which (g.page_of (block_of p.block t))) ∙ ap file_of (sym is) ∙ q)
  sym_touched (syms.Table table root) here wd e n is f q = absurd is
