-- Bytes of a frame that stands whole in a bank stand in one bank.
use Rattle.std.proofs.Common.{◌≡◌, ℕ, zero, suc, ◌+◌, ◌/◌, ◌≤◌, ◌<◌, ◌⊎◌, inl, inr, Bool, true, false, ◌&&◌, ◌||◌, nat_eq, nat_lt, nat_le, if◌then◌else◌, List, [], ◌∷◌, map, length, Option, Some, None, refl, sym, ap, ◌∙◌, subst, ⊎_elim, leb-true, eqb-true, arith}
use Rattle.std.specs.Prelude.{slice_get, slice_index_or}
use Rattle.std.specs.List.{All}
use Rattle.std.proofs.lemmas.List.{length-map}
use Rattle.std.proofs.lemmas.Option.{none-some, same_Some, slice_get_within}
use Rattle.core_code.specs.declared.code.Byte.{Byte}
use Rattle.core_code.specs.declared.code.Byte.TheVariants as bytes
use Rattle.math_helpers.specs.Shape.{IsOwnOperand, IsOwn}
use Rattle.pic_map.specs.declared.FrameLine.{FrameLine}
use Rattle.pic_map.specs.declared.Placed.{Placed}
use Rattle.pic_world.specs.declared.Root.{Root}
use Rattle.sym_code.specs.Layout.{FrameRange, no_frame, frame, lies_in, is_whole}
use Rattle.sym_code.specs.declared.code.Operand.{Operand}
use Rattle.sym_code.specs.declared.code.Operand.TheVariants as operands
use Rattle.sym_code.specs.declared.code.Sym.{Sym}
use Rattle.sym_code.specs.declared.code.Sym.TheVariants as syms
use Rattle.code_place.specs.Addresses.{address_of, frame_byte, in_memory}
use Rattle.code_place.specs.Layouts.{frame_of, layout_of}
use Rattle.bank_page.specs.Kinds.{byte_named, byte_of}
use Rattle.program_code.specs.Close.{is_own, is_frames}
use Rattle.program_code.specs.Skips.{IsInside, AreThere, FramesAreWhole}
use Rattle.program_code.specs.Paired.{HasPlace, HavePlaces}
use Rattle.program_code.proofs.ListSkips.{both}

-- ---- a bank
or_split : (a b : Bool) → (a || b) ≡ true → (a ≡ true) ⊎ (b ≡ true)
or_split true b e = inl refl
or_split false b e = inr e

in_region : (first end address size offset : ℕ) → offset < size → (first ≤ address → address + offset < end → (address + offset) / 128 ≡ address / 128) → lies_in first end address size ≡ true → (address + offset) / 128 ≡ address / 128
in_region first end address size offset l one e =
    let parts = both (nat_le first address) (nat_le (address + size) end) e in
    let low = leb-true first address parts.0 in
    let high = leb-true (address + size) end parts.1 in
    one low (omega arith)

one_bank : (address size offset : ℕ) → is_whole address size ≡ true → offset < size → (address + offset) / 128 ≡ address / 128
one_bank address size offset e l =
    ⊎_elim
    (λ e. ⊎_elim
    (λ e. ⊎_elim (in_region 0x20 0x70 address size offset l (λ a b. omega arith)) (in_region 0xa0 0xf0 address size offset l (λ a b. omega arith))
    (or_split (lies_in 0x20 0x70 address size) (lies_in 0xa0 0xf0 address size) e))
    (in_region 0x110 0x170 address size offset l (λ a b. omega arith))
    (or_split (lies_in 0x20 0x70 address size || lies_in 0xa0 0xf0 address size) (lies_in 0x110 0x170 address size) e))
    (in_region 0x190 0x1f0 address size offset l (λ a b. omega arith))
    (or_split (lies_in 0x20 0x70 address size || lies_in 0xa0 0xf0 address size || lies_in 0x110 0x170 address size) (lies_in 0x190 0x1f0 address size) e)

-- ---- a frame
abbrev frame_or : Option FrameLine → FrameRange
frame_or None = no_frame
frame_or (Some line) = frame_of line

frame_there : (lines : List FrameLine) (c : ℕ) → slice_index_or (map frame_of lines) c no_frame ≡ frame_or (slice_get lines c)
frame_there [] c = refl
frame_there (line ∷ lines) zero = refl
frame_there (line ∷ lines) (suc c) = frame_there lines c

memory_is : (n at : ℕ) → in_memory n ≡ Some at → n ≡ at
memory_is n at e = by (nat_lt n 512) e where
  by : (b : Bool) → (if b then Some n else None) ≡ Some at → n ≡ at
  by true e = same_Some n at e
  by false e = absurd (none-some at e)

line_bank : (o : Option FrameLine) (r : FrameRange) (offset at : ℕ) → r ≡ frame_or o → frame_byte o offset ≡ Some at → is_whole r.address r.size ≡ true → offset < r.size → at / 128 ≡ r.address / 128
line_bank None r offset at is e w l = absurd (none-some at e)
line_bank (Some line) r offset at is e w l =
    let same = ap (λ (g : FrameRange). g.address) is in
    let here : r.address + offset ≡ at = ap (λ a. a + offset) same ∙ memory_is (line.address + offset) at e in
    sym (ap (λ n. n / 128) here) ∙ one_bank r.address r.size offset w l

line_there : (lines : List FrameLine) (c offset at : ℕ) (o : Option FrameLine) → slice_get lines c ≡ o → frame_byte o offset ≡ Some at → c < length lines
line_there lines c offset at None is e = absurd (none-some at e)
line_there lines c offset at (Some line) is e = slice_get_within lines c line is

module _ (placed : Placed) (whole : FramesAreWhole placed) where
  abbrev pub bank : ℕ → ℕ
  bank c = (frame (layout_of placed) c).address / 128

  in_frame : (c offset at : ℕ) → address_of placed (bytes.Frame c offset) ≡ Some at → offset < (frame (layout_of placed) c).size → at / 128 ≡ bank c
  in_frame c offset at e l =
      let there = line_there placed.frames.items c offset at (slice_get placed.frames.items c) refl e in
      let long = length-map placed.frames.items frame_of in
      line_bank (slice_get placed.frames.items c) (frame (layout_of placed) c) offset at (frame_there placed.frames.items c) e (whole c (omega (arith, there, long))) l

  -- ---- the bytes of one copy's frame as home
  own_bank : (n : ℕ) (byte : Byte) (at : ℕ) → address_of placed byte ≡ Some at → IsInside placed byte → is_own n byte ≡ true → at / 128 ≡ bank n
  own_bank n (bytes.Frame c offset) at e l own = in_frame c offset at e l ∙ ap bank (sym (eqb-true n c own))
  own_bank n (bytes.Static object offset) at e l own = absurd (cc)
  own_bank n (bytes.Result r k) at e l own = absurd (cc)
  own_bank n (bytes.Device address) at e l own = absurd (cc)

  pub own_places : (n : ℕ) (list : List Sym) → AreThere placed list → HavePlaces placed (is_own n) (bank n) list
  own_places n [] there = tt
  own_places n (s ∷ rest) there = ((λ byte e. let h = there.0 byte e in (h.0.0, h.0.1, own_bank n byte h.0.0 h.0.1 h.1)), own_places n rest there.1)

  -- ---- a routine names bytes of its own frame alone
  abbrev copy_in : Option Byte → ℕ
  copy_in (Some (bytes.Frame c offset)) = c
  copy_in _ = 0

  operand_own : (root : Root) (n size : ℕ) (file : Operand) (c offset : ℕ) → IsOwnOperand root n size file → byte_named file ≡ Some (bytes.Frame c offset) → c ≡ n
  operand_own root n size (operands.Byte (bytes.Frame d k)) c offset h e = sym (ap copy_in e) ∙ h.0
  operand_own root n size (operands.Byte (bytes.Result r k)) c offset h e = absurd (none-some (bytes.Frame c offset) e)
  operand_own root n size (operands.Byte (bytes.Static object k)) c offset h e = absurd h
  operand_own root n size (operands.Byte (bytes.Device address)) c offset h e = absurd h
  operand_own root n size (operands.Register register) c offset h e = absurd h
  operand_own root n size (operands.Saved saved) c offset h e = absurd h

  sym_own : (root : Root) (n size : ℕ) (s : Sym) (c offset : ℕ) → IsOwn root n size s → byte_of s ≡ Some (bytes.Frame c offset) → c ≡ n
  sym_own root n size (syms.File op file into) c offset h e = operand_own root n size file c offset h e
  sym_own root n size (syms.Movwf file) c offset h e = operand_own root n size file c offset h e
  sym_own root n size (syms.Clrf file) c offset h e = operand_own root n size file c offset h e
  sym_own root n size (syms.Bit op (operands.Register register) bit) c offset h e = absurd (none-some (bytes.Frame c offset) e)
  sym_own root n size (syms.Bit op (operands.Byte byte) bit) c offset h e = operand_own root n size (operands.Byte byte) c offset h e
  sym_own root n size (syms.Bit op (operands.Saved saved) bit) c offset h e = absurd h
  sym_own root n size (syms.Literal op value) c offset h e = absurd (none-some (bytes.Frame c offset) e)
  sym_own root n size (syms.Plain op) c offset h e = absurd (none-some (bytes.Frame c offset) e)
  sym_own root n size (syms.Call target) c offset h e = absurd (none-some (bytes.Frame c offset) e)
  sym_own root n size (syms.Goto target) c offset h e = absurd (none-some (bytes.Frame c offset) e)
  sym_own root n size (syms.Label label) c offset h e = absurd (none-some (bytes.Frame c offset) e)
  sym_own root n size (syms.SelectBank bit on) c offset h e = absurd (none-some (bytes.Frame c offset) e)
  sym_own root n size (syms.SelectPage bit target) c offset h e = absurd (none-some (bytes.Frame c offset) e)
  sym_own root n size (syms.Table table r) c offset h e = absurd (none-some (bytes.Frame c offset) e)

  frames_bank : (n : ℕ) (byte : Byte) (at : ℕ) → address_of placed byte ≡ Some at → IsInside placed byte → ((c offset : ℕ) → byte ≡ bytes.Frame c offset → c ≡ n) → is_frames byte ≡ true → at / 128 ≡ bank n
  frames_bank n (bytes.Frame c offset) at e l same own = in_frame c offset at e l ∙ ap bank (same c offset refl)
  frames_bank n (bytes.Static object offset) at e l same own = absurd (cc)
  frames_bank n (bytes.Result r k) at e l same own = absurd (cc)
  frames_bank n (bytes.Device address) at e l same own = absurd (cc)

  pub routine_places : (root : Root) (n size : ℕ) (list : List Sym) → All (IsOwn root n size) list → AreThere placed list → HavePlaces placed is_frames (bank n) list
  routine_places root n size [] own there = tt
  routine_places root n size (s ∷ rest) own there = (
    (λ byte e. let h = there.0 byte e in (h.0.0, h.0.1, frames_bank n byte h.0.0 h.0.1 h.1 (λ c offset is. sym_own root n size s c offset (own 0 s (omega arith)) (e ∙ ap (λ (b : Byte). Some b) is)))),
    routine_places root n size rest (λ k d lt. own (suc k) d (omega arith)) there.1,
  )

-- ---- no home
abbrev pub no_home : Byte → Bool
no_home byte = false

pub any_places : (placed : Placed) (list : List Sym) → AreThere placed list → HavePlaces placed no_home 0 list
any_places placed [] there = tt
any_places placed (s ∷ rest) there = ((λ byte e. let h = there.0 byte e in (h.0.0, h.0.1, λ own. absurd (cc))), any_places placed rest there.1)
