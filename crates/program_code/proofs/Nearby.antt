-- Where objects and frames end below 100h, what is there stands below it.
use Rattle.std.proofs.Common.{◌≡◌, ℕ, zero, suc, ◌+◌, ◌<◌, ◌≤◌, Bool, true, ◌&&◌, nat_lt, nat_le, List, [], ◌∷◌, map, Option, Some, None, option_map, slice_get, refl, sym, ap, ◌∙◌, ltb-true, leb-true, arith}
use Rattle.std.proofs.lemmas.Option.{none-some, same_Some, cond_some, slice_get-map}
use Rattle.c_typed.specs.Trees.{StaticTree, Program}
use Rattle.c_typed.specs.Types.{type_bytes}
use Rattle.call_graph.specs.declared.types.FnCopy.{FnCopy}
use Rattle.code_place.specs.Addresses.{object_byte, frame_byte, result_byte, address_of, file_address}
use Rattle.code_place.specs.Layouts as layouts
use Rattle.code_place.specs.Layouts.{layout_of}
use Rattle.core_code.specs.declared.code.Byte.{Byte}
use Rattle.core_code.specs.declared.code.Byte.TheVariants as bytes
use Rattle.bank_page.specs.Near.{IsNear, AreNear}
use Rattle.pic_map.specs.MapContent as content
use Rattle.pic_map.specs.MapView.{object_of, frame_of}
use Rattle.pic_map.specs.declared.FrameLine.{FrameLine}
use Rattle.pic_map.specs.declared.ObjLine.{ObjLine}
use Rattle.pic_map.specs.declared.Placed.{Placed}
use Rattle.pic_world.specs.declared.Root.{Root}
use Rattle.pic_world.specs.declared.Root.TheVariants.{Main, Isr}
use Rattle.ram_place.specs.Placement.{IsPlacing}
use Rattle.ram_place.specs.Sizes.{frame_bytes}
use Rattle.sym_code.specs.Layout.{near_ranges, near_frames, all_near, result_address}
use Rattle.sym_code.specs.declared.code.Operand.{Operand}
use Rattle.sym_code.specs.declared.code.Operand.TheVariants as operands
use Rattle.sym_code.specs.declared.code.Register.TheVariants.{Indf, Status, Fsr, Pclath}
use Rattle.sym_code.specs.declared.code.Saved.TheVariants as saved
use Rattle.sym_code.specs.declared.code.Sym.{Sym}
use Rattle.sym_code.specs.declared.code.Sym.TheVariants as syms
use Rattle.program_code.specs.Naming.{Memory, HasBytes, Lies, OperandLies, SymLies, SymsLie}
use Rattle.program_code.specs.There.{memory_of, PlacedStayNear}
use Rattle.program_code.proofs.Typing.{and_first, and_last}

-- ---- each line
line_near : (lines : List FrameLine) (n : ℕ) (line : FrameLine) → near_frames (map layouts.frame_of lines) ≡ true → slice_get lines n ≡ Some line → line.address + line.size ≤ 0x100
line_near [] n line near is = absurd (none-some line is)
line_near (x ∷ lines) zero line near is =
    let le = leb-true (x.address + x.size) 0x100 (and_first (nat_le (x.address + x.size) 0x100) (near_frames (map layouts.frame_of lines)) near) in
    let same = same_Some x line is in
    let a = ap (λ (l : FrameLine). l.address) same in
    let s = ap (λ (l : FrameLine). l.size) same in
    omega (arith, le, a, s)
line_near (x ∷ lines) (suc n) line near is = line_near lines n line (and_last (nat_le (x.address + x.size) 0x100) (near_frames (map layouts.frame_of lines)) near) is

object_near : (lines : List ObjLine) (n : ℕ) (line : ObjLine) → near_ranges (map layouts.range_of lines) ≡ true → slice_get lines n ≡ Some line → line.address + line.size ≤ 0x100
object_near [] n line near is = absurd (none-some line is)
object_near (x ∷ lines) zero line near is =
    let le = leb-true (x.address + x.size) 0x100 (and_first (nat_le (x.address + x.size) 0x100) (near_ranges (map layouts.range_of lines)) near) in
    let same = same_Some x line is in
    let a = ap (λ (l : ObjLine). l.address) same in
    let s = ap (λ (l : ObjLine). l.size) same in
    omega (arith, le, a, s)
object_near (x ∷ lines) (suc n) line near is = object_near lines n line (and_last (nat_le (x.address + x.size) 0x100) (near_ranges (map layouts.range_of lines)) near) is

-- ---- results
result_near : (r : Root) (k at : ℕ) → result_byte r k ≡ Some at → at < 0x100
result_near Main k at is = let h = cond_some (nat_lt k 4) (0x70 + k) at is in let l = ltb-true k 4 h.0 in let same = h.1 in omega (arith, l, same)
result_near Isr k at is = let h = cond_some (nat_lt k 4) (0x74 + k) at is in let l = ltb-true k 4 h.0 in let same = h.1 in omega (arith, l, same)

module _ (p : Program) (copies : List FnCopy) (placed : Placed) (is : IsPlacing p copies (map object_of placed.objects.items) (map frame_of placed.frames.items)) (near : all_near (layout_of placed) ≡ true) where
  abbrev memory : Memory
  memory = memory_of p copies

  both_near : (near_ranges (map layouts.range_of placed.objects.items) && near_frames (map layouts.frame_of placed.frames.items)) ≡ true
  unfolding all_near
  both_near = near

  -- ---- bytes
  frame_low : (c offset at : ℕ) (copy : FnCopy) (o : Option FrameLine) → slice_get copies c ≡ Some copy → slice_get placed.frames.items c ≡ o → offset < frame_bytes p copy.function → frame_byte o offset ≡ Some at → at < 0x100
  frame_low c offset at copy None there e l q = absurd (none-some at q)
  frame_low c offset at copy (Some line) there e l q =
      let stands = is.frames_stand c copy (frame_of line) there (slice_get-map frame_of placed.frames.items c ∙ ap (option_map frame_of) e) in
      let size = ap (λ (x : content.FrameLine). x.size) stands.0 in
      let low = line_near placed.frames.items c line (and_last (near_ranges (map layouts.range_of placed.objects.items)) (near_frames (map layouts.frame_of placed.frames.items)) both_near) e in
      let same = (cond_some (nat_lt (line.address + offset) 512) (line.address + offset) at q).1 in
      omega (arith, size, low, l, same)

  object_low : (k offset at : ℕ) (s : StaticTree) (o : Option ObjLine) → slice_get p.statics k ≡ Some s → slice_get placed.objects.items k ≡ o → offset < type_bytes p.sizes s.ty.ty → object_byte o offset ≡ Some at → at < 0x100
  object_low k offset at s None there e l q = absurd (none-some at q)
  object_low k offset at s (Some line) there e l q =
      let stands = is.objects_stand k s (object_of line) there (slice_get-map object_of placed.objects.items k ∙ ap (option_map object_of) e) in
      let size = ap (λ (x : content.ObjectLine). x.size) stands.0 in
      let low = object_near placed.objects.items k line (and_first (near_ranges (map layouts.range_of placed.objects.items)) (near_frames (map layouts.frame_of placed.frames.items)) both_near) e in
      let same = (cond_some (nat_lt (line.address + offset) 512) (line.address + offset) at q).1 in
      omega (arith, size, low, l, same)

  of_frame : (c offset at : ℕ) (o : Option FnCopy) → slice_get copies c ≡ o → HasBytes (option_map (λ (x : FnCopy). frame_bytes p x.function) o) (offset + 1) → address_of placed (bytes.Frame c offset) ≡ Some at → at < 0x100
  of_frame c offset at None e h q = absurd h
  of_frame c offset at (Some copy) e h q = frame_low c offset at copy (slice_get placed.frames.items c) e refl (omega (arith, h)) q

  of_object : (k offset at : ℕ) (o : Option StaticTree) → slice_get p.statics k ≡ o → HasBytes (option_map (λ (x : StaticTree). type_bytes p.sizes x.ty.ty) o) (offset + 1) → address_of placed (bytes.Static k offset) ≡ Some at → at < 0x100
  of_object k offset at None e h q = absurd h
  of_object k offset at (Some s) e h q = object_low k offset at s (slice_get placed.objects.items k) e refl (omega (arith, h)) q

  byte_low : (byte : Byte) → Lies memory 1 byte → (at : ℕ) → address_of placed byte ≡ Some at → at < 0x100
  byte_low (bytes.Frame c k) h at q = of_frame c k at (slice_get copies c) refl h q
  byte_low (bytes.Static object k) h at q = of_object object k at (slice_get p.statics object) refl h q
  byte_low (bytes.Result r k) h at q = result_near r k at q
  byte_low (bytes.Device address) h at q = let same = same_Some address at q in let low = h.0 in omega (arith, low, same)

  -- ---- instructions
  small : (a at : ℕ) → a < 0x100 → Some a ≡ Some at → at < 0x100
  small a at l q = let same = same_Some a at q in omega (arith, l, same)

  operand_low : (file : Operand) → OperandLies memory file → (at : ℕ) → file_address placed file ≡ Some at → at < 0x100
  operand_low (operands.Byte byte) h at q = byte_low byte h at q
  operand_low (operands.Register Indf) h at q = small 0x00 at (omega arith) q
  operand_low (operands.Register Status) h at q = small 0x03 at (omega arith) q
  operand_low (operands.Register Fsr) h at q = small 0x04 at (omega arith) q
  operand_low (operands.Register Pclath) h at q = small 0x0a at (omega arith) q
  operand_low (operands.Saved saved.W) h at q = small 0x78 at (omega arith) q
  operand_low (operands.Saved saved.Status) h at q = small 0x79 at (omega arith) q
  operand_low (operands.Saved saved.Fsr) h at q = small 0x7a at (omega arith) q
  operand_low (operands.Saved saved.Pclath) h at q = small 0x7b at (omega arith) q

  sym_near : (s : Sym) → SymLies memory s → IsNear placed s
  sym_near (syms.Label label) h = tt
  sym_near (syms.SelectBank bit on) h = tt
  sym_near (syms.SelectPage bit to) h = tt
  sym_near (syms.Table table root) h = tt
  sym_near (syms.File op file into) h = operand_low file h
  sym_near (syms.Movwf file) h = operand_low file h
  sym_near (syms.Clrf file) h = operand_low file h
  sym_near (syms.Bit op file bit) h = operand_low file h
  sym_near (syms.Literal op value) h = tt
  sym_near (syms.Plain op) h = tt
  sym_near (syms.Call to) h = tt
  sym_near (syms.Goto to) h = tt

  syms_near : (list : List Sym) → SymsLie memory list → AreNear placed list
  syms_near [] h = tt
  syms_near (s ∷ list) h = (sym_near s h.0, syms_near list h.1)

pub placed_stay_near : PlacedStayNear
placed_stay_near p copies placed list is near h = syms_near p copies placed is near list h
