-- What is there has an address where objects and frames are placed, and what is named of a frame lies within it.
use Rattle.std.proofs.Common.{◌≡◌, ℕ, zero, suc, ◌+◌, ◌<◌, ◌≤◌, inl, inr, Bool, true, false, if◌then◌else◌, List, [], ◌∷◌, length, map, Option, Some, None, IsSome, is_some, option_map, slice_get, refl, sym, ap, ◌∙◌, subst, lt-ltb, arith}
use Rattle.std.proofs.lemmas.List.{length-map}
use Rattle.std.proofs.lemmas.Option.{none-some, same_Some, slice_get_within, slice_get-map}
use Rattle.c_typed.specs.Trees.{StaticTree, Program}
use Rattle.c_typed.specs.Types.{type_bytes}
use Rattle.call_graph.specs.declared.types.FnCopy.{FnCopy}
use Rattle.code_place.specs.Addresses.{in_memory, object_byte, frame_byte, result_byte, address_of, file_address}
use Rattle.code_place.specs.Layouts.{layout_of}
use Rattle.code_place.specs.Places.{HasLiteral}
use Rattle.core_code.specs.declared.code.Byte.{Byte}
use Rattle.core_code.specs.declared.code.Byte.TheVariants as bytes
use Rattle.bank_page.specs.Kinds.{byte_named, byte_of}
use Rattle.pic_map.specs.MapContent as content
use Rattle.pic_map.specs.MapView.{object_of, frame_of}
use Rattle.pic_map.specs.declared.FrameLine.{FrameLine}
use Rattle.pic_map.specs.declared.ObjLine.{ObjLine}
use Rattle.pic_map.specs.declared.Placed.{Placed}
use Rattle.pic_world.specs.declared.Root.{Root}
use Rattle.live_frames.specs.Memory.{IsLowest, regions, Stands}
use Rattle.ram_place.specs.Placement.{IsPlacing}
use Rattle.ram_place.specs.Sizes.{frame_bytes}
use Rattle.live_frames.specs.declared.memory.Span.{Span}
use Rattle.sym_code.specs.Layout.{FrameRange, frame, result_address}
use Rattle.sym_code.specs.Words.{is_common}
use Rattle.sym_code.specs.declared.code.Literal.{Literal}
use Rattle.sym_code.specs.declared.code.Literal.TheVariants as values
use Rattle.sym_code.specs.declared.code.Operand.{Operand}
use Rattle.sym_code.specs.declared.code.Operand.TheVariants as operands
use Rattle.sym_code.specs.declared.code.Sym.{Sym}
use Rattle.sym_code.specs.declared.code.Sym.TheVariants as syms
use Rattle.program_code.specs.Bounds.{NamesWithin}
use Rattle.program_code.specs.Naming.{Memory, HasBytes, Lies, Points, OperandLies, LiteralLies, SymLies, SymsLie}
use Rattle.program_code.specs.There.{memory_of, HasOperand, HaveOperands, IsInside, StandInside, PlacedHaveAddresses, PlacedStandInside}
use Rattle.program_code.proofs.Placed.{frame_or, frame_there}

-- ---- one frame
-- the byte that an operand names
named_is : (byte other : Byte) → byte_named (operands.Byte byte) ≡ Some other → byte ≡ other
named_is byte other e = by_common (is_common byte) e
  where
    by_common : (b : Bool) → (if b then None else Some byte) ≡ Some other → byte ≡ other
    by_common true e = absurd (none-some other e)
    by_common false e = same_Some byte other e

module _ (c size : ℕ) (memory : Memory) (own : memory.frames c ≡ Some size) where
  operand_within : (file : Operand) (offset : ℕ) → OperandLies memory file → byte_named file ≡ Some (bytes.Frame c offset) → offset < size
  operand_within (operands.Byte byte) offset h e =
      let l : HasBytes (memory.frames c) (offset + 1) = subst (Lies memory 1) (named_is byte (bytes.Frame c offset) e) h in
      let m : HasBytes (Some size) (offset + 1) = subst (λ (o : Option ℕ). HasBytes o (offset + 1)) own l in
      omega (arith, m)
  operand_within (operands.Register r) offset h e = absurd (none-some (bytes.Frame c offset) e)
  operand_within (operands.Saved cell) offset h e = absurd (none-some (bytes.Frame c offset) e)

  sym_within : (s : Sym) (offset : ℕ) → SymLies memory s → byte_of s ≡ Some (bytes.Frame c offset) → offset < size
  sym_within (syms.Label label) offset h e = absurd (none-some (bytes.Frame c offset) e)
  sym_within (syms.SelectBank bit on) offset h e = absurd (none-some (bytes.Frame c offset) e)
  sym_within (syms.SelectPage bit to) offset h e = absurd (none-some (bytes.Frame c offset) e)
  sym_within (syms.Table table root) offset h e = absurd (none-some (bytes.Frame c offset) e)
  sym_within (syms.File op file into) offset h e = operand_within file offset h e
  sym_within (syms.Movwf file) offset h e = operand_within file offset h e
  sym_within (syms.Clrf file) offset h e = operand_within file offset h e
  sym_within (syms.Bit op file bit) offset h e = operand_within file offset h e
  sym_within (syms.Literal op value) offset h e = absurd (none-some (bytes.Frame c offset) e)
  sym_within (syms.Plain op) offset h e = absurd (none-some (bytes.Frame c offset) e)
  sym_within (syms.Call to) offset h e = absurd (none-some (bytes.Frame c offset) e)
  sym_within (syms.Goto to) offset h e = absurd (none-some (bytes.Frame c offset) e)

  pub names_within : (list : List Sym) → SymsLie memory list → NamesWithin c size list
  names_within [] h = tt
  names_within (s ∷ list) h = ((λ offset e. sym_within s offset h.0 e), names_within list h.1)

-- ---- where objects and frames stand
abbrev Below : List Span → Type 0
Below [] = Unit {0}
Below (r ∷ rs) = (r.address + r.size ≤ 496) × Below rs

lowest_below : (taken : ℕ → Type 0) (rs : List Span) (size address : ℕ) → Below rs → IsLowest taken rs size address → address + size ≤ 496
lowest_below taken [] size address below h = absurd h
lowest_below taken (r ∷ rs) size address below (inl h) =
    let top = h.0.0.1 in
    let end = below.0 in
    omega (arith, top, end)
lowest_below taken (r ∷ rs) size address below (inr h) = lowest_below taken rs size address below.1 h.1

stands_below : (taken : ℕ → Type 0) (size address : ℕ) → Stands taken size address → address + size ≤ 496
stands_below taken zero address h = let at = h.0 refl in omega (arith, at)
stands_below taken (suc size) address h = lowest_below taken regions (suc size) address ((omega arith), ((omega arith), ((omega arith), ((omega arith), tt)))) (h.1 (omega arith))

in_there : (at : ℕ) → at < 512 → IsSome (in_memory at)
in_there at l = ap (λ (b : Bool). is_some (if b then Some at else None)) (lt-ltb at 512 l)

elem_there : {A : Type 0} (xs : List A) (n : ℕ) → n < length xs → (x : A) × (slice_get xs n ≡ Some x)
elem_there [] n l = absurd (omega (arith, l))
elem_there (x ∷ xs) zero l = (x, refl)
elem_there (x ∷ xs) (suc n) l = elem_there xs n (omega (arith, l))

module _ (p : Program) (copies : List FnCopy) (placed : Placed) (is : IsPlacing p copies (map object_of placed.objects.items) (map frame_of placed.frames.items)) where
  abbrev memory : Memory
  memory = memory_of p copies

  -- each copy has its line, and each static object
  line_there : (c : ℕ) (copy : FnCopy) → slice_get copies c ≡ Some copy → (line : FrameLine) × (slice_get placed.frames.items c ≡ Some line)
  line_there c copy there =
      let inside = slice_get_within copies c copy there in
      let long = is.each_frame in
      let lines = length-map placed.frames.items frame_of in
      elem_there placed.frames.items c (omega (arith, inside, long, lines))

  object_there : (k : ℕ) (s : StaticTree) → slice_get p.statics k ≡ Some s → (line : ObjLine) × (slice_get placed.objects.items k ≡ Some line)
  object_there k s there =
      let inside = slice_get_within p.statics k s there in
      let long = is.each_object in
      let lines = length-map placed.objects.items object_of in
      elem_there placed.objects.items k (omega (arith, inside, long, lines))

  frame_placed : (c offset : ℕ) (copy : FnCopy) (o : Option FrameLine) → slice_get copies c ≡ Some copy → slice_get placed.frames.items c ≡ o → offset ≤ frame_bytes p copy.function → IsSome (frame_byte o offset)
  frame_placed c offset copy None there e l = let line = line_there c copy there in absurd (none-some line.0 (sym e ∙ line.1))
  frame_placed c offset copy (Some line) there e l =
      let at = is.frames_stand c copy (frame_of line) there (slice_get-map frame_of placed.frames.items c ∙ ap (option_map frame_of) e) in
      let size = ap (λ (x : content.FrameLine). x.size) at.0 in
      let low = stands_below _ (frame_of line).size (frame_of line).address at.1 in
      in_there (line.address + offset) (omega (arith, size, low, l))

  object_placed : (k offset : ℕ) (s : StaticTree) (o : Option ObjLine) → slice_get p.statics k ≡ Some s → slice_get placed.objects.items k ≡ o → offset ≤ type_bytes p.sizes s.ty.ty → IsSome (object_byte o offset)
  object_placed k offset s None there e l = let line = object_there k s there in absurd (none-some line.0 (sym e ∙ line.1))
  object_placed k offset s (Some line) there e l =
      let at = is.objects_stand k s (object_of line) there (slice_get-map object_of placed.objects.items k ∙ ap (option_map object_of) e) in
      let size = ap (λ (x : content.ObjectLine). x.size) at.0 in
      let low = stands_below _ (object_of line).size (object_of line).address at.1 in
      in_there (line.address + offset) (omega (arith, size, low, l))

  of_frame : (c offset n : ℕ) (o : Option FnCopy) → slice_get copies c ≡ o → HasBytes (option_map (λ (x : FnCopy). frame_bytes p x.function) o) n → offset ≤ n → IsSome (address_of placed (bytes.Frame c offset))
  of_frame c offset n None e h l = absurd h
  of_frame c offset n (Some copy) e h l = frame_placed c offset copy (slice_get placed.frames.items c) e refl (omega (arith, h, l))

  of_object : (k offset n : ℕ) (o : Option StaticTree) → slice_get p.statics k ≡ o → HasBytes (option_map (λ (x : StaticTree). type_bytes p.sizes x.ty.ty) o) n → offset ≤ n → IsSome (address_of placed (bytes.Static k offset))
  of_object k offset n None e h l = absurd h
  of_object k offset n (Some s) e h l = object_placed k offset s (slice_get placed.objects.items k) e refl (omega (arith, h, l))

  of_result : (r : Root) (k : ℕ) → k < 4 → IsSome (result_byte r k)
  of_result r k l = ap (λ (b : Bool). is_some (if b then Some (result_address r + k) else None)) (lt-ltb k 4 l)

  byte_placed : (byte : Byte) → Lies memory 1 byte → IsSome (address_of placed byte)
  byte_placed (bytes.Frame c k) h = of_frame c k (k + 1) (slice_get copies c) refl h (omega arith)
  byte_placed (bytes.Static object k) h = of_object object k (k + 1) (slice_get p.statics object) refl h (omega arith)
  byte_placed (bytes.Result r k) h = of_result r k (omega (arith, h))
  byte_placed (bytes.Device address) h = refl

  pointed_placed : (byte : Byte) → Points memory byte → IsSome (address_of placed byte)
  pointed_placed (bytes.Frame c k) h = of_frame c k k (slice_get copies c) refl h (omega arith)
  pointed_placed (bytes.Static object k) h = of_object object k k (slice_get p.statics object) refl h (omega arith)
  pointed_placed (bytes.Result r k) h = absurd h
  pointed_placed (bytes.Device address) h = refl

  operand_placed : (file : Operand) → OperandLies memory file → IsSome (file_address placed file)
  operand_placed (operands.Byte byte) h = byte_placed byte h
  operand_placed (operands.Register r) h = refl
  operand_placed (operands.Saved cell) h = refl

  literal_placed : (value : Literal) → LiteralLies memory value → HasLiteral placed value
  literal_placed (values.Number number) h = tt
  literal_placed (values.Low byte) h = pointed_placed byte h
  literal_placed (values.High byte) h = pointed_placed byte h

  sym_placed : (s : Sym) → SymLies memory s → HasOperand placed s
  sym_placed (syms.Label label) h = tt
  sym_placed (syms.SelectBank bit on) h = tt
  sym_placed (syms.SelectPage bit to) h = tt
  sym_placed (syms.Table table root) h = tt
  sym_placed (syms.File op file into) h = operand_placed file h
  sym_placed (syms.Movwf file) h = operand_placed file h
  sym_placed (syms.Clrf file) h = operand_placed file h
  sym_placed (syms.Bit op file bit) h = operand_placed file h
  sym_placed (syms.Literal op value) h = literal_placed value h
  sym_placed (syms.Plain op) h = tt
  sym_placed (syms.Call to) h = tt
  sym_placed (syms.Goto to) h = tt

  pub syms_placed : (list : List Sym) → SymsLie memory list → HaveOperands placed list
  syms_placed [] h = tt
  syms_placed (s ∷ list) h = (sym_placed s h.0, syms_placed list h.1)

-- ---- within frames
some_at : (o : Option ℕ) → IsSome o → (at : ℕ) × (o ≡ Some at)
some_at None h = absurd (cc)
some_at (Some at) h = (at, refl)

module _ (p : Program) (copies : List FnCopy) (placed : Placed) (is : IsPlacing p copies (map object_of placed.objects.items) (map frame_of placed.frames.items)) where
  line_inside : (c offset : ℕ) (copy : FnCopy) (o : Option FrameLine) → slice_get copies c ≡ Some copy → slice_get placed.frames.items c ≡ o → offset < frame_bytes p copy.function → offset < (frame_or o).size
  line_inside c offset copy None there e l =
      let none = line_there p copies placed is c copy there in
      absurd (none-some none.0 (sym e ∙ none.1))
  line_inside c offset copy (Some line) there e l =
      let at = is.frames_stand c copy (frame_of line) there (slice_get-map frame_of placed.frames.items c ∙ ap (option_map frame_of) e) in
      let size = ap (λ (x : content.FrameLine). x.size) at.0 in
      omega (arith, size, l)

  copy_inside : (c offset : ℕ) (o : Option FnCopy) → slice_get copies c ≡ o → HasBytes (option_map (λ (x : FnCopy). frame_bytes p x.function) o) (offset + 1) → offset < (frame (layout_of placed) c).size
  copy_inside c offset None e h = absurd h
  copy_inside c offset (Some copy) e h =
      let l = line_inside c offset copy (slice_get placed.frames.items c) e refl (omega (arith, h)) in
      let same = ap (λ (r : FrameRange). r.size) (frame_there placed.frames.items c) in
      omega (arith, l, same)

  byte_inside : (byte : Byte) → Lies (memory_of p copies) 1 byte → IsInside placed byte
  byte_inside (bytes.Frame c offset) h = copy_inside c offset (slice_get copies c) refl h
  byte_inside (bytes.Static object offset) h = tt
  byte_inside (bytes.Result r k) h = tt
  byte_inside (bytes.Device address) h = tt

  abbrev HasPlace : Byte → Type 0
  HasPlace byte = ((at : ℕ) × (address_of placed byte ≡ Some at)) × IsInside placed byte

  operand_inside : (file : Operand) (byte : Byte) → OperandLies (memory_of p copies) file → byte_named file ≡ Some byte → HasPlace byte
  operand_inside (operands.Byte named) byte h e =
      let l = subst (Lies (memory_of p copies) 1) (named_is named byte e) h in
      (some_at (address_of placed byte) (byte_placed p copies placed is byte l), byte_inside byte l)
  operand_inside (operands.Register r) byte h e = absurd (none-some byte e)
  operand_inside (operands.Saved cell) byte h e = absurd (none-some byte e)

  sym_inside : (s : Sym) → SymLies (memory_of p copies) s → (byte : Byte) → byte_of s ≡ Some byte → HasPlace byte
  sym_inside (syms.Label label) h byte e = absurd (none-some byte e)
  sym_inside (syms.SelectBank bit on) h byte e = absurd (none-some byte e)
  sym_inside (syms.SelectPage bit to) h byte e = absurd (none-some byte e)
  sym_inside (syms.Table table root) h byte e = absurd (none-some byte e)
  sym_inside (syms.File op file into) h byte e = operand_inside file byte h e
  sym_inside (syms.Movwf file) h byte e = operand_inside file byte h e
  sym_inside (syms.Clrf file) h byte e = operand_inside file byte h e
  sym_inside (syms.Bit op file bit) h byte e = operand_inside file byte h e
  sym_inside (syms.Literal op value) h byte e = absurd (none-some byte e)
  sym_inside (syms.Plain op) h byte e = absurd (none-some byte e)
  sym_inside (syms.Call to) h byte e = absurd (none-some byte e)
  sym_inside (syms.Goto to) h byte e = absurd (none-some byte e)

  pub syms_inside : (list : List Sym) → SymsLie (memory_of p copies) list → StandInside placed list
  syms_inside [] h = tt
  syms_inside (s ∷ list) h = (sym_inside s h.0, syms_inside list h.1)

pub placed_stand_inside : PlacedStandInside
placed_stand_inside p copies placed list is h = syms_inside p copies placed is list h

pub placed_have_addresses : PlacedHaveAddresses
placed_have_addresses p copies placed list is h = syms_placed p copies placed is list h
