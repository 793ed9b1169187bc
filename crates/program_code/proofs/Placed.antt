-- Where a copy's variables stand in its frame, and in which bank the frame stands.
use Rattle.std.proofs.Common.{◌≡◌, ℕ, zero, suc, ◌+◌, ◌/◌, ◌≤◌, ◌<◌, ◌⊎◌, inl, inr, Bool, true, false, ◌&&◌, ◌||◌, nat_le, get_or, if◌then◌else◌, List, [], ◌∷◌, map, Option, Some, None, slice_get, slice_index, slice_index_or, refl, sym, ap, ◌∙◌, subst, ⊎_elim, leb-true, eqb-true, lt-ltb, arith}
use Rattle.std.proofs.lemmas.List.Quantifiers.{position-Some}
use Rattle.std.proofs.lemmas.Option.{none-some, same_Some, slice_get-get_or}
use Rattle.std.specs.List.{list_all}
use Rattle.c_typed.specs.Chains.{helper_number}
use Rattle.c_typed.specs.Room.{statements_room, variables_bytes, frame_size}
use Rattle.c_typed.specs.Sameness.{is_scalar, is_void}
use Rattle.c_typed.specs.Sound.{type_is_there, object_fits, initial_fits, target_fits, structure_fits, static_fits, param_fits, local_fits, result_fits, function_fits, statements_fit}
use Rattle.c_typed.specs.Trees.{StructureTree, StaticTree, VariableTree, FunctionTree, Program}
use Rattle.c_typed.specs.Types.{type_bytes}
use Rattle.c_typed.specs.Views.{size_of, structure_of}
use Rattle.c_typed.specs.declared.types.Structure.{Structure}
use Rattle.c_typed.specs.declared.calls.FnId.{FnId}
use Rattle.c_typed.specs.declared.calls.FnId.TheVariants as callee
use Rattle.c_typed.specs.declared.calls.Helper.{Helper}
use Rattle.c_typed.specs.declared.calls.Helper.TheVariants as helper
use Rattle.c_typed.specs.declared.types.Ty.{Ty}
use Rattle.c_typed.specs.declared.types.Ty.TheVariants.{Void, Int, Pointer, Array, Struct}
use Rattle.call_graph.specs.Numbers as numbers
use Rattle.call_graph.specs.Numbers.{is_helper, is_copy_of}
use Rattle.call_graph.specs.declared.types.FnCopy.{FnCopy}
use Rattle.core_puts.specs.Bytes.{beyond}
use Rattle.lower_expr.specs.Layout.{static_number}
use Rattle.lower_stmt.specs.Frames.{offsets_from, end_from, base_of, layout_for}
use Rattle.pic_map.specs.declared.FrameLine.{FrameLine}
use Rattle.pic_map.specs.declared.Placed.{Placed}
use Rattle.pic_world.specs.Roots.{same_root}
use Rattle.pic_world.specs.declared.Root.{Root}
use Rattle.ram_place.specs.Helpers as helpers
use Rattle.ram_place.specs.Sizes.{frame_bytes}
use Rattle.sym_code.specs.Layout.{FrameRange, no_frame, frame, lies_in, is_whole}
use Rattle.sym_code.specs.declared.code.Sym.{Sym}
use Rattle.code_place.specs.Addresses.{frame_byte}
use Rattle.code_place.specs.Layouts.{frame_of, layout_of}
use Rattle.program_code.specs.Bounds.{IsBanked, AreBanked, NamesWithin, IsProgram, ProgramsKeepSizes, HasFrame}
use Rattle.program_code.specs.Naming.{Memory, HasBytes}
use Rattle.program_code.proofs.Chain.{never}
use Rattle.program_code.proofs.Typing.{and_first, and_last}
use Rattle.program_code.proofs.Rooms.{Keeps, list_there}
use Rattle.program_code.proofs.Standing.{Stand, small_object, scalar_few, beyond_within}

-- ---- variables
end_within : (sizes : List ℕ) (at : ℕ) (vs : List VariableTree) → end_from sizes at vs ≤ at + variables_bytes sizes vs
end_within sizes at [] = omega arith
end_within sizes at (v ∷ vs) =
    let more = end_within sizes (beyond at (type_bytes sizes v.ty.ty)) vs in
    let step = beyond_within at (type_bytes sizes v.ty.ty) in
    omega (arith, more, step)

offset_within : (sizes : List ℕ) (at : ℕ) (vs : List VariableTree) (k : ℕ) (v : VariableTree) → slice_get vs k ≡ Some v → slice_index (offsets_from sizes at vs) k + type_bytes sizes v.ty.ty ≤ at + variables_bytes sizes vs
offset_within sizes at [] k v e = absurd (none-some v e)
offset_within sizes at (w ∷ vs) zero v e =
    let same = ap (λ (x : VariableTree). type_bytes sizes x.ty.ty) (same_Some w v e) in
    omega (arith, same)
offset_within sizes at (w ∷ vs) (suc k) v e =
    let more = offset_within sizes (beyond at (type_bytes sizes w.ty.ty)) vs k v e in
    let step = beyond_within at (type_bytes sizes w.ty.ty) in
    omega (arith, more, step)

-- ---- structures' sizes
sizes_kept : (structures : List Structure) → map size_of structures ≡ map (λ (s : StructureTree). s.size) (map structure_of structures)
sizes_kept [] = refl
sizes_kept (s ∷ structures) = ap (λ (l : List ℕ). s.size ∷ l) (sizes_kept structures)

pub programs_keep_sizes : ProgramsKeepSizes
programs_keep_sizes p sound = record { sound = sound; sizes = sizes_kept p.structures.items }

-- ---- what a function of a sound program keeps
pub function_keeps : (p : Program) (function : ℕ) (f : FunctionTree) → IsProgram p → slice_get p.functions function ≡ Some f → Keeps p f × (statements_fit p f true false false f.body ≡ true)
function_keeps p function f is there =
    let functions = list_all (function_fits p) p.functions in
    let statics = list_all (static_fits p) p.statics in
    let structures = list_all (structure_fits p) p.structures in
    let rest = and_last (list_all (target_fits p) p.targets) (structures && (statics && functions)) is.sound in
    let later = and_last structures (statics && functions) rest in
    let fits = list_there (function_fits p) p.functions function f (and_last statics functions later) there in
    let body = statements_fit p f true false false f.body in
    let locals = list_all (local_fits p) f.locals in
    let params = list_all (param_fits p) f.params in
    let parts = and_last (result_fits p f.result) (params && (locals && body)) fits in
    let last = and_last params (locals && body) parts in (
      record {
        sizes = is.sizes;
        structures = and_first structures (statics && functions) rest;
        statics = and_first statics functions later;
        params = and_first params (locals && body) parts;
        locals = and_first locals body last;
      },
      and_last locals body last,
    )

void_none : (p : Program) (ty : Ty) → is_void ty ≡ true → type_bytes p.sizes ty ≤ 4
void_none p Void e = omega arith
void_none p (Int t) e = never e
void_none p (Pointer row) e = never e
void_none p (Array element count size) e = never e
void_none p (Struct number) e = never e

-- a function of a sound program returns four bytes at most
few_or_none : (p : Program) (ty : Ty) → result_fits p ty ≡ true → type_bytes p.sizes ty ≤ 4
few_or_none p ty e = by_either (is_scalar ty) refl (and_first (is_scalar ty || is_void ty) (type_is_there p ty) e)
  where
    by_either : (a : Bool) → is_scalar ty ≡ a → (a || is_void ty) ≡ true → type_bytes p.sizes ty ≤ 4
    by_either true e h = scalar_few p.sizes ty e
    by_either false e h = void_none p ty h

pub results_few : (p : Program) → IsProgram p → (function : ℕ) (g : FunctionTree) → slice_get p.functions function ≡ Some g → type_bytes p.sizes g.result ≤ 4
results_few p is function g there =
    let functions = list_all (function_fits p) p.functions in
    let statics = list_all (static_fits p) p.statics in
    let structures = list_all (structure_fits p) p.structures in
    let rest = and_last (list_all (target_fits p) p.targets) (structures && (statics && functions)) is.sound in
    let fits = list_there (function_fits p) p.functions function g (and_last statics functions (and_last structures (statics && functions) rest)) there in
    few_or_none p g.result (and_first (result_fits p g.result) (list_all (param_fits p) g.params && (list_all (local_fits p) g.locals && statements_fit p g true false false g.body)) fits)

-- The frames of the copies are there, each with the bytes of its function.
abbrev pub HasFrames : Program → List FnCopy → Memory → Type 0
HasFrames p copies memory = (k : ℕ) (copy : FnCopy) → slice_get copies k ≡ Some copy → memory.frames k ≡ Some (frame_bytes p copy.function)

-- The static objects are there, each with the bytes of its type.
abbrev pub HasObjects : Program → Memory → Type 0
HasObjects p memory = (k : ℕ) (s : StaticTree) → slice_get p.statics k ≡ Some s → HasBytes (memory.objects (static_number k)) (type_bytes p.sizes s.ty.ty)

pub static_at : (p : Program) → IsProgram p → (k : ℕ) (s : StaticTree) → slice_get p.statics k ≡ Some s → static_fits p s ≡ true
static_at p is k s there =
    let functions = list_all (function_fits p) p.functions in
    let statics = list_all (static_fits p) p.statics in
    let structures = list_all (structure_fits p) p.structures in
    let rest = and_last (list_all (target_fits p) p.targets) (structures && (statics && functions)) is.sound in
    list_there (static_fits p) p.statics k s (and_first statics functions (and_last structures (statics && functions) rest)) there

-- None has more than 65,535.
pub objects_small : (p : Program) → IsProgram p → (k : ℕ) (s : StaticTree) → slice_get p.statics k ≡ Some s → type_bytes p.sizes s.ty.ty ≤ 65535
objects_small p is k s there = small_object p s.ty.ty (and_first (object_fits p s.ty.ty) (initial_fits p (type_bytes p.sizes s.ty.ty) 0 s.initial) (static_at p is k s there))

module _ (p : Program) (copies : List FnCopy) (root : Root) (f : FunctionTree) where
  pub stands : (c : ℕ) (memory : Memory) → IsProgram p → Keeps p f → memory.frames c ≡ Some (frame_size p.sizes f) → HasObjects p memory → Stand c (frame_size p.sizes f) memory (layout_for p copies root f) p f
  stands c memory is keeps own objects = record {
    keeps = keeps;
    sizes = refl;
    own = own;
    statics = objects;
    results = results_few p is;
    params = λ k v e. let inside = offset_within p.sizes 0 f.params k v e in omega (arith, inside);
    locals = λ k v e.
        let inside = offset_within p.sizes (end_from p.sizes 0 f.params) f.locals k v e in
        let front = end_within p.sizes 0 f.params in
        omega (arith, inside, front);
  }

  pub base_within : base_of p.sizes f + statements_room p.sizes f.body ≤ frame_size p.sizes f
  base_within =
      let front = end_within p.sizes 0 f.params in
      let all = end_within p.sizes (end_from p.sizes 0 f.params) f.locals in
      omega (arith, front, all)

-- ---- helpers' copies: their frames have a helper's bytes
frames_in_order : List ℕ
frames_in_order = 8 ∷ 16 ∷ 8 ∷ 8 ∷ 8 ∷ 8 ∷ 16 ∷ 16 ∷ 16 ∷ 16 ∷ 4 ∷ 4 ∷ 4 ∷ 8 ∷ 8 ∷ 8 ∷ []

frame_by : (h : Helper) → helpers.frame_bytes h ≡ slice_index frames_in_order (helper_number h)
unfolding frames_in_order
frame_by helper.Mul2 = refl
frame_by helper.Mul4 = refl
frame_by helper.Divu2 = refl
frame_by helper.Divs2 = refl
frame_by helper.Remu2 = refl
frame_by helper.Rems2 = refl
frame_by helper.Divu4 = refl
frame_by helper.Divs4 = refl
frame_by helper.Remu4 = refl
frame_by helper.Rems4 = refl
frame_by helper.Shl2 = refl
frame_by helper.Shru2 = refl
frame_by helper.Shrs2 = refl
frame_by helper.Shl4 = refl
frame_by helper.Shru4 = refl
frame_by helper.Shrs4 = refl

room_same : (p : Program) (h : Helper) (id : FnId) → is_helper h id ≡ true → frame_bytes p id ≡ helpers.frame_bytes h
room_same p h (callee.User function) e = never e
room_same p h (callee.Helper other) e = frame_by other ∙ ap (slice_index frames_in_order) (eqb-true (helper_number other) (helper_number h) e) ∙ sym (frame_by h)

pub helpers_roomy : (p : Program) (copies : List FnCopy) (memory : Memory) (root : Root) → HasFrames p copies memory → (none : FnCopy) (h : Helper) (d : ℕ) → numbers.copy_of copies root h ≡ Some d → HasBytes (memory.frames d) (helpers.frame_bytes h)
helpers_roomy p copies memory root frames none h d e =
    let at = position-Some (is_copy_of root h) copies d none e in
    let copy = get_or copies d none in
    let is = and_last (same_root copy.root root) (is_helper h copy.function) at.1 in
    let room = frames d copy (slice_get-get_or copies d none at.0) in
    let same = room_same p h copy.function is in
    subst (λ (o : Option ℕ). HasBytes o (helpers.frame_bytes h)) (sym room) (omega (arith, same))

-- ---- the bank of a frame
abbrev pub frame_or : Option FrameLine → FrameRange
frame_or None = no_frame
frame_or (Some line) = frame_of line

pub frame_there : (lines : List FrameLine) (c : ℕ) → slice_index_or (map frame_of lines) c no_frame ≡ frame_or (slice_get lines c)
frame_there [] c = refl
frame_there (line ∷ lines) zero = refl
frame_there (line ∷ lines) (suc c) = frame_there lines c

or_split : (a b : Bool) → (a || b) ≡ true → (a ≡ true) ⊎ (b ≡ true)
or_split true b e = inl refl
or_split false b e = inr e

abbrev InOneBank : ℕ → ℕ → Type 0
InOneBank address offset = (address + offset < 512) × ((address + offset) / 128 ≡ address / 128)

in_region : (first end address size offset : ℕ) → offset < size → (first ≤ address → address + offset < end → InOneBank address offset) → lies_in first end address size ≡ true → InOneBank address offset
in_region first end address size offset l one e =
    let low = leb-true first address (and_first (nat_le first address) (nat_le (address + size) end) e) in
    let high = leb-true (address + size) end (and_last (nat_le first address) (nat_le (address + size) end) e) in
    one low (omega arith)

whole_bank : (address size offset : ℕ) → is_whole address size ≡ true → offset < size → InOneBank address offset
whole_bank address size offset e l =
    ⊎_elim
    (λ e. ⊎_elim
    (λ e. ⊎_elim (in_region 0x20 0x70 address size offset l (λ a b. (omega arith, omega arith))) (in_region 0xa0 0xf0 address size offset l (λ a b. (omega arith, omega arith)))
    (or_split (lies_in 0x20 0x70 address size) (lies_in 0xa0 0xf0 address size) e))
    (in_region 0x110 0x170 address size offset l (λ a b. (omega arith, omega arith)))
    (or_split (lies_in 0x20 0x70 address size || lies_in 0xa0 0xf0 address size) (lies_in 0x110 0x170 address size) e))
    (in_region 0x190 0x1f0 address size offset l (λ a b. (omega arith, omega arith)))
    (or_split (lies_in 0x20 0x70 address size || lies_in 0xa0 0xf0 address size || lies_in 0x110 0x170 address size) (lies_in 0x190 0x1f0 address size) e)

bank_there : (o : Option FrameLine) (r : FrameRange) (offset : ℕ) → r ≡ frame_or o → is_whole r.address r.size ≡ true → offset < r.size → (at : ℕ) × (frame_byte o offset ≡ Some at) × (at / 128 ≡ r.address / 128)
bank_there None r offset is e l = let size = ap (λ (g : FrameRange). g.size) is in absurd (omega arith)
bank_there (Some line) r offset is e l =
    let h = whole_bank r.address r.size offset e l in
    let same = ap (λ (g : FrameRange). g.address) is in
    let within : line.address + offset < 512 = subst (λ a. a + offset < 512) same h.0 in (
      line.address + offset,
      ap (λ (b : Bool). if b then Some (line.address + offset) else None) (lt-ltb (line.address + offset) 512 within),
      subst (λ a. (a + offset) / 128 ≡ r.address / 128) same h.1,
    )

frame_banked : (p : Program) (placed : Placed) (number : ℕ) (f : FunctionTree) → HasFrame p placed number f → (offset : ℕ) → offset < frame_size p.sizes f → IsBanked placed number ((frame (layout_of placed) number).address / 128) offset
frame_banked p placed number f has offset l =
    let room = has.room in
    bank_there (slice_get placed.frames.items number) (frame (layout_of placed) number) offset (frame_there placed.frames.items number) has.whole (omega (arith, l, room))

-- what is named within the frame stands in its bank
pub all_banked : (p : Program) (placed : Placed) (number : ℕ) (f : FunctionTree) → HasFrame p placed number f → (list : List Sym) → NamesWithin number (frame_size p.sizes f) list → AreBanked placed number ((frame (layout_of placed) number).address / 128) list
all_banked p placed number f has [] h = tt
all_banked p placed number f has (s ∷ list) h = ((λ offset e. frame_banked p placed number f has offset (h.0 offset e)), all_banked p placed number f has list h.1)
