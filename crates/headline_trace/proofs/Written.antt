-- Addresses and sizes of what the passes make are such as a map file can tell.
use Rattle.std.proofs.Common.{◌≡◌, ℕ, zero, suc, ◌+◌, ◌<◌, ◌≤◌, inl, inr, Bool, true, false, List, [], ◌∷◌, Option, Some, None, refl, ◌∙◌, subst, arith}
use Rattle.std.specs.Prelude.{slice_get}
use Rattle.std.specs.List.{All}
use Rattle.std.specs.Option.{option_or}
use Rattle.std.proofs.lemmas.Option.{slice_get_within}
use Rattle.c_typed.specs.Trees.{Program}
use Rattle.call_graph.specs.declared.types.FnCopy.{FnCopy}
use Rattle.code_place.specs.Places.{at_if, first_place, label_at}
use Rattle.code_place.specs.Sizes.{HasRoom, Stands}
use Rattle.core_code.specs.declared.code.CoreProgram.{CoreProgram}
use Rattle.pic_map.specs.MapContent.{ObjectLine, FrameLine}
use Rattle.pic_map.specs.MapFile.{IsName}
use Rattle.pic_map.specs.MapText.{AreObjects, AreFrames}
use Rattle.pic_map.specs.declared.Placed.{Placed}
use Rattle.program_code.specs.Passed.{IsPassed}
use Rattle.live_frames.specs.Memory as memory
use Rattle.live_frames.specs.Memory.{regions, IsLowest}
use Rattle.ram_place.specs.Placement.{IsPlacing}
use Rattle.sym_code.specs.Programs.{same_name}
use Rattle.sym_code.specs.Words.{words_in}
use Rattle.sym_code.specs.declared.code.BlockName.TheVariants.{Copy}
use Rattle.sym_code.specs.declared.code.Label.TheVariants.{Halt}
use Rattle.sym_code.specs.declared.code.SymBlock.{SymBlock}
use Rattle.headline_trace.specs.Written.{MapsAreWritten}
use Rattle.headline_trace.proofs.Ended.{label_inside}
use Rattle.headline_trace.proofs.Laid.{is_there}
use Rattle.headline_trace.proofs.Members.{Has}
use Rattle.headline_trace.proofs.Paged.{made_ends}
use Rattle.headline_trace.proofs.Statics.{some_is}

-- ---- lines
pub record IsLow (address size : ℕ) : Type 0 where
  pub within : address < 0x200
  pub most : size ≤ 352

lowest_low : (taken : ℕ → Type 0) (size address : ℕ) → IsLowest taken regions size address → IsLow address size
lowest_low taken size address (inl h) = let low = h.0.0.0 in let high = h.0.0.1 in record { within = omega (arith, low, high); most = omega (arith, low, high) }
lowest_low taken size address (inr (full, inl h)) = let low = h.0.0.0 in let high = h.0.0.1 in record { within = omega (arith, low, high); most = omega (arith, low, high) }
lowest_low taken size address (inr (full, inr (more, inl h))) = let low = h.0.0.0 in let high = h.0.0.1 in record { within = omega (arith, low, high); most = omega (arith, low, high) }
lowest_low taken size address (inr (full, inr (more, inr (rest, inl h)))) = let low = h.0.0.0 in let high = h.0.0.1 in record { within = omega (arith, low, high); most = omega (arith, low, high) }
lowest_low taken size address (inr (full, inr (more, inr (rest, inr h)))) = absurd (h.1)

stands_low : (taken : ℕ → Type 0) (size address : ℕ) → memory.Stands taken size address → IsLow address size
stands_low taken zero address stands = let is = stands.0 refl in record { within = omega (arith, is); most = omega arith }
stands_low taken (suc size) address stands = lowest_low taken (suc size) address (stands.1 (omega arith))

objects_in : (lines : List ObjectLine) → ((k : ℕ) (line : ObjectLine) → slice_get lines k ≡ Some line → IsLow line.address line.size) → All (λ (line : ObjectLine). IsName line.name) lines → AreObjects lines
objects_in [] low names = tt
objects_in (line ∷ lines) low names =
    let here = low 0 line refl in
    (record { named = names 0 line (omega arith); within = here.within; most = here.most }, objects_in lines (λ k l is. low (suc k) l is) (λ k d lt. names (suc k) d (omega (arith, lt))))

frames_in : (lines : List FrameLine) → ((k : ℕ) (line : FrameLine) → slice_get lines k ≡ Some line → IsLow line.address line.size) → All (λ (line : FrameLine). IsName line.name) lines → AreFrames lines
frames_in [] low names = tt
frames_in (line ∷ lines) low names =
    let here = low 0 line refl in
    (record { named = names 0 line (omega arith); within = here.within; most = here.most }, frames_in lines (λ k l is. low (suc k) l is) (λ k d lt. names (suc k) d (omega (arith, lt))))

module _ (p : Program) (copies : List FnCopy) (objects : List ObjectLine) (frames : List FrameLine) (placing : IsPlacing p copies objects frames) where
  object_low : (k : ℕ) (line : ObjectLine) → slice_get objects k ≡ Some line → IsLow line.address line.size
  object_low k line is =
      let lt = slice_get_within objects k line is in
      let same = placing.each_object in
      let s = is_there p.statics k (omega (arith, lt, same)) in
      stands_low _ line.size line.address (placing.objects_stand k s.0 line s.1 is).1

  frame_low : (k : ℕ) (line : FrameLine) → slice_get frames k ≡ Some line → IsLow line.address line.size
  frame_low k line is =
      let lt = slice_get_within frames k line is in
      let same = placing.each_frame in
      let copy = is_there copies k (omega (arith, lt, same)) in
      stands_low _ line.size line.address (placing.frames_stand k copy.0 line copy.1 is).1

-- ---- places
pub record IsAt (place : SymBlock → ℕ → Option ℕ) (blocks : List SymBlock) (at : List ℕ) (a : ℕ) : Type 0 where
  pub number : ℕ
  pub block : SymBlock
  pub start : ℕ
  pub is : slice_get blocks number ≡ Some block
  pub there : slice_get at number ≡ Some start
  pub gives : place block start ≡ Some a

first_found : (place : SymBlock → ℕ → Option ℕ) (blocks : List SymBlock) (at : List ℕ) (a : ℕ) → first_place place blocks at ≡ Some a → IsAt place blocks at a
first_found place [] at a is = absurd (cc)
first_found place (block ∷ blocks) [] a is = absurd (cc)
first_found place (block ∷ blocks) (start ∷ at) a is = by (place block start) refl is (λ later. first_found place blocks at a later) where
  by : (o : Option ℕ) → place block start ≡ o → option_or o (first_place place blocks at) ≡ Some a → (first_place place blocks at ≡ Some a → IsAt place blocks at a) → IsAt place (block ∷ blocks) (start ∷ at) a
  by (Some b) e found below = record { number = 0; block = block; start = start; is = refl; there = refl; gives = e ∙ found }
  by None e found below =
      let f = below found in
      record { number = suc f.number; block = f.block; start = f.start; is = f.is; there = f.there; gives = f.gives }

at_itself : (b : Bool) (start a : ℕ) → at_if b start ≡ Some a → start ≡ a
at_itself true start a e = some_is start a e
at_itself false start a e = absurd (cc)

has_at : (xs : List SymBlock) (k : ℕ) (x : SymBlock) → slice_get xs k ≡ Some x → Has xs x
has_at [] k x is = absurd (cc)
has_at (y ∷ xs) zero x is = inl (some_is y x is)
has_at (y ∷ xs) (suc k) x is = inr (has_at xs k x is)

module _ (p : Program) (copies : List FnCopy) (core : CoreProgram) (given made : List SymBlock) (placed : Placed) (at : List ℕ) (passed : IsPassed p copies core given made placed at) where
  room : (k : ℕ) (block : SymBlock) (start : ℕ) → slice_get made k ≡ Some block → slice_get at k ≡ Some start → HasRoom start (words_in block.list.items) (slice_get at (k + 1))
  room k block start is there = subst (λ (o : Option ℕ). Stands block o (slice_get at (k + 1))) there (passed.fit k block is)

  main_low : (main : ℕ) → first_place (λ block start. at_if (same_name block.name (Copy 0)) start) made at ≡ Some main → main < 0x2000
  main_low main is =
      let f = first_found (λ block start. at_if (same_name block.name (Copy 0)) start) made at main is in
      let fits = room f.number f.block f.start f.is f.there in
      let low = fits.0 in
      let same = at_itself (same_name f.block.name (Copy 0)) f.start main f.gives in
      omega (arith, low, same)

  halt_low : (halt : ℕ) → first_place (λ block start. label_at Halt start block.list.items) made at ≡ Some halt → halt < 0x2000
  halt_low halt is =
      let f = first_found (λ block start. label_at Halt start block.list.items) made at halt is in
      let fits = room f.number f.block f.start f.is f.there in
      let low = fits.0 in
      let whole = fits.1 in
      let inside = label_inside Halt true f.start f.block.list.items halt (made_ends p copies core given made placed at passed f.block (has_at made f.number f.block f.is)) f.gives in
      let high = inside.1 in
      omega (arith, low, whole, high)

pub maps_written : MapsAreWritten
maps_written p copies core given made placed at content passed placing main halt objects frames = record {
  main = main_low p copies core given made placed at passed content.main main;
  halt = halt_low p copies core given made placed at passed content.halt halt;
  objects = objects_in content.objects (object_low p copies content.objects content.frames placing) objects;
  frames = frames_in content.frames (frame_low p copies content.objects content.frames placing) frames;
}
