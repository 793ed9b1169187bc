-- Of what the passes make the headline holds.
use Rattle.std.proofs.Common.{◌≡◌, ℕ, ◌<◌, ◌≤◌, true, List, map, Some, sym, ap, ◌∙◌, subst, arith}
use Rattle.std.specs.Prelude.{slice_get, slice_index, slice_index_or}
use Rattle.std.specs.List.{All, Contains}
use Rattle.std.proofs.lemmas.Option.{slice_get-get_or}
use Rattle.c_typed.specs.Trees.{Program}
use Rattle.call_graph.specs.declared.types.FnCopy.{FnCopy}
use Rattle.chip_trace.specs.Arriving.{is_small}
use Rattle.core_code.specs.declared.code.CoreProgram.{CoreProgram}
use Rattle.headline.specs.SourceOf.{IsMapOf, MayBothBeLive}
use Rattle.pic_chip.specs.Instructions.{is_modelled}
use Rattle.pic_isa.specs.Lookup.{row_of}
use Rattle.pic_map.specs.MapContent.{MapContent, ObjectLine, FrameLine}
use Rattle.pic_map.specs.MapView.{object_of, frame_of}
use Rattle.pic_map.specs.declared.Placed.{Placed}
use Rattle.program_code.specs.Translated.{IsTranslation}
use Rattle.live_frames.specs.Memory.{AreDisjoint}
use Rattle.ram_place.specs.Placement.{IsPlacing}
use Rattle.sym_code.specs.declared.code.BlockName.{BlockName}
use Rattle.sym_code.specs.declared.code.Sym.{Sym}
use Rattle.sym_code.specs.declared.code.SymBlock.{SymBlock}
use Rattle.bank_page.specs.Selected.{names_of}
use Rattle.headline_trace.specs.Faithful.{TranslationsAreFaithful}
use Rattle.headline_trace.proofs.Assembling.{assembly_had}
use Rattle.headline_trace.proofs.Linking.{translations_follow}
use Rattle.headline_trace.proofs.Lowerable.{first_at}
use Rattle.headline_trace.proofs.Named.{tally, named_once, own_list}
use Rattle.headline_trace.proofs.Statics.{some_is}
use Rattle.headline_trace.proofs.Thinned.{names_kept}
use Rattle.headline_trace.proofs.Worded.{all_modelled}

-- bytes by their places are bytes
pub all_bytes : (inputs : List ℕ) → ((k : ℕ) → slice_index inputs k < 256) → All (λ (byte : ℕ). byte < 256) inputs
all_bytes inputs low k d lt =
    let same : slice_index_or inputs k d ≡ slice_index_or inputs k 0 = some_is (slice_index_or inputs k d) (slice_index_or inputs k 0) (sym (slice_get-get_or inputs k d lt) ∙ slice_get-get_or inputs k 0 lt) in
    let byte : slice_index_or inputs k 0 < 256 = low k in
    omega (arith, same, byte)

there : {A : Type 0} (xs : List A) (x : A) (in_list : Contains xs x) → slice_get xs in_list.0 ≡ Some x
there xs x in_list = slice_get-get_or xs in_list.0 x in_list.1 ∙ ap Some in_list.2

module _ (p : Program) (copies : List FnCopy) (core : CoreProgram) (given made : List SymBlock) (placed : Placed) (at image : List ℕ) (content : MapContent)
    (t : IsTranslation p copies core given made placed at image content) where
  once : (name : BlockName) → tally name (names_of made) ≤ 1
  once name =
      let one = named_once core copies given t.passed.blocks.joined name in
      let same = ap (tally name) (names_kept p copies core given made placed at t.passed) in
      omega (arith, one, same)

  small : (k : ℕ) (block : SymBlock) → slice_get made k ≡ Some block → (i : ℕ) (s : Sym) → slice_get block.list.items i ≡ Some s → is_small s ≡ true
  small k block is i s there =
      (assembly_had p copies core given made placed at image content t.passed t.calls t.spread t.written (first_at p copies at t.paged)).small block.name i s
      (ap (λ (l : List Sym). slice_get l i) (own_list made k block is (once block.name)) ∙ there)

  words : (a : ℕ) → a < 8192 → is_modelled (row_of (slice_index image a)) ≡ true
  words = all_modelled placed made at image t.written.words t.written.erased small

  pub mapped : IsMapOf p copies content.objects content.frames
  mapped = record {
    known = t.calls.known;
    placing = subst (λ (fs : List FrameLine). IsPlacing p copies content.objects fs) (sym t.written.frames)
        (subst (λ (os : List ObjectLine). IsPlacing p copies os (map frame_of placed.frames.items)) (sym t.written.objects) t.spread.placing);
  }

  frame_at : (k : ℕ) (line : FrameLine) → slice_get content.frames k ≡ Some line → slice_get (map frame_of placed.frames.items) k ≡ Some line
  frame_at k line is = sym (ap (λ (l : List FrameLine). slice_get l k) t.written.frames) ∙ is

  object_at : (k : ℕ) (line : ObjectLine) → slice_get content.objects k ≡ Some line → slice_get (map object_of placed.objects.items) k ≡ Some line
  object_at k line is = sym (ap (λ (l : List ObjectLine). slice_get l k) t.written.objects) ∙ is

  apart : (i j : ℕ) (x y : FrameLine) → (i ≡ j → ⊥) → slice_get content.frames i ≡ Some x → slice_get content.frames j ≡ Some y → MayBothBeLive p copies i j
      → AreDisjoint x.address x.size y.address y.size
  apart i j x y differ is_x is_y live = t.spread.frames i j live.one live.other x y differ live.at_one live.at_other (frame_at i x is_x) (frame_at j y is_y) live.live

  clear : (x : FrameLine) (y : ObjectLine) → Contains content.frames x → Contains content.objects y → AreDisjoint x.address x.size y.address y.size
  clear x y in_frames in_objects byte of_frame of_object =
      t.spread.clear in_objects.0 in_frames.0 y x (object_at in_objects.0 y (there content.objects y in_objects)) (frame_at in_frames.0 x (there content.frames x in_frames)) byte of_object of_frame

pub translations_faithful : TranslationsAreFaithful
translations_faithful p image content made =
    let copies = made.copies in
    let t = made.is in
    record {
      copies = copies;
      faithful = record {
        words = words p copies made.core made.given made.made made.placed made.at image content t;
        mapped = mapped p copies made.core made.given made.made made.placed made.at image content t;
        main = t.written.range.main;
        halt = t.written.range.halt;
        apart = apart p copies made.core made.given made.made made.placed made.at image content t;
        clear_of_objects = clear p copies made.core made.given made.made made.placed made.at image content t;
        runs = λ start inputs arrivals is_start bytes. translations_follow p image content made start inputs arrivals is_start (all_bytes inputs bytes);
      };
    }
