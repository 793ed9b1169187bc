-- Each run of what the passes made stays within its code, its map, and the registers that the code names.
use Rattle.std.proofs.Common.{◌≡◌, ℕ, zero, suc, ◌+◌, ◌<◌, ◌≤◌, Bool, true, false, List, [], ◌∷◌, map, length, sum, Option, Some, refl, sym, ap, ◌∙◌, subst, arith}
use Rattle.std.specs.Prelude.{◌&&◌, nat_lt, if◌then◌else◌, slice_get, slice_index}
use Rattle.std.specs.Global.{Global}
use Rattle.std.specs.List.{All}
use Rattle.std.specs.declared.vec.Vec.{Vec}
use Rattle.std.proofs.lemmas.Bool.{ltb-true}
use Rattle.std.proofs.lemmas.List.Sums.{sum_by-cons}
use Rattle.std.proofs.lemmas.Option.{slice_get_within, get_or_from_slice_get}
use Rattle.c_typed.specs.Trees.{Program}
use Rattle.call_graph.specs.Numbers.{handler_at}
use Rattle.call_graph.specs.declared.types.FnCopy.{FnCopy}
use Rattle.pic_chip.specs.Run.{IsStart, Range}
use Rattle.pic_chip.specs.declared.Start.{Start}
use Rattle.pic_map.specs.MapContent.{MapContent, range_of}
use Rattle.pic_map.specs.declared.Placed.{Placed}
use Rattle.pic_world.specs.declared.Arrival.{Arrival}
use Rattle.core_code.specs.declared.code.Body.{Body}
use Rattle.core_code.specs.declared.code.CoreProgram.{CoreProgram}
use Rattle.core_code.specs.declared.code.FirstByte.{FirstByte}
use Rattle.ram_place.specs.Placement.{objects_have, frames_have, IsPlacing}
use Rattle.sym_code.specs.Layout.{FrameRange, near_ranges, near_frames, all_near}
use Rattle.sym_code.specs.declared.code.BlockName.TheVariants.{Copy}
use Rattle.sym_code.specs.declared.code.SymBlock.{SymBlock}
use Rattle.sym_code.specs.declared.code.Target.TheVariants as targets
use Rattle.code_place.specs.Layouts.{layout_of}
use Rattle.code_place.specs.Pages.{addresses_from, rest_of_page, start_of}
use Rattle.lower_stmt.specs.Programs.{core_of}
use Rattle.program_code.specs.Passed.{AreBlocks}
use Rattle.program_code.specs.Stated.{sizes, end_of_code, IsPaged}
use Rattle.program_code.specs.Translated.{HasCalls, IsTranslation}
use Rattle.chip_trace.specs.Arriving.{EndsBy}
use Rattle.headline.specs.Keeps.{IsNearMap, StaysWithin}
use Rattle.headline.specs.OnChip.{setting_of}
use Rattle.headline.specs.SourceOf.{source_of}
use Rattle.headline_trace.specs.Bounded.{AreInOrder}
use Rattle.headline_trace.specs.Carried.{frame_of}
use Rattle.headline_trace.specs.Linked.{IsLinked, full_setting}
use Rattle.headline_trace.specs.Selection.{reaches_in, limit_of}
use Rattle.headline_trace.specs.Registered.{BlocksNameOnly}
use Rattle.headline_trace.specs.Within.{TranslationsStayWithin}
use Rattle.headline_trace.proofs.Faithful.{all_bytes, mapped}
use Rattle.headline_trace.proofs.FewCopies.{some_at}
use Rattle.headline_trace.proofs.Fitting.{few_at}
use Rattle.headline_trace.proofs.Had.{start_had}
use Rattle.headline_trace.proofs.Linking.{translations_linked}
use Rattle.headline_trace.proofs.Standing.{made_in_order}
use Rattle.headline_trace.proofs.Staying.{objects_near, frames_near, or_left, or_right, stays}
use Rattle.headline_trace.proofs.Whole as whole

-- ---- a linked program
module _ (p : Program) (copies : List FnCopy) (bodies : List Body) (statics : List (Vec FirstByte Global)) (reaches : ℕ → ℕ → Bool) (given lean made : List SymBlock)
    (handler : Option ℕ) (placed : Placed) (at : List ℕ) (limit : Bool → ℕ) (image : List ℕ) (content : MapContent)
    (linked : IsLinked p copies bodies statics reaches given lean made handler placed at limit image content)
    (start : Start) (inputs : List ℕ) (arrivals : List Arrival) (is_start : IsStart start) (small : All (λ byte. byte < 256) inputs) where
  pub linked_stays : (named : ℕ → Bool) → BlocksNameOnly named made → (end : ℕ) → EndsBy made at end → content.main < end → (IsNearMap content → all_near (layout_of placed) ≡ true)
      → StaysWithin (source_of p copies content) content named end (setting_of content image start inputs arrivals)
  linked_stays named names end ends main near =
      stays (source_of p copies content) content made at placed handler (full_setting made handler placed at limit) (setting_of content image start inputs arrivals) (core_of p copies).first linked.assembled is_start small
      (whole.started p copies bodies statics reaches given lean made handler placed at limit image content linked start inputs arrivals is_start small)
      (whole.goes_on p copies bodies statics reaches given lean made handler placed at limit image content linked start inputs arrivals is_start small)
      linked.objects linked.frames named names end ends main near

-- ---- near maps
-- what a number is of
number_at : {A : Type 0} (xs : List A) (k : ℕ) → k < length xs → (x : A) × (slice_get xs k ≡ Some x)
number_at [] k lt = absurd (omega (arith, lt))
number_at (x ∷ xs) zero lt = (x, refl)
number_at (x ∷ xs) (suc k) lt = number_at xs k (omega (arith, lt))

placing_near : (p : Program) (copies : List FnCopy) (content : MapContent) → IsPlacing p copies content.objects content.frames → IsNearMap content
    → (near_ranges (map range_of content.objects) ≡ true) × (near_frames (map frame_of content.frames) ≡ true)
placing_near p copies content placing low = (
  objects_near content.objects
      (λ k line is empty.
      let lt = slice_get_within content.objects k line is in let long = placing.each_object in
      let s = number_at p.statics k (omega (arith, lt, long)) in
      (placing.objects_stand k s.0 line s.1 is).1.0 empty)
      (λ x e. low x (or_left (objects_have content.objects x) (frames_have content.frames x) e)),
  frames_near content.frames
      (λ k line is empty.
      let lt = slice_get_within content.frames k line is in let long = placing.each_frame in
      let s = number_at copies k (omega (arith, lt, long)) in
      (placing.frames_stand k s.0 line s.1 is).1.0 empty)
      (λ x e. low x (or_right (objects_have content.objects x) (frames_have content.frames x) e)),
)

-- ---- where the code ends
start_later : (end words : ℕ) → end ≤ start_of end words
start_later end words = by (nat_lt (rest_of_page end) words) where
  by : (b : Bool) → end ≤ (if b then end + rest_of_page end else end)
  by true = omega arith
  by false = omega arith

end_later : (end : ℕ) (blocks : List ℕ) → end ≤ end_of_code end blocks
end_later end [] = omega arith
end_later end (words ∷ blocks) = let a = start_later end words in let b = end_later (start_of end words + words) blocks in omega (arith, a, b)

ends_by : (end : ℕ) (blocks : List ℕ) (k : ℕ) → k < length blocks → slice_index (addresses_from end blocks) k + slice_index blocks k ≤ end_of_code end blocks
ends_by end [] k lt = absurd (omega (arith, lt))
ends_by end (words ∷ blocks) zero lt = end_later (start_of end words + words) blocks
ends_by end (words ∷ blocks) (suc k) lt = ends_by (start_of end words + words) blocks k (omega (arith, lt))

-- blocks that together are less than a page stand one behind the other
pub end_is : (end : ℕ) (blocks : List ℕ) → end + sum blocks < 2048 → end_of_code end blocks ≡ end + sum blocks
end_is end [] low = omega arith
end_is end (words ∷ blocks) low =
    let more : sum (words ∷ blocks) ≡ words + sum blocks = sum_by-cons (λ (n : ℕ). n) words blocks in
    let here : start_of end words ≡ end = at_once (omega (arith, low, more)) in
    let rest = end_is (end + words) blocks (omega (arith, low, more)) in
    ap (λ s. end_of_code (s + words) blocks) here ∙ rest ∙ (omega (arith, more)) where
      at_once : end + words < 2048 → start_of end words ≡ end
      at_once lt = by (nat_lt (rest_of_page end) words) refl where
        by : (b : Bool) → nat_lt (rest_of_page end) words ≡ b → (if b then end + rest_of_page end else end) ≡ end
        by false e = refl
        by true e = let over = ltb-true (rest_of_page end) words e in absurd (omega (arith, over, lt))

-- ---- what the passes made
module _ (p : Program) (copies : List FnCopy) (core : CoreProgram) (given made : List SymBlock) (placed : Placed) (at image : List ℕ) (content : MapContent)
    (t : IsTranslation p copies core given made placed at image content) where
  abbrev stated : List ℕ
  stated = sizes p t.paged.order

  abbrev end : ℕ
  end = end_of_code 0 stated

  in_order : AreInOrder copies t.paged.order made
  in_order =
      subst (λ (q : Program). AreBlocks q copies core given t.passed.lean t.passed.whole placed → HasCalls q copies → (paged : IsPaged q copies at) → AreInOrder copies paged.order made) (sym t.same)
      (λ blocks calls paged. made_in_order t.typed copies core given t.passed.lean t.passed.whole made placed at blocks t.passed.thinned calls paged) t.passed.blocks t.calls t.paged

  -- a block's address and its stated words
  ends_at : (k start : ℕ) → k < length stated → slice_get at k ≡ Some start → start + slice_index stated k ≤ end
  ends_at k start lt is =
      let here : slice_index at k ≡ start = get_or_from_slice_get at k start 0 is in
      let same = ap (λ (l : List ℕ). slice_index l k) t.paged.stand in
      let most = ends_by 0 stated k lt in
      omega (arith, here, same, most)

  ends : EndsBy made at end
  ends k block start is there =
      let few = few_at p copies at t.paged made in_order t.passed.stated k block is in
      let most = ends_at k start few.0 there in
      let words = few.1 in
      omega (arith, most, words)

  main : content.main < end
  main =
      let first = t.calls.known in
      let b = (start_had p copies core given made placed at t.passed).0.0 in
      let m = t.written.targets b 0 (targets.Block (Copy 0)) content.main t.written.main in
      let few = few_at p copies at t.paged made in_order t.passed.stated m.0 m.1 m.2 in
      let most = ends_at m.0 content.main few.0 m.3 in
      let some = some_at p copies at t.paged first m.0 few.0 in
      omega (arith, most, some)

  near : IsNearMap content → all_near (layout_of placed) ≡ true
  unfolding all_near
  near low =
      let linked = translations_linked p copies core given made placed at image content t in
      let n = placing_near p copies content (mapped p copies core given made placed at image content t).placing low in
      ap (λ (rs : List Range). near_ranges rs && near_frames (layout_of placed).frames) (sym linked.objects) ∙ ap (λ (fs : List FrameRange). near_ranges (map range_of content.objects) && near_frames fs) (sym linked.frames)
      ∙ ap (λ b. b && near_frames (map frame_of content.frames)) n.0 ∙ n.1

pub translations_within : TranslationsStayWithin
translations_within p image content named made names =
    let copies = made.copies in
    let core = made.core in
    let t = made.is in
    record {
      copies = copies;
      known = t.calls.known;
      at = made.at;
      paged = t.paged;
      all = λ start inputs arrivals is_start bytes.
          linked_stays p copies core.bodies.items core.statics.items (reaches_in p copies) made.given t.passed.lean made.made (handler_at copies) made.placed made.at (limit_of copies) image content
          (translations_linked p copies core made.given made.made made.placed made.at image content t) start inputs arrivals is_start (all_bytes inputs bytes)
          named names (end_of_code 0 (sizes p t.paged.order)) (ends p copies core made.given made.made made.placed made.at image content t) (main p copies core made.given made.made made.placed made.at image content t)
          (near p copies core made.given made.made made.placed made.at image content t);
    }
