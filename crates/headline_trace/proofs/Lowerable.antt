-- What the link of lowering is given: what is placed fits a region of memory, and what has an address fits a page.
use Rattle.std.proofs.Common.{◌≡◌, ℕ, suc, ◌-◌, ◌^◌, ◌<◌, ◌≤◌, inl, inr, List, map, Some, min, sym, ap, ◌∙◌, subst, arith}
use Rattle.std.specs.Prelude.{slice_get, slice_index_or, if◌then◌else◌}
use Rattle.std.proofs.Math.Nat.{min-eq_left, min-eq_right}
use Rattle.std.proofs.lemmas.Bool.{cases_lt, le-ltb}
use Rattle.std.proofs.lemmas.List.{get_or-map, length-map}
use Rattle.std.proofs.lemmas.List.Sorted.{Contains-permutation}
use Rattle.std.proofs.lemmas.Option.{slice_get_within, get_or_from_slice_get}
use Rattle.c_typed.specs.Nodes.{capped}
use Rattle.c_typed.specs.Trees.{StaticTree, Program}
use Rattle.c_typed.specs.Types.{type_bytes}
use Rattle.c_typed.specs.Words.{start_size}
use Rattle.call_graph.specs.declared.types.FnCopy.{FnCopy}
use Rattle.core_code.specs.declared.code.CoreProgram.{CoreProgram}
use Rattle.pic_map.specs.MapContent.{MapContent}
use Rattle.pic_map.specs.declared.Placed.{Placed}
use Rattle.program_code.specs.Stated.{copy_words, IsPaged}
use Rattle.program_code.specs.Translated.{IsTranslation}
use Rattle.ram_place.specs.Sizes.{block_words}
use Rattle.sym_code.specs.declared.code.SymBlock.{SymBlock}
use Rattle.lower_trace.specs.Lowering.{IsSmallStatic, IsSmallCopy, IsLowerable}
use Rattle.headline_trace.proofs.AllWords.{all_words}
use Rattle.headline_trace.proofs.Entered.{at_is}
use Rattle.headline_trace.proofs.Laid.{is_there, object_few, frame_few}

-- ---- stated words
-- a count that is small as far as a number holds it is small
small_of : (n most bound : ℕ) → bound < most → min n most ≤ bound → n ≤ bound
small_of n most bound lt le = elim (cases_lt most n) [
  | inl over ↦ absurd (let e = min-eq_right {n = most} {m = n} (omega (arith, over)) in omega (arith, e, lt, le))
  | inr under ↦ (let e = min-eq_left {n = n} {m = most} under in omega (arith, e, le))
]

pub capped_small : (n : ℕ) → capped n ≤ 2048 → n ≤ 2048
capped_small n le = small_of n (2 ^ 64 - 1) 2048 (omega arith) le

module _ (p : Program) (copies : List FnCopy) (at : List ℕ) (paged : IsPaged p copies at) where
  pub block_few : (c : ℕ) (copy : FnCopy) → slice_get copies c ≡ Some copy → block_words p copy.function ≤ 2048
  unfolding copy_words
  block_few c copy is =
      let among = Contains-permutation copies paged.order copy paged.same (c, slice_get_within copies c copy is, at_is copies c copy copy is) in
      let long = length-map paged.order (copy_words p) in
      let lt = among.1 in
      let within : slice_index_or (map (copy_words p) paged.order) among.0 0 ≤ 2048 = paged.pages (suc among.0) (omega arith) in
      let here : slice_index_or (map (copy_words p) paged.order) among.0 0 ≡ copy_words p copy = get_or-map (copy_words p) paged.order among.0 copy 0 lt ∙ ap (copy_words p) among.2 in
      capped_small (block_words p copy.function) (omega arith)

  -- the first block stands at 0000h
  pub first_at : slice_get at 0 ≡ Some 0
  first_at =
      let words = capped (start_size p) in
      let within : words ≤ 2048 = paged.pages 0 (omega arith) in
      ap (λ (l : List ℕ). slice_get l 0) paged.stand ∙ ap (λ b. Some (if b then 2048 else 0)) (le-ltb 2048 words within)

-- what fits a region of memory is small
small_static : (p : Program) (s : StaticTree) → type_bytes p.sizes s.ty.ty ≤ 96 → IsSmallStatic p s
small_static p s few = let within : type_bytes p.sizes s.ty.ty ≤ 32767 = omega (arith, few) in within

pub lowerable : (p : Program) (copies : List FnCopy) (core : CoreProgram) (given made : List SymBlock) (placed : Placed) (at image : List ℕ) (content : MapContent)
    → IsTranslation p copies core given made placed at image content → IsLowerable p copies
lowerable p copies core given made placed at image content t = record {
  typed = t.typed;
  same = t.same;
  sound = t.passed.blocks.sound;
  numbers = t.passed.blocks.numbers;
  roots = t.passed.blocks.roots;
  acyclic = t.calls.acyclic;
  depth = t.calls.depth;
  exact = t.calls.exact;
  shallow = t.calls.shallow;
  known = t.calls.known;
  few_statics = t.few;
  small_statics = λ k d lt.
      let s = is_there p.statics k lt in
      subst (IsSmallStatic p) (sym (get_or_from_slice_get p.statics k s.0 d s.1)) (small_static p s.0 (object_few p copies placed t.spread.placing k s.0 s.1));
  small_copies = λ k d lt.
      let copy = is_there copies k lt in
      subst (IsSmallCopy p) (sym (get_or_from_slice_get copies k copy.0 d copy.1))
      (record { frame = frame_few p copies placed t.spread.placing k copy.0 copy.1; block = block_few p copies at t.paged k copy.0 copy.1 });
  few_words = all_words p copies at t.paged;
}
