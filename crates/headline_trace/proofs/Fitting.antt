-- A block with at most its stated words has room at its address.
use Rattle.std.proofs.Common.{◌≡◌, ℕ, zero, suc, ◌+◌, ◌<◌, ◌≤◌, inl, inr, List, map, length, Option, Some, sym, ap, ◌∙◌, subst, arith}
use Rattle.std.specs.Prelude.{slice_get, slice_index, slice_index_or}
use Rattle.std.proofs.Math.Nat.{min-eq_left}
use Rattle.std.proofs.lemmas.Bool.{cases_lt}
use Rattle.std.proofs.lemmas.List.{get_or-map, length-map}
use Rattle.std.proofs.lemmas.Option.{slice_get_within, slice_get-get_or, slice_get_past, get_or_from_slice_get}
use Rattle.c_typed.specs.Nodes.{capped}
use Rattle.c_typed.specs.Trees.{Program}
use Rattle.c_typed.specs.Words.{start_size}
use Rattle.call_graph.specs.declared.types.FnCopy.{FnCopy}
use Rattle.code_place.proofs.Placing.{one_each, whole_of, in_order_of}
use Rattle.code_place.specs.Pages.{addresses}
use Rattle.code_place.specs.Sizes.{IsBefore, HasRoom, Stands}
use Rattle.program_code.specs.Stated.{copy_words, sizes, IsPaged, words_of_copy, words_for, IsStated, AreStated}
use Rattle.ram_place.specs.Sizes.{block_words}
use Rattle.sym_code.specs.Words.{words_in}
use Rattle.sym_code.specs.declared.code.SymBlock.{SymBlock}
use Rattle.headline_trace.specs.Bounded.{IsBlockFor, AreInOrder, BlocksFit}
use Rattle.headline_trace.proofs.Lowerable.{capped_small}

-- a count that is small is what is kept of it
capped_is : (n : ℕ) → capped n ≤ 2048 → capped n ≡ n
capped_is n le = let few = capped_small n le in min-eq_left (omega (arith, few))

module _ (p : Program) (copies : List FnCopy) (at : List ℕ) (paged : IsPaged p copies at) where
  abbrev stated : List ℕ
  stated = sizes p paged.order

  long : length at ≡ length stated
  long = ap length paged.stand ∙ one_each 0 stated

  low : (k : ℕ) → k < length stated → slice_index at k < 8192
  low k lt =
      let same = ap (λ (l : List ℕ). slice_index l k) paged.stand in
      let size = one_each 0 stated in
      let below : slice_index (addresses stated) k < 8192 = paged.memory k (omega (arith, lt, size)) in
      omega (arith, same, below)

  next_is : (k words : ℕ) → k < length stated → words ≤ slice_index stated k → IsBefore (slice_index at k + words) (slice_get at (k + 1))
  next_is k words lt few = elim (cases_lt (k + 1) (length stated)) [
    | inl inside ↦ (
        let size = long in
        let there : slice_get at (k + 1) ≡ Some (slice_index at (k + 1)) = slice_get-get_or at (k + 1) 0 (omega (arith, inside, size)) in
        let before = in_order_of at stated paged.stand k (k + 1) (omega arith) inside in
        let step : slice_index at k + words ≤ slice_index at (k + 1) = omega (arith, before, few) in
        subst (IsBefore (slice_index at k + words)) (sym there) step)
    | inr past ↦ (
        let size = long in
        let none = slice_get_past at (k + 1) (omega (arith, past, size)) in
        let whole = whole_of at stated paged.stand paged.pages k lt in
        let below = low k lt in
        let end : slice_index at k + words ≤ 8192 = omega (arith, whole, below, few) in
        subst (IsBefore (slice_index at k + words)) (sym none) end)
  ]

  room : (k : ℕ) (block : SymBlock) → k < length stated → words_in block.list.items ≤ slice_index stated k → Stands block (slice_get at k) (slice_get at (k + 1))
  room k block lt few =
      let size = long in
      let there : slice_get at k ≡ Some (slice_index at k) = slice_get-get_or at k 0 (omega (arith, lt, size)) in
      let whole = whole_of at stated paged.stand paged.pages k lt in
      let start : HasRoom (slice_index at k) (words_in block.list.items) (slice_get at (k + 1)) = (low k lt, omega (arith, whole, few), next_is k (words_in block.list.items) lt few) in
      subst (λ (o : Option ℕ). Stands block o (slice_get at (k + 1))) (sym there) start

  -- of the start block, and of the others, no more words than are stated
  first_few : (block : SymBlock) → words_in block.list.items ≤ start_size p → words_in block.list.items ≤ slice_index stated 0
  first_few block few =
      let within : capped (start_size p) ≤ 2048 = paged.pages 0 (omega arith) in
      let same = capped_is (start_size p) within in
      omega (arith, few, same)

  later_few : (k : ℕ) (block : SymBlock) → IsBlockFor copies paged.order k block → IsStated p copies block → (suc k < length stated) × (words_in block.list.items ≤ slice_index stated (suc k))
  unfolding copy_words
  later_few k block is few =
      let lt = slice_get_within paged.order k is.copy is.in_order in
      let size = length-map paged.order (copy_words p) in
      let here : slice_index_or (map (copy_words p) paged.order) k 0 ≡ copy_words p is.copy = get_or-map (copy_words p) paged.order k is.copy 0 lt ∙ ap (copy_words p) (get_or_from_slice_get paged.order k is.copy is.copy is.in_order) in
      let within : slice_index_or (map (copy_words p) paged.order) k 0 ≤ 2048 = paged.pages (suc k) (omega (arith, lt, size)) in
      let same = capped_is (block_words p is.copy.function) (omega (arith, here, within)) in
      let words : words_for p copies block.name ≡ block_words p is.copy.function = ap (words_for p copies) is.named ∙ ap (words_of_copy p) is.there in
      let most : words_in block.list.items ≤ words_for p copies block.name = few in
      (omega (arith, lt, size), omega (arith, most, here, same, words))

  -- so no block has more
  pub few_at : (made : List SymBlock) → AreInOrder copies paged.order made → AreStated p copies made → (k : ℕ) (block : SymBlock) → slice_get made k ≡ Some block
      → (k < length stated) × (words_in block.list.items ≤ slice_index stated k)
  few_at made in_order each zero block is =
      let words : words_for p copies block.name ≡ start_size p = ap (words_for p copies) (in_order.first block is) in
      let few : words_in block.list.items ≤ words_for p copies block.name = each 0 block is in
      (omega arith, first_few block (omega (arith, few, words)))
  few_at made in_order each (suc k) block is = later_few k block (in_order.behind k block is) (each (suc k) block is)

pub blocks_fit : BlocksFit
blocks_fit p copies made at paged in_order stated k block is =
    let few = few_at p copies at paged made in_order stated k block is in
    room p copies at paged k block few.0 few.1
