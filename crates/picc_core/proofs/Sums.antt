-- Blocks that have addresses have few words, and none is over a page.
use Rattle.std.proofs.Common.{◌≡◌, ℕ, zero, suc, ◌+◌, ◌-◌, ◌%◌, ◌<◌, ◌≤◌, List, [], ◌∷◌, length, slice_index, sum, ap, ◌∙◌, subst, arith}
use Rattle.std.proofs.lemmas.Bool.Decides.{nat_tests}
use Rattle.std.proofs.lemmas.List.Sums.{sum_by-cons}
use Rattle.std.specs.List.Sorted.{IsNonDecreasingBy, IsPermutation}
use Rattle.c_typed.specs.Trees.{Program}
use Rattle.call_graph.specs.declared.types.FnCopy.{FnCopy}
use Rattle.code_place.specs.Pages.{start_of, addresses_from, addresses, AreWithinPages, AreInMemory}
use Rattle.picc_core.specs.Blocks.{HasBlocks}
use Rattle.program_code.specs.Order.{rank}
use Rattle.program_code.specs.Stated.{sizes}

from : (end words : ℕ) → end ≤ start_of end words
from end words = grind (arith, nat_tests)

few_from : (end : ℕ) (blocks : List ℕ) → end ≤ 8192 → ((k : ℕ) → k < length blocks → slice_index (addresses_from end blocks) k + slice_index blocks k ≤ 8192)
    → end + sum blocks ≤ 8192
few_from end [] low within = omega arith
few_from end (words ∷ blocks) low within =
    let first : start_of end words + words ≤ 8192 = within 0 (omega arith) in
    let rest = few_from (start_of end words + words) blocks first (λ k below. within (suc k) (omega (arith, below))) in
    let begin = from end words in
    let step : sum (words ∷ blocks) ≡ words + sum blocks = sum_by-cons (λ (n : ℕ). n) words blocks in
    omega (arith, rest, begin, step)

pub few : (blocks at : List ℕ) → at ≡ addresses blocks → ((k : ℕ) → k < length blocks → slice_index at k + slice_index blocks k ≤ 8192) → sum blocks ≤ 8192
few blocks at is within =
    let few : 0 + sum blocks ≤ 8192 = few_from 0 blocks (omega arith) (rw (is) at within) in
    omega (arith, few)

within_pages : (blocks sizes : List ℕ) → blocks ≡ sizes → AreWithinPages blocks → AreWithinPages sizes
within_pages blocks sizes is within = subst AreWithinPages is within

in_memory : (blocks sizes : List ℕ) → blocks ≡ sizes → AreInMemory (addresses blocks) → AreInMemory (addresses sizes)
in_memory blocks sizes is within = subst (λ (l : List ℕ). AreInMemory (addresses l)) is within

-- the blocks of copies in some order, as `pages` answers for their words
pub blocks_had : (p : Program) (copies order : List FnCopy) (blocks at : List ℕ) (total : ℕ) → IsPermutation copies order → IsNonDecreasingBy rank order → blocks ≡ sizes p order → AreWithinPages blocks → AreInMemory (addresses blocks)
    → at ≡ addresses blocks → ((k : ℕ) → k < length blocks → slice_index at k + slice_index blocks k ≤ 8192) → total ≡ sum blocks → HasBlocks p copies at total
blocks_had p copies order blocks at total same sorted is pages memory placed within total_is =
    let most = few blocks at placed within in
    record {
      order = order;
      same = same;
      sorted = sorted;
      placed = placed ∙ ap addresses is;
      pages = within_pages blocks (sizes p order) is pages;
      memory = in_memory blocks (sizes p order) is memory;
      sum = total_is ∙ ap sum is;
      within = omega (arith, most, total_is);
    }
