-- All copies have together no more words than program memory: they stand in it one behind the other.
use Rattle.std.proofs.Common.{◌≡◌, ℕ, suc, ◌+◌, ◌-◌, ◌^◌, ◌<◌, ◌≤◌, inl, inr, List, [], ◌∷◌, length, map, min, slice_index, sum, refl, arith}
use Rattle.std.proofs.Math.Nat.{min-eq_left, min-eq_right}
use Rattle.std.proofs.lemmas.Bool.{cases_lt}
use Rattle.std.proofs.lemmas.Bool.Decides.{nat_tests}
use Rattle.std.proofs.lemmas.List.Sorted.{sum_by-IsPermutation}
use Rattle.std.proofs.lemmas.List.Sums.{sum_by-cons}
use Rattle.std.specs.List.{sum_by}
use Rattle.c_typed.specs.Nodes.{capped}
use Rattle.c_typed.specs.Trees.{Program}
use Rattle.c_typed.specs.Words.{start_size}
use Rattle.call_graph.specs.declared.types.FnCopy.{FnCopy}
use Rattle.code_place.proofs.Placing.{within_of}
use Rattle.code_place.specs.Pages.{start_of, addresses_from, addresses, AreWithinPages}
use Rattle.program_code.specs.Stated.{copy_words, sizes, IsPaged}
use Rattle.ram_place.specs.Sizes.{block_words}

-- ---- blocks that stand one behind the other
start_from : (end words : ℕ) → end ≤ start_of end words
start_from end words = grind (arith, nat_tests)

-- where each ends within a limit, so do all together
ends_within : (end limit : ℕ) (blocks : List ℕ) → end ≤ limit → ((k : ℕ) → k < length blocks → slice_index (addresses_from end blocks) k + slice_index blocks k ≤ limit) → end + sum blocks ≤ limit
ends_within end limit [] le each = omega arith
ends_within end limit (words ∷ blocks) le each =
    let more : sum (words ∷ blocks) ≡ words + sum blocks = sum_by-cons (λ (n : ℕ). n) words blocks in
    let here : start_of end words + words ≤ limit = each 0 (omega arith) in
    let rest = ends_within (start_of end words + words) limit blocks here (λ k lt. each (suc k) (omega arith)) in
    let from = start_from end words in
    omega arith

-- ---- stated words
-- a count that is small as far as a number holds it is that number
capped_is : (n : ℕ) → capped n ≤ 2048 → n ≤ capped n
capped_is n le = by n (2 ^ 64 - 1) (omega arith) le
  where
    by : (n most : ℕ) → 2048 < most → min n most ≤ 2048 → n ≤ min n most
    by n most lt le = elim (cases_lt most n) [
      | inl over ↦ absurd (let e = min-eq_right {n = most} {m = n} (omega (arith, over)) in omega (arith, e, lt, le))
      | inr under ↦ (let e = min-eq_left {n = n} {m = most} under in omega (arith, e))
    ]

words_stated : (p : Program) (copies : List FnCopy) → AreWithinPages (map (copy_words p) copies) → sum_by (λ copy. block_words p copy.function) copies ≤ sum (map (copy_words p) copies)
unfolding copy_words
words_stated p [] within = omega arith
words_stated p (copy ∷ copies) within =
    let first : copy_words p copy ≤ 2048 = within 0 (omega arith) in
    let is = capped_is (block_words p copy.function) first in
    let rest = words_stated p copies (λ k lt. within (suc k) (omega arith)) in
    let left = sum_by-cons (λ (c : FnCopy). block_words p c.function) copy copies in
    let right : sum (copy_words p copy ∷ map (copy_words p) copies) ≡ copy_words p copy + sum (map (copy_words p) copies) = sum_by-cons (λ (n : ℕ). n) (copy_words p copy) (map (copy_words p) copies) in
    omega arith

pub all_words : (p : Program) (copies : List FnCopy) (at : List ℕ) → IsPaged p copies at → sum_by (λ copy. block_words p copy.function) copies ≤ 8192
all_words p copies at paged =
    let all = ends_within 0 8192 (sizes p paged.order) (omega arith) (λ k lt. let w = within_of (addresses (sizes p paged.order)) (sizes p paged.order) refl paged.pages paged.memory k lt in omega arith) in
    let more : sum (sizes p paged.order) ≡ capped (start_size p) + sum (map (copy_words p) paged.order) = sum_by-cons (λ (n : ℕ). n) (capped (start_size p)) (map (copy_words p) paged.order) in
    let stated = words_stated p paged.order (λ k lt. paged.pages (suc k) (omega arith)) in
    let same = sum_by-IsPermutation (λ (c : FnCopy). block_words p c.function) copies paged.order paged.same in
    omega arith
