-- Laws of the placing of blocks.
use Rattle.std.proofs.Common.{◌≡◌, ℕ, zero, suc, ◌+◌, ◌-◌, ◌*◌, ◌%◌, ◌<◌, ◌≤◌, List, [], ◌∷◌, length, slice_index, sum, refl, ap, ◌∙◌, arith}
use Rattle.std.proofs.lemmas.Bool.Decides.{nat_tests}
use Rattle.std.proofs.lemmas.List.Sums.{sum_by-cons}
use Rattle.code_place.specs.Pages.{start_of, addresses_from, addresses, AreWithinPages, AreInMemory}

-- the next page begins at its place 0
next_page : (end : ℕ) → (end + (2048 - end % 2048)) % 2048 ≡ 0
next_page end = omega arith

-- a block that is at most a page lies whole in one
start_whole : (end words : ℕ) → words ≤ 2048 → start_of end words % 2048 + words ≤ 2048
start_whole end words fits =
    let next = next_page end in
    grind (arith, nat_tests)

start_from : (end words : ℕ) → end ≤ start_of end words
start_from end words = grind (arith, nat_tests)

-- there are as many addresses as blocks
pub one_each : (end : ℕ) (blocks : List ℕ) → length (addresses_from end blocks) ≡ length blocks
one_each end [] = refl
one_each end (words ∷ blocks) = ap suc (one_each (start_of end words + words) blocks)

tail_within : (words : ℕ) (blocks : List ℕ) → AreWithinPages (words ∷ blocks) → AreWithinPages blocks
tail_within words blocks within k below = within (suc k) (omega (arith, below))

-- each block lies whole in one page
pub whole : (end : ℕ) (blocks : List ℕ) → AreWithinPages blocks → (k : ℕ) → k < length blocks → slice_index (addresses_from end blocks) k % 2048 + slice_index blocks k ≤ 2048
whole end [] within k below = absurd (omega (arith, below))
whole end (words ∷ blocks) within zero below = start_whole end words (within 0 below)
whole end (words ∷ blocks) within (suc k) below = whole (start_of end words + words) blocks (tail_within words blocks within) k (omega (arith, below))

-- each block begins behind the end of what stands before it
from : (end : ℕ) (blocks : List ℕ) (k : ℕ) → k < length blocks → end ≤ slice_index (addresses_from end blocks) k
from end [] k below = absurd (omega (arith, below))
from end (words ∷ blocks) zero below = start_from end words
from end (words ∷ blocks) (suc k) below = omega (arith, start_from end words, from (start_of end words + words) blocks k (omega (arith, below)))

-- and ends before those behind it begin
pub in_order : (end : ℕ) (blocks : List ℕ) (j k : ℕ) → j < k → k < length blocks → slice_index (addresses_from end blocks) j + slice_index blocks j ≤ slice_index (addresses_from end blocks) k
in_order end [] j k less below = absurd (omega (arith, below))
in_order end (words ∷ blocks) j zero less below = absurd (omega (arith, less))
in_order end (words ∷ blocks) zero (suc k) less below = from (start_of end words + words) blocks k (omega (arith, below))
in_order end (words ∷ blocks) (suc j) (suc k) less below = in_order (start_of end words + words) blocks j k (omega (arith, less)) (omega (arith, below))

-- the first block begins where the first page does
start_first : (words : ℕ) → words ≤ 2048 → start_of 0 words ≡ 0
start_first words fits = grind (arith, nat_tests)

first : (blocks : List ℕ) → AreWithinPages blocks → 0 < length blocks → slice_index (addresses blocks) 0 ≡ 0
first [] within some = absurd (omega (arith, some))
first (words ∷ blocks) within some = start_first words (within 0 some)

-- the same of a list of addresses that is the placing
pub first_of : (at blocks : List ℕ) → at ≡ addresses blocks → AreWithinPages blocks → 0 < length blocks → slice_index at 0 ≡ 0
first_of at blocks same within some = rw same (first blocks within some)

pub whole_of : (at blocks : List ℕ) → at ≡ addresses blocks → AreWithinPages blocks → (k : ℕ) → k < length blocks → slice_index at k % 2048 + slice_index blocks k ≤ 2048
whole_of at blocks same within k below = rw same (whole 0 blocks within k below)

pub in_order_of : (at blocks : List ℕ) → at ≡ addresses blocks → (j k : ℕ) → j < k → k < length blocks → slice_index at j + slice_index blocks j ≤ slice_index at k
in_order_of at blocks same j k less below = rw same (in_order 0 blocks j k less below)

-- what begins in the memory and lies whole in a page ends in it
ends_within : (at words : ℕ) → at % 2048 + words ≤ 2048 → at < 8192 → at + words ≤ 8192
ends_within at words whole below = omega arith

pub within_of : (at blocks : List ℕ) → at ≡ addresses blocks → AreWithinPages blocks → AreInMemory at → (k : ℕ) → k < length blocks → slice_index at k + slice_index blocks k ≤ 8192
within_of at blocks same within below k less =
    let count : length at ≡ length blocks = ap length same ∙ one_each 0 blocks in
    ends_within (slice_index at k) (slice_index blocks k) (whole_of at blocks same within k less) (below k (omega (arith, count, less)))

-- blocks that are at most a page have few words
pub few_words : (blocks : List ℕ) → AreWithinPages blocks → sum blocks ≤ 2048 * length blocks
few_words [] within = omega arith
few_words (words ∷ blocks) within =
    let rest = few_words blocks (tail_within words blocks within) in
    let first : words ≤ 2048 = within 0 (omega arith) in
    let more : sum (words ∷ blocks) ≡ words + sum blocks = sum_by-cons (λ (n : ℕ). n) words blocks in
    omega (arith, rest, first, more)
