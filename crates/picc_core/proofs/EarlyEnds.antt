-- Blocks of few words stand one behind the other in the first page, so the last one ends with the sum of all words.
use Rattle.std.proofs.Common.{◌≡◌, ℕ, ◌+◌, ◌-◌, ◌%◌, ◌<◌, ◌≤◌, List, [], ◌∷◌, sum, arith}
use Rattle.std.proofs.lemmas.Bool.Decides.{nat_tests}
use Rattle.std.proofs.lemmas.List.Sums.{sum_by-cons}
use Rattle.code_place.specs.Pages.{start_of}
use Rattle.program_code.specs.Stated.{end_of_code}

stays : (end words : ℕ) → end + words ≤ 1024 → start_of end words ≡ end
stays end words low = grind (arith, nat_tests)

ends_from : (end : ℕ) (blocks : List ℕ) → end + sum blocks ≤ 1024 → end_of_code end blocks ≤ 1024
ends_from end [] low = omega (arith, low)
ends_from end (words ∷ blocks) low =
    let step : sum (words ∷ blocks) ≡ words + sum blocks = sum_by-cons (λ (n : ℕ). n) words blocks in
    let here : start_of end words ≡ end = stays end words (omega (arith, low, step)) in
    ends_from (start_of end words + words) blocks (omega (arith, here, step, low))

pub early_end : (blocks : List ℕ) → sum blocks ≤ 1024 → end_of_code 0 blocks ≤ 1024
early_end blocks few = ends_from 0 blocks (omega (arith, few))
