-- The order of a generated program's blocks, and their sizes.
use Rattle.std.proofs.Common.{◌≡◌, ℕ, zero, suc, ◌+◌, ◌≤◌, nat_le, nat_lt, true, List, [], ◌∷◌, ◌++◌, length, refl, ap, ◌∙◌, arith}
use Rattle.std.specs.Prelude.{slice_index, slice_index_or}
use Rattle.std.specs.List.{list_all}
use Rattle.std.specs.List.Sorted.{IsNonDecreasingBy}
use Rattle.std.proofs.lemmas.Bool.{leb-true, ltb-true}
use Rattle.std.proofs.lemmas.List.Sorted.{IsPermutation-sym, IsPermutation-to_front}
use Rattle.call_graph.specs.declared.types.FnCopy.{FnCopy}
use Rattle.code_place.specs.Pages.{AreWithinPages, AreInMemory}
use Rattle.program_code.specs.Order.{rank}
use Rattle.picc_core.specs.Accepted.{IsCodeOrder}
use Rattle.generated_laws.specs.Placed.{main_copy, copies_from, generated_copies, generated_order}
use Rattle.generated_laws.proofs.Members.{passes_at}

rank_at : (i n k j : ℕ) (d : FnCopy) → i + n ≡ k → j ≤ n → rank (slice_index_or (copies_from i n ++ main_copy k ∷ []) j d) ≡ i + j
rank_at i zero k zero d e le = omega (arith, e)
rank_at i zero k (suc j) d e le = absurd (omega (arith, le))
rank_at i (suc n) k zero d e le = omega arith
rank_at i (suc n) k (suc j) d e le = let h = rank_at (suc i) n k j d (omega (arith, e)) (omega (arith, le)) in let same : suc i + j ≡ i + suc j = omega arith in h ∙ same

order_long : (i n k : ℕ) → length (copies_from i n ++ main_copy k ∷ []) ≡ suc n
order_long i zero k = refl
order_long i (suc n) k = ap suc (order_long (suc i) n k)

rises : (k : ℕ) → IsNonDecreasingBy rank (generated_order k)
rises k i j d le within =
    let long = order_long 0 k k in
    let first = rank_at 0 k k i d (omega arith) (omega (arith, le, within, long)) in
    let second = rank_at 0 k k j d (omega arith) (omega (arith, within, long)) in
    omega (arith, first, second, le)

pub in_order : (k : ℕ) → IsCodeOrder (generated_copies k) (generated_order k)
in_order k =
    record {
      same = IsPermutation-sym (generated_order k) (generated_copies k) (IsPermutation-to_front (copies_from 0 k) (main_copy k));
      sorted = rises k;
    }

pub within_pages : (blocks : List ℕ) → list_all (λ n. nat_le n 2048) blocks ≡ true → AreWithinPages blocks
within_pages blocks all k lt = leb-true (slice_index blocks k) 2048 (passes_at (λ n. nat_le n 2048) blocks all k lt)

pub in_memory : (at : List ℕ) → list_all (λ n. nat_lt n 8192) at ≡ true → AreInMemory at
in_memory at all k lt = ltb-true (slice_index at k) 8192 (passes_at (λ n. nat_lt n 8192) at all k lt)
