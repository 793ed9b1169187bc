-- An image that is filled word by word, each ported.
use Rattle.std.proofs.Common.{◌≡◌, ℕ, ◌+◌, ◌<◌, ◌≤◌, ⊎_elim, List, map, length, replicate, slice_index, slice_set, sym, ap, ◌∙◌, subst, arith}
use Rattle.std.proofs.lemmas.Bool.{cases_lt}
use Rattle.std.proofs.lemmas.Grind.{same_number_lists}
use Rattle.std.proofs.lemmas.List.{get_or-set_same, get_or-set_other, length-set, length-map, length-replicate}
use Rattle.pic_chip.specs.Words.{AreWords}
use Rattle.chip_84a.specs.Port.{port_word, IsPorted}
use Rattle.chip_84a.proofs.Ported.{at_map, image_ported}

-- the words below n are ported
pub record IsFilled (given made : List ℕ) (n : ℕ) : Type 0 where
  pub count : length made ≡ 8192
  -- the given image was looked at, once there is one
  pub given_count : 0 < n → length given ≡ 8192
  pub each : (k : ℕ) → k < n → slice_index made k ≡ port_word (slice_index given k)

pub begins : (given made : List ℕ) → made ≡ replicate 8192 0x3fff → IsFilled given made 0
begins given made e = record {
  count = ap (λ (xs : List ℕ). length xs) e ∙ length-replicate {A = ℕ} 8192 0x3fff;
  given_count = λ lt. absurd (omega (arith, lt));
  each = λ k lt. absurd (omega (arith, lt));
}

pub goes_on : (given made : List ℕ) (n word : ℕ) (after : List ℕ) → IsFilled given made n → n < 8192 → AreWords given → word ≡ port_word (slice_index given n) → after ≡ slice_set made n word → IsFilled given after (n + 1)
goes_on given made n word after f lt w e s =
    subst (λ xs. IsFilled given xs (n + 1)) (sym s) (record {
      count = length-set made n word ∙ f.count;
      given_count = λ _. w.count;
      each = λ k lk. ⊎_elim
          (λ below. get_or-set_other made n k word 0 (λ q. omega (arith, q, below)) ∙ f.each k below)
          (λ past. at_n k (omega (arith, lk, past)))
          (cases_lt k n);
    }) where
      room : n < length made
      room = let c = f.count in omega (arith, c, lt)

      at_n : (k : ℕ) → n ≡ k → slice_index (slice_set made n word) k ≡ port_word (slice_index given k)
      at_n k q = subst (λ j. slice_index (slice_set made n word) j ≡ port_word (slice_index given j)) q (get_or-set_same made n word 0 room ∙ e)

pub ends : (given made : List ℕ) (n : ℕ) → IsFilled given made n → 8192 ≤ n → n ≤ 8192 → made ≡ map port_word given
ends given made n f low high =
    same_number_lists made (map port_word given) (f.count ∙ sym (length-map given port_word ∙ f.given_count (omega (arith, low))))
    (λ k lt. f.each k (let c = f.count in omega (arith, c, lt, low)) ∙ sym (at_map given k))

pub rows_stand : (given made : List ℕ) → made ≡ map port_word given → IsPorted given made
rows_stand given made e = subst (IsPorted given) (sym e) (image_ported given)
