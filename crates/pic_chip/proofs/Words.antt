-- Erased memory is words.
use Rattle.std.proofs.Common.{◌≡◌, ℕ, ◌<◌, ⊎_elim, replicate, slice_index, arith}
use Rattle.std.proofs.lemmas.List.{get_or-replicate, get_or_past, length-replicate}
use Rattle.std.proofs.lemmas.Bool.{cases_lt}
use Rattle.pic_chip.specs.Words.{AreWords}

each_blank : (n at : ℕ) → slice_index (replicate n 0x3fff) at < 0x4000
each_blank n at =
    ⊎_elim
    (λ below. let e : slice_index (replicate n 0x3fff) at ≡ 0x3fff = get_or-replicate n at 0x3fff 0 below in omega (arith, e))
    (λ past. let e : slice_index (replicate n 0x3fff) at ≡ 0 = get_or_past (replicate n 0x3fff) at 0 (omega (arith, length-replicate {A = ℕ} n 0x3fff)) in omega (arith, e))
    (cases_lt at n)

pub blank_words : AreWords (replicate 8192 0x3fff)
blank_words = record { count = length-replicate {A = ℕ} 8192 0x3fff; each = each_blank 8192 }
