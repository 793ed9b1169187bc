-- What is cut to a type's width has the lowest 32 bits alone.
use Rattle.std.proofs.Common.{◌≡◌, ◌<◌, ◌≤◌, ◌-◌, ⊎_elim, ℤ, pos, negsuc, ◌-ℤ◌, arith}
use Rattle.std.specs.Int.{int_rem_euclid}
use Rattle.std.proofs.lemmas.Bool.{cases_lt}
use Rattle.std.proofs.lemmas.Int.{ints}
use Rattle.c_ints.specs.Range.{cut}
use Rattle.c_ints.specs.declared.types.IntTy.{IntTy}
use Rattle.c_ints.specs.declared.types.IntTy.TheVariants.{Char, SChar, UChar, Short, UShort, Int, UInt, Long, ULong}

pub cut_low : (ty : IntTy) (z : ℤ) → cut ty (int_rem_euclid z (pos 0x1_0000_0000)) ≡ cut ty z
cut_low Char (pos a) = omega (arith, ints)
cut_low Char (negsuc a) = let e : negsuc a -ℤ pos 0 ≡ negsuc a = omega (arith, ints) in rw e (omega (arith, ints))
cut_low SChar (pos a) = omega (arith, ints)
cut_low SChar (negsuc a) =
    ⊎_elim
    (λ (l : a < 0x80). let e : negsuc a -ℤ negsuc 0x7f ≡ pos (0x7f - a) = omega (arith, ints) in rw e (omega (arith, ints)))
    (λ (l : 0x80 ≤ a). let e : negsuc a -ℤ negsuc 0x7f ≡ negsuc (a - 0x80) = omega (arith, ints) in rw e (omega (arith, ints)))
    (cases_lt a 0x80)
cut_low UChar (pos a) = omega (arith, ints)
cut_low UChar (negsuc a) = let e : negsuc a -ℤ pos 0 ≡ negsuc a = omega (arith, ints) in rw e (omega (arith, ints))
cut_low Short (pos a) = omega (arith, ints)
cut_low Short (negsuc a) =
    ⊎_elim
    (λ (l : a < 0x8000). let e : negsuc a -ℤ negsuc 0x7fff ≡ pos (0x7fff - a) = omega (arith, ints) in rw e (omega (arith, ints)))
    (λ (l : 0x8000 ≤ a). let e : negsuc a -ℤ negsuc 0x7fff ≡ negsuc (a - 0x8000) = omega (arith, ints) in rw e (omega (arith, ints)))
    (cases_lt a 0x8000)
cut_low UShort (pos a) = omega (arith, ints)
cut_low UShort (negsuc a) = let e : negsuc a -ℤ pos 0 ≡ negsuc a = omega (arith, ints) in rw e (omega (arith, ints))
cut_low Int (pos a) = omega (arith, ints)
cut_low Int (negsuc a) =
    ⊎_elim
    (λ (l : a < 0x8000). let e : negsuc a -ℤ negsuc 0x7fff ≡ pos (0x7fff - a) = omega (arith, ints) in rw e (omega (arith, ints)))
    (λ (l : 0x8000 ≤ a). let e : negsuc a -ℤ negsuc 0x7fff ≡ negsuc (a - 0x8000) = omega (arith, ints) in rw e (omega (arith, ints)))
    (cases_lt a 0x8000)
cut_low UInt (pos a) = omega (arith, ints)
cut_low UInt (negsuc a) = let e : negsuc a -ℤ pos 0 ≡ negsuc a = omega (arith, ints) in rw e (omega (arith, ints))
cut_low Long (pos a) = omega (arith, ints)
cut_low Long (negsuc a) =
    ⊎_elim
    (λ (l : a < 0x80000000). let e : negsuc a -ℤ negsuc 0x7fffffff ≡ pos (0x7fffffff - a) = omega (arith, ints) in rw e (omega (arith, ints)))
    (λ (l : 0x80000000 ≤ a). let e : negsuc a -ℤ negsuc 0x7fffffff ≡ negsuc (a - 0x80000000) = omega (arith, ints) in rw e (omega (arith, ints)))
    (cases_lt a 0x80000000)
cut_low ULong (pos a) = omega (arith, ints)
cut_low ULong (negsuc a) = let e : negsuc a -ℤ pos 0 ≡ negsuc a = omega (arith, ints) in rw e (omega (arith, ints))
