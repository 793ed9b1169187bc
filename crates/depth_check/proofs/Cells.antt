-- No certificate is valid, whatever its cell.
use Rattle.std.proofs.Common.{◌≡◌, ℕ, ◌+◌, ◌<◌, ◌≤◌, Bool, true, false, List, refl, ⊎_elim, arith}
use Rattle.std.proofs.lemmas.Bool.{cases_lt}
use Rattle.depth_check.specs.Certificate.{Certificate}
use Rattle.depth_check.specs.Valid.{is_valid}
use Rattle.depth_check.proofs.Threads.{lo, hi}

abbrev pub NoneBelow : List ℕ → ℕ → Type 0
NoneBelow image cell = (c : Certificate) → is_valid image c ≡ true → c.cell < cell → ⊥

abbrev pub NoneAt : List ℕ → Bool → ℕ → Type 0
NoneAt image interrupts cell = (c : Certificate) → is_valid image c ≡ true → c.cell ≡ cell → c.interrupts ≡ interrupts → ⊥

pub none_first : (image : List ℕ) (cell : ℕ) → cell ≡ 0x70 → NoneBelow image cell
none_first image cell e c v lt = let l = lo image c v in omega (arith, l, e, lt)

pub none_next : (image : List ℕ) (cell : ℕ) → NoneBelow image cell → NoneAt image false cell → NoneAt image true cell → NoneBelow image (cell + 1)
none_next image cell n a b c v lt = ⊎_elim (λ l. n c v l) (λ l. by c.interrupts refl (same c.cell cell l lt)) (cases_lt c.cell cell) where
  same : (x y : ℕ) → y ≤ x → x < y + 1 → x ≡ y
  same x y l k = omega arith

  by : (i : Bool) → c.interrupts ≡ i → c.cell ≡ cell → ⊥
  by false e k = a c v k e
  by true e k = b c v k e

pub none_last : (image : List ℕ) (cell : ℕ) → 0x80 ≤ cell → NoneBelow image cell → (c : Certificate) → is_valid image c ≡ true → ⊥
none_last image cell le n c v = let h = hi image c v in n c v (omega (arith, h, le))
