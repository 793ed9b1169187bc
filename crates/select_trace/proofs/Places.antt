-- Own bytes stand in general bytes, each in another one.
use Rattle.std.proofs.Common.{◌≡◌, ℕ, ◌+◌, ◌<◌, ◌≤◌, Bool, true, false, Option, Some, None, refl, ap, sym, ◌∙◌, arith}
use Rattle.std.specs.Prelude.{nat_eq, nat_lt, nat_le, ◌&&◌, ◌||◌, if◌then◌else◌}
use Rattle.std.proofs.lemmas.Bool.{agree_below_at, eqb-true}
use Rattle.std.proofs.lemmas.Bool.Decides.{nat_tests}
use Rattle.pic_chip.specs.Address as chip
use Rattle.sym_code.specs.Layout.{general_at, is_whole}
use Rattle.select_trace.specs.Silent.{number_or_zero}

-- an address of a frame's byte or of a result
abbrev pub is_place : ℕ → Bool
is_place a = is_whole a 1 || (nat_le 0x70 a && nat_lt a 0x78)

abbrev is_back : ℕ → Option ℕ → Bool
is_back a None = false
is_back a (Some k) = nat_eq (chip.address_of k) a

abbrev is_sound : ℕ → Bool
unfolding general_at
is_sound a = if is_place a then is_back a (general_at a) else true

all_sound : (a : ℕ) → a < 512 → is_sound a ≡ true
unfolding general_at
all_sound a lt = agree_below_at is_sound (λ n. true) 512 a refl lt

-- the byte at such an address, and its address
pub record Stands (a : ℕ) : Type 0 where
  pub is : general_at a ≡ Some (number_or_zero (general_at a))
  pub back : chip.address_of (number_or_zero (general_at a)) ≡ a

within : (a : ℕ) → is_place a ≡ true → a < 512
within a e = grind (arith, nat_tests)

pub stands : (a : ℕ) → is_place a ≡ true → Stands a
unfolding is_sound
stands a e = by (general_at a) refl (sound (is_place a) e (all_sound a (within a e)))
  where
    sound : (b : Bool) → b ≡ true → (if b then is_back a (general_at a) else true) ≡ true → is_back a (general_at a) ≡ true
    sound true f h = h
    sound false f h = absurd (cc)

    by : (o : Option ℕ) → general_at a ≡ o → is_back a o ≡ true → Stands a
    by None f h = absurd (cc)
    by (Some k) f h = record {
      is = f ∙ ap (λ (n : ℕ). Some n) (ap number_or_zero (sym f));
      back = ap (λ o. chip.address_of (number_or_zero o)) f ∙ eqb-true (chip.address_of k) a h;
    }

-- bytes of a whole frame stand at such addresses
pub whole_byte : (a n k : ℕ) → is_whole a n ≡ true → k < n → is_place (a + k) ≡ true
whole_byte a n k e lt = grind (arith, nat_tests)

pub whole_apart : (a n k r : ℕ) → is_whole a n ≡ true → k < n → 0x70 ≤ r → r < 0x78 → (a + k ≡ r) → ⊥
whole_apart a n k r e lt x y f = grind (arith, nat_tests)

pub result_place : (r : ℕ) → 0x70 ≤ r → r < 0x78 → is_place r ≡ true
result_place r x y = grind (arith, nat_tests)

pub place_small : (a : ℕ) → is_place a ≡ true → number_or_zero (general_at a) < 512
place_small a e = least (number_or_zero (general_at a)) a (stands a e).back (within a e)
  where
    least : (n a : ℕ) → chip.address_of n ≡ a → a < 512 → n < 512
    least n a e lt = grind (arith, nat_tests)
