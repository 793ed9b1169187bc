-- At the lowest address of a register, and at no other, there is a name; and it is below 256.
use Rattle.std.proofs.Common.{◌≡◌, ℕ, ◌≤◌, Bool, true, false, ◌||◌, Option, Some, None, List, [], ◌∷◌, map, refl, sym, ap, ◌∙◌, arith, nat_eq, nat_lt}
use Rattle.std.proofs.lemmas.Bool.{eqb-true, ltb-true, eq-eqb}
use Rattle.std.specs.Prelude.{if◌then◌else◌, ◌&&◌, is_some}
use Rattle.pic_world.specs.Registers.{Register, registers, register_at, name_in, name_at, is_among, is_register, lowest, or_itself}

-- what stands at its own address has a name there, and what has a name there is a register
own : (rs : List Register) (address : ℕ) → or_itself address (register_at rs address) ≡ address → is_some (name_in rs address) ≡ is_some (register_at rs address)
own [] address e = refl
own (r ∷ rs) address e = by_test (nat_eq r.1 address) (is_among r.2 address) refl (own rs address) e
  where
    by_test : (b t : Bool) → nat_eq r.1 address ≡ b
        → (or_itself address (register_at rs address) ≡ address → is_some (name_in rs address) ≡ is_some (register_at rs address))
        → or_itself address (if b || t then Some r.1 else register_at rs address) ≡ address
        → is_some (if b then Some r.0 else name_in rs address) ≡ is_some (if b || t then Some r.1 else register_at rs address)
    by_test true t is later h = refl
    by_test false true is later h = absurd (cc (is, eq-eqb r.1 address h))
    by_test false false is later h = later h

pub named_is_register : (address : ℕ) → lowest address ≡ address → is_some (name_at address) ≡ is_register address
named_is_register address = own registers address

first_or : Bool → List Bool → Bool
first_or x [] = x
first_or x (y ∷ ys) = y

rest : List Bool → List Bool
rest [] = []
rest (y ∷ ys) = ys

small_row : (rs : List Register) → map (λ r. nat_lt r.1 256) rs ≡ map (λ r. true) rs → (address : ℕ) → 256 ≤ address → name_in rs address ≡ None
unfolding first_or rest
small_row [] e address h = refl
small_row (r ∷ rs) e address h = by_test (nat_eq r.1 address) refl (small_row rs (ap rest e) address h)
  where
    by_test : (b : Bool) → nat_eq r.1 address ≡ b → name_in rs address ≡ None → (if b then Some r.0 else name_in rs address) ≡ None
    by_test true is later =
        let small = ltb-true r.1 256 (ap (first_or true) e) in
        let same = eqb-true r.1 address is in
        absurd (omega (arith, small, same, h))
    by_test false is later = later

-- no register's lowest address is above 255
high_has_no_name : (address : ℕ) → 256 ≤ address → name_at address ≡ None
high_has_no_name = small_row registers refl

-- and so no register is above 255 that stands at its own address
pub high_is_none : (address : ℕ) → 256 ≤ address → lowest address ≡ address → is_register address ≡ false
high_is_none address h low = sym (named_is_register address low) ∙ ap is_some (high_has_no_name address h)

-- ---- the lowest address of a register is its own lowest

abbrev each_first : (ℕ → Bool) → List Register → Bool
each_first g [] = true
each_first g (r ∷ rs) = g r.1 && each_first g rs

both : (a b : Bool) → (a && b) ≡ true → (a ≡ true) × (b ≡ true)
both true b h = (refl, h)
both false b h = absurd (cc)

found_first : (g : ℕ → Bool) (rs : List Register) → each_first g rs ≡ true → (address first : ℕ) → register_at rs address ≡ Some first → g first ≡ true
found_first g [] h address first e = absurd (cc)
found_first g (r ∷ rs) h address first e = by_test (nat_eq r.1 address || is_among r.2 address) e (found_first g rs (both (g r.1) (each_first g rs) h).1 address first)
  where
    some_inj : (x y : ℕ) → Some x ≡ Some y → x ≡ y
    some_inj x y e = cc

    by_test : (b : Bool) → (if b then Some r.1 else register_at rs address) ≡ Some first → (register_at rs address ≡ Some first → g first ≡ true) → g first ≡ true
    by_test true e later = ap g (sym (some_inj r.1 first e)) ∙ (both (g r.1) (each_first g rs) h).0
    by_test false e later = later e

pub lowest_twice : (address : ℕ) → lowest (lowest address) ≡ lowest address
lowest_twice address = by_case (register_at registers address) refl
  where
    by_case : (o : Option ℕ) → register_at registers address ≡ o → lowest (or_itself address o) ≡ or_itself address o
    by_case None e = ap (or_itself address) e
    by_case (Some first) e = eqb-true (lowest first) first (found_first (λ first. nat_eq (lowest first) first) registers refl address first e)
