-- Where bytes stand in data memory, and whose they are.
use Rattle.std.proofs.Common.{◌≡◌, ◌⊎◌, inl, inr, ⊎_elim, ℕ, ◌+◌, ◌%◌, ◌<◌, ◌≤◌, Bool, true, false, ◌&&◌, ◌||◌, nat_eq, nat_lt, nat_le, if◌then◌else◌, Option, Some, None, refl, sym, ap, ◌∙◌, arith}
use Rattle.std.proofs.lemmas.Bool.{agree_below, agree_below_at}
use Rattle.pic_chip.specs.Address as chip
use Rattle.pic_world.specs.declared.Root.{Root}
use Rattle.pic_world.specs.declared.Root.TheVariants.{Main, Isr}
use Rattle.sym_code.specs.Layout.{result_address, general_at, lies_in, is_whole}
use Rattle.select_trace.proofs.Truths.{or_true, and_left, and_right, both, or_right, or_left, lt_of, of_lt, le_of, of_le, of_nlt, of_nle, same_nat, if_true}

-- ---- addresses of general bytes that code names
abbrev pub within : ℕ → ℕ → ℕ → Bool
within first behind a = nat_le first a && nat_lt a behind

abbrev pub is_good : ℕ → Bool
is_good a = within 0x20 0x70 a || within 0xa0 0xf0 a || within 0x110 0x170 a || within 0x190 0x1f0 a || within 0x70 0x78 a

abbrev pub or_zero : Option ℕ → ℕ
or_zero None = 0
or_zero (Some k) = k

-- the number of the general byte at an address
abbrev pub slot_at : ℕ → ℕ
slot_at a = or_zero (general_at a)

abbrev comes_back : Option ℕ → ℕ → Bool
comes_back None a = false
comes_back (Some k) a = nat_eq (chip.address_of k) a

abbrev passes : ℕ → Bool
passes a = if is_good a then comes_back (general_at a) a else true

all_pass : agree_below passes (λ n. true) 512 ≡ true
unfolding general_at
all_pass = refl

back : (o : Option ℕ) (a : ℕ) → comes_back o a ≡ true → (o ≡ Some (or_zero o)) × (chip.address_of (or_zero o) ≡ a)
back None a e = absurd (cc)
back (Some k) a e = (refl, same_nat (chip.address_of k) a e)

in_range : (first behind a : ℕ) → within first behind a ≡ true → (first ≤ a) × (a < behind)
in_range first behind a e = (le_of first a (and_left _ _ e), lt_of a behind (and_right (nat_le first a) _ e))

pub range_in : (first behind a : ℕ) → first ≤ a → a < behind → within first behind a ≡ true
range_in first behind a l h = both _ _ (of_le first a l) (of_lt a behind h)

-- which of the ranges
pub good_ranges : (a : ℕ) → is_good a ≡ true → ((0x20 ≤ a) × (a < 0x78)) ⊎ (((0xa0 ≤ a) × (a < 0xf0)) ⊎ (((0x110 ≤ a) × (a < 0x170)) ⊎ ((0x190 ≤ a) × (a < 0x1f0))))
good_ranges a e = ⊎_elim
    (λ f. ⊎_elim
    (λ g. ⊎_elim
    (λ h. ⊎_elim (λ k. let r = in_range 0x20 0x70 a k in inl (omega arith, omega arith)) (λ k. inr (inl (in_range 0xa0 0xf0 a k))) (or_true _ _ h))
    (λ h. inr (inr (inl (in_range 0x110 0x170 a h)))) (or_true _ _ g))
    (λ g. inr (inr (inr (in_range 0x190 0x1f0 a g)))) (or_true _ _ f))
    (λ f. let r = in_range 0x70 0x78 a f in inl (omega arith, omega arith)) (or_true _ _ e)

good_below : (a : ℕ) → is_good a ≡ true → a < 512
good_below a e = elim (good_ranges a e) [
  | inl h ↦ omega (arith, h.1)
  | inr h ↦ elim h [ inl k ↦ omega (arith, k.1) | inr k ↦ elim k [ inl z ↦ omega (arith, z.1) | inr z ↦ omega (arith, z.1) ] ]
]

pub good_slot : (a : ℕ) → is_good a ≡ true → (general_at a ≡ Some (slot_at a)) × (chip.address_of (slot_at a) ≡ a)
good_slot a g =
    let p : passes a ≡ true = agree_below_at passes (λ n. true) 512 a all_pass (good_below a g) in
    back (general_at a) a (sym (if_true (is_good a) (comes_back (general_at a) a) true g) ∙ p)

-- an address of one of them stands before no other one with the same eight low bits
pub good_rises : (a : ℕ) → is_good a ≡ true → (0 < a) × (a < 512) × (0 < a % 256)
good_rises a e = elim (good_ranges a e) [
  | inl h ↦ let x = h.0 in let y = h.1 in (omega arith, omega arith, omega arith)
  | inr h ↦ elim h [
    | inl k ↦ let x = k.0 in let y = k.1 in (omega arith, omega arith, omega arith)
    | inr k ↦ elim k [ inl z ↦ let x = z.0 in let y = z.1 in (omega arith, omega arith, omega arith) | inr z ↦ let x = z.0 in let y = z.1 in (omega arith, omega arith, omega arith) ]
  ]
]

whole_in : (first behind address size a : ℕ) → lies_in first behind address size ≡ true → address ≤ a → a < address + size → within first behind a ≡ true
whole_in first behind address size a e l h =
    let x = le_of first address (and_left _ _ e) in
    let y = le_of (address + size) behind (and_right (nat_le first address) _ e) in
    range_in first behind a (omega arith) (omega arith)

-- a byte of what is whole
pub whole_good : (address size a : ℕ) → is_whole address size ≡ true → address ≤ a → a < address + size → is_good a ≡ true
whole_good address size a e l h = ⊎_elim
    (λ f. ⊎_elim
    (λ g. ⊎_elim
    (λ k. or_left _ _ (or_left _ _ (or_left _ _ (or_left _ _ (whole_in 0x20 0x70 address size a k l h)))))
    (λ k. or_left _ _ (or_left _ _ (or_left _ _ (or_right (within 0x20 0x70 a) _ (whole_in 0xa0 0xf0 address size a k l h)))))
    (or_true _ _ g))
    (λ g. or_left _ _ (or_left _ _ (or_right (within 0x20 0x70 a || within 0xa0 0xf0 a) _ (whole_in 0x110 0x170 address size a g l h))))
    (or_true _ _ f))
    (λ f. or_left _ _ (or_right (within 0x20 0x70 a || within 0xa0 0xf0 a || within 0x110 0x170 a) _ (whole_in 0x190 0x1f0 address size a f l h)))
    (or_true _ _ e)

-- a byte of what is whole is no result
pub whole_plain : (address size a : ℕ) → is_whole address size ≡ true → address ≤ a → a < address + size → within 0x70 0x78 a ≡ false
whole_plain address size a e l h = outside (regions (or_true _ _ e))
  where
    lies : (first behind : ℕ) → lies_in first behind address size ≡ true → (first ≤ address) × (address + size ≤ behind)
    lies first behind k = (le_of first address (and_left _ _ k), le_of (address + size) behind (and_right (nat_le first address) _ k))

    low : (a < 0x70) ⊎ (0x78 ≤ a) → within 0x70 0x78 a ≡ false
    low (inl x) = ap (λ b. b && nat_lt a 0x78) (of_nle 0x70 a x)
    low (inr x) = and_last (nat_le 0x70 a) (nat_lt a 0x78) (of_nlt a 0x78 x)
      where
        and_last : (b c : Bool) → c ≡ false → (b && c) ≡ false
        and_last true c k = k
        and_last false c k = refl

    outside : (a < 0x70) ⊎ (0x78 ≤ a) → within 0x70 0x78 a ≡ false
    outside x = low x

    regions : ((lies_in 0x20 0x70 address size || lies_in 0xa0 0xf0 address size || lies_in 0x110 0x170 address size) ≡ true) ⊎ (lies_in 0x190 0x1f0 address size ≡ true) → (a < 0x70) ⊎ (0x78 ≤ a)
    regions (inr k) = let r = lies 0x190 0x1f0 k in let x = r.0 in inr (omega arith)
    regions (inl k) = ⊎_elim
        (λ g. ⊎_elim (λ z. let r = lies 0x20 0x70 z in let x = r.1 in inl (omega arith)) (λ z. let r = lies 0xa0 0xf0 z in let x = r.0 in inr (omega arith)) (or_true _ _ g))
        (λ g. let r = lies 0x110 0x170 g in let x = r.0 in inr (omega arith))
        (or_true _ _ k)

pub result_good : (r : Root) (k : ℕ) → k < 4 → is_good (result_address r + k) ≡ true
result_good Main k lt = or_right (within 0x20 0x70 (0x70 + k) || within 0xa0 0xf0 (0x70 + k) || within 0x110 0x170 (0x70 + k) || within 0x190 0x1f0 (0x70 + k)) _ (range_in 0x70 0x78 (0x70 + k) (omega arith) (omega arith))
result_good Isr k lt = or_right (within 0x20 0x70 (0x74 + k) || within 0xa0 0xf0 (0x74 + k) || within 0x110 0x170 (0x74 + k) || within 0x190 0x1f0 (0x74 + k)) _ (range_in 0x70 0x78 (0x74 + k) (omega arith) (omega arith))
