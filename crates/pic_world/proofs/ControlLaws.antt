-- Laws of the registers by which interrupts come.
use Rattle.std.proofs.Common.{◌≡◌, ℕ, zero, suc, ◌+◌, ◌-◌, ◌*◌, ◌/◌, ◌%◌, ◌^◌, max, min, ◌<◌, ◌≤◌, Bool, true, false, not, ◌&&◌, ◌||◌, nat_eq, refl, sym, subst, ap, ◌∙◌, arith}
use Rattle.std.specs.Prelude.{bit_and, bit_or}
use Rattle.std.specs.Int.{bit_at}
use Rattle.std.specs.Int.Bits.{or_zero_r}
use Rattle.std.proofs.lemmas.Bool.{eqb-true, eq-eqb}
use Rattle.std.proofs.lemmas.Nat.{or_comm, or_mod, or_shr, or_lt, or_block}
use Rattle.std.proofs.lemmas.Nat.Bits.{bit_at_or, bit_at_and, bit_at-lt, bit_at-zero, same_from_bits}
use Rattle.pic_world.specs.Control.{Control, raised_by, is_enabled, has_bits, is_due, entered, left}
use Rattle.pic_world.proofs.OrLaws.{or_assoc, or_same, or_swap, or_again}

-- ---- what is raised
registers_of : ℕ → ℕ → ℕ → Control
registers_of i p e = record { intcon = i; pir1 = p; pie1 = e }

same_registers : {i j p q : ℕ} (e : ℕ) → i ≡ j → p ≡ q → registers_of i p e ≡ registers_of j q e
same_registers {i = i} {j = j} {p = p} {q = q} e h k = ap (λ x. registers_of x p e) h ∙ ap (λ x. registers_of j x e) k

-- to raise flags again changes nothing
pub raised_again : (mask : ℕ) (c : Control) → raised_by mask (raised_by mask c) ≡ raised_by mask c
unfolding raised_by registers_of
raised_again mask c = same_registers c.pie1 (or_again c.intcon (mask % 8)) (or_again c.pir1 (mask / 8 % 256))

pub raised_swap : (a b : ℕ) (c : Control) → raised_by a (raised_by b c) ≡ raised_by b (raised_by a c)
unfolding raised_by registers_of
raised_swap a b c = same_registers c.pie1 (or_swap c.intcon (b % 8) (a % 8)) (or_swap c.pir1 (b / 8 % 256) (a / 8 % 256))

low_part : (a b : ℕ) → bit_or (b % 8) (a % 8) ≡ bit_or a b % 8
low_part a b = or_comm (b % 8) (a % 8) ∙ sym (or_mod a b 3)

high_part : (a b : ℕ) → bit_or (b / 8 % 256) (a / 8 % 256) ≡ bit_or a b / 8 % 256
high_part a b = or_comm (b / 8 % 256) (a / 8 % 256) ∙ sym (or_mod (a / 8) (b / 8) 8) ∙ ap (λ x. x % 256) (sym (or_shr a b 3))

-- two masks one behind the other are the mask of both
pub raised_both : (a b : ℕ) (c : Control) → raised_by a (raised_by b c) ≡ raised_by (bit_or a b) c
unfolding raised_by registers_of
raised_both a b c =
    same_registers c.pie1
    (or_assoc c.intcon (b % 8) (a % 8) ∙ ap (bit_or c.intcon) (low_part a b))
    (or_assoc c.pir1 (b / 8 % 256) (a / 8 % 256) ∙ ap (bit_or c.pir1) (high_part a b))

-- no flag raised changes nothing
pub raised_nothing : (c : Control) → raised_by 0 c ≡ c
unfolding raised_by registers_of
raised_nothing c = same_registers c.pie1 (or_zero_r c.intcon) (or_zero_r c.pir1)

-- ---- GIE
-- three low bits more leave the others
or_low : (x m : ℕ) → bit_or x (m % 8) ≡ x / 8 * 8 + bit_or (x % 8) (m % 8)
or_low x m =
    let whole : x ≡ x / 8 * 2 ^ 3 + x % 8 = omega arith in
    let mask : m % 8 ≡ 0 * 2 ^ 3 + m % 8 = omega arith in
    ap (λ y. bit_or y (m % 8)) whole ∙ ap (bit_or (x / 8 * 2 ^ 3 + x % 8)) mask
    ∙ or_block 3 (x / 8) 0 (x % 8) (m % 8) (omega arith) (omega arith)
    ∙ ap (λ y. y * 8 + bit_or (x % 8) (m % 8)) (or_zero_r (x / 8))

low_small : (x m : ℕ) → bit_or (x % 8) (m % 8) < 8
low_small x m = or_lt 3 (x % 8) (m % 8) (omega arith) (omega arith)

pub raised_gie : (x m : ℕ) → bit_or x (m % 8) / 128 % 2 ≡ x / 128 % 2
raised_gie x m =
    let e = or_low x m in
    let s = low_small x m in
    omega arith

pub raised_enabled : (mask : ℕ) (c : Control) → is_enabled (raised_by mask c) ≡ is_enabled c
unfolding raised_by
raised_enabled mask c = ap (λ b. nat_eq b 1) (raised_gie c.intcon mask)

cleared : (x m : ℕ) → bit_or (x - x / 128 % 2 * 128) (m % 8) ≡ bit_or x (m % 8) - bit_or x (m % 8) / 128 % 2 * 128
cleared x m =
    let y = x - x / 128 % 2 * 128 in
    let low : y % 8 ≡ x % 8 = omega arith in
    let e = or_low x m in
    let f : bit_or y (m % 8) ≡ y / 8 * 8 + bit_or (x % 8) (m % 8) = or_low y m ∙ ap (λ z. y / 8 * 8 + bit_or z (m % 8)) low in
    let s = low_small x m in
    omega arith

set : (x m : ℕ) → bit_or (x + (1 - x / 128 % 2) * 128) (m % 8) ≡ bit_or x (m % 8) + (1 - bit_or x (m % 8) / 128 % 2) * 128
set x m =
    let y = x + (1 - x / 128 % 2) * 128 in
    let low : y % 8 ≡ x % 8 = omega arith in
    let e = or_low x m in
    let f : bit_or y (m % 8) ≡ y / 8 * 8 + bit_or (x % 8) (m % 8) = or_low y m ∙ ap (λ z. y / 8 * 8 + bit_or z (m % 8)) low in
    let s = low_small x m in
    omega arith

-- flags are raised before or behind an interrupt, or the return from it
pub raised_entered : (mask : ℕ) (c : Control) → raised_by mask (entered c) ≡ entered (raised_by mask c)
unfolding raised_by entered registers_of
raised_entered mask c = same_registers c.pie1 (cleared c.intcon mask) refl

pub raised_left : (mask : ℕ) (c : Control) → raised_by mask (left c) ≡ left (raised_by mask c)
unfolding raised_by left registers_of
raised_left mask c = same_registers c.pie1 (set c.intcon mask) refl

pub entered_disabled : (c : Control) → is_enabled (entered c) ≡ false
unfolding entered
entered_disabled c =
    let none : (c.intcon - c.intcon / 128 % 2 * 128) / 128 % 2 ≡ 0 = omega arith in
    ap (λ b. nat_eq b 1) none

pub left_enabled : (c : Control) → is_enabled (left c) ≡ true
unfolding left
left_enabled c =
    let one : (c.intcon + (1 - c.intcon / 128 % 2) * 128) / 128 % 2 ≡ 1 = omega arith in
    ap (λ b. nat_eq b 1) one

-- what an interrupt takes away its return brings back
pub left_entered : (c : Control) → is_enabled c ≡ true → left (entered c) ≡ c
unfolding left entered registers_of
left_entered c h =
    let one : c.intcon / 128 % 2 ≡ 1 = eqb-true _ _ h in
    let back : (c.intcon - c.intcon / 128 % 2 * 128) + (1 - (c.intcon - c.intcon / 128 % 2 * 128) / 128 % 2) * 128 ≡ c.intcon = omega arith in
    same_registers c.pie1 back refl

-- ---- what is due
pub disabled_not_due : (c : Control) → is_enabled c ≡ false → is_due c ≡ false
unfolding is_due
disabled_not_due c h =
    ap (λ b. b && (has_bits c.intcon 5 2 || has_bits c.intcon 4 1 || has_bits c.intcon 3 0 || (nat_eq (c.intcon / 64 % 2) 1 && not (nat_eq (bit_and c.pir1 c.pie1) 0)))) h

pub due_enabled : (c : Control) → is_due c ≡ true → is_enabled c ≡ true
unfolding is_due
due_enabled c h = first_of (is_enabled c) (has_bits c.intcon 5 2 || has_bits c.intcon 4 1 || has_bits c.intcon 3 0 || (nat_eq (c.intcon / 64 % 2) 1 && not (nat_eq (bit_and c.pir1 c.pie1) 0))) h
  where
    first_of : (a b : Bool) → (a && b) ≡ true → a ≡ true
    first_of true b e = refl
    first_of false b e = absurd (cc)

pub entered_not_due : (c : Control) → is_due (entered c) ≡ false
entered_not_due c = disabled_not_due (entered c) (entered_disabled c)

-- where the first holds the second does
abbrev Leads : Bool → Bool → Type 0
Leads a b = a ≡ true → b ≡ true

leads_and : (a b p q : Bool) → Leads a p → Leads b q → Leads (a && b) (p && q)
leads_and true true p q f g h = rw (f refl, g refl) refl
leads_and true false p q f g h = absurd (cc)
leads_and false b p q f g h = absurd (cc)

leads_or : (a b p q : Bool) → Leads a p → Leads b q → Leads (a || b) (p || q)
leads_or true b p q f g h = rw (f refl) refl
leads_or false true true q f g h = refl
leads_or false true false q f g h = g refl
leads_or false false p q f g h = absurd (cc)

one_stays : (a p : ℕ) → a ≤ p → p < 2 → Leads (nat_eq a 1) (nat_eq p 1)
one_stays a p l s h =
    let one : a ≡ 1 = eqb-true a 1 h in
    let so : p ≡ 1 = omega arith in
    ap (λ x. nat_eq x 1) so

both_ones : (a b : ℕ) → nat_eq (a * b) 1 ≡ (nat_eq a 1 && nat_eq b 1) → (p q : ℕ) → nat_eq (p * q) 1 ≡ (nat_eq p 1 && nat_eq q 1) → a ≤ p → b ≤ q → p < 2 → q < 2 → Leads (nat_eq (a * b) 1) (nat_eq (p * q) 1)
both_ones a b e p q f l m s t h = f ∙ leads_and (nat_eq a 1) (nat_eq b 1) (nat_eq p 1) (nat_eq q 1) (one_stays a p l s) (one_stays b q m t) (sym e ∙ h)

product : (a b : ℕ) → a < 2 → b < 2 → nat_eq (a * b) 1 ≡ (nat_eq a 1 && nat_eq b 1)
product zero b s t = ap (λ x. nat_eq x 1) (let e : 0 * b ≡ 0 = omega arith in e)
product (suc zero) b s t = ap (λ x. nat_eq x 1) (let e : 1 * b ≡ b = omega arith in e)
product (suc (suc a)) b s t = absurd (omega arith)

-- no bit is lost
abbrev Grows : ℕ → ℕ → Type 0
Grows x y = (i : ℕ) → bit_at x i ≤ bit_at y i

or_grows : (x m : ℕ) → Grows x (bit_or x m)
or_grows x m i = subst (λ y. bit_at x i ≤ y) (sym (bit_at_or x m i)) (let l : bit_at x i ≤ max (bit_at x i) (bit_at m i) = omega arith in l)

bits_stay : (x y : ℕ) → Grows x y → (e f : ℕ) → Leads (has_bits x e f) (has_bits y e f)
bits_stay x y g e f =
    both_ones (bit_at x e) (bit_at x f) (product (bit_at x e) (bit_at x f) (bit_at-lt x e) (bit_at-lt x f)) (bit_at y e) (bit_at y f) (product (bit_at y e) (bit_at y f) (bit_at-lt y e) (bit_at-lt y f))
    (g e) (g f) (bit_at-lt y e) (bit_at-lt y f)

-- a common bit stays common
common_stays : (x y e : ℕ) → Grows x y → bit_and y e ≡ 0 → bit_and x e ≡ 0
common_stays x y e g none =
    same_from_bits (bit_and x e) 0 (λ i.
    let there : min (bit_at y i) (bit_at e i) ≡ 0 = sym (bit_at_and y e i) ∙ ap (λ z. bit_at z i) none ∙ bit_at-zero i in
    let less : bit_at x i ≤ bit_at y i = g i in
    let here : min (bit_at x i) (bit_at e i) ≡ 0 = omega arith in
    bit_at_and x e i ∙ here ∙ sym (bit_at-zero i))

some_stays : (a b : ℕ) → (b ≡ 0 → a ≡ 0) → Leads (not (nat_eq a 0)) (not (nat_eq b 0))
some_stays a b f h = by_test (nat_eq b 0) refl
  where
    by_test : (t : Bool) → nat_eq b 0 ≡ t → not (nat_eq b 0) ≡ true
    by_test false e = ap not e
    by_test true e = absurd (none (sym h ∙ ap not (eq-eqb a 0 (f (eqb-true b 0 e)))))
      where
        none : true ≡ false → ⊥
        none e = cc

-- where an interrupt was due before flags are raised, one is due behind that
pub raised_due : (mask : ℕ) (c : Control) → is_due c ≡ true → is_due (raised_by mask c) ≡ true
unfolding is_due raised_by
raised_due mask c =
    let y = bit_or c.intcon (mask % 8) in
    let z = bit_or c.pir1 (mask / 8 % 256) in
    let g = or_grows c.intcon (mask % 8) in
    let p = or_grows c.pir1 (mask / 8 % 256) in
    leads_and _ _ _ _ (one_stays (bit_at c.intcon 7) (bit_at y 7) (g 7) (bit_at-lt y 7))
    (leads_or _ _ _ _
    (leads_or _ _ _ _
    (leads_or _ _ _ _ (bits_stay c.intcon y g 5 2) (bits_stay c.intcon y g 4 1))
    (bits_stay c.intcon y g 3 0))
    (leads_and _ _ _ _ (one_stays (bit_at c.intcon 6) (bit_at y 6) (g 6) (bit_at-lt y 6))
    (some_stays (bit_and c.pir1 c.pie1) (bit_and z c.pie1) (common_stays c.pir1 z c.pie1 p))))
