-- Tests and what they say.
use Rattle.std.proofs.Common.{◌≡◌, ◌≢◌, ◌⊎◌, inl, inr, ℕ, ◌<◌, ◌≤◌, Bool, true, false, not, ◌&&◌, ◌||◌, nat_eq, nat_lt, nat_le, if◌then◌else◌, refl, sym, ap, ◌∙◌, arith}
use Rattle.std.proofs.lemmas.Grind.{common_steps}

pub or_true : (a b : Bool) → (a || b) ≡ true → (a ≡ true) ⊎ (b ≡ true)
or_true true b e = inl refl
or_true false b e = inr e

pub and_left : (a b : Bool) → (a && b) ≡ true → a ≡ true
and_left true b e = refl
and_left false b e = e

pub and_right : (a b : Bool) → (a && b) ≡ true → b ≡ true
and_right true b e = e
and_right false b e = absurd (cc)

pub both : (a b : Bool) → a ≡ true → b ≡ true → (a && b) ≡ true
both a b e d = rw (e, d) refl

pub or_right : (a b : Bool) → b ≡ true → (a || b) ≡ true
or_right true b e = refl
or_right false b e = e

pub or_left : (a b : Bool) → a ≡ true → (a || b) ≡ true
or_left true b e = refl
or_left false b e = absurd (cc)

pub or_false : (a b : Bool) → a ≡ false → (a || b) ≡ true → b ≡ true
or_false true b d e = absurd (cc)
or_false false b d e = e

pub not_false : (b : Bool) → not b ≡ true → b ≡ false
not_false true e = absurd (cc)
not_false false e = refl

pub not_true : (b : Bool) → not b ≡ false → b ≡ true
not_true true e = refl
not_true false e = absurd (cc)

pub true_false : (b : Bool) → b ≡ true → b ≡ false → ⊥
true_false b t f = absurd (let q : true ≡ false = sym t ∙ f in cc)

pub same_nat : (a b : ℕ) → nat_eq a b ≡ true → a ≡ b
same_nat a b e = grind (arith, common_steps)

pub nat_same : (a b : ℕ) → a ≡ b → nat_eq a b ≡ true
nat_same a b e = grind (arith, common_steps)

pub nat_other : (a b : ℕ) → a ≢ b → nat_eq a b ≡ false
nat_other a b e = grind (arith, common_steps)

pub other_nat : (a b : ℕ) → nat_eq a b ≡ false → a ≢ b
other_nat a b e = grind (arith, common_steps)

pub lt_of : (a b : ℕ) → nat_lt a b ≡ true → a < b
lt_of a b e = grind (arith, common_steps)

pub of_lt : (a b : ℕ) → a < b → nat_lt a b ≡ true
of_lt a b e = grind (arith, common_steps)

pub le_of : (a b : ℕ) → nat_le a b ≡ true → a ≤ b
le_of a b e = grind (arith, common_steps)

pub gt_of : (a b : ℕ) → nat_le a b ≡ false → b < a
gt_of a b e = grind (arith, common_steps)

pub of_le : (a b : ℕ) → a ≤ b → nat_le a b ≡ true
of_le a b e = grind (arith, common_steps)

pub of_nlt : (a b : ℕ) → b ≤ a → nat_lt a b ≡ false
of_nlt a b e = grind (arith, common_steps)

pub of_nle : (a b : ℕ) → b < a → nat_le a b ≡ false
of_nle a b e = grind (arith, common_steps)

pub flip : (a b : ℕ) → nat_eq a b ≡ true → nat_eq b a ≡ true
flip a b e = nat_same b a (sym (same_nat a b e))

pub and_false_left : (a b : Bool) → a ≡ false → (a && b) ≡ false
and_false_left a b e = rw e refl

pub and_false_right : (a b : Bool) → b ≡ false → (a && b) ≡ false
and_false_right true b e = e
and_false_right false b e = refl

pub if_true : {A : Type 0} (b : Bool) (x y : A) → b ≡ true → (if b then x else y) ≡ x
if_true b x y e = ap (λ t. if t then x else y) e

pub if_false : {A : Type 0} (b : Bool) (x y : A) → b ≡ false → (if b then x else y) ≡ y
if_false b x y e = ap (λ t. if t then x else y) e
