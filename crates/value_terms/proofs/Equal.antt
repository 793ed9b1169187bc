-- Terms of the same form have the same value.
use Rattle.std.proofs.Common.{◌≡◌, ℕ, ◌+◌, ◌*◌, ◌/◌, ◌%◌, Bool, true, false, refl, ap, ◌∙◌}
use Rattle.std.specs.Prelude.{◌&&◌, ◌||◌, nat_eq}
use Rattle.std.proofs.lemmas.Bool.{eqb-true}
use Rattle.value_terms.specs.declared.term.Unary.{Unary}
use Rattle.value_terms.specs.declared.term.Unary.TheVariants.{Bit, Quotient}
use Rattle.value_terms.specs.declared.term.Binary.{Binary}
use Rattle.value_terms.specs.declared.term.Binary.TheVariants.{Same, Mask, Union, Exclusive, Table}
use Rattle.value_terms.specs.declared.term.Ternary.{Ternary}
use Rattle.value_terms.specs.declared.term.Ternary.TheVariants.{Carry, Choice}
use Rattle.value_terms.specs.Terms.{Term, Num, Atom, Plus, Apply, Join, Triple, Environment, unary_value, binary_value, ternary_value, value}
use Rattle.value_terms.specs.Equality.{same_unary, same_binary, same_ternary, same_term}

-- ---- Bool
pub and_left : (a b : Bool) → (a && b) ≡ true → a ≡ true
and_left true b e = refl
and_left false b e = e

pub and_right : (a b : Bool) → (a && b) ≡ true → b ≡ true
and_right true b e = e
and_right false b e = absurd (cc)

pub both_true : (a b : Bool) → a ≡ true → b ≡ true → (a && b) ≡ true
both_true true b h k = k
both_true false b h k = h

pub or_left : (a b : Bool) → (a || b) ≡ false → a ≡ false
or_left true b e = e
or_left false b e = refl

pub or_right : (a b : Bool) → (a || b) ≡ false → b ≡ false
or_right true b e = absurd (cc)
or_right false b e = e

-- ---- operations
same_unary_law : (f g : Unary) (v : ℕ) → same_unary f g ≡ true → unary_value f v ≡ unary_value g v
same_unary_law (Bit p) (Bit q) v h = ap (λ (z : ℕ). v / z % 2) (eqb-true p q h)
same_unary_law (Quotient p) (Quotient q) v h = ap (λ (z : ℕ). v / z) (eqb-true p q h)
same_unary_law (Bit p) (Quotient q) v h = absurd (cc)
same_unary_law (Quotient p) (Bit q) v h = absurd (cc)

same_binary_law : (e : Environment) (f g : Binary) (v w : ℕ) → same_binary f g ≡ true → binary_value e f v w ≡ binary_value e g v w
same_binary_law e Same Same v w h = refl
same_binary_law e Same Mask v w h = absurd (cc)
same_binary_law e Same Union v w h = absurd (cc)
same_binary_law e Same Exclusive v w h = absurd (cc)
same_binary_law e Same (Table m) v w h = absurd (cc)
same_binary_law e Mask Same v w h = absurd (cc)
same_binary_law e Mask Mask v w h = refl
same_binary_law e Mask Union v w h = absurd (cc)
same_binary_law e Mask Exclusive v w h = absurd (cc)
same_binary_law e Mask (Table m) v w h = absurd (cc)
same_binary_law e Union Same v w h = absurd (cc)
same_binary_law e Union Mask v w h = absurd (cc)
same_binary_law e Union Union v w h = refl
same_binary_law e Union Exclusive v w h = absurd (cc)
same_binary_law e Union (Table m) v w h = absurd (cc)
same_binary_law e Exclusive Same v w h = absurd (cc)
same_binary_law e Exclusive Mask v w h = absurd (cc)
same_binary_law e Exclusive Union v w h = absurd (cc)
same_binary_law e Exclusive Exclusive v w h = refl
same_binary_law e Exclusive (Table m) v w h = absurd (cc)
same_binary_law e (Table n) Same v w h = absurd (cc)
same_binary_law e (Table n) Mask v w h = absurd (cc)
same_binary_law e (Table n) Union v w h = absurd (cc)
same_binary_law e (Table n) Exclusive v w h = absurd (cc)
same_binary_law e (Table n) (Table m) v w h = ap (λ (z : ℕ). e.table z (v + 256 * w) % 256) (eqb-true n m h)

same_ternary_law : (f g : Ternary) (u v w : ℕ) → same_ternary f g ≡ true → ternary_value f u v w ≡ ternary_value g u v w
same_ternary_law Carry Carry u v w h = refl
same_ternary_law Carry Choice u v w h = absurd (cc)
same_ternary_law Choice Carry u v w h = absurd (cc)
same_ternary_law Choice Choice u v w h = refl

module _ (e : Environment) where
  pub same_term_law : (a b : Term) → same_term a b ≡ true → value e a ≡ value e b
  same_term_law (Num a0) (Num b0) h = ap (λ (z : ℕ). z % 256) (eqb-true a0 b0 h)
  same_term_law (Num a0) (Atom b0 b1) h = absurd (cc)
  same_term_law (Num a0) (Plus b0 b1 b2) h = absurd (cc)
  same_term_law (Num a0) (Apply b0 b1) h = absurd (cc)
  same_term_law (Num a0) (Join b0 b1 b2) h = absurd (cc)
  same_term_law (Num a0) (Triple b0 b1 b2 b3) h = absurd (cc)
  same_term_law (Atom a0 a1) (Num b0) h = absurd (cc)
  same_term_law (Atom a0 a1) (Atom b0 b1) h = let h0 = and_left (nat_eq a0 b0) (nat_eq a1 b1) h in let r0 = and_right (nat_eq a0 b0) (nat_eq a1 b1) h in ap (λ (z : ℕ). e.place z a1 % 256) (eqb-true a0 b0 h0) ∙ ap (λ (z : ℕ). e.place b0 z % 256) (eqb-true a1 b1 r0)
  same_term_law (Atom a0 a1) (Plus b0 b1 b2) h = absurd (cc)
  same_term_law (Atom a0 a1) (Apply b0 b1) h = absurd (cc)
  same_term_law (Atom a0 a1) (Join b0 b1 b2) h = absurd (cc)
  same_term_law (Atom a0 a1) (Triple b0 b1 b2 b3) h = absurd (cc)
  same_term_law (Plus a0 a1 a2) (Num b0) h = absurd (cc)
  same_term_law (Plus a0 a1 a2) (Atom b0 b1) h = absurd (cc)
  same_term_law (Plus a0 a1 a2) (Plus b0 b1 b2) h = let h0 = and_left (nat_eq a0 b0) (same_term a1 b1 && same_term a2 b2) h in let r0 = and_right (nat_eq a0 b0) (same_term a1 b1 && same_term a2 b2) h in let h1 = and_left (same_term a1 b1) (same_term a2 b2) r0 in let r1 = and_right (same_term a1 b1) (same_term a2 b2) r0 in ap (λ (z : ℕ). (z * (value e a1) + (value e a2)) % 256) (eqb-true a0 b0 h0) ∙ ap (λ (z : ℕ). (b0 * z + (value e a2)) % 256) (same_term_law a1 b1 h1) ∙ ap (λ (z : ℕ). (b0 * (value e b1) + z) % 256) (same_term_law a2 b2 r1)
  same_term_law (Plus a0 a1 a2) (Apply b0 b1) h = absurd (cc)
  same_term_law (Plus a0 a1 a2) (Join b0 b1 b2) h = absurd (cc)
  same_term_law (Plus a0 a1 a2) (Triple b0 b1 b2 b3) h = absurd (cc)
  same_term_law (Apply a0 a1) (Num b0) h = absurd (cc)
  same_term_law (Apply a0 a1) (Atom b0 b1) h = absurd (cc)
  same_term_law (Apply a0 a1) (Plus b0 b1 b2) h = absurd (cc)
  same_term_law (Apply a0 a1) (Apply b0 b1) h = let h0 = and_left (same_unary a0 b0) (same_term a1 b1) h in let r0 = and_right (same_unary a0 b0) (same_term a1 b1) h in same_unary_law a0 b0 (value e a1) h0 ∙ ap (λ (z : ℕ). unary_value b0 z) (same_term_law a1 b1 r0)
  same_term_law (Apply a0 a1) (Join b0 b1 b2) h = absurd (cc)
  same_term_law (Apply a0 a1) (Triple b0 b1 b2 b3) h = absurd (cc)
  same_term_law (Join a0 a1 a2) (Num b0) h = absurd (cc)
  same_term_law (Join a0 a1 a2) (Atom b0 b1) h = absurd (cc)
  same_term_law (Join a0 a1 a2) (Plus b0 b1 b2) h = absurd (cc)
  same_term_law (Join a0 a1 a2) (Apply b0 b1) h = absurd (cc)
  same_term_law (Join a0 a1 a2) (Join b0 b1 b2) h = let h0 = and_left (same_binary a0 b0) (same_term a1 b1 && same_term a2 b2) h in let r0 = and_right (same_binary a0 b0) (same_term a1 b1 && same_term a2 b2) h in let h1 = and_left (same_term a1 b1) (same_term a2 b2) r0 in let r1 = and_right (same_term a1 b1) (same_term a2 b2) r0 in same_binary_law e a0 b0 (value e a1) (value e a2) h0 ∙ ap (λ (z : ℕ). binary_value e b0 z (value e a2)) (same_term_law a1 b1 h1) ∙ ap (λ (z : ℕ). binary_value e b0 (value e b1) z) (same_term_law a2 b2 r1)
  same_term_law (Join a0 a1 a2) (Triple b0 b1 b2 b3) h = absurd (cc)
  same_term_law (Triple a0 a1 a2 a3) (Num b0) h = absurd (cc)
  same_term_law (Triple a0 a1 a2 a3) (Atom b0 b1) h = absurd (cc)
  same_term_law (Triple a0 a1 a2 a3) (Plus b0 b1 b2) h = absurd (cc)
  same_term_law (Triple a0 a1 a2 a3) (Apply b0 b1) h = absurd (cc)
  same_term_law (Triple a0 a1 a2 a3) (Join b0 b1 b2) h = absurd (cc)
  same_term_law (Triple a0 a1 a2 a3) (Triple b0 b1 b2 b3) h = let h0 = and_left (same_ternary a0 b0) (same_term a1 b1 && (same_term a2 b2 && same_term a3 b3)) h in let r0 = and_right (same_ternary a0 b0) (same_term a1 b1 && (same_term a2 b2 && same_term a3 b3)) h in let h1 = and_left (same_term a1 b1) (same_term a2 b2 && same_term a3 b3) r0 in let r1 = and_right (same_term a1 b1) (same_term a2 b2 && same_term a3 b3) r0 in let h2 = and_left (same_term a2 b2) (same_term a3 b3) r1 in let r2 = and_right (same_term a2 b2) (same_term a3 b3) r1 in same_ternary_law a0 b0 (value e a1) (value e a2) (value e a3) h0 ∙ ap (λ (z : ℕ). ternary_value b0 z (value e a2) (value e a3)) (same_term_law a1 b1 h1) ∙ ap (λ (z : ℕ). ternary_value b0 (value e b1) z (value e a3)) (same_term_law a2 b2 h2) ∙ ap (λ (z : ℕ). ternary_value b0 (value e b1) (value e b2) z) (same_term_law a3 b3 r2)
