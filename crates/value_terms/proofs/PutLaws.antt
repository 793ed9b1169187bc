-- Other terms in the place of atoms; normal forms; what no term speaks of.
use Rattle.std.proofs.Common.{◌≡◌, ℕ, ◌+◌, ◌*◌, ◌%◌, Bool, true, false, refl, sym, ap, ◌∙◌, arith}
use Rattle.std.specs.Prelude.{◌||◌, nat_eq}
use Rattle.value_terms.specs.declared.term.Unary.{Unary}
use Rattle.value_terms.specs.declared.term.Unary.TheVariants.{Bit, Quotient}
use Rattle.value_terms.specs.declared.term.Binary.{Binary}
use Rattle.value_terms.specs.declared.term.Binary.TheVariants.{Same, Mask, Union, Exclusive, Table}
use Rattle.value_terms.specs.declared.term.Ternary.{Ternary}
use Rattle.value_terms.specs.declared.term.Ternary.TheVariants.{Carry, Choice}
use Rattle.value_terms.specs.Terms.{Term, Num, Atom, Plus, Apply, Join, Triple, Environment, unary_value, binary_value, ternary_value, value}
use Rattle.value_terms.specs.Equality.{mentions}
use Rattle.value_terms.specs.Putting.{applied, joined, tripled, put, normal, same_value}
use Rattle.std.proofs.lemmas.Bool.{eq-eqb}
use Rattle.value_terms.proofs.Equal.{both_true, same_term_law}
use Rattle.value_terms.proofs.SumLaws.{sum_law}
use Rattle.value_terms.proofs.BitLaws.{bit_law, quotient_law, same_law, choice_law}
use Rattle.value_terms.proofs.MaskLaws.{mask_law, union_law, exclusive_law}
use Rattle.value_terms.proofs.CarryLaws.{carry_law}

module _ (e : Environment) where
  applied_law : (op : Unary) (t : Term) → value e (applied op t) ≡ unary_value op (value e t)
  unfolding applied
  applied_law (Bit p) t = bit_law e p t
  applied_law (Quotient p) t = quotient_law e p t

  joined_law : (op : Binary) (a b : Term) → value e (joined op a b) ≡ binary_value e op (value e a) (value e b)
  unfolding joined
  joined_law Same a b = same_law e a b
  joined_law Mask a b = mask_law e a b
  joined_law Union a b = union_law e a b
  joined_law Exclusive a b = exclusive_law e a b
  joined_law (Table n) a b = refl

  tripled_law : (op : Ternary) (a b c : Term) → value e (tripled op a b c) ≡ ternary_value op (value e a) (value e b) (value e c)
  unfolding tripled
  tripled_law Carry a b c = carry_law e a b c
  tripled_law Choice a b c = choice_law e a b c

-- either of two
or_first : (a b : Bool) → a ≡ true → (a || b) ≡ true
or_first true b h = refl
or_first false b h = absurd (cc)

or_second : (a b : Bool) → b ≡ true → (a || b) ≡ true
or_second true b h = refl
or_second false b h = h

itself : (kind number : ℕ) → mentions kind number (Atom kind number) ≡ true
itself kind number = both_true (nat_eq kind kind) (nat_eq number number) (eq-eqb kind kind refl) (eq-eqb number number refl)

module _ (s : ℕ → ℕ → Term) (place : ℕ → ℕ → ℕ) (e : Environment) where
  -- the same tables
  abbrev there : Environment
  there = record { place = place; table = e.table }

  same_tables : (op : Binary) (v w : ℕ) → binary_value e op v w ≡ binary_value there op v w
  same_tables Same v w = refl
  same_tables Mask v w = refl
  same_tables Union v w = refl
  same_tables Exclusive v w = refl
  same_tables (Table n) v w = refl

  abbrev Given : Term → Type 0
  Given t = (kind number : ℕ) → mentions kind number t ≡ true → value e (s kind number) ≡ place kind number % 256

  -- what s gives for each place of which the term speaks has the value that stands there
  pub put_law : (t : Term) → Given t → value e (put s t) ≡ value there t
  put_law (Num k) h = let a : k % 256 % 256 ≡ k % 256 = omega arith in a
  put_law (Atom kind number) h = h kind number (itself kind number)
  put_law (Plus f t r) h =
      sum_law e f (put s t) (put s r)
      ∙ ap (λ (v : ℕ). (f * v + value e (put s r)) % 256) (put_law t (λ k n q. h k n (or_first (mentions k n t) (mentions k n r) q)))
      ∙ ap (λ (v : ℕ). (f * value there t + v) % 256) (put_law r (λ k n q. h k n (or_second (mentions k n t) (mentions k n r) q)))
  put_law (Apply op t) h = applied_law e op (put s t) ∙ ap (unary_value op) (put_law t h)
  put_law (Join op a b) h =
      joined_law e op (put s a) (put s b)
      ∙ ap (λ (v : ℕ). binary_value e op v (value e (put s b))) (put_law a (λ k n q. h k n (or_first (mentions k n a) (mentions k n b) q)))
      ∙ ap (λ (v : ℕ). binary_value e op (value there a) v) (put_law b (λ k n q. h k n (or_second (mentions k n a) (mentions k n b) q)))
      ∙ same_tables op (value there a) (value there b)
  put_law (Triple op a b c) h =
      tripled_law e op (put s a) (put s b) (put s c)
      ∙ ap (λ (v : ℕ). ternary_value op v (value e (put s b)) (value e (put s c))) (put_law a (λ k n q. h k n (or_first (mentions k n a) (mentions k n b || mentions k n c) q)))
      ∙ ap (λ (v : ℕ). ternary_value op (value there a) v (value e (put s c))) (put_law b (λ k n q. h k n (or_second (mentions k n a) (mentions k n b || mentions k n c) (or_first (mentions k n b) (mentions k n c) q))))
      ∙ ap (λ (v : ℕ). ternary_value op (value there a) (value there b) v) (put_law c (λ k n q. h k n (or_second (mentions k n a) (mentions k n b || mentions k n c) (or_second (mentions k n b) (mentions k n c) q))))

pub normal_law : (e : Environment) (t : Term) → value e (normal t) ≡ value e t
normal_law e t = put_law Atom e.place e t (λ k n q. refl)

pub same_value_law : (e : Environment) (a b : Term) → same_value a b ≡ true → value e a ≡ value e b
same_value_law e a b h = sym (normal_law e a) ∙ same_term_law e (normal a) (normal b) h ∙ normal_law e b

-- what a term doesn't speak of may change
pub unmentioned_law : (e : Environment) (place : ℕ → ℕ → ℕ) (t : Term) → ((kind number : ℕ) → mentions kind number t ≡ true → e.place kind number % 256 ≡ place kind number % 256) → value e t ≡ value (record { place = place; table = e.table }) t
unmentioned_law e place t h = sym (normal_law e t) ∙ put_law Atom place e t h
