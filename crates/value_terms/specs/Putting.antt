-- A term in normal form, with other terms in the place of atoms.
use Rattle.std.specs.Prelude.{ℕ, ◌%◌, Bool, ◌&&◌, nat_eq, if◌then◌else◌, List, [], ◌∷◌}
use Rattle.value_terms.specs.declared.term.Unary.{Unary}
use Rattle.value_terms.specs.declared.term.Unary.TheVariants.{Bit, Quotient}
use Rattle.value_terms.specs.declared.term.Binary.{Binary}
use Rattle.value_terms.specs.declared.term.Binary.TheVariants.{Same, Mask, Union, Exclusive, Table}
use Rattle.value_terms.specs.declared.term.Ternary.{Ternary}
use Rattle.value_terms.specs.declared.term.Ternary.TheVariants.{Carry, Choice}
use Rattle.value_terms.specs.declared.putting.Claim.{Claim}
use Rattle.value_terms.specs.Terms.{Term, Num, Atom, Plus, Apply, Join, Triple}
use Rattle.value_terms.specs.Shown.{shown}
use Rattle.value_terms.specs.Equality.{same_term}
use Rattle.value_terms.specs.Sums.{sum_of}
use Rattle.value_terms.specs.Bits.{bit, quotient, same, choice}
use Rattle.value_terms.specs.Masks.{mask, union, exclusive}
use Rattle.value_terms.specs.Carries.{carry}

unfoldable pub applied : Unary → Term → Term
applied (Bit p) t = bit p t
applied (Quotient p) t = quotient p t

unfoldable pub joined : Binary → Term → Term → Term
joined Same a b = same a b
joined Mask a b = mask a b
joined Union a b = union a b
joined Exclusive a b = exclusive a b
joined (Table number) a b = Join (Table number) a b

unfoldable pub tripled : Ternary → Term → Term → Term → Term
tripled Carry a b c = carry a b c
tripled Choice a b c = choice a b c

abbrev pub put : (ℕ → ℕ → Term) → Term → Term
put s (Num k) = Num (k % 256)
put s (Atom kind number) = s kind number
put s (Plus f t r) = sum_of f (put s t) (put s r)
put s (Apply op t) = applied op (put s t)
put s (Join op a b) = joined op (put s a) (put s b)
put s (Triple op a b c) = tripled op (put s a) (put s b) (put s c)

-- the first that is claimed of a place; of the others, what stood there
abbrev pub claimed : List Claim → ℕ → ℕ → Term
claimed [] kind number = Atom kind number
claimed (c ∷ cs) kind number = if nat_eq c.kind kind && nat_eq c.number number then shown c.term else claimed cs kind number

abbrev pub normal : Term → Term
normal t = put Atom t

abbrev pub same_value : Term → Term → Bool
same_value a b = same_term (normal a) (normal b)
