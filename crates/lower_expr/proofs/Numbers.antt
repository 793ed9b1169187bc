-- What the definitions on counts come to.
use Rattle.std.proofs.Common.{◌≡◌, ℕ, zero, suc, ◌+◌, ◌-◌, ◌/◌, List, [], ◌∷◌, ◌++◌, ◌<◌, ◌≤◌, ◌≢◌, refl, sym, ap, ◌∙◌, arith, lt-ltb, le-ltb}
use Rattle.std.proofs.lemmas.List.{append-nil, append_assoc}
use Rattle.std.specs.Prelude.{min, if◌then◌else◌}
use Rattle.c_ints.specs.Quantity.{Quantity}
use Rattle.c_ints.specs.Range.{pattern}
use Rattle.c_ints.specs.declared.operators.BinOp.TheVariants as binop
use Rattle.c_ints.specs.declared.types.IntTy.TheVariants.{UInt}
use Rattle.c_typed.specs.Folding.{bits}
use Rattle.core_code.specs.Tree as code
use Rattle.core_code.specs.declared.code.Byte.{Byte}
use Rattle.core_puts.specs.Puts.{operator}
use Rattle.lower_expr.specs.Layout.{static_number}
use Rattle.lower_expr.specs.Rows.{multiples, odd_part, structure_bytes, advances, taken, given}
use Rattle.lower_expr.specs.declared.structures.Side.{Side}

pub static_number_is : (number : ℕ) → static_number number ≡ min number 0xffff
unfolding static_number
static_number_is number = refl

pub bits_is : (v : Quantity) → bits v ≡ pattern v.ty v.number
unfolding bits
bits_is v = refl

plus_one : (k : ℕ) → k + 1 ≡ suc k
plus_one k = omega arith

pub structure_none : (to from : Side) (one temporary : Byte) → structure_bytes to from one temporary 0 ≡ []
unfolding structure_bytes
structure_none to from one temporary = refl

pub structure_more : (to from : Side) (one temporary : Byte) (i : ℕ) → structure_bytes to from one temporary (i + 1) ≡ structure_bytes to from one temporary i ++ advances to from one i ++ taken temporary from i ∷ [] ++ given to temporary i ∷ []
unfolding structure_bytes
structure_more to from one temporary i = ap (structure_bytes to from one temporary) (plus_one i)

less_one : (k : ℕ) → k ≡ suc k - 1
less_one k = omega arith

-- the number of digits is used up, or the factor
pub multiples_none : (to from : Byte) (size digits : ℕ) → digits ≡ 0 → multiples to from size digits ≡ []
unfolding multiples
multiples_none to from size digits is = ap (multiples to from size) is

pub multiples_one : (to from : Byte) (size digits : ℕ) → size < 2 → multiples to from size digits ≡ []
unfolding multiples
multiples_one to from size zero is = refl
multiples_one to from size (suc d) is = ap (λ b. if b then [] else (multiples to from (size / 2) d ++ operator binop.Add UInt to to ∷ [] ++ odd_part to from size)) (lt-ltb size 2 is)

multiples_more : (to from : Byte) (size digits : ℕ) → digits ≢ 0 → 2 ≤ size → multiples to from size digits ≡ multiples to from (size / 2) (digits - 1) ++ operator binop.Add UInt to to ∷ [] ++ odd_part to from size
unfolding multiples
multiples_more to from size zero is more = absurd (is refl)
multiples_more to from size (suc d) is more =
    ap (λ b. if b then [] else (multiples to from (size / 2) d ++ operator binop.Add UInt to to ∷ [] ++ odd_part to from size)) (le-ltb size 2 more)
    ∙ ap (λ k. multiples to from (size / 2) k ++ operator binop.Add UInt to to ∷ [] ++ odd_part to from size) (less_one d)

-- what a call for half the factor has put, a doubling, and for an odd factor the number itself
pub multiples_step : (to from : Byte) (size digits : ℕ) (old half doubled new : List code.Tree) → digits ≢ 0 → 2 ≤ size → half ≡ old ++ multiples to from (size / 2) (digits - 1) → doubled ≡ half ++ operator binop.Add UInt to to ∷ [] → new ≡ doubled ++ odd_part to from size → new ≡ old ++ multiples to from size digits
multiples_step to from size digits old half doubled new is more one two three =
    three
    ∙ ap (λ xs. xs ++ odd_part to from size) two
    ∙ ap (λ xs. xs ++ operator binop.Add UInt to to ∷ [] ++ odd_part to from size) one
    ∙ ap (λ xs. xs ++ odd_part to from size) (append_assoc old (multiples to from (size / 2) (digits - 1)) (operator binop.Add UInt to to ∷ []))
    ∙ append_assoc old (multiples to from (size / 2) (digits - 1) ++ operator binop.Add UInt to to ∷ []) (odd_part to from size)
    ∙ ap (λ xs. old ++ xs) (sym (multiples_more to from size digits is more))

pub append_nothing : (ts : List code.Tree) → ts ++ [] ≡ ts
append_nothing ts = append-nil ts
