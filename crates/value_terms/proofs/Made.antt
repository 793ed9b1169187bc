-- What a builder answers has the value of the operation on the values of its parts.
use Rattle.std.proofs.Common.{◌≡◌, ℕ, ◌+◌, ◌-◌, ◌*◌, ◌/◌, ◌%◌, Ok, Err, refl, ap, ◌∙◌}
use Rattle.std.specs.Prelude.{Result, nat_eq, nat_le, bit_and, bit_or, bit_xor}
use Rattle.std.specs.Global.{Global}
use Rattle.std.specs.declared.alloc.AllocError.{AllocError}
use Rattle.std_alloc.specs.declared.rc.counts.Rc.{Rc}
use Rattle.pic_world.specs.Bits.{truth}
use Rattle.value_terms.specs.declared.term.Binary.TheVariants.{Table}
use Rattle.value_terms.specs.declared.term.Node.{Node}
use Rattle.value_terms.specs.Terms.{Term, Join, Environment, chosen, value}
use Rattle.value_terms.specs.Shown.{Makes, Values}
use Rattle.value_terms.specs.Sums.{sum_of, opposite}
use Rattle.value_terms.specs.Bits.{bit, quotient, same, choice}
use Rattle.value_terms.specs.Masks.{mask, union, exclusive}
use Rattle.value_terms.specs.Carries.{carry}
use Rattle.value_terms.proofs.SumLaws.{sum_law, opposite_law}
use Rattle.value_terms.proofs.BitLaws.{bit_law, quotient_law, same_law, choice_law}
use Rattle.value_terms.proofs.CarryLaws.{carry_law}
use Rattle.value_terms.proofs.Whole.{masks, unions, exclusives}

made : (result : Result (Rc Node Global) AllocError) (t : Term) (v : Environment → ℕ) → Makes result t → ((e : Environment) → value e t ≡ v e) → Values result v
made (Ok m) t v h law = λ e. ap (value e) h ∙ law e
made (Err x) t v h law = tt

pub sum_of_made : (result : Result (Rc Node Global) AllocError) (factor : ℕ) (a b : Term) → Makes result (sum_of factor a b) → Values result (λ e. (factor * value e a + value e b) % 256)
sum_of_made result factor a b h = made result (sum_of factor a b) (λ e. (factor * value e a + value e b) % 256) h (λ e. sum_law e factor a b)

pub opposite_made : (result : Result (Rc Node Global) AllocError) (a : Term) → Makes result (opposite a) → Values result (λ e. 255 - value e a)
opposite_made result a h = made result (opposite a) (λ e. 255 - value e a) h (λ e. opposite_law e a)

pub carry_made : (result : Result (Rc Node Global) AllocError) (a b c : Term) → Makes result (carry a b c) → Values result (λ e. truth (nat_le 256 (value e a + value e b + value e c)))
carry_made result a b c h = made result (carry a b c) (λ e. truth (nat_le 256 (value e a + value e b + value e c))) h (λ e. carry_law e a b c)

pub same_made : (result : Result (Rc Node Global) AllocError) (a b : Term) → Makes result (same a b) → Values result (λ e. truth (nat_eq (value e a) (value e b)))
same_made result a b h = made result (same a b) (λ e. truth (nat_eq (value e a) (value e b))) h (λ e. same_law e a b)

pub choice_made : (result : Result (Rc Node Global) AllocError) (c a b : Term) → Makes result (choice c a b) → Values result (λ e. chosen (value e c) (value e a) (value e b))
choice_made result c a b h = made result (choice c a b) (λ e. chosen (value e c) (value e a) (value e b)) h (λ e. choice_law e c a b)

pub bit_made : (result : Result (Rc Node Global) AllocError) (power : ℕ) (a : Term) → Makes result (bit power a) → Values result (λ e. value e a / power % 2)
bit_made result power a h = made result (bit power a) (λ e. value e a / power % 2) h (λ e. bit_law e power a)

pub quotient_made : (result : Result (Rc Node Global) AllocError) (power : ℕ) (a : Term) → Makes result (quotient power a) → Values result (λ e. value e a / power)
quotient_made result power a h = made result (quotient power a) (λ e. value e a / power) h (λ e. quotient_law e power a)

pub mask_made : (result : Result (Rc Node Global) AllocError) (a b : Term) → Makes result (mask a b) → Values result (λ e. bit_and (value e a) (value e b))
mask_made result a b h = made result (mask a b) (λ e. bit_and (value e a) (value e b)) h (λ e. masks e a b)

pub union_made : (result : Result (Rc Node Global) AllocError) (a b : Term) → Makes result (union a b) → Values result (λ e. bit_or (value e a) (value e b))
union_made result a b h = made result (union a b) (λ e. bit_or (value e a) (value e b)) h (λ e. unions e a b)

pub exclusive_made : (result : Result (Rc Node Global) AllocError) (a b : Term) → Makes result (exclusive a b) → Values result (λ e. bit_xor (value e a) (value e b))
exclusive_made result a b h = made result (exclusive a b) (λ e. bit_xor (value e a) (value e b)) h (λ e. exclusives e a b)

pub table_byte_made : (result : Result (Rc Node Global) AllocError) (number : ℕ) (low high : Term) → Makes result (Join (Table number) low high) → Values result (λ e. e.table number (value e low + 256 * value e high) % 256)
table_byte_made result number low high h = made result (Join (Table number) low high) (λ e. e.table number (value e low + 256 * value e high) % 256) h (λ e. refl)
