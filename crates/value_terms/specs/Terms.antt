-- What a byte or a bit holds, as a term over what stood in places before. All is modulo 256, and a bit is 0 or 1. A place is named by
-- its kind and its number: which kinds there are is up to whoever uses the terms.
use Rattle.std.specs.Prelude.{ℕ, ◌+◌, ◌*◌, ◌/◌, ◌%◌, nat_eq, nat_le, if◌then◌else◌, bit_and, bit_or, bit_xor}
use Rattle.pic_world.specs.Bits.{truth}
use Rattle.value_terms.specs.declared.term.Unary.{Unary}
use Rattle.value_terms.specs.declared.term.Unary.TheVariants.{Bit, Quotient}
use Rattle.value_terms.specs.declared.term.Binary.{Binary}
use Rattle.value_terms.specs.declared.term.Binary.TheVariants.{Same, Mask, Union, Exclusive, Table}
use Rattle.value_terms.specs.declared.term.Ternary.{Ternary}
use Rattle.value_terms.specs.declared.term.Ternary.TheVariants.{Carry, Choice}

pub data Term : Type 0 where
  -- a number
  Num : ℕ → Term
  -- what stood in a place, by its kind and its number
  Atom : ℕ → ℕ → Term
  -- factor * term + rest
  Plus : ℕ → Term → Term → Term
  -- an operation on one, two or three terms
  Apply : Unary → Term → Term
  Join : Binary → Term → Term → Term
  Triple : Ternary → Term → Term → Term → Term

-- what stands in the places, and the bytes of the tables in program memory, by the table's number and the byte's
pub record Environment : Type 0 where
  pub place : ℕ → ℕ → ℕ
  pub table : ℕ → ℕ → ℕ

-- the bit of a power of two, and what is left behind a division by one
abbrev pub unary_value : Unary → ℕ → ℕ
unary_value (Bit power) v = v / power % 2
unary_value (Quotient power) v = v / power

-- 1 where both are equal; and, or, exclusive or; the byte of a table whose number is in two bytes, the low one first
abbrev pub binary_value : Environment → Binary → ℕ → ℕ → ℕ
binary_value e Same v w = truth (nat_eq v w)
binary_value e Mask v w = bit_and v w % 256
binary_value e Union v w = bit_or v w % 256
binary_value e Exclusive v w = bit_xor v w % 256
binary_value e (Table number) v w = e.table number (v + 256 * w) % 256

-- by a bit: the second where it is 1
abbrev pub chosen : ℕ → ℕ → ℕ → ℕ
chosen u v w = if nat_eq u 0 then w else v

-- 1 where the sum of the three is above 255
abbrev pub ternary_value : Ternary → ℕ → ℕ → ℕ → ℕ
ternary_value Carry u v w = truth (nat_le 256 (u + v + w))
ternary_value Choice u v w = chosen u v w

abbrev pub value : Environment → Term → ℕ
value e (Num k) = k % 256
value e (Atom kind number) = e.place kind number % 256
value e (Plus f t r) = (f * value e t + value e r) % 256
value e (Apply op t) = unary_value op (value e t)
value e (Join op a b) = binary_value e op (value e a) (value e b)
value e (Triple op a b c) = ternary_value op (value e a) (value e b) (value e c)
