-- What an operator's value is, in numbers.
use Rattle.std.specs.Prelude.{◌≡◌, ℕ, pos, IfSome}
use Rattle.c_ints.specs.Operators.{cut_to, outcome}
use Rattle.c_ints.specs.Range.{pattern}
use Rattle.c_ints.specs.declared.operators.BinOp.{BinOp}
use Rattle.c_ints.specs.declared.types.IntTy.{IntTy}
use Rattle.math_helpers.specs.Wanted.{right_operand}

-- the answer is the operator's value where it has one
abbrev pub IsValue : BinOp → IntTy → ℕ → ℕ → ℕ → Type 0
IsValue op ty left right answer = IfSome (outcome op (cut_to ty (pos left)) (right_operand op ty right)) (λ value. answer ≡ pattern value.ty value.number)
