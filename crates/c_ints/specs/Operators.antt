-- The operators on integers (ISO/IEC 9899:1990, 6.3.3 to 6.3.12): each on whole numbers without
-- bound, cut to the width of its type. The choices that the standard leaves open: signed
-- arithmetic wraps, a quotient is truncated toward zero, a negative number is shifted right by
-- rounding down, and negative numbers have two's complement bits.
use Rattle.std.specs.Prelude.{◌^◌, ℤ, pos, negsuc, ◌+ℤ◌, ◌-ℤ◌, ◌*ℤ◌, neg_ℤ, int_lt, int_le, int_div, int_rem, unsigned_abs, bit_and, bit_or, bit_xor, Bool, true, false, not, ◌&&◌, ◌||◌, if◌then◌else◌, Option, Some, None}
use Rattle.std.specs.Int.{int_shr}
use Rattle.std.specs.Ordering.{int_eq}
use Rattle.c_ints.specs.Range.{least, width, cut, pattern}
use Rattle.c_ints.specs.Quantity.{Quantity}
use Rattle.c_ints.specs.Conversions.{promoted}
use Rattle.c_ints.specs.declared.types.IntTy.{IntTy}
use Rattle.c_ints.specs.declared.types.IntTy.TheVariants.{Int}
use Rattle.c_ints.specs.declared.operators.BinOp.{BinOp}
use Rattle.c_ints.specs.declared.operators.BinOp.TheVariants.{Mul, Div, Rem, Add, Sub, Shl, Shr, Lt, Gt, Le, Ge, Eq, Ne, And, Xor, Or}
use Rattle.c_ints.specs.declared.operators.UnOp.{UnOp}
use Rattle.c_ints.specs.declared.operators.UnOp.TheVariants.{Plus, Minus, Not, Bang}

-- 1 where it holds, 0 where it doesn't
abbrev pub truth : Bool → ℤ
truth holds = if holds then pos 1 else pos 0

-- a number of a type
abbrev pub cut_to : IntTy → ℤ → Quantity
cut_to ty z = record { ty = ty; number = cut ty z }

-- a comparison
abbrev pub compares : BinOp → Bool
compares Lt = true
compares Gt = true
compares Le = true
compares Ge = true
compares Eq = true
compares Ne = true
compares _ = false

-- a shift, whose operands may have two types
abbrev pub shifts : BinOp → Bool
shifts Shl = true
shifts Shr = true
shifts _ = false

-- what a comparison says
abbrev pub comparison : BinOp → ℤ → ℤ → Bool
comparison Lt x y = int_lt x y
comparison Gt x y = int_lt y x
comparison Le x y = int_le x y
comparison Ge x y = int_le y x
comparison Eq x y = int_eq x y
comparison Ne x y = not (int_eq x y)
comparison _ x y = false

-- the type of the result: int for a comparison, otherwise that of the left operand
abbrev pub type_of : BinOp → IntTy → IntTy
type_of op ty = if compares op then Int else ty

-- the value of x op y before it is cut, where x has the type
abbrev pub exact : BinOp → IntTy → ℤ → ℤ → ℤ
exact Mul ty x y = x *ℤ y
exact Div ty x y = int_div x y
exact Rem ty x y = int_rem x y
exact Add ty x y = x +ℤ y
exact Sub ty x y = x -ℤ y
exact Shl ty x y = x *ℤ pos (2 ^ unsigned_abs y)
exact Shr ty x y = int_shr x (unsigned_abs y)
exact Lt ty x y = truth (comparison Lt x y)
exact Gt ty x y = truth (comparison Gt x y)
exact Le ty x y = truth (comparison Le x y)
exact Ge ty x y = truth (comparison Ge x y)
exact Eq ty x y = truth (comparison Eq x y)
exact Ne ty x y = truth (comparison Ne x y)
exact And ty x y = pos (bit_and (pattern ty x) (pattern ty y))
exact Xor ty x y = pos (bit_xor (pattern ty x) (pattern ty y))
exact Or ty x y = pos (bit_or (pattern ty x) (pattern ty y))

-- x / y and x % y have no value: the divisor is 0, or the least number of a signed type is
-- divided by -1, which no unsigned type holds
abbrev pub divides_badly : IntTy → ℤ → ℤ → Bool
divides_badly ty x y = int_eq y (pos 0) || (int_eq x (least ty) && int_eq y (negsuc 0))

-- a shift by y has no value: the count is below 0, or not below the width of the left operand
abbrev pub shifts_badly : IntTy → ℤ → Bool
shifts_badly ty y = int_lt y (pos 0) || int_le (pos (width ty)) y

-- x op y has no value
abbrev pub has_no_value : BinOp → IntTy → ℤ → ℤ → Bool
has_no_value Div ty x y = divides_badly ty x y
has_no_value Rem ty x y = divides_badly ty x y
has_no_value Shl ty x y = shifts_badly ty y
has_no_value Shr ty x y = shifts_badly ty y
has_no_value _ ty x y = false

-- the value of a op b where there is one
abbrev pub value_of : BinOp → Quantity → Quantity → Quantity
value_of op a b = cut_to (type_of op a.ty) (exact op a.ty a.number b.number)

-- what a op b gives
abbrev pub outcome : BinOp → Quantity → Quantity → Option Quantity
outcome op a b = if has_no_value op a.ty a.number b.number then None else Some (value_of op a b)

-- the type of the result of a unary operator: int for !, otherwise the promoted type
abbrev pub unary_type : UnOp → IntTy → IntTy
unary_type Bang ty = Int
unary_type _ ty = promoted ty

-- the value of op z before it is cut
abbrev pub exact_unary : UnOp → ℤ → ℤ
exact_unary Plus z = z
exact_unary Minus z = neg_ℤ z
exact_unary Not z = neg_ℤ z -ℤ pos 1
exact_unary Bang z = truth (int_eq z (pos 0))
