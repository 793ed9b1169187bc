-- What code can be selected for: which operators a helper computes, and where their operands may lie. Code goes through
-- the bytes of a value from the lowest on, so a byte that it writes may be none that it reads later.
use Rattle.std.specs.Prelude.{ℕ, ◌-◌, Bool, true, false, not, ◌&&◌, ◌||◌, nat_lt, if◌then◌else◌, List, [], ◌∷◌, Option, Some, None, is_some}
use Rattle.c_ints.specs.Range.{bytes_of}
use Rattle.c_ints.specs.declared.operators.BinOp.{BinOp}
use Rattle.c_ints.specs.declared.operators.BinOp.TheVariants as ops
use Rattle.c_ints.specs.declared.operators.UnOp.{UnOp}
use Rattle.c_ints.specs.declared.operators.UnOp.TheVariants as unary
use Rattle.c_ints.specs.declared.types.IntTy.{IntTy}
use Rattle.core_code.specs.Bytes.{behind, same_byte, misses, is_same_or_misses}
use Rattle.core_code.specs.Tree as tree
use Rattle.core_code.specs.Tree.{Tree}
use Rattle.core_code.specs.declared.code.Byte.{Byte}
use Rattle.core_code.specs.declared.code.Byte.TheVariants.{Frame}

-- ---- numbers that are known
-- What a run of `Set`s leaves in a byte, with one operation more.
abbrev pub number_behind : Byte → Option ℕ → Tree → Option ℕ
number_behind byte left (tree.Set to value) = if same_byte to byte then Some value else left
number_behind byte left _ = None

abbrev pub number_from : Byte → Option ℕ → List Tree → Option ℕ
number_from byte left [] = left
number_from byte left (t ∷ ts) = number_from byte (number_behind byte left t) ts

-- the number that a run of `Set`s at the end of some operations leaves in a byte
abbrev pub number_left : List Tree → Byte → Option ℕ
number_left ts byte = number_from byte None ts

-- ---- helpers
-- Whether an operator calls a helper; one on a shift's count that is known doesn't.
abbrev pub is_helped : BinOp → Option ℕ → Bool
is_helped ops.Mul count = true
is_helped ops.Div count = true
is_helped ops.Rem count = true
is_helped ops.Shl count = not (is_some count)
is_helped ops.Shr count = not (is_some count)
is_helped _ count = false

-- ---- where operands may lie
-- Of a value of one byte only `!` has code: the others give a value of two.
abbrev pub fits_unary : UnOp → IntTy → Bool
fits_unary unary.Bang ty = true
fits_unary _ ty = nat_lt 1 (bytes_of ty)

abbrev pub is_frames : Byte → Bool
is_frames (Frame c offset) = true
is_frames _ = false

-- A sum and its like go to one of the operands or to another place.
abbrev pub fits_sum : ℕ → Byte → Byte → Byte → Bool
fits_sum width to x y = is_same_or_misses width to x && is_same_or_misses width to y

-- A difference may not take the place of the right operand, unless that is the left one too.
abbrev pub fits_difference : ℕ → Byte → Byte → Byte → Bool
fits_difference width to x y = is_same_or_misses width to x && (misses to width y width || (same_byte to x && same_byte to y))

-- Two values are compared for equality in the lowest byte of the answer.
abbrev pub fits_equality : ℕ → Byte → Byte → Byte → Bool
fits_equality width to x y = misses to 1 (behind x 1) (width - 1) && misses to 1 (behind y 1) (width - 1)

-- A helper takes values of two and four bytes. It leaves its answer in the results, from where it goes to a frame.
abbrev pub fits_helper : ℕ → Byte → Bool
fits_helper width to = nat_lt 1 width && is_frames to

abbrev pub fits_shift : ℕ → Option ℕ → Byte → Byte → Bool
fits_shift width None to x = fits_helper width to
fits_shift width (Some count) to x = nat_lt 1 width && is_same_or_misses width to x

-- Whether a binary operator has code: on values of so many bytes, with a count that may be known, where the answer and the
-- operands begin.
abbrev pub fits_bytes : BinOp → ℕ → Option ℕ → Byte → Byte → Byte → Bool
fits_bytes ops.Add width count to x y = fits_sum width to x y
fits_bytes ops.And width count to x y = fits_sum width to x y
fits_bytes ops.Or width count to x y = fits_sum width to x y
fits_bytes ops.Xor width count to x y = fits_sum width to x y
fits_bytes ops.Sub width count to x y = fits_difference width to x y
fits_bytes ops.Eq width count to x y = fits_equality width to x y
fits_bytes ops.Ne width count to x y = fits_equality width to x y
fits_bytes ops.Lt width count to x y = true
fits_bytes ops.Gt width count to x y = true
fits_bytes ops.Le width count to x y = true
fits_bytes ops.Ge width count to x y = true
fits_bytes ops.Mul width count to x y = fits_helper width to
fits_bytes ops.Div width count to x y = fits_helper width to
fits_bytes ops.Rem width count to x y = fits_helper width to
fits_bytes ops.Shl width count to x y = fits_shift width count to x
fits_bytes ops.Shr width count to x y = fits_shift width count to x

unfoldable pub fits_together : BinOp → IntTy → Option ℕ → Byte → Byte → Byte → Bool
fits_together op ty count to x y = fits_bytes op (bytes_of ty) count to x y
