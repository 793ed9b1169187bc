-- The code of the operations that are neither byte-sized nor control.
use Rattle.std.specs.Prelude.{ℕ, Bool, if◌then◌else◌, List, [], ◌∷◌, Option, Some, None}
use Rattle.pic_world.specs.declared.Root.{Root}
use Rattle.c_ints.specs.declared.operators.BinOp.{BinOp}
use Rattle.c_ints.specs.declared.operators.BinOp.TheVariants as binop
use Rattle.c_ints.specs.declared.types.IntTy.{IntTy}
use Rattle.c_ints.specs.Range.{bytes_of}
use Rattle.call_graph.specs.declared.types.FnCopy.{FnCopy}
use Rattle.core_code.specs.Operands.{number_left}
use Rattle.core_code.specs.Tree as tree
use Rattle.core_code.specs.Tree.{Tree}
use Rattle.core_code.specs.declared.code.Byte.{Byte}
use Rattle.sym_code.specs.declared.code.FileOperation.TheVariants.{Andwf, Iorwf, Xorwf}
use Rattle.sym_code.specs.declared.code.Sym.{Sym}
use Rattle.select_wide.specs.Sums.{chain_code, sum_code, bits_code}
use Rattle.select_wide.specs.Comparisons.{equality_code, order_code}
use Rattle.select_wide.specs.Single.{is_signed, unary_code, widening_code}
use Rattle.select_wide.specs.Pointers.{address_code, load_code, store_all_code}
use Rattle.select_wide.specs.Shifts.{shift_code}
use Rattle.select_wide.specs.Calls.{helped_code}
use Rattle.select_wide.specs.declared.operands.Chain.TheVariants.{Difference}
use Rattle.select_wide.specs.declared.operands.Way.{Way}
use Rattle.select_wide.specs.declared.operands.Way.TheVariants.{Left, Right, SignedRight}

abbrev pub way_of : BinOp → Bool → Way
way_of binop.Shl signed = Left
way_of _ signed = if signed then SignedRight else Right

-- a shift by a constant, or by the helper
abbrev pub shifted_code : Option ℕ → List FnCopy → Root → BinOp → IntTy → Byte → Byte → Byte → List Sym
shifted_code None list root op ty to left right = helped_code list root op ty to left right (bytes_of ty) 1
shifted_code (Some count) list root op ty to left right = shift_code (way_of op (is_signed ty)) to left (bytes_of ty) count

abbrev pub binary_code : List FnCopy → Root → List Tree → BinOp → IntTy → Byte → Byte → Byte → List Sym
binary_code list root before binop.Add ty to left right = sum_code to left right (bytes_of ty)
binary_code list root before binop.Sub ty to left right = chain_code Difference to left right (bytes_of ty)
binary_code list root before binop.And ty to left right = bits_code Andwf to left right (bytes_of ty)
binary_code list root before binop.Xor ty to left right = bits_code Xorwf to left right (bytes_of ty)
binary_code list root before binop.Or ty to left right = bits_code Iorwf to left right (bytes_of ty)
binary_code list root before binop.Eq ty to left right = equality_code 0 to left right (bytes_of ty)
binary_code list root before binop.Ne ty to left right = equality_code 1 to left right (bytes_of ty)
binary_code list root before binop.Lt ty to left right = order_code (is_signed ty) 0 to left right (bytes_of ty)
binary_code list root before binop.Ge ty to left right = order_code (is_signed ty) 1 to left right (bytes_of ty)
binary_code list root before binop.Gt ty to left right = order_code (is_signed ty) 0 to right left (bytes_of ty)
binary_code list root before binop.Le ty to left right = order_code (is_signed ty) 1 to right left (bytes_of ty)
binary_code list root before binop.Shl ty to left right = shifted_code (number_left before right) list root binop.Shl ty to left right
binary_code list root before binop.Shr ty to left right = shifted_code (number_left before right) list root binop.Shr ty to left right
binary_code list root before binop.Mul ty to left right = helped_code list root binop.Mul ty to left right (bytes_of ty) (bytes_of ty)
binary_code list root before binop.Div ty to left right = helped_code list root binop.Div ty to left right (bytes_of ty) (bytes_of ty)
binary_code list root before binop.Rem ty to left right = helped_code list root binop.Rem ty to left right (bytes_of ty) (bytes_of ty)

-- the code of an operation, with what stands before it in the same `Many`
abbrev pub wide_code : List FnCopy → Root → List Tree → Tree → List Sym
wide_code list root before (tree.Address to place) = address_code to place
wide_code list root before (tree.Load to pointer count) = load_code to pointer count
wide_code list root before (tree.Store pointer from count) = store_all_code pointer from count
wide_code list root before (tree.Unary op ty at) = unary_code op ty at
wide_code list root before (tree.Binary op ty to left right) = binary_code list root before op ty to left right
wide_code list root before (tree.Convert from to at) = widening_code from to at
wide_code list root before _ = []
