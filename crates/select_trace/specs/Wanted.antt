-- Which routine an operator has, over values that stand at any bytes.
use Rattle.std.specs.Prelude.{ℕ, List}
use Rattle.c_typed.specs.declared.calls.Helper.{Helper}
use Rattle.c_typed.specs.declared.calls.Helper.TheVariants.{Mul2, Mul4, Divu2, Divs2, Remu2, Rems2, Divu4, Divs4, Remu4, Rems4, Shl2, Shru2, Shrs2, Shl4, Shru4, Shrs4}
use Rattle.select_trace.specs.Run.{Sym}
use Rattle.select_trace.specs.Helpers.{Layout, Part, Quotient, Rest, Direction, Leftward, Rightward, SignedRightward}
use Rattle.select_trace.specs.Routines.{product_code, division_code, signed_division_code, shift_code}

pub data Task : Type 0 where
  Product : Task
  Division : Part → Task
  SignedDivision : Part → Task
  Shift : Direction → Task

abbrev pub task_code : Layout → Task → List Sym
task_code l Product = product_code l
task_code l (Division part) = division_code l part
task_code l (SignedDivision part) = signed_division_code l part
task_code l (Shift direction) = shift_code l direction

abbrev pub width_of : Helper → ℕ
width_of Mul2 = 2
width_of Mul4 = 4
width_of Divu2 = 2
width_of Divs2 = 2
width_of Remu2 = 2
width_of Rems2 = 2
width_of Divu4 = 4
width_of Divs4 = 4
width_of Remu4 = 4
width_of Rems4 = 4
width_of Shl2 = 2
width_of Shru2 = 2
width_of Shrs2 = 2
width_of Shl4 = 4
width_of Shru4 = 4
width_of Shrs4 = 4

abbrev pub task_of : Helper → Task
task_of Mul2 = Product
task_of Mul4 = Product
task_of Divu2 = Division Quotient
task_of Divs2 = SignedDivision Quotient
task_of Remu2 = Division Rest
task_of Rems2 = SignedDivision Rest
task_of Divu4 = Division Quotient
task_of Divs4 = SignedDivision Quotient
task_of Remu4 = Division Rest
task_of Rems4 = SignedDivision Rest
task_of Shl2 = Shift Leftward
task_of Shru2 = Shift Rightward
task_of Shrs2 = Shift SignedRightward
task_of Shl4 = Shift Leftward
task_of Shru4 = Shift Rightward
task_of Shrs4 = Shift SignedRightward
