-- The routines, instruction by instruction.
use Rattle.std.specs.Prelude.{ℕ, ◌-◌, List, [], ◌∷◌, ◌++◌}
use Rattle.c_typed.specs.declared.calls.Helper.{Helper}
use Rattle.c_typed.specs.declared.calls.Helper.TheVariants.{Mul2, Mul4, Divu2, Divs2, Remu2, Rems2, Divu4, Divs4, Remu4, Rems4, Shl2, Shru2, Shrs2, Shl4, Shru4, Shrs4}
use Rattle.pic_world.specs.declared.Root.{Root}
use Rattle.sym_code.specs.declared.code.BitOperation.TheVariants.{Bcf, Bsf, Btfsc, Btfss}
use Rattle.sym_code.specs.declared.code.FileOperation.TheVariants.{Decfsz, Movf, Rlf, Xorwf}
use Rattle.sym_code.specs.declared.code.Operand.{Operand}
use Rattle.sym_code.specs.declared.code.Sym.{Sym}
use Rattle.math_helpers.specs.declared.division.Part.{Part}
use Rattle.math_helpers.specs.declared.division.Part.TheVariants as Part
use Rattle.math_helpers.specs.declared.layout.RoutineLayout.{RoutineLayout}
use Rattle.math_helpers.specs.declared.layout.Value.{Value}
use Rattle.math_helpers.specs.declared.layout.Value.TheVariants as Value
use Rattle.math_helpers.specs.declared.layout.Width.{Width}
use Rattle.math_helpers.specs.declared.layout.Width.TheVariants.{Two, Four}
use Rattle.math_helpers.specs.declared.routine.Task.{Task}
use Rattle.math_helpers.specs.declared.routine.Task.TheVariants as Task
use Rattle.math_helpers.specs.declared.shift.Direction.{Direction}
use Rattle.math_helpers.specs.declared.shift.Direction.TheVariants as Direction
use Rattle.math_helpers.specs.declared.steps.Step.{Step}
use Rattle.math_helpers.specs.declared.steps.Step.TheVariants as Step
use Rattle.math_helpers.specs.Layouts.{bytes_of, bits_of, operand_at}
use Rattle.math_helpers.specs.Pieces.{to_file, to_w, from_w, on_bit, on_flag, number, jump, mark, back, carry_flag, zero_flag, each_byte}

-- a step at all bytes
abbrev pub each : RoutineLayout → Step → List Sym
each l step = each_byte l step (bytes_of l.width)

-- the counter becomes the number of bits of an operand
abbrev pub rounds_code : RoutineLayout → List Sym
rounds_code l = number (bits_of l.width) ∷ from_w (operand_at l Value.Spare 0) ∷ []

-- one round less is left, and where another one is left, it begins at the label
abbrev pub round_end_code : RoutineLayout → Value → ℕ → List Sym
round_end_code l counter label = to_file Decfsz (operand_at l counter 0) ∷ jump label ∷ []

abbrev pub product_code : RoutineLayout → List Sym
product_code l =
    each l (Step.Clear Value.Answer) ++ rounds_code l ++ mark 0 ∷ on_flag Bcf carry_flag ∷ []
    ++ each l (Step.ShiftLeft Value.Answer) ++ each l (Step.ShiftLeft Value.Left) ++ on_flag Btfss carry_flag ∷ jump 1 ∷ []
    ++ each l Step.Add ++ mark 1 ∷ [] ++ round_end_code l Value.Spare 0 ++ back ∷ []

-- the value is negated where bit 7 of a byte is 1
abbrev pub negate_if_code : RoutineLayout → Operand → Value → ℕ → List Sym
negate_if_code l sign value label =
    on_bit Btfss sign 7 ∷ jump label ∷ [] ++ each l (Step.Invert value) ++ each l (Step.Increment value) ++ mark label ∷ []

-- where the remainder is at least the right operand, or C is 1 before, that is taken off it, and C becomes 1; otherwise 0
abbrev pub take_off_code : RoutineLayout → List Sym
take_off_code l =
    on_flag Btfsc carry_flag ∷ jump 1 ∷ [] ++ each l Step.Compare ++ on_flag Btfss carry_flag ∷ jump 2 ∷ mark 1 ∷ []
    ++ each l Step.Subtract ++ on_flag Bsf carry_flag ∷ mark 2 ∷ []

-- the left operand becomes the quotient, and the remainder that of the division, both operands without sign
abbrev pub divide_code : RoutineLayout → List Sym
divide_code l =
    each l (Step.Clear Value.Remainder) ++ rounds_code l ++ mark 0 ∷ []
    ++ each l (Step.ShiftLeft Value.Left) ++ each l (Step.ShiftLeft Value.Remainder) ++ take_off_code l
    ++ round_end_code l Value.Spare 0 ++ each l (Step.ShiftLeft Value.Left)

abbrev pub part_value : Part → Value
part_value Part.Quotient = Value.Left
part_value Part.Remainder = Value.Remainder

-- bit 7 of the sign becomes that of the answer
abbrev pub sign_code : RoutineLayout → Part → List Sym
sign_code l Part.Quotient = to_w Movf (operand_at l Value.Left (bytes_of l.width - 1)) ∷ to_w Xorwf (operand_at l Value.Right (bytes_of l.width - 1)) ∷ from_w (operand_at l Value.Spare 1) ∷ []
sign_code l Part.Remainder = to_w Movf (operand_at l Value.Left (bytes_of l.width - 1)) ∷ from_w (operand_at l Value.Spare 1) ∷ []

abbrev pub magnitudes_code : RoutineLayout → List Sym
magnitudes_code l =
    negate_if_code l (operand_at l Value.Left (bytes_of l.width - 1)) Value.Left 3
    ++ negate_if_code l (operand_at l Value.Right (bytes_of l.width - 1)) Value.Right 4

abbrev pub division_code : RoutineLayout → Part → List Sym
division_code l part = divide_code l ++ each l (Step.Answer (part_value part)) ++ back ∷ []

abbrev pub signed_division_code : RoutineLayout → Part → List Sym
signed_division_code l part =
    sign_code l part ++ magnitudes_code l ++ divide_code l
    ++ negate_if_code l (operand_at l Value.Spare 1) (part_value part) 5 ++ each l (Step.Answer (part_value part)) ++ back ∷ []

-- the answer goes by one bit
abbrev pub one_bit_code : RoutineLayout → Direction → List Sym
one_bit_code l Direction.Left = on_flag Bcf carry_flag ∷ [] ++ each l (Step.ShiftLeft Value.Answer)
one_bit_code l Direction.Right = on_flag Bcf carry_flag ∷ [] ++ each l Step.ShiftRight
one_bit_code l Direction.SignedRight = to_w Rlf (operand_at l Value.Answer (bytes_of l.width - 1)) ∷ [] ++ each l Step.ShiftRight

abbrev pub shift_code : RoutineLayout → Direction → List Sym
shift_code l direction =
    each l (Step.Answer Value.Left) ++ to_file Movf (operand_at l Value.Right 0) ∷ on_flag Btfsc zero_flag ∷ back ∷ mark 0 ∷ []
    ++ one_bit_code l direction ++ round_end_code l Value.Right 0 ++ back ∷ []

abbrev pub task_code : RoutineLayout → Task → List Sym
task_code l Task.Product = product_code l
task_code l (Task.Division part) = division_code l part
task_code l (Task.SignedDivision part) = signed_division_code l part
task_code l (Task.Shift direction) = shift_code l direction

-- how many bytes the operands of a routine have
abbrev pub width_of : Helper → Width
width_of Mul2 = Two
width_of Mul4 = Four
width_of Divu2 = Two
width_of Divs2 = Two
width_of Remu2 = Two
width_of Rems2 = Two
width_of Divu4 = Four
width_of Divs4 = Four
width_of Remu4 = Four
width_of Rems4 = Four
width_of Shl2 = Two
width_of Shru2 = Two
width_of Shrs2 = Two
width_of Shl4 = Four
width_of Shru4 = Four
width_of Shrs4 = Four

abbrev pub task_of : Helper → Task
task_of Mul2 = Task.Product
task_of Mul4 = Task.Product
task_of Divu2 = Task.Division Part.Quotient
task_of Divs2 = Task.SignedDivision Part.Quotient
task_of Remu2 = Task.Division Part.Remainder
task_of Rems2 = Task.SignedDivision Part.Remainder
task_of Divu4 = Task.Division Part.Quotient
task_of Divs4 = Task.SignedDivision Part.Quotient
task_of Remu4 = Task.Division Part.Remainder
task_of Rems4 = Task.SignedDivision Part.Remainder
task_of Shl2 = Task.Shift Direction.Left
task_of Shru2 = Task.Shift Direction.Right
task_of Shrs2 = Task.Shift Direction.SignedRight
task_of Shl4 = Task.Shift Direction.Left
task_of Shru4 = Task.Shift Direction.Right
task_of Shrs4 = Task.Shift Direction.SignedRight

-- the block of a routine
abbrev pub helper_code : Helper → Root → ℕ → List Sym
helper_code h root copy = task_code (record { root = root; copy = copy; width = width_of h }) (task_of h)
