-- The pieces that a routine is made of: single instructions, and what is done with a value byte by byte.
use Rattle.std.specs.Prelude.{ℕ, ◌+◌, ◌-◌, List, [], ◌∷◌, ◌++◌, ◌==◌, if◌then◌else◌, zero, suc}
use Rattle.sym_code.specs.declared.code.BitOperation.{BitOperation}
use Rattle.sym_code.specs.declared.code.BitOperation.TheVariants.{Btfsc, Btfss}
use Rattle.sym_code.specs.declared.code.FileOperation.{FileOperation}
use Rattle.sym_code.specs.declared.code.FileOperation.TheVariants.{Addwf, Comf, Incf, Incfsz, Movf, Rlf, Rrf, Subwf}
use Rattle.sym_code.specs.declared.code.Into.TheVariants as Into
use Rattle.sym_code.specs.declared.code.Label.TheVariants as Label
use Rattle.sym_code.specs.declared.code.Literal.TheVariants as Literal
use Rattle.sym_code.specs.declared.code.LiteralOperation.TheVariants.{Movlw}
use Rattle.sym_code.specs.declared.code.Operand.{Operand}
use Rattle.sym_code.specs.declared.code.Operand.TheVariants as Operand
use Rattle.sym_code.specs.declared.code.PlainOperation.TheVariants.{Return}
use Rattle.sym_code.specs.declared.code.Register.TheVariants.{Status}
use Rattle.sym_code.specs.declared.code.Sym.{Sym}
use Rattle.sym_code.specs.declared.code.Sym.TheVariants as Sym
use Rattle.sym_code.specs.declared.code.Target.TheVariants as Target
use Rattle.math_helpers.specs.declared.layout.RoutineLayout.{RoutineLayout}
use Rattle.math_helpers.specs.declared.layout.Value.{Value}
use Rattle.math_helpers.specs.declared.layout.Value.TheVariants as Value
use Rattle.math_helpers.specs.declared.steps.Step.{Step}
use Rattle.math_helpers.specs.declared.steps.Step.TheVariants as Step
use Rattle.math_helpers.specs.Layouts.{bytes_of, operand_at}

abbrev pub to_file : FileOperation → Operand → Sym
to_file op file = Sym.File op file Into.File

abbrev pub to_w : FileOperation → Operand → Sym
to_w op file = Sym.File op file Into.W

abbrev pub from_w : Operand → Sym
from_w file = Sym.Movwf file

abbrev pub clear : Operand → Sym
clear file = Sym.Clrf file

abbrev pub on_bit : BitOperation → Operand → ℕ → Sym
on_bit op file bit = Sym.Bit op file bit

-- on a flag, by its number in STATUS
abbrev pub on_flag : BitOperation → ℕ → Sym
on_flag op flag = Sym.Bit op (Operand.Register Status) flag

abbrev pub number : ℕ → Sym
number n = Sym.Literal Movlw (Literal.Number n)

abbrev pub jump : ℕ → Sym
jump label = Sym.Goto (Target.Label (Label.Inner label))

abbrev pub mark : ℕ → Sym
mark label = Sym.Label (Label.Inner label)

abbrev pub back : Sym
back = Sym.Plain Return

-- the flags C and Z, by their numbers in STATUS
abbrev pub carry_flag : ℕ
carry_flag = 0

abbrev pub zero_flag : ℕ
zero_flag = 2

-- W becomes byte k of the right operand, and behind the lowest byte one more where the carry says so; where that gives 0
-- with a carry, the next instruction is skipped
abbrev pub right_byte : RoutineLayout → BitOperation → ℕ → List Sym
right_byte l unless k = to_w Movf (operand_at l Value.Right k) ∷ (if k == 0 then [] else on_flag unless carry_flag ∷ to_w Incfsz (operand_at l Value.Right k) ∷ [])

-- the code of a step at byte k
abbrev pub step_code : RoutineLayout → Step → ℕ → List Sym
step_code l (Step.Clear v) k = clear (operand_at l v k) ∷ []
step_code l (Step.Answer v) k = to_w Movf (operand_at l v k) ∷ from_w (operand_at l Value.Answer k) ∷ []
step_code l (Step.ShiftLeft v) k = to_file Rlf (operand_at l v k) ∷ []
step_code l Step.ShiftRight k = to_file Rrf (operand_at l Value.Answer (bytes_of l.width - 1 - k)) ∷ []
step_code l Step.Add k = right_byte l Btfsc k ++ to_file Addwf (operand_at l Value.Answer k) ∷ []
step_code l Step.Compare k = right_byte l Btfss k ++ to_w Subwf (operand_at l Value.Remainder k) ∷ []
step_code l Step.Subtract k = right_byte l Btfss k ++ to_file Subwf (operand_at l Value.Remainder k) ∷ []
step_code l (Step.Invert v) k = to_file Comf (operand_at l v k) ∷ []
step_code l (Step.Increment v) k = (if k == 0 then [] else on_flag Btfsc zero_flag ∷ []) ++ to_file Incf (operand_at l v k) ∷ []

-- the code of a step at so many bytes
abbrev pub each_byte : RoutineLayout → Step → ℕ → List Sym
each_byte l step zero = []
each_byte l step (suc k) = each_byte l step k ++ step_code l step k
