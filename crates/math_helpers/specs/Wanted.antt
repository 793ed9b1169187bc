-- What a routine is for: the value that C defines of its operator (ISO/IEC 9899:1990, 6.3.5 and 6.3.7); and what a call
-- of it does.
use Rattle.std.specs.Prelude.{◌≡◌, ◌≢◌, ℕ, ◌+◌, ◌/◌, ◌%◌, ◌^◌, ◌<◌, ◌≤◌, Bool, true, false, pos, if◌then◌else◌, List, ◌∷◌, IfSome, Some}
use Rattle.core_code.specs.Cost.{helper_cost}
use Rattle.core_code.specs.declared.code.Byte.{Byte}
use Rattle.core_code.specs.declared.code.Byte.TheVariants.{Frame, Result}
use Rattle.sym_code.specs.Effect.{Setting, Memory, root_of}
use Rattle.sym_code.specs.Layout.{DataLayout, frame, address_of, general_at, is_whole, owner, Of}
use Rattle.sym_code.specs.Programs.{Position, front, lands}
use Rattle.sym_code.specs.Quiet.{Scene, quiet_run, quiet_cost}
use Rattle.sym_code.specs.Registers.{Registers, Fits}
use Rattle.sym_code.specs.declared.code.BlockName.{BlockName}
use Rattle.sym_code.specs.declared.code.BlockName.TheVariants.{Copy}
use Rattle.c_ints.specs.Operators.{cut_to, outcome, shifts}
use Rattle.c_ints.specs.Quantity.{Quantity}
use Rattle.c_ints.specs.Range.{pattern}
use Rattle.c_ints.specs.declared.operators.BinOp.{BinOp}
use Rattle.c_ints.specs.declared.types.IntTy.{IntTy}
use Rattle.c_typed.specs.Calls.{int_helper}
use Rattle.c_typed.specs.declared.calls.Helper.{Helper}
use Rattle.math_helpers.specs.Layouts.{bytes_of}
use Rattle.math_helpers.specs.Routines.{width_of, helper_code}
use Rattle.math_helpers.specs.Shape.{frame_size, right_bytes}

-- the right operand that a routine is given by the number that its bytes make: of a shift's count the lowest byte counts
abbrev pub right_operand : BinOp → IntTy → ℕ → Quantity
right_operand op ty right = if shifts op then record { ty = ty; number = pos (right % 256) } else cut_to ty (pos right)

-- The bits of the answer are those of the value, for each operator and type that have this routine, where the operands'
-- bytes make these numbers. Where C defines no value the answer is any.
abbrev pub IsAnswer : Helper → ℕ → ℕ → ℕ → Type 0
IsAnswer h left right answer =
    (op : BinOp) (ty : IntTy) → int_helper op false ty ≡ Some h →
    IfSome (outcome op (cut_to ty (pos left)) (right_operand op ty right)) (λ value. answer ≡ pattern value.ty value.number)

-- ---- calls
-- byte k of a number, counted from the lowest one
abbrev pub byte_at : ℕ → ℕ → ℕ
byte_at number k = number / 256 ^ k % 256

-- what the byte of this name holds
abbrev pub Holds : DataLayout → Memory → Byte → ℕ → Type 0
Holds l m byte value = (k : ℕ) → general_at (address_of l byte) ≡ Some k → m k ≡ value

-- these registers with the W and the flags of others
abbrev pub with_flags : Registers → Registers → Registers
with_flags r other = record r { w = other.w; z = other.z; dc = other.dc; c = other.c }

-- A thread has called the routine, whose operands are in its frame. It goes on at `next` when the routine returns.
pub record IsCalled (h : Helper) (copy : ℕ) (g : Setting) (inside : Bool) (next : Position) (stack : List Position) (left right : ℕ) (s : Scene) : Type 0 where
  pub code : g.program.block (Copy copy) ≡ helper_code h (root_of inside) copy
  pub banks : g.banked ≡ false
  -- the frame is whole, and no byte of it is anything else
  pub whole : is_whole (frame g.program.layout copy).address (frame_size h) ≡ true
  pub own : (offset k : ℕ) → offset < frame_size h → general_at (address_of g.program.layout (Frame copy offset)) ≡ Some k → owner g.program.layout k ≡ Of (root_of inside)
  pub results : (n k : ℕ) → n < 4 → general_at (address_of g.program.layout (Result (root_of inside) n)) ≡ Some k → owner g.program.layout k ≡ Of (root_of inside)
  pub at : s.thread.at ≡ Some (front g.program (Copy copy))
  pub returns : s.thread.stack ≡ next ∷ stack
  pub lands : lands g.program next ≡ true
  pub registers : Fits s.thread.registers
  pub bytes : (k : ℕ) → s.memory k < 256
  pub has_left : (k : ℕ) → k < bytes_of (width_of h) → Holds g.program.layout s.memory (Frame copy k) (byte_at left k)
  pub has_right : (k : ℕ) → k < right_bytes h → Holds g.program.layout s.memory (Frame copy (bytes_of (width_of h) + k)) (byte_at right k)

-- Without an event the thread comes to `next`. The answer is in the results of its root; nothing but these, the routine's frame,
-- W and the flags has changed; and where the operator has a value, all of it costs no more than is stated.
pub record Answers (h : Helper) (copy : ℕ) (g : Setting) (price : BlockName → ℕ → ℕ) (inside : Bool) (next : Position) (stack : List Position) (left right : ℕ) (s : Scene) : Type 0 where
  pub count : ℕ
  pub end : Scene
  pub answer : ℕ
  pub run : quiet_run g inside count s ≡ Some end
  pub at : end.thread.at ≡ Some next
  pub returns : end.thread.stack ≡ stack
  pub fits : Fits end.thread.registers
  pub registers : end.thread.registers ≡ with_flags s.thread.registers end.thread.registers
  pub bytes : (k : ℕ) → end.memory k < 256
  pub others : (k : ℕ) → ((offset : ℕ) → offset < frame_size h → general_at (address_of g.program.layout (Frame copy offset)) ≢ Some k)
      → ((n : ℕ) → n < 4 → general_at (address_of g.program.layout (Result (root_of inside) n)) ≢ Some k) → end.memory k ≡ s.memory k
  pub results : (k : ℕ) → k < bytes_of (width_of h) → Holds g.program.layout end.memory (Result (root_of inside) k) (byte_at answer k)
  pub value : IsAnswer h left right answer
  pub cost : (op : BinOp) (ty : IntTy) → int_helper op false ty ≡ Some h →
      IfSome (outcome op (cut_to ty (pos left)) (right_operand op ty right)) (λ value. quiet_cost g price inside count s ≤ helper_cost)
