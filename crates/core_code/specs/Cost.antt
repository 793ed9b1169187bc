-- How many instructions of the chip each step of byte code takes: at most, with all selects, and at least. Code that
-- runs forward takes each of its words once at most, so the words of an operation bound its instructions. What an
-- operation leaves behind as a task is paid where the task is done, so that the bounds hold of each step by itself.
use Rattle.std.specs.Prelude.{ℕ, zero, suc, ◌+◌, ◌-◌, ◌*◌, Bool, true, false, ◌||◌, nat_lt, if◌then◌else◌, List, [], ◌∷◌, Option, Some, None}
use Rattle.c_ints.specs.Range.{bytes_of}
use Rattle.c_ints.specs.declared.operators.BinOp.{BinOp}
use Rattle.c_ints.specs.declared.operators.BinOp.TheVariants as ops
use Rattle.c_ints.specs.declared.operators.UnOp.{UnOp}
use Rattle.c_ints.specs.declared.operators.UnOp.TheVariants as unary
use Rattle.pic_world.specs.World.{arrived, is_due}
use Rattle.core_code.specs.Bytes.{Object, Fixed, FrameOf, is_private}
use Rattle.core_code.specs.Machine.{Program, Setting, Machine, Task, Do, Put, PutBit, PutBack, Join, LoadFrom, StoreTo, Reading, Over, Waiting, InLoop, InCall, InHandler}
use Rattle.core_code.specs.Operands.{number_left}
use Rattle.core_code.specs.Tree as tree
use Rattle.core_code.specs.Tree.{Tree}
use Rattle.core_code.specs.declared.code.Byte.{Byte}
use Rattle.core_code.specs.declared.code.Byte.TheVariants.{Static, Frame, Result, Device}

-- one run of a helper where its operator has a value, and what saves or restores main's context
abbrev pub helper_cost : ℕ
helper_cost = 2048

abbrev pub context_cost : ℕ
context_cost = 100

-- a jump, with the selects of its page
abbrev pub jump_cost : ℕ
jump_cost = 4

-- a byte is read to W, or written from there; and both
abbrev pub half_cost : ℕ
half_cost = 3

abbrev pub move_cost : ℕ
move_cost = 6

-- What a call costs with the selects of its page, and with the copy of its index where what is called reads a table; and what it costs
-- to read a table's byte.
abbrev pub call_cost : ℕ
call_cost = 12

abbrev pub reading_cost : ℕ
reading_cost = 16

-- ---- at most
-- by the bytes of the operand
abbrev pub unary_cost : UnOp → ℕ → ℕ
unary_cost unary.Plus w = 0
unary_cost unary.Minus w = 10 * w
unary_cost unary.Not w = 4 * w
unary_cost unary.Bang w = 4 * w + 16

-- by a number that is known, or by the helper
abbrev pub shift_cost : Option ℕ → ℕ → ℕ
shift_cost (Some count) w = 8 * w + 20
shift_cost None w = 14 * w + 14 + helper_cost

abbrev pub binary_cost : BinOp → Option ℕ → ℕ → ℕ
binary_cost ops.Add count w = 10 * w
binary_cost ops.Sub count w = 10 * w
binary_cost ops.And count w = 8 * w
binary_cost ops.Or count w = 8 * w
binary_cost ops.Xor count w = 8 * w
binary_cost ops.Eq count w = 10 * w + 20
binary_cost ops.Ne count w = 10 * w + 20
binary_cost ops.Lt count w = 10 * w + 30
binary_cost ops.Gt count w = 10 * w + 30
binary_cost ops.Le count w = 10 * w + 30
binary_cost ops.Ge count w = 10 * w + 30
binary_cost ops.Mul count w = 20 * w + 10 + helper_cost
binary_cost ops.Div count w = 20 * w + 10 + helper_cost
binary_cost ops.Rem count w = 20 * w + 10 + helper_cost
binary_cost ops.Shl count w = shift_cost count w
binary_cost ops.Shr count w = shift_cost count w

-- to a type of k bytes more
abbrev pub widening_cost : ℕ → ℕ
widening_cost zero = 0
widening_cost (suc k) = 8 + 4 * suc k

-- a copy whose write is left as a task, and one that is done at once
abbrev pub copy_cost : Bool → ℕ
copy_cost at_once = if at_once then move_cost else half_cost

-- an operation, with what stands before it in its `Many`
unfoldable pub cost_of : List Tree → Tree → ℕ
cost_of before (tree.Set to value) = 4
cost_of before (tree.Address to place) = 8
cost_of before (tree.Copy to from) = copy_cost (is_private from)
cost_of before (tree.Load to pointer count) = 14
cost_of before (tree.Store pointer from count) = 14
cost_of before (tree.Unary op ty at) = unary_cost op (bytes_of ty)
cost_of before (tree.Binary op ty to left right) = binary_cost op (number_left before right) (bytes_of ty)
cost_of before (tree.Convert from to at) = widening_cost (bytes_of to - bytes_of from)
cost_of before (tree.BitRead to register bit) = 6
cost_of before (tree.BitWrite register bit from) = 13
cost_of before (tree.Call copy) = call_cost
cost_of before tree.Leave = 4
cost_of before (tree.Many ts) = 0
cost_of before (tree.If test size first second) = 4 * size + 16
cost_of before (tree.Loop body) = 0
cost_of before (tree.Exit loops) = jump_cost
cost_of before (tree.Again loops) = jump_cost

-- what a leave takes besides: behind the handler main's context is restored
abbrev pub restoring : List Waiting → ℕ
restoring [] = 0
restoring (InLoop body c ∷ s) = restoring s
restoring (InCall p c ∷ s) = 0
restoring (InHandler p a c ∷ s) = context_cost

abbrev pub leaving : Tree → List Waiting → ℕ
leaving tree.Leave s = restoring s
leaving _ s = 0

-- The read of a byte through a pointer may be an event, and then the write is a task of its own. One from a static object may become
-- the read of a table's byte.
abbrev pub load_cost : Object → ℕ
load_cost (Fixed n) = reading_cost
load_cost (FrameOf c) = move_cost

-- A repeat of a loop is a jump, and so may be the end of what a choice led to.
abbrev pub task_most : List Task → List Waiting → ℕ
task_most [] s = jump_cost
task_most (Do before t ∷ c) s = cost_of before t + leaving t s
task_most (Put to held ∷ c) s = half_cost
task_most (PutBit to value ∷ c) s = 4
task_most (PutBack register value ∷ c) s = half_cost
task_most (Join ∷ c) s = jump_cost
task_most (LoadFrom to object offset n ∷ c) s = load_cost object
task_most (StoreTo object offset from n ∷ c) s = move_cost
task_most (Reading bytes ∷ c) s = reading_cost
task_most (Over ∷ c) s = 0

unfoldable pub step_most : Setting → Machine → ℕ
step_most g t = if is_due (arrived g.outside t.world) then context_cost else task_most t.code t.stack

-- ---- at least
-- What a pass over the code that is selected may leave out costs nothing at least: what is done with temporary bytes and results.
abbrev pub one_if : Bool → ℕ
one_if true = 1
one_if false = 0

-- A byte that the source has, too: of a device register, a static object, a parameter or a local. No access to it is left out. A
-- copy's variables stand at the front of its frame; given is how many bytes they have.
abbrev pub is_kept : (ℕ → ℕ) → Byte → Bool
is_kept variables (Static object offset) = true
is_kept variables (Frame copy offset) = nat_lt offset (variables copy)
is_kept variables (Result root k) = false
is_kept variables (Device address) = true

-- Main's own leave takes none.
abbrev pub least_leave : List Waiting → ℕ
least_leave [] = 0
least_leave (InLoop body c ∷ s) = least_leave s
least_leave (InCall p c ∷ s) = 1
least_leave (InHandler p a c ∷ s) = 1

-- a call of a copy that reads a table copies its index, too
abbrev pub least_call : Option (List ℕ) → ℕ
least_call None = 1
least_call (Some bytes) = 3

abbrev pub least_of : Program → Tree → List Waiting → ℕ
least_of q (tree.Set to value) s = one_if (is_kept q.variable_bytes to)
least_of q (tree.Copy to from) s = one_if (is_kept q.variable_bytes to || is_kept q.variable_bytes from)
least_of q (tree.BitRead to register bit) s = 1
least_of q (tree.BitWrite register bit from) s = 1
least_of q (tree.Call copy) s = least_call (q.reads copy)
least_of q tree.Leave s = least_leave s
least_of q (tree.If test size first second) s = 1
least_of q (tree.Again loops) s = 1
-- a load and a store leave their accesses as tasks; and where a loop's body ends with it, an exit takes none
least_of q _ s = 0

abbrev pub least_task : Program → List Task → List Waiting → ℕ
least_task q [] s = 1
least_task q (Do before t ∷ c) s = least_of q t s
least_task q (Put to held ∷ c) s = one_if (is_kept q.variable_bytes to)
least_task q (PutBit to value ∷ c) s = 0
-- one instruction reads and writes the register
least_task q (PutBack register value ∷ c) s = 0
least_task q (Join ∷ c) s = 0
least_task q (LoadFrom to object offset n ∷ c) s = one_if (nat_lt 0 n)
least_task q (StoreTo object offset from n ∷ c) s = one_if (nat_lt 0 n)
least_task q (Reading bytes ∷ c) s = 1
least_task q (Over ∷ c) s = 0

unfoldable pub step_least : Setting → Machine → ℕ
step_least g t = if is_due (arrived g.outside t.world) then 1 else least_task g.program t.code t.stack
