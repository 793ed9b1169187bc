-- What is ahead of small trees, and marks of a small run, computed.
use Rattle.std.proofs.Common.{◌≡◌, ℕ, zero, suc, true, nat_eq, List, [], ◌∷◌, None, refl}
use Rattle.pic_world.specs.Control.{raised_by, is_due as is_due_by}
use Rattle.pic_world.specs.World.{outside_of, arrived, is_due}
use Rattle.pic_world.specs.declared.Root.TheVariants.{Main}
use Rattle.c_typed.specs.Trees as source
use Rattle.c_typed.specs.declared.statement.LoopForm.TheVariants.{For}
use Rattle.core_code.specs.Bytes.{Number}
use Rattle.core_code.specs.Cost.{step_least}
use Rattle.core_code.specs.Machine.{Setting, is_own, is_valid, after_write, memory_with, put, operate, act, core_step, core_run}
use Rattle.core_code.specs.Runs.{least_by}
use Rattle.core_code.specs.Tree.{Tree, Set, Call, Leave, Loop, many}
use Rattle.core_code.specs.declared.code.Byte.TheVariants.{Static}
use Rattle.lag_trace.specs.Marks.{step_marks, marks_by}
use Rattle.lag_trace.proofs.Ahead.{ahead_in, statement_ahead}

-- a structure of 96 bytes is read and written
copied : ahead_in [] (source.StructAssign (source.Bit 5 0 1) (source.Bit 5 1 1) 96 1) ≡ 193
unfolding ahead_in
copied = refl

-- `for (;;) ;` begins, and so does its body: what repeats is counted once
repeated : statement_ahead [] (source.Loop For None None None (source.Empty 1) 1) ≡ 2
unfolding statement_ahead
repeated = refl

-- Main writes a static byte twice, calls a function that only returns, and then writes the byte for ever.
abbrev bodies : ℕ → List Tree
bodies zero = Set (Static 0 0) 1 ∷ Set (Static 0 0) 2 ∷ Call 1 ∷ Loop (many (Set (Static 0 0) 3 ∷ [])) ∷ Leave ∷ []
bodies (suc n) = Leave ∷ []

abbrev setting : Setting
setting = record {
  program = record {
    body = bodies;
    root = λ copy. Main;
    reads = λ copy. None;
    calls = λ caller callee. nat_eq callee 1;
    helped = λ copy op ty. true;
    handler = None;
    first = (Number 7 ∷ []) ∷ [];
    is_watched = λ n. true;
    frame_bytes = λ copy. 0;
    parameter_bytes = λ copy. 0;
    variable_bytes = λ copy. 0;
  };
  outside = outside_of [] [];
}

-- The call, the leave and two repeats are marks, and the four writes are none.
marked : marks_by setting 11 ≡ 4
unfolding marks_by step_marks core_run core_step act operate put is_own is_valid after_write memory_with arrived is_due raised_by is_due_by
marked = refl

costed : least_by setting 11 ≡ 8
unfolding least_by step_least core_run core_step act operate put is_own is_valid after_write memory_with arrived is_due raised_by is_due_by
costed = refl
