-- What is kept of the calls of routines.
use Rattle.std.specs.Prelude.{◌≡◌, ℕ, ◌^◌, ◌<◌, ◌≤◌, Bool, List, Some, None}
use Rattle.c_typed.specs.declared.calls.Helper.{Helper}
use Rattle.math_helpers.specs.Layouts.{bytes_of}
use Rattle.math_helpers.specs.Routines.{width_of, helper_code}
use Rattle.math_helpers.specs.Shape.{right_bytes, ArePriced}
use Rattle.math_helpers.specs.Wanted.{IsCalled, Answers}
use Rattle.sym_code.specs.Effect.{Setting, root_of}
use Rattle.sym_code.specs.Programs.{Position}
use Rattle.sym_code.specs.Quiet.{Scene, quiet_cost}
use Rattle.sym_code.specs.declared.code.BlockName.{BlockName}
use Rattle.sym_code.specs.declared.code.BlockName.TheVariants.{Copy}
use Rattle.select_wide.specs.Direct.{direct_run}

-- one run of a routine at most, whatever the operands
abbrev pub routine_most : ℕ
routine_most = 4096

-- A thread that has nothing left to write of an instruction before calls the routine: it is answered, for all prices that leave
-- room for the routine's selects, again nothing is left to write, no step goes through FSR, and all of it costs so much at most,
-- also where the operator has no value.
abbrev pub IsAnswered : Helper → Type 0
IsAnswered h =
    (copy : ℕ) (g : Setting) (price : BlockName → ℕ → ℕ) (inside : Bool) (next : Position) (stack : List Position) (left right : ℕ) (s : Scene) →
    left < 256 ^ bytes_of (width_of h) → right < 256 ^ right_bytes h → s.thread.rest ≡ None →
    IsCalled h copy g inside next stack left right s → ArePriced (price (Copy copy)) (helper_code h (root_of inside) copy) →
    (done : Answers h copy g price inside next stack left right s) × (done.end.thread.rest ≡ None) × (direct_run g inside done.count s ≡ Some done.end)
    × (quiet_cost g price inside done.count s ≤ routine_most)

-- each routine
abbrev pub HelpersAnswer : Type 0
HelpersAnswer = (h : Helper) → IsAnswered h
