-- That two programs of byte code go on in step: at each moment the same comes next in both, but for what an operation does with bytes.
use Rattle.std.specs.Prelude.{◌≡◌, ℕ, ◌≤◌, true, List, [], ◌∷◌}
use Rattle.pic_world.specs.World.{Outside}
use Rattle.run_links.specs.Runs.{Goes}
use Rattle.core_code.specs.Cost.{step_most, step_least}
use Rattle.core_code.specs.Machine.{Setting, Task, Do, core_moment}
use Rattle.core_code.specs.Runs.{goes_at, is_still_at, run_of}
use Rattle.core_code.specs.Tree as tree
use Rattle.core_code.specs.Tree.{Tree}
use Rattle.narrow_code.specs.Plans.{Narrowing, given_setting, made_setting}
use Rattle.narrow_code.specs.Right.{IsSound}
use Rattle.narrow_code.specs.Links.{IsOpen}

-- what becomes of control at the next task
pub data Transfer : Type 0 where
  -- an operation on bytes, a condition, or several operations
  Onward : Transfer
  Begins : Transfer
  -- the loop that is so many loops out is left, or begun again
  Exits : ℕ → Transfer
  Repeats : ℕ → Transfer
  Calls : ℕ → Transfer
  Leaves : Transfer
  -- what an operation left to do: a byte that is written, or the next access by a pointer
  GoesOn : Task → Transfer

abbrev pub transfer_in : Tree → Transfer
transfer_in (tree.Loop body) = Begins
transfer_in (tree.Exit n) = Exits n
transfer_in (tree.Again n) = Repeats n
transfer_in (tree.Call copy) = Calls copy
transfer_in tree.Leave = Leaves
transfer_in _ = Onward

-- At the end of a loop's body it begins again.
abbrev pub transfer_of : List Task → Transfer
transfer_of [] = Repeats 0
transfer_of (Do before t ∷ c) = transfer_in t
transfer_of (task ∷ c) = GoesOn task

-- At this moment both programs have made the same events, run the same copy, and go on by the same transfer. The next step of the second
-- one isn't stuck where that of the first one isn't, costs no more at most, and surely costs as much: it may cost nothing only where
-- the other one may.
pub record InStep (g h : Setting) (i : ℕ) : Type 0 where
  pub world : (core_moment h i).world ≡ (core_moment g i).world
  pub copy : (core_moment h i).copy ≡ (core_moment g i).copy
  pub transfer : transfer_of (core_moment h i).code ≡ transfer_of (core_moment g i).code
  pub goes : goes_at g i ≡ true → goes_at h i ≡ true
  pub rests : is_still_at g i ≡ true → is_still_at h i ≡ true
  pub most : step_most h (core_moment h i) ≤ step_most g (core_moment g i)
  pub least : step_least h (core_moment h i) ≡ step_least g (core_moment g i)

-- Under every schedule the program that is made goes in step with the given one, as long as that isn't stuck.
abbrev pub NarrowingGoesInStep : Type 0
NarrowingGoesInStep =
    (x : Narrowing) → IsSound x → (o : Outside) (n : ℕ) → Goes (run_of (given_setting x o)) n → IsOpen x o n → (i : ℕ) → i ≤ n → InStep (given_setting x o) (made_setting x o) i
