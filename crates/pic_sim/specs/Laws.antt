-- What holds of each chip that runs over a board.
use Rattle.std.specs.Prelude.{ℕ, ◌+◌, ◌%◌, ◌≡◌, true, false, List, [], ◌++◌, length, slice_index}
use Rattle.pic_chip.specs.Act.{Act, Effect, Made, accesses, apply, effect, made}
use Rattle.pic_chip.specs.Instructions.{is_modelled}
use Rattle.pic_chip.specs.Machine.{wanted_by}
use Rattle.pic_chip.specs.Run.{Range}
use Rattle.pic_chip.specs.State.{State}
use Rattle.pic_sim.specs.Board.{is_outside}
use Rattle.pic_sim.specs.Going.{reads_by}
use Rattle.pic_sim.specs.Kind.{Kind, is_outside_by}
use Rattle.pic_sim.specs.Step.{given_of, AreTold}

-- An instruction's effect: its reads of device registers that don't keep what is written to them are what it wants of the input list, each by one
-- place of the list.
pub record IsPlain (kind : Kind) (inputs : List ℕ) (s : State) (e : Effect) : Type 0 where
  pub reads : reads_by kind.rule (made e.notes s) ≡ given_of (wanted_by kind.rule (made e.notes s)) (slice_index inputs s.taken)
  pub counted : (apply e.writes s s).taken ≡ s.taken + length (reads_by kind.rule (made e.notes s))
  pub told : AreTold kind (made e.notes s)

pub record IsChip (kind : Kind) : Type 0 where
  pub plain : (inputs : List ℕ) (s : State) (image : List ℕ) → IsPlain kind inputs s (effect (kind.execute image inputs) s)
  -- where the model goes no further there is no access
  pub quiet : (inputs : List ℕ) (s : State) (image : List ℕ) → is_modelled (kind.fetched image s) ≡ false → accesses (kind.execute image inputs) s ≡ []
  -- a boundary takes no input, and so many masks differ there
  pub taken : (mask : ℕ) (s : State) → (kind.begun mask s).taken ≡ s.taken
  pub same : (mask other : ℕ) (s : State) → mask % kind.masks ≡ other % kind.masks → kind.begun mask s ≡ kind.begun other s
  pub none : (ranges : List Range) → kind.events_of ranges [] ≡ []
  pub joined : (ranges : List Range) (xs ys : List Made) → kind.events_of ranges (xs ++ ys) ≡ kind.events_of ranges xs ++ kind.events_of ranges ys
  -- a board may be asked for each register that is read
  pub outside : (address : ℕ) → is_outside_by kind.rule address ≡ true → is_outside address ≡ true
