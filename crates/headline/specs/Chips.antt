-- A chip as the headline sees it: its runs by moments. A moment is a point between two instructions, before an interrupt is taken there.
use Rattle.std.specs.Prelude.{ℕ, Bool, List}
use Rattle.pic_world.specs.declared.Arrival.{Arrival}
use Rattle.pic_world.specs.declared.Event.{Event}
use Rattle.pic_chip.specs.Act.{Made}
use Rattle.pic_map.specs.MapContent.{MapContent}

-- What is asked of a run, at each moment.
pub record ChipRun : Type 0 where
  -- the events since main's address was met
  pub trace : ℕ → List Event
  -- the program counter has stood at main's address
  pub met : ℕ → Bool
  -- the general byte at an address
  pub byte : ℕ → ℕ → ℕ
  -- how many words were pushed on the return stack, and how many popped
  pub pushes : ℕ → ℕ
  pub pops : ℕ → ℕ
  -- the instruction that begins at this moment is one of the handler's
  pub handling : ℕ → Bool
  -- the accesses to device registers before main's address was met
  pub early : ℕ → List Made

pub record Chip : Type 1 where
  -- what is unknown after power-on
  pub Start : Type 0
  pub IsStart : Start → Type 0
  -- how many words the program memory has
  pub words : ℕ
  -- the run of an image, seen by a map, over an input list and a list of arrivals
  pub run : MapContent → List ℕ → Start → List ℕ → List Arrival → ChipRun
