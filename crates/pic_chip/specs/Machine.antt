-- The chip as its callers see it, and what one step of it is.
use Rattle.std.specs.Prelude.{ℕ, ◌≡◌, slice_index, ◌≤◌, ◌+◌, ◌^◌, Bool, not, ◌&&◌, if◌then◌else◌, List, [], ◌∷◌, Option, Some, None, ℤ, pos, ◌-ℤ◌}
use Rattle.pic_chip.specs.State.{State}
use Rattle.pic_chip.specs.Act.{Made}
use Rattle.pic_world.specs.Bits.{bit}
use Rattle.pic_chip.specs.Instructions.{Rule, big, fetched, is_modelled}

-- the state, and the index of the next instruction, counted from 0 at reset
pub record Machine : Type 0 where
  pub state : State
  pub index : ℕ

-- Each instruction pushes once at most, or lets in an interrupt that pushes once. It pops and takes an input once
-- at most.
pub record Counted (s : State) (count : ℕ) : Type 0 where
  pub pushes : s.pushes + bit s.intcon 7 ≤ count
  pub pops : s.pops ≤ count
  pub taken : s.taken ≤ count
  pub small : count ≤ 2 ^ 40

-- where the model goes no further: at SLEEP, or at a word that no row has
abbrev pub stop_at : List ℕ → State → Option ℕ
stop_at image s = if is_modelled (fetched image s) then None else Some s.pc

-- a step that isn't done is no instruction
abbrev pub index_after : List ℕ → State → ℕ → ℕ
index_after image s index = if is_modelled (fetched image s) then index + 1 else index

-- a read of a device register that doesn't keep what is written to it
abbrev pub takes_input_by : Rule → Made → Bool
takes_input_by c a = not a.write && c.is_register a.address && not (c.is_stored a.address)

-- the register that is read from the input list
abbrev pub wanted_by : Rule → List Made → Option ℕ
wanted_by c [] = None
wanted_by c (a ∷ rest) = if takes_input_by c a then Some a.address else wanted_by c rest

-- on the PIC16F877A: one other than INTCON, PIR1 and PIE1
abbrev pub takes_input : Made → Bool
takes_input = takes_input_by big

abbrev pub wanted : List Made → Option ℕ
wanted = wanted_by big

-- where a register is wanted, the input list has this byte at the place of the next one
abbrev pub Feeds : List ℕ → ℕ → ℕ → Option ℕ → Type 0
Feeds inputs taken input None = Unit {0}
Feeds inputs taken input (Some register) = slice_index inputs taken ≡ input

pub feeds_each : (inputs : List ℕ) (taken : ℕ) (input : ℕ) → slice_index inputs taken ≡ input → (wants : Option ℕ) → Feeds inputs taken input wants
feeds_each inputs taken input e None = tt
feeds_each inputs taken input e (Some register) = e

-- how many words of the return stack are in use, where no more than eight are
abbrev pub depth_of : State → ℤ
depth_of s = pos s.pushes -ℤ pos s.pops
