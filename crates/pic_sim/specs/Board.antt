-- What a board keeps, and what it is asked.
use Rattle.std.specs.Prelude.{ℕ, Bool, not, ◌&&◌, List}
use Rattle.pic_world.specs.Registers.{is_register}
use Rattle.pic_world.specs.Control.{is_stored}
use Rattle.pic_world.specs.declared.Arrival.{Arrival}
use Rattle.pic_world.specs.declared.script.Script.{Script}
use Rattle.pic_sim.specs.declared.board.Exchange.{Exchange}

-- All that a board answered and was told, each list in order.
pub record Lists : Type 0 where
  -- the answers of `read`, with their registers
  pub given : List Exchange
  -- the registers and bytes of `write`
  pub taken : List Exchange
  -- the answers of `tick`
  pub raised : List ℕ

-- the input bytes and the arrivals of a script
pub record Followed : Type 0 where
  pub input : List ℕ
  pub arrivals : List Arrival

abbrev pub followed : Script → Followed
followed s = record { input = s.input.items; arrivals = s.arrivals.items }

-- the device registers other than INTCON, PIR1 and PIE1, by their lowest addresses or others
abbrev pub is_outside : ℕ → Bool
is_outside address = is_register address && not (is_stored address)
