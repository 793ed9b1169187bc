-- The second chip over a board: what a run asks of a chip, and runs over a board as runs from reset.
use Rattle.std.specs.Prelude.{ℕ, ◌&&◌, ◌||◌, List, nat_eq, nat_le, nat_lt, not}
use Rattle.pic_chip.specs.SmallAddress.{small, is_small_register}
use Rattle.pic_world.specs.Arrivals.{arriving}
use Rattle.pic_sim.specs.FromReset.{Journey, arrivals_of, BeginsBy, GoesOnBy, GoesOnByScriptBy, StopsForGoodBy}
use Rattle.pic_sim.specs.Going.{HasMasksBy}
use Rattle.pic_sim.specs.Kind.{Kind}
use Rattle.chip_84a.specs.Machine.{reset, begun, fetched, execute}
use Rattle.chip_84a.specs.Run.{Setting, is_handling, registers_of, events_of, moment}

-- Of a mask bits 0 to 2 count. An access is told by the address of a core register, of a general byte, or of a device register, each by its
-- lowest one.
abbrev pub second : Kind
second = record {
  rule = small;
  is_told = λ address.
      nat_eq address 2 || nat_eq address 3 || nat_eq address 4 || nat_eq address 10 || (nat_le 0x0c address && nat_lt address 0x50) || (is_small_register address && not (nat_eq address 0x8b));
  masks = 8;
  begun = begun;
  is_handling = is_handling;
  fetched = fetched;
  execute = execute;
  registers_of = registers_of;
  events_of = events_of;
}

-- ---- runs from reset
abbrev pub journey : Setting → Journey
journey g = record { image = g.image; watch = g.watch; inputs = g.inputs; arrivals = g.arrivals; moment = moment g }

-- the masks that a board raises are those of its arrivals
abbrev pub MasksAreArrivals : Type 0
MasksAreArrivals = (index : ℕ) (raised : List ℕ) → HasMasksBy 8 (arriving (arrivals_of index raised)) index raised

-- A chip as after reset, a tracer that was asked once, and no events yet: there every run from reset begins.
abbrev pub BeginsAtReset : Type 0
BeginsAtReset = (g : Setting) → BeginsBy (reset g.start) (journey g)

-- k whole instructions over a board lead from a moment of a run from reset to a later moment of it, if its input list has
-- the answers as next bytes and its arrivals are the masks.
abbrev pub GoesOn : Type 0
GoesOn = (g : Setting) → GoesOnBy second (journey g)

-- Over a board that follows a script and gave as many bytes as the chip took, it is the run of that script.
abbrev pub GoesOnByScript : Type 0
GoesOnByScript = (g : Setting) → GoesOnByScriptBy second (journey g)

-- Where the model goes no further the run from reset ends: each later moment is the one at which it stopped.
abbrev pub StopsForGood : Type 0
StopsForGood = (g : Setting) → StopsForGoodBy second (journey g)
