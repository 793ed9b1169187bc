-- A run of the second chip, from reset on, and the trace that is taken of it.
use Rattle.std.specs.Prelude.{ℕ, zero, suc, Bool, true, false, not, ◌&&◌, ◌||◌, nat_le, nat_lt, if◌then◌else◌, List, [], ◌∷◌, ◌++◌, Option, Some, None}
use Rattle.pic_world.specs.Arrivals.{arriving}
use Rattle.pic_world.specs.declared.Arrival.{Arrival}
use Rattle.pic_world.specs.declared.Cell.{Cell}
use Rattle.pic_world.specs.declared.Cell.TheVariants as cells
use Rattle.pic_world.specs.declared.Event.{Event}
use Rattle.pic_chip.specs.Act.{Made, accesses, perform}
use Rattle.pic_chip.specs.Instructions.{is_modelled, is_return_from_interrupt}
use Rattle.pic_chip.specs.Run.{Range, Watch, Moment, object_at, event_at, observed}
use Rattle.pic_chip.specs.SmallAddress.{is_small_register}
use Rattle.chip_84a.specs.declared.Start84.{Start84}
use Rattle.chip_84a.specs.Machine.{reset, is_due, raised, begun, fetched, execute}

-- ---- what is watched
-- What an access to this address shows: a device register counts as that register, whatever covers it. An access to a general byte from
-- 0Ch to 1Fh shows nothing, whatever covers it: no object of a program stands there.
abbrev pub cell_at : List Range → ℕ → Option Cell
cell_at ranges address =
    if is_small_register address then Some (cells.Device address) else
    if nat_le 0x0c address && nat_lt address 0x20 then None else object_at ranges 0 address

abbrev pub events_of : List Range → List Made → List Event
events_of ranges [] = []
events_of ranges (a ∷ rest) = event_at a.write a.byte (cell_at ranges a.address) ++ events_of ranges rest

abbrev pub registers_of : List Made → List Made
registers_of [] = []
registers_of (a ∷ rest) = if is_small_register a.address then a ∷ registers_of rest else registers_of rest

-- ---- the run
-- everything that a run depends on
pub record Setting : Type 0 where
  pub image : List ℕ
  pub watch : Watch
  pub start : Start84
  pub inputs : List ℕ
  pub arrivals : List Arrival

-- an interrupt is taken at this moment, where these flags arrive
abbrev pub takes : ℕ → Moment → Bool
takes mask m = is_due (raised mask m.state).intcon

-- the next instruction is one of the handler's
abbrev pub is_handling : ℕ → Moment → Bool
is_handling mask m = m.handling || takes mask m

-- one instruction, at a boundary where the flags of the mask arrive
abbrev pub stepped : List ℕ → List ℕ → List Range → ℕ → Moment → Moment
stepped image inputs ranges mask m =
    let s = begun mask m.state in
    let made = accesses (execute image inputs) s in
    record m {
      state = perform (execute image inputs) s;
      handling = is_handling mask m && not (is_return_from_interrupt (fetched image s));
      early = if m.met then m.early else m.early ++ registers_of made;
      trace = if m.met then m.trace ++ events_of ranges made else m.trace;
    }

abbrev pub first_moment : Setting → Moment
first_moment g = observed g.watch (record { state = reset g.start; stopped = false; handling = false; met = false; ended = false; early = []; trace = [] })

-- where these flags arrive, the run doesn't go on: it has ended, or the word that is met is SLEEP or has no row
abbrev pub ends_at : List ℕ → ℕ → Moment → Bool
ends_at image mask m = m.stopped || not (is_modelled (fetched image (begun mask m.state)))

-- The next moment, where these flags arrive at this one. Behind the end of the run everything stays as it was.
abbrev pub next_moment : List ℕ → List ℕ → Watch → ℕ → Moment → Moment
next_moment image inputs watch mask m =
    if ends_at image mask m then record m { stopped = true } else observed watch (stepped image inputs watch.ranges mask m)

-- the moment after k instructions from reset
unfoldable pub moment : Setting → ℕ → Moment
moment g zero = first_moment g
moment g (suc k) = next_moment g.image g.inputs g.watch (arriving g.arrivals k) (moment g k)
