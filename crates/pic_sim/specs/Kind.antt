-- What a run over a board asks of a chip. The chips of this family differ in it; what is said of their runs is the same.
use Rattle.std.specs.Prelude.{ℕ, ◌+◌, ◌≡◌, Bool, true, not, ◌&&◌, ◌||◌, nat_eq, if◌then◌else◌, List, ◌++◌, Option, Some, None}
use Rattle.pic_isa.specs.declared.Ins.{Ins}
use Rattle.pic_world.specs.Registers.{lowest}
use Rattle.pic_world.specs.declared.Event.{Event}
use Rattle.pic_chip.specs.Act.{Act, Made, accesses, perform}
use Rattle.pic_chip.specs.Instructions.{Rule, big, execute, fetched, is_modelled, is_return_from_interrupt}
use Rattle.pic_chip.specs.Interrupts.{begun}
use Rattle.pic_chip.specs.Run.{Range, Watch, Moment, events_of, is_handling, observed, registers_of}
use Rattle.pic_chip.specs.State.{State}

pub record Kind : Type 0 where
  -- its addresses
  pub rule : Rule
  -- an access may be told by this address
  pub is_told : ℕ → Bool
  -- how many masks of flags differ: of a mask the remainder by this counts
  pub masks : ℕ
  -- the state in which an instruction runs: the flags of a mask were set, and an interrupt that was due was taken
  pub begun : ℕ → State → State
  -- where the flags of a mask arrive, that instruction is one of the handler's
  pub is_handling : ℕ → Moment → Bool
  -- the word that is met, and what it does with an input list
  pub fetched : List ℕ → State → Option Ins
  pub execute : List ℕ → List ℕ → Act
  -- the accesses to device registers, and the events of accesses
  pub registers_of : List Made → List Made
  pub events_of : List Range → List Made → List Event

-- the PIC16F877A
abbrev pub first : Kind
first = record {
  rule = big;
  is_told = λ address. nat_eq (lowest address) address;
  masks = 2048;
  begun = begun;
  is_handling = is_handling;
  fetched = fetched;
  execute = execute;
  registers_of = registers_of;
  events_of = events_of;
}

-- the device registers that don't keep what is written to them: what goes to and from these is a board's
abbrev pub is_outside_by : Rule → ℕ → Bool
is_outside_by c address = c.is_register address && not (c.is_stored address)

-- ---- one instruction, as the chip's run from reset has it
-- where the model goes no further: at SLEEP, or at a word that no row has
abbrev pub stop_at_by : Kind → List ℕ → State → Option ℕ
stop_at_by kind image s = if is_modelled (kind.fetched image s) then None else Some s.pc

abbrev pub index_after_by : Kind → List ℕ → State → ℕ → ℕ
index_after_by kind image s index = if is_modelled (kind.fetched image s) then index + 1 else index

abbrev pub stepped_by : Kind → List ℕ → List ℕ → List Range → ℕ → Moment → Moment
stepped_by kind image inputs ranges mask m =
    let s = kind.begun mask m.state in
    let made = accesses (kind.execute image inputs) s in
    record m {
      state = perform (kind.execute image inputs) s;
      handling = kind.is_handling mask m && not (is_return_from_interrupt (kind.fetched image s));
      early = if m.met then m.early else m.early ++ kind.registers_of made;
      trace = if m.met then m.trace ++ kind.events_of ranges made else m.trace;
    }

abbrev pub ends_at_by : Kind → List ℕ → ℕ → Moment → Bool
ends_at_by kind image mask m = m.stopped || not (is_modelled (kind.fetched image (kind.begun mask m.state)))

abbrev pub next_moment_by : Kind → List ℕ → List ℕ → Watch → ℕ → Moment → Moment
next_moment_by kind image inputs watch mask m =
    if ends_at_by kind image mask m then record m { stopped = true } else observed watch (stepped_by kind image inputs watch.ranges mask m)
