-- What a run over a board is. The definitions of one instruction and of a moment are those of the chip's run from
-- reset; here a run goes on from any moment, with any input list and any flags that arrive.
use Rattle.std.specs.Prelude.{ℕ, zero, suc, ◌+◌, ◌%◌, ◌≡◌, ◌<◌, ◌≤◌, true, false, ◌&&◌, if◌then◌else◌, List, [], ◌∷◌, ◌++◌, length, slice_index, Option, Some, None}
use Rattle.pic_world.specs.Arrivals.{arriving}
use Rattle.pic_world.specs.declared.Event.{Event}
use Rattle.pic_chip.specs.Act.{Made, accesses}
use Rattle.pic_chip.specs.Instructions.{Rule}
use Rattle.pic_chip.specs.Machine.{Machine, takes_input_by}
use Rattle.pic_chip.specs.Run.{Watch, Moment}
use Rattle.pic_chip.specs.State.{State}
use Rattle.pic_map.specs.Tracing.{Tracing}
use Rattle.pic_sim.specs.declared.board.Exchange.{Exchange}
use Rattle.pic_sim.specs.declared.running.SimEnd.{SimEnd}
use Rattle.pic_sim.specs.declared.running.SimEnd.TheVariants.{Done, Unmodelled, NoMemory}
use Rattle.pic_sim.specs.Board.{Lists, Followed}
use Rattle.pic_sim.specs.Kind.{Kind, first, is_outside_by, stop_at_by, ends_at_by, next_moment_by}

-- ---- the chip's run
-- what a run depends on besides the image: what is watched, the input list, and the flags that arrive at each index
pub record Around : Type 0 where
  pub watch : Watch
  pub inputs : List ℕ
  pub masks : ℕ → ℕ

-- the moment after k instructions from this one, at which the next instruction has this index
unfoldable pub after_by : Kind → List ℕ → Around → ℕ → Moment → ℕ → Moment
after_by kind image a index m zero = m
after_by kind image a index m (suc k) = next_moment_by kind image a.inputs a.watch (a.masks (index + k)) (after_by kind image a index m k)

-- the state in which an instruction runs: the flags were set, and an interrupt that was due was taken
abbrev pub begun_by : Kind → Around → ℕ → Moment → State
begun_by kind a index m = kind.begun (a.masks index) m.state

-- the accesses of those k instructions
unfoldable pub made_in_by : Kind → List ℕ → Around → ℕ → Moment → ℕ → List Made
made_in_by kind image a index m zero = []
made_in_by kind image a index m (suc k) = made_in_by kind image a index m k ++ accesses (kind.execute image a.inputs) (begun_by kind a (index + k) (after_by kind image a index m k))

-- ---- what goes to a board
-- the reads of device registers that don't keep what is written to them
abbrev pub reads_by : Rule → List Made → List Exchange
reads_by c [] = []
reads_by c (x ∷ xs) = if takes_input_by c x then (record { register = x.address; value = x.byte }) ∷ reads_by c xs else reads_by c xs

-- the writes of such registers
abbrev pub writes_by : Rule → List Made → List Exchange
writes_by c [] = []
writes_by c (x ∷ xs) = if x.write && is_outside_by c x.address then (record { register = x.address; value = x.byte }) ∷ writes_by c xs else writes_by c xs

-- From this place on the input list has these bytes. Behind its end it has 0.
abbrev pub HasBytes : List ℕ → ℕ → List Exchange → Type 0
HasBytes inputs place [] = Unit {0}
HasBytes inputs place (x ∷ xs) = (slice_index inputs place ≡ x.value) × HasBytes inputs (place + 1) xs

-- From this index on these masks arrive, as far as so many masks differ.
abbrev pub HasMasksBy : ℕ → (ℕ → ℕ) → ℕ → List ℕ → Type 0
HasMasksBy count masks index [] = Unit {0}
HasMasksBy count masks index (x ∷ xs) = (masks index % count ≡ x % count) × HasMasksBy count masks (index + 1) xs

-- ---- a run over a board
-- what is known of a board
pub record Known : Type 0 where
  pub lists : Lists
  pub follows : Option Followed

-- where a run over a board stands between two instructions
pub record Point : Type 0 where
  pub chip : Machine
  pub tracing : Tracing
  pub events : List Event
  pub board : Known

abbrev pub point : Machine → Tracing → List Event → Lists → Option Followed → Point
point chip tracing events lists follows = record { chip = chip; tracing = tracing; events = events; board = record { lists = lists; follows = follows } }

-- the state, what is remembered of the moments so far, and the trace are those of this moment, at which the run goes on
pub record IsAt (a : Around) (m : Moment) (p : Point) : Type 0 where
  pub state : m.state ≡ p.chip.state
  pub met : m.met ≡ p.tracing.met
  pub ended : m.ended ≡ p.tracing.ended
  pub trace : m.trace ≡ p.events
  pub watch : a.watch ≡ p.tracing.watch
  pub going : m.stopped ≡ false

-- k instructions from a moment lead from one point to another. The board was asked for these bytes.
pub record LeadsBy (kind : Kind) (image : List ℕ) (a : Around) (m : Moment) (k : ℕ) (given : List Exchange) (old new : Point) : Type 0 where
  pub at : IsAt a (after_by kind image a old.chip.index m k) new
  -- a byte was asked for once for each read, and each write was told once, in order
  pub reads : given ≡ reads_by kind.rule (made_in_by kind image a old.chip.index m k)
  pub writes : new.board.lists.taken ≡ old.board.lists.taken ++ writes_by kind.rule (made_in_by kind image a old.chip.index m k)
  pub place : new.chip.state.taken ≡ old.chip.state.taken + length given
  -- each was an instruction of the model
  pub modelled : (j : ℕ) → j < k → stop_at_by kind image (begun_by kind a (old.chip.index + j) (after_by kind image a old.chip.index m j)) ≡ None

-- k whole instructions over a board
pub record RanBy (kind : Kind) (image : List ℕ) (k : ℕ) (old new : Point) : Type 0 where
  -- what the board answered
  pub given : List Exchange
  pub raised : List ℕ
  -- its lists have grown by just these, one mask for each instruction
  pub given_now : new.board.lists.given ≡ old.board.lists.given ++ given
  pub raised_now : new.board.lists.raised ≡ old.board.lists.raised ++ raised
  pub count : length raised ≡ k
  pub index : new.chip.index ≡ old.chip.index + k
  -- Chip, tracer and trace go on from any moment at which they stand, with the answers as next input bytes and as arrivals.
  pub run : (a : Around) (m : Moment) → HasBytes a.inputs old.chip.state.taken given → HasMasksBy kind.masks a.masks old.chip.index raised → IsAt a m old → LeadsBy kind image a m k given old new
  -- a board that follows a script answers as that script has it
  pub follows : new.board.follows ≡ old.board.follows
  pub by_script : (script : Followed) → old.board.follows ≡ Some script → HasBytes script.input (length old.board.lists.given) given × HasMasksBy kind.masks (arriving script.arrivals) old.chip.index raised

-- The model goes no further: the board was asked what arrives, a due interrupt was taken, and the word is SLEEP or no
-- instruction's.
pub record StopsBy (kind : Kind) (image : List ℕ) (pc : ℕ) (old new : Point) : Type 0 where
  pub mask : ℕ
  pub raised : new.board.lists.raised ≡ old.board.lists.raised ++ mask ∷ []
  pub given : new.board.lists.given ≡ old.board.lists.given
  pub taken : new.board.lists.taken ≡ old.board.lists.taken
  pub follows : new.board.follows ≡ old.board.follows
  pub chip : new.chip ≡ record { state = kind.begun mask old.chip.state; index = old.chip.index }
  pub word : stop_at_by kind image new.chip.state ≡ Some pc
  pub tracing : new.tracing ≡ old.tracing
  pub events : new.events ≡ old.events
  pub by_script : (script : Followed) → old.board.follows ≡ Some script → mask ≡ arriving script.arrivals old.chip.index
  -- the chip's run ends here, from any moment at which chip, tracer and trace stand
  pub ends : (a : Around) (m : Moment) → a.masks old.chip.index % kind.masks ≡ mask % kind.masks → IsAt a m old → ends_at_by kind image (a.masks old.chip.index) m ≡ true

-- one more entry at most
pub record MayGrow {X : Type 0} (old new : List X) : Type 0 where
  pub more : List X
  pub now : new ≡ old ++ more
  pub few : length more ≤ 1

-- The board had no room for an answer: everything is as it was, but for what it answered of the broken instruction.
pub record Breaks (old new : Point) : Type 0 where
  pub chip : new.chip ≡ old.chip
  pub tracing : new.tracing ≡ old.tracing
  pub events : new.events ≡ old.events
  pub follows : new.board.follows ≡ old.board.follows
  pub raised : MayGrow old.board.lists.raised new.board.lists.raised
  pub given : MayGrow old.board.lists.given new.board.lists.given
  pub taken : new.board.lists.taken ≡ old.board.lists.taken

-- fewer than n whole instructions, and then this
pub record WithinBy (kind : Kind) (image : List ℕ) (n : ℕ) (old : Point) (Last : Point → Type 0) : Type 0 where
  pub k : ℕ
  pub fewer : k < n
  pub last : Point
  pub ran : RanBy kind image k old last
  pub ends : Last last

-- what a run of n instructions has done by its end
abbrev pub WentBy : Kind → List ℕ → ℕ → Point → Point → SimEnd → Type 0
WentBy kind image n old new Done = RanBy kind image n old new
WentBy kind image n old new (Unmodelled pc) = WithinBy kind image n old (λ last. StopsBy kind image pc last new)
WentBy kind image n old new NoMemory = WithinBy kind image n old (λ last. Breaks last new)

-- ---- the PIC16F877A
-- Of a mask its bits 0 to 10 count.
abbrev pub HasMasks : (ℕ → ℕ) → ℕ → List ℕ → Type 0
HasMasks = HasMasksBy 2048

-- k whole instructions over a board
abbrev pub Ran : List ℕ → ℕ → Point → Point → Type 0
Ran = RanBy first

-- what a run of n instructions has done by its end
abbrev pub Went : List ℕ → ℕ → Point → Point → SimEnd → Type 0
Went = WentBy first
