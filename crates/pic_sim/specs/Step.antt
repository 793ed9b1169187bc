-- One instruction over a board, in parts.
use Rattle.std.specs.Prelude.{ℕ, ◌+◌, ◌%◌, ◌≡◌, true, if◌then◌else◌, List, [], ◌∷◌, ◌++◌, length, Option, Some, None, IsSome, IsTrue}
use Rattle.pic_world.specs.Arrivals.{arriving}
use Rattle.pic_world.specs.declared.Event.{Event}
use Rattle.pic_chip.specs.Act.{Made, accesses, perform}
use Rattle.pic_chip.specs.Machine.{Machine}
use Rattle.pic_chip.specs.Run.{Moment, observed}
use Rattle.pic_chip.specs.Seen.{accesses_in, stopped_at}
use Rattle.pic_chip.specs.declared.access.StepEnd.{StepEnd}
use Rattle.pic_map.specs.Tracing.{Tracing}
use Rattle.pic_sim.specs.declared.board.Exchange.{Exchange}
use Rattle.pic_sim.specs.declared.running.SimEnd.{SimEnd}
use Rattle.pic_sim.specs.declared.running.SimEnd.TheVariants.{Done, Unmodelled, NoMemory}
use Rattle.pic_sim.specs.Board.{Followed, is_outside}
use Rattle.pic_sim.specs.Going.{Around, Known, Point, IsAt, HasBytes, StopsBy, Breaks, reads_by, writes_by, begun_by}
use Rattle.pic_sim.specs.Kind.{Kind, stop_at_by, index_after_by, stepped_by}

-- the answer to what an instruction wants
abbrev pub given_of : Option ℕ → ℕ → List Exchange
given_of None byte = []
given_of (Some register) byte = (record { register = register; value = byte }) ∷ []

-- what is wanted is of a device register that a board may be asked for
abbrev pub IsWanted : Option ℕ → Type 0
IsWanted None = Unit {0}
IsWanted (Some register) = IsTrue (is_outside register)

-- each access is told by an address that the chip's accesses may have
abbrev pub AreTold : Kind → List Made → Type 0
AreTold kind [] = Unit {0}
AreTold kind (x ∷ xs) = (kind.is_told x.address ≡ true) × AreTold kind xs

-- the events of accesses
abbrev pub shown_by : Kind → List Made → Tracing → List Event
shown_by kind made t = if t.met then kind.events_of t.watch.ranges made else []

-- how often the end may still be told
abbrev pub slack : Tracing → ℕ
slack t = if t.ended then 0 else 1

-- what the next instruction does to the chip, with these answers of a board
pub record ActedBy (kind : Kind) (image : List ℕ) (end : StepEnd) (old new : Machine) (before now : Known) : Type 0 where
  pub mask : ℕ
  pub given : List Exchange
  pub given_now : now.lists.given ≡ before.lists.given ++ given
  pub raised_now : now.lists.raised ≡ before.lists.raised ++ mask ∷ []
  pub follows : now.follows ≡ before.follows
  pub by_script : (script : Followed) → before.follows ≡ Some script → (mask ≡ arriving script.arrivals old.index) × HasBytes script.input (length before.lists.given) given
  pub stopped : stopped_at end ≡ stop_at_by kind image (kind.begun mask old.state)
  pub index : new.index ≡ index_after_by kind image (kind.begun mask old.state) old.index
  pub unchanged : IsSome (stopped_at end) → (new ≡ record { state = kind.begun mask old.state; index = old.index }) × (given ≡ []) × (now.lists.taken ≡ before.lists.taken)
  pub state : (inputs : List ℕ) → HasBytes inputs old.state.taken given → new.state ≡ perform (kind.execute image inputs) (kind.begun mask old.state)
  pub accesses : (inputs : List ℕ) → HasBytes inputs old.state.taken given → accesses_in end ≡ accesses (kind.execute image inputs) (kind.begun mask old.state)
  pub taken_now : (inputs : List ℕ) → HasBytes inputs old.state.taken given → now.lists.taken ≡ before.lists.taken ++ writes_by kind.rule (accesses_in end)
  pub reads : (inputs : List ℕ) → HasBytes inputs old.state.taken given → given ≡ reads_by kind.rule (accesses_in end)
  pub place : (inputs : List ℕ) → HasBytes inputs old.state.taken given → new.state.taken ≡ old.state.taken + length given

-- one whole instruction from a moment
pub record FollowsBy (kind : Kind) (image : List ℕ) (a : Around) (m : Moment) (given : List Exchange) (old new : Point) : Type 0 where
  pub at : IsAt a (observed a.watch (stepped_by kind image a.inputs a.watch.ranges (a.masks old.chip.index) m)) new
  pub reads : given ≡ reads_by kind.rule (accesses (kind.execute image a.inputs) (begun_by kind a old.chip.index m))
  pub writes : new.board.lists.taken ≡ old.board.lists.taken ++ writes_by kind.rule (accesses (kind.execute image a.inputs) (begun_by kind a old.chip.index m))
  pub place : new.chip.state.taken ≡ old.chip.state.taken + length given
  pub modelled : stop_at_by kind image (begun_by kind a old.chip.index m) ≡ None

-- one whole instruction over a board
pub record StepsBy (kind : Kind) (image : List ℕ) (old new : Point) : Type 0 where
  pub mask : ℕ
  pub given : List Exchange
  pub given_now : new.board.lists.given ≡ old.board.lists.given ++ given
  pub raised_now : new.board.lists.raised ≡ old.board.lists.raised ++ mask ∷ []
  pub index : new.chip.index ≡ old.chip.index + 1
  pub run : (a : Around) (m : Moment) → HasBytes a.inputs old.chip.state.taken given → a.masks old.chip.index % kind.masks ≡ mask % kind.masks → IsAt a m old → FollowsBy kind image a m given old new
  pub follows : new.board.follows ≡ old.board.follows
  pub by_script : (script : Followed) → old.board.follows ≡ Some script → (mask ≡ arriving script.arrivals old.chip.index) × HasBytes script.input (length old.board.lists.given) given

-- how one instruction ends that isn't whole
abbrev pub EndsBy : Kind → List ℕ → Point → Point → SimEnd → Type 0
EndsBy kind image old new Done = ⊥
EndsBy kind image old new (Unmodelled pc) = StopsBy kind image pc old new
EndsBy kind image old new NoMemory = Breaks old new
