-- Runs over a board as runs from reset.
use Rattle.std.specs.Prelude.{ℕ, ◌+◌, ◌/◌, ◌%◌, ◌≡◌, true, false, nat_eq, if◌then◌else◌, List, [], ◌∷◌, ◌++◌, length, Some}
use Rattle.pic_world.specs.Arrivals.{flag_bit, flags, arriving}
use Rattle.pic_world.specs.declared.Arrival.{Arrival}
use Rattle.pic_world.specs.declared.Flag.{Flag}
use Rattle.pic_chip.specs.Run.{Setting, Moment, Watch, moment}
use Rattle.pic_chip.specs.State.{State, reset}
use Rattle.pic_map.specs.Tracing.{looked}
use Rattle.pic_sim.specs.declared.board.Exchange.{Exchange}
use Rattle.pic_sim.specs.Going.{Around, Point, IsAt, RanBy, StopsBy, HasBytes, HasMasks, HasMasksBy}
use Rattle.pic_sim.specs.Kind.{Kind, first}

-- ---- the answers of a board as an input list and as arrivals
abbrev pub bytes_of : List Exchange → List ℕ
bytes_of [] = []
bytes_of (x ∷ xs) = x.value ∷ bytes_of xs

abbrev pub arrival : ℕ → Flag → List Arrival
arrival t flag = (record { t = t; flag = flag }) ∷ []

-- the arrivals of some flags, where a mask has their bits
unfoldable pub flags_among : List Flag → ℕ → ℕ → List Arrival
flags_among [] t mask = []
flags_among (flag ∷ rest) t mask = (if nat_eq (mask / flag_bit flag % 2) 1 then arrival t flag else []) ++ flags_among rest t mask

abbrev pub flags_at : ℕ → ℕ → List Arrival
flags_at t mask = flags_among flags t mask

-- the arrivals of masks, the first of which stands at index t
abbrev pub arrivals_of : ℕ → List ℕ → List Arrival
arrivals_of t [] = []
arrivals_of t (mask ∷ masks) = flags_at t mask ++ arrivals_of (t + 1) masks

-- behind any bytes that were taken before, a board's answers are the next ones of an input list
abbrev pub AnswersAreInput : Type 0
AnswersAreInput = (before : List ℕ) (given : List Exchange) → HasBytes (before ++ bytes_of given) (length before) given

-- the masks that a board raises are those of its arrivals
abbrev pub MasksAreArrivals : Type 0
MasksAreArrivals = (index : ℕ) (raised : List ℕ) → HasMasks (arriving (arrivals_of index raised)) index raised

-- ---- runs
-- a chip's run from reset: what it depends on besides the start, and its moments
pub record Journey : Type 0 where
  pub image : List ℕ
  pub watch : Watch
  pub inputs : List ℕ
  pub arrivals : List Arrival
  pub moment : ℕ → Moment

abbrev pub around_of : Journey → Around
around_of r = record { watch = r.watch; inputs = r.inputs; masks = arriving r.arrivals }

-- A chip as after reset, a tracer that was asked once, and no events yet: there the run from reset begins.
abbrev pub BeginsBy : State → Journey → Type 0
BeginsBy start r =
    (p : Point) → p.chip ≡ record { state = start; index = 0 } → p.tracing ≡ looked 0 (record { watch = r.watch; met = false; ended = false }) → p.events ≡ []
    → IsAt (around_of r) (r.moment 0) p

-- k whole instructions over a board lead from a moment of a run from reset to a later moment of it, if its input list has
-- the answers as next bytes and its arrivals are the masks.
abbrev pub GoesOnBy : Kind → Journey → Type 0
GoesOnBy kind r =
    (k : ℕ) (old new : Point) (ran : RanBy kind r.image k old new) → HasBytes r.inputs old.chip.state.taken ran.given → HasMasksBy kind.masks (arriving r.arrivals) old.chip.index ran.raised
    → IsAt (around_of r) (r.moment old.chip.index) old → IsAt (around_of r) (r.moment (old.chip.index + k)) new

-- Over a board that follows a script and gave as many bytes as the chip took, it is the run of that script.
abbrev pub GoesOnByScriptBy : Kind → Journey → Type 0
GoesOnByScriptBy kind r =
    (k : ℕ) (old new : Point) → RanBy kind r.image k old new → old.board.follows ≡ Some (record { input = r.inputs; arrivals = r.arrivals }) → length old.board.lists.given ≡ old.chip.state.taken
    → IsAt (around_of r) (r.moment old.chip.index) old → IsAt (around_of r) (r.moment (old.chip.index + k)) new

-- Where the model goes no further the run from reset ends: each later moment is the one at which it stopped.
abbrev pub StopsForGoodBy : Kind → Journey → Type 0
StopsForGoodBy kind r =
    (pc k : ℕ) (old new : Point) (stop : StopsBy kind r.image pc old new) → arriving r.arrivals old.chip.index % kind.masks ≡ stop.mask % kind.masks
    → IsAt (around_of r) (r.moment old.chip.index) old → r.moment (old.chip.index + 1 + k) ≡ record (r.moment old.chip.index) { stopped = true }

-- ---- the PIC16F877A
abbrev pub journey : Setting → Journey
journey g = record { image = g.image; watch = g.watch; inputs = g.inputs; arrivals = g.arrivals; moment = moment g }

abbrev pub around : Setting → Around
around g = around_of (journey g)

abbrev pub BeginsAtReset : Type 0
BeginsAtReset = (g : Setting) → BeginsBy (reset g.start) (journey g)

abbrev pub GoesOn : Type 0
GoesOn = (g : Setting) → GoesOnBy first (journey g)

abbrev pub GoesOnByScript : Type 0
GoesOnByScript = (g : Setting) → GoesOnByScriptBy first (journey g)

abbrev pub StopsForGood : Type 0
StopsForGood = (g : Setting) → StopsForGoodBy first (journey g)
