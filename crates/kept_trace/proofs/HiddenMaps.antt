-- A run of the chip by two maps: of the one with hidden objects the trace is what is seen of the other's.
use Rattle.std.proofs.Common.{◌≡◌, ℕ, zero, suc, ◌+◌, ◌-◌, Bool, true, false, not, ◌&&◌, ◌||◌, nat_eq, if◌then◌else◌, List, [], ◌∷◌, ◌++◌, map, get_or, Option, Some, None, refl, sym, ap, ◌∙◌, arith}
use Rattle.std.specs.Prelude.{slice_get, cond}
use Rattle.std.specs.List.{filter}
use Rattle.std.proofs.lemmas.List.Elements.{filter-append}
use Rattle.pic_world.specs.Arrivals.{arriving}
use Rattle.pic_world.specs.Registers.{is_register}
use Rattle.pic_world.specs.declared.Arrival.{Arrival}
use Rattle.pic_world.specs.declared.Cell.{Cell}
use Rattle.pic_world.specs.declared.Cell.TheVariants as cells
use Rattle.pic_world.specs.declared.Event.{Event}
use Rattle.pic_world.specs.declared.Event.TheVariants as events
use Rattle.pic_chip.specs.Act.{Made, accesses}
use Rattle.pic_chip.specs.Instructions.{execute}
use Rattle.pic_chip.specs.Interrupts.{begun}
use Rattle.pic_chip.specs.Run.{Range, Watch, Moment, covers, object_at, cell_at, event_at, events_of, observed, stepped, ends_at, next_moment, moment}
use Rattle.pic_chip.specs.State.{reset}
use Rattle.pic_chip.specs.declared.Start.{Start}
use Rattle.pic_map.specs.MapContent.{ObjectLine, range_of}
use Rattle.ram_place.proofs.Lawful.{objects_disjoint}
use Rattle.ram_place.specs.Placement.{ObjectsAreDisjoint, whole}
use Rattle.kept_trace.specs.HiddenMap.{seen, HiddenMapShowsKept}
use Rattle.kept_trace.specs.Kept.{is_kept_cell}
use Rattle.kept_trace.specs.KeptSource.{hidden_from, hidden, is_kept_shown}

-- ---- where at most one object covers an address
covers_line : ℕ → ObjectLine → Bool
covers_line x line = covers (range_of line) x

NoneCovers : ℕ → List ObjectLine → Type 0
NoneCovers x [] = Unit {0}
NoneCovers x (line ∷ lines) = (covers_line x line ≡ false) × NoneCovers x lines

IsAlone : ℕ → List ObjectLine → Type 0
IsAlone x [] = Unit {0}
IsAlone x (line ∷ lines) = (covers_line x line ≡ true → NoneCovers x lines) × IsAlone x lines

none_from : (x : ℕ) (lines : List ObjectLine) → ((k : ℕ) (line : ObjectLine) → slice_get lines k ≡ Some line → covers_line x line ≡ true → ⊥) → NoneCovers x lines
unfolding NoneCovers
none_from x [] h = tt
none_from x (line ∷ lines) h = (by (covers_line x line) refl, none_from x lines (λ k other is c. h (suc k) other is c))
  where
    by : (b : Bool) → covers_line x line ≡ b → covers_line x line ≡ false
    by true e = absurd (h 0 line refl e)
    by false e = e

alone : (x : ℕ) (lines : List ObjectLine) → ObjectsAreDisjoint lines → IsAlone x lines
unfolding IsAlone covers_line
alone x [] h = tt
alone x (line ∷ lines) h = (
  λ c. none_from x lines (λ k other is d. h 0 (suc k) line other (λ e. absurd (omega (arith, e))) refl is x c d),
  alone x lines (λ j k one other apart a b. h (suc j) (suc k) one other (λ e. apart (omega (arith, e))) a b),
)

-- ---- cells
shown_cell : List Bool → Option Cell → Option Cell
shown_cell kept None = None
shown_cell kept (Some cell) = if is_kept_cell kept cell then Some cell else None

none_at : (x : ℕ) (lines : List ObjectLine) (n : ℕ) → NoneCovers x lines → object_at (map range_of lines) n x ≡ None
unfolding NoneCovers covers_line
none_at x [] n h = refl
none_at x (line ∷ lines) n h =
    ap (λ (b : Bool). if not line.constant && b then Some (cells.Static n (x - line.address)) else object_at (map range_of lines) (n + 1) x) h.0
    ∙ ap (λ (b : Bool). if b then Some (cells.Static n (x - line.address)) else object_at (map range_of lines) (n + 1) x) (and_false (not line.constant))
    ∙ none_at x lines (n + 1) h.1
  where
    and_false : (a : Bool) → (a && false) ≡ false
    and_false true = refl
    and_false false = refl

module _ (kept : List Bool) (x : ℕ) (line : ObjectLine) (lines : List ObjectLine) (n : ℕ) (alone_here : covers_line x line ≡ true → NoneCovers x lines) where
  abbrev here : Option Cell
  here = Some (cells.Static n (x - line.address))

  abbrev rest : Option Cell
  rest = object_at (map range_of lines) (n + 1) x

  abbrev hidden_rest : Option Cell
  hidden_rest = object_at (map range_of (hidden_from kept (n + 1) lines)) (n + 1) x

  one_shown : (c v k : Bool) → covers_line x line ≡ v → get_or kept n false ≡ k → hidden_rest ≡ shown_cell kept rest
      → (if not (c || not k) && v then here else hidden_rest) ≡ shown_cell kept (if not c && v then here else rest)
  unfolding shown_cell
  one_shown true v k ev ek same = same
  one_shown false true true ev ek same = sym (ap (λ (b : Bool). if b then here else None) ek)
  one_shown false true false ev ek same = same ∙ ap (shown_cell kept) (none_at x lines (n + 1) (alone_here ev)) ∙ sym (ap (λ (b : Bool). if b then here else None) ek)
  one_shown false false true ev ek same = same
  one_shown false false false ev ek same = same

object_shown : (kept : List Bool) (x : ℕ) (lines : List ObjectLine) (n : ℕ) → IsAlone x lines → object_at (map range_of (hidden_from kept n lines)) n x ≡ shown_cell kept (object_at (map range_of lines) n x)
unfolding IsAlone covers_line shown_cell
object_shown kept x [] n h = refl
object_shown kept x (line ∷ lines) n h = one_shown kept x line lines n h.0 line.constant (covers_line x line) (get_or kept n false) refl refl (object_shown kept x lines (n + 1) h.1)

cell_shown : (kept : List Bool) (lines : List ObjectLine) → ObjectsAreDisjoint lines → (x : ℕ) → cell_at (map range_of (hidden kept lines)) x ≡ shown_cell kept (cell_at (map range_of lines) x)
unfolding shown_cell
cell_shown kept lines apart x = by (is_register x)
  where
    by : (b : Bool) → (if b then Some (cells.Device x) else object_at (map range_of (hidden_from kept 0 lines)) 0 x) ≡ shown_cell kept (if b then Some (cells.Device x) else object_at (map range_of lines) 0 x)
    by true = refl
    by false = object_shown kept x lines 0 (alone x lines apart)

-- ---- events
module _ (kept : List Bool) where
  event_shown : (write : Bool) (byte : ℕ) (cell : Option Cell) → event_at write byte (shown_cell kept cell) ≡ filter (is_kept_shown kept) (event_at write byte cell)
  unfolding shown_cell
  event_shown write byte None = refl
  event_shown true byte (Some cell) = by (is_kept_cell kept cell)
    where
      none : List Event
      none = []

      by : (b : Bool) → event_at true byte (if b then Some cell else None) ≡ cond b (events.Write cell byte ∷ none) none
      by true = refl
      by false = refl
  event_shown false byte (Some cell) = by (is_kept_cell kept cell)
    where
      none : List Event
      none = []

      by : (b : Bool) → event_at false byte (if b then Some cell else None) ≡ cond b (events.Read cell byte ∷ none) none
      by true = refl
      by false = refl

  module _ (lines : List ObjectLine) (apart : ObjectsAreDisjoint lines) where
    abbrev whole_ranges : List Range
    whole_ranges = map range_of lines

    abbrev hidden_ranges : List Range
    hidden_ranges = map range_of (hidden kept lines)

    events_shown : (made : List Made) → events_of hidden_ranges made ≡ filter (is_kept_shown kept) (events_of whole_ranges made)
    events_shown [] = refl
    events_shown (a ∷ rest) =
        ap (λ (es : List Event). es ++ events_of hidden_ranges rest) (ap (event_at a.write a.byte) (cell_shown kept lines apart a.address) ∙ event_shown a.write a.byte (cell_at whole_ranges a.address))
        ∙ ap (λ (es : List Event). filter (is_kept_shown kept) (event_at a.write a.byte (cell_at whole_ranges a.address)) ++ es) (events_shown rest)
        ∙ sym (filter-append (is_kept_shown kept) (event_at a.write a.byte (cell_at whole_ranges a.address)) (events_of whole_ranges rest))

    -- ---- moments
    module _ (main halt : ℕ) where
      abbrev whole_watch : Watch
      whole_watch = record { main = main; halt = halt; ranges = whole_ranges }

      abbrev hidden_watch : Watch
      hidden_watch = record { main = main; halt = halt; ranges = hidden_ranges }

      ended_seen : (m : Moment) → record (seen kept m) { ended = true; trace = filter (is_kept_shown kept) m.trace ++ events.End ∷ [] } ≡ seen kept (record m { ended = true; trace = m.trace ++ events.End ∷ [] })
      ended_seen m = ap (λ (es : List Event). record m { ended = true; trace = es }) (sym (filter-append (is_kept_shown kept) m.trace (events.End ∷ [])))

      observed_seen : (m : Moment) → observed hidden_watch (seen kept m) ≡ seen kept (observed whole_watch m)
      observed_seen m = by m.met (nat_eq m.state.pc halt && not m.ended)
        where
          by : (met ends : Bool)
              → (if met then (if ends then record (seen kept m) { ended = true; trace = filter (is_kept_shown kept) m.trace ++ events.End ∷ [] } else seen kept m) else record (seen kept m) { met = nat_eq m.state.pc main })
              ≡ seen kept (if met then (if ends then record m { ended = true; trace = m.trace ++ events.End ∷ [] } else m) else record m { met = nat_eq m.state.pc main })
          by true true = ended_seen m
          by true false = refl
          by false ends = refl

      module _ (image inputs : List ℕ) (mask : ℕ) (m : Moment) where
        abbrev made : List Made
        made = accesses (execute image inputs) (begun mask m.state)

        trace_seen : (if m.met then filter (is_kept_shown kept) m.trace ++ events_of hidden_ranges made else filter (is_kept_shown kept) m.trace) ≡ filter (is_kept_shown kept) (if m.met then m.trace ++ events_of whole_ranges made else m.trace)
        trace_seen = by m.met
          where
            by : (met : Bool) → (if met then filter (is_kept_shown kept) m.trace ++ events_of hidden_ranges made else filter (is_kept_shown kept) m.trace) ≡ filter (is_kept_shown kept) (if met then m.trace ++ events_of whole_ranges made else m.trace)
            by true = ap (λ (es : List Event). filter (is_kept_shown kept) m.trace ++ es) (events_shown made) ∙ sym (filter-append (is_kept_shown kept) m.trace (events_of whole_ranges made))
            by false = refl

        stepped_seen : stepped image inputs hidden_ranges mask (seen kept m) ≡ seen kept (stepped image inputs whole_ranges mask m)
        stepped_seen = ap (λ (es : List Event). record (stepped image inputs whole_ranges mask m) { trace = es }) trace_seen

        next_seen : next_moment image inputs hidden_watch mask (seen kept m) ≡ seen kept (next_moment image inputs whole_watch mask m)
        next_seen = by (ends_at image mask m)
          where
            by : (ends : Bool) → (if ends then record (seen kept m) { stopped = true } else observed hidden_watch (stepped image inputs hidden_ranges mask (seen kept m)))
                ≡ seen kept (if ends then record m { stopped = true } else observed whole_watch (stepped image inputs whole_ranges mask m))
            by true = refl
            by false = ap (observed hidden_watch) stepped_seen ∙ observed_seen (stepped image inputs whole_ranges mask m)

      moments_seen : (image : List ℕ) (start : Start) (inputs : List ℕ) (arrivals : List Arrival) (k : ℕ)
          → moment (record { image = image; watch = hidden_watch; start = start; inputs = inputs; arrivals = arrivals }) k
          ≡ seen kept (moment (record { image = image; watch = whole_watch; start = start; inputs = inputs; arrivals = arrivals }) k)
      unfolding moment
      moments_seen image start inputs arrivals zero = observed_seen (record { state = reset start; stopped = false; handling = false; met = false; ended = false; early = []; trace = [] })
      moments_seen image start inputs arrivals (suc k) =
          ap (next_moment image inputs hidden_watch (arriving arrivals k)) (moments_seen image start inputs arrivals k)
          ∙ next_seen image inputs (arriving arrivals k) (moment (record { image = image; watch = whole_watch; start = start; inputs = inputs; arrivals = arrivals }) k)

pub hidden_shows : HiddenMapShowsKept
hidden_shows p copies kept content mapped image start inputs arrivals k =
    moments_seen kept content.objects (objects_disjoint (whole p) p copies content.objects content.frames mapped.placing) content.main content.halt image start inputs arrivals k
