-- The headline: what an image does on a chip is a run of the source program that calls the handler whole.
use Rattle.std.specs.Prelude.{ℕ, ◌+◌, ◌-◌, ◌*◌, ◌≡◌, ◌≢◌, ◌<◌, ◌≤◌, Bool, true, false, ◌&&◌, nat_eq, if◌then◌else◌, List, [], ◌∷◌, length, slice_index, slice_index_or, slice_get, Some, Contains}
use Rattle.pic_world.specs.declared.Arrival.{Arrival}
use Rattle.pic_world.specs.declared.Root.{Root}
use Rattle.pic_world.specs.declared.Root.TheVariants.{Main, Isr}
use Rattle.pic_world.specs.declared.Cell.TheVariants as cells
use Rattle.pic_world.specs.declared.Event.{Event}
use Rattle.pic_world.specs.declared.Event.TheVariants as events
use Rattle.pic_chip.specs.Instructions.{is_modelled}
use Rattle.pic_isa.specs.Lookup.{row_of}
use Rattle.pic_world.specs.World.{Outside, outside_of}
use Rattle.pic_map.specs.MapContent.{ObjectLine, FrameLine, MapContent}
use Rattle.live_frames.specs.Memory.{AreDisjoint}
use Rattle.run_links.specs.Runs.{IsFrontOf}
use Rattle.schedule.specs.Off.{read_off}
use Rattle.headline.specs.Chips.{ChipRun, Chip}

-- ---- the source
-- A run of the source under one schedule, over one input list, by micro-steps; some of them count as steps of the language,
-- the others only go on to the next one.
pub record SourceRun : Type 0 where
  -- the trace after so many micro-steps, its values as the map shows them; it stays where the run goes no further
  pub trace : ℕ → List Event
  -- the micro-step of this number, counted from 0, is not undefined
  pub is_defined : ℕ → Bool
  -- how many of the first so many micro-steps count as steps
  pub steps : ℕ → ℕ

-- What the theorem needs of a program.
pub record Source : Type 1 where
  -- The lines of the map are exactly those of its static objects and of the frames of its function copies, where they are
  -- to stand.
  pub IsMapped : List ObjectLine → List FrameLine → Type 0
  -- the copies of these two numbers, in the order of placing, may be live together
  pub live_together : ℕ → ℕ → Type 0
  -- the initial bytes of each static object, as the map shows them
  pub initial : List (List ℕ)
  -- how many nodes the typed tree has
  pub nodes : ℕ
  -- its run over an input list, under a schedule by the length of the trace
  pub run : Outside → SourceRun

-- ---- words
-- after j micro-steps, and not before, the trace has this length
pub record ComesTo (trace : ℕ → List Event) (long j : ℕ) : Type 0 where
  pub here : length (trace j) ≡ long
  pub before : (i : ℕ) → i < j → length (trace i) < long

-- From the micro-step at which the trace comes to this length on, the events of the next m steps stand in the list.
pub record HasNext (run : SourceRun) (long m : ℕ) (events : List Event) : Type 0 where
  pub from : ℕ
  pub comes : ComesTo run.trace long from
  pub all : (i : ℕ) → run.steps i ≤ run.steps from + m → IsFrontOf (run.trace i) events

-- no arrival falls after moment t and up to moment n
abbrev pub IsQuiet : List Arrival → ℕ → ℕ → Type 0
IsQuiet arrivals t n = (a : Arrival) → Contains arrivals a → t < a.t → n < a.t

-- the event writes this byte of this object
abbrev pub writes : ℕ → ℕ → Event → Bool
writes object offset (events.Write (cells.Static i k) v) = nat_eq i object && nat_eq k offset
writes object offset _ = false

abbrev pub written_by : Event → ℕ
written_by (events.Write cell v) = v
written_by _ = 0

-- the last value written, or the one from before
abbrev pub last_written : ℕ → ℕ → ℕ → List Event → ℕ
last_written object offset v [] = v
last_written object offset v (e ∷ es) = last_written object offset (if writes object offset e then written_by e else v) es

-- Frames of this root stay as they are: main's while the handler runs, and the handler's at other times.
abbrev pub is_guarded : Bool → Root → Bool
is_guarded true Main = true
is_guarded true Isr = false
is_guarded false Main = false
is_guarded false Isr = true

-- ---- one run of the chip
module _ (source : Source) (content : MapContent) (inputs : List ℕ) (arrivals : List Arrival) (r : ChipRun) where
  -- the source run whose handler is called where the arrivals up to moment n, in any order, fall in the chip's trace
  abbrev pub run_at : ℕ → SourceRun
  run_at n = source.run (outside_of inputs (read_off r.trace n arrivals))

  -- No step that counts is undefined: one that is among the first (m + 1) * nodes, and begins while the source's trace is
  -- no longer than the chip's.
  abbrev pub IsClean : ℕ → Type 0
  IsClean n =
      (m i : ℕ) → m ≤ n → (run_at m).steps i < (m + 1) * source.nodes → length ((run_at m).trace i) ≤ length (r.trace m) → (run_at m).is_defined i ≡ true

  pub record Follows : Type 0 where
    -- the chip's trace is a prefix of the source's
    pub prefix : (n : ℕ) → IsClean n → (k : ℕ) × IsFrontOf (r.trace n) ((run_at n).trace k)
    -- 8,192 (m + 1) instructions without an arrival make the events of the source's next m steps
    pub pace : (n t m : ℕ) → IsClean n → t ≤ n → IsQuiet arrivals t n → 8192 * (m + 1) ≤ n - t
        → HasNext (run_at n) (length (r.trace t)) m (r.trace n)
    -- each byte of a static object that isn't const holds its initial value or the last one written
    pub end_state : (n i k : ℕ) (line : ObjectLine) → IsClean n → r.met n ≡ true
        → slice_get content.objects i ≡ Some line → line.constant ≡ false → k < line.size
        → r.byte n (line.address + k) ≡ last_written i k (slice_index (slice_index_or source.initial i []) k) (r.trace n)
    -- the return stack never runs over nor under
    pub no_underflow : (n k : ℕ) → IsClean n → k ≤ n → r.pops k ≤ r.pushes k
    pub no_overflow : (n k : ℕ) → IsClean n → k ≤ n → r.pushes k ≤ r.pops k + 8
    -- the handler changes no byte of a frame of main's, and main none of the handler's
    pub frames : (n k b : ℕ) (line : FrameLine) → IsClean n → k < n → r.met k ≡ true
        → Contains content.frames line → b < line.size
        → is_guarded (r.handling k) line.root ≡ true
        → r.byte (k + 1) (line.address + b) ≡ r.byte k (line.address + b)
    -- main is met within 4,096 instructions, and no device register is accessed before
    pub start_up : r.met 4096 ≡ true
    pub no_early_access : (n : ℕ) → r.early n ≡ []

-- ---- all runs
-- from anything that power-on leaves, over any input list and any arrivals
pub record IsFaithfulOn (chip : Chip) (source : Source) (content : MapContent) (image : List ℕ) : Type 0 where
  -- every word is one of an instruction that the model has
  pub words : (at : ℕ) → at < chip.words → is_modelled (row_of (slice_index image at)) ≡ true
  -- the map has exactly the program's objects and copies, where they are to stand
  pub mapped : source.IsMapped content.objects content.frames
  pub main : content.main < 0x2000
  pub halt : content.halt < 0x2000
  -- frames that may be live together have no byte in common, nor has a frame with a static object
  pub apart : (i j : ℕ) (x y : FrameLine) → i ≢ j → slice_get content.frames i ≡ Some x → slice_get content.frames j ≡ Some y
      → source.live_together i j → AreDisjoint x.address x.size y.address y.size
  pub clear_of_objects : (x : FrameLine) (y : ObjectLine) → Contains content.frames x → Contains content.objects y
      → AreDisjoint x.address x.size y.address y.size
  pub runs : (start : chip.Start) (inputs : List ℕ) (arrivals : List Arrival) → chip.IsStart start → ((k : ℕ) → slice_index inputs k < 256)
      → Follows source content inputs arrivals (chip.run content image start inputs arrivals)
