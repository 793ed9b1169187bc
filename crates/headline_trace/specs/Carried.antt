-- What is given of a run of the source: how its steps and events come one after the other.
use Rattle.std.specs.Prelude.{ℕ, suc, ◌+◌, ◌*◌, ◌≡◌, ◌<◌, ◌≤◌, false, List, [], length, map, slice_index, slice_index_or}
use Rattle.pic_chip.specs.Run.{Watch}
use Rattle.pic_map.specs.MapContent.{MapContent, FrameLine, range_of, watch_of}
use Rattle.pic_world.specs.World.{Happening, event_of}
use Rattle.run_links.specs.Runs.{Run, Goes, IsFollowed, IsWithin}
use Rattle.run_links.specs.Laws.{Counts}
use Rattle.core_code.specs.Bytes.{Held, Unset}
use Rattle.sym_code.specs.Layout.{DataLayout, FrameRange, shown}
use Rattle.headline.specs.Headline.{SourceRun}

-- the most instructions of the chip that a step of the language may take
abbrev pub step_price : ℕ
step_price = 8000

-- A micro-step makes one event at most and counts as one step at most; by each number of steps it comes there, rests, or has an
-- undefined one, behind which it goes no further. Its price is that of its steps.
pub record IsSteady {E : Type 0} (u : Run E) (steps : ℕ → ℕ) : Type 0 where
  pub none_yet : steps 0 ≡ 0
  pub later : (i j : ℕ) → i ≤ j → steps i ≤ steps j
  pub once : (i : ℕ) → steps (suc i) ≤ steps i + 1
  pub silent : length (u.trace 0) ≡ 0
  pub single : (i : ℕ) → length (u.trace (suc i)) ≤ length (u.trace i) + 1
  pub stays : (i j : ℕ) → i ≤ j → u.goes i ≡ false → u.trace j ≡ u.trace i
  pub price : (i : ℕ) → u.most i ≡ step_price * steps i
  pub counts : Counts u steps

-- The run below follows it, and code that costs nothing stands for no more steps than the program has nodes.
pub record IsLed {E F : Type 0} (show : E → F) (u : Run E) (steps : ℕ → ℕ) (nodes : ℕ) (b : Run F) : Type 0 where
  pub followed : IsFollowed show u b
  pub lag : (n : ℕ) (d : Goes u n) → IsWithin b nodes (steps n) ((followed n d).at n)

-- The headline's run has the events of this one, as they are shown, and is defined where it goes.
pub record IsSeen {E : Type 0} (show : E → Happening ℕ) (u : Run E) (s : SourceRun) : Type 0 where
  pub trace : (i : ℕ) → s.trace i ≡ map event_of (map show (u.trace i))
  pub defined : (i : ℕ) → s.is_defined i ≡ u.goes i
  pub steady : IsSteady u s.steps

-- a frame of the map as the layout has it
abbrev pub frame_of : FrameLine → FrameRange
frame_of line = record { root = line.root; address = line.address; size = line.size }

-- The map tells the layout of the code, and the initial bytes are those that its objects begin with.
pub record IsTold (content : MapContent) (watch : Watch) (l : DataLayout) (first : List (List Held)) (initial : List (List ℕ)) : Type 0 where
  pub watched : watch ≡ watch_of content
  pub objects : map range_of content.objects ≡ l.objects
  pub frames : map frame_of content.frames ≡ l.frames
  pub begins : (i k : ℕ) → k < length (slice_index_or first i []) → slice_index (slice_index_or initial i []) k ≡ shown l (slice_index_or (slice_index_or first i []) k Unset)
