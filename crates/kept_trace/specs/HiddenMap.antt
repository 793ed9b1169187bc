-- What the chip's run shows by a map in which the objects that aren't kept are hidden.
use Rattle.std.specs.Prelude.{◌≡◌, ℕ, Bool, List}
use Rattle.std.specs.List.{filter}
use Rattle.c_typed.specs.Trees.{Program}
use Rattle.call_graph.specs.declared.types.FnCopy.{FnCopy}
use Rattle.pic_world.specs.declared.Arrival.{Arrival}
use Rattle.pic_chip.specs.Run.{Moment, moment}
use Rattle.pic_chip.specs.declared.Start.{Start}
use Rattle.pic_map.specs.MapContent.{MapContent}
use Rattle.headline.specs.OnChip.{setting_of}
use Rattle.headline.specs.SourceOf.{IsMapOf}
use Rattle.kept_trace.specs.KeptSource.{hide, is_kept_shown}

-- the same moment, of whose trace kept events are seen alone
abbrev pub seen : List Bool → Moment → Moment
seen kept m = record m { trace = filter (is_kept_shown kept) m.trace }

-- By the map of a program with hidden objects, a run has at each moment the state, and all else, that it has by the map itself; its trace
-- is the kept one.
abbrev pub HiddenMapShowsKept : Type 0
HiddenMapShowsKept =
    (p : Program) (copies : List FnCopy) (kept : List Bool) (content : MapContent) → IsMapOf p copies content.objects content.frames
    → (image : List ℕ) (start : Start) (inputs : List ℕ) (arrivals : List Arrival) (k : ℕ)
    → moment (setting_of (hide kept content) image start inputs arrivals) k ≡ seen kept (moment (setting_of content image start inputs arrivals) k)
