-- The headline of an optimised build: the source seen by the cells of which its trace is kept, and a map that shows kept objects alone.
use Rattle.std.specs.Prelude.{◌≡◌, ℕ, ◌+◌, ◌*◌, ◌≤◌, Bool, true, false, not, ◌||◌, List, [], ◌∷◌, map, get_or}
use Rattle.std.specs.List.{filter}
use Rattle.c_typed.specs.TreeNodes.{nodes_of}
use Rattle.c_typed.specs.Trees.{Program}
use Rattle.call_graph.specs.declared.types.FnCopy.{FnCopy}
use Rattle.pic_world.specs.World.{Outside, Schedule}
use Rattle.pic_world.specs.declared.Event.{Event}
use Rattle.pic_world.specs.declared.Event.TheVariants as events
use Rattle.pic_map.specs.MapContent.{ObjectLine, FrameLine, MapContent}
use Rattle.src_memory.specs.Shown.{address_of, shown}
use Rattle.headline.specs.Chips.{Chip}
use Rattle.headline.specs.Headline.{Source, SourceRun, IsFaithfulOn}
use Rattle.headline.specs.OnChip.{pic16f877a}
use Rattle.headline.specs.SourceOf.{is_undefined, run_of, IsMapOf, source_of}
use Rattle.vol_opt.specs.Kept.{kept_of}
use Rattle.kept_trace.specs.Kept.{is_kept_cell, kept_events, with_schedule, kept_step, kept_moment, kept_steps_by}

-- ---- the source
-- The trace is the kept one, its values as the map shows them. Each micro-step is there: one whose event isn't kept, too.
abbrev pub kept_run_of : Program → List Bool → MapContent → Outside → SourceRun
kept_run_of p kept content outside = record {
  trace = λ i. map (shown (address_of p content)) (kept_events kept (kept_moment p kept outside i).world.trace);
  is_defined = λ i. not (is_undefined (kept_step p kept outside (kept_moment p kept outside i)));
  steps = kept_steps_by p kept outside;
}

-- ---- the map
-- The lines of objects that aren't kept count as those of const objects, of which no access is an event. Their addresses and sizes stay.
abbrev pub hidden_from : List Bool → ℕ → List ObjectLine → List ObjectLine
hidden_from kept number [] = []
hidden_from kept number (line ∷ lines) = record line { constant = line.constant || not (get_or kept number false) } ∷ hidden_from kept (number + 1) lines

abbrev pub hidden : List Bool → List ObjectLine → List ObjectLine
hidden kept lines = hidden_from kept 0 lines

abbrev pub hide : List Bool → MapContent → MapContent
hide kept content = record content { objects = hidden kept content.objects }

-- The object lines are those of the program's map, but that some are hidden.
pub record IsHiddenMapOf (p : Program) (copies : List FnCopy) (kept : List Bool) (objects : List ObjectLine) (frames : List FrameLine) : Type 0 where
  pub lines : List ObjectLine
  pub mapped : IsMapOf p copies lines frames
  pub hides : objects ≡ hidden kept lines

-- ---- the whole
-- A step that isn't seen may be dropped at no cost, and then a node of the tree stands for up to 200 steps: a structure of up to 96 bytes
-- is copied in as many reads and writes.
abbrev pub kept_source_of : List Bool → Program → List FnCopy → MapContent → Source
kept_source_of kept p copies content = record (source_of p copies content) {
  IsMapped = IsHiddenMapOf p copies kept;
  nodes = 200 * nodes_of p;
  run = kept_run_of p kept content;
}

-- What the image does on the chip, seen by the map without the objects that aren't kept, is what the program says, seen so: the headline of
-- an optimised build. It is read word by word as that of any other: events are kept events, and lengths those of kept traces.
pub record IsKeptFaithfulOn (chip : Chip) (p : Program) (content : MapContent) (image : List ℕ) : Type 0 where
  pub copies : List FnCopy
  -- the map itself, with nothing hidden, is that of the program
  pub mapped : IsMapOf p copies content.objects content.frames
  pub faithful : IsFaithfulOn chip (kept_source_of (kept_of p) p copies content) (hide (kept_of p) content) image

abbrev pub IsKeptFaithfulTo : Program → MapContent → List ℕ → Type 0
IsKeptFaithfulTo = IsKeptFaithfulOn pic16f877a

-- ---- kept runs are runs
-- events of a trace as the map shows them
abbrev pub is_kept_shown : List Bool → Event → Bool
is_kept_shown kept (events.Read cell value) = is_kept_cell kept cell
is_kept_shown kept (events.Write cell value) = is_kept_cell kept cell
is_kept_shown kept events.End = true

-- Up to a moment one run is what is seen of the other.
pub record IsSeenOf (kept : List Bool) (seen whole : SourceRun) (n : ℕ) : Type 0 where
  pub trace : (i : ℕ) → i ≤ n → seen.trace i ≡ filter (is_kept_shown kept) (whole.trace i)
  pub is_defined : (i : ℕ) → i ≤ n → seen.is_defined i ≡ whole.is_defined i
  pub steps : (i : ℕ) → i ≤ n → seen.steps i ≡ whole.steps i

-- Up to each moment a kept run is what is seen of the source's own run under some schedule by the length of the whole trace.
abbrev pub KeptSourceIsTheSource : Type 0
KeptSourceIsTheSource =
    (p : Program) (kept : List Bool) (content : MapContent) (o : Outside) (n : ℕ)
    → (schedule : Schedule) × IsSeenOf kept (kept_run_of p kept content o) (run_of p content (with_schedule o schedule)) n
