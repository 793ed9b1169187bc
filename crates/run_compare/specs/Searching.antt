-- The search for undefined steps along the arrivals of a run on the chip: what it is given, and how far it is.
use Rattle.std.specs.Prelude.{ℕ, suc, ◌≡◌, ◌<◌, ◌≤◌, ◌⊎◌, nat_le, if◌then◌else◌, List, [], ◌∷◌, length, take, slice_index_or, Option, Some, None}
use Rattle.std.specs.List.{All}
use Rattle.c_typed.specs.Chains.{graph_of}
use Rattle.c_typed.specs.Trees.{Program}
use Rattle.call_graph.specs.Levels.{IsAcyclic}
use Rattle.call_graph.specs.declared.types.FnCopy.{FnCopy}
use Rattle.pic_chip.specs.Run.{Setting}
use Rattle.pic_map.specs.MapContent.{MapContent}
use Rattle.pic_world.specs.Arrivals.{IsRising}
use Rattle.pic_world.specs.World.{Outside}
use Rattle.pic_world.specs.declared.Arrival.{Arrival}
use Rattle.run_compare.specs.Agreement.{Counts, IsFirstFault, Meets, run_under}
use Rattle.run_compare.specs.Looking.{IsRun, Looked, Met, fault_in}
use Rattle.run_compare.specs.declared.searching.Search.{Search}
use Rattle.run_compare.specs.declared.source_run.Fault.{Fault}
use Rattle.run_compare.specs.declared.source_run.SourceRun.{SourceRun}
use Rattle.headline.specs.OnChip.{IsClean}
use Rattle.headline.specs.SourceOf.{source_of}
use Rattle.schedule.specs.Off.{read_off, lengths_before, runs_begun}
use Rattle.schedule.specs.Watching.{traces}
use Rattle.schedule.specs.declared.off.Off.{Off}
use Rattle.src_memory.specs.Seen.{outside_by}
use Rattle.src_machine.specs.Steps.{IsGiven}
use Rattle.src_rules.specs.Laws.{IsProper}
use Rattle.src_rules.specs.Runs.{fault_after}
use Rattle.src_values.specs.Memory.{Setting as SourceSetting}

-- ---- what is given
-- A proper program in which no function reaches itself, and what is read off the chip's run.
pub record IsOffOf (p : Program) (g : Setting) (off : Off) : Type 0 where
  pub proper : IsProper p
  pub acyclic : IsAcyclic (graph_of p)
  pub statics : length p.statics ≤ 65536
  pub bytes : All (λ byte. byte < 256) g.inputs
  pub rising : IsRising 0 g.arrivals
  pub lengths : off.by_length.arrivals.items ≡ read_off (traces g) off.moment g.arrivals
  pub before : off.before.items ≡ lengths_before (traces g) off.moment g.arrivals
  pub input : off.by_length.input.items ≡ g.inputs
  pub events : off.events ≡ length (traces g off.moment)
  pub runs : off.runs ≡ runs_begun g off.moment

-- how many arrivals come up to a moment
unfoldable pub upto : ℕ → List Arrival → ℕ
upto m [] = 0
upto m (a ∷ xs) = if nat_le a.t m then suc (upto m xs) else upto m xs

-- ---- under one schedule
-- this is a run of the program under it
abbrev pub IsRunBy : Program → MapContent → Outside → SourceRun → Type 0
IsRunBy p content outside run = (s : SourceSetting) → s.program ≡ p → s.outside ≡ outside → IsGiven s → length s.program.statics ≤ 65536 → IsRun s content run

abbrev pub MayBeRunBy : Program → MapContent → Outside → Option SourceRun → Type 0
MayBeRunBy p content outside None = Unit {0}
MayBeRunBy p content outside (Some run) = IsRunBy p content outside run

-- so many first arrivals come up to a moment
abbrev pub ComeBy : List Arrival → ℕ → ℕ → Type 0
ComeBy arrivals count moment = (number : ℕ) (a : Arrival) → number < count → (slice_index_or arrivals number a).t ≤ moment

-- What is met of a run: among so many first steps that begin while there are so many events at most; and then before its end.
abbrev pub Ran : SourceSetting → ℕ → ℕ → ℕ → Option Fault → Type 0
Ran s most longest runs None = Looked s most longest None × Met s most runs None
Ran s most longest runs (Some fault) =
    Looked s most longest (Some fault) ⊎ (Looked s most longest None × Met s most runs (Some fault))

abbrev pub RanBy : Program → Outside → ℕ → ℕ → ℕ → Option Fault → Type 0
RanBy p outside most longest runs found =
    (s : SourceSetting) → s.program ≡ p → s.outside ≡ outside → IsGiven s → length s.program.statics ≤ 65536 → Ran s most longest runs found

-- ---- a moment after the other
-- the arrival of this number comes at this moment
abbrev pub IsArrivalAt : Setting → ℕ → ℕ → Type 0
IsArrivalAt g number moment = (a : Arrival) → number < length g.arrivals → (slice_index_or g.arrivals number a).t ≡ moment

module _ (p : Program) (copies : List FnCopy) (content : MapContent) (g : Setting) where
  -- no step that counts for this moment is undefined
  abbrev pub IsDefinedTo : ℕ → Type 0
  IsDefinedTo m = (k : ℕ) → Counts p copies content g m k → fault_after (run_under p copies content g m) k ≡ None

  -- The search has taken so many arrivals, and looked at all moments before some one.
  pub record IsSearched (off : Off) (taken : ℕ) (search : Search) : Type 0 where
    pub earlier : search.earlier.arrivals.items ≡ take taken off.by_length.arrivals.items
    pub input : search.earlier.input.items ≡ off.by_length.input.items
    pub known : MayBeRunBy p content (outside_by search.earlier) search.known
    pub within : search.seen ≤ off.moment
    pub seen : taken ≤ upto search.seen g.arrivals
    pub moments : search.moments ≡ length (lengths_before (traces g) off.moment (take taken g.arrivals))
    pub clean : (m : ℕ) → m < search.seen → IsDefinedTo m

  -- an undefined step was found that counts, or none before the moment that was looked at
  abbrev pub Found : Off → ℕ → Option Fault → Search → Type 0
  Found off taken None search = IsSearched off taken search
  Found off taken (Some fault) search = IsFirstFault p copies content g off.moment (fault_in fault)

  -- ---- the answer
  abbrev pub Answers : ℕ → Option Fault → Type 0
  Answers n None = IsClean (source_of p copies content) content g n × ((fault : _) → Meets p copies content g n fault → ⊥)
  Answers n (Some fault) =
      IsFirstFault p copies content g n (fault_in fault) ⊎ (IsClean (source_of p copies content) content g n × Meets p copies content g n (fault_in fault))
