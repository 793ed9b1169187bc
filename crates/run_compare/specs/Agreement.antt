-- What is told of a run on the chip beside that of the source.
use Rattle.std.specs.Prelude.{ℕ, ◌+◌, ◌*◌, ◌≡◌, ◌<◌, ◌≤◌, ◌⊎◌, true, List, length, Some, None}
use Rattle.c_typed.specs.TreeNodes.{nodes_of}
use Rattle.c_typed.specs.Trees.{Program}
use Rattle.call_graph.specs.declared.types.FnCopy.{FnCopy}
use Rattle.pic_chip.specs.Run.{Setting}
use Rattle.pic_map.specs.MapContent.{MapContent}
use Rattle.run_links.specs.Runs.{IsFrontOf}
use Rattle.pic_world.specs.World.{outside_of}
use Rattle.schedule.specs.Off.{read_off, runs_begun}
use Rattle.src_rules.specs.Runs.{Fault, after, fault_after, is_idle_after, main_steps_after, runs_after}
use Rattle.src_values.specs.Memory.{Setting as SourceSetting}
use Rattle.headline.specs.Headline.{Source}
use Rattle.headline.specs.OnChip.{trace_at, run_at, IsClean}
use Rattle.headline.specs.SourceOf.{setting_of, source_of}
use Rattle.run_compare.specs.declared.comparing.Agreed.{Agreed}
use Rattle.run_compare.specs.declared.comparing.Agreed.TheVariants.{Same, Undefined}

-- the length of the chip's trace, where it is told
abbrev pub events_in : Agreed → ℕ
events_in (Same events) = events
events_in (Undefined kind line) = 0

-- Of a program whose copies these are, seen by a map, and a run of the chip.
module _ (p : Program) (copies : List FnCopy) (content : MapContent) (g : Setting) where
  abbrev pub source : Source
  source = source_of p copies content

  -- the source run whose handler is called where the arrivals up to moment m fall in the chip's trace
  abbrev pub run_under : ℕ → SourceSetting
  run_under m = setting_of p (outside_of g.inputs (read_off (trace_at source content g) m g.arrivals))

  -- ---- moment by moment
  -- Its step of number k counts for moment m: it is among the first (m + 1) * nodes, and begins while its trace is no longer
  -- than the chip's.
  pub record Counts (m k : ℕ) : Type 0 where
    pub early : k < (m + 1) * nodes_of p
    pub short : length (after (run_under m) k).world.trace ≤ length (trace_at source content g m)

  -- of the moments up to n the first one for which a step that counts is undefined, and why
  pub record IsFirstFault (n : ℕ) (fault : Fault) : Type 0 where
    pub at : ℕ
    pub within : at ≤ n
    pub before : (m : ℕ) → m < at → IsClean source content g m
    pub step : ℕ
    pub counts : Counts at step
    pub earlier : (k : ℕ) → k < step → fault_after (run_under at) k ≡ None
    pub is : fault_after (run_under at) step ≡ Some fault

  -- ---- the run under all arrivals up to n
  -- It is at its end before its step of number k: main has taken (n + 1) * nodes steps, or main and the handler together
  -- twice as many; it is idle; or a run of the handler would begin that the chip hadn't begun.
  abbrev pub IsEnd : ℕ → ℕ → Type 0
  IsEnd n k =
      ((n + 1) * nodes_of p ≤ main_steps_after (run_under n) k)
      ⊎ ((2 * ((n + 1) * nodes_of p) ≤ k) ⊎ ((is_idle_after (run_under n) k ≡ true) ⊎ (runs_begun g n < runs_after (run_under n) (k + 1))))

  -- it meets an undefined step before its end
  pub record Meets (n : ℕ) (fault : Fault) : Type 0 where
    pub step : ℕ
    pub going : (k : ℕ) → k ≤ step → IsEnd n k → ⊥
    pub is : fault_after (run_under n) step ≡ Some fault

  -- ---- the answer for moment n
  -- the chip's trace at moment n stands at the front of the source's
  abbrev pub IsPrefix : ℕ → Type 0
  IsPrefix n = (k : ℕ) × IsFrontOf (trace_at source content g n) ((run_at source content g n).trace k)

  -- An undefined step is told exactly where one counts up to n, or is met before the end of the run under all arrivals; of
  -- several the first. Otherwise it is told how many events the chip has made, and they are the source's.
  abbrev pub Tells : ℕ → Agreed → Type 0
  Tells n (Same events) =
      IsClean source content g n × ((fault : Fault) → Meets n fault → ⊥) × (events ≡ length (trace_at source content g n)) × IsPrefix n
  Tells n (Undefined kind line) =
      IsFirstFault n (record { kind = kind; line = line })
      ⊎ (IsClean source content g n × Meets n (record { kind = kind; line = line }))
