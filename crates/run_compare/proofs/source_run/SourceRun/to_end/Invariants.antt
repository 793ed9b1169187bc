use Rattle.std.proofs.Common.{◌≡◌, ◌<◌, ◌^◌, ◌-◌, ◌*◌, ℕ, None}
use Rattle.pic_map.specs.MapContent.{MapContent}
use Rattle.run_compare.proofs.source_run.SourceRun.to_end.Given as goal
use Rattle.run_compare.specs.Looking.{IsRun}
use Rattle.src_memory.specs.Seen.{outside_by}
use Rattle.src_rules.specs.Runs.{fault_after}
use Rattle.src_values.specs.Memory.{Setting}

-- No step was undefined; and where one more can be counted the run is behind them.
abbrev pub invariant-loop-self : goal.invariant-loop-self
invariant-loop-self l = record {
  defined : (s : Setting) (map : MapContent) → s.outside ≡ outside_by l.schedule → IsRun s map l.initial.self → (k : ℕ) → k < l.self.steps → fault_after s k ≡ None;
  behind : l.self.steps < 2 ^ 60 → (s : Setting) (map : MapContent) → s.outside ≡ outside_by l.schedule → IsRun s map l.initial.self → IsRun s map l.self;
}

abbrev pub decreases-loop-self : goal.decreases-loop-self
decreases-loop-self l = 2 * l.most - l.self.steps
