use Rattle.std.proofs.Common.{◌≡◌, ◌-◌}
use Rattle.pic_map.specs.MapContent.{MapContent}
use Rattle.run_compare.proofs.source_run.SourceRun.look.Given as goal
use Rattle.run_compare.specs.Looking.{IsRun}
use Rattle.src_memory.specs.Seen.{outside_by}
use Rattle.src_values.specs.Memory.{Setting}

abbrev pub invariant-loop-self : goal.invariant-loop-self
invariant-loop-self l = (s : Setting) (map : MapContent) → s.outside ≡ outside_by l.schedule → IsRun s map l.initial.self → IsRun s map l.self

abbrev pub decreases-loop-self : goal.decreases-loop-self
decreases-loop-self l = l.most - l.self.steps
