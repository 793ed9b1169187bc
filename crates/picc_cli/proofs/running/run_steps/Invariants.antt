use Rattle.std.proofs.Common.{◌≡◌, ◌-◌, ◌≤◌}
use Rattle.pic_map.specs.MapView.{content_of}
use Rattle.picc_cli.proofs.TraceRun.{HasLines}
use Rattle.picc_cli.proofs.TracedRun.{HasRun}
use Rattle.picc_cli.proofs.running.run_steps.Given as goal
use Rattle.src_machine.specs.Sources.{IsSource}
use Rattle.src_memory.specs.Seen.{outside_by}
use Rattle.src_values.specs.Memory.{Setting}

abbrev pub invariant-loop-taken : goal.invariant-loop-taken
invariant-loop-taken g l = record {
  within : l.taken ≤ l.steps;
  lines : HasLines (content_of l.map) l.taken (g.H.Host.printed l.initial.host) (g.H.Host.printed l.host);
  same_file : g.H.Host.open_file l.host ≡ g.H.Host.open_file l.initial.host;
  same_contents : g.H.Host.contents l.host ≡ g.H.Host.contents l.initial.host;
  same_kind : g.H.Host.kind l.host ≡ g.H.Host.kind l.initial.host;
  ran : (s : Setting) → s.outside ≡ outside_by l.script → IsSource s (content_of l.map) 0 l.initial.source → HasRun s (content_of l.map) l.taken l.source (g.H.Host.printed l.initial.host) (g.H.Host.printed l.host);
  same_faults : g.H.Host.faults l.host ≡ g.H.Host.faults l.initial.host;
}

abbrev pub decreases-loop-taken : goal.decreases-loop-taken
decreases-loop-taken g l = l.steps - l.taken
