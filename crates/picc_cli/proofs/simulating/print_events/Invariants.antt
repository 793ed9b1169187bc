use Rattle.std.proofs.Common.{◌≡◌, ◌++◌, take, option_map}
use Rattle.pic_map.specs.MapView.{content_of}
use Rattle.picc_cli.specs.Lines.{event_lines}
use Rattle.picc_cli.specs.Trace.{AllShown}
use Rattle.picc_cli.proofs.simulating.print_events.Given as goal

abbrev pub invariant-loop-i : goal.invariant-loop-i
invariant-loop-i g l = record {
  shown : AllShown (content_of l.map) (take l.i l.trace.events);
  printed : g.H.Host.printed l.host ≡ option_map (λ t. t ++ event_lines (content_of l.map) (take l.i l.trace.events)) (g.H.Host.printed l.initial.host);
  same_file : g.H.Host.open_file l.host ≡ g.H.Host.open_file l.initial.host;
  same_contents : g.H.Host.contents l.host ≡ g.H.Host.contents l.initial.host;
  same_kind : g.H.Host.kind l.host ≡ g.H.Host.kind l.initial.host;
  same_faults : g.H.Host.faults l.host ≡ g.H.Host.faults l.initial.host;
}
