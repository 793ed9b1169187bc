use Rattle.std.proofs.Common.{length, ◌-◌, ◌≡◌, ◌≤◌, take, IfSome}
use Rattle.host_io.specs.Host.{left_of, read_on}
use Rattle.host_io.proofs.whole.read_left.Given as goal

abbrev pub invariant-loop-buffer : goal.invariant-loop-buffer
invariant-loop-buffer g l = record {
  within : length l.bytes.items ≤ l.most;
  read : IfSome (left_of (g.H.Host.contents l.initial.host) (g.H.Host.open_file l.initial.host)) (λ left. l.bytes.items ≡ take (length l.bytes.items) left);
  file : g.H.Host.open_file l.host ≡ read_on (length l.bytes.items) (g.H.Host.open_file l.initial.host);
  same_contents : g.H.Host.contents l.host ≡ g.H.Host.contents l.initial.host;
  same_printed : g.H.Host.printed l.host ≡ g.H.Host.printed l.initial.host;
  same_kind : g.H.Host.kind l.host ≡ g.H.Host.kind l.initial.host;
  same_faults : g.H.Host.faults l.host ≡ g.H.Host.faults l.initial.host;
}

abbrev pub decreases-loop-buffer : goal.decreases-loop-buffer
decreases-loop-buffer g l = l.most - length l.bytes.items
