use Rattle.std.proofs.Common.{length, ◌-◌, ◌≡◌, ◌≤◌, take}
use Rattle.host_io.specs.Host.{Grows}
use Rattle.host_io.proofs.whole.write_all.Given as goal

abbrev pub invariant-loop-done : goal.invariant-loop-done
invariant-loop-done g l = record {
  within : l.done ≤ length l.bytes;
  grown : Grows (g.H.Host.open_file l.initial.host) (g.H.Host.contents l.initial.host) (g.H.Host.contents l.host) (take l.done l.bytes);
  same_file : g.H.Host.open_file l.host ≡ g.H.Host.open_file l.initial.host;
  same_printed : g.H.Host.printed l.host ≡ g.H.Host.printed l.initial.host;
  same_kind : g.H.Host.kind l.host ≡ g.H.Host.kind l.initial.host;
  same_faults : g.H.Host.faults l.host ≡ g.H.Host.faults l.initial.host;
}

abbrev pub decreases-loop-done : goal.decreases-loop-done
decreases-loop-done g l = length l.bytes - l.done
