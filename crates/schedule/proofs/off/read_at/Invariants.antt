use Rattle.std.proofs.Common.{◌≡◌, ◌≤◌, ◌+◌, ◌-◌, ◌*◌, length}
use Rattle.pic_map.specs.Tracing.{tracing_of}
use Rattle.schedule.specs.Watching.{ahead, run_of, traces, IsWatchedAt}
use Rattle.schedule.proofs.Putting.{IsPut}
use Rattle.schedule.proofs.off.read_at.Given as goal

abbrev pub invariant-loop-at : goal.invariant-loop-at
invariant-loop-at l =
    let g = run_of l.image l.map l.script in
    record {
      at : IsWatchedAt g l.at l.watched.run.chip l.watched.run.handling (tracing_of l.watched.tracer) l.watched.events l.watched.runs;
      put : IsPut g l.moment l.at l.script.arrivals.items l.left l.reading.lengths.items l.reading.before.items;
      earlier : l.earlier ≡ length (traces g (l.at - 1));
      events : l.watched.events + ahead l.watched.tracer ≤ 2 * l.at + 1;
      runs : l.watched.runs ≤ l.at;
    }
