use Rattle.pic_chip.specs.Run.{Watch}
use Rattle.std.proofs.Common.{◌≡◌}
use Rattle.schedule.specs.Watching.{watched_run, IsRunAt}
use Rattle.schedule.proofs.FreeMoments.{last_before}
use Rattle.schedule.proofs.off.last_free.Given as goal

abbrev pub invariant-loop-moment : goal.invariant-loop-moment
invariant-loop-moment l =
    (watch : Watch) → IsRunAt (watched_run l.image watch l.script) l.moment l.run.chip l.run.handling × (l.last ≡ last_before (watched_run l.image watch l.script) l.moment)
