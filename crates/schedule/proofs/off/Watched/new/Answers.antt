use Rattle.std.proofs.Common.{refl, ◌∙◌, sym, ap}
use Rattle.pic_chip.specs.Machine.{Machine}
use Rattle.pic_map.specs.Tracing.{tracing_of}
use Rattle.schedule.specs.Watching.{run_of}
use Rattle.schedule.proofs.Boundaries.{run_starts}
use Rattle.schedule.proofs.Counting.{watching_starts}
use Rattle.schedule.proofs.off.Watched.new.Goals as goal

pub returns-clause-at : goal.returns-clause-at
returns-clause-at c = λ image script.
    let g = run_of image c.args.map.now script in
    let now = c.look.new.self in
    let same = c.look.ensures.same in
    watching_starts g now.run.chip now.run.handling (tracing_of c.new-2.result) (tracing_of now.tracer) c.new.result.chip.state.pc now.events now.runs
    (run_starts g now.run.chip now.run.handling (same.0 ∙ c.new.ensures.chip) (same.1 ∙ c.new.ensures.handling))
    (ap (λ (m : Machine). m.state.pc) (sym same.0)) c.new-2.ensures c.look.ensures.tracing c.look.ensures.count same.2
