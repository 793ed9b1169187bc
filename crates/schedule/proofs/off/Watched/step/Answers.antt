use Rattle.std.proofs.Common.{refl}
use Rattle.pic_map.specs.Tracing.{tracing_of}
use Rattle.schedule.specs.Watching.{watched_run}
use Rattle.schedule.proofs.Counting.{watching_goes_on, goes_on_here}
use Rattle.schedule.proofs.off.Watched.step.Goals as goal

pub returns-in-Done-clause-at : goal.returns-in-Done-clause-at
returns-in-Done-clause-at c = λ watch k at mask going.
    let g = watched_run c.args.image.now watch c.args.script.now in
    let old = c.args.self.now in
    let next = c.step.new.self in
    let noted = c.note.new.self in
    let now = c.look.new.self in
    let boundary = c.boundary-boundary in
    watching_goes_on g k old.run.chip next.chip noted.run.chip now.run.chip old.run.handling next.handling noted.run.handling now.run.handling boundary.result.taken boundary.result.returns
    (tracing_of old.tracer) (tracing_of noted.tracer) (tracing_of now.tracer) c.args.mask old.events noted.events now.events old.runs c.one_if.result noted.runs now.runs c.in-Done.accesses
    at mask boundary.ensures.taken boundary.ensures.returns c.one_if.ensures.value c.in-Done.ensures.handling c.in-Done.ensures.state c.in-Done.ensures.accesses c.in-Done.ensures.stopped c.in-Done.ensures.index
    c.note.ensures.count c.note.ensures.tracing c.note.ensures.same c.look.ensures.count c.look.ensures.tracing c.look.ensures.same

pub returns-in-Unmodelled-clause-at : goal.returns-in-Unmodelled-clause-at
returns-in-Unmodelled-clause-at c = λ watch k at mask going.
    let g = watched_run c.args.image.now watch c.args.script.now in
    let old = c.args.self.now in
    absurd (goes_on_here g k old.run.chip old.run.handling c.in-Unmodelled.field-0 at.run c.in-Unmodelled.ensures.stopped going)
