use Rattle.std.proofs.Common.{refl}
use Rattle.pic_map.specs.Tracing.{tracing_of}
use Rattle.schedule.proofs.Counting.{both_shown}
use Rattle.schedule.proofs.off.Watched.note.Goals as goal

pub returns-clause-count : goal.returns-clause-count
returns-clause-count c =
    both_shown c.args.accesses (tracing_of c.args.self.now.tracer) c.args.self.now.events _ c.shown-reads.result c.shown-writes.result
    c.shown-reads.ensures.value c.shown-writes.ensures.value refl
