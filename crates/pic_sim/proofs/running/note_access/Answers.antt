use Rattle.pic_map.specs.Tracing.{tracing_of}
use Rattle.pic_sim.proofs.Stepping.{nothing_shown}
use Rattle.pic_sim.proofs.running.note_access.Goals as goal

pub returns-in_default-clause-events : goal.returns-in_default-clause-events
returns-in_default-clause-events g c = λ told. nothing_shown g.C.Stepper.kind c.requires.chip c.args.write c.args.access c.in_default.is (tracing_of c.args.tracer.now) c.args.trace.now.events
