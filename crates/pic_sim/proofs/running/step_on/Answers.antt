use Rattle.std.proofs.Common.{refl}
use Rattle.pic_map.specs.Tracing.{tracing_of}
use Rattle.pic_sim.specs.Going.{point}
use Rattle.pic_sim.proofs.Stepping.{steps_at_end, stops_at_end}
use Rattle.pic_sim.proofs.running.step_on.Goals as goal

pub returns-in-Ok-Unmodelled-clause-steps : goal.returns-in-Ok-Unmodelled-clause-steps
returns-in-Ok-Unmodelled-clause-steps g c =
    let kind = g.C.Stepper.kind in
    let machine = g.C.Stepper.machine in
    let before = c.args.board.now in
    let now = c.act_on.new.board in
    let at_start = goal.Board-dyn g (before.vtable, before.value) in
    let at_end = goal.Board-dyn g (now.vtable, now.value) in
    let tracing = tracing_of c.args.tracer.now in
    let events = c.args.trace.now.events in
    stops_at_end kind c.requires.chip c.args.image.now c.in-Ok-Unmodelled.pc c.in-Ok-Unmodelled.field-0 (point (machine c.args.chip.now) tracing events (at_start.lists before.value) (at_start.follows before.value))
    (point (machine c.act_on.new.chip) tracing events (at_end.lists now.value) (at_end.follows now.value)) c.in-Ok-Unmodelled.field-0-is c.in-Ok-Unmodelled.ensures.acted refl refl

pub returns-in-Ok-Done-clause-steps : goal.returns-in-Ok-Done-clause-steps
returns-in-Ok-Done-clause-steps g c =
    let kind = g.C.Stepper.kind in
    let machine = g.C.Stepper.machine in
    let before = c.args.board.now in
    let now = c.act_on.new.board in
    let at_start = goal.Board-dyn g (before.vtable, before.value) in
    let at_end = goal.Board-dyn g (now.vtable, now.value) in
    steps_at_end kind c.requires.chip c.args.image.now c.in-Ok-Done.accesses c.in-Ok-Done.field-0 (point (machine c.args.chip.now) (tracing_of c.args.tracer.now) c.args.trace.now.events (at_start.lists before.value) (at_start.follows before.value))
    (point (machine c.act_on.new.chip) (tracing_of c.note.new.tracer) c.note.new.trace.events (at_end.lists now.value) (at_end.follows now.value))
    c.pc.result c.in-Ok-Done.field-0-is c.pc.ensures c.in-Ok-Done.ensures.acted c.note.ensures.events c.note.ensures.tracing
