use Rattle.std.proofs.Common.{◌≤◌, ◌+◌, ◌-◌, ◌*◌}
use Rattle.pic_map.specs.Tracing.{tracing_of}
use Rattle.pic_sim.specs.Going.{RanBy, point}
use Rattle.pic_sim.specs.Step.{slack}
use Rattle.pic_sim.proofs.running.simulate_any.Given as goal

abbrev pub invariant-loop : goal.invariant-loop
invariant-loop g l =
    let machine = g.C.Stepper.machine in
    let start = l.initial.board in
    let now = l.board in
    let at_start = goal.Board-dyn g (start.vtable, start.value) in
    let at_now = goal.Board-dyn g (now.vtable, now.value) in
    record {
      ran : RanBy g.C.Stepper.kind l.image l.counter (point (machine l.initial.chip) (tracing_of l.initial.tracer) l.initial.trace.events (at_start.lists start.value) (at_start.follows start.value)) (point (machine l.chip) (tracing_of l.tracer) l.trace.events (at_now.lists now.value) (at_now.follows now.value));
      room : at_start.room start.value ≤ at_now.room now.value + 3 * l.counter;
      trace_room : 2 * (l.n - l.counter) + slack (tracing_of l.tracer) ≤ l.trace.room;
    }
