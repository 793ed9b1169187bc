use Rattle.std.proofs.Common.{arith}
use Rattle.pic_map.specs.Tracing.{tracing_of}
use Rattle.pic_sim.proofs.Going.{ran_none, ran_next, slack_few}
use Rattle.pic_sim.proofs.running.simulate_any.Goals as goal

pub loop-init : goal.loop-init
loop-init g c =
    let few = slack_few (tracing_of c.args.tracer.now) in
    let room = c.requires.room in
    record {
      ran = ran_none g.C.Stepper.kind c.args.image.now _;
      room = omega arith;
      trace_room = omega (arith, few, room);
    }

pub loop-preserved : goal.loop-preserved
loop-preserved g c =
    let so_far = c.loop.invariant in
    let further = c.loop-test.true in
    let room = c.in_default.ensures.room in
    let before = so_far.room in
    let trace_room = c.in_default.ensures.trace_room in
    let trace_before = so_far.trace_room in
    record {
      ran = ran_next g.C.Stepper.kind c.args.image.now c.loop.counter _ _ _ so_far.ran c.in_default.ensures.steps;
      room = omega (arith, before, room);
      trace_room = omega (arith, further, trace_before, trace_room);
    }
