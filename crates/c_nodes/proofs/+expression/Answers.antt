use Rattle.std.proofs.Common.{rules, ◌≡◌, ℕ, ◌<◌, ◌≤◌, List, [], ◌∷◌, ◌++◌, arith}
use Rattle.c_nodes.proofs.expression.Choice.TheLaws.{the_size}
use Rattle.c_nodes.proofs.LettingGo.{joined, left, deeper}
use Rattle.c_nodes.proofs.+expression.Goals as goal

pub expression::Choice::drop-loop-next-init : goal.expression::Choice::drop-loop-next-init
expression::Choice::drop-loop-next-init t c =
    let below = deeper c.loop.self c.into_inner-first.result (the_size c.args.self) c.into_inner-first.ensures c.loop.invariant.0 in
    (joined c.put_off.new.waiting.items c.loop.waiting.items _ c.put_off.result (the_size c.args.self) c.put_off.ensures.waiting c.loop.invariant.1 below.0, below.1)

pub expression::Choice::drop-drop-choices-requires-in-loop : goal.expression::Choice::drop-drop-choices-requires-in-loop
expression::Choice::drop-drop-choices-requires-in-loop t c κs =
    let below = deeper c.loop.self c.into_inner-first.result (the_size c.args.self) c.into_inner-first.ensures c.loop.invariant.0 in
    (((left c.put_off.new.choices.items _ c.put_off.result t c.put_off.ensures.choices (omega (arith, c.decreases, below.0)), tt), tt), search rules)
