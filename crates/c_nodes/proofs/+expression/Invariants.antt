use Rattle.std.proofs.Common.{◌≤◌, ◌<◌}
use denote.Param.Weighed.{most}
use Rattle.c_nodes.proofs.expression.Assign.TheLaws.{the_size as assign_size}
use Rattle.c_nodes.proofs.expression.Choice.TheLaws.{the_size}
use Rattle.c_nodes.proofs.+expression.Given as goal

-- What waits lies deeper in the choice that is let go, and so does what is taken out of it.
abbrev pub invariant-expression::Choice::drop-loop : goal.invariant-expression::Choice::drop-loop
invariant-expression::Choice::drop-loop l = (the_size l.self ≤ the_size l.fn.self) × (most the_size l.waiting.items < the_size l.fn.self)

abbrev pub invariant-expression::Choice::drop-loop-next : goal.invariant-expression::Choice::drop-loop-next
invariant-expression::Choice::drop-loop-next l = (most the_size l.waiting.items < the_size l.fn.self) × (most (λ p. assign_size p.1) l.others.items < the_size l.fn.self)

abbrev pub decreases-expression::Choice::drop-loop-next : goal.decreases-expression::Choice::drop-loop-next
decreases-expression::Choice::drop-loop-next l = goal.left-expression::Choice::drop-loop-next l
