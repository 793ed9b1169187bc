use Rattle.call_graph.proofs.Turns.{AreBelow}
use Rattle.call_graph.proofs.levels.numbers_at.Given as goal

abbrev pub invariant-loop-number : goal.invariant-loop-number
invariant-loop-number l = AreBelow l.levels l.level l.number l.numbers.items
