use Rattle.call_graph.specs.Adding.{Adds}
use Rattle.call_graph.proofs.Additions.{AtLevelBelow}
use Rattle.call_graph.proofs.listing.put_level.Given as goal

abbrev pub invariant-loop-number : goal.invariant-loop-number
invariant-loop-number l = Adds l.functions (AtLevelBelow l.functions l.root l.levels l.level l.number) l.fn.list.items l.list.items
