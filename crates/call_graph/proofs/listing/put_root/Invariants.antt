use Rattle.call_graph.specs.Adding.{Adds}
use Rattle.call_graph.proofs.Additions.{UnderBelow}
use Rattle.call_graph.proofs.listing.put_root.Given as goal

abbrev pub invariant-loop-level : goal.invariant-loop-level
invariant-loop-level l = Adds l.functions (UnderBelow l.functions l.root l.found.levels.items l.level) l.fn.list.items l.list.items
