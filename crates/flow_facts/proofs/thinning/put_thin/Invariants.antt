use Rattle.std.proofs.Common.{◌≡◌, ◌++◌, true, false, length}
use Rattle.sym_code.specs.WellFormed.{are_well_formed}
use Rattle.flow_facts.specs.Stored.{facts_of}
use Rattle.flow_facts.specs.Thin.{thin_from}
use Rattle.flow_facts.proofs.thinning.put_thin.Given as goal

abbrev pub invariant-loop-sym : goal.invariant-loop-sym
invariant-loop-sym l =
    (are_well_formed l.left ≡ true) × (l.out.name ≡ l.fn.out.name)
    × (l.out.list.items ++ thin_from (facts_of l.facts) l.fn.out.name l.place.fact l.place.behind l.left ≡ thin_from (facts_of l.facts) l.fn.out.name ((facts_of l.facts).front l.fn.out.name) false l.list)

abbrev pub decreases-loop-sym : goal.decreases-loop-sym
decreases-loop-sym l = length l.left
