use Rattle.std.proofs.Common.{◌≡◌, false, length}
use Rattle.flow_facts.specs.Stored.{facts_of}
use Rattle.flow_facts.specs.Walk.{all_hold, leads}
use Rattle.flow_facts.proofs.checking.block_leads.Given as goal

abbrev pub invariant-loop-sym : goal.invariant-loop-sym
invariant-loop-sym l =
    all_hold (leads (facts_of l.facts) l.own) (facts_of l.facts) l.own l.place.fact l.place.behind l.left
    ≡ all_hold (leads (facts_of l.facts) l.own) (facts_of l.facts) l.own ((facts_of l.facts).front l.own) false l.list

abbrev pub decreases-loop-sym : goal.decreases-loop-sym
decreases-loop-sym l = length l.left
