use Rattle.std.proofs.Common.{◌≡◌, length}
use Rattle.flow_facts.specs.Stored.{facts_of}
use Rattle.flow_facts.specs.Walk.{all_lead}
use Rattle.flow_facts.proofs.checking.all_lead.Given as goal

abbrev pub invariant-loop-block : goal.invariant-loop-block
invariant-loop-block l = all_lead (facts_of l.facts) l.left ≡ all_lead (facts_of l.facts) l.blocks

abbrev pub decreases-loop-block : goal.decreases-loop-block
decreases-loop-block l = length l.left
