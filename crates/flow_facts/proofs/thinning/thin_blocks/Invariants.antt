use Rattle.std.proofs.Common.{take}
use Rattle.std.specs.List.{AllZip}
use Rattle.flow_facts.specs.Stored.{facts_of}
use Rattle.flow_facts.specs.Thin.{IsWithoutKnown}
use Rattle.flow_facts.proofs.thinning.thin_blocks.Given as goal

abbrev pub invariant-loop-block : goal.invariant-loop-block
invariant-loop-block l = AllZip (IsWithoutKnown (facts_of l.facts)) (take l.block-index l.blocks) l.made.items
