use Rattle.code_place.specs.Layouts.{page_of}
use Rattle.flow_facts.proofs.thinning.facts_for.Goals as goal

pub returns-clause-mates : goal.returns-clause-mates
returns-clause-mates c = c.none_known.ensures.mates (page_of c.args.blocks.now c.args.at.now)
