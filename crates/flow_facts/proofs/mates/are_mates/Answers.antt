use Rattle.code_place.specs.Layouts.{page_of}
use Rattle.flow_facts.proofs.Stands.{mates_are}
use Rattle.flow_facts.proofs.mates.are_mates.Goals as goal

pub returns-then-all_stand : goal.returns-then-all_stand
returns-then-all_stand c =
    λ is. mates_are c.args.facts.now (page_of c.args.blocks.now c.args.at.now) _ _ c.deref.ensures.value c.deref-then-all_stand.ensures.value (c.all_stand.ensures c.if-all_stand.true) (c.all_stand-then-all_stand.ensures is)
