use Rattle.std.proofs.Common.{◌∙◌, ap}
use Rattle.std.specs.List.{list_all}
use Rattle.depth_check.specs.Certificate.{seen}
use Rattle.depth_check.specs.Marks.{is_marked}
use Rattle.depth_check.proofs.Rounds.{same_all}
use Rattle.depth_check.proofs.met.all_met.Goals as goal

pub returns : goal.returns
returns c =
    c.all_marked.ensures ∙ ap (list_all (λ r. is_marked c.reach.new.met r.at)) c.deref.ensures.value
    ∙ same_all c.args.image.now (seen c.args.h.now) 0 c.args.h.now.rows.items c.reach.new.met.marks c.requires.rising c.reach.ensures

pub reach-requires-clause-from : goal.reach-requires-clause-from
reach-requires-clause-from c = c.at_first-met.ensures c.args.image.now
