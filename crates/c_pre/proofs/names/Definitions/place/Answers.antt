use Rattle.std.proofs.Common.{◌∙◌}
use Rattle.c_pre.proofs.Tables.{place_bound}
use Rattle.c_pre.proofs.names.Definitions.place.Goals as goal

pub returns-clause-bound : goal.returns-clause-bound
returns-clause-bound c =
    place_bound c.args.self.now.list.items c.args.name.now c.copied.result (c.copied.ensures ∙ c.get.ensures.value ∙ c.requires c.args.name.now)
