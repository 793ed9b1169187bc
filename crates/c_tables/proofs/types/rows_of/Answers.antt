use Rattle.c_tables.proofs.Sights.{all_read}
use Rattle.c_tables.proofs.types.rows_of.Goals as goal

pub returns : goal.returns
returns c = all_read c.loop-target.listed.items c.loop-target.target-iterator c.args.targets.keys c.in-None.ensures.steps.0 c.loop-target.invariant
