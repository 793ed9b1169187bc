use Rattle.lower_stmt.proofs.Objects.{counted, short}
use Rattle.lower_stmt.proofs.program.lower.Goals as goal

pub returns-clause-few : goal.returns-clause-few
returns-clause-few c = counted c.args.p.now.targets.items c.args.p.now.structures.items c.args.p.now.statics.items c.args.p.now.functions.items _ c.in_ok-statics.ensures c.requires.statics

pub returns-clause-short : goal.returns-clause-short
returns-clause-short c = short c.args.p.now.targets.items c.args.p.now.structures.items c.args.p.now.statics.items c.args.p.now.functions.items _ c.see_sound.ensures c.in_ok-statics.ensures
