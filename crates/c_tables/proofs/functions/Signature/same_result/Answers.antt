use Rattle.std.proofs.Common.{◌∙◌}
use Rattle.c_tables.proofs.Alike.{rows_same}
use Rattle.c_tables.proofs.functions.Signature.same_result.Goals as goal

pub returns : goal.returns
returns c = c.eq.ensures ∙ rows_same c.args.self.now.result c.args.returns
