use Rattle.c_pre.proofs.Few.{few}
use Rattle.c_pre.proofs.program.tokens.Goals as goal

pub returns-clause-few : goal.returns-clause-few
returns-clause-few c = few c.args.text.now c.args.raw.now _ c.tokens_left.ensures
