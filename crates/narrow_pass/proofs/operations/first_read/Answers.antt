use Rattle.std.proofs.Common.{sym, ◌∙◌}
use Rattle.narrow_pass.proofs.Others.{reads_nothing_first}
use Rattle.narrow_pass.proofs.operations.first_read.Goals as goal

pub returns-in_default : goal.returns-in_default
returns-in_default c = let no = c.in_default in c.nothing_read.ensures ∙ sym (reads_nothing_first c.args.c.now no.not-Copy no.not-Load no.not-Store no.not-Unary no.not-Binary no.not-Convert no.not-BitWrite)
