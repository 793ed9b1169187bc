use Rattle.std.proofs.Common.{sym, ◌∙◌}
use Rattle.narrow_pass.proofs.Others.{reads_nothing_second}
use Rattle.narrow_pass.proofs.operations.second_read.Goals as goal

pub returns-in_default : goal.returns-in_default
returns-in_default c = c.nothing_read.ensures ∙ sym (reads_nothing_second c.args.c.now c.in_default.not-Store c.in_default.not-Binary)
