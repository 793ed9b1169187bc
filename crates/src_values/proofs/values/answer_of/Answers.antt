use Rattle.std.proofs.Common.{sym, ◌∙◌}
use Rattle.src_values.proofs.OtherNodes.{answer_other}
use Rattle.src_values.specs.Seen.{datum_of}
use Rattle.src_values.proofs.values.answer_of.Goals as goal

pub returns-in_default : goal.returns-in_default
returns-in_default c = c.kept_in-in_default.ensures ∙ sym (answer_other c.args.expr.now c.in_default.not-Step c.args.spot (datum_of c.args.value))
