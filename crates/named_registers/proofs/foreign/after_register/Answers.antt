use Rattle.std.proofs.Common.{sym, ◌∙◌}
use Rattle.named_registers.proofs.Lists.{shared, foreign}
use Rattle.named_registers.proofs.foreign.after_register.Goals as goal

pub returns-then-is_small : goal.returns-then-is_small
returns-then-is_small c = sym (shared c.args.first c.args.register c.args.line (sym c.is_small.ensures ∙ c.if-is_small.true))

pub returns-else-is_small : goal.returns-else-is_small
returns-else-is_small c = c.earlier.ensures ∙ sym (foreign c.args.first c.args.register c.args.line (sym c.is_small.ensures ∙ c.if-is_small.false))
