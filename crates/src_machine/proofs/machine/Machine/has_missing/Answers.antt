use Rattle.std.proofs.Common.{◌∙◌}
use Rattle.src_machine.proofs.Passing.{missing_on}
use Rattle.src_machine.proofs.machine.Machine.has_missing.Goals as goal

pub loop-at-preserved : goal.loop-at-preserved
loop-at-preserved c = missing_on c.args.self.now.stack.items c.loop-at.at c.is_missing.result c.is_missing.ensures c.if-is_missing.false ∙ c.loop-at.invariant
