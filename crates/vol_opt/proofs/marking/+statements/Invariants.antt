use Rattle.std.proofs.Common.{◌≡◌, drop}
use Rattle.vol_opt.specs.Marks.{marked}
use Rattle.vol_opt.proofs.Lists.{statements_in, arms_in}
use Rattle.vol_opt.proofs.marking.+statements.Given as goal

abbrev pub invariant-mark_statements-loop-statement : goal.invariant-mark_statements-loop-statement
invariant-mark_statements-loop-statement l = marked l.marks.items (statements_in l.names (drop l.statement-index l.statements)) ≡ marked l.fn.marks.items (statements_in l.names l.statements)

abbrev pub invariant-mark_arms-loop-arm : goal.invariant-mark_arms-loop-arm
invariant-mark_arms-loop-arm l = marked l.marks.items (arms_in l.names (drop l.arm-index l.arms)) ≡ marked l.fn.marks.items (arms_in l.names l.arms)
