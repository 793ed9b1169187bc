use Rattle.std.proofs.Common.{◌≡◌, drop}
use Rattle.vol_opt.specs.Marks.{marked}
use Rattle.vol_opt.proofs.Lists.{arguments_in}
use Rattle.vol_opt.proofs.marking.+expressions.Given as goal

abbrev pub invariant-mark_arguments-loop-argument : goal.invariant-mark_arguments-loop-argument
invariant-mark_arguments-loop-argument l = marked l.marks.items (arguments_in l.names (drop l.argument-index l.arguments)) ≡ marked l.fn.marks.items (arguments_in l.names l.arguments)
