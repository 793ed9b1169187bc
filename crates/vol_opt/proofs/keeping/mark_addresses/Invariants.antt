use Rattle.std.proofs.Common.{◌≡◌, drop}
use Rattle.vol_opt.specs.Marks.{marked}
use Rattle.vol_opt.proofs.Lists.{functions_in}
use Rattle.vol_opt.proofs.keeping.mark_addresses.Given as goal

abbrev pub invariant-loop-function : goal.invariant-loop-function
invariant-loop-function l = marked l.marks.items (functions_in (drop l.function-index l.functions)) ≡ marked l.fn.marks.items (functions_in l.functions)
