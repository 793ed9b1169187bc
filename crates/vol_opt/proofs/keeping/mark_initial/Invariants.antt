use Rattle.std.proofs.Common.{◌≡◌, drop}
use Rattle.vol_opt.specs.Marks.{marked}
use Rattle.vol_opt.proofs.Lists.{statics_in}
use Rattle.vol_opt.proofs.keeping.mark_initial.Given as goal

abbrev pub invariant-loop-object : goal.invariant-loop-object
invariant-loop-object l = marked l.marks.items (statics_in (drop l.object-index l.statics)) ≡ marked l.fn.marks.items (statics_in l.statics)
