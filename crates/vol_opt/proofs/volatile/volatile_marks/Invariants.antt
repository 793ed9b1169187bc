use Rattle.std.proofs.Common.{◌≡◌}
use Rattle.c_typed.specs.Views.{program_of}
use Rattle.vol_opt.specs.Marks.{targets_within, structures_within}
use Rattle.vol_opt.proofs.volatile.volatile_marks.Given as goal

abbrev pub invariant-loop-level : goal.invariant-loop-level
invariant-loop-level l = (l.marks.targets.items ≡ targets_within (program_of l.p) l._level) × (l.marks.structures.items ≡ structures_within (program_of l.p) l._level)
