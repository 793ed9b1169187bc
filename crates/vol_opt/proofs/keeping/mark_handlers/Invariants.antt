use Rattle.std.proofs.Common.{◌≡◌, drop}
use Rattle.c_typed.specs.Views.{program_of}
use Rattle.vol_opt.specs.Marks.{marked}
use Rattle.vol_opt.proofs.AllKept.{names_from}
use Rattle.vol_opt.proofs.keeping.mark_handlers.Given as goal

abbrev pub invariant-loop-number : goal.invariant-loop-number
invariant-loop-number l = marked l.marks.items (names_from (program_of l.p) l.number (drop l.number l.p.functions.items)) ≡ marked l.fn.marks.items (names_from (program_of l.p) 0 l.p.functions.items)
