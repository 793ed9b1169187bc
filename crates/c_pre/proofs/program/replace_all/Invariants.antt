use Rattle.std.proofs.Common.{◌≡◌, false, length, replicate}
use Rattle.c_pre.proofs.Finishing.{Finishes}
use Rattle.c_pre.proofs.program.replace_all.Given as goal

abbrev pub invariant-loop-item : goal.invariant-loop-item
invariant-loop-item l =
    Finishes l.text l.definitions.list.items l.free l.output l.item-index × (l.busy ≡ replicate (length l.definitions.list.items) false)
