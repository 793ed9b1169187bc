use Rattle.std.proofs.Common.{◌≡◌, drop}
use Rattle.vol_opt.specs.Marks.{marked}
use Rattle.vol_opt.proofs.Lists.{items_in}
use Rattle.vol_opt.proofs.marking.mark_items.Given as goal

abbrev pub invariant-loop-item : goal.invariant-loop-item
invariant-loop-item l = marked l.marks.items (items_in l.names (drop l.item-index l.items)) ≡ marked l.fn.marks.items (items_in l.names l.items)
