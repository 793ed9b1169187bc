use Rattle.std.proofs.Common.{◌≡◌, drop}
use Rattle.named_registers.specs.Foreign.{foreign_of}
use Rattle.named_registers.proofs.Lists.{items_in}
use Rattle.named_registers.proofs.foreign.after_items.Given as goal

abbrev pub invariant-loop-item : goal.invariant-loop-item
invariant-loop-item l = foreign_of l.found (items_in (drop l.item-index l.items)) ≡ foreign_of l.fn.first (items_in l.items)
