use Rattle.std.proofs.Common.{drop}
use Rattle.typed_numbers.proofs.Gathered.{Items}
use Rattle.typed_numbers.proofs.numbers.see_items.Given as goal

abbrev pub invariant-loop-item : goal.invariant-loop-item
invariant-loop-item l = Items (drop l.item-index l.items) → Items l.items
