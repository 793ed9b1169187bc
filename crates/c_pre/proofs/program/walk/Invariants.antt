use Rattle.std.proofs.Common.{◌≤◌, ◌-◌, length, drop, []}
use Rattle.std.specs.Prelude.{All}
use Rattle.c_pre.specs.Directive.{table_of}
use Rattle.c_pre.specs.LookedUp.{IsIndexed}
use Rattle.c_pre.specs.Items.{IsFree, Walks, items}
use Rattle.c_pre.proofs.program.walk.Given as goal

abbrev pub invariant-loop-at : goal.invariant-loop-at
invariant-loop-at l = IsIndexed l.definitions × (l.at ≤ length l.raw) × All (IsFree (length l.definitions.list.items)) l.free.items
    × Walks l.text (items l.text l.raw 0 []) (table_of l.definitions.list.items) l.free.items l.wrong (items l.text (drop l.at l.raw) 0 (table_of l.definitions.list.items))

abbrev pub decreases-loop-at : goal.decreases-loop-at
decreases-loop-at l = length l.raw - l.at
