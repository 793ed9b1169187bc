use Rattle.std.proofs.Common.{◌≡◌, ◌+◌, ◌≤◌, drop, length}
use Rattle.depth_check.specs.Search.{tables, entries_of, entries_from, IsNumbered}
use Rattle.depth_check.proofs.finish.entries.Given as goal

abbrev pub invariant-loop-at : goal.invariant-loop-at
invariant-loop-at l = (entries_from l.at (drop l.at l.s.spots.items) l.found.list.items ≡ entries_of (tables l.s)) × (length l.found.list.items ≤ l.at + 2) × IsNumbered l.found.numbers l.found.list.items
