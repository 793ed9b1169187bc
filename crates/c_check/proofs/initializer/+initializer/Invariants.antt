use Rattle.std.proofs.Common.{◌≡◌, ◌+◌, drop, map}
use Rattle.c_nodes.specs.ProgramViews.{more_inits, next_init_of}
use Rattle.type_rules.specs.Initializers.{more_begins, items_in}
use Rattle.c_tables.specs.Tables.{known_of}
use Rattle.c_outline.specs.Slots.{any_slot, begun_of}
use Rattle.c_check.proofs.initializer.+initializer.Given as goal

-- what is left goes on from the items so far
abbrev pub invariant-items-loop-next : goal.invariant-items-loop-next
invariant-items-loop-next l = (l.count + items_in (more_inits (map next_init_of (drop l.next-index l.others))) ≡ 1 + items_in (more_inits (map next_init_of l.others))) × (l.count ≡ 1 + l.next-index) × (more_begins (more_inits (map next_init_of (drop l.next-index l.others))) (any_slot l.slot) l.count (begun_of l.sink) (known_of l.checker) ≡ more_begins (more_inits (map next_init_of l.others)) (any_slot l.slot) 1 (begun_of l.fn.sink) (known_of l.fn.checker))
