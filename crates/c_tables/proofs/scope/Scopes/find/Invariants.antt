use Rattle.std.proofs.Common.{◌≡◌, ◌≤◌, length, map, reverse, take}
use Rattle.type_rules.specs.Names.{found_in}
use Rattle.c_tables.specs.Tables.{scopes_of}
use Rattle.c_tables.proofs.Sights.{bindings_of}
use Rattle.c_tables.proofs.scope.Scopes.find.Given as goal

abbrev pub invariant-loop-left : goal.invariant-loop-left
invariant-loop-left l = (l.left ≤ length l.self.«open».items) × (found_in (reverse (map (λ m. bindings_of m.entries) (take l.left l.self.«open».items))) l.name ≡ found_in (scopes_of l.self) l.name)

abbrev pub decreases-loop-left : goal.decreases-loop-left
decreases-loop-left l = l.left
