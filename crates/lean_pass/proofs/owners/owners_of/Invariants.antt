use Rattle.std.proofs.Common.{◌≡◌, length}
use Rattle.code_place.specs.Layouts.{layout_of}
use Rattle.lean_pass.specs.Owners.{AreOwners}
use Rattle.lean_pass.proofs.owners.owners_of.Given as goal

abbrev pub invariant-loop-number : goal.invariant-loop-number
invariant-loop-number l = AreOwners (layout_of l.placed) l.owners.items × (length l.owners.items ≡ l.number)
