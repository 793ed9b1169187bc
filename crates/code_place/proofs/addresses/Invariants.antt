use Rattle.std.proofs.Common.{◌≡◌, ◌≤◌, ◌++◌, drop}
use Rattle.code_place.specs.Pages.{addresses_from, addresses, AreInMemory}
use Rattle.code_place.proofs.addresses.Given as goal

abbrev pub invariant-loop-words : goal.invariant-loop-words
invariant-loop-words l = (l.end ≤ 8192) × (l.at.items ++ addresses_from l.end (drop l.words-index l.blocks) ≡ addresses l.blocks) × AreInMemory l.at.items
