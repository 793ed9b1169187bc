use Rattle.std.proofs.Common.{◌≤◌, ◌-◌, length}
use Rattle.c_check.proofs.Texts.{Reads}
use Rattle.c_check.proofs.text.characters.Given as goal

abbrev pub invariant-loop-passed : goal.invariant-loop-passed
invariant-loop-passed l = (l.passed ≤ length l.text) × Reads l.text l.characters.items l.passed

abbrev pub decreases-loop-passed : goal.decreases-loop-passed
decreases-loop-passed l = length l.text - l.passed
