use Rattle.std.proofs.Common.{◌≡◌, drop, length}
use Rattle.c_pre.specs.Words.{same_words}
use Rattle.c_pre.proofs.words.same_words.Given as goal

abbrev pub invariant-loop-i : goal.invariant-loop-i
invariant-loop-i l = (length l.left ≡ length l.right) × (same_words l.text l.left l.right ≡ same_words l.text (drop l.i l.left) (drop l.i l.right))
