use Rattle.std.proofs.Common.{subst, sym}
use Rattle.pic_chip.specs.Words.{AreWords}
use Rattle.pic_chip.proofs.Words.{blank_words}
use Rattle.pic_chip.proofs.image.Image.blank.Goals as goal

pub invariant_of-result : goal.invariant_of-result
invariant_of-result c = subst AreWords (sym c.in_ok-words.ensures) blank_words
