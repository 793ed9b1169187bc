use Rattle.std.proofs.Common.{◌≡◌, ◌++◌, ◌<◌}
use Rattle.pic_chip.specs.Words.{AreWords}
use Rattle.hex_image.specs.HexText.{blocks_text}
use Rattle.hex_image.proofs.Written.{first_text}
use Rattle.hex_image.proofs.write_hex.Given as goal

abbrev pub invariant-loop-k : goal.invariant-loop-k
invariant-loop-k l = record { text : l.text.items ≡ first_text ++ blocks_text l.image l.k; words : 0 < l.k → AreWords l.image }
