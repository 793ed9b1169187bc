use Rattle.std.proofs.Common.{◌≡◌, ◌%◌, ◌*◌, ◌/◌, take, ◌∷◌}
use Rattle.hex_image.specs.HexText.{word_bytes}
use Rattle.hex_image.proofs.block_bytes.Given as goal

abbrev pub invariant-loop-word : goal.invariant-loop-word
invariant-loop-word l = l.bytes.items ≡ 16 ∷ (16 * l.k / 256) ∷ (16 * l.k % 256) ∷ 0 ∷ word_bytes (take l.word-index l.words)
