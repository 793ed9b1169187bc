-- The digits of the library `hex` are those of our texts.
use Rattle.std.proofs.Common.{◌≡◌, ℕ, ◌/◌, ◌%◌, List, [], ◌∷◌, refl, ap}
use Rattle.text_lines.specs.Text.{hex_digit, hex_pairs}
use Rattle.hex.specs.Hex.{encode_with, encode_upper}

pub pairs_upper : (bytes : List ℕ) → encode_upper bytes ≡ hex_pairs bytes
unfolding encode_with hex_pairs
pairs_upper [] = refl
pairs_upper (b ∷ bytes) = ap (λ t. hex_digit (b / 16) ∷ hex_digit (b % 16) ∷ t) (pairs_upper bytes)
