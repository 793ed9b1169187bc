-- The written text by its parts.
use Rattle.std.proofs.Common.{◌≡◌, ℕ, ◌+◌, List, [], ◌∷◌, ◌++◌, refl, sym, ap, ◌∙◌, append_assoc, append-nil, add-one, codes}
use Rattle.text_lines.specs.Text.{hex_pairs}
use Rattle.hex_image.specs.HexText.{checksum, record_line, block, block_text, blocks_text, hex_text}
use Rattle.text_lines.proofs.Digits.{pairs_append}

pub nothing_behind : (xs : List ℕ) → xs ≡ xs ++ []
nothing_behind xs = sym (append-nil xs)

pub record_parts : (old bytes : List ℕ) → (((old ++ 58 ∷ []) ++ hex_pairs bytes) ++ hex_pairs (checksum bytes ∷ [])) ++ 10 ∷ [] ≡ old ++ record_line bytes
record_parts old bytes =
    ap (λ t. t ++ 10 ∷ []) (append_assoc (old ++ 58 ∷ []) (hex_pairs bytes) (hex_pairs (checksum bytes ∷ [])) ∙ ap (λ t. (old ++ 58 ∷ []) ++ t) (sym (pairs_append bytes (checksum bytes ∷ []))) ∙ append_assoc old (58 ∷ []) (hex_pairs (bytes ++ checksum bytes ∷ [])))
    ∙ append_assoc old (58 ∷ hex_pairs (bytes ++ checksum bytes ∷ [])) (10 ∷ [])

pub blocks_on : (image : List ℕ) (k : ℕ) → blocks_text image (k + 1) ≡ blocks_text image k ++ block_text (block image k) k
unfolding blocks_text
blocks_on image k = ap (blocks_text image) (add-one k)

-- the line that makes the upper 16 bits of address 0, and the end line
abbrev pub first_text : List ℕ
first_text = codes ":020000040000FA" ++ 10 ∷ []

abbrev pub end_text : List ℕ
end_text = codes ":00000001FF" ++ 10 ∷ []

pub no_blocks : (image : List ℕ) → first_text ≡ first_text ++ blocks_text image 0
unfolding blocks_text
no_blocks image = refl

pub whole : (image : List ℕ) → (first_text ++ blocks_text image 1024) ++ end_text ≡ hex_text image
unfolding hex_text
whole image = sym (append_assoc (first_text ++ blocks_text image 1024) (codes ":00000001FF") (10 ∷ []))
