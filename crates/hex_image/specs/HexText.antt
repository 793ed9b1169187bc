-- The one text that is written for an image.
use Rattle.std.specs.Prelude.{ℕ, zero, suc, ◌+◌, ◌-◌, ◌*◌, ◌/◌, ◌%◌, nat_eq, Bool, List, [], ◌∷◌, ◌++◌, if◌then◌else◌, slice_index, codes}
use Rattle.std.specs.List.{sum, list_all}
use Rattle.text_lines.specs.Text.{hex_pairs}

-- the byte that makes a record's sum 0 modulo 256
abbrev pub checksum : List ℕ → ℕ
checksum bytes = (256 - sum bytes % 256) % 256

-- a line with a record's bytes and their checksum
abbrev pub record_line : List ℕ → List ℕ
record_line bytes = 58 ∷ hex_pairs (bytes ++ checksum bytes ∷ []) ++ 10 ∷ []

-- words as bytes, the low one first
unfoldable pub word_bytes : List ℕ → List ℕ
word_bytes [] = []
word_bytes (w ∷ words) = (w % 256) ∷ (w / 256) ∷ word_bytes words

-- the eight words of a block
abbrev pub block : List ℕ → ℕ → List ℕ
block image k =
    slice_index image (8 * k) ∷ slice_index image (8 * k + 1) ∷ slice_index image (8 * k + 2) ∷ slice_index image (8 * k + 3) ∷
    slice_index image (8 * k + 4) ∷ slice_index image (8 * k + 5) ∷ slice_index image (8 * k + 6) ∷ slice_index image (8 * k + 7) ∷ []

-- a data record of 16 bytes, at the address of the block's first byte
abbrev pub block_bytes : List ℕ → ℕ → List ℕ
block_bytes words k = 16 ∷ (16 * k / 256) ∷ (16 * k % 256) ∷ 0 ∷ word_bytes words

-- every word is as it was erased
abbrev pub is_erased : List ℕ → Bool
is_erased words = list_all (λ w. nat_eq w 0x3fff) words

-- nothing for an erased block, else one record
unfoldable pub block_text : List ℕ → ℕ → List ℕ
block_text words k = if is_erased words then [] else record_line (block_bytes words k)

-- the blocks below a number, in order
unfoldable pub blocks_text : List ℕ → ℕ → List ℕ
blocks_text image zero = []
blocks_text image (suc k) = blocks_text image k ++ block_text (block image k) k

-- The upper 16 bits of address are 0; then each block that isn't erased; then the end.
unfoldable pub hex_text : List ℕ → List ℕ
hex_text image = codes ":020000040000FA" ++ 10 ∷ [] ++ blocks_text image 1024 ++ codes ":00000001FF" ++ 10 ∷ []
