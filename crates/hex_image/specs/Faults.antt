-- The line of a HEX file at which a check fails, and what is printed of it. The texts are the project's own.
use Rattle.std.specs.Prelude.{ℕ, ◌/◌, ◌%◌, List, [], ◌∷◌, ◌++◌, codes}
use Rattle.text_lines.specs.Text.{hex_pairs}
use Rattle.hex_image.specs.declared.read.HexError.{HexError}
use Rattle.hex_image.specs.declared.read.HexError.TheVariants.{NoMemory, BadRecord, Checksum, UnknownType, Outside, Twice, NoEnd}

-- lines are counted from 1; a file without an end has line 0
abbrev pub fault_line : HexError → ℕ
fault_line NoMemory = 0
fault_line (BadRecord line) = line
fault_line (Checksum line found wanted) = line
fault_line (UnknownType line kind) = line
fault_line (Outside line address) = line
fault_line (Twice line address) = line
fault_line NoEnd = 0

-- two upper case digits for each byte
abbrev pub checksum_text : ℕ → ℕ → List ℕ
checksum_text found wanted = codes "checksum " ++ hex_pairs (found ∷ []) ++ codes ", wanted " ++ hex_pairs (wanted ∷ [])

-- eight upper case digits behind a word
abbrev pub address_text : List ℕ → ℕ → List ℕ
address_text word n = word ++ hex_pairs ((n / 16777216) ∷ (n / 65536 % 256) ∷ (n / 256 % 256) ∷ (n % 256) ∷ [])

abbrev pub fault_text : HexError → List ℕ
fault_text NoMemory = []
fault_text (BadRecord line) = codes "bad record"
fault_text (Checksum line found wanted) = checksum_text found wanted
fault_text (UnknownType line kind) = codes "type " ++ hex_pairs (kind ∷ [])
fault_text (Outside line address) = address_text (codes "outside ") address
fault_text (Twice line address) = address_text (codes "twice ") address
fault_text NoEnd = codes "no end"
