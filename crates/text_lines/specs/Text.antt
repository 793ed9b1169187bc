-- What the text files of the toolchain are made of: lines, and bytes as pairs of hexadecimal
-- digits.
use Rattle.std.specs.Prelude.{ℕ, ◌+◌, ◌-◌, ◌*◌, ◌/◌, ◌%◌, ◌&&◌, nat_eq, nat_le, Option, Some, None, List, [], ◌∷◌, map, if◌then◌else◌, slice_index, codes}

-- a character in front of the first line
abbrev pub onto_first : ℕ → List (List ℕ) → List (List ℕ)
onto_first c [] = (c ∷ []) ∷ []
onto_first c (line ∷ lines) = (c ∷ line) ∷ lines

-- each line ends at LF; what stands behind the last LF is a line too
unfoldable pub split_lines : List ℕ → List (List ℕ)
split_lines [] = []
split_lines (c ∷ text) = if nat_eq c 10 then [] ∷ split_lines text else onto_first c (split_lines text)

-- a line without the CR at its end
unfoldable pub without_cr : List ℕ → List ℕ
without_cr [] = []
without_cr (c ∷ []) = if nat_eq c 13 then [] else c ∷ []
without_cr (c ∷ d ∷ rest) = c ∷ without_cr (d ∷ rest)

-- the lines of a text: each ends at LF or at the end of the text, and a CR before that end is no
-- part of it
abbrev pub lines_of : List ℕ → List (List ℕ)
lines_of text = map without_cr (split_lines text)

-- the upper case digit of a number below 16
abbrev pub hex_digit : ℕ → ℕ
hex_digit n = slice_index (codes "0123456789ABCDEF") n

-- bytes, each as two upper case digits
unfoldable pub hex_pairs : List ℕ → List ℕ
hex_pairs [] = []
hex_pairs (b ∷ bytes) = hex_digit (b / 16) ∷ hex_digit (b % 16) ∷ hex_pairs bytes

-- the number of a digit of either case: 0 to 9, A to F, a to f
abbrev pub digit_value : ℕ → Option ℕ
digit_value c =
    if nat_le 48 c && nat_le c 57 then Some (c - 48) else
    if nat_le 65 c && nat_le c 70 then Some (c - 55) else
    if nat_le 97 c && nat_le c 102 then Some (c - 87) else None

abbrev pub pair_onto : Option ℕ → Option ℕ → Option (List ℕ) → Option (List ℕ)
pair_onto (Some high) (Some low) (Some bytes) = Some ((16 * high + low) ∷ bytes)
pair_onto _ _ _ = None

-- the bytes that pairs of digits spell, where nothing but pairs of digits stands
unfoldable pub bytes_of : List ℕ → Option (List ℕ)
bytes_of [] = Some []
bytes_of (c ∷ []) = None
bytes_of (c ∷ d ∷ text) = pair_onto (digit_value c) (digit_value d) (bytes_of text)
