-- The front of a text: where its first line ends, and what stands behind a word.
use Rattle.std.specs.Prelude.{ℕ, ◌+◌, nat_eq, Option, Some, None, List, [], ◌∷◌, length, take, drop, if◌then◌else◌}
use Rattle.std.specs.Cmp.Lexicographic.{pointwise}

-- how many bytes stand before the first LF
unfoldable pub line_length : List ℕ → ℕ
line_length [] = 0
line_length (c ∷ text) = if nat_eq c 10 then 0 else line_length text + 1

-- what stands behind a word
unfoldable pub after : List ℕ → List ℕ → Option (List ℕ)
after word line = if pointwise nat_eq (take (length word) line) word then Some (drop (length word) line) else None
